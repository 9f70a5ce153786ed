-- The history text.
use Rattle.std.specs.Prelude.{ℕ, List, ◌++◌, length, codes}
use Rattle.std.specs.List.{flat_map}
use Rattle.std.specs.Fmt.{decimal}
use Rattle.arc_script.specs.declared.script.Script.{Script}
use Rattle.arc_script.specs.Valid.{class_names, var_names}
use Rattle.arc_script.specs.Canonical.{heading_text}
use Rattle.arc_ops.specs.declared.told.Stamped.{Stamped}
use Rattle.arc_report.specs.Events.{event_text}

-- what follows the heading: the number of threads and the events, in order
abbrev pub later_text : Script → List Stamped → List ℕ
later_text script events =
    codes "threads " ++ (decimal (length script.threads) ++ (codes "\nevents\n"
    ++ (flat_map (event_text (class_names script.classes) (var_names script.globals)) events
    ++ codes "done\n")))

-- The first line takes the script's version; the heading is that of the script's canonical text.
abbrev pub history : Script → List Stamped → List ℕ
history script events =
    codes "history " ++ (decimal script.version ++ (codes "\n" ++ (heading_text script.shape script.classes script.globals ++ later_text script events)))
