-- The whole report.
use Rattle.std.specs.Prelude.{ℕ, ◌+◌, List, ◌++◌, length, codes}
use Rattle.std.specs.List.{flat_map}
use Rattle.std.specs.Fmt.{decimal}
use Rattle.arc_rule.specs.Extents.{Extent}
use Rattle.arc_rule.specs.Places.{extent_of}
use Rattle.arc_script.specs.declared.answer.Line.{Line}
use Rattle.arc_script.specs.declared.script.ClassDecl.{ClassDecl}
use Rattle.arc_script.specs.declared.script.Script.{Script}
use Rattle.arc_script.specs.Valid.{class_names}
use Rattle.arc_ops.specs.declared.told.ThreadLines.{ThreadLines}
use Rattle.arc_report.specs.Lines.{thread_text, end_text, object_total, deinit_total}
use Rattle.arc_report.specs.Leaks.{leaks_of, leak_text, leak_count, freed_of, freed_text}

-- objects made, deinit lines, and lines of leaks and freed entries
abbrev pub totals_text : ℕ → ℕ → ℕ → List ℕ
totals_text objects deinits leaks =
    codes "objects " ++ (decimal objects ++ (codes " deinits " ++ (decimal deinits ++ (codes " leaks " ++ (decimal leaks ++ codes "\n")))))

abbrev pub left_text : List ClassDecl → Extent → List ℕ → List ℕ
left_text classes l words = flat_map (leak_text classes l words) (leaks_of l words) ++ flat_map (freed_text l words) (freed_of l words)

abbrev pub left_total : List ClassDecl → Extent → List ℕ → ℕ
left_total classes l words = leak_count classes (leaks_of l words) + length (freed_of l words)

-- the report of a run of the script: the lines of its threads, those of the end section, and what the final words show
abbrev pub report : Script → List ThreadLines → List Line → List ℕ → List ℕ
report script threads end words =
    codes "report 1\n" ++ (flat_map (thread_text (class_names script.classes)) threads
    ++ (end_text (class_names script.classes) end
    ++ (left_text script.classes (extent_of script.shape) words
    ++ totals_text (object_total threads) (deinit_total threads end) (left_total script.classes (extent_of script.shape) words))))
