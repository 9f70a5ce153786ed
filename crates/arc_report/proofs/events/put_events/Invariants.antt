use Rattle.std.proofs.Common.{◌≡◌, ◌++◌, take}
use Rattle.std.specs.String.{string_bytes}
use Rattle.std.specs.List.{flat_map}
use Rattle.arc_script.specs.Valid.{class_names, var_names}
use Rattle.arc_report.specs.Events.{event_text}
use Rattle.arc_report.proofs.events.put_events.Given as goal

abbrev pub invariant-loop-stamped : goal.invariant-loop-stamped
invariant-loop-stamped l =
    string_bytes l.out ≡ string_bytes l.fn.out ++ flat_map (event_text (class_names l.classes) (var_names l.globals)) (take l.stamped-index l.events)
