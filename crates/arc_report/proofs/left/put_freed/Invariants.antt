use Rattle.std.proofs.Common.{◌≡◌, ◌++◌, take}
use Rattle.std.specs.String.{string_bytes}
use Rattle.std.specs.List.{flat_map}
use Rattle.arc_report.specs.Leaks.{freed_text}
use Rattle.arc_report.proofs.left.put_freed.Given as goal

abbrev pub invariant-loop-entry : goal.invariant-loop-entry
invariant-loop-entry l =
    string_bytes l.out ≡ string_bytes l.fn.out ++ flat_map (freed_text l.layout l.words) (take l.entry-index l.freed)
