use Rattle.std.proofs.Common.{◌≡◌, ◌++◌, take}
use Rattle.std.specs.String.{string_bytes}
use Rattle.std.specs.List.{flat_map}
use Rattle.arc_report.specs.Leaks.{leak_text}
use Rattle.arc_report.proofs.left.put_leaks.Given as goal

abbrev pub invariant-loop-leak : goal.invariant-loop-leak
invariant-loop-leak l =
    string_bytes l.out ≡ string_bytes l.fn.out ++ flat_map (leak_text l.classes l.layout l.words) (take l.leak-index l.leaks)
