use Rattle.std.proofs.Common.{◌≡◌, map}
use Rattle.arc_report.specs.Words.{is_taken, numbers_where}
use Rattle.arc_report.specs.Leaks.{leak_at}
use Rattle.arc_report.proofs.leaks.taken_slots.Given as goal

abbrev pub invariant-loop-slot : goal.invariant-loop-slot
invariant-loop-slot l =
    l.leaks.items ≡ map (leak_at l.layout l.words) (numbers_where (is_taken l.layout l.words) l.slot)
