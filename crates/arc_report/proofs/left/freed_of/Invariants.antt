use Rattle.std.proofs.Common.{◌≡◌}
use Rattle.arc_report.specs.Words.{is_freed, numbers_where}
use Rattle.arc_report.proofs.left.freed_of.Given as goal

abbrev pub invariant-loop-entry : goal.invariant-loop-entry
invariant-loop-entry l = l.freed.items ≡ numbers_where (is_freed l.layout l.words) l.entry
