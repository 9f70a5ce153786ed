use Rattle.std.proofs.Common.{◌≡◌, take}
use Rattle.arc_report.specs.Lines.{object_total}
use Rattle.arc_report.proofs.totals.object_total.Given as goal

abbrev pub invariant-loop-thread : goal.invariant-loop-thread
invariant-loop-thread l = l.total ≡ object_total (take l.thread-index l.threads)
