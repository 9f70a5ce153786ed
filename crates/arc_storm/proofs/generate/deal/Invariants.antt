use Rattle.std.proofs.Common.{◌≡◌, take}
use Rattle.arc_storm.specs.Storm.{dealt}
use Rattle.arc_storm.proofs.generate.deal.Given as goal

abbrev pub invariant-loop-i : goal.invariant-loop-i
invariant-loop-i l = l.dealt ≡ dealt (take l.i l.operations) l.thread
