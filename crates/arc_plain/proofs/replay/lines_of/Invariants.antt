use Rattle.std.proofs.Common.{◌≡◌, drop, take}
use Rattle.arc_replays.specs.Histories.{lines_from}
use Rattle.arc_plain.proofs.replay.lines_of.Given as goal

abbrev pub invariant-loop-thread : goal.invariant-loop-thread
invariant-loop-thread l = l.threads.items ≡ lines_from 1 (drop 1 (take l.thread l.steppers))
