use Rattle.std.proofs.Common.{◌≡◌}
use Rattle.arc_replays.specs.Stages.{new_threads}
use Rattle.arc_plain.proofs.crew.new_steppers.Given as goal

abbrev pub invariant-loop-thread : goal.invariant-loop-thread
invariant-loop-thread l = l.steppers.items ≡ new_threads l.script l.thread 0
