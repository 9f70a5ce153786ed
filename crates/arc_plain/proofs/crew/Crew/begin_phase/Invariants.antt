use Rattle.std.specs.Prelude.{All}
use Rattle.arc_ops.specs.Steppers.{IsStepper}
use Rattle.arc_plain.proofs.Order.{Beginning}
use Rattle.arc_plain.proofs.crew.Crew.begin_phase.Given as goal

abbrev pub invariant-loop-thread : goal.invariant-loop-thread
invariant-loop-thread l = record { begun : Beginning l.thread l.fn.self l.self; steppers : All IsStepper l.self.stage.threads }
