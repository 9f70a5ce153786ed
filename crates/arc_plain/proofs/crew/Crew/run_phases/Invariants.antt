use Rattle.std.proofs.Common.{◌-◌}
use Rattle.arc_plain.proofs.Order.{Between}
use Rattle.arc_plain.proofs.crew.Crew.run_phases.Given as goal

abbrev pub invariant-loop-self : goal.invariant-loop-self
invariant-loop-self l = Between l.fn.self l.self

abbrev pub decreases-loop-self : goal.decreases-loop-self
decreases-loop-self l = 64 - l.self.stage.begun
