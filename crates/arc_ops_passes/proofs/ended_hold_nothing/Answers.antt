use Rattle.arc_ops_passes.proofs.Phases.{ended_steppers_hold_nothing as law}
use Rattle.arc_ops_passes.proofs.ended_hold_nothing.Goals as goal

pub returns : goal.returns
returns c = law
