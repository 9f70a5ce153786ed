use Rattle.arc_ops_passes.proofs.Phases.{new_steppers_drive as law}
use Rattle.arc_ops_passes.proofs.steppers_begin.Goals as goal

pub returns : goal.returns
returns c = law
