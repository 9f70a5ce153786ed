use Rattle.arc_ops_passes.proofs.Laws.{steppers_drive_on as law}
use Rattle.arc_ops_passes.proofs.steppers_drive_on.Goals as goal

pub returns : goal.returns
returns c = law
