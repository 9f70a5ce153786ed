use Rattle.arc_model.proofs.Courses.{well_formed}
use Rattle.arc_model.proofs.laws.well_formed_after.Goals as goal

pub returns : goal.returns
returns c = well_formed
