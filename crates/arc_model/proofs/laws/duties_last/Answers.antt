use Rattle.arc_model.proofs.Others.{duties_last}
use Rattle.arc_model.proofs.laws.duties_last.Goals as goal

pub returns : goal.returns
returns c = duties_last
