use Rattle.arc_model.proofs.Ends.{loads_before_end}
use Rattle.arc_model.proofs.laws.loads_before_end.Goals as goal

pub returns : goal.returns
returns c = loads_before_end
