use Rattle.arc_model.proofs.GivenBack.{given_back}
use Rattle.arc_model.proofs.laws.entry_given_back_between.Goals as goal

pub returns : goal.returns
returns c = given_back
