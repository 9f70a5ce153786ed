use Rattle.arc_model.proofs.Immortals.{immortals_live_on}
use Rattle.arc_model.proofs.laws.immortals_live_on.Goals as goal

pub returns : goal.returns
returns c = immortals_live_on
