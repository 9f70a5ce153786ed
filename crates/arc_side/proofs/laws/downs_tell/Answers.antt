use Rattle.arc_side.proofs.Lasts.{downs_tell}
use Rattle.arc_side.proofs.laws.downs_tell.Goals as goal

pub returns : goal.returns
returns c = downs_tell
