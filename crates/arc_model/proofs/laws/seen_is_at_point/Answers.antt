use Rattle.arc_model.proofs.Since.{seen_is_at_point}
use Rattle.arc_model.proofs.laws.seen_is_at_point.Goals as goal

pub returns : goal.returns
returns c = seen_is_at_point
