use Rattle.arc_model.proofs.Ends.{ends_once}
use Rattle.arc_model.proofs.laws.strong_list_ends_once.Goals as goal

pub returns : goal.returns
returns c = ends_once
