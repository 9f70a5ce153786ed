use Rattle.arc_deinits.proofs.Drops.{drops_go_on}
use Rattle.arc_deinits.proofs.drops_are_spelled.Goals as goal

pub returns : goal.returns
returns c = drops_go_on
