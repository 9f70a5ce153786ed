use Rattle.arc_deinits.proofs.Ends.{slot_ends_go_on}
use Rattle.arc_deinits.proofs.slot_ends_are_spelled.Goals as goal

pub returns : goal.returns
returns c = slot_ends_go_on
