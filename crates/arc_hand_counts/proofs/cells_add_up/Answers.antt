use Rattle.arc_hand_counts.proofs.Events.{cells_add_up}
use Rattle.arc_hand_counts.proofs.cells_add_up.Goals as goal

pub returns : goal.returns
returns c = cells_add_up
