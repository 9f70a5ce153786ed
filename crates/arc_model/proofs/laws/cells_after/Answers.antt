use Rattle.arc_model.proofs.CellSpots.{cells_after}
use Rattle.arc_model.proofs.laws.cells_after.Goals as goal

pub returns : goal.returns
returns c = cells_after
