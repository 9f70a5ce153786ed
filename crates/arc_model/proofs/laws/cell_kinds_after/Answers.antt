use Rattle.arc_model.proofs.CellKinds.{cell_kinds_after}
use Rattle.arc_model.proofs.laws.cell_kinds_after.Goals as goal

pub returns : goal.returns
returns c = cell_kinds_after
