use Rattle.arc_spelled.proofs.HandsLeft.{notes_count_cells}
use Rattle.arc_spelled.proofs.notes_count_cells.Goals as goal

pub returns : goal.returns
returns c = notes_count_cells
