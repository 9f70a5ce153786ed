use Rattle.arc_quiet.proofs.Leaving.{cells_keep_classes}
use Rattle.arc_quiet.proofs.cells_keep_classes.Goals as goal

pub returns : goal.returns
returns c = cells_keep_classes
