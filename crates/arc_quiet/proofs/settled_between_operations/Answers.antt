use Rattle.arc_quiet.proofs.Finished.{settled_between_operations}
use Rattle.arc_quiet.proofs.settled_between_operations.Goals as goal

pub returns : goal.returns
returns c = settled_between_operations
