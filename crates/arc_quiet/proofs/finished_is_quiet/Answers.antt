use Rattle.arc_quiet.proofs.Finished.{finished_is_quiet}
use Rattle.arc_quiet.proofs.finished_is_quiet.Goals as goal

pub returns : goal.returns
returns c = finished_is_quiet
