use Rattle.arc_quiet.proofs.Leaving.{leaves_nothing}
use Rattle.arc_quiet.proofs.leaves_nothing.Goals as goal

pub returns : goal.returns
returns c = leaves_nothing
