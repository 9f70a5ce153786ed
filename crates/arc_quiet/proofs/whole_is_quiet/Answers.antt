use Rattle.arc_quiet.proofs.Leaving.{whole_is_quiet}
use Rattle.arc_quiet.proofs.whole_is_quiet.Goals as goal

pub returns : goal.returns
returns c = whole_is_quiet
