use Rattle.arc_quiet.proofs.Chains.{quiet_is_dead}
use Rattle.arc_quiet.proofs.quiet_is_dead.Goals as goal

pub returns : goal.returns
returns c = quiet_is_dead
