use Rattle.arc_quiet.proofs.Chains.{live_is_held}
use Rattle.arc_quiet.proofs.live_is_held.Goals as goal

pub returns : goal.returns
returns c = live_is_held
