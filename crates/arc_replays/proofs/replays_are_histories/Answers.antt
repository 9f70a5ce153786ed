use Rattle.arc_replays.proofs.Whole.{replays_are_histories as law}
use Rattle.arc_replays.proofs.replays_are_histories.Goals as goal

pub returns : goal.returns
returns c = law
