use Rattle.arc_replays.proofs.Plain.{plain_steps_keep as law}
use Rattle.arc_replays.proofs.plain_steps_keep.Goals as goal

pub returns : goal.returns
returns c = law
