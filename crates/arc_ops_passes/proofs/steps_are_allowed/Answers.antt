use Rattle.arc_ops_passes.proofs.Laws.{steps_are_allowed as law}
use Rattle.arc_ops_passes.proofs.steps_are_allowed.Goals as goal

pub returns : goal.returns
returns c = law
