use Rattle.arc_spelled.proofs.SteppersSpell.{ready_steppers_have_done}
use Rattle.arc_spelled.proofs.ready_has_done.Goals as goal

pub returns : goal.returns
returns c = ready_steppers_have_done
