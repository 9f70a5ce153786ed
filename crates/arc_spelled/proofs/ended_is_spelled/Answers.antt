use Rattle.arc_spelled.proofs.SteppersSpell.{ended_steppers_spell}
use Rattle.arc_spelled.proofs.ended_is_spelled.Goals as goal

pub returns : goal.returns
returns c = ended_steppers_spell
