use Rattle.arc_model.proofs.Slots.{vacated_between}
use Rattle.arc_model.proofs.laws.slot_vacated_between.Goals as goal

pub returns : goal.returns
returns c = vacated_between
