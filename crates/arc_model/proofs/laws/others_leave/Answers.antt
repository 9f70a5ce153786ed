use Rattle.arc_model.proofs.Since.{next_hand_stays}
use Rattle.arc_model.proofs.Fields.{others_leave_fields}
use Rattle.arc_model.proofs.GivenBack.{stays_quiet}
use Rattle.arc_model.proofs.Others.{others_leave}
use Rattle.arc_model.proofs.Sole.{sole_holder_stays, unshared_stays}
use Rattle.arc_model.proofs.laws.others_leave.Goals as goal

pub returns-clause-kept : goal.returns-clause-kept
returns-clause-kept c = others_leave

pub returns-clause-quiet : goal.returns-clause-quiet
returns-clause-quiet c = stays_quiet

pub returns-clause-fields : goal.returns-clause-fields
returns-clause-fields c = others_leave_fields

pub returns-clause-sole : goal.returns-clause-sole
returns-clause-sole c = sole_holder_stays

pub returns-clause-unshared : goal.returns-clause-unshared
returns-clause-unshared c = unshared_stays

pub returns-clause-number : goal.returns-clause-number
returns-clause-number c = next_hand_stays
