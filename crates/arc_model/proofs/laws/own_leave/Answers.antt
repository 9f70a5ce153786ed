use Rattle.arc_model.proofs.Duties.{own_duties, own_claims}
use Rattle.arc_model.proofs.Others.{own_leave}
use Rattle.arc_model.proofs.Own.{own_gains, own_ends}
use Rattle.arc_model.proofs.laws.own_leave.Goals as goal

pub returns-clause-hands : goal.returns-clause-hands
returns-clause-hands c = own_leave

pub returns-clause-gains : goal.returns-clause-gains
returns-clause-gains c = own_gains

pub returns-clause-ends : goal.returns-clause-ends
returns-clause-ends c = own_ends

pub returns-clause-duties : goal.returns-clause-duties
returns-clause-duties c = own_duties

pub returns-clause-claims : goal.returns-clause-claims
returns-clause-claims c = own_claims
