use Rattle.arc_check.proofs.HistoryBack.{history_back}
use Rattle.arc_check.proofs.laws.written_history_is_read.Goals as goal

pub returns : goal.returns
returns c = λ version shape classes globals threads events least latest of h most few fit. history_back version least latest shape classes globals of h most threads few events fit
