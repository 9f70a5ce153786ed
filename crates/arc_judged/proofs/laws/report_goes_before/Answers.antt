use Rattle.arc_judged.proofs.Reports.{replay_before}
use Rattle.arc_judged.proofs.laws.report_goes_before.Goals as goal

pub returns : goal.returns
returns c = replay_before
