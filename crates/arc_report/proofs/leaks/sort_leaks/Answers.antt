use Rattle.arc_report.proofs.LeakOrder.{leaks_in_order}
use Rattle.arc_report.proofs.leaks.sort_leaks.Goals as goal

pub returns : goal.returns
returns c = leaks_in_order _ _ c.sort_unstable.ensures.permutation c.sort_unstable.ensures.sorted
