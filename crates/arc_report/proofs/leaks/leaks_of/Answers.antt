use Rattle.arc_report.proofs.AllThere.{found_leaks_there}
use Rattle.arc_report.proofs.leaks.leaks_of.Goals as goal

pub returns-clause-each : goal.returns-clause-each
returns-clause-each c = found_leaks_there _ _ _ _ c.in_ok-leaks.ensures c.sort_leaks.ensures
