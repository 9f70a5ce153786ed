use Rattle.arc_quiet.proofs.Fulfilled.{can_be_met}
use Rattle.arc_quiet.proofs.Needed.{each_is_needed}
use Rattle.arc_quiet.proofs.each_premise_is_needed.Goals as goal

pub returns-clause-needed : goal.returns-clause-needed
returns-clause-needed c = each_is_needed

pub returns-clause-met : goal.returns-clause-met
returns-clause-met c = can_be_met
