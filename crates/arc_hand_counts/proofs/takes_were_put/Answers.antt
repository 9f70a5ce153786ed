use Rattle.arc_hand_counts.proofs.Events.{takes_were_put}
use Rattle.arc_hand_counts.proofs.Threads.{own_takes_were_put}
use Rattle.arc_hand_counts.proofs.takes_were_put.Goals as goal

pub returns-clause-all : goal.returns-clause-all
returns-clause-all c = takes_were_put

pub returns-clause-own : goal.returns-clause-own
returns-clause-own c = own_takes_were_put
