use Rattle.arc_hand_counts.proofs.Threads.{threads_add_up}
use Rattle.arc_hand_counts.proofs.threads_add_up.Goals as goal

pub returns : goal.returns
returns c = threads_add_up
