use Rattle.arc_hand_counts.proofs.Threads.{hands_fit}
use Rattle.arc_hand_counts.proofs.hands_fit.Goals as goal

pub returns : goal.returns
returns c = hands_fit
