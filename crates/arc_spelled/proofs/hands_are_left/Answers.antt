use Rattle.arc_spelled.proofs.HandsLeft.{few_are_taken, hands_are_left}
use Rattle.arc_spelled.proofs.hands_are_left.Goals as goal

pub returns-clause-few : goal.returns-clause-few
returns-clause-few c = few_are_taken

pub returns-clause-left : goal.returns-clause-left
returns-clause-left c = hands_are_left
