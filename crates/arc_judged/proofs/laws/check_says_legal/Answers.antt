use Rattle.arc_judged.proofs.Legal.{check_says_legal}
use Rattle.arc_judged.proofs.laws.check_says_legal.Goals as goal

pub returns : goal.returns
returns c = check_says_legal
