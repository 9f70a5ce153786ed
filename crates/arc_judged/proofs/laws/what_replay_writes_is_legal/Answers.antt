use Rattle.arc_judged.proofs.Legal.{legal_alone, legal_behind}
use Rattle.arc_judged.proofs.laws.what_replay_writes_is_legal.Goals as goal

pub returns : goal.returns
returns c = record { alone = legal_alone; behind = legal_behind }
