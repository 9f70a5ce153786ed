use Rattle.arc_read_back.proofs.Texts.{read_alone, read_behind}
use Rattle.arc_read_back.proofs.laws.history_text_is_read.Goals as goal

pub returns : goal.returns
returns c = record { alone = read_alone; behind = read_behind }
