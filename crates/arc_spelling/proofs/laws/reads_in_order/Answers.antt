use Rattle.arc_spelling.proofs.SpellGains.{reads_in_order}
use Rattle.arc_spelling.proofs.laws.reads_in_order.Goals as goal

pub returns : goal.returns
returns c = reads_in_order
