use Rattle.arc_spelled.proofs.Puts.{puts_are_few}
use Rattle.arc_spelled.proofs.puts_are_few.Goals as goal

pub returns : goal.returns
returns c = puts_are_few
