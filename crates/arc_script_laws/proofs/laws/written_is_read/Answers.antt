use Rattle.arc_script_laws.proofs.WrittenRead.{written_back}
use Rattle.arc_script_laws.proofs.laws.written_is_read.Goals as goal

pub returns : goal.returns
returns c = written_back
