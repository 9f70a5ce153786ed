use Rattle.arc_programs.proofs.ProgramsTold.{operations_told}
use Rattle.arc_programs.proofs.operations_have_lines.Goals as goal

pub returns : goal.returns
returns c = operations_told
