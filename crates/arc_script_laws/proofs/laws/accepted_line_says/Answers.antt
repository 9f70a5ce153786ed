use Rattle.arc_script.proofs.SaysLines.{line_says}
use Rattle.arc_script_laws.proofs.laws.accepted_line_says.Goals as goal

pub returns : goal.returns
returns c = line_says
