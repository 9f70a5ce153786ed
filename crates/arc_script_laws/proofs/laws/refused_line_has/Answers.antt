use Rattle.std.proofs.Common.{arith}
use Rattle.arc_script_laws.proofs.FormsRefused.{line_has}
use Rattle.arc_script_laws.proofs.laws.refused_line_has.Goals as goal

pub returns : goal.returns
returns c front line first words lines reason few e = line_has front line first words lines reason (omega arith) e
