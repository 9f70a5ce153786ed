use Rattle.arc_programs_laws.proofs.Totals.{claims_end}
use Rattle.arc_programs_laws.proofs.claims_end.Goals as goal

pub returns : goal.returns
returns c = claims_end
