use Rattle.arc_programs_laws.proofs.PhasesWorked.{phases_are_told}
use Rattle.arc_programs_laws.proofs.phases_are_told.Goals as goal

pub returns : goal.returns
returns c = phases_are_told
