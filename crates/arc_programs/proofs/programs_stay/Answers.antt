use Rattle.arc_programs.proofs.ProgramsPoints.{programs_stay, without_causes}
use Rattle.arc_programs.proofs.programs_stay.Goals as goal

pub returns-clause-others : goal.returns-clause-others
returns-clause-others c = programs_stay

pub returns-clause-causes : goal.returns-clause-causes
returns-clause-causes c = without_causes
