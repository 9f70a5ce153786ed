use Rattle.arc_programs.proofs.ProgramsPoints.{names_objects}
use Rattle.arc_programs.proofs.names_are_objects.Goals as goal

pub returns : goal.returns
returns c = names_objects
