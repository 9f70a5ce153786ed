use Rattle.arc_programs_laws.proofs.ClassesNamed.{events_name_classes, lines_name_classes}
use Rattle.arc_programs_laws.proofs.lines_name_classes.Goals as goal

pub returns-clause-events : goal.returns-clause-events
returns-clause-events c = events_name_classes

pub returns-clause-lines : goal.returns-clause-lines
returns-clause-lines c = lines_name_classes
