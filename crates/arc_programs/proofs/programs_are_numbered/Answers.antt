use Rattle.arc_programs.proofs.ProgramsTold.{programs_numbered, end_sections_told}
use Rattle.arc_programs.proofs.programs_are_numbered.Goals as goal

pub returns-clause-programs : goal.returns-clause-programs
returns-clause-programs c = programs_numbered

pub returns-clause-end_section : goal.returns-clause-end_section
returns-clause-end_section c = end_sections_told
