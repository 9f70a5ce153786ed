use Rattle.arc_programs.proofs.ProgramsKept.{scopes_empty, each_global}
use Rattle.arc_programs.proofs.nothing_is_held.Goals as goal

pub returns-clause-variables : goal.returns-clause-variables
returns-clause-variables c = scopes_empty

pub returns-clause-globals : goal.returns-clause-globals
returns-clause-globals c = each_global
