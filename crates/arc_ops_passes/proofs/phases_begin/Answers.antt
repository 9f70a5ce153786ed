use Rattle.arc_ops_passes.proofs.Phases.{phases_are_done, scripts_name_variables, phases_begin}
use Rattle.arc_ops_passes.proofs.phases_begin.Goals as goal

pub returns-clause-done : goal.returns-clause-done
returns-clause-done c = phases_are_done

pub returns-clause-variables : goal.returns-clause-variables
returns-clause-variables c = scripts_name_variables

pub returns-clause-begin : goal.returns-clause-begin
returns-clause-begin c = phases_begin
