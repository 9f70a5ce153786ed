use Rattle.arc_deinits.proofs.Cascades.{cascades_begin, cascade_goes_on}
use Rattle.arc_deinits.proofs.cascades_are_spelled.Goals as goal

pub returns-clause-begins : goal.returns-clause-begins
returns-clause-begins c = cascades_begin

pub returns-clause-goes_on : goal.returns-clause-goes_on
returns-clause-goes_on c = cascade_goes_on
