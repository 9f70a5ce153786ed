use Rattle.arc_spelled.proofs.MoreKnown.{more_is_known}
use Rattle.arc_spelled.proofs.SteppersSpell.{steppers_begin, steppers_go_on}
use Rattle.arc_spelled.proofs.stepper_stands_for.Goals as goal

pub returns-clause-begins : goal.returns-clause-begins
returns-clause-begins c = steppers_begin

pub returns-clause-more_is_known : goal.returns-clause-more_is_known
returns-clause-more_is_known c = more_is_known

pub returns-clause-goes_on : goal.returns-clause-goes_on
returns-clause-goes_on c = steppers_go_on
