use Rattle.arc_ops_passes.proofs.Meeting.{steppers_meet, notes_are_taken_in, hands_are_taken_in}
use Rattle.arc_ops_passes.proofs.passes_meet.Goals as goal

pub returns-clause-meet : goal.returns-clause-meet
returns-clause-meet c = steppers_meet

pub returns-clause-taken : goal.returns-clause-taken
returns-clause-taken c = notes_are_taken_in

pub returns-clause-hands : goal.returns-clause-hands
returns-clause-hands c = hands_are_taken_in
