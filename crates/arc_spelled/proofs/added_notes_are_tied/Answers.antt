use Rattle.arc_spelled.proofs.SteppersSpell.{added_notes_are_tied as tied}
use Rattle.arc_spelled.proofs.added_notes_are_tied.Goals as goal

pub returns : goal.returns
returns c = tied
