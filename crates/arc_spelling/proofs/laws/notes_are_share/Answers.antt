use Rattle.arc_spelling.proofs.SpellTies.{share_is, hands_are}
use Rattle.arc_spelling.proofs.laws.notes_are_share.Goals as goal

pub returns-clause-share : goal.returns-clause-share
returns-clause-share c = share_is

pub returns-clause-hands : goal.returns-clause-hands
returns-clause-hands c = hands_are
