use Rattle.arc_spelling.proofs.SpellHands.{hands_dropped}
use Rattle.arc_spelling.proofs.SpellLaws.{deinits_whole, claims_settled}
use Rattle.arc_spelling.proofs.laws.nothing_is_left.Goals as goal

pub returns-clause-deinits : goal.returns-clause-deinits
returns-clause-deinits c = deinits_whole

pub returns-clause-hands : goal.returns-clause-hands
returns-clause-hands c = hands_dropped

pub returns-clause-claims : goal.returns-clause-claims
returns-clause-claims c = claims_settled
