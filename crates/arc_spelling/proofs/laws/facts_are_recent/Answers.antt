use Rattle.arc_spelling.proofs.SpellTies.{facts_recent, ties_others, causes_recent, causes_left_aside}
use Rattle.arc_spelling.proofs.laws.facts_are_recent.Goals as goal

pub returns-clause-facts : goal.returns-clause-facts
returns-clause-facts c = facts_recent

pub returns-clause-others : goal.returns-clause-others
returns-clause-others c = ties_others

pub returns-clause-causes : goal.returns-clause-causes
returns-clause-causes c = causes_recent

pub returns-clause-left_aside : goal.returns-clause-left_aside
returns-clause-left_aside c = causes_left_aside
