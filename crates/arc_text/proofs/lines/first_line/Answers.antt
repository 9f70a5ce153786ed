use Rattle.arc_text.proofs.FirstLine.{at_some, at_none}
use Rattle.arc_text.proofs.lines.first_line.Goals as goal

pub returns-in-Some-clause-line : goal.returns-in-Some-clause-line
returns-in-Some-clause-line c = at_some c.args.text.now c.in-Some.end c.requires c.in-Some.ensures

pub returns-in-None-clause-line : goal.returns-in-None-clause-line
returns-in-None-clause-line c = at_none c.args.text.now c.requires c.in-None.ensures
