use Rattle.arc_programs_laws.proofs.LastDrops.{last_drops_empty}
use Rattle.arc_programs_laws.proofs.last_drops_empty.Goals as goal

pub returns : goal.returns
returns c = last_drops_empty
