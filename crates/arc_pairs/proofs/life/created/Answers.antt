use Rattle.arc_pairs.proofs.Readied.{has_class}
use Rattle.arc_pairs.proofs.life.created.Goals as goal

pub created_of-requires-clause-class : goal.created_of-requires-clause-class
created_of-requires-clause-class g c = has_class c.args.heap.now c.requires.plain
