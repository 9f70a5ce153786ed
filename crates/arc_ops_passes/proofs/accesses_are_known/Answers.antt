use Rattle.arc_ops_passes.proofs.Accesses.{outside_is_no_access as law}
use Rattle.arc_ops_passes.proofs.accesses_are_known.Goals as goal

pub returns : goal.returns
returns c = law
