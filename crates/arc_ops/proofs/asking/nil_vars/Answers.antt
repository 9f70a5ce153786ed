use Rattle.std.proofs.Common.{None}
use Rattle.std.proofs.lemmas.List.{replicate-append-replicate}
use Rattle.arc_ops.proofs.asking.nil_vars.Goals as goal

pub loop-preserved : goal.loop-preserved
loop-preserved c = rw (c.in_ok-push.ensures.items, c.loop.invariant) (replicate-append-replicate c.loop.counter 1 None)
