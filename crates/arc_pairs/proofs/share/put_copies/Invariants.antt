use Rattle.std.proofs.Common.{◌≤◌}
use Rattle.arc_pairs.specs.Ready.{IsReady, IsOurs}
use Rattle.arc_pairs.proofs.share.put_copies.Given as goal

abbrev pub invariant-loop-global : goal.invariant-loop-global
invariant-loop-global g l = IsReady l.fn.heap l.pass × IsOurs l.fn.heap l.pass l.fn.held × (l.ends ≤ l.global)
