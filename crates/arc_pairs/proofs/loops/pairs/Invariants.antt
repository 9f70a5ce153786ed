use Rattle.std.proofs.Common.{◌≤◌}
use Rattle.arc_pairs.specs.Ready.{IsReady, IsOurs}
use Rattle.arc_pairs.proofs.loops.pairs.Given as goal

abbrev pub invariant-loop-i : goal.invariant-loop-i
invariant-loop-i g l = IsReady l.fn.heap l.pass × IsOurs l.fn.heap l.pass l.fn.held × (l.ends ≤ l._i)
