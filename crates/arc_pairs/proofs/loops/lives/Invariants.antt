use Rattle.std.proofs.Common.{◌≤◌}
use Rattle.arc_pairs.specs.Ready.{IsReady}
use Rattle.arc_pairs.proofs.loops.lives.Given as goal

abbrev pub invariant-loop-i : goal.invariant-loop-i
invariant-loop-i g l = IsReady l.fn.heap l.pass × (l.ends ≤ l._i)
