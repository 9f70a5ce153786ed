use Rattle.std.proofs.Common.{◌≡◌, replicate, None}
use Rattle.arc_ops.proofs.asking.nil_vars.Given as goal

abbrev pub invariant-loop : goal.invariant-loop
invariant-loop l = l.vars.items ≡ replicate l.counter None
