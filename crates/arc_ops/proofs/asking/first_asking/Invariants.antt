use Rattle.std.proofs.Common.{◌≡◌, ℕ, ◌≤◌, ◌-◌, length}
use Rattle.std.specs.Prelude.{All}
use Rattle.arc_ops.specs.Thread.{Thread}
use Rattle.arc_ops.specs.Begins.{begun, phase_end}
use Rattle.arc_ops.specs.Steppers.{HeldFits}
use Rattle.arc_ops.proofs.asking.first_asking.Given as goal

abbrev pub invariant-loop-at : goal.invariant-loop-at
invariant-loop-at l = record {
  from : l.initial.at ≤ l.at;
  within : l.at ≤ length l.program;
  count : length l.vars.items ≡ length l.initial.vars.items;
  held : (slots : ℕ) → All (HeldFits slots) l.initial.vars.items → All (HeldFits slots) l.vars.items;
  same : (t : Thread) → t.program ≡ l.program → phase_end t ≡ l.end → begun (record t { index = l.initial.at; vars = l.initial.vars.items; kept = l.initial.lines }) ≡ begun (record t { index = l.at; vars = l.vars.items; kept = l.lines });
}

abbrev pub decreases-loop-at : goal.decreases-loop-at
decreases-loop-at l = l.end - l.at
