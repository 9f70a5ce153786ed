use Rattle.std.proofs.Common.{◌≡◌, ◌≤◌, ◌+◌}
use Rattle.arc_view.specs.Passes.{IsFirst}
use Rattle.arc_table.specs.Seats.{view_of}
use Rattle.arc_pairs.specs.Ready.{IsReady}
use Rattle.arc_pairs.proofs.own.lives_in_turn.Given as goal

abbrev pub invariant-loop-i : goal.invariant-loop-i
invariant-loop-i g l = IsReady l.fn.heap l.first × IsFirst (view_of l.first) × ((view_of l.first).splits ≡ l._i) × (l.ends + l.left ≤ l.fn.times)
