use Rattle.std.proofs.Common.{◌≡◌, All, vec_len}
use Rattle.arc_view.specs.Passes.{IsFirst}
use Rattle.arc_table.specs.Seats.{view_of}
use Rattle.arc_pairs.specs.Ready.{IsReady, IsWorker}
use Rattle.arc_pairs.proofs.passes.passes_for.Given as goal

abbrev pub invariant-loop-i : goal.invariant-loop-i
invariant-loop-i l =
    IsReady l.fn.heap l.first
    × IsFirst (view_of l.first)
    × ((view_of l.first).splits ≡ l._i)
    × ((view_of l.first).seen ≡ (view_of l.initial.first).seen)
    × All (IsWorker l.fn.heap l.fn.threads) l.passes.items
    × (vec_len l.passes ≡ l._i)
