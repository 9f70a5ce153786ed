use Rattle.arc_table.specs.Seats.{view_of}
use Rattle.arc_pairs.specs.Ready.{IsReady, IsSamePass}
use Rattle.arc_pairs.proofs.lasting.settle.Given as goal

abbrev pub invariant-loop-i : goal.invariant-loop-i
invariant-loop-i g l = IsReady l.fn.heap l.pass × IsSamePass (view_of l.initial.pass) (view_of l.pass)
