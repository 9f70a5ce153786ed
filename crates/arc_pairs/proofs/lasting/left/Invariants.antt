use Rattle.arc_table.specs.Seats.{view_of}
use Rattle.arc_pairs.specs.Ready.{IsReady, IsOfClass, IsSamePass}
use Rattle.arc_pairs.proofs.lasting.left.Given as goal

abbrev pub invariant-loop : goal.invariant-loop
invariant-loop g l = IsReady l.fn.heap l.pass × IsOfClass 1 l.fn.heap l.pass l.held × IsSamePass (view_of l.initial.pass) (view_of l.pass)
