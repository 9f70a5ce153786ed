use Rattle.std.proofs.Common.{◌≡◌}
use Rattle.arc_table.specs.Seats.{shape_of, part_id, part_view}
use Rattle.arc_table.proofs.Running.{IsUnderWay}
use Rattle.arc_table.proofs.heap.Heap.run_on.Given as goal

abbrev pub invariant-loop-step : goal.invariant-loop-step
invariant-loop-step g l = IsUnderWay g.P.Plan.takes g.P.Plan.turned g.P.Plan.answer (shape_of l.fn.self) g.J.Asks.intent l.fn.plan l.fn.last (part_view l.initial.part) l.plan l.last (part_view l.part) × (part_id l.part ≡ part_id l.initial.part)

abbrev pub decreases-loop-step : goal.decreases-loop-step
decreases-loop-step g l = g.P.Plan.left l.plan
