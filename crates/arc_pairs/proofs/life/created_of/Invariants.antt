use Rattle.std.proofs.Common.{◌<◌}
use Rattle.arc_view.specs.Rule.{news}
use Rattle.arc_table.specs.Runs.{Walked}
use Rattle.arc_table.specs.Seats.{view_of}
use Rattle.arc_pairs.specs.Ready.{IsReady, IsSamePass}
use Rattle.arc_pairs.proofs.life.created_of.Given as goal

abbrev pub invariant-loop : goal.invariant-loop
invariant-loop g l = IsReady l.fn.heap l.pass × (news (view_of l.pass).number (view_of l.pass).seen < 100000) × IsSamePass (view_of l.initial.pass) (view_of l.pass) × Walked (view_of l.initial.pass) (view_of l.pass)
