use Rattle.arc_table.specs.Runs.{Walked}
use Rattle.arc_table.specs.Seats.{view_of}
use Rattle.arc_view_laws.specs.Having.{KeepsStrong}
use Rattle.arc_pairs.specs.Ready.{IsReady}
use Rattle.arc_pairs.proofs.life.copied_again.Given as goal

abbrev pub invariant-loop : goal.invariant-loop
invariant-loop g l = IsReady l.fn.heap l.pass × KeepsStrong (view_of l.initial.pass) (view_of l.pass) × Walked (view_of l.initial.pass) (view_of l.pass)
