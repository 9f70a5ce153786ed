use Rattle.std.proofs.Common.{◌≡◌, drop}
use Rattle.arc_table.specs.Seats.{heap_id, shape_of, pass_id, view_of}
use Rattle.arc_life.specs.Alone.{IsAlone, GoesAs, after_all}
use Rattle.arc_life.proofs.deeds.done.Given as goal

abbrev pub invariant-loop-deed : goal.invariant-loop-deed
invariant-loop-deed l =
    let rest = drop l.deed-index l.deeds in
    (pass_id l.pass ≡ heap_id l.fn.heap) × IsAlone (view_of l.pass) × GoesAs (shape_of l.fn.heap) (view_of l.pass) rest
    × (after_all (shape_of l.fn.heap) (view_of l.pass) rest ≡ after_all (shape_of l.fn.heap) (view_of l.fn.pass) l.deeds)
