use Rattle.arc_table.specs.Seats.{shape_of, view_of}
use Rattle.arc_table.specs.Tokens.{hand_of}
use Rattle.arc_table.proofs.HeldTokens.{made_held}
use Rattle.arc_table.proofs.Having.{made_one, nothing_only}
use Rattle.arc_table.proofs.tests_end.left_behind.Goals as goal

pub both_given_up-requires-clause-held : goal.both_given_up-requires-clause-held
both_given_up-requires-clause-held c = made_held (shape_of c.args.heap.now) 0 (view_of c.args.pass) (view_of c.new_object.new.pass) c.in-Ok.token c.in-Ok.ensures.made

pub both_given_up-requires-clause-only : goal.both_given_up-requires-clause-only
both_given_up-requires-clause-only c =
    let v = view_of c.args.pass in
    let t = c.in-Ok.token in
    made_one (hand_of t) 0 t.slot v (view_of c.new_object.new.pass) c.in-Ok.ensures.has.moves (nothing_only v c.requires.nothing)
