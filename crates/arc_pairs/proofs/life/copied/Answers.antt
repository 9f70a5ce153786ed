use Rattle.arc_table.specs.Seats.{shape_of, view_of}
use Rattle.arc_table.specs.Tokens.{hand_of}
use Rattle.arc_pairs.proofs.Readied.{ours_on, up_apart, up_keeps, kept_on, changed_walked, found_on}
use Rattle.arc_pairs.proofs.life.copied.Goals as goal

pub copied_again-requires-clause-held : goal.copied_again-requires-clause-held
copied_again-requires-clause-held g c = ours_on c.args.heap.now c.args.pass.now c.retain.new.pass c.args.of.now (up_keeps c.args.of.now c.retain.result (view_of c.args.pass.now) (view_of c.retain.new.pass) c.retain.ensures.has) c.requires.held

pub returns-in-Ok-clause-other : goal.returns-in-Ok-clause-other
returns-in-Ok-clause-other g c = up_apart c.args.heap.now c.args.pass.now c.retain.new.pass c.args.of.now c.in-Ok.more c.requires.held c.in-Ok.ensures.up

pub returns-in-Ok-clause-kept : goal.returns-in-Ok-clause-kept
returns-in-Ok-clause-kept g c = up_keeps c.args.of.now c.retain.result (view_of c.args.pass.now) (view_of c.retain.new.pass) c.retain.ensures.has

pub returns-in-AtCap-clause-kept : goal.returns-in-AtCap-clause-kept
returns-in-AtCap-clause-kept g c = up_keeps c.args.of.now c.retain.result (view_of c.args.pass.now) (view_of c.retain.new.pass) c.retain.ensures.has

pub returns-in-Again-clause-kept : goal.returns-in-Again-clause-kept
returns-in-Again-clause-kept g c = kept_on (view_of c.args.pass.now) (view_of c.retain.new.pass) (view_of c.copied_again.new.pass) (up_keeps c.args.of.now c.retain.result (view_of c.args.pass.now) (view_of c.retain.new.pass) c.retain.ensures.has) c.copied_again.ensures.kept

pub returns-in-Again-clause-full : goal.returns-in-Again-clause-full
returns-in-Again-clause-full g c = λ none.
    let heap = c.args.heap.now in
    let of = c.args.of.now in
    let u = view_of c.args.pass.now in
    let v = view_of c.retain.new.pass in
    found_on heap of u v (view_of c.copied_again.new.pass) (changed_walked (shape_of heap) (hand_of of) of.slot c.in-Again.field-0 u v c.in-Again.ensures.up) (c.copied_again.ensures.full none)
