use Rattle.arc_table.specs.Seats.{shape_of, view_of}
use Rattle.arc_table.specs.Tokens.{hand_of, up_act}
use Rattle.arc_pairs.proofs.Readied.{held, ours_on, up_apart, ready_on, up_keeps, kept_on, walked_on, changed_walked, capped}
use Rattle.arc_pairs.proofs.life.copied_again.Goals as goal

pub retain-requires-clause-held : goal.retain-requires-clause-held
retain-requires-clause-held g c = held c.args.heap.now c.loop.pass c.args.of.now (ours_on c.args.heap.now c.args.pass.now c.loop.pass c.args.of.now c.loop.invariant.1 c.requires.held)

pub returns-in-Ok-clause-other : goal.returns-in-Ok-clause-other
returns-in-Ok-clause-other g c = up_apart c.args.heap.now c.loop.pass c.retain.new.pass c.args.of.now c.in-Ok.more (ours_on c.args.heap.now c.args.pass.now c.loop.pass c.args.of.now c.loop.invariant.1 c.requires.held) c.in-Ok.ensures.up

pub returns-in-Ok-clause-kept : goal.returns-in-Ok-clause-kept
returns-in-Ok-clause-kept g c = kept_on (view_of c.args.pass.now) (view_of c.loop.pass) (view_of c.retain.new.pass) c.loop.invariant.1 (up_keeps c.args.of.now c.retain.result (view_of c.loop.pass) (view_of c.retain.new.pass) c.retain.ensures.has)

pub returns-in-AtCap-clause-kept : goal.returns-in-AtCap-clause-kept
returns-in-AtCap-clause-kept g c = kept_on (view_of c.args.pass.now) (view_of c.loop.pass) (view_of c.retain.new.pass) c.loop.invariant.1 (up_keeps c.args.of.now c.retain.result (view_of c.loop.pass) (view_of c.retain.new.pass) c.retain.ensures.has)

pub returns-in-AtCap-clause-full : goal.returns-in-AtCap-clause-full
returns-in-AtCap-clause-full g c = λ none. capped c.args.heap.now c.args.of.now (view_of c.args.pass.now) (view_of c.loop.pass) (view_of c.retain.new.pass) c.retain.result c.loop.invariant.2 c.retain.ensures.up c.in-AtCap.is

pub loop-preserved : goal.loop-preserved
loop-preserved g c =
    let heap = c.args.heap.now in
    let of = c.args.of.now in
    let u = view_of c.args.pass.now in
    let v = view_of c.loop.pass in
    let w = view_of c.retain.new.pass in (
      ready_on heap (up_act of c.retain.result) 3 c.loop.pass c.retain.new.pass c.loop.invariant.0 c.retain.ensures.called,
      kept_on u v w c.loop.invariant.1 (up_keeps of c.retain.result v w c.retain.ensures.has),
      walked_on u v w c.loop.invariant.2 (changed_walked (shape_of heap) (hand_of of) of.slot c.in-Again.field-0 v w c.in-Again.ensures.up),
    )
