use Rattle.std.proofs.Common.{◌+◌, None}
use Rattle.arc_rule.specs.Bits.{words_of}
use Rattle.arc_table.specs.Seats.{shape_of, view_of}
use Rattle.arc_pairs.proofs.Readied.{ready_on, made_none, same_on, walked_on, lost_walked}
use Rattle.arc_pairs.proofs.life.created_of.Goals as goal

pub loop-preserved : goal.loop-preserved
loop-preserved g c =
    let heap = c.args.heap.now in
    let most = words_of (shape_of heap).slots + 3 in
    let u = view_of c.args.pass.now in
    let v = view_of c.loop.pass in
    let w = view_of c.new_object.new.pass in (
      ready_on heap None most c.loop.pass c.new_object.new.pass c.loop.invariant.0 c.in-Again.ensures.called,
      made_none heap most c.loop.pass c.new_object.new.pass c.in-Again.ensures.called c.loop.invariant.1,
      same_on heap None most u c.loop.pass c.new_object.new.pass c.loop.invariant.2 c.in-Again.ensures.called,
      walked_on u v w c.loop.invariant.3 (lost_walked (shape_of heap) c.in-Again.field-0 v w c.in-Again.ensures.made),
    )

pub returns-in-NoSlot-clause-full : goal.returns-in-NoSlot-clause-full
returns-in-NoSlot-clause-full g c = λ _. (view_of c.loop.pass, c.loop.invariant.3, c.in-NoSlot.ensures.called.1, c.in-NoSlot.ensures.made)
