use Rattle.std.proofs.Common.{◌+◌, arith}
use Rattle.arc_model.specs.declared.event.Act.TheVariants.{New, Full}
use Rattle.arc_rule.specs.Bits.{words_of}
use Rattle.arc_table.specs.Seats.{shape_of, view_of}
use Rattle.arc_table.specs.Tokens.{hand_of}
use Rattle.arc_view_laws.proofs.Counted.{news_none, news_one}
use Rattle.arc_table.proofs.tests.fill.Goals as goal

pub returns-in-Ok-clause-few : goal.returns-in-Ok-clause-few
returns-in-Ok-clause-few c =
    let t = c.in-Ok.token in
    let n = news_one (New (hand_of t) 0 t.slot) (words_of (shape_of c.args.heap.now).slots + 3) (view_of c.args.pass.now) (view_of c.new_object.new.pass) c.in-Ok.ensures.called.1.called.grew in omega (arith, n)

pub returns-in-NoSlot-clause-few : goal.returns-in-NoSlot-clause-few
returns-in-NoSlot-clause-few c =
    let n = news_one Full (words_of (shape_of c.args.heap.now).slots + 3) (view_of c.args.pass.now) (view_of c.new_object.new.pass) c.in-NoSlot.ensures.called.1.called.grew in omega (arith, n)

pub returns-in-Again-clause-few : goal.returns-in-Again-clause-few
returns-in-Again-clause-few c =
    let n = news_none (words_of (shape_of c.args.heap.now).slots + 3) (view_of c.args.pass.now) (view_of c.new_object.new.pass) c.in-Again.ensures.called.1.called.grew in omega (arith, n)
