use Rattle.std.proofs.Common.{◌≡◌, ◌+◌, None, Some, refl, sym, ap, ◌∙◌, subst, arith}
use Rattle.arc_model.specs.declared.event.Act.TheVariants.{New, Full}
use Rattle.arc_model.specs.History.{next_hand}
use Rattle.arc_rule.specs.Bits.{words_of}
use Rattle.arc_view_laws.specs.Having.{IsStrongOf, last_hand, IsNewHand}
use Rattle.arc_view_laws.proofs.Counted.{news_none, news_one}
use Rattle.arc_view_laws.proofs.Fresh.{fresh_hand}
use Rattle.arc_table.specs.Calls.{act_list, IsCall}
use Rattle.arc_table.specs.Possessions.{StillHas}
use Rattle.arc_table.specs.Seats.{shape_of, view_of, part_view}
use Rattle.arc_table.proofs.Making.{next_one}
use Rattle.arc_table.proofs.Possessing.{still_has}
use Rattle.arc_table.proofs.heap.Heap.new_object.Goals as goal

pub invariant_of-pass : goal.invariant_of-pass
invariant_of-pass c =
    let p = c.args.pass.now in
    let v = view_of p in
    let call = c.in-Slot.ensures.called.1 in
    let g = call.called.grew in
    let n = news_one (New (next_hand v.number v.seen) c.args.class c.in-Slot.slot) (words_of (shape_of c.args.self.now).slots + 3) v (part_view c.create.new.part) g in
    let was = p.counted in record {
      numbered = (g.number ∙ p.numbered.0, p.numbered.1);
      counted = omega (arith, n, was);
      parted = g.splits ∙ p.parted;
      alone = call.alone;
    }

pub invariant_of-pass-in-NoSlot : goal.invariant_of-pass-in-NoSlot
invariant_of-pass-in-NoSlot c =
    let p = c.args.pass.now in
    let v = view_of p in
    let call = c.in-NoSlot.ensures.called.1 in
    let g = call.called.grew in
    let n = news_one Full (words_of (shape_of c.args.self.now).slots + 3) v (part_view c.create.new.part) g in
    let was = p.counted in record {
      numbered = (g.number ∙ p.numbered.0, p.numbered.1);
      counted = omega (arith, n, was);
      parted = g.splits ∙ p.parted;
      alone = call.alone;
    }

pub returns-in-Slot-clause-called : goal.returns-in-Slot-clause-called
returns-in-Slot-clause-called c =
    let v = view_of c.args.pass.now in
    let shape = shape_of c.args.self.now in
    let s = c.in-Slot.slot in
    let call = c.in-Slot.ensures.called in
    let next = next_one (New (next_hand v.number v.seen) c.args.class s) (words_of shape.slots + 3) v (part_view c.create.new.part) call.1.called.grew refl in
    let hand : last_hand c.of-at.result.value.me.0 ≡ next_hand v.number v.seen = ap (λ seat. last_hand seat.me.0) c.of-at.ensures ∙ omega (arith, next) in
    subst (λ k. IsCall shape (Some (New k c.args.class s)) (words_of shape.slots + 3) c.args.pass.now.part c.create.new.part) (sym hand) call

pub returns-in-Slot-clause-made : goal.returns-in-Slot-clause-made
returns-in-Slot-clause-made c =
    let v = view_of c.args.pass.now in
    let w = part_view c.create.new.part in
    let shape = shape_of c.args.self.now in
    let s = c.in-Slot.slot in
    let called = c.in-Slot.ensures.called.1.called in
    let made = c.in-Slot.ensures.created in
    let next = next_one (New (next_hand v.number v.seen) c.args.class s) (words_of shape.slots + 3) v w called.grew refl in
    let hand : last_hand c.of-at.result.value.me.0 ≡ next_hand v.number v.seen = ap (λ seat. last_hand seat.me.0) c.of-at.ensures ∙ omega (arith, next) in (
      hand,
      subst (IsNewHand v) (sym hand) (fresh_hand shape (act_list (Some (New (next_hand v.number v.seen) c.args.class s))) (words_of shape.slots + 3) v w called),
      made.0,
      subst (λ k. IsStrongOf w k s c.args.class) (sym hand) made.1,
    )

pub returns-in-Slot-clause-has : goal.returns-in-Slot-clause-has
returns-in-Slot-clause-has c =
    let v = view_of c.args.pass.now in
    let w = part_view c.create.new.part in
    let shape = shape_of c.args.self.now in
    let s = c.in-Slot.slot in
    let called = c.in-Slot.ensures.called.1.called in
    let next = next_one (New (next_hand v.number v.seen) c.args.class s) (words_of shape.slots + 3) v w called.grew refl in
    let hand : last_hand c.of-at.result.value.me.0 ≡ next_hand v.number v.seen = ap (λ seat. last_hand seat.me.0) c.of-at.ensures ∙ omega (arith, next) in
    subst (λ k. StillHas (Some (New k c.args.class s)) v w) (sym hand) (still_has shape (Some (New (next_hand v.number v.seen) c.args.class s)) (words_of shape.slots + 3) v w c.args.self.now.sized called)

pub returns-in-NoSlot-clause-has : goal.returns-in-NoSlot-clause-has
returns-in-NoSlot-clause-has c =
    let shape = shape_of c.args.self.now in
    still_has shape (Some Full) (words_of shape.slots + 3) (view_of c.args.pass.now) (part_view c.create.new.part) c.args.self.now.sized c.in-NoSlot.ensures.called.1.called

pub returns-in-Again-clause-has : goal.returns-in-Again-clause-has
returns-in-Again-clause-has c =
    let shape = shape_of c.args.self.now in
    still_has shape None (words_of shape.slots + 3) (view_of c.args.pass.now) (part_view c.create.new.part) c.args.self.now.sized c.in-Again.ensures.called.1.called

pub invariant_of-pass-in-Again-1 : goal.invariant_of-pass-in-Again-1
invariant_of-pass-in-Again-1 c =
    let p = c.args.pass.now in
    let call = c.in-Again.ensures.called.1 in
    let g = call.called.grew in record {
      numbered = (g.number ∙ p.numbered.0, p.numbered.1);
      counted = news_none (words_of (shape_of c.args.self.now).slots + 3) (view_of p) (part_view c.create.new.part) g ∙ p.counted;
      parted = g.splits ∙ p.parted;
      alone = call.alone;
    }
