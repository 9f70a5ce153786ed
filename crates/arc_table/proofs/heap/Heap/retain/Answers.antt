use Rattle.std.proofs.Common.{◌≡◌, None, Some, refl, sym, ap, ◌∙◌, subst, arith}
use Rattle.arc_model.specs.declared.event.Act.TheVariants.{Copy, CountFull}
use Rattle.arc_model.specs.declared.event.Origin.TheVariants.{Hand}
use Rattle.arc_model.specs.declared.shape.Kind.TheVariants.{Strong}
use Rattle.arc_model.specs.History.{next_hand}
use Rattle.arc_view_laws.specs.Having.{last_hand, IsNewHand, StandsAs}
use Rattle.arc_view_laws.proofs.Fresh.{fresh_hand}
use Rattle.arc_table.specs.Calls.{act_list, IsCall}
use Rattle.arc_table.specs.Possessions.{StillHas}
use Rattle.arc_table.specs.Seats.{shape_of, view_of, part_view}
use Rattle.arc_table.specs.Tokens.{hand_of, raised_act}
use Rattle.arc_table.proofs.Making.{next_one}
use Rattle.arc_table.proofs.Possessing.{still_has}
use Rattle.arc_table.proofs.StrongCalls.{same_call, raised_old}
use Rattle.arc_table.proofs.heap.Heap.retain.Goals as goal

pub invariant_of-pass : goal.invariant_of-pass
invariant_of-pass c =
    let p = c.args.pass.now in
    let k = hand_of c.args.of.now in
    let call = c.raise.ensures.called.1 in
    let same = same_call (shape_of c.args.self.now) (raised_act k (view_of p) c.raise.result) 3 (view_of p) (part_view c.raise.new.part) (raised_old k (view_of p) c.raise.result) call in record {
      numbered = (same.number ∙ p.numbered.0, p.numbered.1);
      counted = same.made ∙ p.counted;
      parted = same.splits ∙ p.parted;
      alone = call.alone;
    }

pub returns-in-Up-clause-called : goal.returns-in-Up-clause-called
returns-in-Up-clause-called c =
    let v = view_of c.args.pass.now in
    let w = part_view c.raise.new.part in
    let k = hand_of c.args.of.now in
    let up = c.in-Up.ensures.called in
    let next = next_one (Copy (Hand k) (next_hand v.number v.seen)) 3 v w up.1.called.grew refl in
    let hand : last_hand c.of-at.result.value.me.0 ≡ next_hand v.number v.seen = ap (λ seat. last_hand seat.me.0) c.of-at.ensures ∙ omega (arith, next) in
    subst (λ n. IsCall (shape_of c.args.self.now) (Some (Copy (Hand k) n)) 3 c.args.pass.now.part c.raise.new.part) (sym hand) up

pub returns-in-Up-clause-up : goal.returns-in-Up-clause-up
returns-in-Up-clause-up c =
    let v = view_of c.args.pass.now in
    let w = part_view c.raise.new.part in
    let shape = shape_of c.args.self.now in
    let k = hand_of c.args.of.now in
    let up = c.in-Up.ensures.called.1.called in
    let next = next_one (Copy (Hand k) (next_hand v.number v.seen)) 3 v w up.grew refl in
    let hand : last_hand c.of-at.result.value.me.0 ≡ next_hand v.number v.seen = ap (λ seat. last_hand seat.me.0) c.of-at.ensures ∙ omega (arith, next) in (
      hand,
      subst (IsNewHand v) (sym hand) (fresh_hand shape (act_list (Some (Copy (Hand k) (next_hand v.number v.seen)))) 3 v w up),
      refl,
      subst (λ n. StandsAs v k w n) (sym hand) c.in-Up.ensures.raised,
    )

pub returns-in-Up-clause-has : goal.returns-in-Up-clause-has
returns-in-Up-clause-has c =
    let v = view_of c.args.pass.now in
    let w = part_view c.raise.new.part in
    let shape = shape_of c.args.self.now in
    let k = hand_of c.args.of.now in
    let up = c.in-Up.ensures.called.1.called in
    let next = next_one (Copy (Hand k) (next_hand v.number v.seen)) 3 v w up.grew refl in
    let hand : last_hand c.of-at.result.value.me.0 ≡ next_hand v.number v.seen = ap (λ seat. last_hand seat.me.0) c.of-at.ensures ∙ omega (arith, next) in
    subst (λ n. StillHas (Some (Copy (Hand k) n)) v w) (sym hand) (still_has shape (Some (Copy (Hand k) (next_hand v.number v.seen))) 3 v w c.args.self.now.sized up)

pub returns-in-AtCap-clause-has : goal.returns-in-AtCap-clause-has
returns-in-AtCap-clause-has c = still_has (shape_of c.args.self.now) None 3 (view_of c.args.pass.now) (part_view c.raise.new.part) c.args.self.now.sized c.in-AtCap.ensures.called.1.called

pub returns-in-CountFull-clause-has : goal.returns-in-CountFull-clause-has
returns-in-CountFull-clause-has c = still_has (shape_of c.args.self.now) (Some (CountFull Strong (Hand (hand_of c.args.of.now)))) 3 (view_of c.args.pass.now) (part_view c.raise.new.part) c.args.self.now.sized c.in-CountFull.ensures.called.1.called

pub returns-in-Again-clause-has : goal.returns-in-Again-clause-has
returns-in-Again-clause-has c = still_has (shape_of c.args.self.now) None 3 (view_of c.args.pass.now) (part_view c.raise.new.part) c.args.self.now.sized c.in-Again.ensures.called.1.called
