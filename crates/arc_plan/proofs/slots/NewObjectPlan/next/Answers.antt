use Rattle.std.proofs.Common.{◌≡◌, ◌≢◌, bit_and, None, sym, ap, ◌∙◌, subst}
use Rattle.arc_rule.specs.Bits.{bit_of}
use Rattle.arc_plan.specs.declared.slots.Making.{Making}
use Rattle.arc_plan.specs.declared.slots.Making.TheVariants.{Taking}
use Rattle.arc_plan.specs.Slots.{Creation, IsTaking, InSlots, making_takes, making_asked, making_rests, bits_place_of}
use Rattle.arc_plan.proofs.Searching.{was_lost, given_is}
use Rattle.arc_plan.proofs.slots.NewObjectPlan.next.Goals as goal

-- src/slots.rt:207:21
pub returns-then-found-bit-ne0-clause-change : goal.returns-then-found-bit-ne0-clause-change
returns-then-found-bit-ne0-clause-change c =
    let p = c.args.self.now in
    let s = c.in-Taking.slot in
    let seen = c.in-Taking.seen in
    let found = c.unwrap_or-found.result in
    let is : p.at ≡ Taking s seen = sym (ap (λ (q : Creation). q.at) c.self.view_is) ∙ c.in-Taking.is in
    let taking : IsTaking c.self.inside.layout.slots s seen = subst (λ (m : Making). InSlots c.self.inside.layout m) c.in-Taking.is c.self.invariant.in_slots in
    let some : c.args.last ≢ None = subst (λ (m : Making). making_takes m c.args.last) is c.requires in
    let set : bit_and found (bit_of s) ≢ 0 = subst (λ b. bit_and found b ≢ 0) c.bit.ensures c.if-found-bit-ne0.true in
    was_lost (bits_place_of p.layout s) s seen found _ _ c.args.last (ap (making_asked p) is) (ap (making_rests p.layout) is) taking.clear set (given_is c.args.last found some (sym c.unwrap_or-found.ensures))
