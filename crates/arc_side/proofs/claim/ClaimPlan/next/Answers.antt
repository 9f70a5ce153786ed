use Rattle.std.proofs.Common.{◌≡◌, ◌≢◌, bit_and, None, sym, ap, ◌∙◌, subst}
use Rattle.arc_rule.specs.Bits.{bit_of}
use Rattle.arc_plan.specs.Searches.{IsTaking}
use Rattle.arc_plan.proofs.Searching.{was_lost, given_is}
use Rattle.arc_side.specs.declared.claim.Claiming.{Claiming}
use Rattle.arc_side.specs.declared.claim.Claiming.TheVariants.{Taking}
use Rattle.arc_side.specs.Claims.{EntryClaim, InEntries, claiming_takes, claiming_asked, claiming_rests, bits_place_of}
use Rattle.arc_side.proofs.claim.ClaimPlan.next.Goals as goal

-- src/claim.rt:148:21
pub returns-then-found-bit-ne0-clause-change : goal.returns-then-found-bit-ne0-clause-change
returns-then-found-bit-ne0-clause-change c =
    let p = c.args.self.now in
    let e = c.in-Taking.entry in
    let seen = c.in-Taking.seen in
    let found = c.unwrap_or-found.result in
    let is : p.at ≡ Taking e seen = sym (ap (λ (q : EntryClaim). q.at) c.self.view_is) ∙ c.in-Taking.is in
    let taking : IsTaking c.self.inside.layout.entries e seen = subst (λ (m : Claiming). InEntries c.self.inside.layout m) c.in-Taking.is c.self.invariant.in_entries in
    let some : c.args.last ≢ None = subst (λ (m : Claiming). claiming_takes m c.args.last) is c.requires in
    let set : bit_and found (bit_of e) ≢ 0 = subst (λ b. bit_and found b ≢ 0) c.bit.ensures c.if-found-bit-ne0.true in
    was_lost (bits_place_of p.layout e) e seen found _ _ c.args.last (ap (claiming_asked p.layout p.slot) is) (ap (claiming_rests p.layout) is) taking.clear set (given_is c.args.last found some (sym c.unwrap_or-found.ensures))
