use Rattle.std.proofs.Common.{◌≡◌, ◌+◌, ◌-◌, ◌*◌, ◌^◌, ◌<◌, ◌≤◌, min, cond, Some, None, sym, ap, ◌∙◌, subst}
use Rattle.std.proofs.lemmas.Bool.{lt-ltb, le-ltb}
use Rattle.arc_rule.specs.Bits.{lowest, thing_left}
use Rattle.arc_plan.proofs.Bits.{lowest_is, free_is_clear}
use Rattle.arc_plan.proofs.free.free_thing.Goals as goal

-- src/free.rt
pub returns-then-thing-min-clause-free : goal.returns-then-thing-min-clause-free
returns-then-thing-min-clause-free c =
    let bits = c.args.bits in
    let word = c.args.word in
    let same : c.trailing_ones.result ≡ lowest 64 (2 ^ 64 - 1 - bits) = c.trailing_ones.ensures ∙ sym (lowest_is 64 (2 ^ 64 - 1 - bits)) in
    let place : 64 * word + c.trailing_ones.result ≡ thing_left word bits = ap (λ t. 64 * word + t) same in
    let below : thing_left word bits < min c.args.things (64 * (word + 1)) = subst (λ n. thing_left word bits < n) c.min.ensures (subst (λ s. s < c.min.result) place c.if-thing-min.true) in
    ap Some place ∙ sym (ap (λ b. cond b (Some (thing_left word bits)) None) (lt-ltb _ _ below))

-- src/free.rt
pub returns-then-thing-min-clause-clear : goal.returns-then-thing-min-clause-clear
returns-then-thing-min-clause-clear c = free_is_clear c.args.things c.args.word c.args.bits _ (sym (returns-then-thing-min-clause-free c))

-- src/free.rt
pub returns-else-thing-min-clause-free : goal.returns-else-thing-min-clause-free
returns-else-thing-min-clause-free c =
    let bits = c.args.bits in
    let word = c.args.word in
    let same : c.trailing_ones.result ≡ lowest 64 (2 ^ 64 - 1 - bits) = c.trailing_ones.ensures ∙ sym (lowest_is 64 (2 ^ 64 - 1 - bits)) in
    let place : 64 * word + c.trailing_ones.result ≡ thing_left word bits = ap (λ t. 64 * word + t) same in
    let past : min c.args.things (64 * (word + 1)) ≤ thing_left word bits = subst (λ n. n ≤ thing_left word bits) c.min.ensures (subst (λ s. c.min.result ≤ s) place c.if-thing-min.false) in
    sym (ap (λ b. cond b (Some (thing_left word bits)) None) (le-ltb _ _ past))
