-- A cell is written: each word keeps what the stepper stands for, with the step that found it.
use Rattle.std.proofs.Common.{◌≡◌, ℕ, zero, suc, ◌+◌, ◌-◌, ◌<◌, Bool, true, false, cond, eqb, List, ◌∷◌, length, set, Option, Some, None, inl, refl, sym, subst, arith}
use Rattle.std.proofs.lemmas.Option.{slice_get_within}
use Rattle.std.proofs.lemmas.Bool.{eqb-false}
use Rattle.std.specs.Prelude.{◌≢◌}
use Rattle.arc_model.specs.declared.answer.Answer.TheVariants as answers
use Rattle.arc_model.specs.declared.event.Act.TheVariants as acts
use Rattle.arc_rule.specs.Places.{extent_of}
use Rattle.arc_rule.specs.declared.plan.Next.{Next}
use Rattle.arc_rule.specs.declared.plan.Next.TheVariants as nexts
use Rattle.arc_rule.specs.declared.step.Step.{Step}
use Rattle.arc_cells.specs.declared.swap.SwapAnswer.{SwapAnswer}
use Rattle.arc_cells.specs.declared.swap.SwapAnswer.TheVariants as swaps
use Rattle.arc_cells.specs.Swaps.{SwapAttempt, swap_turned, swap_answer}
use Rattle.arc_cells.specs.Chains.{Frame}
use Rattle.arc_script.specs.declared.script.Op.TheVariants as op
use Rattle.arc_ops.specs.declared.stepper.Held.{Held}
use Rattle.arc_ops.specs.Thread.{Thread, value, put, set_var}
use Rattle.arc_ops.specs.Takes.{IsCellAt}
use Rattle.arc_ops.specs.declared.cell.Cell.{Cell}
use Rattle.arc_ops.specs.Cells.{hand_in, set_begun}
use Rattle.arc_ops.specs.Sets.{set_on, set_to}
use Rattle.arc_ops.specs.Steppers.{SwappingGoesOn}
use Rattle.arc_ops.proofs.Moves.{swapping_goes_on}
use Rattle.arc_schedule.specs.Made.{Made, made_at}
use Rattle.arc_schedule.specs.Plans.{Plan, Gives, swap, swap_anew, swap_told, told_by}
use Rattle.arc_schedule.specs.Plans.Starts.{first as starts_first}
use Rattle.arc_schedule.specs.Operations.{Holding, word_of, hand_of}
use Rattle.arc_schedule.specs.Operations.Drops.{nothing as drops_nothing}
use Rattle.arc_schedule.specs.Operations.Does.{sets as does_set}
use Rattle.arc_schedule.specs.Operations as operations
use Rattle.arc_schedule.proofs.Given.{Gave, waits, given, gives, starts-again}
use Rattle.arc_schedule.proofs.Deinits.{ref}
use Rattle.arc_schedule.proofs.Stands.{Task, Job, kinds_here, classes_here, refs, state_of, here, set_plan, IsSetting, AreServed, WorksAt, IsAt, AreIn, Stands, under-way}
use Rattle.arc_schedule.proofs.Variables.{value-ref, put-ref, nil-in}
use Rattle.arc_schedule.proofs.Begins.{over-done, op-done, drop-asks, set-asks, goes-on}
use Rattle.arc_schedule.proofs.Tells.{idle}

-- a variable's reference, or nil, comes into a cell, and what was there is dropped
pub sets-on : {n : ℕ} {chain : List Frame} (k : Task) (j : Job k) → AreServed k.shape (classes_here k) (kinds_here k) j.ops → (i : ℕ) (t : Thread) (s : Step) (w : ℕ) (now : List Made) → WorksAt k j i n t → AreIn k t.vars → IsAt k j i →
    (from : ℕ) (cell : Cell) (plan : SwapAttempt) → IsSetting k j i from cell plan t.vars t.made t.hands (Some s) now → IsCellAt k.shape.slots plan.at w →
    Stands k n chain (set_on from cell (swap_turned plan (Some w)) (swap_answer plan (Some w)) (idle t))
    (made_at (here k j i) s w (told_by (swap_told cell.name (hand_of (ref (value t.vars from))) (t.hands + 1)) (swap_answer plan (Some w))) ∷ now)
sets-on {n = n} {chain = chain} k j served i t s w now works vars at from cell plan u fits =
    go (swap_answer plan (Some w)) (swapping_goes_on k.shape.slots plan (Some w) u.word fits) (given setting (here k j i) u.base now plan s w u.waits)
  where
    setting : Plan SwapAttempt SwapAnswer
    setting = set_plan k cell.name (value t.vars from) t.hands

    after : List Made
    after = made_at (here k j i) s w (told_by (swap_told cell.name (hand_of (ref (value t.vars from))) (t.hands + 1)) (swap_answer plan (Some w))) ∷ now

    within : i < length j.ops
    within = slice_get_within j.ops i (op.Set u.of from) u.there

    again : (a : SwapAnswer) → swap_anew a ≡ true → Gave setting (here k j i) u.base after (nexts.Done a) (swap_turned plan (Some w)) → Stands k n chain (set_begun from cell (idle t)) after
    again a anew g = set-asks k j i from cell u.of (idle t) after u.base u.cell_is works vars at (inl ((refl, refl), refl)) u.done u.there (starts-again setting (here k j i) u.base after _ a anew g)

    as-vars : (x : ℕ) → Gives setting (here k j i) u.base (swaps.Took x) after →
        Gives (swap (extent_of k.shape) cell.name (word_of (operations.value (refs t.vars) from)) (hand_of (operations.value (refs t.vars) from)) (t.hands + 1)) (here k j i) u.base (swaps.Took x) after
    as-vars x g =
        let Q : Option Holding → Type 0 = λ (o : Option Holding). Gives (swap (extent_of k.shape) cell.name (word_of o) (hand_of o) (t.hands + 1)) (here k j i) u.base (swaps.Took x) after in
        subst Q (sym (value-ref t.vars from (value t.vars from) refl)) g

    took : (x : ℕ) → x ≢ 1 → x < k.shape.slots + 2 → Gives setting (here k j i) u.base (swaps.Took x) after → (b : Bool) → eqb x 0 ≡ b →
        Stands k n chain (set_to from cell (cond b None (Some (record { hand = t.hands + 1; kind = cell.kind; place = x - 2 }))) (idle t)) after
    took x free below g true e =
        goes-on k j served i (put answers.Ok (set_var from None (record (idle t) { event = Some (acts.Swap cell.name (hand_in (value t.vars from)) None) }))) after works (nil-in k t.vars from vars) at (refl, refl) refl
        (over-done k j i (set t.vars from None) t.made t.hands after within
        (op-done k j i (op.Set u.of from) (state_of t.vars t.made t.hands) (state_of (set t.vars from None) t.made t.hands) u.base after u.done u.there
        (does_set {hands = t.hands} u.cell_is (as-vars x g) (rw e drops_nothing) (let v = put-ref t.vars from None in rw v refl))))
    took x free below g false e =
        let some : x ≢ 0 = eqb-false x 0 e in
        let old : Held = record { hand = t.hands + 1; kind = cell.kind; place = x - 2 } in
        drop-asks k j i (put answers.Ok (set_var from None (record (idle t) { hands = t.hands + 1; event = Some (acts.Swap cell.name (hand_in (value t.vars from)) (Some (t.hands + 1))) }))) old after after works (nil-in k t.vars from vars) at
        (inl ((refl, refl), refl)) (record { place = above x free some below; kind = u.cell_is.counted }) starts_first
        (λ came end y. over-done k j i (set t.vars from None) t.made came end within
        (op-done k j i (op.Set u.of from) (state_of t.vars t.made t.hands) (state_of (set t.vars from None) t.made came) u.base end u.done u.there
        (does_set {hands = came} u.cell_is (as-vars x g) (rw e y) (let v = put-ref t.vars from None in rw v refl))))
      where
        above : (x : ℕ) → x ≢ 1 → x ≢ 0 → x < k.shape.slots + 2 → x - 2 < k.shape.slots
        above zero free some below = absurd (some refl)
        above (suc zero) free some below = absurd (free refl)
        above (suc (suc x)) free some below = omega arith

    go : (a : Next SwapAnswer) → SwappingGoesOn k.shape.slots (swap_turned plan (Some w)).at a → Gave setting (here k j i) u.base after a (swap_turned plan (Some w)) →
        Stands k n chain (set_on from cell (swap_turned plan (Some w)) a (idle t)) after
    go (nexts.Step s) on g = under-way k j i refl works vars (at, inl ((refl, refl), refl))
        (record { of = u.of; cell_is = u.cell_is; base = u.base; done = u.done; there = u.there; waits = waits setting (here k j i) u.base after _ s g; word = on })
    go (nexts.Done (swaps.Took x)) on g = took x on.0 on.1 (gives setting (here k j i) u.base after _ (swaps.Took x) refl g) (eqb x 0) refl
    go (nexts.Done swaps.Busy) on g = again swaps.Busy refl g
    go (nexts.Done (swaps.Again c)) on g = again (swaps.Again c) refl g
