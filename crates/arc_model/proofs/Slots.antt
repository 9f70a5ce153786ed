-- An object keeps its slot until the slot is vacated.
use Rattle.std.proofs.Common.{◌≡◌, ℕ, zero, suc, Bool, true, false, cond, List, [], ◌∷◌, ◌++◌, length, Some, None, ◌⊎◌, inl, inr, refl, sym, ap, ◌∙◌}
use Rattle.std.specs.Prelude.{find, slice_get, is_some}
use Rattle.std.proofs.lemmas.Bool.{eq-eqb}
use Rattle.arc_model.specs.declared.event.Act.TheVariants as acts
use Rattle.arc_model.specs.Shapes.{HeapShape}
use Rattle.arc_model.specs.Heaps.{Object, Heap}
use Rattle.arc_model.specs.Holders.{in_slot, is_number}
use Rattle.arc_model.specs.Effects.{effect, made}
use Rattle.arc_model.specs.Needs.{first_failing, needs}
use Rattle.arc_model.specs.History.{History, heap_after, sight, IsLegal}
use Rattle.arc_model.specs.Cells.{strong_holders}
use Rattle.arc_model.specs.Laws.{strong_in, unowned_in, IsVacated, SlotVacatedBetween}
use Rattle.arc_model.proofs.Basics.{true≢false, None≢Some, Some-inj, empty-is, opposite, met}
use Rattle.arc_model.proofs.Steps.{step_after}

find-some : (p : Object → Bool) (os : List Object) (i : ℕ) (o : Object) → slice_get os i ≡ Some o → p o ≡ true → is_some (find p os) ≡ true
find-some p [] i o h t = absurd (None≢Some o h)
find-some p (q ∷ os) zero o h t = go (p q) (ap p (Some-inj h) ∙ t)
  where
    go : (b : Bool) → b ≡ true → is_some (cond b (Some q) (find p os)) ≡ true
    go true e = refl
    go false e = absurd (true≢false (sym e))
find-some p (q ∷ os) (suc i) o h t = go (p q) (find-some p os i o h t)
  where
    go : (b : Bool) → is_some (find p os) ≡ true → is_some (cond b (Some q) (find p os)) ≡ true
    go true e = refl
    go false e = e

-- the i-th object is in the slot
abbrev IsAt : ℕ → ℕ → Heap → Type 0
IsAt i slot heap = (o : Object) × (slice_get heap.objects i ≡ Some o) × (o.slot ≡ Some slot)

kept_or_vacated : (shape : HeapShape) (i slot : ℕ) (before between : History) → IsLegal shape (between ++ before) → IsAt i slot (heap_after before) → IsAt i slot (heap_after (between ++ before)) ⊎ IsVacated shape i slot before between
kept_or_vacated shape i slot before [] legal here = inl here
kept_or_vacated shape i slot before (e ∷ between) legal here =
    elim (kept_or_vacated shape i slot before between legal.1 here) [
      | inl kept ↦
          let s = step_after shape e (between ++ before) legal i kept.0 kept.1 in
          elim s.place [
            | inl same ↦ inl (s.q, s.here, same ∙ kept.2)
            | inr leaves ↦ inr (record {
              later = [];
              earlier = between;
              event = e;
              split = refl;
              act = leaves.1 ∙ ap acts.Vacate (Some-inj (sym leaves.2 ∙ kept.2));
              strong = ap (strong_in shape) kept.1 ∙ empty-is (strong_holders shape kept.0) leaves.3;
              unowned = ap unowned_in kept.1 ∙ empty-is kept.0.unowned leaves.4;
            })
          ]
      | inr v ↦ inr (record { later = e ∷ v.later; earlier = v.earlier; event = v.event; split = ap (λ h. e ∷ h) v.split; act = v.act; strong = v.strong; unowned = v.unowned })
    ]

get-last : (os : List Object) (o : Object) → slice_get (os ++ o ∷ []) (length os) ≡ Some o
get-last [] o = refl
get-last (q ∷ os) o = get-last os o

pub vacated_between : SlotVacatedBetween
vacated_between shape slot before between e f legal first second =
    elim (kept_or_vacated shape (length (heap_after before).objects) slot (e ∷ before) between legal.1 made_here) [
      | inl kept ↦ absurd (true≢false (sym (find-some (in_slot slot) (heap_after (between ++ e ∷ before)).objects (length (heap_after before).objects) kept.0 kept.1 (ap (λ m. is_number m slot) kept.2 ∙ eq-eqb slot slot refl)) ∙ free))
      | inr v ↦ v
    ]
  where
    made_here : IsAt (length (heap_after before).objects) slot (heap_after (e ∷ before))
    made_here =
        let o = made e.thread first.0 first.1 slot (heap_after before).objects in
        (o, ap (λ act. slice_get (effect e.thread act (heap_after before)).objects (length (heap_after before).objects)) first.2 ∙ get-last (heap_after before).objects o, refl)

    free : is_some (find (in_slot slot) (heap_after (between ++ e ∷ before)).objects) ≡ false
    free =
        let h : first_failing (needs shape (sight f.thread (between ++ e ∷ before)) f.thread (acts.New second.0 second.1 slot)) ≡ None = ap (λ act. first_failing (needs shape (sight f.thread (between ++ e ∷ before)) f.thread act)) (sym second.2) ∙ legal.0 in
        opposite (is_some (find (in_slot slot) (heap_after (between ++ e ∷ before)).objects)) (met (needs shape (sight f.thread (between ++ e ∷ before)) f.thread (acts.New second.0 second.1 slot)) h).1.0
