-- An object's strong list is emptied once, by the drop of its last holder; no load gives the object later.
use Rattle.std.proofs.Common.{◌≡◌, ◌≢◌, ℕ, Bool, true, false, not, List, [], ◌∷◌, ◌++◌, Option, Some, None, inl, inr, refl, sym, ap, ◌∙◌}
use Rattle.std.specs.Prelude.{slice_get, ◌&&◌, ◌||◌}
use Rattle.std.proofs.lemmas.Bool.{and_parts}
use Rattle.arc_model.specs.declared.event.Event.{Event}
use Rattle.arc_model.specs.declared.event.Act.TheVariants as acts
use Rattle.arc_model.specs.declared.event.Got.TheVariants as got
use Rattle.arc_model.specs.Shapes.{HeapShape}
use Rattle.arc_model.specs.Heaps.{Holder, Hand, Object}
use Rattle.arc_model.specs.Holders.{same_holder, is_in, is_empty}
use Rattle.arc_model.specs.Cells.{is_immortal, forever_if, strong_holders, is_live}
use Rattle.arc_model.specs.Needs.{first_failing, needs, passes, has_room}
use Rattle.arc_model.specs.History.{History, heap_after, sight, IsLegal}
use Rattle.arc_model.specs.Laws.{strong_in, strong_list, Empties, IsLastStrongDrop, StrongListEndsOnce, LoadsBeforeEnd}
use Rattle.arc_model.proofs.Basics.{true≢false, empty-is, met}
use Rattle.arc_model.proofs.Tally.{no, clash}
use Rattle.arc_model.proofs.Steps.{step_after, later}

-- an object whose strong list isn't empty
not-empty : (shape : HeapShape) (m : Option Object) → strong_in shape m ≢ [] → (o : Object) × (m ≡ Some o) × (is_empty (strong_holders shape o) ≡ false)
not-empty shape None h = absurd (h refl)
not-empty shape (Some o) h = (o, refl, go (strong_holders shape o) h)
  where
    go : (xs : List Holder) → xs ≢ [] → is_empty xs ≡ false
    go [] h = absurd (h refl)
    go (x ∷ xs) h = refl

-- an object of which the event empties the strong list
abbrev Ended : HeapShape → ℕ → History → Event → Type 0
Ended shape i h e = (q : Object) × (slice_get (heap_after (e ∷ h)).objects i ≡ Some q) × (is_empty (strong_holders shape q) ≡ true) × IsLastStrongDrop shape i h e

-- what is stored is among all
stored : (x : Holder) (xs ys : List Holder) → is_in x xs ≡ true → is_in x (xs ++ ys) ≡ true
stored x [] ys h = no h
stored x (z ∷ xs) ys h = go (same_holder x z) h (stored x xs ys)
  where
    go : (b : Bool) → (b || is_in x xs) ≡ true → (is_in x xs ≡ true → is_in x (xs ++ ys) ≡ true) → (b || is_in x (xs ++ ys)) ≡ true
    go true h ih = refl
    go false h ih = ih h

ended : (shape : HeapShape) (i : ℕ) (before : History) (e : Event) → IsLegal shape (e ∷ before) → Empties shape i before e → Ended shape i before e
ended shape i before e legal empties =
    let o = not-empty shape (slice_get (heap_after before).objects i) empties.0 in
    let s = step_after shape e before legal i o.0 o.1 in
    let none : is_empty (strong_holders shape s.q) ≡ true = ap is_empty (sym (ap (strong_in shape) s.here) ∙ empties.1) in
    elim s.life [
      | inl same ↦ clash (is_empty (strong_holders shape s.q)) none (same ∙ o.2)
      | inr last ↦ (s.q, s.here, none, (last.0, last.1, ap (λ m. is_in (Hand e.thread last.0) (strong_in shape m)) o.1 ∙ stored (Hand e.thread last.0) o.0.strong (forever_if (is_immortal shape o.0)) last.2))
    ]

legal-tail : (shape : HeapShape) (before after : History) → IsLegal shape (after ++ before) → IsLegal shape before
legal-tail shape before [] legal = legal
legal-tail shape before (e ∷ after) legal = legal-tail shape before after legal.1

-- after it the object is there and has no strong holder
empty-later : (shape : HeapShape) (i : ℕ) (before after : History) (e : Event) → IsLegal shape (after ++ e ∷ before) → Empties shape i before e → (q : Object) × (slice_get (heap_after (after ++ e ∷ before)).objects i ≡ Some q) × (is_empty (strong_holders shape q) ≡ true)
empty-later shape i before after e legal empties =
    let o = ended shape i before e (legal-tail shape (e ∷ before) after legal) empties in
    let l = later shape i o.0 (e ∷ before) after legal o.1 in
    (l.q, l.here, l.strong o.2)

stays : (shape : HeapShape) (i : ℕ) (before after : History) (e : Event) → IsLegal shape (after ++ e ∷ before) → Empties shape i before e → strong_list shape i (heap_after (after ++ e ∷ before)) ≡ []
stays shape i before after e legal empties =
    let q = empty-later shape i before after e legal empties in
    ap (strong_in shape) q.1 ∙ empty-is (strong_holders shape q.0) q.2

pub ends_once : StrongListEndsOnce
ends_once shape = record {
  once = λ i before between e f legal first second. second.0 (stays shape i before between e legal.1 first);
  by_drop = λ i before e legal empties. (ended shape i before e legal empties).3;
  stays = stays shape;
}

pub loads_before_end : LoadsBeforeEnd
loads_before_end shape i hand took before after e f legal empties load held =
    let h = after ++ e ∷ before in
    let q = empty-later shape i before after e legal.1 empties in
    let ok : first_failing (needs shape (sight f.thread h) f.thread (acts.Load hand (got.Hand took))) ≡ None = ap (λ act. first_failing (needs shape (sight f.thread h) f.thread act)) (sym load) ∙ legal.0 in
    let live : is_live shape q.0 && has_room shape q.0 q.0.strong ≡ true = ap (passes (λ o. is_live shape o && has_room shape o o.strong)) (sym (held ∙ q.1)) ∙ (met (needs shape (sight f.thread h) f.thread (acts.Load hand (got.Hand took))) ok).1.1.0 in
    true≢false (sym (and_parts (is_live shape q.0) (has_room shape q.0 q.0.strong) live).0 ∙ ap not q.2)
