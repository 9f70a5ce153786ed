-- What a change of one word, or of one object, does to what the words show.
use Rattle.std.proofs.Common.{◌≡◌, ◌≢◌, ◌⊎◌, inl, inr, ℕ, zero, suc, ◌+◌, ◌<◌, ◌≤◌, Bool, true, false, cond, List, [], ◌∷◌, ◌++◌, set, Option, Some, None, refl, sym, ap, ◌∙◌, subst, arith, eq-eqb, length-set, get_or-set_same, get_or-set_other}
use Rattle.std.specs.Prelude.{find, slice_get, is_some}
use mathlib.Core.Logic.{dite}
use native.Mathlib.Decide.{ℕ_discrete}
use Rattle.arc_model.specs.Shapes.{HeapShape}
use Rattle.arc_model.specs.Heaps.{Object, Heap}
use Rattle.arc_model.specs.Holders.{is_number, in_slot, at_slot}
use Rattle.arc_model.specs.History.{History, heap_after, IsLegal}
use Rattle.arc_model.specs.WellFormed.{more, total}
use Rattle.arc_model.proofs.Basics.{None≢Some, Some-inj}
use Rattle.arc_model.proofs.Courses.{well_formed}
use Rattle.arc_model.proofs.Turns.{IsPut}
use Rattle.arc_rule.specs.declared.layout.Place.{Place}
use Rattle.arc_rule.specs.Extents.{Extent}
use Rattle.arc_rule.specs.Places.{IsPlace, extent_of, number, place_at, word_count}
use Rattle.arc_rule.specs.declared.layout.Place.TheVariants.{Zero, Global, Count, Isa, Next, Field, Link, Strong, Unowned, Weak, SlotBits, EntryBits}
use Rattle.arc_rule.specs.Shown.{Says, ShowsBut, word_at}
use Rattle.arc_rule.proofs.Places.{place_at-number}
use Rattle.arc_view.specs.Holding.{At}

-- places of one number are one
pub number_same : (l : Extent) (a b : Place) → IsPlace l a → IsPlace l b → number l a ≡ number l b → a ≡ b
number_same l a b ia ib e = sym (place_at-number l a ia) ∙ (ap (place_at l) e ∙ place_at-number l b ib)

pub number_below : (l : Extent) (a : Place) → IsPlace l a → number l a < word_count l
number_below l Zero h = omega arith
number_below l (Global g) h = omega (arith, h)
number_below l (Count s) h = omega (arith, h)
number_below l (Isa s) h = omega (arith, h)
number_below l (Next s) h = omega (arith, h)
number_below l (Field s f) h = let a = h.0 in let b = h.1 in omega (arith, a, b)
number_below l (Link e) h = omega (arith, h)
number_below l (Strong e) h = omega (arith, h)
number_below l (Unowned e) h = omega (arith, h)
number_below l (Weak e) h = omega (arith, h)
number_below l (SlotBits k) h = omega (arith, h)
number_below l (EntryBits k) h = omega (arith, h)

pub word_set : (shape : HeapShape) (E : Place → Type 0) (heap : Heap) (ws : List ℕ) (pl : Place) (y : ℕ) → IsPlace (extent_of shape) pl → ShowsBut E shape heap ws → word_at shape (set ws (number (extent_of shape) pl) y) pl ≡ y
word_set shape E heap ws pl y inside shows = get_or-set_same ws (number (extent_of shape) pl) y 0 (subst (λ n. number (extent_of shape) pl < n) (sym shows.whole) (number_below (extent_of shape) pl inside))

-- The word of one place changes, and the heap: it shows the heap after at that place, and the words that are at the others show it.
pub word_changes_so : (shape : HeapShape) (E F : Place → Type 0) (heap new : Heap) (ws : List ℕ) (pl : Place) (y : ℕ) → IsPlace (extent_of shape) pl → ShowsBut E shape heap ws
    → ((F pl → ⊥) → Says shape new pl y)
    → ((q : Place) → q ≢ pl → (F q → ⊥) → (E q → ⊥))
    → ((q : Place) → IsPlace (extent_of shape) q → q ≢ pl → (F q → ⊥) → Says shape heap q (word_at shape ws q) → Says shape new q (word_at shape ws q))
    → ShowsBut F shape new (set ws (number (extent_of shape) pl) y)
word_changes_so shape E F heap new ws pl y inside shows here less others =
    let l = extent_of shape in record {
      whole = length-set ws (number l pl) y ∙ shows.whole;
      says = λ q iq notF. dite (ℕ_discrete (number l q) (number l pl))
          (λ is. let same : q ≡ pl = number_same l q pl iq inside is in
          subst (λ (r : Place). Says shape new r (word_at shape (set ws (number l pl) y) r)) (sym same)
          (subst (Says shape new pl) (sym (word_set shape E heap ws pl y inside shows)) (here (subst (λ (r : Place). F r → ⊥) same notF))))
          (λ ne. let apart : q ≢ pl = λ e. ne (ap (number l) e) in
          subst (Says shape new q) (sym (get_or-set_other ws (number l pl) (number l q) y 0 ne)) (others q iq apart notF (shows.says q iq (less q apart notF))));
    }

-- whatever words these are
pub word_changes : (shape : HeapShape) (E F : Place → Type 0) (heap new : Heap) (ws : List ℕ) (pl : Place) (y : ℕ) → IsPlace (extent_of shape) pl → ShowsBut E shape heap ws
    → ((F pl → ⊥) → Says shape new pl y)
    → ((q : Place) → q ≢ pl → (F q → ⊥) → (E q → ⊥))
    → ((q : Place) → IsPlace (extent_of shape) q → q ≢ pl → (F q → ⊥) → (w : ℕ) → Says shape heap q w → Says shape new q w)
    → ShowsBut F shape new (set ws (number (extent_of shape) pl) y)
word_changes shape E F heap new ws pl y inside shows here less others = word_changes_so shape E F heap new ws pl y inside shows here less (λ q iq ne notF. others q iq ne notF (word_at shape ws q))

pub shows_to : (shape : HeapShape) (E F : Place → Type 0) (heap : Heap) (ws : List ℕ) → ((q : Place) → E q → F q) → ShowsBut E shape heap ws → ShowsBut F shape heap ws
shows_to shape E F heap ws more shows = record { whole = shows.whole; says = λ q iq notF. shows.says q iq (λ e. notF (more q e)) }

-- what a search for an object finds where one object is put in the place of another that passes as it does
find_append : (test : Object → Bool) (before after : List Object) (o q : Object) → test q ≡ test o →
    ((find test (before ++ o ∷ after) ≡ Some o) × (find test (before ++ q ∷ after) ≡ Some q)) ⊎ (find test (before ++ q ∷ after) ≡ find test (before ++ o ∷ after))
find_append test [] after o q same = go (test o) (test q) refl refl
  where
    go : (a b : Bool) → test o ≡ a → test q ≡ b → ((find test (o ∷ after) ≡ Some o) × (find test (q ∷ after) ≡ Some q)) ⊎ (find test (q ∷ after) ≡ find test (o ∷ after))
    go true b is was = inl (ap (λ c. cond c (Some o) (find test after)) is, ap (λ c. cond c (Some q) (find test after)) (same ∙ is))
    go false b is was = inr (ap (λ c. cond c (Some q) (find test after)) (same ∙ is) ∙ sym (ap (λ c. cond c (Some o) (find test after)) is))
find_append test (r ∷ before) after o q same = go (test r) (find_append test before after o q same)
  where
    go : (b : Bool) → ((find test (before ++ o ∷ after) ≡ Some o) × (find test (before ++ q ∷ after) ≡ Some q)) ⊎ (find test (before ++ q ∷ after) ≡ find test (before ++ o ∷ after)) →
        ((cond b (Some r) (find test (before ++ o ∷ after)) ≡ Some o) × (cond b (Some r) (find test (before ++ q ∷ after)) ≡ Some q)) ⊎ (cond b (Some r) (find test (before ++ q ∷ after)) ≡ cond b (Some r) (find test (before ++ o ∷ after)))
    go true ih = inr refl
    go false ih = ih

pub find_put : (test : Object → Bool) (os rest : List Object) (o q : Object) → IsPut os rest o q → test q ≡ test o →
    ((find test os ≡ Some o) × (find test rest ≡ Some q)) ⊎ (find test rest ≡ find test os)
find_put test os rest o q g same = subst (λ (t : List Object × List Object). ((find test t.0 ≡ Some o) × (find test t.1 ≡ Some q)) ⊎ (find test t.1 ≡ find test t.0)) (λ i. (sym g.old i, sym g.new i)) (find_append test g.before g.after o q same)

-- and where one that doesn't pass is added at the end
pub find_end : (test : Object → Bool) (os : List Object) (o : Object) → test o ≡ false → find test (os ++ o ∷ []) ≡ find test os
find_end test [] o fails = ap (λ b. cond b (Some o) None) fails
find_end test (r ∷ os) o fails = ap (λ m. cond (test r) (Some r) m) (find_end test os o fails)

-- one that passes is found there where no other is
pub find_new : (test : Object → Bool) (os : List Object) (o : Object) → test o ≡ true → find test os ≡ None → find test (os ++ o ∷ []) ≡ Some o
find_new test [] o passes none = ap (λ b. cond b (Some o) None) passes
find_new test (r ∷ os) o passes none = go (test r) none (find_new test os o passes)
  where
    go : (b : Bool) → cond b (Some r) (find test os) ≡ None → (find test os ≡ None → find test (os ++ o ∷ []) ≡ Some o) → cond b (Some r) (find test (os ++ o ∷ [])) ≡ Some o
    go true none ih = absurd (None≢Some r (sym none))
    go false none ih = ih none

-- an object that passes is found
pub found_some : (test : Object → Bool) (os : List Object) (i : ℕ) (o : Object) → slice_get os i ≡ Some o → test o ≡ true → is_some (find test os) ≡ true
found_some test [] i o at passes = absurd (None≢Some o at)
found_some test (r ∷ os) zero o at passes = ap (λ b. is_some (cond b (Some r) (find test os))) (ap test (Some-inj at) ∙ passes)
found_some test (r ∷ os) (suc i) o at passes = go (test r) (found_some test os i o at passes)
  where
    go : (b : Bool) → is_some (find test os) ≡ true → is_some (cond b (Some r) (find test os)) ≡ true
    go true ih = refl
    go false ih = ih

pub slot_is : (m : Option ℕ) (s : ℕ) → m ≡ Some s → is_number m s ≡ true
slot_is m s e = ap (λ n. is_number n s) e ∙ eq-eqb s s refl

-- the one object that passes, where no more do
pub unique_found : (test : Object → Bool) (os : List Object) (i : ℕ) (o : Object) → total (λ r. more (test r) zero) os ≤ 1 → slice_get os i ≡ Some o → test o ≡ true → find test os ≡ Some o
unique_found test [] i o once at passes = absurd (None≢Some o at)
unique_found test (r ∷ os) zero o once at passes = ap (λ b. cond b (Some r) (find test os)) (ap test (Some-inj at) ∙ passes) ∙ at
unique_found test (r ∷ os) (suc i) o once at passes = go (test r) refl once (unique_found test os i o)
  where
    some_at : (qs : List Object) (j : ℕ) → slice_get qs j ≡ Some o → 1 ≤ total (λ r. more (test r) zero) qs
    some_at [] j at = absurd (None≢Some o at)
    some_at (q ∷ qs) zero at = let e : more (test q) zero ≡ suc zero = ap (λ b. more b zero) (ap test (Some-inj at) ∙ passes) in omega (arith, e)
    some_at (q ∷ qs) (suc j) at = let ih = some_at qs j at in omega (arith, ih)

    go : (b : Bool) → test r ≡ b → more (test r) zero + total (λ r. more (test r) zero) os ≤ 1 → (total (λ r. more (test r) zero) os ≤ 1 → slice_get os i ≡ Some o → test o ≡ true → find test os ≡ Some o) → cond (test r) (Some r) (find test os) ≡ Some o
    go true is once ih = let e : more (test r) zero ≡ suc zero = ap (λ b. more b zero) is in let later = some_at os i at in absurd (omega (arith, e, later, once))
    go false is once ih = ap (λ b. cond b (Some r) (find test os)) is ∙ ih (let e : more (test r) zero ≡ zero = ap (λ b. more b zero) is in omega (arith, e, once)) at passes

pub slot_found : (shape : HeapShape) (h : History) (i s : ℕ) (o : Object) → IsLegal shape h → At (heap_after h) i o → o.slot ≡ Some s → at_slot s (heap_after h) ≡ Some o
slot_found shape h i s o legal at slot = unique_found (in_slot s) (heap_after h).objects i o ((well_formed shape h legal).slots s) at (slot_is o.slot s slot)
