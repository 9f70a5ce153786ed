-- An act leaves where it is each hand that it neither brings nor ends.
use Rattle.std.proofs.Common.{◌≡◌, ℕ, zero, Bool, true, false, cond, eqb, List, [], ◌∷◌, ◌++◌, Option, Some, None, refl, sym, ap, ◌∙◌}
use Rattle.std.specs.Prelude.{◌||◌}
use Rattle.std.proofs.lemmas.Bool.{eq-eqb}
use Rattle.arc_model.specs.declared.event.Act.{Act}
use Rattle.arc_model.specs.declared.event.Act.TheVariants as acts
use Rattle.arc_model.specs.declared.event.CellName.{CellName}
use Rattle.arc_model.specs.declared.event.CellName.TheVariants as cells
use Rattle.arc_model.specs.declared.event.Got.TheVariants as got
use Rattle.arc_model.specs.declared.shape.Kind.{Kind}
use Rattle.arc_model.specs.declared.shape.Kind.TheVariants.{Strong, Unowned, Weak}
use Rattle.arc_model.specs.Heaps.{Holder, Hand, Strongs, Unowneds, Object, Heap}
use Rattle.arc_model.specs.Holders.{at_first, change, gains, has_entry, held_by, holds, in_slot, is_in, is_number, kind_in, lists, renamed, same_holder, with_last, with_list, without}
use Rattle.arc_model.specs.Cells.{cell, origin}
use Rattle.arc_model.specs.Effects.{becomes, claimed_if, effect, ended_if, entry_left, entry_to, finished, given_up, gone, left_slot, made, owing_none, taken_out, vacated}
use Rattle.arc_model.specs.Own.{brings_hand, ends_hand}
use Rattle.arc_model.specs.Lookup.{further, spot_in, spot}
use Rattle.arc_model.proofs.Tally.{same-eq, clash}
use Rattle.arc_model.proofs.Courses.{hand-cell}
use Rattle.arc_model.proofs.Others.{spot-end, made-apart, false-if}
use Rattle.arc_model.proofs.Builds.{hand-is}

-- z is in the same lists
abbrev pub SameIn : Holder → Object → Object → Type 0
SameIn z q o = (is_in z q.strong ≡ is_in z o.strong) × (is_in z q.unowned ≡ is_in z o.unowned) × (is_in z q.weak ≡ is_in z o.weak)

-- a change that leaves z where it is
pub spot-change : (z : Holder) (test : Object → Bool) (f : Object → Object) (os : List Object) → ((o : Object) → SameIn z (f o) o) → spot_in z (at_first test f os) ≡ spot_in z os
spot-change z test f [] same = refl
spot-change z test f (o ∷ os) same = go (test o) (spot-change z test f os same)
  where
    h : holds z (f o) ≡ holds z o
    h = let m = same o in ap (λ s. s || is_in z (f o).unowned || is_in z (f o).weak) m.0 ∙ ap (λ u. is_in z o.strong || u || is_in z (f o).weak) m.1 ∙ ap (λ w. is_in z o.strong || is_in z o.unowned || w) m.2

    k : kind_in z (f o) ≡ kind_in z o
    k = let m = same o in ap (λ s. cond s Strong (cond (is_in z (f o).unowned) Unowned Weak)) m.0 ∙ ap (λ u. cond (is_in z o.strong) Strong (cond u Unowned Weak)) m.1

    go : (b : Bool) → spot_in z (at_first test f os) ≡ spot_in z os → spot_in z (cond b (f o ∷ os) (o ∷ at_first test f os)) ≡ cond (holds z o) (Some (record { place = zero; kind = kind_in z o })) (further (spot_in z os))
    go true ih =
        ap (λ b. cond b (Some (record { place = zero; kind = kind_in z (f o) })) (further (spot_in z os))) h
        ∙ ap (λ j. cond (holds z o) (Some (record { place = zero; kind = j })) (further (spot_in z os))) k
    go false ih = ap (λ s. cond (holds z o) (Some (record { place = zero; kind = kind_in z o })) (further s)) ih

-- lists in which z stays
pub in-push : (z y : Holder) (xs : List Holder) → same_holder z y ≡ false → is_in z (xs ++ y ∷ []) ≡ is_in z xs
in-push z y [] h = ap (λ b. b || false) h
in-push z y (x ∷ xs) h = ap (λ b. same_holder z x || b) (in-push z y xs h)

pub in-gains : (z x y : Holder) (xs : List Holder) → same_holder z y ≡ false → is_in z (gains x y xs) ≡ is_in z xs
in-gains z x y xs h = go (is_in x xs)
  where
    go : (b : Bool) → is_in z (cond b (xs ++ y ∷ []) xs) ≡ is_in z xs
    go true = in-push z y xs h
    go false = refl

pub in-without : (z x : Holder) (xs : List Holder) → same_holder z x ≡ false → is_in z (without x xs) ≡ is_in z xs
in-without z x [] h = refl
in-without z x (w ∷ ws) h = go (same_holder x w) refl (in-without z x ws h)
  where
    go : (b : Bool) → same_holder x w ≡ b → is_in z (without x ws) ≡ is_in z ws → is_in z (cond b ws (w ∷ without x ws)) ≡ (same_holder z w || is_in z ws)
    go true e ih = ap (λ b. b || is_in z ws) (sym (ap (same_holder z) (sym (same-eq x w e)) ∙ h))
    go false e ih = ap (λ b. same_holder z w || b) ih

pub in-renamed : (z x y : Holder) (xs : List Holder) → same_holder z x ≡ false → same_holder z y ≡ false → is_in z (renamed x y xs) ≡ is_in z xs
in-renamed z x y [] h k = refl
in-renamed z x y (w ∷ ws) h k = go (same_holder x w) refl (in-renamed z x y ws h k)
  where
    go : (b : Bool) → same_holder x w ≡ b → is_in z (renamed x y ws) ≡ is_in z ws → is_in z (cond b (y ∷ ws) (w ∷ renamed x y ws)) ≡ (same_holder z w || is_in z ws)
    go true e ih = ap (λ b. b || is_in z ws) (k ∙ sym (ap (same_holder z) (sym (same-eq x w e)) ∙ h))
    go false e ih = ap (λ b. same_holder z w || b) ih

pub list-same : (z : Holder) (k : Kind) (f : List Holder → List Holder) (o : Object) → ((xs : List Holder) → is_in z (f xs) ≡ is_in z xs) → SameIn z (with_list k f o) o
list-same z Strong f o same = (same o.strong, refl, refl)
list-same z Unowned f o same = (refl, same o.unowned, refl)
list-same z Weak f o same = (refl, refl, same o.weak)

pub ended-same : (z : Holder) (last : Bool) (p : ℕ) (k : Kind) (q o : Object) → SameIn z q o → SameIn z (ended_if last p k q) o
ended-same z true p Strong q o same = same
ended-same z true p Unowned q o same = same
ended-same z true p Weak q o same = same
ended-same z false p k q o same = same

pub left-same : (z : Holder) (p : ℕ) (m : Option ℕ) (o : Object) → same_holder z Unowneds ≡ false → SameIn z (left_slot p m (owing_none (record o { slot = None }))) o
left-same z p None o h = (refl, refl, in-without z Unowneds o.weak h)
left-same z p (Some e) o h = (refl, refl, refl)

pub renamed-spot : (z x y : Holder) (heap : Heap) → same_holder z x ≡ false → same_holder z y ≡ false → spot z (becomes x y heap) ≡ spot z heap
renamed-spot z x y heap h k = spot-change z (holds x) (lists (renamed x y)) heap.objects (λ o. (in-renamed z x y o.strong h k, in-renamed z x y o.unowned h k, in-renamed z x y o.weak h k))

pub entry_to-spot : (z : Holder) (p : ℕ) (m : Option ℕ) (heap : Heap) → spot z (entry_to p m heap) ≡ spot z heap
entry_to-spot z p None heap = refl
entry_to-spot z p (Some e) heap = refl

claimed_if-spot : (z : Holder) (last : Bool) (p e : ℕ) (heap : Heap) → spot z (claimed_if last p e heap) ≡ spot z heap
claimed_if-spot z true p e heap = refl
claimed_if-spot z false p e heap = refl

-- another hand of the thread
apart : (p j k : ℕ) → eqb k j ≡ false → same_holder (Hand p j) (Hand p k) ≡ false
apart p j k h = false-if (same_holder (Hand p j) (Hand p k)) (λ e. let g = hand-is p j p k e in clash (eqb k j) (eq-eqb k j (sym g.1)) h)

taken-spot : (p j : ℕ) (c : CellName) (k : Option ℕ) (at heap : Heap) → is_number k j ≡ false → spot (Hand p j) (taken_out (cell at c) p k heap) ≡ spot (Hand p j) heap
taken-spot p j c None at heap h = refl
taken-spot p j c (Some k) at heap h = renamed-spot (Hand p j) (cell at c) (Hand p k) heap (hand-cell p j at c) (apart p j k h)

-- the hands that are left where they are
pub hand_same : (p j : ℕ) (act : Act) (heap : Heap) → is_number (brings_hand act) j ≡ false → ends_hand j act ≡ false → spot (Hand p j) (effect p act heap) ≡ spot (Hand p j) heap
hand_same p j (acts.New k c s) heap b e = spot-end (Hand p j) heap.objects (made p k c s heap.objects) (made-apart (Hand p j) p k c s heap.objects refl (apart p j k b))
hand_same p j acts.Full heap b e = refl
hand_same p j (acts.Copy from k) heap b e =
    let z = Hand p j in
    let x = origin heap p from in
    let a = apart p j k b in
    spot-change z (holds x) (lists (gains x (Hand p k))) heap.objects (λ o. (in-gains z x (Hand p k) o.strong a, in-gains z x (Hand p k) o.unowned a, in-gains z x (Hand p k) o.weak a))
hand_same p j (acts.UnownedOf h k) heap b e = spot-change (Hand p j) (holds (Hand p h)) (with_list Unowned (with_last (Hand p k))) heap.objects (λ o. (refl, in-push (Hand p j) (Hand p k) o.unowned (apart p j k b), refl))
hand_same p j (acts.WeakOf h k) heap b e = spot-change (Hand p j) (holds (Hand p h)) (with_list Weak (with_last (Hand p k))) heap.objects (λ o. (refl, refl, in-push (Hand p j) (Hand p k) o.weak (apart p j k b)))
hand_same p j (acts.Load h (got.Hand k)) heap b e = spot-change (Hand p j) (holds (Hand p h)) (with_list Strong (with_last (Hand p k))) heap.objects (λ o. (in-push (Hand p j) (Hand p k) o.strong (apart p j k b), refl, refl))
hand_same p j (acts.Load h got.Dead) heap b e = refl
hand_same p j (acts.Load h got.Nil) heap b e = refl
hand_same p j (acts.Drop h last) heap b e =
    let z = Hand p j in
    entry_to-spot z p (entry_left (Hand p h) last (held_by (Hand p h) heap)) (change (holds (Hand p h)) (given_up p (Hand p h) last) heap)
    ∙ spot-change z (holds (Hand p h)) (given_up p (Hand p h) last) heap.objects (λ o.
    ended-same z last p (kind_in (Hand p h) o) (with_list (kind_in (Hand p h) o) (without (Hand p h)) o) o (list-same z (kind_in (Hand p h) o) (without (Hand p h)) o (λ xs. in-without z (Hand p h) xs (apart p j h e))))
hand_same p j (acts.CountFull k from) heap b e = refl
hand_same p j (acts.Claim n) heap b e = refl
hand_same p j acts.NoEntry heap b e = refl
hand_same p j (acts.Side s n why) heap b e = spot-change (Hand p j) (in_slot s) (λ o. record o { entry = Some n }) heap.objects (λ o. (refl, refl, refl))
hand_same p j (acts.Back n) heap b e = refl
hand_same p j (acts.Swap c None k) heap b e = taken-spot p j c k heap heap b
hand_same p j (acts.Swap c (Some h) k) heap b e =
    renamed-spot (Hand p j) (Hand p h) (cell heap c) (taken_out (cell heap c) p k heap) (apart p j h e) (hand-cell p j heap c) ∙ taken-spot p j c k heap heap b
hand_same p j (acts.Look c) heap b e = refl
hand_same p j (acts.Take s f k) heap b e = taken-spot p j (cells.Field s f) (Some k) heap heap b
hand_same p j (acts.Finish s last) heap b e =
    spot-change (Hand p j) (in_slot s) (finished p last) heap.objects (λ o.
    ended-same (Hand p j) last p Unowned (owing_none (with_list Unowned (without Strongs) o)) o (refl, in-without (Hand p j) Strongs o.unowned refl, refl))
hand_same p j (acts.Vacate s) heap b e = spot-change (Hand p j) (in_slot s) (vacated p) heap.objects (λ o. left-same (Hand p j) p o.entry o refl)
hand_same p j (acts.Gone n last) heap b e =
    claimed_if-spot (Hand p j) last p n (change (has_entry n) (gone p last) heap)
    ∙ spot-change (Hand p j) (has_entry n) (gone p last) heap.objects (λ o.
    ended-same (Hand p j) last p Weak (owing_none (with_list Weak (without Unowneds) o)) o (refl, refl, in-without (Hand p j) Unowneds o.weak refl))
