-- A hand that an act neither brings nor ends stays where it stands.
use Rattle.std.proofs.Common.{◌≡◌, ℕ, zero, suc, Bool, true, false, cond, List, [], ◌∷◌, ◌++◌, Option, Some, None, refl, sym, ap, ◌∙◌}
use Rattle.std.specs.Prelude.{◌||◌, find, slice_get}
use Rattle.std.proofs.lemmas.Bool.{eq-eqb}
use Rattle.arc_model.specs.declared.event.Act.{Act}
use Rattle.arc_model.specs.declared.event.Act.TheVariants as acts
use Rattle.arc_model.specs.declared.event.CellName.TheVariants as cells
use Rattle.arc_model.specs.declared.event.Got.TheVariants as got
use Rattle.arc_model.specs.declared.shape.Kind.{Kind}
use Rattle.arc_model.specs.declared.shape.Kind.TheVariants.{Strong, Unowned, Weak}
use Rattle.arc_model.specs.Heaps.{Holder, Hand, Strongs, Unowneds, Object, Heap}
use Rattle.arc_model.specs.Holders.{same_holder, is_in, gains, without, renamed, lists, with_list, with_last, holds, kind_in, at_first, change, held_by, in_slot, has_entry}
use Rattle.arc_model.specs.Cells.{cell, origin, id_of}
use Rattle.arc_model.specs.Effects.{becomes, claimed_if, effect, ended_if, entry_left, entry_to, finished, given_up, gone, left_slot, made, owing_none, vacated}
use Rattle.arc_model.specs.Lookup.{spot, spot_in, further}
use Rattle.arc_model.specs.Own.{ends_hand, brings_hand}
use Rattle.arc_model.proofs.Tally.{same-eq}
use Rattle.arc_model.proofs.Courses.{hand-cell}
use Rattle.arc_model.proofs.Others.{spot-end, made-apart}
use Rattle.arc_model.proofs.HandSpots.{spot-change, in-push, in-gains, in-without, list-same, ended-same, left-same, renamed-spot, entry_to-spot}
use Rattle.arc_heap_index.specs.Counting.{placed}

claimed_if-spot : (z : Holder) (last : Bool) (p e : ℕ) (heap : Heap) → spot z (claimed_if last p e heap) ≡ spot z heap
claimed_if-spot z true p e heap = refl
claimed_if-spot z false p e heap = refl

abbrev pub Apart : ℕ → Act → ℕ → ℕ → Type 0
Apart p act q m = ((k : ℕ) → brings_hand act ≡ Some k → same_holder (Hand q m) (Hand p k) ≡ false) × ((k : ℕ) → ends_hand k act ≡ true → same_holder (Hand q m) (Hand p k) ≡ false)

pub hand-stays : (p : ℕ) (act : Act) (heap : Heap) (q m : ℕ) → Apart p act q m → spot (Hand q m) (effect p act heap) ≡ spot (Hand q m) heap
hand-stays p (acts.New k c s) heap q m apart = spot-end (Hand q m) heap.objects (made p k c s heap.objects) (made-apart (Hand q m) p k c s heap.objects refl (apart.0 k refl))
hand-stays p acts.Full heap q m apart = refl
hand-stays p (acts.Copy from k) heap q m apart =
    let x = origin heap p from in
    let z : Holder = Hand q m in
    let d = apart.0 k refl in
    spot-change z (holds x) (lists (gains x (Hand p k))) heap.objects (λ o. (in-gains z x (Hand p k) o.strong d, in-gains z x (Hand p k) o.unowned d, in-gains z x (Hand p k) o.weak d))
hand-stays p (acts.UnownedOf h k) heap q m apart = spot-change (Hand q m) (holds (Hand p h)) (with_list Unowned (with_last (Hand p k))) heap.objects (λ o. (refl, in-push (Hand q m) (Hand p k) o.unowned (apart.0 k refl), refl))
hand-stays p (acts.WeakOf h k) heap q m apart = spot-change (Hand q m) (holds (Hand p h)) (with_list Weak (with_last (Hand p k))) heap.objects (λ o. (refl, refl, in-push (Hand q m) (Hand p k) o.weak (apart.0 k refl)))
hand-stays p (acts.Load h (got.Hand k)) heap q m apart = spot-change (Hand q m) (holds (Hand p h)) (with_list Strong (with_last (Hand p k))) heap.objects (λ o. (in-push (Hand q m) (Hand p k) o.strong (apart.0 k refl), refl, refl))
hand-stays p (acts.Load h got.Dead) heap q m apart = refl
hand-stays p (acts.Load h got.Nil) heap q m apart = refl
hand-stays p (acts.Drop h last) heap q m apart =
    let z : Holder = Hand q m in
    let d = apart.1 h (eq-eqb h h refl) in
    entry_to-spot z p (entry_left (Hand p h) last (held_by (Hand p h) heap)) (change (holds (Hand p h)) (given_up p (Hand p h) last) heap)
    ∙ spot-change z (holds (Hand p h)) (given_up p (Hand p h) last) heap.objects (λ o.
    ended-same z last p (kind_in (Hand p h) o) (with_list (kind_in (Hand p h) o) (without (Hand p h)) o) o (list-same z (kind_in (Hand p h) o) (without (Hand p h)) o (λ xs. in-without z (Hand p h) xs d)))
hand-stays p (acts.CountFull k from) heap q m apart = refl
hand-stays p (acts.Claim e) heap q m apart = refl
hand-stays p acts.NoEntry heap q m apart = refl
hand-stays p (acts.Side s e why) heap q m apart = spot-change (Hand q m) (in_slot s) (λ o. record o { entry = Some e }) heap.objects (λ o. (refl, refl, refl))
hand-stays p (acts.Back e) heap q m apart = refl
hand-stays p (acts.Swap c None None) heap q m apart = refl
hand-stays p (acts.Swap c None (Some k)) heap q m apart = renamed-spot (Hand q m) (cell heap c) (Hand p k) heap (hand-cell q m heap c) (apart.0 k refl)
hand-stays p (acts.Swap c (Some h) None) heap q m apart = renamed-spot (Hand q m) (Hand p h) (cell heap c) heap (apart.1 h (eq-eqb h h refl)) (hand-cell q m heap c)
hand-stays p (acts.Swap c (Some h) (Some k)) heap q m apart =
    renamed-spot (Hand q m) (Hand p h) (cell heap c) (becomes (cell heap c) (Hand p k) heap) (apart.1 h (eq-eqb h h refl)) (hand-cell q m heap c)
    ∙ renamed-spot (Hand q m) (cell heap c) (Hand p k) heap (hand-cell q m heap c) (apart.0 k refl)
hand-stays p (acts.Look c) heap q m apart = refl
hand-stays p (acts.Take s f k) heap q m apart = renamed-spot (Hand q m) (cell heap (cells.Field s f)) (Hand p k) heap (hand-cell q m heap (cells.Field s f)) (apart.0 k refl)
hand-stays p (acts.Finish s last) heap q m apart =
    let z : Holder = Hand q m in
    spot-change z (in_slot s) (finished p last) heap.objects (λ o.
    ended-same z last p Unowned (owing_none (with_list Unowned (without Strongs) o)) o (refl, in-without z Strongs o.unowned refl, refl))
hand-stays p (acts.Vacate s) heap q m apart = spot-change (Hand q m) (in_slot s) (vacated p) heap.objects (λ o. left-same (Hand q m) p o.entry o refl)
hand-stays p (acts.Gone e last) heap q m apart =
    let z : Holder = Hand q m in
    claimed_if-spot z last p e (change (has_entry e) (gone p last) heap)
    ∙ spot-change z (has_entry e) (gone p last) heap.objects (λ o.
    ended-same z last p Weak (owing_none (with_list Weak (without Unowneds) o)) o (refl, refl, in-without z Unowneds o.weak refl))

-- the object in a slot has its name, whatever else becomes of it
pub ids-placed : (s : ℕ) (os : List Object) (i : ℕ) (o q : Object) → slice_get os i ≡ Some o → q.id ≡ o.id → q.slot ≡ o.slot → id_of (find (in_slot s) (placed i q os)) ≡ id_of (find (in_slot s) os)
ids-placed s [] i o q here id slot = refl
ids-placed s (x ∷ xs) zero o q here id slot =
    let same : x ≡ o = let g = here in cc in
    ap (λ m. id_of (cond (Rattle.arc_model.specs.Holders.is_number m s) (Some q) (find (in_slot s) xs))) (slot ∙ ap (λ (r : Object). r.slot) (sym same))
    ∙ go (in_slot s x) (id ∙ ap (λ (r : Object). r.id) (sym same))
  where
    go : (b : Bool) → q.id ≡ x.id → id_of (cond b (Some q) (find (in_slot s) xs)) ≡ id_of (cond b (Some x) (find (in_slot s) xs))
    go true e = e
    go false e = refl
ids-placed s (x ∷ xs) (suc i) o q here id slot = go (in_slot s x) (ids-placed s xs i o q here id slot)
  where
    go : (b : Bool) → id_of (find (in_slot s) (placed i q xs)) ≡ id_of (find (in_slot s) xs) → id_of (cond b (Some x) (find (in_slot s) (placed i q xs))) ≡ id_of (cond b (Some x) (find (in_slot s) xs))
    go true e = refl
    go false e = e
