-- Strong references that a pass doesn't give up stay where they are.
use Rattle.std.proofs.Common.{◌≡◌, ℕ, Bool, true, false, cond, List, [], ◌∷◌, ◌++◌, Option, Some, inl, refl, sym, ap, ◌∙◌, subst}
use Rattle.std.specs.Prelude.{slice_get, is_some}
use Rattle.std.proofs.lemmas.Bool.{eqb-true}
use Rattle.arc_model.proofs.Basics.{in-not_empty}
use Rattle.arc_model.specs.declared.event.Act.{Act}
use Rattle.arc_model.specs.declared.event.Event.{Event}
use Rattle.arc_model.specs.declared.shape.Kind.TheVariants.{Strong}
use Rattle.arc_model.specs.Shapes.{HeapShape}
use Rattle.arc_model.specs.Heaps.{Hand, Object, Heap}
use Rattle.arc_model.specs.History.{History, heap_after, is_of, share, IsLegal}
use Rattle.arc_model.specs.Lookup.{Spot, spot}
use Rattle.arc_model.specs.Own.{ends_hand}
use Rattle.arc_model.proofs.Others.{others_leave, own_leave}
use Rattle.arc_view.specs.declared.view.View.{View}
use Rattle.arc_view.specs.Views.{Each}
use Rattle.arc_view.specs.Holding.{At, heap_of}
use Rattle.arc_view.specs.Calls.{events_by, Called, Took}
use Rattle.arc_view.proofs.Held.{hand_listed, stays_after}
use Rattle.arc_view_laws.specs.Having.{IsStrongOf, KeepsStrong, StandsAs}
use Rattle.arc_view_laws.proofs.Moving.{Follows, called_follows, took_follows}

-- hand k of p stands in the strong list of object o, which is at place i
pub record IsStrongAt (p k i s class : ℕ) (heap : Heap) : Type 0 where
  pub o : Object
  pub hand : spot (Hand p k) heap ≡ Some (record { place = i; kind = Strong })
  pub here : At heap i o
  pub slot : o.slot ≡ Some s
  pub is_class : o.class ≡ class

-- the event leaves the hand
leaves : (shape : HeapShape) (p k i s class : ℕ) (e : Event) (h : History) → IsLegal shape (e ∷ h) → spot (Hand p k) (heap_after (e ∷ h)) ≡ spot (Hand p k) (heap_after h) → IsStrongAt p k i s class (heap_after h) → IsStrongAt p k i s class (heap_after (e ∷ h))
leaves shape p k i s class e h legal same t =
    let q = stays_after shape e h legal i t.o t.here in
    let busy = in-not_empty (Hand p k) t.o.strong (hand_listed shape h p k i Strong t.o legal.1 t.hand t.here) in
    record { o = q.q; hand = same ∙ t.hand; here = q.here; slot = q.slot (inl busy) ∙ t.slot; is_class = q.class ∙ t.is_class }

-- events that don't end it leave it
pub strong_on : (shape : HeapShape) (p k i s class : ℕ) (before after : History) → IsLegal shape (after ++ before) → Each (λ (e : Event). ends_hand k e.act ≡ false) (share after p) → IsStrongAt p k i s class (heap_after before) → IsStrongAt p k i s class (heap_after (after ++ before))
strong_on shape p k i s class before [] legal each t = t
strong_on shape p k i s class before (e ∷ after) legal each t = go (is_of p e) refl each (λ rest. strong_on shape p k i s class before after legal.1 rest t)
  where
    go : (b : Bool) → is_of p e ≡ b → Each (λ (e : Event). ends_hand k e.act ≡ false) (cond b (e ∷ share after p) (share after p)) → (Each (λ (e : Event). ends_hand k e.act ≡ false) (share after p) → IsStrongAt p k i s class (heap_after (after ++ before))) → IsStrongAt p k i s class (heap_after (e ∷ after ++ before))
    go true mine each ih =
        let t = ih each.1 in
        let p_is = eqb-true e.thread p mine in
        leaves shape p k i s class e (after ++ before) legal (subst (λ q. spot (Hand q k) (heap_after (e ∷ after ++ before)) ≡ spot (Hand q k) (heap_after (after ++ before))) p_is
        (own_leave shape (after ++ before) e k legal (ap is_some (ap (λ q. spot (Hand q k) (heap_after (after ++ before))) p_is ∙ t.hand)) each.0)) t
    go false other each ih =
        leaves shape p k i s class e (after ++ before) legal ((others_leave shape p (after ++ before) (e ∷ []) legal (ap (λ b. cond b (e ∷ []) []) other)).hands k) (ih each)

spared : (p k : ℕ) (xs : List Act) → Each (λ (a : Act). ends_hand k a ≡ false) xs → Each (λ (e : Event). ends_hand k e.act ≡ false) (events_by p xs)
spared p k [] each = tt
spared p k (a ∷ xs) each = (each.0, spared p k xs each.1)

follows_stands : (shape : HeapShape) (own : History) (v w : View) (k : ℕ) → Follows shape v w own → Each (λ (e : Event). ends_hand k e.act ≡ false) own → StandsAs v k w k
follows_stands shape own v w k f each s class (i, o, hand, here, slot, is_class) =
    let t = strong_on shape v.number k i s class v.seen f.rest f.legal (subst (Each (λ (e : Event). ends_hand k e.act ≡ false)) (sym f.mine) each) (record { o = o; hand = hand; here = here; slot = slot; is_class = is_class }) in
    subst (λ (x : ℕ × History). IsStrongAtPair x.0 (heap_after x.1)) (λ j. (sym f.number j, sym f.is j)) (i, t.o, t.hand, t.here, t.slot, t.is_class)
  where
    IsStrongAtPair : ℕ → Heap → Type 0
    IsStrongAtPair q heap = (i : ℕ) × (o : Object) × (spot (Hand q k) heap ≡ Some (record { place = i; kind = Strong })) × At heap i o × (o.slot ≡ Some s) × (o.class ≡ class)

-- a call that doesn't end the hand keeps the strong reference
pub stands : (shape : HeapShape) (xs : List Act) (n : ℕ) (v w : View) (k : ℕ) → Called shape xs n v w → Each (λ (a : Act). ends_hand k a ≡ false) xs → StandsAs v k w k
stands shape xs n v w k c each = follows_stands shape (events_by v.number xs) v w k (called_follows shape xs n v w c) (spared v.number k xs each)

-- a call that ends no hand keeps every strong reference
pub keeps_strong : (shape : HeapShape) (xs : List Act) (n : ℕ) (v w : View) → Called shape xs n v w → ((k : ℕ) → Each (λ (a : Act). ends_hand k a ≡ false) xs) → KeepsStrong v w
keeps_strong shape xs n v w c each k = stands shape xs n v w k c (each k)

-- so does a pass that takes in another
pub took_strong : (shape : HeapShape) (v u w : View) → Took shape v u w → KeepsStrong v w
took_strong shape v u w t k = follows_stands shape [] v w k (took_follows shape v u w t) tt

-- a hand is a strong one of a single object: its slot and class are settled
pub strong_one : (v : View) (k s t class class' : ℕ) → IsStrongOf v k s class → IsStrongOf v k t class' → (s ≡ t) × (class ≡ class')
strong_one v k s t class class' (i, o, hand, here, slot, is) (j, q, hand', here', slot', is') =
    let place : i ≡ j = spot_inj i j (sym hand ∙ hand') in
    let same : o ≡ q = some_inj (sym here ∙ (ap (slice_get (heap_of v).objects) place ∙ here')) in
    (some_inj (sym slot ∙ (ap (λ (x : Object). x.slot) same ∙ slot')), sym is ∙ (ap (λ (x : Object). x.class) same ∙ is'))
  where
    some_inj : {X : Type 0} {a b : X} → Some a ≡ Some b → a ≡ b
    some_inj e = cc

    spot_inj : (a b : ℕ) → Path (Option Spot) (Some (record { place = a; kind = Strong })) (Some (record { place = b; kind = Strong })) → a ≡ b
    spot_inj a b e = ap (λ (x : Spot). x.place) (some_inj e)

-- so one strong reference tells how the hand stands
pub stands_as : (v w : View) (k m s class : ℕ) → IsStrongOf v k s class → IsStrongOf w m s class → StandsAs v k w m
stands_as v w k m s class had has t class' other = let same = strong_one v k s t class class' had other in subst (λ (x : ℕ × ℕ). IsStrongOf w m x.0 x.1) (λ j. (same.0 j, same.1 j)) has
