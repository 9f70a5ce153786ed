-- The deinit that a pass owes: the drop of an object's last strong reference brings it, and it stays until its own act ends it.
use Rattle.std.proofs.Common.{◌≡◌, inl, inr, ℕ, ◌==◌, ◌&&◌, Bool, true, false, cond, List, [], ◌∷◌, ◌++◌, Option, Some, None, refl, sym, ap, ◌∙◌, subst, append_assoc, eq-eqb}
use Rattle.std.specs.Prelude.{slice_get}
use Rattle.std.proofs.lemmas.Bool.{eqb-true}
use Rattle.arc_model.specs.declared.event.Act.{Act}
use Rattle.arc_model.specs.declared.event.Act.TheVariants as acts
use Rattle.arc_model.specs.declared.event.Event.{Event}
use Rattle.arc_model.specs.declared.shape.Kind.TheVariants.{Strong, Unowned}
use Rattle.arc_model.specs.Shapes.{HeapShape}
use Rattle.arc_model.specs.Heaps.{Hand, Deinit, Vacating, Owed, Object, Heap}
use Rattle.arc_model.specs.History.{History, heap_after, is_of, share, IsLegal}
use Rattle.arc_model.specs.Lookup.{spot, duty_of, duty_in, owed_by, owed_in, is_spot}
use Rattle.arc_model.specs.Own.{ends, ends_hand}
use Rattle.arc_model.proofs.Basics.{None≢Some, Some-inj, in-not_empty}
use Rattle.arc_model.proofs.Tally.{clash}
use Rattle.arc_model.proofs.Others.{duties_last}
use Rattle.arc_model.proofs.Duties.{own_duties}
use Rattle.arc_view.specs.declared.view.View.{View}
use Rattle.arc_view.specs.Views.{Each}
use Rattle.arc_view.specs.Holding.{At}
use Rattle.arc_view.specs.Calls.{events_by, Called, Took}
use Rattle.arc_view.proofs.Held.{hand_listed, stays_after, dying_busy}
use Rattle.arc_view_laws.specs.Having.{IsStrongOf, IsDyingOf, KeepsDying}
use Rattle.arc_view_laws.proofs.Moving.{Follows, called_follows, took_follows, cut, legal_tail}
use Rattle.arc_view_laws.proofs.Kept.{IsStrongAt, strong_on}

-- p owes the deinit of object o, which is at place i
pub record IsDyingAt (p i s class : ℕ) (heap : Heap) : Type 0 where
  pub o : Object
  pub here : At heap i o
  pub duty : duty_of p i heap ≡ Some Deinit
  pub slot : o.slot ≡ Some s
  pub is_class : o.class ≡ class

owed_of : (p : ℕ) (m : Option Owed) → owed_by p m ≡ Some Deinit → m ≡ Some (record { thread = p; duty = Deinit })
owed_of p None e = absurd (None≢Some Deinit e)
owed_of p (Some d) e = go (d.thread == p) refl e
  where
    go : (b : Bool) → (d.thread == p) ≡ b → cond b (Some d.duty) None ≡ Some Deinit → Some d ≡ Some (record { thread = p; duty = Deinit })
    go true is e = λ j. Some (record { thread = eqb-true d.thread p is j; duty = Some-inj e j })
    go false is e = absurd (None≢Some Deinit e)

by_owed : (p : ℕ) → owed_by p (Some (record { thread = p; duty = Deinit })) ≡ Some Deinit
by_owed p = ap (λ b. cond b (Some Deinit) None) (eq-eqb p p refl)

-- an event that isn't p's end of a deinit leaves it
dying_leaves : (shape : HeapShape) (p i s class : ℕ) (e : Event) (h : History) → IsLegal shape (e ∷ h) → (e.thread ≡ p → ends Deinit e.act ≡ false) → IsDyingAt p i s class (heap_after h) → IsDyingAt p i s class (heap_after (e ∷ h))
dying_leaves shape p i s class e h legal kept t =
    let owed : owed_by p t.o.owed ≡ Some Deinit = ap (λ m. duty_in p m) (sym t.here) ∙ t.duty in
    let was : owed_in (slice_at h) ≡ Some (record { thread = p; duty = Deinit }) = ap owed_in t.here ∙ owed_of p t.o.owed owed in
    let q = stays_after shape e h legal i t.o t.here in
    let is = elim (duties_last shape h e i (record { thread = p; duty = Deinit }) legal was) as (λ _. owed_in (slice_at (e ∷ h)) ≡ Some (record { thread = p; duty = Deinit })) [
      | inl same ↦ same
      | inr ended ↦ clash (ends Deinit e.act) ended.1 (kept (sym ended.0))
    ] in record {
      o = q.q;
      here = q.here;
      duty = ap (duty_in p) q.here ∙ (ap (owed_by p) (sym (ap owed_in q.here) ∙ is) ∙ by_owed p);
      slot = q.slot (dying_busy shape h p i t.o legal.1 t.here t.duty) ∙ t.slot;
      is_class = q.class ∙ t.is_class;
    }
  where
    slice_at : History → Option Object
    slice_at l = slice_get (heap_after l).objects i

pub dying_on : (shape : HeapShape) (p i s class : ℕ) (before after : History) → IsLegal shape (after ++ before) → Each (λ (e : Event). ends Deinit e.act ≡ false) (share after p) → IsDyingAt p i s class (heap_after before) → IsDyingAt p i s class (heap_after (after ++ before))
dying_on shape p i s class before [] legal each t = t
dying_on shape p i s class before (e ∷ after) legal each t = go (is_of p e) refl each (λ rest. dying_on shape p i s class before after legal.1 rest t)
  where
    go : (b : Bool) → is_of p e ≡ b → Each (λ (e : Event). ends Deinit e.act ≡ false) (cond b (e ∷ share after p) (share after p)) → (Each (λ (e : Event). ends Deinit e.act ≡ false) (share after p) → IsDyingAt p i s class (heap_after (after ++ before))) → IsDyingAt p i s class (heap_after (e ∷ after ++ before))
    go true mine each ih = dying_leaves shape p i s class e (after ++ before) legal (λ _. each.0) (ih each.1)
    go false other each ih = dying_leaves shape p i s class e (after ++ before) legal (λ same. clash (is_of p e) (eq-eqb e.thread p same) other) (ih each)

pub is_dying : (p i s class : ℕ) (v w : View) (own : History) (shape : HeapShape) (f : Follows shape v w own) → IsDyingAt v.number i s class (heap_after (f.rest ++ v.seen)) → IsDyingOf w s class
is_dying p i s class v w own shape f t = (
  i,
  t.o,
  ap (λ l. slice_get (heap_after l).objects i) f.is ∙ t.here,
  (λ j. duty_of (f.number j) i (heap_after (f.is j))) ∙ t.duty,
  t.slot,
  t.is_class,
)

follows_dying : (shape : HeapShape) (own : History) (v w : View) → Follows shape v w own → Each (λ (e : Event). ends Deinit e.act ≡ false) own → KeepsDying v w
follows_dying shape own v w f each s class (i, o, here, duty, slot, is_class) =
    is_dying v.number i s class v w own shape f
    (dying_on shape v.number i s class v.seen f.rest f.legal (subst (Each (λ (e : Event). ends Deinit e.act ≡ false)) (sym f.mine) each) (record { o = o; here = here; duty = duty; slot = slot; is_class = is_class }))

spared : (p : ℕ) (xs : List Act) → Each (λ (a : Act). ends Deinit a ≡ false) xs → Each (λ (e : Event). ends Deinit e.act ≡ false) (events_by p xs)
spared p [] each = tt
spared p (a ∷ xs) each = (each.0, spared p xs each.1)

-- a call that ends no deinit keeps each that the pass owes
pub keeps_dying : (shape : HeapShape) (xs : List Act) (n : ℕ) (v w : View) → Called shape xs n v w → Each (λ (a : Act). ends Deinit a ≡ false) xs → KeepsDying v w
keeps_dying shape xs n v w c each = follows_dying shape (events_by v.number xs) v w (called_follows shape xs n v w c) (spared v.number xs each)

-- so does a pass that takes in another
pub took_dying : (shape : HeapShape) (v u w : View) → Took shape v u w → KeepsDying v w
took_dying shape v u w t = follows_dying shape [] v w (took_follows shape v u w t) tt

-- the drop of an object's last strong hand
drops : (shape : HeapShape) (p k i s class : ℕ) (h : History) → IsLegal shape (record { thread = p; act = acts.Drop k true } ∷ h) → IsStrongAt p k i s class (heap_after h) → IsDyingAt p i s class (heap_after (record { thread = p; act = acts.Drop k true } ∷ h))
drops shape p k i s class h legal t =
    let e : Event = record { thread = p; act = acts.Drop k true } in
    let q = stays_after shape e h legal i t.o t.here in
    let busy = in-not_empty (Hand p k) t.o.strong (hand_listed shape h p k i Strong t.o legal.1 t.hand t.here) in record {
      o = q.q;
      here = q.here;
      duty = own_duties shape h e i legal ∙ ap (λ b. cond b (Some Deinit) (cond (is_spot i Unowned (spot (Hand p k) (heap_after h))) (Some Vacating) (duty_of p i (heap_after h)))) (ap (is_spot i Strong) t.hand ∙ ap (λ b. b && true) (eq-eqb i i refl));
      slot = q.slot (inl busy) ∙ t.slot;
      is_class = q.class ∙ t.is_class;
    }

pub dies : (shape : HeapShape) (k n : ℕ) (v w : View) (s class : ℕ) → Called shape (acts.Drop k true ∷ []) n v w → IsStrongOf v k s class → IsDyingOf w s class
dies shape k n v w s class c (i, o, hand, here, slot, is_class) =
    let p = v.number in
    let e : Event = record { thread = p; act = acts.Drop k true } in
    let f = called_follows shape (acts.Drop k true ∷ []) n v w c in
    let at = cut p (acts.Drop k true) f.rest f.mine in
    let met = at.earlier ++ v.seen in
    let is : f.rest ++ v.seen ≡ at.later ++ e ∷ met = ap (λ l. l ++ v.seen) at.is ∙ append_assoc at.later (e ∷ at.earlier) v.seen in
    let legal : IsLegal shape (at.later ++ e ∷ met) = subst (IsLegal shape) is f.legal in
    let then : IsLegal shape (e ∷ met) = legal_tail shape at.later (e ∷ met) legal in
    let strong = strong_on shape p k i s class v.seen at.earlier then.1 (none_ends p at.earlier at.before) (record { o = o; hand = hand; here = here; slot = slot; is_class = is_class }) in
    let dying = dying_on shape p i s class (e ∷ met) at.later legal (none_dies p at.later at.after) (drops shape p k i s class met then strong) in
    is_dying p i s class v w (events_by p (acts.Drop k true ∷ [])) shape f (subst (λ l. IsDyingAt p i s class (heap_after l)) (sym is) dying)
  where
    none_ends : (p : ℕ) (h : History) → share h p ≡ [] → Each (λ (e : Event). ends_hand k e.act ≡ false) (share h p)
    none_ends p h none = subst (Each (λ (e : Event). ends_hand k e.act ≡ false)) (sym none) tt

    none_dies : (p : ℕ) (h : History) → share h p ≡ [] → Each (λ (e : Event). ends Deinit e.act ≡ false) (share h p)
    none_dies p h none = subst (Each (λ (e : Event). ends Deinit e.act ≡ false)) (sym none) tt
