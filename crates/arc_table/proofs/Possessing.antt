-- What a pass has stays, for the same object in the same slot, until its own act spends it.
use Rattle.std.proofs.Common.{◌≡◌, inl, inr, ⊎_elim, ℕ, ◌≤◌, ◌==◌, Bool, true, false, cond, [], ◌∷◌, ◌++◌, Option, Some, None, refl, sym, ap, ◌∙◌, subst, eq-eqb, ne_eqb}
use Rattle.std.specs.Prelude.{slice_get, is_some, ◌&&◌, not}
use Rattle.std.proofs.lemmas.Bool.{eqb-true, or_right}
use mathlib.Core.Logic.{dite}
use native.Mathlib.Decide.{ℕ_discrete}
use Rattle.arc_model.specs.declared.event.Act.{Act}
use Rattle.arc_model.specs.declared.event.Act.TheVariants as acts
use Rattle.arc_model.specs.declared.event.Event.{Event}
use Rattle.arc_model.specs.declared.shape.Kind.{Kind}
use Rattle.arc_model.specs.declared.shape.Kind.TheVariants.{Strong, Unowned, Weak}
use Rattle.arc_model.specs.Shapes.{HeapShape}
use Rattle.arc_model.specs.Heaps.{Holder, Hand, Duty, Deinit, Vacating, Gone, Owed, Object, Heap}
use Rattle.arc_model.specs.Holders.{is_in, is_empty, is_number, in_slot, has_entry, held_by, kind_in, is_claimed_by, list_of}
use Rattle.arc_model.specs.Cells.{same_kind}
use Rattle.arc_model.specs.Needs.{passes}
use Rattle.arc_model.specs.WellFormed.{IsWhole}
use Rattle.arc_model.specs.History.{History, heap_after, is_of, share, IsLegal}
use Rattle.arc_model.specs.Lookup.{spot, duty_of, duty_in, owed_by, owed_in, entry_in}
use Rattle.arc_model.specs.Own.{ends, ends_hand, owed_next, claimed_next}
use Rattle.arc_model.proofs.Basics.{None≢Some, Some-inj, true≢false, in-not_empty, none-strong}
use Rattle.arc_model.proofs.Tally.{clash}
use Rattle.arc_model.proofs.Turns.{IsLeaving}
use Rattle.arc_model.proofs.Courses.{well_formed}
use Rattle.arc_model.proofs.Stages.{gone-facts}
use Rattle.arc_model.proofs.Steps.{step_after}
use Rattle.arc_model.proofs.Others.{others_leave, own_leave, duties_last}
use Rattle.arc_model.proofs.Duties.{own_duties}
use Rattle.arc_view.specs.declared.view.View.{View}
use Rattle.arc_view.specs.Views.{Each}
use Rattle.arc_view.specs.Holding.{At, HasClaim}
use Rattle.arc_view.specs.Rule.{IsSized}
use Rattle.arc_view.specs.Calls.{events_by, Called, Took}
use Rattle.arc_view.proofs.Held.{Busy, busy_weak, hand_listed, stays_after, dying_busy}
use Rattle.arc_view.proofs.Owed.{duty_parts, owed_weak, not_left}
use Rattle.arc_view_laws.specs.Hands.{Moves}
use Rattle.arc_view_laws.proofs.Entries.{no_side_of, entry_kept}
use Rattle.arc_view_laws.proofs.Moving.{Follows, called_follows, took_follows, moved, moved_none, moved_took}
use Rattle.arc_table.specs.Calls.{act_list}
use Rattle.arc_table.specs.Possessions.{Possession, reference, duty, claim, named, Leads, LeadsTo, spent, spends, IsSame, IsStill, StillHas}

same_self : (o : Object) → IsSame o o
same_self o = record { id = refl; class = refl; entry = λ e is. is }

still_self : (x : Possession) (o : Object) → IsStill x o o
still_self (reference k Strong) o = (same_self o, refl)
still_self (reference k Unowned) o = (same_self o, refl)
still_self (reference k Weak) o = same_self o
still_self (duty Deinit n) o = (same_self o, refl)
still_self (duty Vacating n) o = (same_self o, refl, refl)
still_self (duty Gone n) o = (same_self o, refl)
still_self (claim e) o = (same_self o, refl)

same_on : (o q r : Object) → IsSame o q → IsSame q r → IsSame o r
same_on o q r a b = record { id = b.id ∙ a.id; class = b.class ∙ a.class; entry = λ e is. b.entry e (a.entry e is) }

still_on : (x : Possession) (o q r : Object) → IsStill x o q → IsStill x q r → IsStill x o r
still_on (reference k Strong) o q r a b = (same_on o q r a.0 b.0, b.1 ∙ a.1)
still_on (reference k Unowned) o q r a b = (same_on o q r a.0 b.0, b.1 ∙ a.1)
still_on (reference k Weak) o q r a b = same_on o q r a b
still_on (duty Deinit n) o q r a b = (same_on o q r a.0 b.0, b.1 ∙ a.1)
still_on (duty Vacating n) o q r a b = (same_on o q r a.0 b.0, b.1 ∙ a.1, b.2 ∙ a.2)
still_on (duty Gone n) o q r a b = (same_on o q r a.0 b.0, b.1 ∙ a.1)
still_on (claim e) o q r a b = (same_on o q r a.0 b.0, b.1 ∙ a.1)

-- an object that a reference or a duty leads to has a weak holder
listed_weak : (shape : HeapShape) (kind : Kind) (z : Holder) (o : Object) → IsWhole shape o → is_in z (list_of kind o) ≡ true → is_empty o.weak ≡ false
listed_weak shape Strong z o w h = busy_weak shape o w (inl (in-not_empty z o.strong h))
listed_weak shape Unowned z o w h = busy_weak shape o w (inr (in-not_empty z o.unowned h))
listed_weak shape Weak z o w h = in-not_empty z o.weak h

owed_of : (p : ℕ) (d : Duty) (m : Option Owed) → owed_by p m ≡ Some d → m ≡ Some (record { thread = p; duty = d })
owed_of p d None e = absurd (None≢Some d e)
owed_of p d (Some w) e = go (w.thread == p) refl e
  where
    go : (b : Bool) → (w.thread == p) ≡ b → cond b (Some w.duty) None ≡ Some d → Some w ≡ Some (record { thread = p; duty = d })
    go true is e = λ j. Some (record { thread = eqb-true w.thread p is j; duty = Some-inj e j })
    go false is e = absurd (None≢Some d e)

duty_owed : (p : ℕ) (m : Option Object) → duty_in p m ≡ owed_by p (owed_in m)
duty_owed p None = refl
duty_owed p (Some o) = refl

-- the act for such a duty to another object leaves this one
own_left : (heap : Heap) (p i n : ℕ) (d : Duty) (o : Object) (a : Act) → At heap i o → named d o ≡ Some n → spent (duty d n) a ≡ false → ends d a ≡ true → owed_next p a i heap ≡ duty_of p i heap
own_left heap p i n Deinit o (acts.Finish s last) here is apart _ = ap (λ b. cond b (cond last (Some Vacating) None) (duty_of p i heap)) (ap (passes (in_slot s)) here ∙ (ap (λ m. is_number m s) is ∙ apart))
own_left heap p i n Vacating o (acts.Vacate s) here is apart _ = ap (λ b. cond b (cond (is_some (entry_in (slice_get heap.objects i))) (Some Gone) None) (duty_of p i heap)) (ap (passes (in_slot s)) here ∙ (ap (λ m. is_number m s) is ∙ apart))
own_left heap p i n Gone o (acts.Gone e last) here is apart _ = ap (λ b. cond b None (duty_of p i heap)) (ap (passes (has_entry e)) here ∙ (ap (λ m. is_number m e) is ∙ apart))
own_left heap p i n d o a here is apart e = absurd (cc)

module _ (shape : HeapShape) (p : ℕ) (e : Event) (h : History) (some : 1 ≤ shape.caps.unowned) (legal : IsLegal shape (e ∷ h)) where
  -- an event that doesn't give a hand up leaves it
  hand_left : (k : ℕ) → (e.thread ≡ p → ends_hand k e.act ≡ false) → is_some (spot (Hand p k) (heap_after h)) ≡ true → spot (Hand p k) (heap_after (e ∷ h)) ≡ spot (Hand p k) (heap_after h)
  hand_left k kept had = dite (ℕ_discrete e.thread p)
      (λ mine. subst (λ q. spot (Hand q k) (heap_after (e ∷ h)) ≡ spot (Hand q k) (heap_after h)) mine (own_leave shape h e k legal (ap (λ q. is_some (spot (Hand q k) (heap_after h))) mine ∙ had) (kept mine)))
      (λ other. (others_leave shape p h (e ∷ []) legal (ap (λ b. cond b (e ∷ []) []) (ne_eqb e.thread p other))).hands k)

  reference_left : (k : ℕ) (kind : Kind) (o : Object) → (e.thread ≡ p → ends_hand k e.act ≡ false) → Leads p (heap_after h) (reference k kind) o → (q : Object) × Leads p (heap_after (e ∷ h)) (reference k kind) q × IsStill (reference k kind) o q
  reference_left k kind o kept (i, at, here) =
      let then = hand_left k kept (ap is_some at) ∙ at in
      let s = stays_after shape e h legal i o here in
      let was = hand_listed shape h p k i kind o legal.1 at here in
      let is = hand_listed shape (e ∷ h) p k i kind s.q legal then s.here in
      let whole = (well_formed shape (e ∷ h) legal).whole i s.q s.here in
      let same : IsSame o s.q = record { id = s.id; class = s.class; entry = λ n had. s.entry n (listed_weak shape kind (Hand p k) s.q whole is) had } in
      (s.q, (i, then, s.here), by kind s.q was same s.slot)
    where
      by : (kind : Kind) (q : Object) → is_in (Hand p k) (list_of kind o) ≡ true → IsSame o q → (Busy o → q.slot ≡ o.slot) → IsStill (reference k kind) o q
      by Strong q was same slot = (same, slot (inl (in-not_empty (Hand p k) o.strong was)))
      by Unowned q was same slot = (same, slot (inr (in-not_empty (Hand p k) o.unowned was)))
      by Weak q was same slot = same

  -- an event that isn't what the duty is to do leaves it
  owed_left : (i n : ℕ) (d : Duty) (o : Object) → (e.thread ≡ p → spent (duty d n) e.act ≡ false) → duty_of p i (heap_after h) ≡ Some d → At (heap_after h) i o → named d o ≡ Some n → duty_of p i (heap_after (e ∷ h)) ≡ Some d
  owed_left i n d o kept owed here is = by
    where
      was : owed_in (slice_get (heap_after h).objects i) ≡ Some (record { thread = p; duty = d })
      was = owed_of p d (owed_in (slice_get (heap_after h).objects i)) (sym (duty_owed p (slice_get (heap_after h).objects i)) ∙ owed)

      own : p ≡ e.thread → ends d e.act ≡ true → duty_of p i (heap_after (e ∷ h)) ≡ Some d
      own mine ends = ap (λ q. duty_of q i (heap_after (e ∷ h))) mine
          ∙ (own_duties shape h e i legal ∙ (own_left (heap_after h) e.thread i n d o e.act here is (kept (sym mine)) ends ∙ (ap (λ q. duty_of q i (heap_after h)) (sym mine) ∙ owed)))

      by : duty_of p i (heap_after (e ∷ h)) ≡ Some d
      by = elim (duties_last shape h e i (record { thread = p; duty = d }) legal was) as (λ _. duty_of p i (heap_after (e ∷ h)) ≡ Some d) [
        | inl same ↦ duty_owed p (slice_get (heap_after (e ∷ h)).objects i) ∙ (ap (owed_by p) same ∙ ap (λ b. cond b (Some d) None) (eq-eqb p p refl))
        | inr ended ↦ own ended.0 ended.1
      ]

  -- its object doesn't leave its slot by the event
  not_leaving : (i n : ℕ) (d : Duty) (o : Object) → (e.thread ≡ p → spent (duty d n) e.act ≡ false) → duty_of p i (heap_after h) ≡ Some d → At (heap_after h) i o → named d o ≡ Some n → IsLeaving shape e.act o → ⊥
  not_leaving i n Deinit o kept owed here is (s, act, slot, strong, unowned) = ⊎_elim (λ b. clash (is_empty o.strong) (ap is_empty (none-strong shape o strong).0) b) (λ b. clash (is_empty o.unowned) unowned b) (dying_busy shape h p i o legal.1 here owed)
  not_leaving i n Vacating o kept owed here is (s, act, slot, strong, unowned) = dite (ℕ_discrete e.thread p)
      (λ mine. true≢false (sym (eq-eqb n s (Some-inj (sym is ∙ slot))) ∙ (ap (spent (duty Vacating n)) (sym act) ∙ kept mine)))
      (λ other. not_left shape e h p i Vacating o legal here owed other (s, act, slot, strong, unowned))
  not_leaving i n Gone o kept owed here is (s, act, slot, strong, unowned) =
      let none = (gone-facts o ((well_formed shape h legal.1).whole i o here) (duty_parts h p i Gone o here owed).1).slot in
      None≢Some s (sym none ∙ slot)

  duty_left : (d : Duty) (n : ℕ) (o : Object) → (e.thread ≡ p → spent (duty d n) e.act ≡ false) → Leads p (heap_after h) (duty d n) o → (q : Object) × Leads p (heap_after (e ∷ h)) (duty d n) q × IsStill (duty d n) o q
  duty_left d n o kept (i, owed, here, is) =
      let then = owed_left i n d o kept owed here is in
      let s = stays_after shape e h legal i o here in
      let t = step_after shape e h legal i o here in
      let one : t.q ≡ s.q = Some-inj (sym t.here ∙ s.here) in
      let whole = (well_formed shape (e ∷ h) legal).whole i s.q s.here in
      let slot : s.q.slot ≡ o.slot = ap (λ (r : Object). r.slot) (sym one) ∙ ⊎_elim (λ stays. stays) (λ left. absurd (not_leaving i n d o kept owed here is left)) t.place in
      let same : IsSame o s.q = record { id = s.id; class = s.class; entry = λ m had. s.entry m (owed_weak d s.q whole (duty_parts (e ∷ h) p i d s.q s.here then).1) had } in
      by d i s.q owed here then s.here is same slot
    where
      by : (d : Duty) (i : ℕ) (q : Object) → duty_of p i (heap_after h) ≡ Some d → At (heap_after h) i o → duty_of p i (heap_after (e ∷ h)) ≡ Some d → At (heap_after (e ∷ h)) i q → named d o ≡ Some n → IsSame o q → q.slot ≡ o.slot
          → (q : Object) × Leads p (heap_after (e ∷ h)) (duty d n) q × IsStill (duty d n) o q
      by Deinit i q owed here then there is same slot = (q, (i, then, there, slot ∙ is), (same, slot))
      by Vacating i q owed here then there is same slot =
          (q, (i, then, there, slot ∙ is), (same, slot, entry_kept shape e h p i Vacating o q legal (no_side_of shape e h p i o legal some here owed) here there then o.entry refl))
      by Gone i q owed here then there is same slot = (q, (i, then, there, same.entry n is), (same, slot))

  left : (x : Possession) (o : Object) → (e.thread ≡ p → spent x e.act ≡ false) → Leads p (heap_after h) x o → (q : Object) × Leads p (heap_after (e ∷ h)) x q × IsStill x o q
  left (reference k kind) o kept has = reference_left k kind o kept has
  left (duty d n) o kept has = duty_left d n o kept has
  left (claim n) o kept has = absurd has

-- events of which none is p's and spends it leave it
stays_on : (shape : HeapShape) (p : ℕ) (x : Possession) (o : Object) (before after : History) → 1 ≤ shape.caps.unowned → IsLegal shape (after ++ before) → Each (λ (e : Event). spent x e.act ≡ false) (share after p) → Leads p (heap_after before) x o
    → (q : Object) × Leads p (heap_after (after ++ before)) x q × IsStill x o q
stays_on shape p x o before [] some legal each has = (o, has, still_self x o)
stays_on shape p x o before (e ∷ after) some legal each has = go (is_of p e) refl each (λ rest. stays_on shape p x o before after some legal.1 rest has)
  where
    go : (b : Bool) → is_of p e ≡ b → Each (λ (e : Event). spent x e.act ≡ false) (cond b (e ∷ share after p) (share after p))
        → (Each (λ (e : Event). spent x e.act ≡ false) (share after p) → (q : Object) × Leads p (heap_after (after ++ before)) x q × IsStill x o q) → (q : Object) × Leads p (heap_after (e ∷ after ++ before)) x q × IsStill x o q
    go true mine each ih = let t = ih each.1 in let u = left shape p e (after ++ before) some legal x t.0 (λ _. each.0) t.1 in (u.0, u.1, still_on x o t.0 u.0 t.2 u.2)
    go false other each ih =
        let t = ih each in
        let u = left shape p e (after ++ before) some legal x t.0 (λ same. absurd (true≢false (sym (eq-eqb e.thread p same) ∙ other))) t.1 in (u.0, u.1, still_on x o t.0 u.0 t.2 u.2)

follows_stays : (shape : HeapShape) (own : History) (v w : View) (x : Possession) (o : Object) → 1 ≤ shape.caps.unowned → Follows shape v w own → Each (λ (e : Event). spent x e.act ≡ false) own → LeadsTo v x o → (q : Object) × LeadsTo w x q × IsStill x o q
follows_stays shape own v w x o some f each has =
    let t = stays_on shape v.number x o v.seen f.rest some f.legal (subst (Each (λ (e : Event). spent x e.act ≡ false)) (sym f.mine) each) has in
    (t.0, subst (λ (y : ℕ × History). Leads y.0 (heap_after y.1) x t.0) (λ j. (sym f.number j, sym f.is j)) t.1, t.2)

spared : (p : ℕ) (act : Option Act) (x : Possession) → spends act x ≡ false → Each (λ (e : Event). spent x e.act ≡ false) (events_by p (act_list act))
spared p None x kept = tt
spared p (Some a) x kept = (kept, tt)

-- a claimed entry
claim_left : (p n : ℕ) (a : Act) (heap : Heap) → is_claimed_by p n heap ≡ true → spent (claim n) a ≡ false → claimed_next p a n heap ≡ true
claim_left p n (acts.Claim m) heap had kept = or_right (m == n) (is_claimed_by p n heap) had
claim_left p n (acts.Side s m why) heap had kept = ap (λ b. not b && is_claimed_by p n heap) kept ∙ had
claim_left p n (acts.Back m) heap had kept = ap (λ b. not b && is_claimed_by p n heap) kept ∙ had
claim_left p n (acts.Drop h true) heap had kept = or_right (passes (λ o. same_kind (kind_in (Hand p h) o) Weak && has_entry n o) (held_by (Hand p h) heap)) (is_claimed_by p n heap) had
claim_left p n (acts.Gone m true) heap had kept = or_right (m == n) (is_claimed_by p n heap) had
claim_left p n a heap had kept = had

claims_left : (act : Option Act) (v w : View) → Moves act v w → (n : ℕ) → HasClaim v n → spends act (claim n) ≡ false → HasClaim w n
claims_left None v w m n had kept = m.claims n ∙ had
claims_left (Some a) v w m n had kept = m.claims n ∙ claim_left v.number n a (heap_after m.met) (m.had.claims n ∙ had) kept

moves : (shape : HeapShape) (act : Option Act) (n : ℕ) (v w : View) → Called shape (act_list act) n v w → Moves act v w
moves shape None n v w c = moved_none shape n v w c
moves shape (Some a) n v w c = moved shape a n v w c

-- what a call of this act, or of none, leaves and brings
pub still_has : (shape : HeapShape) (act : Option Act) (n : ℕ) (v w : View) → IsSized shape → Called shape (act_list act) n v w → StillHas act v w
still_has shape act n v w sized c = let m = moves shape act n v w c in record {
  stays = λ x o has kept. follows_stays shape (events_by v.number (act_list act)) v w x o sized.caps_fit.unowned_fits.0 (called_follows shape (act_list act) n v w c) (spared v.number act x kept) has;
  claims = claims_left act v w m;
  moves = m;
}

-- so does a pass that takes in another
pub took_has : (shape : HeapShape) (v u w : View) → IsSized shape → Took shape v u w → StillHas None v w
took_has shape v u w sized t = let m = moved_took shape v u w t in record {
  stays = λ x o has kept. follows_stays shape [] v w x o sized.caps_fit.unowned_fits.0 (took_follows shape v u w t) tt has;
  claims = claims_left None v w m;
  moves = m;
}
