-- The vacating that a pass owes stays until its own act ends it.
use Rattle.std.proofs.Common.{◌≡◌, ◌≢◌, inl, inr, ⊎_elim, ℕ, ◌≤◌, ◌==◌, Bool, true, false, cond, List, [], ◌∷◌, ◌++◌, Option, Some, None, refl, sym, ap, ◌∙◌, subst, eq-eqb, ne_eqb}
use Rattle.std.specs.Prelude.{slice_get, is_some}
use Rattle.std.proofs.lemmas.Bool.{eqb-true}
use mathlib.Core.Logic.{dite}
use native.Mathlib.Decide.{ℕ_discrete}
use Rattle.arc_model.specs.declared.event.Act.{Act}
use Rattle.arc_model.specs.declared.event.Act.TheVariants as acts
use Rattle.arc_model.specs.declared.event.Event.{Event}
use Rattle.arc_model.specs.Shapes.{HeapShape}
use Rattle.arc_model.specs.Heaps.{Vacating, Gone, Owed, Object, Heap}
use Rattle.arc_model.specs.Holders.{is_number, in_slot}
use Rattle.arc_model.specs.Needs.{passes}
use Rattle.arc_model.specs.History.{History, heap_after, is_of, share, IsLegal}
use Rattle.arc_model.specs.Lookup.{duty_of, duty_in, owed_by, owed_in, entry_in}
use Rattle.arc_model.specs.Own.{ends, owed_next}
use Rattle.arc_model.proofs.Basics.{None≢Some, Some-inj, true≢false}
use Rattle.arc_model.proofs.Others.{duties_last}
use Rattle.arc_model.proofs.Duties.{own_duties}
use Rattle.arc_model.proofs.Steps.{step_after}
use Rattle.arc_view.specs.declared.view.View.{View}
use Rattle.arc_view.specs.Views.{Each}
use Rattle.arc_view.specs.Holding.{At}
use Rattle.arc_view.specs.Rule.{IsSized}
use Rattle.arc_view.specs.Calls.{events_by, Called, Took}
use Rattle.arc_view.proofs.Owed.{not_left}
use Rattle.arc_view_laws.specs.Having.{IsFreedOf, KeepsFreed, KeepsFreedBut}
use Rattle.arc_view_laws.proofs.Entries.{no_side_of, entry_kept}
use Rattle.arc_view_laws.proofs.Moving.{Follows, called_follows, took_follows}

-- p owes the vacating of object o, which is at place i
pub record IsFreedAt (p i s : ℕ) (m : Option ℕ) (heap : Heap) : Type 0 where
  pub o : Object
  pub here : At heap i o
  pub duty : duty_of p i heap ≡ Some Vacating
  pub slot : o.slot ≡ Some s
  pub entry : o.entry ≡ m

-- only a Vacate ends it
vacates : (a : Act) → ends Vacating a ≡ true → (s : ℕ) × (a ≡ acts.Vacate s)
vacates (acts.Vacate s) e = (s, refl)
vacates (acts.New k c s) e = absurd (true≢false (sym e))
vacates acts.Full e = absurd (true≢false (sym e))
vacates (acts.Copy from k) e = absurd (true≢false (sym e))
vacates (acts.UnownedOf h k) e = absurd (true≢false (sym e))
vacates (acts.WeakOf h k) e = absurd (true≢false (sym e))
vacates (acts.Load h g) e = absurd (true≢false (sym e))
vacates (acts.Drop h last) e = absurd (true≢false (sym e))
vacates (acts.CountFull k from) e = absurd (true≢false (sym e))
vacates (acts.Claim n) e = absurd (true≢false (sym e))
vacates acts.NoEntry e = absurd (true≢false (sym e))
vacates (acts.Side s n why) e = absurd (true≢false (sym e))
vacates (acts.Back n) e = absurd (true≢false (sym e))
vacates (acts.Swap c h k) e = absurd (true≢false (sym e))
vacates (acts.Look c) e = absurd (true≢false (sym e))
vacates (acts.Take s f k) e = absurd (true≢false (sym e))
vacates (acts.Finish s last) e = absurd (true≢false (sym e))
vacates (acts.Gone n last) e = absurd (true≢false (sym e))

owed_of : (p : ℕ) (m : Option Owed) → owed_by p m ≡ Some Vacating → m ≡ Some (record { thread = p; duty = Vacating })
owed_of p None e = absurd (None≢Some Vacating e)
owed_of p (Some d) e = go (d.thread == p) refl e
  where
    go : (b : Bool) → (d.thread == p) ≡ b → cond b (Some d.duty) None ≡ Some Vacating → Some d ≡ Some (record { thread = p; duty = Vacating })
    go true is e = λ j. Some (record { thread = eqb-true d.thread p is j; duty = Some-inj e j })
    go false is e = absurd (None≢Some Vacating e)

duty_owed : (p : ℕ) (m : Option Object) → duty_in p m ≡ owed_by p (owed_in m)
duty_owed p None = refl
duty_owed p (Some o) = refl

-- an event that isn't p's vacating of the slot leaves the duty
duty_left : (shape : HeapShape) (p i s : ℕ) (m : Option ℕ) (e : Event) (h : History) → IsLegal shape (e ∷ h) → (e.thread ≡ p → e.act ≡ acts.Vacate s → ⊥) → IsFreedAt p i s m (heap_after h) → duty_of p i (heap_after (e ∷ h)) ≡ Some Vacating
duty_left shape p i s m e h legal kept t = by
  where
    was : owed_in (slice_get (heap_after h).objects i) ≡ Some (record { thread = p; duty = Vacating })
    was = owed_of p (owed_in (slice_get (heap_after h).objects i)) (sym (duty_owed p (slice_get (heap_after h).objects i)) ∙ t.duty)

    stood : owed_in (slice_get (heap_after (e ∷ h)).objects i) ≡ Some (record { thread = p; duty = Vacating }) → duty_of p i (heap_after (e ∷ h)) ≡ Some Vacating
    stood same = duty_owed p (slice_get (heap_after (e ∷ h)).objects i) ∙ (ap (owed_by p) same ∙ ap (λ b. cond b (Some Vacating) None) (eq-eqb p p refl))

    other_slot : (r : ℕ) → e.act ≡ acts.Vacate r → e.thread ≡ p → duty_of p i (heap_after (e ∷ h)) ≡ Some Vacating
    other_slot r is mine =
        let apart : s ≢ r = λ same. kept mine (is ∙ ap acts.Vacate (sym same)) in
        ap (λ q. duty_of q i (heap_after (e ∷ h))) (sym mine)
        ∙ (own_duties shape h e i legal
        ∙ (ap (λ a. owed_next e.thread a i (heap_after h)) is
        ∙ (ap (λ b. cond b (cond (is_some (entry_in (slice_get (heap_after h).objects i))) (Some Gone) None) (duty_of e.thread i (heap_after h))) (ap (passes (in_slot r)) t.here ∙ (ap (λ n. is_number n r) t.slot ∙ ne_eqb s r apart))
        ∙ (ap (λ q. duty_of q i (heap_after h)) mine ∙ t.duty))))

    by : duty_of p i (heap_after (e ∷ h)) ≡ Some Vacating
    by = elim (duties_last shape h e i (record { thread = p; duty = Vacating }) legal was) as (λ _. duty_of p i (heap_after (e ∷ h)) ≡ Some Vacating) [
      | inl same ↦ stood same
      | inr ended ↦ let r = vacates e.act ended.1 in other_slot r.0 r.1 (sym ended.0)
    ]

freed_leaves : (shape : HeapShape) (p i s : ℕ) (m : Option ℕ) (e : Event) (h : History) → 1 ≤ shape.caps.unowned → IsLegal shape (e ∷ h) → (e.thread ≡ p → e.act ≡ acts.Vacate s → ⊥) → IsFreedAt p i s m (heap_after h) → IsFreedAt p i s m (heap_after (e ∷ h))
freed_leaves shape p i s m e h some legal kept t =
    let q = step_after shape e h legal i t.o t.here in
    let duty = duty_left shape p i s m e h legal kept t in record {
      o = q.q;
      here = q.here;
      duty = duty;
      slot = ⊎_elim (λ same. same)
          (λ left. absurd (dite (ℕ_discrete e.thread p)
          (λ mine. kept mine (left.1 ∙ ap acts.Vacate (Some-inj (sym left.2 ∙ t.slot))))
          (λ other. not_left shape e h p i Vacating t.o legal t.here t.duty other left)))
          q.place ∙ t.slot;
      entry = entry_kept shape e h p i Vacating t.o q.q legal (no_side_of shape e h p i t.o legal some t.here t.duty) t.here q.here duty m t.entry;
    }

freed_on : (shape : HeapShape) (p i s : ℕ) (m : Option ℕ) (before after : History) → 1 ≤ shape.caps.unowned → IsLegal shape (after ++ before) → Each (λ (e : Event). e.act ≡ acts.Vacate s → ⊥) (share after p) → IsFreedAt p i s m (heap_after before) → IsFreedAt p i s m (heap_after (after ++ before))
freed_on shape p i s m before [] some legal each t = t
freed_on shape p i s m before (e ∷ after) some legal each t = go (is_of p e) refl each (λ rest. freed_on shape p i s m before after some legal.1 rest t)
  where
    go : (b : Bool) → is_of p e ≡ b → Each (λ (e : Event). e.act ≡ acts.Vacate s → ⊥) (cond b (e ∷ share after p) (share after p)) → (Each (λ (e : Event). e.act ≡ acts.Vacate s → ⊥) (share after p) → IsFreedAt p i s m (heap_after (after ++ before))) → IsFreedAt p i s m (heap_after (e ∷ after ++ before))
    go true mine each ih = freed_leaves shape p i s m e (after ++ before) some legal (λ _. each.0) (ih each.1)
    go false other each ih = freed_leaves shape p i s m e (after ++ before) some legal (λ same. absurd (true≢false (sym (eq-eqb e.thread p same) ∙ other))) (ih each)

follows_freed : (shape : HeapShape) (own : History) (v w : View) (s : ℕ) (m : Option ℕ) → 1 ≤ shape.caps.unowned → Follows shape v w own → Each (λ (e : Event). e.act ≡ acts.Vacate s → ⊥) own → IsFreedOf v s m → IsFreedOf w s m
follows_freed shape own v w s m some f each (i, o, here, duty, slot, entry) =
    let t = freed_on shape v.number i s m v.seen f.rest some f.legal (subst (Each (λ (e : Event). e.act ≡ acts.Vacate s → ⊥)) (sym f.mine) each) (record { o = o; here = here; duty = duty; slot = slot; entry = entry }) in (
      i,
      t.o,
      ap (λ l. slice_get (heap_after l).objects i) f.is ∙ t.here,
      (λ j. duty_of (f.number j) i (heap_after (f.is j))) ∙ t.duty,
      t.slot,
      t.entry,
    )

spared : (p s : ℕ) (xs : List Act) → Each (λ (a : Act). a ≡ acts.Vacate s → ⊥) xs → Each (λ (e : Event). e.act ≡ acts.Vacate s → ⊥) (events_by p xs)
spared p s [] each = tt
spared p s (a ∷ xs) each = (each.0, spared p s xs each.1)

-- a call that vacates no slot keeps each vacating that the pass owes
pub keeps_freed : (shape : HeapShape) (xs : List Act) (n : ℕ) (v w : View) → IsSized shape → Called shape xs n v w → ((s : ℕ) → Each (λ (a : Act). a ≡ acts.Vacate s → ⊥) xs) → KeepsFreed v w
keeps_freed shape xs n v w sized c each s m = follows_freed shape (events_by v.number xs) v w s m sized.caps_fit.unowned_fits.0 (called_follows shape xs n v w c) (spared v.number s xs (each s))

-- so does a pass that takes in another
pub took_freed : (shape : HeapShape) (v u w : View) → IsSized shape → Took shape v u w → KeepsFreed v w
took_freed shape v u w sized t s m = follows_freed shape [] v w s m sized.caps_fit.unowned_fits.0 (took_follows shape v u w t) tt

slot_inj : (s t : ℕ) → acts.Vacate s ≡ acts.Vacate t → s ≡ t
slot_inj s t e = cc

-- the vacating of a slot keeps those of others
pub keeps_freed_but : (shape : HeapShape) (s n : ℕ) (v w : View) → IsSized shape → Called shape (acts.Vacate s ∷ []) n v w → KeepsFreedBut s v w
keeps_freed_but shape s n v w sized c t m ne = follows_freed shape (events_by v.number (acts.Vacate s ∷ [])) v w t m sized.caps_fit.unowned_fits.0 (called_follows shape (acts.Vacate s ∷ []) n v w c) (λ e. ne (sym (slot_inj s t e)), tt)

finish≢vacate : (s t : ℕ) (last : Bool) → acts.Finish s last ≡ acts.Vacate t → ⊥
finish≢vacate s t last e = cc

pub finish_keeps_freed : (shape : HeapShape) (s n : ℕ) (last : Bool) (v w : View) → IsSized shape → Called shape (acts.Finish s last ∷ []) n v w → KeepsFreed v w
finish_keeps_freed shape s n last v w sized c = keeps_freed shape (acts.Finish s last ∷ []) n v w sized c (λ t. (finish≢vacate s t last, tt))

abbrev pub is_vacate : Act → Bool
is_vacate (acts.Vacate s) = true
is_vacate _ = false

no_vacate : (a : Act) → is_vacate a ≡ false → (s : ℕ) → a ≡ acts.Vacate s → ⊥
no_vacate a none s is = true≢false (ap is_vacate (sym is) ∙ none)

none_vacates : (xs : List Act) → Each (λ (a : Act). is_vacate a ≡ false) xs → (s : ℕ) → Each (λ (a : Act). a ≡ acts.Vacate s → ⊥) xs
none_vacates [] each s = tt
none_vacates (a ∷ xs) each s = (no_vacate a each.0 s, none_vacates xs each.1 s)

-- a call of acts that vacate no slot
pub keeps_freed_by : (shape : HeapShape) (xs : List Act) (n : ℕ) (v w : View) → IsSized shape → Called shape xs n v w → Each (λ (a : Act). is_vacate a ≡ false) xs → KeepsFreed v w
keeps_freed_by shape xs n v w sized called each = keeps_freed shape xs n v w sized called (none_vacates xs each)
