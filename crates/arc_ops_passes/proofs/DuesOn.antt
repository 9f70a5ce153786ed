-- What an event of the pass makes of its duties: a deinit ends, a slot is vacated, or the last reference to an object goes.
use Rattle.std.proofs.Common.{◌≡◌, ◌≢◌, ℕ, true, false, cond, List, [], ◌∷◌, ◌++◌, Option, Some, None, refl, sym, ap, ◌∙◌, subst, arith, ne_eqb}
use Rattle.std.specs.Prelude.{slice_get, is_some, ⊤}
use mathlib.Core.Logic.{dite}
use native.Mathlib.Decide.{ℕ_discrete}
use Rattle.arc_model.specs.declared.event.Act.{Act}
use Rattle.arc_model.specs.declared.event.Act.TheVariants as acts
use Rattle.arc_model.specs.declared.event.Event.{Event}
use Rattle.arc_model.specs.declared.shape.Kind.{Kind}
use Rattle.arc_model.specs.Shapes.{HeapShape}
use Rattle.arc_model.specs.Heaps.{Duty, Deinit, Vacating, Gone, Object}
use Rattle.arc_model.specs.Holders.{in_slot, is_number}
use Rattle.arc_model.specs.Needs.{passes}
use Rattle.arc_model.specs.History.{History, heap_after, share, IsLegal}
use Rattle.arc_model.specs.Lookup.{duty_of, passes_at, entry_in}
use Rattle.arc_model.specs.Own.{owed_next}
use Rattle.arc_model.proofs.Duties.{own_duties}
use Rattle.arc_model.proofs.Others.{others_leave}
use Rattle.arc_rule.specs.declared.step.Step.{Step}
use Rattle.arc_rule.specs.declared.step.Intent.{Intent}
use Rattle.arc_view.specs.declared.view.View.{View}
use Rattle.arc_view.specs.Views.{Each, within}
use Rattle.arc_view.specs.Holding.{heap_of}
use Rattle.arc_view.specs.Rule.{IsSized}
use Rattle.arc_view.specs.Kinds.{act_of, event_list}
use Rattle.arc_view.specs.Steps.{Told}
use Rattle.arc_view.proofs.Held.{stays_after, dying_busy}
use Rattle.arc_view.proofs.Owed.{OwedLater, owed_stays}
use Rattle.arc_view_laws.proofs.Entries.{entry_kept, none_stays}
use Rattle.arc_ops_passes.specs.Drives.{Due, IsDue, OwesAll, slots_of, vacating_due}
use Rattle.arc_ops_passes.proofs.Owed.{slot_is, not_in}
use Rattle.arc_ops_passes.proofs.Dues.{DiesBut, DueLater, due_on, just_on}

-- the pass made this event, behind those of others
pub record Acted (shape : HeapShape) (v w : View) (a : Act) : Type 0 where
  pub between : History
  pub number : w.number ≡ v.number
  pub seen : w.seen ≡ record { thread = v.number; act = a } ∷ between ++ v.seen
  pub legal : IsLegal shape (record { thread = v.number; act = a } ∷ between ++ v.seen)
  pub others : share between v.number ≡ []

abbrev pub acted : (shape : HeapShape) (intent : Intent) (st : Step) (v : View) (found : ℕ) (w : View) (a : Act) → act_of shape v st intent found ≡ Some a → Told shape intent st v found w → Acted shape v w a
acted shape intent st v found w a is told =
    let seen : w.seen ≡ record { thread = v.number; act = a } ∷ told.between ++ v.seen = ap (λ (x : View). x.seen) told.after ∙ ap (λ b. event_list v.number b ++ (told.between ++ v.seen)) is in record {
      between = told.between;
      number = ap (λ (x : View). x.number) told.after;
      seen = seen;
      legal = subst (IsLegal shape) seen told.legal;
      others = told.others;
    }

-- a slot that the object isn't in
other_slot : (o : Object) (r s : ℕ) → o.slot ≡ Some r → r ≢ s → in_slot s o ≡ false
other_slot o r s slot ne = ap (λ m. is_number m s) slot ∙ ne_eqb r s ne

module _ (shape : HeapShape) (v w : View) (a : Act) (x : Acted shape v w a) where
  abbrev h : History
  h = x.between ++ v.seen

  abbrev event : Event
  event = record { thread = v.number; act = a }

  duties : (i : ℕ) → duty_of w.number i (heap_of w) ≡ owed_next v.number a i (heap_after h)
  duties i = (λ k. duty_of (x.number k) i (heap_after (x.seen k))) ∙ own_duties shape h event i x.legal

  before : (i : ℕ) → duty_of v.number i (heap_after h) ≡ duty_of v.number i (heap_of v)
  before i = (others_leave shape v.number v.seen x.between x.legal.1 x.others).duties i

  -- the object of a duty, where the event met it
  module _ (d : Due) (o : IsDue shape v d) where
    pub met : OwedLater o.place o.object h
    met = owed_stays shape v.number o.place d.duty o.object v.seen x.between x.legal.1 x.others o.here o.owes

    pub met_slot : met.q.slot ≡ Some d.slot
    met_slot = met.slot ∙ o.slot

    pub met_duty : duty_of v.number o.place (heap_after h) ≡ Some d.duty
    met_duty = before o.place ∙ o.owes

    here_in : passes_at (in_slot d.slot) o.place (heap_after h) ≡ true
    here_in = ap (passes (in_slot d.slot)) met.here ∙ slot_is met.q d.slot met_slot

    not_there : (j : ℕ) → j ≢ o.place → passes_at (in_slot d.slot) j (heap_after h) ≡ false
    not_there j ne = not_in shape h d.slot o.place j met.q x.legal.1 met.here met_slot ne

    -- it isn't in another slot
    elsewhere : (s : ℕ) → d.slot ≢ s → passes_at (in_slot s) o.place (heap_after h) ≡ false
    elsewhere s ne = ap (passes (in_slot s)) met.here ∙ other_slot met.q d.slot s met_slot ne

  -- ---- an event that changes no duty but that of the object in its slot
  module _ (s : ℕ) (became : ℕ → Option Duty) (is : (i : ℕ) → owed_next v.number a i (heap_after h) ≡ cond (passes_at (in_slot s) i (heap_after h)) (became i) (duty_of v.number i (heap_after h))) where
    other_due : (d : Due) → DiesBut s d → (o : IsDue shape v d) → DueLater shape w d o.place
    other_due d but o = due_on shape d event x.between v w but.0 x.number x.seen x.legal x.others o
        (own_duties shape h event o.place x.legal ∙ (is o.place ∙ ap (λ b. cond b (became o.place) (duty_of v.number o.place (heap_after h))) (elsewhere d o s but.1)))

    first_duty : (d : Due) (o : IsDue shape v d) → d.slot ≡ s → duty_of w.number o.place (heap_of w) ≡ became o.place
    first_duty d o same = duties o.place ∙ (is o.place ∙ ap (λ b. cond b (became o.place) (duty_of v.number o.place (heap_after h))) (subst (λ r. passes_at (in_slot r) o.place (heap_after h) ≡ true) same (here_in d o)))

    others_duty : (d : Due) (o : IsDue shape v d) → d.slot ≡ s → (i : ℕ) → i ≢ o.place → duty_of v.number i (heap_of v) ≡ None → duty_of w.number i (heap_of w) ≡ None
    others_duty d o same i ne none = duties i ∙ (is i ∙ (ap (λ b. cond b (became i) (duty_of v.number i (heap_after h))) (subst (λ r. passes_at (in_slot r) i (heap_after h) ≡ false) same (not_there d o i ne)) ∙ (before i ∙ none)))

    -- the first duty is over
    pub first_gone : (d : Due) (ds : List Due) → d.slot ≡ s → Each (DiesBut s) ds → (o : OwesAll shape v (d ∷ ds)) → became o.just.0.place ≡ None → OwesAll shape w ds
    first_gone d ds same but o none = record {
      apart = o.apart.1;
      just = just_on shape v w (DiesBut s) ds (λ i. ⊤ × (i ≢ o.just.0.place)) (λ i. ⊤) but other_due (λ i r kept. dite (ℕ_discrete i o.just.0.place)
          (λ e. ap (λ k. duty_of w.number k (heap_of w)) e ∙ (first_duty d o.just.0 same ∙ none)) (λ ne. others_duty d o.just.0 same i ne (kept (tt, ne)))) o.just.1;
    }

    -- or another one to the same object
    pub first_becomes : (d e : Due) (ds : List Due) → d.slot ≡ s → e.slot ≡ s → Each (DiesBut s) ds → (o : OwesAll shape v (d ∷ ds)) → (q : IsDue shape w e) → q.place ≡ o.just.0.place → OwesAll shape w (e ∷ ds)
    first_becomes d e ds same its but o q place = record {
      apart = (subst (λ r. within r (slots_of ds) ≡ false) (same ∙ sym its) o.apart.0, o.apart.1);
      just = (
        q,
        just_on shape v w (DiesBut s) ds (λ i. ⊤ × (i ≢ o.just.0.place)) (λ i. ⊤ × (i ≢ q.place)) but other_due
            (λ i r kept. others_duty d o.just.0 same i (λ e. r.1 (e ∙ sym place)) (kept (tt, λ e. r.1 (e ∙ sym place)))) o.just.1,
      );
    }

-- ---- the slot of the first is vacated

pub vacated : (shape : HeapShape) (v w : View) (s : ℕ) (ds : List Due) → IsSized shape → Acted shape v w (acts.Vacate s) → Each (DiesBut s) ds → OwesAll shape v (vacating_due s ∷ ds) → OwesAll shape w ds
vacated shape v w s ds sized x but o =
    let q = o.just.0 in
    let m = met shape v w (acts.Vacate s) x (vacating_due s) q in
    let bare : m.q.entry ≡ None = none_stays shape v.number q.place q.object m.q v.seen x.between sized.caps_fit.unowned_fits.0 x.legal.1 x.others q.here q.owes (q.bare refl) m.here in
    let none : is_some (entry_in (slice_get (heap_after (x.between ++ v.seen)).objects q.place)) ≡ false = ap (λ y. is_some (entry_in y)) m.here ∙ ap is_some bare in
    first_gone shape v w (acts.Vacate s) x s (λ i. cond (is_some (entry_in (slice_get (heap_after (x.between ++ v.seen)).objects i))) (Some Gone) None) (λ i. refl) (vacating_due s) ds refl but o
    (ap (λ b. cond b (Some Gone) None) none)

-- ---- the deinit of the first ends

pub finished_more : (shape : HeapShape) (v w : View) (d : Due) (ds : List Due) → Acted shape v w (acts.Finish d.slot false) → Each (DiesBut d.slot) ds → OwesAll shape v (d ∷ ds) → OwesAll shape w ds
finished_more shape v w d ds x but o = first_gone shape v w (acts.Finish d.slot false) x d.slot (λ i. None) (λ i. refl) d ds refl but o refl

-- its slot is to be vacated, if it has no entry
pub finished_last : (shape : HeapShape) (v w : View) (d : Due) (ds : List Due) → d.duty ≡ Deinit → (x : Acted shape v w (acts.Finish d.slot true)) → Each (DiesBut d.slot) ds → (o : OwesAll shape v (d ∷ ds)) → (met shape v w (acts.Finish d.slot true) x d o.just.0).q.entry ≡ None
    → OwesAll shape w (vacating_due d.slot ∷ ds)
finished_last shape v w d ds dies x but o bare =
    let a = acts.Finish d.slot true in
    let h = x.between ++ v.seen in
    let e : Event = record { thread = v.number; act = a } in
    let q = o.just.0 in
    let m = met shape v w a x d q in
    let r = stays_after shape e h x.legal q.place m.q m.here in
    let its : duty_of w.number q.place (heap_of w) ≡ Some Vacating = first_duty shape v w a x d.slot (λ i. Some Vacating) (λ i. refl) d q refl in
    let then : duty_of v.number q.place (heap_after (e ∷ h)) ≡ Some Vacating = sym (λ k. duty_of (x.number k) q.place (heap_after (x.seen k))) ∙ its in
    first_becomes shape v w a x d.slot (λ i. Some Vacating) (λ i. refl) d (vacating_due d.slot) ds refl refl but o
    (record {
      place = q.place;
      object = r.q;
      here = ap (λ k. slice_get (heap_after k).objects q.place) x.seen ∙ r.here;
      slot = r.slot (dying_busy shape h v.number q.place m.q x.legal.1 m.here (met_duty shape v w a x d q ∙ ap Some dies)) ∙ met_slot shape v w a x d q;
      owes = its;
      bare = λ _. entry_kept shape e h v.number q.place Vacating m.q r.q x.legal (λ k n why o same. absurd (finish≢side same)) m.here r.here then None bare;
      named = tt;
      nils = λ f lt. absurd (omega (arith, lt));
      inside = omega arith;
    }) refl
  where
    finish≢side : {k n : ℕ} {why : Kind} → acts.Finish d.slot true ≡ acts.Side k n why → ⊥
    finish≢side e = cc
