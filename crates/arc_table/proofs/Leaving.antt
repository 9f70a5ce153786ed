-- The plan that vacates a slot, on the shared heap.
use Rattle.std.proofs.Common.{◌≡◌, ℕ, ◌<◌, false, cond, ◌∷◌, ◌++◌, Option, Some, None, refl, sym, ap, ◌∙◌, subst, arith, eq-eqb}
use Rattle.std.specs.Prelude.{slice_get, is_some, ◌/◌}
use Rattle.arc_model.specs.declared.event.Act.TheVariants as acts
use Rattle.arc_model.specs.declared.event.Event.{Event}
use Rattle.arc_model.specs.declared.shape.Kind.{Kind}
use Rattle.arc_model.specs.Shapes.{HeapShape}
use Rattle.arc_model.specs.Heaps.{Vacating, Gone, Object}
use Rattle.arc_model.specs.Holders.{is_number, in_slot, is_slot_taken}
use Rattle.arc_model.specs.Needs.{passes}
use Rattle.arc_model.specs.History.{History, heap_after, IsLegal}
use Rattle.arc_model.specs.Lookup.{duty_of, entry_in}
use Rattle.arc_model.proofs.Basics.{Some-inj}
use Rattle.arc_model.proofs.Duties.{own_duties}
use Rattle.arc_model.proofs.Others.{others_leave}
use Rattle.arc_rule.specs.declared.layout.Place.{Place}
use Rattle.arc_rule.specs.declared.layout.Place.TheVariants.{SlotBits}
use Rattle.arc_rule.specs.declared.step.Step.{Step}
use Rattle.arc_rule.specs.declared.step.Step.TheVariants.{And}
use Rattle.arc_rule.specs.declared.step.Intent.TheVariants as intents
use Rattle.arc_rule.specs.declared.plan.Next.{Next}
use Rattle.arc_rule.specs.declared.plan.Next.TheVariants as nexts
use Rattle.arc_rule.specs.Bits.{words_of, but_bit_of}
use Rattle.arc_rule.specs.Places.{extent_of, number}
use Rattle.arc_rule.proofs.Bits.{thing_left_but}
use Rattle.arc_rule.proofs.Places.{place_at-number}
use Rattle.arc_view.specs.declared.view.View.{View}
use Rattle.arc_view.specs.Holding.{At, HasDuty, heap_of}
use Rattle.arc_view.specs.Rule.{IsSized}
use Rattle.arc_view.specs.Kinds.{act_of, event_list, and_act, working_and}
use Rattle.arc_view.specs.Admission.{Admits}
use Rattle.arc_view.specs.Steps.{Told}
use Rattle.arc_view.specs.Calls.{Grew}
use Rattle.arc_view.proofs.Held.{stays_after}
use Rattle.arc_view.proofs.Strongs.{slot_found}
use Rattle.arc_view.proofs.Owed.{OwedLater, owed_stays}
use Rattle.arc_view.proofs.Vacating.{slot_left}
use Rattle.arc_plan.specs.declared.slots.Once.{Once}
use Rattle.arc_plan.specs.declared.slots.Once.TheVariants as onces
use Rattle.arc_plan.specs.Slots.{OneStep, one_turned, one_left, vacate_takes, vacate_answer}
use Rattle.arc_table.specs.Runs.{MayRun, Ran}
use Rattle.arc_table.specs.Calls.{GoesOn}
use Rattle.arc_table.specs.Ends.{IsLeft}
use Rattle.arc_view_laws.proofs.Counted.{told_alone}
use Rattle.arc_view_laws.proofs.Entries.{none_stays, entry_kept}
use Rattle.arc_view_laws.proofs.Growing.{acts_of, told_grew}
use Rattle.arc_table.proofs.Invariant.{Keeps, may_run, has_run}

module _ (shape : HeapShape) (s : ℕ) (m : Option ℕ) (v0 : View) (sized : IsSized shape) (lt : s < shape.slots) (free : v0.working.owes ≡ None) (i : ℕ) (o0 : Object)
    (here0 : At (heap_of v0) i o0) (duty0 : HasDuty v0 Vacating i) (slot0 : o0.slot ≡ Some s) (entry0 : o0.entry ≡ m) where
  abbrev bits_at : ℕ
  bits_at = number (extent_of shape) (SlotBits (s / 64))

  abbrev clear : Step
  clear = And bits_at (but_bit_of s)

  -- the word that has the slot's bit
  inside : s / 64 < words_of shape.slots
  inside = omega (arith, lt)

  may_clear : Admits shape v0 clear intents.Vacate
  may_clear = (SlotBits (s / 64), refl, inside, free, (s, i, o0, refl, lt, refl, here0, slot0, duty0))

  abbrev Claim : View → Type 0
  Claim w = IsLeft v0 w s m × GoesOn shape (Some (acts.Vacate s)) 1 v0 w

  module _ (found : ℕ) (w : View) (told : Told shape intents.Vacate clear v0 found w) where
    abbrev p : ℕ
    p = v0.number

    abbrev h : History
    h = told.between ++ v0.seen

    abbrev event : Event
    event = record { thread = p; act = acts.Vacate s }

    act_is : act_of shape v0 clear intents.Vacate found ≡ Some (acts.Vacate s)
    act_is = ap (λ (u : Place). and_act u (but_bit_of s) intents.Vacate) (place_at-number (extent_of shape) (SlotBits (s / 64)) inside) ∙ ap (λ t. Some (acts.Vacate t)) (thing_left_but s)

    seen_is : w.seen ≡ event ∷ h
    seen_is = ap (λ (u : View). u.seen) told.after ∙ ap (λ a. event_list p a ++ h) act_is

    number_is : w.number ≡ p
    number_is = ap (λ (u : View). u.number) told.after

    legal : IsLegal shape (event ∷ h)
    legal = subst (IsLegal shape) seen_is told.legal

    met : OwedLater i o0 h
    met = owed_stays shape p i Vacating o0 v0.seen told.between legal.1 told.others here0 duty0

    owed_then : duty_of p i (heap_after h) ≡ Some Vacating
    owed_then = (others_leave shape p v0.seen told.between legal.1 told.others).duties i ∙ duty0

    entry_then : met.q.entry ≡ m
    entry_then = by m entry0
      where
        by : (m : Option ℕ) → o0.entry ≡ m → met.q.entry ≡ m
        by None e = none_stays shape p i o0 met.q v0.seen told.between sized.caps_fit.unowned_fits.0 legal.1 told.others here0 duty0 e met.here
        by (Some n) e = met.entry n e

    slot_then : met.q.slot ≡ Some s
    slot_then = met.slot ∙ slot0

    free_then : is_slot_taken s (heap_of w) ≡ false
    free_then = ap (λ l. is_slot_taken s (heap_after l)) seen_is ∙ ap is_some (slot_left shape h p i s met.q legal.1 met.here slot_then owed_then)

    -- the duty after the vacating is by the entry
    owed_next_is : (j : ℕ) (r : Object) → At (heap_after h) j r → r.slot ≡ Some s → duty_of w.number j (heap_of w) ≡ cond (is_some r.entry) (Some Gone) None
    owed_next_is j r at in_it =
        (λ k. duty_of (number_is k) j (heap_after (seen_is k)))
        ∙ (own_duties shape h event j legal
        ∙ ((λ k. cond ((ap (passes (in_slot s)) at ∙ (ap (λ n. is_number n s) in_it ∙ eq-eqb s s refl)) k) (cond (is_some (entry_in (slice_get (heap_after h).objects j))) (Some Gone) None) (duty_of p j (heap_after h)))
        ∙ ap (λ o. cond (is_some (entry_in o)) (Some Gone) None) at))

    left : IsLeft v0 w s m
    left = by m entry_then
      where
        by : (m : Option ℕ) → met.q.entry ≡ m → IsLeft v0 w s m
        by None none = (
          free_then,
          λ j o at duty in_it.
              let l = owed_stays shape p j Vacating o v0.seen told.between legal.1 told.others at duty in
              let slot = l.slot ∙ in_it in
              let same : l.q ≡ met.q = Some-inj (sym (slot_found shape h j s l.q legal.1 l.here slot) ∙ slot_found shape h i s met.q legal.1 met.here slot_then) in
              owed_next_is j l.q l.here slot ∙ ap (λ n. cond (is_some n) (Some Gone) None) (ap (λ (x : Object). x.entry) same ∙ none),
        )
        by (Some n) some =
            let r = stays_after shape event h legal i met.q met.here in
            let duty = owed_next_is i met.q met.here slot_then ∙ ap (λ n. cond (is_some n) (Some Gone) None) some in
            let duty_is : duty_of p i (heap_after (event ∷ h)) ≡ Some Gone = sym (λ k. duty_of (number_is k) i (heap_after (seen_is k))) ∙ duty in (
              free_then,
              (
                i,
                r.q,
                ap (λ l. slice_get (heap_after l).objects i) seen_is ∙ r.here,
                duty,
                entry_kept shape event h p i Gone met.q r.q legal (λ t k why o e. absurd (vacate≢side e)) met.here r.here duty_is (Some n) some,
              ),
            )
          where
            vacate≢side : {t k : ℕ} {why : Kind} → acts.Vacate s ≡ acts.Side t k why → ⊥
            vacate≢side e = cc

    vacates : Claim w
    vacates = (
      left,
      record {
        called = record { grew = subst (λ a. Grew (acts_of a) 1 v0 w) act_is (told_grew shape intents.Vacate clear v0 found w told); legal = told.legal; in_shape = told.in_shape };
        working = ap (λ (u : View). u.working) told.after ∙ ap (λ (u : Place). working_and (number (extent_of shape)) v0.working u (but_bit_of s) intents.Vacate) (place_at-number (extent_of shape) (SlotBits (s / 64)) inside);
        alone = told_alone shape intents.Vacate clear v0 found w told;
      },
    )

  abbrev plan : Once → OneStep
  plan n = record { layout = extent_of shape; slot = s; at = n }

  abbrev IsAt : Once → Option ℕ → View → Type 0
  IsAt onces.Start last v = (last ≡ None) × (v ≡ v0)
  IsAt onces.Asked None v = ⊥
  IsAt onces.Asked (Some f) v = Claim v
  IsAt onces.Ended last v = ⊥

  abbrev Is : OneStep → Option ℕ → View → Type 0
  Is p last v = (n : Once) × (p ≡ plan n) × IsAt n last v

  takes_it : (n : Once) (last : Option ℕ) (v : View) → IsAt n last v → vacate_takes (plan n) last
  takes_it onces.Start last v at = at.0
  takes_it onces.Asked None v at = absurd (at)
  takes_it onces.Asked (Some f) v at = tt
  takes_it onces.Ended last v at = absurd (at)

  step_inj : {a b : Step} → Path (Next (Unit {0})) (nexts.Step a) (nexts.Step b) → a ≡ b
  step_inj e = cc

  done≢step : {X : Type 0} {a : Unit {0}} {b : Step} → Path (Next (Unit {0})) (nexts.Done a) (nexts.Step b) → X
  done≢step e = absurd (cc)

  step≢done : {X : Type 0} {a : Unit {0}} {b : Step} → Path (Next (Unit {0})) (nexts.Step b) (nexts.Done a) → X
  step≢done e = absurd (cc)

  steps_at : (n : Once) (last : Option ℕ) (v : View) (a : Step) → IsAt n last v → vacate_answer (plan n) last ≡ nexts.Step a
      → Admits shape v a intents.Vacate × (one_left (one_turned (plan n) last) < one_left (plan n)) × ((found : ℕ) (w : View) → Told shape intents.Vacate a v found w → Is (one_turned (plan n) last) (Some found) w)
  steps_at onces.Start last v a at is = subst (λ (t : View × Step). Admits shape t.0 t.1 intents.Vacate × (one_left (one_turned (plan onces.Start) last) < one_left (plan onces.Start)) × ((found : ℕ) (w : View) → Told shape intents.Vacate t.1 t.0 found w → Is (one_turned (plan onces.Start) last) (Some found) w))
      (λ j. (sym at.1 j, step_inj is j)) (may_clear, omega arith, λ found w told. (onces.Asked, refl, vacates found w told))
  steps_at onces.Asked None v a at is = absurd (at)
  steps_at onces.Asked (Some f) v a at is = done≢step is
  steps_at onces.Ended last v a at is = absurd (at)

  ends_at : (n : Once) (last : Option ℕ) (v : View) (a : Unit {0}) → IsAt n last v → vacate_answer (plan n) last ≡ nexts.Done a → Claim v
  ends_at onces.Start last v a at is = step≢done is
  ends_at onces.Asked None v a at is = absurd (at)
  ends_at onces.Asked (Some f) v a at is = at
  ends_at onces.Ended last v a at is = absurd (at)

  vacate_keeps : Keeps vacate_takes one_turned vacate_answer shape intents.Vacate Is (λ a. Claim) one_left
  vacate_keeps = record {
    takes_it = λ p last v at. subst (λ q. vacate_takes q last) (sym at.1) (takes_it at.0 last v at.2);
    steps_it = λ p last v a at is. subst (λ (q : OneStep). Admits shape v a intents.Vacate × (one_left (one_turned q last) < one_left q) × ((found : ℕ) (w : View) → Told shape intents.Vacate a v found w → Is (one_turned q last) (Some found) w)) (sym at.1)
        (steps_at at.0 last v a at.2 (subst (λ q. vacate_answer q last ≡ nexts.Step a) at.1 is));
    ends_it = λ p last v a at is. ends_at at.0 last v a at.2 (subst (λ q. vacate_answer q last ≡ nexts.Done a) at.1 is);
  }

  -- the plan may run, and the slot is free after it
  pub may_vacate : MayRun vacate_takes one_turned vacate_answer shape intents.Vacate (plan onces.Start) None v0
  may_vacate = may_run vacate_takes one_turned vacate_answer shape intents.Vacate Is (λ a. Claim) one_left vacate_keeps (plan onces.Start) None v0 (onces.Start, refl, (refl, refl))

  pub has_vacated : (a : Unit {0}) (w : View) → Ran one_turned vacate_answer shape intents.Vacate (plan onces.Start) None v0 a w → Claim w
  has_vacated a w ran = has_run vacate_takes one_turned vacate_answer shape intents.Vacate Is (λ a. Claim) one_left vacate_keeps (plan onces.Start) None v0 a w ran (onces.Start, refl, (refl, refl))
