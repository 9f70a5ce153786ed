-- The plan that reads the name of an object, on the shared heap.
use Rattle.std.proofs.Common.{◌≡◌, inl, ℕ, ◌<◌, ◌++◌, Option, Some, None, refl, sym, ap, ◌∙◌, subst, arith}
use Rattle.arc_model.specs.declared.event.ObjectId.{ObjectId}
use Rattle.arc_model.specs.declared.event.ObjectName.{ObjectName}
use Rattle.arc_model.specs.declared.shape.Kind.TheVariants as kinds
use Rattle.arc_model.specs.Shapes.{HeapShape}
use Rattle.arc_model.specs.Heaps.{Object}
use Rattle.arc_model.specs.History.{heap_after, IsLegal}
use Rattle.arc_model.specs.References.{name_of}
use Rattle.arc_rule.specs.declared.layout.Place.TheVariants.{Isa}
use Rattle.arc_rule.specs.declared.step.Step.{Step}
use Rattle.arc_rule.specs.declared.step.Step.TheVariants.{Load}
use Rattle.arc_rule.specs.declared.step.Intent.TheVariants as intents
use Rattle.arc_rule.specs.declared.plan.Next.{Next}
use Rattle.arc_rule.specs.declared.plan.Next.TheVariants as nexts
use Rattle.arc_rule.specs.Isa.{IsIsaWord, isa_word_of, isa_name_of}
use Rattle.arc_rule.specs.Places.{extent_of, number, place_at}
use Rattle.arc_rule.specs.Shown.{ShowsName}
use Rattle.arc_view.specs.declared.view.View.{View}
use Rattle.arc_view.specs.Holding.{At, HasHand, heap_of}
use Rattle.arc_view.specs.Rule.{InShape, IsSized}
use Rattle.arc_view.specs.Admission.{Admits}
use Rattle.arc_view.specs.Steps.{Told}
use Rattle.arc_view.proofs.Held.{Held, held_stays, strong≢weak}
use Rattle.arc_view.proofs.Strongs.{slot_found}
use Rattle.arc_plan.specs.declared.slots.Once.{Once}
use Rattle.arc_plan.specs.declared.slots.Once.TheVariants as onces
use Rattle.arc_plan.specs.Slots.{OneStep, one_turned, one_left, name_of_takes, name_of_answer}
use Rattle.arc_table.specs.Runs.{MayRun, Ran}
use Rattle.arc_table.specs.Calls.{GoesOn}
use Rattle.arc_view_laws.proofs.Counted.{told_alone}
use Rattle.arc_view_laws.proofs.Growing.{told_grew, look_works}
use Rattle.arc_view_laws.proofs.Names.{is_name, name_back, is_isa}
use Rattle.arc_table.proofs.Invariant.{Keeps, may_run, has_run}

module _ (shape : HeapShape) (k s : ℕ) (v0 : View) (sized : IsSized shape) (lt : s < shape.slots) (free : v0.working.owes ≡ None) (i : ℕ) (o0 : Object) (hand0 : HasHand v0 k kinds.Strong i) (here0 : At (heap_of v0) i o0) (slot0 : o0.slot ≡ Some s) where
  abbrev isa_at : ℕ
  isa_at = number (extent_of shape) (Isa s)

  abbrev look : Step
  look = Load isa_at

  may_look : Admits shape v0 look intents.Look
  may_look = (Isa s, refl, lt, free, (i, o0, here0, slot0, inl (k, hand0)), tt)

  -- the word that was found is that of the name
  record Named (found : ℕ) (w : View) : Type 0 where
    isa : IsIsaWord found
    name : isa_name_of found ≡ name_of o0
    goes_on : GoesOn shape None 1 v0 w

  named : (found : ℕ) (w : View) → Told shape intents.Look look v0 found w → Named found w
  named found w t =
      let h = t.between ++ v0.seen in
      let seen : w.seen ≡ h = ap (λ (u : View). u.seen) t.after in
      let legal : IsLegal shape h = subst (IsLegal shape) seen t.legal in
      let within : InShape shape h = subst (InShape shape) seen t.in_shape in
      let held : Held kinds.Strong i o0 (heap_after h) = held_stays shape v0.number k i kinds.Strong o0 v0.seen t.between legal t.others hand0 here0 in
      let slot = held.slot strong≢weak ∙ slot0 in
      let word : found ≡ isa_word_of (name_of held.q) = subst (λ m. ShowsName m found) (slot_found shape h i s held.q legal held.here slot) ((t.read (Isa s) tt lt refl).says (λ u. u)) in
      let fits = is_name shape h i held.q sized within held.here in
      let same : name_of held.q ≡ name_of o0 = (λ j. record { class = held.class j; thread = ap (λ (d : ObjectId). d.thread) held.id j; number = ap (λ (d : ObjectId). d.number) held.id j }) in record {
        isa = subst IsIsaWord (sym word) (is_isa (name_of held.q) fits);
        name = ap isa_name_of word ∙ (sym (name_back (name_of held.q) fits) ∙ same);
        goes_on = record {
          called = record { grew = told_grew shape intents.Look look v0 found w t; legal = t.legal; in_shape = t.in_shape };
          working = ap (λ (u : View). u.working) t.after ∙ look_works v0.working (place_at (extent_of shape) isa_at) found;
          alone = told_alone shape intents.Look look v0 found w t;
        };
      }

  abbrev plan : Once → OneStep
  plan n = record { layout = extent_of shape; slot = s; at = n }

  abbrev Claim : ObjectName → View → Type 0
  Claim name w = (name ≡ name_of o0) × GoesOn shape None 1 v0 w

  abbrev IsAt : Once → Option ℕ → View → Type 0
  IsAt onces.Start last v = (last ≡ None) × (v ≡ v0)
  IsAt onces.Asked None v = ⊥
  IsAt onces.Asked (Some f) v = Named f v
  IsAt onces.Ended last v = ⊥

  abbrev Is : OneStep → Option ℕ → View → Type 0
  Is p last v = (n : Once) × (p ≡ plan n) × IsAt n last v

  takes_it : (n : Once) (last : Option ℕ) (v : View) → IsAt n last v → name_of_takes (plan n) last
  takes_it onces.Start last v at = at.0
  takes_it onces.Asked None v at = absurd (at)
  takes_it onces.Asked (Some f) v at = at.isa
  takes_it onces.Ended last v at = absurd (at)

  step_inj : {a b : Step} → Path (Next ObjectName) (nexts.Step a) (nexts.Step b) → a ≡ b
  step_inj e = cc

  done_inj : {a b : ObjectName} → Path (Next ObjectName) (nexts.Done a) (nexts.Done b) → a ≡ b
  done_inj e = cc

  done≢step : {X : Type 0} {a : ObjectName} {b : Step} → Path (Next ObjectName) (nexts.Done a) (nexts.Step b) → X
  done≢step e = absurd (cc)

  step≢done : {X : Type 0} {a : ObjectName} {b : Step} → Path (Next ObjectName) (nexts.Step b) (nexts.Done a) → X
  step≢done e = absurd (cc)

  steps_at : (n : Once) (last : Option ℕ) (v : View) (a : Step) → IsAt n last v → name_of_answer (plan n) last ≡ nexts.Step a
      → Admits shape v a intents.Look × (one_left (one_turned (plan n) last) < one_left (plan n)) × ((found : ℕ) (w : View) → Told shape intents.Look a v found w → Is (one_turned (plan n) last) (Some found) w)
  steps_at onces.Start last v a at is = subst (λ (t : View × Step). Admits shape t.0 t.1 intents.Look × (one_left (one_turned (plan onces.Start) last) < one_left (plan onces.Start)) × ((found : ℕ) (w : View) → Told shape intents.Look t.1 t.0 found w → Is (one_turned (plan onces.Start) last) (Some found) w))
      (λ j. (sym at.1 j, step_inj is j)) (may_look, omega arith, λ found w told. (onces.Asked, refl, named found w told))
  steps_at onces.Asked None v a at is = absurd (at)
  steps_at onces.Asked (Some f) v a at is = done≢step is
  steps_at onces.Ended last v a at is = absurd (at)

  ends_at : (n : Once) (last : Option ℕ) (v : View) (a : ObjectName) → IsAt n last v → name_of_answer (plan n) last ≡ nexts.Done a → Claim a v
  ends_at onces.Start last v a at is = step≢done is
  ends_at onces.Asked None v a at is = absurd (at)
  ends_at onces.Asked (Some f) v a at is = (sym (done_inj is) ∙ at.name, at.goes_on)
  ends_at onces.Ended last v a at is = absurd (at)

  name_keeps : Keeps name_of_takes one_turned name_of_answer shape intents.Look Is Claim one_left
  name_keeps = record {
    takes_it = λ p last v at. subst (λ q. name_of_takes q last) (sym at.1) (takes_it at.0 last v at.2);
    steps_it = λ p last v a at is. subst (λ (q : OneStep). Admits shape v a intents.Look × (one_left (one_turned q last) < one_left q) × ((found : ℕ) (w : View) → Told shape intents.Look a v found w → Is (one_turned q last) (Some found) w)) (sym at.1)
        (steps_at at.0 last v a at.2 (subst (λ q. name_of_answer q last ≡ nexts.Step a) at.1 is));
    ends_it = λ p last v a at is. ends_at at.0 last v a at.2 (subst (λ q. name_of_answer q last ≡ nexts.Done a) at.1 is);
  }

  -- the plan may run, and answers the object's name
  pub may_name : MayRun name_of_takes one_turned name_of_answer shape intents.Look (plan onces.Start) None v0
  may_name = may_run name_of_takes one_turned name_of_answer shape intents.Look Is Claim one_left name_keeps (plan onces.Start) None v0 (onces.Start, refl, (refl, refl))

  pub has_named : (a : ObjectName) (w : View) → Ran one_turned name_of_answer shape intents.Look (plan onces.Start) None v0 a w → Claim a w
  has_named a w ran = has_run name_of_takes one_turned name_of_answer shape intents.Look Is Claim one_left name_keeps (plan onces.Start) None v0 a w ran (onces.Start, refl, (refl, refl))
