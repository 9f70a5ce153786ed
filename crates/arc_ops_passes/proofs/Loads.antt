-- A stepper that loaded a reference: it reads the name of the object.
use Rattle.std.proofs.Common.{◌≡◌, inl, ℕ, ◌<◌, ◌++◌, Some, None, refl, sym, ap, ◌∙◌, subst, arith}
use Rattle.arc_model.specs.declared.answer.Answer.TheVariants as answers
use Rattle.arc_model.specs.declared.shape.Kind.{Kind}
use Rattle.arc_model.specs.declared.shape.Kind.TheVariants.{Strong}
use Rattle.arc_model.specs.History.{History, IsLegal}
use Rattle.arc_rule.specs.Extents.{Extent}
use Rattle.arc_rule.specs.Isa.{isa_name_of}
use Rattle.arc_rule.specs.Places.{extent_of, number}
use Rattle.arc_rule.proofs.Places.{place_at-number}
use Rattle.arc_rule.specs.declared.layout.Place.{Place}
use Rattle.arc_rule.specs.declared.layout.Place.TheVariants.{Isa}
use Rattle.arc_rule.specs.declared.step.Step.{Step}
use Rattle.arc_rule.specs.declared.step.Step.TheVariants.{Load}
use Rattle.arc_rule.specs.declared.step.Intent.{Intent}
use Rattle.arc_rule.specs.declared.step.Intent.TheVariants as intents
use Rattle.arc_plan.specs.declared.slots.Once.{Once}
use Rattle.arc_plan.specs.declared.slots.Once.TheVariants as once
use Rattle.arc_plan.specs.Slots.{OneStep}
use Rattle.arc_ops.specs.declared.stepper.Held.{Held}
use Rattle.arc_ops.specs.declared.stepper.Doing.{Doing}
use Rattle.arc_ops.specs.declared.stepper.Doing.TheVariants as doings
use Rattle.arc_ops.specs.declared.stepper.Move.TheVariants as moves
use Rattle.arc_served.specs.Programs.{class_of}
use Rattle.arc_ops.specs.Thread.{Thread, put}
use Rattle.arc_ops.specs.Drops.{replaced}
use Rattle.arc_ops.specs.Turns.{turned_at}
use Rattle.arc_spelled.specs.StepperStands.{Work}
use Rattle.arc_view.specs.declared.view.Working.{Working}
use Rattle.arc_view.specs.declared.view.View.{View}
use Rattle.arc_view.specs.Holding.{HasHand}
use Rattle.arc_view.specs.Kinds.{act_of, event_list, loaded_act, working_loaded}
use Rattle.arc_view.specs.Admission.{Admits}
use Rattle.arc_view.specs.Steps.{Told}
use Rattle.arc_view.proofs.Held.{held_stays}
use Rattle.arc_view_laws.proofs.Moving.{legal_tail}
use Rattle.arc_ops_passes.specs.References.{Leads, LeadsTo}
use Rattle.arc_ops_passes.proofs.Walks.{replaced_walks, new-some}
use Rattle.arc_ops_passes.proofs.Owned.{not_weak, ref-itself, to_still}
use Rattle.arc_ops_passes.proofs.Names.{NameRead, name_read, name_shown}
use Rattle.arc_ops_passes.proofs.Goes.{quiet, Facts, Comes, once_asked, told_by, fresh_under, fresh_coming, owes_still, classed_still, stays_shown}

abbrev pub naming : Work → ℕ → Held → Once → Doing
naming w to held a = doings.Naming to held (record { layout = extent_of w.shape; slot = held.place; at = a })

module _ (w : Work) (t : Thread) (v : View) (to : ℕ) (held : Held) (f : Facts w t v (naming w to held once.Asked)) where
  abbrev ReadName : Step
  ReadName = Load (number (extent_of w.shape) (Isa held.place))

  below : held.place < w.shape.slots
  below = subst (λ (e : Extent). held.place < e.slots) f.is_for.0 f.fits.1.place

  leads : Leads v held
  leads = f.owns.leads held (let one = ref-itself held in omega arith)

  is_strong : held.kind ≡ Strong
  is_strong = ap (λ (x : Held). x.kind) f.up_to.held_is

  pub name_allowed : Admits w.shape v ReadName intents.Look
  name_allowed =
      let r = leads in
      (Isa held.place, refl, below, ap (λ (x : Working). x.owes) f.under_way.working, (r.1, r.2, r.4, r.5, inl (held.hand, subst (λ (k : Kind). HasHand v held.hand k r.1) is_strong r.3)), tt)

  module _ (found : ℕ) (v' : View) (told : Told w.shape intents.Look ReadName v found v') where
    abbrev h : History
    h = told.between ++ v.seen

    act : act_of w.shape v ReadName intents.Look found ≡ None
    act = ap (λ (q : Place). loaded_act w.shape v q found intents.Look) (place_at-number (extent_of w.shape) (Isa held.place) below)

    works : v'.working ≡ v.working
    works = ap (λ (x : View). x.working) told.after ∙ ap (λ (q : Place). working_loaded v.working q found intents.Look) (place_at-number (extent_of w.shape) (Isa held.place) below)

    legal : IsLegal w.shape h
    legal = legal_tail w.shape (event_list v.number (act_of w.shape v ReadName intents.Look found)) h (subst (IsLegal w.shape) (ap (λ (u : View). u.seen) told.after) told.legal)

    read : NameRead w.shape held.place found h
    read =
        let r = leads in
        let later = held_stays w.shape v.number held.hand r.1 held.kind r.2 v.seen told.between legal told.others r.3 r.4 in
        name_read w.shape h r.1 held.place found later.q f.sized legal told.met_in_shape later.here (later.slot (not_weak held.kind r.0) ∙ r.5) ((told.read (Isa held.place) tt below refl).says (λ u. u))

    abbrev got : Thread
    got = put (answers.Got (isa_name_of found)) (quiet t)

    pub name_comes : Comes w t v ReadName intents.Look found v' h (naming w to held once.Asked) (replaced to (Some held) got)
    name_comes =
        let c = told_by w.shape intents.Look ReadName v found v' None act told in
        let u : Thread = replaced to (Some held) got in
        let here = to_still w.shape 1 v v' held (class_of w.classes to) c f.coming in
        let walk = replaced_walks w (LeadsTo v') got to (Some held) f.is_for f.fit f.fits.0 (classed_still w.shape 1 w.classes v v' t.vars c f.classed) (new-some (LeadsTo v') (class_of w.classes to) held here) in
        stays_shown w t v ReadName intents.Look found v' (naming w to held once.Asked) u told f (read.takes.0, read.takes) refl act walk.event (name_shown w.shape f.sized (extent_of w.shape) held.place found w.thread intents.Look h read.named) walk.hands walk.count walk.same walk.classed (fresh_coming w.classes v' u.doing walk.fresh) walk.asks
        (fresh_under w.shape v' u.doing walk.fresh (works ∙ f.under_way.working) (owes_still w.shape 1 v v' c f.under_way.none))

-- ---- by where the plan is

pub naming_allowed : (w : Work) (t : Thread) (v : View) (to : ℕ) (held : Held) (plan : OneStep) (step : Step) (intent : Intent) → Facts w t v (doings.Naming to held plan) → t.asked ≡ moves.Step step intent → Admits w.shape v step intent
naming_allowed w t v to held plan step intent f asked =
    once_asked t.asked (Load (number (extent_of w.shape) (Isa held.place))) intents.Look (λ a x. Facts w t v (naming w to held a) → Admits w.shape v x.0 x.1) step intent asked
    (λ g. name_allowed w t v to held g) plan.at f.asks.1 (subst (λ (p : OneStep). Facts w t v (doings.Naming to held p)) f.asks.0 f)

pub naming_comes : (w : Work) (t : Thread) (v : View) (to : ℕ) (held : Held) (plan : OneStep) (step : Step) (intent : Intent) (found : ℕ) (v' : View) → Facts w t v (doings.Naming to held plan) → t.asked ≡ moves.Step step intent
    → (told : Told w.shape intent step v found v') → Comes w t v step intent found v' (told.between ++ v.seen) (doings.Naming to held plan) (turned_at (Some found) (doings.Naming to held plan) (quiet t))
naming_comes w t v to held plan step intent found v' f asked =
    subst (λ (p : OneStep). (told : Told w.shape intent step v found v') → Comes w t v step intent found v' (told.between ++ v.seen) (doings.Naming to held p) (turned_at (Some found) (doings.Naming to held p) (quiet t))) (sym f.asks.0)
    (once_asked t.asked (Load (number (extent_of w.shape) (Isa held.place))) intents.Look Case step intent asked (λ g told. name_comes w t v to held g found v' told) plan.at f.asks.1
    (subst (λ (p : OneStep). Facts w t v (doings.Naming to held p)) f.asks.0 f))
  where
    Case : Once → Step × Intent → Type 0
    Case a x = Facts w t v (naming w to held a) → (told : Told w.shape x.1 x.0 v found v') → Comes w t v x.0 x.1 found v' (told.between ++ v.seen) (naming w to held a) (turned_at (Some found) (naming w to held a) (quiet t))
