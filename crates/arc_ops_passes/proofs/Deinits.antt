-- A stepper in the deinit of an object, under those that wait for it: what is known of it, and what a step without an event leaves.
use Rattle.std.proofs.Common.{◌≡◌, ℕ, ◌+◌, ◌<◌, Bool, true, false, cond, ltb, List, [], ◌∷◌, ◌++◌, length, Option, Some, None, refl, sym, ap, ◌∙◌, subst, arith}
use Rattle.std.proofs.lemmas.Bool.{ltb-false}
use Rattle.arc_model.specs.declared.event.Act.{Act}
use Rattle.arc_model.specs.declared.event.ObjectName.{ObjectName}
use Rattle.arc_model.specs.Shapes.{HeapShape, class_at}
use Rattle.arc_model.specs.Heaps.{Object}
use Rattle.arc_model.specs.References.{field_count}
use Rattle.arc_model.specs.References.{name_of}
use Rattle.arc_spelling.specs.SpellingTies.Causes.{Judged}
use Rattle.arc_rule.specs.Places.{extent_of, number}
use Rattle.arc_rule.specs.declared.layout.Place.TheVariants.{Next, Field as FieldPlace}
use Rattle.arc_rule.specs.declared.step.Step.{Step}
use Rattle.arc_rule.specs.declared.step.Step.TheVariants.{Load}
use Rattle.arc_rule.specs.declared.step.Intent.{Intent}
use Rattle.arc_cells.specs.declared.cascade.At.{At as CascadeAt}
use Rattle.arc_cells.specs.declared.cascade.At.TheVariants as ats
use Rattle.arc_cells.specs.Cascades.{CascadeState, CascadeTurn, asks as cascade_asks, looks}
use Rattle.arc_cells.specs.Chains.{Frame}
use Rattle.arc_ops.specs.declared.stepper.Held.{Held}
use Rattle.arc_ops.specs.declared.stepper.Doing.{Doing}
use Rattle.arc_ops.specs.declared.stepper.Doing.TheVariants as doings
use Rattle.arc_ops.specs.Thread.{Thread}
use Rattle.arc_ops.specs.Drops.{dying_asks}
use Rattle.arc_ops.specs.Takes.{takes_at}
use Rattle.arc_spelled.specs.Spelled.{WordsHold}
use Rattle.arc_spelled.specs.StepperStands.{Work}
use Rattle.arc_view.specs.declared.view.View.{View}
use Rattle.arc_view.specs.Rule.{IsSized, IsWithin}
use Rattle.arc_view.specs.Holding.{heap_of}
use Rattle.arc_view.specs.Kinds.{act_of}
use Rattle.arc_view.specs.Steps.{Told}
use Rattle.arc_view.proofs.Within.{each_at}
use Rattle.arc_ops_passes.specs.References.{in_vars, in_flight, references, Owns}
use Rattle.arc_ops_passes.specs.Drives.{Due, IsDue, OwesAll, Asks, UnderWay, AreOfClasses, ComesOfClass, dying_due, waits, deiniting}
use Rattle.arc_ops_passes.proofs.Chain.{FirstFits, under_chain}
use Rattle.arc_ops_passes.proofs.Fields.{few_fields, NotesAt}
use Rattle.arc_ops_passes.proofs.Goes.{Facts, ComesUnder, knows_none, told_by, classed_still, claims_still, owns_still}

-- n: how many hands the thread had before, and how many references the cascade has taken
abbrev pub state : Work → ℕ → ℕ × ℕ → CascadeAt → Option Act → CascadeState
state w s n a e = record { layout = extent_of w.shape; shape = w.shape; slot = s; before = n.0; taken = n.1; at = a; event = e }

abbrev pub dying : Work → ℕ → ℕ × ℕ → CascadeAt → Option Act → Doing
dying w s n a e = doings.Dying (state w s n a e)

pub plus_none : (n : ℕ) → n + 0 ≡ n
plus_none n = omega arith

-- ---- what is owed

-- the first of those that wait goes on at a field of the shape, or behind the last
pub first_fits : (shape : HeapShape) (v : View) (d : Due) (fs : List Frame) → IsSized shape → OwesAll shape v (d ∷ waits fs) → FirstFits fs
first_fits shape v d [] sized owes = tt
first_fits shape v d (p ∷ fs) sized owes = let q = owes.just.1.0 in let few = few_fields shape q.object.class sized in let in_it = q.inside in omega (arith, few, in_it)

-- an object with the name has the fields of its class
pub fields_named : (shape : HeapShape) (name : ObjectName) (o : Object) → name_of o ≡ name → length (class_at shape o.class).fields ≡ field_count shape name
fields_named shape name o is = ap (λ (n : ObjectName). length (class_at shape n.class).fields) is

-- ---- the cascade goes on

-- to this, without a step in between, with these references in flight
pub record Continues (w : Work) (fs : List Frame) (v' : View) (t u : Thread) (flight : (Held → ℕ) → ℕ) : Type 0 where
  pub hands : u.hands ≡ t.hands
  pub vars : u.vars ≡ t.vars
  pub event : u.event ≡ t.event
  pub held : (g : Held → ℕ) → in_flight g u.hands u.doing ≡ flight g
  pub coming : ComesOfClass w.classes v' u.doing
  pub asks : Asks w.shape fs u u.doing
  pub under_way : UnderWay w.shape v' fs u.doing

abbrev pub going : CascadeTurn → Thread → Thread
going c t = dying_asks c.after c.says t

-- it looks at the next field, or behind the last one reads the next word
pub looks_on : (w : Work) (fs : List Frame) (v' : View) (s : ℕ) (n : ℕ × ℕ) (e : Option Act) (name : ObjectName) (f : ℕ) (t : Thread) → OwesAll w.shape v' (dying_due s (Some name) f ∷ waits fs) → v'.working ≡ deiniting (under_chain s f fs)
    → Continues w fs v' t (going (looks (state w s n ats.Ended e) name f) t) (λ g. 0)
looks_on w fs v' s n e name f t owes works = go (ltb f (field_count w.shape name)) refl
  where
    at_end : f ≡ field_count w.shape name → Continues w fs v' t (going (cascade_asks (state w s n ats.Ended e) ats.Leaving (Load (number (extent_of w.shape) (Next s)))) t) (λ g. 0)
    at_end same = record {
      hands = refl;
      vars = refl;
      event = refl;
      held = λ g. refl;
      coming = tt;
      asks = (refl, refl);
      under_way = record {
        name = name;
        working = works ∙ ap (λ k. deiniting (under_chain s k fs)) same;
        owes = subst (λ k. OwesAll w.shape v' (dying_due s (Some name) k ∷ waits fs)) same owes;
        rests = tt;
      };
    }

    go : (b : Bool) → ltb f (field_count w.shape name) ≡ b
        → Continues w fs v' t (going (cond b (cascade_asks (state w s n ats.Ended e) (ats.Looking name f) (Load (number (extent_of w.shape) (FieldPlace s f)))) (cascade_asks (state w s n ats.Ended e) ats.Leaving (Load (number (extent_of w.shape) (Next s))))) t) (λ g. 0)
    go true is = record {
      hands = refl;
      vars = refl;
      event = refl;
      held = λ g. refl;
      coming = tt;
      asks = (refl, refl);
      under_way = record { name = name; working = works; owes = owes; rests = tt };
    }
    go false is =
        let q = owes.just.0 in
        let past = ltb-false f (field_count w.shape name) is in
        let count = fields_named w.shape name q.object q.named in
        let in_it = q.inside in
        at_end (omega (arith, past, count, in_it))

-- ---- what is known, and a step without an event

module _ (w : Work) (t : Thread) (v : View) (s : ℕ) (n : ℕ × ℕ) (a : CascadeAt) (e : Option Act) (f : Facts w t v (dying w s n a e)) where
  abbrev d : Doing
  d = dying w s n a e

  -- the slot of an object to which something is owed is one of the shape
  pub due_below : (q : Due) → IsDue w.shape v q → q.slot < w.shape.slots
  due_below q o = (each_at (IsWithin w.shape) (heap_of v).objects o.place o.object f.in_shape.within o.here).0 q.slot o.slot

  pub silent : (fs : List Frame) (step : Step) (intent : Intent) (found : ℕ) (v' : View) (told : Told w.shape intent step v found v') → act_of w.shape v step intent found ≡ None → takes_at w.shape (Some found) (dying w s n a e) → (x u : Thread) (flight : (Held → ℕ) → ℕ)
      → x.event ≡ None → x.hands ≡ t.hands → x.vars ≡ t.vars → ((g : Held → ℕ) → flight g ≡ in_flight g t.hands (dying w s n a e)) → Continues w fs v' x u flight
      → NotesAt (dying w s n a e) (WordsHold Judged w.shape (extent_of w.shape) (Some (step, intent)) (Some found) w.thread None None (told.between ++ v.seen)) → ComesUnder fs w t v step intent found v' (told.between ++ v.seen) (dying w s n a e) u
  silent fs step intent found v' told none takes x u flight event hands vars held c holds =
      let called = told_by w.shape intent step v found v' None none told in
      let its_vars : u.vars ≡ t.vars = c.vars ∙ vars in
      let its_hands : u.hands ≡ t.hands = c.hands ∙ hands in
      let its_event : u.event ≡ None = c.event ∙ event in
      let same : (g : Held → ℕ) → references u.vars u.hands u.doing g ≡ references t.vars t.hands (dying w s n a e) g = λ g. (λ j. in_vars (its_vars j) g + (c.held g ∙ held g) j) in record {
        takes_it = takes;
        event = none ∙ sym its_event;
        holds = subst (λ (y : Option Act). NotesAt (dying w s n a e) (WordsHold Judged w.shape (extent_of w.shape) (Some (step, intent)) (Some found) w.thread y None (told.between ++ v.seen))) (sym its_event) holds;
        knows = knows_none v';
        count = ap length its_vars ∙ f.count;
        owns = subst (λ k. Owns v' k (references u.vars u.hands u.doing)) (sym its_hands) (owns_still w.shape 1 v v' t.hands (references t.vars t.hands (dying w s n a e)) (references u.vars u.hands u.doing) called f.owns same);
        classed = subst (AreOfClasses w.classes v') (sym its_vars) (classed_still w.shape 1 w.classes v v' t.vars called f.classed);
        coming = c.coming;
        no_claim = claims_still w.shape 1 v v' called f.no_claim;
        asks = c.asks;
        under_way = c.under_way;
      }
