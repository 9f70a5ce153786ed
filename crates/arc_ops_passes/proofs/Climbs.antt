-- A deinit is over: its slot is vacated, and the deinit that waits goes on at its field, or where none waits the stepper goes on to its next operation.
use Rattle.std.proofs.Common.{◌≡◌, inr, ℕ, ◌/◌, ◌<◌, false, List, [], ◌∷◌, ◌++◌, length, option_map, Option, Some, None, refl, sym, ap, ◌∙◌, subst, arith}
use Rattle.std.specs.Prelude.{All}
use Rattle.arc_model.specs.declared.event.Act.{Act}
use Rattle.arc_model.specs.declared.event.Act.TheVariants as acts
use Rattle.arc_model.specs.Holders.{is_claimed_by}
use Rattle.arc_model.specs.History.{History, heap_after}
use Rattle.arc_model.specs.Own.{ends_hand, brings_hand, claimed_next}
use Rattle.arc_model.specs.References.{name_of}
use Rattle.arc_model.proofs.Basics.{Some-inj}
use Rattle.arc_spelling.specs.SpellingTies.Causes.{Judged}
use Rattle.arc_rule.specs.Bits.{but_bit_of}
use Rattle.arc_rule.specs.Isa.{isa_name_of}
use Rattle.arc_rule.specs.Places.{extent_of, number}
use Rattle.arc_rule.specs.declared.layout.Place.TheVariants.{Isa, SlotBits}
use Rattle.arc_rule.specs.declared.step.Step.{Step}
use Rattle.arc_rule.specs.declared.step.Step.TheVariants.{Load, And}
use Rattle.arc_rule.specs.declared.step.Intent.{Intent}
use Rattle.arc_rule.specs.declared.step.Intent.TheVariants as intents
use Rattle.arc_side.specs.declared.slot_end.At.TheVariants as slot_ends
use Rattle.arc_side.specs.SlotEnds.{SlotEnding}
use Rattle.arc_cells.specs.declared.cascade.At.{At as CascadeAt}
use Rattle.arc_cells.specs.declared.cascade.At.TheVariants as ats
use Rattle.arc_cells.specs.declared.parent.Parent.{Parent}
use Rattle.arc_cells.specs.Chains.{Frame, parent_of, rest_of}
use Rattle.arc_cells.specs.Cascades.{CascadeTurn, looks, climbs}
use Rattle.arc_deinits.specs.Stands.{Resumes, ChainFitsAt, NamesFirst, chained}
use Rattle.arc_ops.specs.declared.stepper.Held.{Held}
use Rattle.arc_ops.specs.declared.stepper.Move.TheVariants as moves
use Rattle.arc_ops.specs.Thread.{Thread}
use Rattle.arc_ops.specs.Begins.{next_op}
use Rattle.arc_ops.specs.Drops.{deinit_tells}
use Rattle.arc_ops.specs.Turns.{turned_at}
use Rattle.arc_ops.specs.Takes.{takes_at}
use Rattle.arc_spelled.specs.Spelled.{WordsHold}
use Rattle.arc_spelled.specs.StepperStands.{Work}
use Rattle.arc_view.specs.declared.view.Working.{Working}
use Rattle.arc_view.specs.declared.view.View.{View}
use Rattle.arc_view.specs.Kinds.{act_of}
use Rattle.arc_view.specs.Admission.{Admits}
use Rattle.arc_view.specs.Steps.{Told}
use Rattle.arc_view_laws.specs.Hands.{Moves}
use Rattle.arc_ops_passes.specs.References.{in_vars, in_flight, references, LeadsTo, Owns}
use Rattle.arc_ops_passes.specs.Drives.{OwesAll, IsDying, Asks, UnderWay, AreOfClasses, ComesOfClass, dying_due, vacating_due, waits, deiniting, chain_entered}
use Rattle.arc_ops_passes.proofs.Chain.{under_chain}
use Rattle.arc_ops_passes.proofs.Dues.{owes_all_still, waiting_but, none_of_all}
use Rattle.arc_ops_passes.proofs.DuesOn.{acted, vacated}
use Rattle.arc_ops_passes.proofs.Fields.{NotesAt}
use Rattle.arc_ops_passes.proofs.Walks.{IsFor, Fits, next_walks}
use Rattle.arc_ops_passes.proofs.Names.{NameRead, name_read, name_shown}
use Rattle.arc_ops_passes.proofs.Goes.{quiet, Facts, ComesUnder, knows_none, told_by, fresh_under, fresh_coming, classed_on, claims_on, owns_on, nothing_shown, as_asked}
use Rattle.arc_ops_passes.proofs.Deinits.{state, dying, plus_none, Continues, looks_on, due_below, silent}
use Rattle.arc_ops_passes.proofs.Enters.{works_on, Met, met_silent}
use Rattle.arc_ops_passes.proofs.Looks.{cascaded, looks_cascaded}
use Rattle.arc_ops_passes.proofs.FallEnds.{vacate_allowed, vacate_act, vacate_works}

-- ---- it goes on behind an event

-- to this, without a step in between, with the references of its variables alone
pub record WentOn (w : Work) (fs : List Frame) (v' : View) (t u : Thread) : Type 0 where
  pub hands : u.hands ≡ t.hands
  pub event : u.event ≡ t.event
  pub count : length u.vars ≡ length t.vars
  pub same : (g : Held → ℕ) → references u.vars u.hands u.doing g ≡ in_vars t.vars g
  pub classed : AreOfClasses w.classes v' u.vars
  pub coming : ComesOfClass w.classes v' u.doing
  pub asks : Asks w.shape fs u u.doing
  pub under_way : UnderWay w.shape v' fs u.doing

-- the deinit that waits goes on, or where none waits the next operation begins
pub climbs_on : (w : Work) (fs : List Frame) (v' : View) (s : ℕ) (n : ℕ × ℕ) (e : Option Act) (t : Thread) → IsFor w.shape t → All (Fits w (length t.vars)) t.program → AreOfClasses w.classes v' t.vars → v'.working ≡ deiniting (chain_entered fs) → OwesAll w.shape v' (waits fs)
    → WentOn w fs v' (deinit_tells e t) (cascaded (climbs (state w s n ats.Ended e) (parent_of fs)) t)
climbs_on w [] v' s n e t is_for fit classed works owes =
    let u : Thread = next_op (deinit_tells e t) in
    let walk = next_walks w (LeadsTo v') (deinit_tells e t) is_for fit classed in record {
      hands = walk.hands;
      event = walk.event;
      count = walk.count;
      same = walk.same;
      classed = walk.classed;
      coming = fresh_coming w.classes v' u.doing walk.fresh;
      asks = walk.asks;
      under_way = fresh_under w.shape v' u.doing walk.fresh works (none_of_all w.shape v' owes);
    }
climbs_on w (p ∷ fs) v' s n e t is_for fit classed works owes = record {
  hands = refl;
  event = refl;
  count = refl;
  same = λ g. plus_none (in_vars t.vars g);
  classed = classed;
  coming = tt;
  asks = (refl, refl);
  under_way = record { name = p.name; working = works; owes = owes; rests = tt };
}

module _ (w : Work) (t : Thread) (v : View) (s : ℕ) (n : ℕ × ℕ) (a : CascadeAt) (e : Option Act) (f : Facts w t v (dying w s n a e)) (fs : List Frame) (step : Step) (intent : Intent) (found : ℕ) (v' : View) (told : Told w.shape intent step v found v') where
  -- behind an event that is of no hand and of no claim
  pub acts_on : (act : Act) → act_of w.shape v step intent found ≡ Some act → ((k : ℕ) → ends_hand k act ≡ false) → brings_hand act ≡ None
      → ((m : Moves (Some act) v v') (k : ℕ) → claimed_next v.number act k (heap_after m.met) ≡ is_claimed_by v.number k (heap_after m.met)) → takes_at w.shape (Some found) (dying w s n a e) → ((g : Held → ℕ) → in_flight g t.hands (dying w s n a e) ≡ 0)
      → (x u : Thread) → x.hands ≡ t.hands → x.vars ≡ t.vars → x.event ≡ Some act → WentOn w fs v' x u
      → NotesAt (dying w s n a e) (WordsHold Judged w.shape (extent_of w.shape) (Some (step, intent)) (Some found) w.thread (Some act) None (told.between ++ v.seen)) → ComesUnder fs w t v step intent found v' (told.between ++ v.seen) (dying w s n a e) u
  acts_on act is ends brings claims takes still x u hands vars event c holds =
      let called = told_by w.shape intent step v found v' (Some act) is told in
      let its_event : u.event ≡ Some act = c.event ∙ event in
      let same : (g : Held → ℕ) → references u.vars u.hands u.doing g ≡ references t.vars t.hands (dying w s n a e) g = λ g.
      let all = c.same g in let none = still g in let own : in_vars x.vars g ≡ in_vars t.vars g = (λ j. in_vars (vars j) g) in omega (arith, all, none, own) in record {
        takes_it = takes;
        event = is ∙ sym its_event;
        holds = subst (λ (y : Option Act). NotesAt (dying w s n a e) (WordsHold Judged w.shape (extent_of w.shape) (Some (step, intent)) (Some found) w.thread y None (told.between ++ v.seen))) (sym its_event) holds;
        knows = knows_none v';
        count = c.count ∙ (ap length vars ∙ f.count);
        owns = subst (λ k. Owns v' k (references u.vars u.hands u.doing)) (sym (c.hands ∙ hands)) (owns_on w.shape 1 act v v' t.hands (references t.vars t.hands (dying w s n a e)) (references u.vars u.hands u.doing) called ends brings f.owns same);
        classed = c.classed;
        coming = c.coming;
        no_claim = claims_on w.shape 1 act v v' called claims f.no_claim;
        asks = c.asks;
        under_way = c.under_way;
      }

-- ---- the slot of an object whose deinit is over is vacated

abbrev pub slot_ending : Work → ℕ → SlotEnding
slot_ending w s = record { layout = extent_of w.shape; slot = s; entry = None; at = slot_ends.Vacating; event = None }

abbrev pub ending_at : Work → List Frame → ℕ → CascadeAt
ending_at w fs s = ats.Ending (parent_of fs) (slot_ending w s)

-- the step that does it
abbrev pub Clear : Work → ℕ → Step
Clear w s = And (number (extent_of w.shape) (SlotBits (s / 64))) (but_bit_of s)

module _ (w : Work) (t : Thread) (v : View) (s : ℕ) (n : ℕ × ℕ) (a : CascadeAt) (e : Option Act) (f : Facts w t v (dying w s n a e)) (fs : List Frame) (works : v.working ≡ deiniting (chain_entered fs)) (owes : OwesAll w.shape v (vacating_due s ∷ waits fs)) where
  free : v.working.owes ≡ None
  free = ap (λ (x : Working). x.owes) works

  clears_allowed : Admits w.shape v (Clear w s) intents.Vacate
  clears_allowed = vacate_allowed w.shape v s f.in_shape owes.just.0 free

  clears : (found : ℕ) (v' : View) (told : Told w.shape intents.Vacate (Clear w s) v found v') → a ≡ ending_at w fs s
      → ComesUnder fs w t v (Clear w s) intents.Vacate found v' (told.between ++ v.seen) (dying w s n a e) (turned_at (Some found) (dying w s n (ending_at w fs s) e) (quiet t))
  clears found v' told at =
      let act : Act = acts.Vacate s in
      let is : act_of w.shape v (Clear w s) intents.Vacate found ≡ Some act = vacate_act w.shape v s f.in_shape owes.just.0 free found in
      let called = told_by w.shape intents.Vacate (Clear w s) v found v' (Some act) is told in
      let its : OwesAll w.shape v' (waits fs) = vacated w.shape v v' s (waits fs) f.sized (acted w.shape intents.Vacate (Clear w s) v found v' act is told) (waiting_but s fs owes.apart.0) owes in
      let its_work : v'.working ≡ deiniting (chain_entered fs) = ap (λ (x : View). x.working) told.after ∙ (vacate_works w.shape v s f.in_shape owes.just.0 free found ∙ works) in
      let classed = classed_on w.shape 1 act w.classes v v' t.vars called (λ x held e. refl) f.classed in
      acts_on w t v s n a e f fs (Clear w s) intents.Vacate found v' told act is (λ k. refl) refl (λ m k. refl) (subst (λ b. takes_at w.shape (Some found) (dying w s n b e)) (sym at) (λ x. cc)) (subst (λ b. (g : Held → ℕ) → in_flight g t.hands (dying w s n b e) ≡ 0) (sym at) (λ g. refl))
      (deinit_tells (Some act) (quiet t)) (cascaded (climbs (state w s n ats.Ended (Some act)) (parent_of fs)) (quiet t)) (plus_none t.hands) refl refl (climbs_on w fs v' s n (Some act) (quiet t) f.is_for f.fit classed its_work its)
      (λ now noted. nothing_shown w.shape f.sized (extent_of w.shape) (Clear w s) intents.Vacate found w.thread (Some act) (told.between ++ v.seen) tt tt now)

module _ (w : Work) (t : Thread) (v : View) (s : ℕ) (n : ℕ × ℕ) (e : Option Act) (parent : Option Parent) (p : SlotEnding) (f : Facts w t v (dying w s n (ats.Ending parent p) e)) (step : Step) (intent : Intent) (asked : t.asked ≡ moves.Step step intent) where
  pub ends_allowed : Admits w.shape v step intent
  ends_allowed = as_asked t.asked (λ x. Admits w.shape v x.0 x.1) step (Clear w s) intent intents.Vacate f.asks.1.2 asked (clears_allowed w t v s n (ats.Ending parent p) e f f.chain f.under_way.working f.under_way.owes)

  abbrev Vacates : CascadeAt → Step × Intent → Type 0
  Vacates a x = (found : ℕ) (v' : View) (told : Told w.shape x.1 x.0 v found v') → ComesUnder f.chain w t v x.0 x.1 found v' (told.between ++ v.seen) (dying w s n (ats.Ending parent p) e) (turned_at (Some found) (dying w s n a e) (quiet t))

  at_is : ats.Ending parent p ≡ ending_at w f.chain s
  at_is j = ats.Ending (f.asks.1.0 j) (f.asks.1.1 j)

  pub ends_comes : (found : ℕ) (v' : View) (told : Told w.shape intent step v found v')
      → ComesUnder f.chain w t v step intent found v' (told.between ++ v.seen) (dying w s n (ats.Ending parent p) e) (turned_at (Some found) (dying w s n (ats.Ending parent p) e) (quiet t))
  ends_comes = as_asked t.asked (Vacates (ats.Ending parent p)) step (Clear w s) intent intents.Vacate f.asks.1.2 asked
      (subst (λ a. Vacates a (Clear w s, intents.Vacate)) (sym at_is) (λ found v' told. clears w t v s n (ats.Ending parent p) e f f.chain f.under_way.working f.under_way.owes found v' told at_is))

-- ---- the deinit that waits goes on at its field

module _ (w : Work) (t : Thread) (v : View) (s : ℕ) (n : ℕ × ℕ) (field : ℕ) (e : Option Act) (f : Facts w t v (dying w s n (ats.Resuming field) e)) where
  abbrev ReadName : Step
  ReadName = Load (number (extent_of w.shape) (Isa s))

  abbrev deinit : Intent
  deinit = intents.Deinit s

  -- while the chain is this
  abbrev Waits : List Frame → Type 0
  Waits fs = IsDying w.shape v (state w s n (ats.Resuming field) e) fs × Resumes w.shape f.up_to.root f.up_to.base fs s field f.notes

  its_chain : Waits f.chain
  its_chain = (f.under_way, f.up_to.stands.up_to.0)

  inside : (p : Frame) (fs : List Frame) → Waits (p ∷ fs) → s < w.shape.slots
  inside p fs (d, r) = subst (λ k. k < w.shape.slots) (sym r.0) (due_below w t v s n (ats.Resuming field) e f (dying_due p.slot (Some p.name) p.field) d.owes.just.0)

  pub resumes_allowed : Admits w.shape v ReadName deinit
  resumes_allowed = go f.chain its_chain
    where
      go : (fs : List Frame) → Waits fs → Admits w.shape v ReadName deinit
      go [] x = absurd x.1
      go (p ∷ fs) (d, r) = let q = d.owes.just.0 in (Isa s, refl, inside p fs (d, r), ap (λ (x : Working). x.owes) d.working, (q.place, q.object, q.here, q.slot ∙ ap Some (sym r.0), inr q.owes), tt)

  module _ (found : ℕ) (v' : View) (told : Told w.shape deinit ReadName v found v') where
    abbrev h : History
    h = told.between ++ v.seen

    module _ (p : Frame) (fs : List Frame) (x : Waits (p ∷ fs)) where
      -- it is at the first that waits
      owes_then : OwesAll w.shape v' (dying_due s (Some p.name) field ∷ waits fs)
      owes_then = subst (OwesAll w.shape v') (λ j. dying_due (sym x.1.0 j) (Some p.name) (sym x.1.1 j) ∷ waits fs) (owes_all_still w.shape (waits (p ∷ fs)) 1 v v' f.sized (told_by w.shape deinit ReadName v found v' None refl told) x.0.owes)

      met : Met w.shape v.number s h v'.seen owes_then.just.0.place owes_then.just.0.object
      met = met_silent w.shape deinit ReadName v found v' told refl s (Some p.name) field owes_then.just.0

      read : NameRead w.shape s found h
      read = name_read w.shape h owes_then.just.0.place s found owes_then.just.0.object f.sized met.legal told.met_in_shape met.here owes_then.just.0.slot ((told.read (Isa s) tt (inside p fs x) refl).says (λ u. u))

      name_is : isa_name_of found ≡ p.name
      name_is = sym (Some-inj (sym (ap (option_map name_of) met.found) ∙ read.named)) ∙ owes_then.just.0.named

      looks_there : ComesUnder fs w t v ReadName deinit found v' h (dying w s n (ats.Resuming field) e) (turned_at (Some found) (dying w s n (ats.Resuming field) e) (quiet t))
      looks_there =
          let turn : CascadeTurn = looks (state w s n ats.Ended None) (isa_name_of found) field in
          let x0 : Thread = deinit_tells None (quiet t) in
          let works : v'.working ≡ deiniting (under_chain s field fs) = works_on w.shape v (Isa s) s found v' told (inside p fs x) (λ y. refl) ∙ (x.0.working ∙ (λ j. deiniting (under_chain (sym x.1.0 j) (sym x.1.1 j) fs))) in
          let owes : OwesAll w.shape v' (dying_due s (Some (isa_name_of found)) field ∷ waits fs) = subst (λ m. OwesAll w.shape v' (dying_due s (Some m) field ∷ waits fs)) (sym name_is) owes_then in
          let c : Continues w fs v' x0 (cascaded turn (quiet t)) (λ g. 0) =
          subst (λ (u : Thread). Continues w fs v' x0 u (λ g. 0)) (sym (looks_cascaded (state w s n ats.Ended None) (isa_name_of found) field (quiet t))) (looks_on w fs v' s n None (isa_name_of found) field x0 owes works) in
          silent w t v s n (ats.Resuming field) e f fs ReadName deinit found v' told refl read.takes x0 (cascaded turn (quiet t)) (λ g. 0) refl (plus_none t.hands) refl (λ g. refl) c
          (λ now noted. name_shown w.shape f.sized (extent_of w.shape) s found w.thread deinit h read.named now)

    pub resumes_fits : ChainFitsAt f.chain (Some found) (ats.Resuming field)
    resumes_fits = go f.chain its_chain
      where
        go : (fs : List Frame) → Waits fs → NamesFirst fs (isa_name_of found)
        go [] x = absurd x.1
        go (p ∷ fs) x = name_is p fs x

    pub resumes_comes : ComesUnder (chained (state w s n (ats.Resuming field) e) (Some found) f.chain) w t v ReadName deinit found v' h (dying w s n (ats.Resuming field) e) (turned_at (Some found) (dying w s n (ats.Resuming field) e) (quiet t))
    resumes_comes = go f.chain its_chain
      where
        go : (fs : List Frame) → Waits fs → ComesUnder (rest_of fs) w t v ReadName deinit found v' h (dying w s n (ats.Resuming field) e) (turned_at (Some found) (dying w s n (ats.Resuming field) e) (quiet t))
        go [] x = absurd x.1
        go (p ∷ fs) x = looks_there p fs x
