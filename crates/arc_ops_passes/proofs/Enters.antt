-- A deinit begins: the pass stores the next word of the object, which enters the deinit under those that wait, and reads the object's name.
use Rattle.std.proofs.Common.{◌≡◌, inr, ℕ, ◌<◌, false, List, ◌∷◌, ◌++◌, option_map, Option, Some, None, refl, sym, ap, ◌∙◌, subst}
use Rattle.arc_model.specs.declared.answer.Answer.TheVariants as answers
use Rattle.arc_model.specs.declared.event.Act.{Act}
use Rattle.arc_model.specs.declared.event.ObjectName.{ObjectName}
use Rattle.arc_model.specs.Shapes.{HeapShape}
use Rattle.arc_model.specs.Heaps.{Deinit, Object}
use Rattle.arc_model.specs.Holders.{at_slot}
use Rattle.arc_model.specs.History.{History, heap_after, IsLegal}
use Rattle.arc_model.specs.Lookup.{duty_of}
use Rattle.arc_model.specs.References.{name_of}
use Rattle.arc_model.proofs.Basics.{Some-inj}
use Rattle.arc_rule.specs.Isa.{isa_name_of}
use Rattle.arc_rule.specs.Places.{IsPlace, extent_of, number}
use Rattle.arc_rule.proofs.Places.{place_at-number}
use Rattle.arc_rule.specs.declared.layout.Place.{Place}
use Rattle.arc_rule.specs.declared.layout.Place.TheVariants.{Isa, Next}
use Rattle.arc_rule.specs.declared.step.Step.{Step}
use Rattle.arc_rule.specs.declared.step.Step.TheVariants.{Load, Store}
use Rattle.arc_rule.specs.declared.step.Intent.{Intent}
use Rattle.arc_rule.specs.declared.step.Intent.TheVariants as intents
use Rattle.arc_cells.specs.declared.cascade.At.TheVariants as ats
use Rattle.arc_cells.specs.Chains.{Frame, next_word_of, parent_of}
use Rattle.arc_deinits.specs.Stands.{chained}
use Rattle.arc_ops.specs.Thread.{Thread, put}
use Rattle.arc_ops.specs.Drops.{deinit_tells}
use Rattle.arc_ops.specs.Turns.{turned_at}
use Rattle.arc_spelled.specs.StepperStands.{Work}
use Rattle.arc_view.specs.declared.view.Entered.{Entered}
use Rattle.arc_view.specs.declared.view.View.{View}
use Rattle.arc_view.specs.declared.view.Working.{Working}
use Rattle.arc_view.specs.Views.{within}
use Rattle.arc_view.specs.Holding.{At}
use Rattle.arc_view.specs.Kinds.{act_of, event_list, stored_act, but_at, parent_of as back_to, working_loaded, working_stored}
use Rattle.arc_view.specs.Admission.{MayRead, Admits}
use Rattle.arc_view.specs.Steps.{Told}
use Rattle.arc_view.proofs.Strongs.{slot_found}
use Rattle.arc_ops_passes.specs.Drives.{Due, IsDue, OwesAll, dying_due, waits, slots_of, chain_entered, deiniting}
use Rattle.arc_ops_passes.proofs.Chain.{FirstFits, under_chain, entered_back, not_entered, chain_is_parent, word_back}
use Rattle.arc_ops_passes.proofs.Dues.{owes_all_still}
use Rattle.arc_ops_passes.proofs.Names.{NameRead, name_read, name_shown}
use Rattle.arc_ops_passes.proofs.Goes.{quiet, Facts, ComesUnder, told_by, nothing_shown}
use Rattle.arc_ops_passes.proofs.Deinits.{dying, plus_none, first_fits, looks_on, due_below, silent}

-- ---- what holds of each step of a deinit

pub free : (v : View) (es : List Entered) → v.working ≡ deiniting es → v.working.owes ≡ None
free v es is = ap (λ (x : Working). x.owes) is

pub may_read : (shape : HeapShape) (v : View) (s : ℕ) (m : Option ObjectName) (k : ℕ) → IsDue shape v (dying_due s m k) → MayRead v s
may_read shape v s m k o = (o.place, o.object, o.here, o.slot, inr o.owes)

-- a load leaves what is under way, where it finds no field nil
pub works_on : (shape : HeapShape) (v : View) (pl : Place) (s found : ℕ) (v' : View) → Told shape (intents.Deinit s) (Load (number (extent_of shape) pl)) v found v' → IsPlace (extent_of shape) pl → ((x : Working) → working_loaded x pl found (intents.Deinit s) ≡ x)
    → v'.working ≡ v.working
works_on shape v pl s found v' told inside same =
    ap (λ (x : View). x.working) told.after ∙ (ap (λ (q : Place). working_loaded v.working q found (intents.Deinit s)) (place_at-number (extent_of shape) pl inside) ∙ same v.working)

-- the object that is to die, where a step of no event met it
pub record Met (shape : HeapShape) (p s : ℕ) (h seen : History) (i : ℕ) (o : Object) : Type 0 where
  pub same : seen ≡ h
  pub legal : IsLegal shape h
  pub here : At (heap_after h) i o
  pub found : at_slot s (heap_after h) ≡ Some o
  pub duty : duty_of p i (heap_after h) ≡ Some Deinit

pub met_silent : (shape : HeapShape) (intent : Intent) (st : Step) (v : View) (found : ℕ) (v' : View) (told : Told shape intent st v found v') → act_of shape v st intent found ≡ None → (s : ℕ) (name : Option ObjectName) (k : ℕ) (o : IsDue shape v' (dying_due s name k))
    → Met shape v.number s (told.between ++ v.seen) v'.seen o.place o.object
met_silent shape intent st v found v' told none s name k o =
    let h = told.between ++ v.seen in
    let number_is : v'.number ≡ v.number = ap (λ (x : View). x.number) told.after in
    let seen : v'.seen ≡ h = ap (λ (x : View). x.seen) told.after ∙ ap (λ b. event_list v.number b ++ h) none in
    let legal : IsLegal shape h = subst (IsLegal shape) seen told.legal in
    let here : At (heap_after h) o.place o.object = subst (λ l. At (heap_after l) o.place o.object) seen o.here in
    record { same = seen; legal = legal; here = here; found = slot_found shape h o.place s o.object legal here o.slot; duty = (λ j. duty_of (sym number_is j) o.place (heap_after (sym seen j))) ∙ o.owes }

module _ (w : Work) (t : Thread) (v : View) (s : ℕ) (n : ℕ × ℕ) (e : Option Act) where
  abbrev deinit : Intent
  deinit = intents.Deinit s

  -- ---- it enters
  module _ (f : Facts w t v (dying w s n ats.Entering e)) where
    abbrev fs : List Frame
    fs = f.chain

    abbrev first : Due
    first = dying_due s None 0

    owed : OwesAll w.shape v (dying_due s None 0 ∷ waits f.chain)
    owed = f.under_way.owes

    works : v.working ≡ deiniting (chain_entered f.chain)
    works = f.under_way.working

    apart : within s (slots_of (waits f.chain)) ≡ false
    apart = owed.apart.0

    fits : FirstFits f.chain
    fits = first_fits w.shape v first fs f.sized owed

    inside : s < w.shape.slots
    inside = due_below w t v s n ats.Entering e f first owed.just.0

    abbrev Enter : Step
    Enter = Store (number (extent_of w.shape) (Next s)) (next_word_of (parent_of f.chain))

    pub enter_allowed : Admits w.shape v (Store (number (extent_of w.shape) (Next s)) (next_word_of (parent_of f.chain))) (intents.Deinit s)
    enter_allowed =
        let q = owed.just.0 in
        (Next s, refl, inside, (free v (chain_entered fs) works, (q.place, q.object, _, refl, q.here, q.slot, q.owes, not_entered v s fs works apart, chain_is_parent v fs works fits, word_back fs)))

    pub enter_comes : (found : ℕ) (v' : View) (told : Told w.shape (intents.Deinit s) (Store (number (extent_of w.shape) (Next s)) (next_word_of (parent_of f.chain))) v found v')
        → ComesUnder (chained (record { layout = extent_of w.shape; shape = w.shape; slot = s; before = n.0; taken = n.1; at = ats.Entering; event = e }) (Some found) f.chain) w t v (Store (number (extent_of w.shape) (Next s)) (next_word_of (parent_of f.chain))) (intents.Deinit s) found v' (told.between ++ v.seen)
        (dying w s n ats.Entering e) (turned_at (Some found) (dying w s n ats.Entering e) (quiet t))
    enter_comes found v' told =
        let word = next_word_of (parent_of fs) in
        let none : act_of w.shape v Enter deinit found ≡ None = ap (λ (pl : Place). stored_act v pl deinit) (place_at-number (extent_of w.shape) (Next s) inside) in
        let works_then : v'.working ≡ deiniting (under_chain s 0 fs) =
        ap (λ (x : View). x.working) told.after ∙ (ap (λ (pl : Place). working_stored (number (extent_of w.shape)) v.working pl word deinit) (place_at-number (extent_of w.shape) (Next s) inside)
        ∙ (ap (λ (x : Working). record x { stored = but_at (number (extent_of w.shape)) (number (extent_of w.shape) (Next s)) x.stored; entered = record { slot = s; parent = back_to word; next_field = 0 } ∷ x.entered }) works
        ∙ ap (λ p. deiniting (record { slot = s; parent = p; next_field = 0 } ∷ chain_entered fs)) (entered_back fs fits))) in
        silent w t v s n ats.Entering e f fs Enter deinit found v' told none (λ x. cc) (deinit_tells None (quiet t)) (turned_at (Some found) (dying w s n ats.Entering e) (quiet t)) (λ g. 0) refl (plus_none t.hands) refl (λ g. refl) (record {
          hands = refl;
          vars = refl;
          event = refl;
          held = λ g. refl;
          coming = tt;
          asks = (refl, refl);
          under_way = record {
            name = f.under_way.name;
            working = works_then;
            owes = owes_all_still w.shape (first ∷ waits fs) 1 v v' f.sized (told_by w.shape deinit Enter v found v' None none told) owed;
            rests = tt;
          };
        }) (λ now noted. nothing_shown w.shape f.sized (extent_of w.shape) Enter deinit found w.thread None (told.between ++ v.seen) tt tt now)

  -- ---- it reads the name
  module _ (f : Facts w t v (dying w s n ats.Naming e)) where
    abbrev waiting : List Frame
    waiting = f.chain

    owes : OwesAll w.shape v (dying_due s None 0 ∷ waits f.chain)
    owes = f.under_way.owes

    entered : v.working ≡ deiniting (under_chain s 0 f.chain)
    entered = f.under_way.working

    below : s < w.shape.slots
    below = due_below w t v s n ats.Naming e f (dying_due s None 0) owes.just.0

    abbrev ReadName : Step
    ReadName = Load (number (extent_of w.shape) (Isa s))

    pub name_allowed : Admits w.shape v (Load (number (extent_of w.shape) (Isa s))) (intents.Deinit s)
    name_allowed = (Isa s, refl, below, free v (under_chain s 0 waiting) entered, may_read w.shape v s None 0 owes.just.0, tt)

    pub name_comes : (found : ℕ) (v' : View) (told : Told w.shape (intents.Deinit s) (Load (number (extent_of w.shape) (Isa s))) v found v')
        → ComesUnder (chained (record { layout = extent_of w.shape; shape = w.shape; slot = s; before = n.0; taken = n.1; at = ats.Naming; event = e }) (Some found) f.chain) w t v (Load (number (extent_of w.shape) (Isa s))) (intents.Deinit s) found v' (told.between ++ v.seen) (dying w s n ats.Naming e)
        (turned_at (Some found) (dying w s n ats.Naming e) (quiet t))
    name_comes found v' told =
        let h = told.between ++ v.seen in
        let then : OwesAll w.shape v' (dying_due s None 0 ∷ waits waiting) = owes_all_still w.shape (dying_due s None 0 ∷ waits waiting) 1 v v' f.sized (told_by w.shape deinit ReadName v found v' None refl told) owes in
        let o = then.just.0 in
        let m = met_silent w.shape deinit ReadName v found v' told refl s None 0 o in
        let read : NameRead w.shape s found h = name_read w.shape h o.place s found o.object f.sized m.legal told.met_in_shape m.here o.slot ((told.read (Isa s) tt below refl).says (λ u. u)) in
        let name : name_of o.object ≡ isa_name_of found = Some-inj (sym (ap (option_map name_of) m.found) ∙ read.named) in
        let named : OwesAll w.shape v' (dying_due s (Some (isa_name_of found)) 0 ∷ waits waiting) = record {
          apart = then.apart;
          just = (record { place = o.place; object = o.object; here = o.here; slot = o.slot; owes = o.owes; bare = o.bare; named = name; nils = o.nils; inside = o.inside }, then.just.1);
        } in
        silent w t v s n ats.Naming e f waiting ReadName deinit found v' told refl read.takes (put (answers.Deinit (isa_name_of found)) (deinit_tells None (quiet t))) (turned_at (Some found) (dying w s n ats.Naming e) (quiet t)) (λ g. 0) refl (plus_none t.hands) refl (λ g. refl)
        (looks_on w waiting v' s n None (isa_name_of found) 0 (put (answers.Deinit (isa_name_of found)) (deinit_tells None (quiet t))) named (works_on w.shape v (Isa s) s found v' told below (λ x. refl) ∙ entered))
        (λ now noted. name_shown w.shape f.sized (extent_of w.shape) s found w.thread deinit h read.named now)
