-- What holds at each stage of a replay: its threads drive passes, and of the events so far each is of an operation that is served, with few references.
use Rattle.std.proofs.Common.{◌≡◌, ◌≢◌, ◌⊎◌, inl, inr, ⊎_elim, ℕ, zero, suc, ◌+◌, ◌≤◌, ◌<◌, ◌==◌, ◌&&◌, Bool, true, false, cond, List, [], ◌∷◌, length, map, Option, Some, None, refl, sym, ap, ◌∙◌, subst, arith, ne_eqb}
use Rattle.std.specs.Prelude.{slice_get, slice_set}
use Rattle.std.specs.List.{AllByRecursion}
use Rattle.std.proofs.lemmas.List.{length-map, length-set}
use Rattle.std.proofs.lemmas.List.Elements.{All-from_recursion}
use Rattle.std.proofs.lemmas.Option.{slice_get_within}
use mathlib.Core.Logic.{dite}
use mathlib.Core.Option.{some}
use native.Mathlib.Decide.{ℕ_discrete}
use lib.ListN.{get_elem?}
use Rattle.arc_model.specs.declared.event.Act.{Act}
use Rattle.arc_model.specs.Shapes.{HeapShape, ObjectClass}
use Rattle.arc_model.specs.History.{History, heap_after, share, next_hand, brings}
use Rattle.arc_spelling.specs.SpellingTies.Causes.{Judged}
use Rattle.arc_model.proofs.Basics.{None≢Some, Some-inj}
use Rattle.arc_spelling.proofs.SpellTies.{hands_are}
use Rattle.arc_rule.specs.Steps.{found_by, made_by}
use Rattle.arc_rule.specs.declared.step.Step.{Step}
use Rattle.arc_rule.specs.declared.step.Intent.{Intent}
use Rattle.arc_script.specs.declared.script.ClassDecl.{ClassDecl}
use Rattle.arc_script.specs.declared.script.VarDecl.{VarDecl}
use Rattle.arc_script.specs.declared.script.Script.{Script}
use Rattle.arc_script.specs.declared.script.FieldDecl.{FieldDecl}
use Rattle.arc_script.specs.Valid.{IsScript, AreFields, field_names, field_refs, class_refs}
use Rattle.arc_quiet.specs.Whole.{NoOtherThread}
use Rattle.arc_served.specs.Served.{IsServed}
use Rattle.arc_ops.specs.declared.told.Stamped.{Stamped}
use Rattle.arc_ops.specs.declared.stepper.Move.{Move}
use Rattle.arc_ops.specs.declared.stepper.Move.TheVariants as moves
use Rattle.arc_ops.specs.Thread.{Thread, stepper_of}
use Rattle.arc_ops.specs.Turns.{turned}
use Rattle.arc_ops.specs.Takes.{takes, HasHandLeft}
use Rattle.arc_ops.specs.Steppers.{IsStepper}
use Rattle.arc_programs.specs.Programs.{Hands}
use Rattle.arc_programs.specs.ProgramsTied.{hands_in}
use Rattle.arc_cells.specs.Chains.{Frame}
use Rattle.arc_spelled.specs.StepperStands.{Work, chain_after, FitsChain}
use Rattle.arc_spelled.specs.Puts.{IsStoodFor, AreStoodFor}
use Rattle.arc_spelled.proofs.HandsLeft.{few_are_taken, hands_are_left}
use Rattle.arc_spelled.specs.Spelled.{work_of, with_event_of}
use Rattle.arc_spelled.proofs.SteppersSpell.{served-work}
use Rattle.arc_view.specs.declared.view.View.{View}
use Rattle.arc_view.specs.Rule.{IsSized}
use Rattle.arc_ops_passes.specs.Drives.{Drives, IsChain}
use Rattle.arc_ops_passes.proofs.Phases.{scripts_name_variables}
use Rattle.arc_replays.specs.Histories.{history_of}
use Rattle.arc_replays.specs.Named.{EventFits, EventsFit}
use Rattle.arc_replays.specs.Replaying.{Replaying, MayTurn, IsBegun, AreBegun, IsOneHistory}
use Rattle.arc_replays.specs.Stages.{Stage, Reached, first_stage, new_threads, begun_thread, begun_threads, awaits_phase, is_phase_end, stamped, stepped, with_chain, chains_at}
use Rattle.arc_replays.specs.Stages.Reached.{new, begins, makes, passes, inside as goes_inside, ends_it, outside as goes_outside, by_number, last, last_step}
use Rattle.arc_replays.proofs.Bare.{came_in, IsBareHeap, bare_after}
use Rattle.arc_view_laws.proofs.Counted.{counted, counted_cons}
use Rattle.arc_replays.proofs.Came.{came_few}
use Rattle.arc_replays.proofs.Beginning.{replays_begin}
use Rattle.arc_replays.proofs.GoesOn.{get_set, there_is, Turn, turn, goes, replays_are_one_history, replays_begin_phases}
use Rattle.arc_replays.proofs.Serves.{Serves, serves}

-- ---- the script's shape

fields_few : (n : ℕ) (classes : List ClassDecl) → AllByRecursion (λ (c : ClassDecl). AreFields n c.fields) classes → AllByRecursion (λ (c : ObjectClass). length c.fields ≤ 8) (class_refs classes)
fields_few n [] are = tt
fields_few n (c ∷ classes) are =
    let few = are.0.names.few in
    let names : length (field_names c.fields) ≡ length c.fields = length-map c.fields (λ (f : FieldDecl). f.name) in
    let refs : length (field_refs c.fields) ≡ length c.fields = length-map c.fields (λ (f : FieldDecl). record { kind = f.kind; class = f.class }) in
    (omega (arith, few, names, refs), fields_few n classes are.1)

pub is_sized : (script : Script) → IsScript script → IsSized script.shape
is_sized script valid =
    let classes : length script.shape.classes ≡ length script.classes = ap length valid.heading.of_classes ∙ length-map script.classes (λ (c : ClassDecl). record { fields = field_refs c.fields; immortal = c.immortal }) in
    let names : length (map (λ (c : ClassDecl). c.name) script.classes) ≡ length script.classes = length-map script.classes (λ (c : ClassDecl). c.name) in
    let few = valid.heading.classes_named.names.few in
    let globals : length script.shape.globals ≡ length script.globals = ap length valid.heading.of_globals ∙ length-map script.globals (λ (v : VarDecl). record { kind = v.kind; class = v.class }) in
    let global_names : length (map (λ (v : VarDecl). v.name) script.globals) ≡ length script.globals = length-map script.globals (λ (v : VarDecl). v.name) in
    let few_globals = valid.heading.globals_named.names.few in record {
      shape_fits = record {
        slots_fit = valid.heading.slots;
        entries_fit = valid.heading.entries;
        classes_fit = omega arith;
        fields_fit = All-from_recursion (λ (c : ObjectClass). length c.fields ≤ 8) script.shape.classes (subst (AllByRecursion (λ (c : ObjectClass). length c.fields ≤ 8)) (sym valid.heading.of_classes) (fields_few (length script.classes) script.classes valid.heading.classes_named.fields));
        globals_fit = omega arith;
      };
      caps_fit = valid.heading.caps;
    }

-- ---- the events so far

pub history_stamped : (n p : ℕ) (event : Option Act) (events : List Stamped) → history_of (stamped n p event events) ≡ with_event_of p event (history_of events)
history_stamped n p None events = refl
history_stamped n p (Some a) events = refl

fits_on : (shape : HeapShape) (p : ℕ) (event : Option Act) (log : History) → EventFits shape event → EventsFit shape log → EventsFit shape (with_event_of p event log)
fits_on shape p None log fits all = all
fits_on shape p (Some a) log fits all = (fits, all)

within_on : (script : Script) (p : ℕ) (event : Option Act) (log : History) → p ≤ length script.threads → NoOtherThread script log → NoOtherThread script (with_event_of p event log)
within_on script p None log le all = all
within_on script p (Some a) log le all = (le, all)

-- to the thread of the event one reference may come more, to others none
came_on : (p q : ℕ) (event : Option Act) (log : History) (m : ℕ) → next_hand q log ≤ m → (q ≡ p → next_hand q log + 1 ≤ m) → next_hand q (with_event_of p event log) ≤ m
came_on p q None log m few own = few
came_on p q (Some a) log m few own = dite (ℕ_discrete q p) same other
  where
    cons : counted brings q (record { thread = p; act = a } ∷ log) ≡ cond (p == q && brings a) 1 0 + counted brings q log
    cons = counted_cons brings q (record { thread = p; act = a }) log

    one : (b : Bool) → cond b 1 zero ≤ suc zero
    one true = omega arith
    one false = omega arith

    same : q ≡ p → next_hand q (record { thread = p; act = a } ∷ log) ≤ m
    same e = let c = cons in let o = one (p == q && brings a) in let le = own e in omega arith

    other : q ≢ p → next_hand q (record { thread = p; act = a } ∷ log) ≤ m
    other ne = let c = cons in let none : cond (p == q && brings a) 1 zero ≡ zero = ap (λ b. cond (b && brings a) 1 zero) (ne_eqb p q (λ e. ne (sym e))) in omega arith

-- ---- at a stage

pub record Holds (script : Script) (came : Hands) (chains : ℕ → List Frame) (s : Stage) : Type 0 where
  pub replaying : Replaying script.shape (λ p. work_of script p came) chains s.threads s.words (history_of s.events)
  pub as_many : length s.threads ≡ length script.threads + 1
  pub events_fit : EventsFit script.shape (history_of s.events)
  -- how many references came to each thread: one for each operation and each global at most, as many out of fields as all operations
  -- put into cells, and a few more
  pub few : (p : ℕ) → next_hand p (history_of s.events) ≤ 200067
  pub no_other : NoOtherThread script (history_of s.events)

pub record GoesTo (script : Script) (came : Hands) (chains : ℕ → List Frame) (s : Stage) (p : ℕ) (t : Thread) (step : Step) : Type 0 where
  pub takes_it : takes t (Some (found_by step s.words))
  pub fits : FitsChain t (chains p) (Some (found_by step s.words))
  pub holds : Holds script came (with_chain p (chain_after t (Some (found_by step s.words)) (chains p)) chains) (stepped p t step s)

module _ (script : Script) (came : Hands) (valid : IsScript script) (served : IsServed script) where
  abbrev work : ℕ → Work
  work p = work_of script p came

  module _ (chains : ℕ → List Frame) (s : Stage) (h : Holds script came chains s) where
    abbrev log : History
    log = history_of s.events

    bare : IsBareHeap (came_in log) (heap_after h.replaying.kept.log)
    bare = subst (λ (l : History). IsBareHeap (came_in log) (heap_after l)) (sym h.replaying.log_is) (bare_after script.shape log h.events_fit)

    pub few_came : came_in log < script.shape.caps.strong
    few_came =
        let few = came_few log (λ p lt. ap (λ (l : History). share l p) (sym h.replaying.log_is) ∙ h.replaying.kept.strange p (let most = h.replaying.kept.few in omega arith)) h.few in
        let cap = served.strong_cap in
        omega arith

    pub few_unowned_came : suc (came_in log) < script.shape.caps.unowned
    few_unowned_came = let few = few_came in let cap = served.strong_cap in let other = served.unowned_cap in omega arith

    -- ---- each thread's hands

    one : IsOneHistory script.shape work chains s.threads s.words log
    one = replays_are_one_history script.shape work chains s.threads s.words log h.replaying

    abbrev stood : (p : ℕ) (t : Thread) → slice_get s.threads p ≡ Some t → IsStoodFor Judged script p log
    stood p t there = let n = one.notes p t there in record { came = hands_in p log; stepper = t; chain = chains p; notes = n.0; stands = n.1; tied = n.2 }

    all_stood : AreStoodFor Judged script log
    all_stood = record {
      valid = valid;
      legal = one.legal;
      no_other = h.no_other;
      each = λ q le. let t = there_is s.threads q (let long = h.as_many in omega arith) in stood q t.0 t.1;
    }

    pub hand_left : (p : ℕ) (t : Thread) → slice_get s.threads p ≡ Some t → HasHandLeft t
    hand_left p t there = (hands_are_left Judged script log p (stood p t there) all_stood).1

    few_taken : (p : ℕ) (t : Thread) → slice_get s.threads p ≡ Some t → t.taken ≤ 100000
    few_taken p t there = let counted = (hands_are_left Judged script log p (stood p t there) all_stood).0 in let few = few_are_taken Judged script log p all_stood in omega (arith, counted, few)

    module _ (p : ℕ) (t : Thread) (step : Step) (intent : Intent) (there : slice_get s.threads p ≡ Some t) (stepper : IsStepper t) (asked : t.asked ≡ moves.Step step intent) where
      abbrev its : (v : View) × (get_elem? h.replaying.views p ≡ some v) × (d : Drives (work_of script p came) t v) × IsChain t.doing d.chain (chains p)
      its = h.replaying.drives p t there

      serves_it : Serves (work_of script p came) s.words h.replaying.views h.replaying.kept p its.0 its.1 its.2.pass (came_in log) bare few_came few_unowned_came t step intent asked step intent
      serves_it = serves (work_of script p came) s.words h.replaying.views h.replaying.kept p its.0 its.1 its.2.pass (came_in log) bare few_came few_unowned_came t step intent asked (served-work script p came valid served) stepper its.2

      abbrev may_turn : MayTurn script.shape (λ q. work_of script q came) s.threads s.words p t step intent
      may_turn = record { there = there; asked = asked; stepper = stepper; served = served-work script p came valid served; hand_left = hand_left p t there; same_shape = refl; word = serves_it.word }

      -- so many references came to the thread
      few_hands : next_hand p log ≤ 200066
      few_hands =
          let n = one.notes p t there in
          let is : next_hand p log ≡ t.hands + 1 = hands_are Judged script.shape p n.0 log n.2 ∙ ap (λ k. k + 1) (sym n.1.counts.hands_are) in
          let hands = stepper.hands in let taken = few_taken p t there in let index = stepper.index in let few = stepper.few in let cleared = stepper.cleared in let globals = stepper.globals in
          omega arith

      pub goes_to : GoesTo script came chains s p t step
      goes_to =
          let m = may_turn in
          let u : Thread = turned t (Some (found_by step s.words)) in
          let own : List Frame = chain_after t (Some (found_by step s.words)) (chains p) in
          let x : Turn script.shape work chains s.threads s.words log p t step intent h.replaying m = turn script.shape work chains s.threads s.words log p t step intent h.replaying m in
          let g = goes script.shape work chains s.threads s.words log p t step intent h.replaying m in
          let same : with_event_of p u.event log ≡ history_of (stamped (s.steps + 1) p u.event s.events) = sym (history_stamped (s.steps + 1) p u.event s.events) in record {
            takes_it = g.takes_it;
            fits = g.fits;
            holds = record {
              replaying = subst (λ (l : History). Replaying script.shape work (with_chain p own chains) (slice_set s.threads p u) (made_by step s.words) l) same g.replaying;
              as_many = length-set s.threads p u ∙ h.as_many;
              events_fit = subst (EventsFit script.shape) same (fits_on script.shape p u.event log (subst (EventFits script.shape) x.event serves_it.event) h.events_fit);
              no_other = subst (NoOtherThread script) same (within_on script p u.event log (let lt = slice_get_within s.threads p t there in let long = h.as_many in omega arith) h.no_other);
              few = λ q. subst (λ (l : History). next_hand q l ≤ 200067) same (came_on p q u.event log 200067 (h.few q) (λ own. let f = few_hands in let e : next_hand q log ≡ next_hand p log = ap (λ (k : ℕ). next_hand k log) own in omega arith));
            };
          }

    pub holds_begun : (after : List Thread) (n : ℕ) → AreBegun s.threads after → Holds script came chains (record s { begun = n; threads = after })
    holds_begun after n b = record {
      replaying = replays_begin_phases script.shape work chains s.threads after s.words log h.replaying
          (λ i t at. (served-work script i came valid served, scripts_name_variables script i came valid served (let lt = slice_get_within s.threads i t at in let long = h.as_many in omega arith), hand_left i t at)) b;
      as_many = b.as_many ∙ h.as_many;
      events_fit = h.events_fit;
      few = h.few;
      no_other = h.no_other;
    }

    pub holds_on_places : (places : List ℕ) → Holds script came chains (record s { places = places })
    holds_on_places places = record { replaying = h.replaying; as_many = h.as_many; events_fit = h.events_fit; few = h.few; no_other = h.no_other }

  -- ---- the first stage

  new_length : (n p : ℕ) → length (new_threads script n p) ≡ n
  new_length zero p = refl
  new_length (suc n) p = ap suc (new_length n (p + 1))

  pub new_are : (n p i : ℕ) (t : Thread) → slice_get (new_threads script n p) i ≡ Some t → t ≡ stepper_of script (i + p)
  new_are zero p i t at = absurd (None≢Some t at)
  new_are (suc n) p zero t at = sym (Some-inj at) ∙ ap (stepper_of script) (omega arith)
  new_are (suc n) p (suc i) t at = new_are n (p + 1) i t at ∙ ap (stepper_of script) (omega arith)

  holds_first : Holds script came (λ p. []) (first_stage script)
  holds_first = record {
    replaying = replays_begin script came (new_threads script (length script.threads + 1) 0) (first_stage script).words (is_sized script valid) (record {
      few = (let l = new_length (length script.threads + 1) 0 in let few = valid.few_threads in omega arith);
      some = (let l = new_length (length script.threads + 1) 0 in omega arith);
      new = λ i t at. new_are (length script.threads + 1) 0 i t at ∙ ap (stepper_of script) (omega arith);
    }) refl;
    as_many = new_length (length script.threads + 1) 0;
    events_fit = tt;
    few = λ p. omega arith;
    no_other = tt;
  }

-- ---- phases begin

asks_phase : (m : Move) → is_phase_end m ≡ true → m ≡ moves.PhaseEnd
asks_phase (moves.Step step intent) e = absurd cc
asks_phase moves.PhaseEnd e = refl
asks_phase moves.Ended e = absurd cc

begun_one : (t : Thread) → (begun_thread t ≡ t) ⊎ ((t.asked ≡ moves.PhaseEnd) × (begun_thread t ≡ turned t None))
begun_one t = go (awaits_phase t) refl
  where
    go : (b : Bool) → awaits_phase t ≡ b → (cond b (turned t None) t ≡ t) ⊎ ((t.asked ≡ moves.PhaseEnd) × (cond b (turned t None) t ≡ turned t None))
    go true is = inr (asks_phase t.asked is, refl)
    go false is = inl refl

begun_others : (ts : List Thread) (i : ℕ) (t : Thread) → slice_get (map begun_thread ts) i ≡ Some t → IsBegun ts i t
begun_others [] i t at = absurd (None≢Some t at)
begun_others (x ∷ ts) zero t at = record { before = x; there = refl; begun = subst (λ (u : Thread). (u ≡ x) ⊎ ((x.asked ≡ moves.PhaseEnd) × (u ≡ turned x None))) (Some-inj at) (begun_one x) }
begun_others (x ∷ ts) (suc i) t at = let b = begun_others ts i t at in record { before = b.before; there = b.there; begun = b.begun }

pub all_begun : (ts : List Thread) → AreBegun ts (begun_threads ts)
all_begun [] = record { as_many = refl; each = λ i t at. absurd (None≢Some t at) }
all_begun (first ∷ others) = record { as_many = ap suc (length-map others begun_thread); each = each }
  where
    each : (i : ℕ) (t : Thread) → slice_get (first ∷ map begun_thread others) i ≡ Some t → IsBegun (first ∷ others) i t
    each zero t at = record { before = first; there = refl; begun = inl (sym (Some-inj at)) }
    each (suc i) t at = let b = begun_others others i t at in record { before = b.before; there = b.there; begun = b.begun }

pub one_begun : (ts : List Thread) (p : ℕ) (t : Thread) → slice_get ts p ≡ Some t → awaits_phase t ≡ true → AreBegun ts (slice_set ts p (turned t None))
one_begun ts p t there awaits = record {
  as_many = length-set ts p (turned t None);
  each = λ i u at. ⊎_elim
      (λ (same : (i ≡ p) × (turned t None ≡ u)). record { before = t; there = ap (slice_get ts) same.0 ∙ there; begun = inr (asks_phase t.asked awaits, sym same.1) })
      (λ (other : (i ≢ p) × (slice_get ts i ≡ Some u)). record { before = u; there = other.1; begun = inl refl })
      (get_set ts p i (turned t None) u at);
}

-- ---- all stages

pub reached_holds : (script : Script) (came : Hands) → IsScript script → IsServed script → (ending : ℕ) (s : Stage) (r : Reached script ending s) → Holds script came (chains_at r) s
reached_holds script came valid served _ _ new = holds_first script came valid served
reached_holds script came valid served _ _ (begins {s = s} r none waits may) =
    holds_begun script came valid served (chains_at r) s (reached_holds script came valid served 0 s r) (begun_threads s.threads) (s.begun + 1) (all_begun s.threads)
reached_holds script came valid served _ _ (makes {s = s} {p = p} {places = places} {t = t} step intent r next other m) =
    (goes_to script came valid served (chains_at r) (record s { places = places }) (holds_on_places script came valid served (chains_at r) s (reached_holds script came valid served 0 s r) places) p t step intent m.there m.stepper m.asked).holds
reached_holds script came valid served _ _ (passes {s = s} {places = places} r next other there none busy) = holds_on_places script came valid served (chains_at r) s (reached_holds script came valid served 0 s r) places
reached_holds script came valid served _ _ (goes_inside {s = s} r next other first there is) = reached_holds script came valid served 0 s r
reached_holds script came valid served _ _ (ends_it {s = s} {p = p} {t = t} step intent r other m is) =
    (goes_to script came valid served (chains_at r) s (reached_holds script came valid served p s r) p t step intent m.there m.stepper m.asked).holds
reached_holds script came valid served _ _ (goes_outside {s = s} {p = p} r other there is) = reached_holds script came valid served p s r
reached_holds script came valid served _ _ (by_number {s = s} {p = p} {t = t} step intent r next other first alone m) =
    (goes_to script came valid served (chains_at r) s (reached_holds script came valid served 0 s r) p t step intent m.there m.stepper m.asked).holds
reached_holds script came valid served _ _ (last {s = s} {t = t} r none ends there awaits may) =
    holds_begun script came valid served (chains_at r) s (reached_holds script came valid served 0 s r) (slice_set s.threads 0 (turned t None)) s.begun (one_begun s.threads 0 t there awaits)
reached_holds script came valid served _ _ (last_step {s = s} {t = t} step intent r m) =
    (goes_to script came valid served (chains_at r) s (reached_holds script came valid served 0 s r) 0 t step intent m.there m.stepper m.asked).holds
