-- A replay of many threads goes on, and its history is one.
use Rattle.std.proofs.Common.{◌≡◌, ◌≢◌, ◌⊎◌, inl, inr, ⊎_elim, ℕ, zero, suc, ◌<◌, false, List, [], ◌∷◌, ◌++◌, length, set, get_or, Option, Some, None, refl, sym, ap, ◌∙◌, subst, arith, cond, eq-eqb, ne_eqb, get_or-set_same, get_or-set_other}
use Rattle.std.specs.Prelude.{slice_get, slice_set}
use Rattle.std.proofs.lemmas.List.{length-set}
use Rattle.std.proofs.lemmas.Option.{slice_get_within, get_or_from_slice_get, slice_get_read}
use mathlib.Core.Logic.{dite}
use mathlib.Core.Option.{some, some-injective}
use native.Mathlib.Decide.{ℕ_discrete}
use lib.ListN.{get_elem?}
use Rattle.arc_model.specs.Shapes.{HeapShape}
use Rattle.arc_model.specs.History.{History, heap_after, share, IsLegal}
use Rattle.arc_spelling.specs.SpellingTies.{Ties}
use Rattle.arc_spelling.specs.SpellingTies.Causes.{Judged}
use Rattle.arc_model.proofs.Basics.{None≢Some}
use Rattle.arc_spelling.proofs.SpellTies.{ties_others, share_is as notes_share}
use Rattle.arc_rule.specs.Shown.{ShowsBut}
use Rattle.arc_rule.specs.Steps.{found_by, made_by}
use Rattle.arc_rule.specs.declared.step.Step.{Step}
use Rattle.arc_rule.specs.declared.step.Intent.{Intent}
use Rattle.arc_rule.specs.declared.layout.Place.{Place}
use Rattle.arc_rule.specs.declared.layout.Place.TheVariants as places
use Rattle.arc_ops.specs.declared.stepper.Move.TheVariants as moves
use Rattle.arc_ops.specs.Thread.{Thread}
use Rattle.arc_ops.specs.Turns.{turned}
use Rattle.arc_ops.specs.Takes.{HasHandLeft}
use Rattle.arc_programs.specs.ProgramsTied.{hands_in}
use Rattle.arc_cells.specs.Chains.{Frame}
use Rattle.arc_spelled.specs.StepperStands.{Work, IsServedWork, StandsFor, chain_after}
use Rattle.arc_spelled.specs.Came.{Extends, knowing}
use Rattle.arc_spelled.proofs.MoreKnown.{more_is_known}
use Rattle.arc_ops_passes.proofs.Hands.{others_bring_none}
use Rattle.arc_spelled.specs.Spelled.{work_of, with_event_of}
use Rattle.arc_view.specs.declared.view.Working.{Working}
use Rattle.arc_view.specs.declared.view.View.{View}
use Rattle.arc_view.specs.Views.{Excepts}
use Rattle.arc_view.specs.Rule.{IsSized, Excepted}
use Rattle.arc_view.specs.Kinds.{act_of, event_list}
use Rattle.arc_view.specs.Steps.{Told}
use Rattle.arc_view.proofs.Lists.{others_came}
use Rattle.arc_ops_passes.specs.Drives.{Drives, IsChain}
use Rattle.arc_ops_passes.specs.Laws.{GoesOn, NamesVariables}
use Rattle.arc_view.specs.Admission.{Admits}
use Rattle.arc_replays.specs.Stages.{with_chain}
use Rattle.arc_replays.specs.Replaying.{StepMade, Replaying, MayTurn, ReplayGoesOn, ReplaysBeginPhases, ReplaysGoOn, ReplaysAreOneHistory, EndedThreadsSpell}
use Rattle.arc_spelled.proofs.SteppersSpell.{ended_steppers_spell}
use Rattle.arc_ops_passes.proofs.Goes.{event_is}
use Rattle.arc_ops_passes.proofs.Laws.{steps_are_allowed, steppers_drive_on}
use Rattle.arc_ops_passes.proofs.Phases.{phases_begin, ended_steppers_hold_nothing}
use Rattle.arc_replays.proofs.Plain.{plain_steps_keep}
use Rattle.arc_replays.proofs.Chains.{same_chain, stands_chain, fits_chain, after_chain}

-- ---- lists

pub get_set : {X : Type 0} (xs : List X) (i j : ℕ) (x y : X) → slice_get (slice_set xs i x) j ≡ Some y → ((j ≡ i) × (x ≡ y)) ⊎ ((j ≢ i) × (slice_get xs j ≡ Some y))
get_set xs i j x y e =
    let long : length (set xs i x) ≡ length xs = length-set xs i x in
    let within : j < length (set xs i x) = slice_get_within (set xs i x) j y e in
    let at : get_or (set xs i x) j y ≡ y = get_or_from_slice_get (set xs i x) j y y e in
    dite (ℕ_discrete j i)
    (λ is. inl (is, sym (ap (λ n. get_or (set xs i x) n y) is ∙ get_or-set_same xs i x y (omega arith)) ∙ at))
    (λ ne. inr (ne, slice_get_read xs (length xs) j y refl (omega arith) (sym at ∙ get_or-set_other xs i j x y ne)))

pub there_is : {X : Type 0} (xs : List X) (i : ℕ) → i < length xs → (x : X) × (slice_get xs i ≡ Some x)
there_is [] i lt = absurd (omega arith)
there_is (x ∷ xs) zero lt = (x, refl)
there_is (x ∷ xs) (suc i) lt = there_is xs i (omega arith)

pub elem_below : {X : Type 0} (xs : List X) (i : ℕ) (x : X) → get_elem? xs i ≡ some x → i < length xs
elem_below [] i x e = absurd (cc)
elem_below (y ∷ xs) zero x e = omega arith
elem_below (y ∷ xs) (suc i) x e = let lt = elem_below xs i x e in omega arith

pub elem_here : {X : Type 0} (xs : List X) (i : ℕ) (x : X) → i < length xs → get_elem? (set xs i x) i ≡ some x
elem_here [] i x lt = absurd (omega arith)
elem_here (y ∷ xs) zero x lt = refl
elem_here (y ∷ xs) (suc i) x lt = elem_here xs i x (omega arith)

pub elem_else : {X : Type 0} (xs : List X) (i j : ℕ) (x : X) → j ≢ i → get_elem? (set xs i x) j ≡ get_elem? xs j
elem_else [] i j x ne = refl
elem_else (y ∷ xs) zero zero x ne = absurd (ne refl)
elem_else (y ∷ xs) zero (suc j) x ne = refl
elem_else (y ∷ xs) (suc i) zero x ne = refl
elem_else (y ∷ xs) (suc i) (suc j) x ne = elem_else xs i j x (λ e. ne (ap suc e))

-- ---- one step

module _ (shape : HeapShape) (work : ℕ → Work) (chains : ℕ → List Frame) (threads : List Thread) (words : List ℕ) (log : History) (i : ℕ) (t : Thread) (step : Step) (intent : Intent) (r : Replaying shape work chains threads words log) (m : MayTurn shape work threads words i t step intent) where
  abbrev its : (v : View) × (get_elem? r.views i ≡ some v) × (d : Drives (work i) t v) × IsChain t.doing d.chain (chains i)
  its = r.drives i t m.there

  abbrev found : ℕ
  found = found_by step words

  -- the step that the pass makes, and what the stepper makes of it
  pub record Turn : Type 0 where
    pub made : StepMade shape step intent words r.views i (r.drives i t m.there).0 r.kept.log
    pub on : GoesOn (r.drives i t m.there).2.chain (work i) t (r.drives i t m.there).0 step intent (found_by step words) made.view
    pub event : act_of shape (r.drives i t m.there).0 step intent (found_by step words) ≡ (turned t (Some (found_by step words))).event

  pub turn : Turn
  turn =
      let sized : IsSized (work i).shape = subst IsSized (sym m.same_shape) r.kept.sized in
      let may : Admits shape its.0 step intent = subst (λ (s : HeapShape). Admits s its.0 step intent) m.same_shape (steps_are_allowed (work i) t its.0 step intent m.served m.stepper sized its.2 m.asked) in
      let made = plain_steps_keep shape words r.views i its.0 step intent r.kept its.1 its.2.pass may in
      let told : Told (work i).shape intent step its.0 found made.view = subst (λ (s : HeapShape). Told s intent step its.0 found made.view) (sym m.same_shape) made.told in
      let g = steppers_drive_on (work i) t its.0 step intent found made.view m.served m.stepper sized m.hand_left its.2 m.asked told m.word in
      record { made = made; on = g; event = ap (λ (s : HeapShape). act_of s its.0 step intent found) (sym m.same_shape) ∙ sym g.event }

  -- the thread's chain after the step
  abbrev own : List Frame
  own = chain_after t (Some found) (chains i)

  replaying_on : Turn → Replaying shape work (with_chain i own chains) (slice_set threads i (turned t (Some found))) (made_by step words) (with_event_of (work i).thread (turned t (Some found)).event log)
  replaying_on x =
      let u : Thread = turned t (Some found) in
      let view : View = x.made.view in
      let chain_is : x.on.drives.chain ≡ with_chain i own chains i = x.on.under ∙ (after_chain t.doing its.2.chain (chains i) (Some found) its.3 ∙ sym (ap (λ b. cond b own (chains i)) (eq-eqb i i refl))) in record {
        views = slice_set r.views i view;
        kept = x.made.kept;
        log_is = x.made.log_is ∙ ((λ j. event_list (its.2.number j) (x.event j) ++ r.log_is j) ∙ sym (event_is (work i).thread u.event log));
        as_many = length-set r.views i view ∙ (r.as_many ∙ sym (length-set threads i u));
        drives = λ j y at. ⊎_elim
            (λ (same : (j ≡ i) × (u ≡ y)).
            let on = subst (λ (z : ℕ × Thread). (d : Drives (work z.0) z.1 view) × IsChain z.1.doing d.chain (with_chain i own chains z.0)) (λ k. (sym same.0 k, same.1 k)) (x.on.drives, same_chain u.doing x.on.drives.chain (with_chain i own chains i) chain_is) in
            (view, ap (get_elem? (set r.views i view)) same.0 ∙ elem_here r.views i view (elem_below r.views i its.0 its.1), on.0, on.1))
            (λ (other : (j ≢ i) × (slice_get threads j ≡ Some y)).
            let o = r.drives j y other.1 in
            let kept : chains j ≡ with_chain i own chains j = sym (ap (λ b. cond b own (chains j)) (ne_eqb j i other.0)) in
            (o.0, elem_else r.views i j view other.0 ∙ o.1, o.2, subst (IsChain y.doing o.2.chain) kept o.3))
            (get_set threads i j u y at);
      }

  pub goes : ReplayGoesOn shape work chains threads words log i t step
  goes = record { takes_it = turn.on.takes_it; fits = fits_chain t.doing its.2.chain (chains i) (Some found) its.3 turn.on.fits; replaying = replaying_on turn }

pub replays_go_on : ReplaysGoOn
replays_go_on shape work chains threads words log i t step intent r m = goes shape work chains threads words log i t step intent r m

-- ---- phases begin

pub replays_begin_phases : ReplaysBeginPhases
replays_begin_phases shape work chains threads after words log r known b = record {
  views = r.views;
  kept = r.kept;
  log_is = r.log_is;
  as_many = r.as_many ∙ sym b.as_many;
  drives = λ i u at.
      let x = b.each i u at in
      let d = r.drives i x.before x.there in
      let on = go i u x.before d.0 (known i x.before x.there) d.2 d.3 x.begun in
      (d.0, d.1, on.0, on.1);
}
  where
    go : (i : ℕ) (u t : Thread) (v : View) → IsServedWork (work i) × NamesVariables (work i) × HasHandLeft t → (d : Drives (work i) t v) → IsChain t.doing d.chain (chains i) → (u ≡ t) ⊎ ((t.asked ≡ moves.PhaseEnd) × (u ≡ turned t None))
        → (e : Drives (work i) u v) × IsChain u.doing e.chain (chains i)
    go i u t v known d chain (inl same) = subst (λ (x : Thread). (e : Drives (work i) x v) × IsChain x.doing e.chain (chains i)) (sym same) (d, chain)
    go i u t v known d chain (inr begins) =
        let begun = phases_begin (work i) t v known.0 known.1 known.2 d begins.0 in
        subst (λ (x : Thread). (e : Drives (work i) x v) × IsChain x.doing e.chain (chains i)) (sym begins.1) (begun.drives, begun.no_chain (chains i))

-- ---- one history

-- a pass with nothing under way excepts no place
excepts_none : (w : Working) → w.owes ≡ None → w.access ≡ None → (pl : Place) → Excepts w pl → ⊥
excepts_none w owes access places.Zero x = x
excepts_none w owes access (places.Global g) x = None≢Some x.0 (sym access ∙ x.1)
excepts_none w owes access (places.Count s) x = None≢Some (record { slot = s; counted = false }) (sym owes ∙ x)
excepts_none w owes access (places.Isa s) x = None≢Some x.0 (sym owes ∙ x.1)
excepts_none w owes access (places.Next s) x = x
excepts_none w owes access (places.Field s f) x = None≢Some x.0 (sym access ∙ x.1)
excepts_none w owes access (places.Link e) x = x
excepts_none w owes access (places.Strong e) x = x
excepts_none w owes access (places.Unowned e) x = x
excepts_none w owes access (places.Weak e) x = x
excepts_none w owes access (places.SlotBits k) x = x
excepts_none w owes access (places.EntryBits k) x = x

no_thread : (ts : List Thread) (i : ℕ) → i < length ts → slice_get ts i ≡ None → ⊥
no_thread [] i lt e = omega arith
no_thread (t ∷ ts) zero lt e = None≢Some t (sym e)
no_thread (t ∷ ts) (suc i) lt e = no_thread ts i (omega arith) e

pub replays_are_one_history : ReplaysAreOneHistory
replays_are_one_history shape work chains threads words log r = record {
  legal = subst (IsLegal shape) r.log_is r.kept.legal;
  notes = λ i t at.
      let d = r.drives i t at in
      let v : View = d.0 in
      let drives : Drives (work i) t v = d.2 in
      let f = r.kept.fits i v d.1 in
      let rest = f.begins.0 in
      let others : share rest (work i).thread ≡ [] = ap (share rest) (sym drives.number) ∙ others_came v.number r.kept.log v.seen rest f.begins.1 (f.own drives.pass) in
      let extends : Extends (hands_in v.number v.seen) (hands_in (work i).thread log) = λ x ref known.
      subst (λ (q : ℕ × History). hands_in q.0 q.1 x ≡ Some ref) (λ j. (drives.number j, (sym f.begins.1 ∙ r.log_is) j))
      (others_bring_none v.number rest v.seen x (others_came v.number r.kept.log v.seen rest f.begins.1 (f.own drives.pass)) ∙ known) in
      let known : StandsFor (knowing (hands_in (work i).thread log) (work i)) t drives.chain drives.notes = more_is_known (knowing (hands_in v.number v.seen) (work i)) (hands_in (work i).thread log) t drives.chain drives.notes drives.stands extends in
      let stands : StandsFor (knowing (hands_in (work i).thread log) (work i)) t (chains i) drives.notes = stands_chain (knowing (hands_in (work i).thread log) (work i)) t drives.chain (chains i) drives.notes d.3 known in
      (drives.notes, stands, subst (Ties Judged (work i).shape (work i).thread drives.notes) (sym f.begins.1 ∙ r.log_is) (ties_others Judged (work i).shape (work i).thread drives.notes v.seen rest others drives.tied));
  shows = λ ended.
      let none : (pl : Place) → Excepted r.views pl → ⊥ = λ pl x.
      let lt : x.0 < length threads = let below = elem_below r.views x.0 x.1 x.2 in let e = r.as_many in omega arith in
      never x.0 x.1 x.2 pl x.3 lt ended in
      subst (λ (h : History). ShowsBut (λ place. ⊥) shape (heap_after h) words) r.log_is (record { whole = r.kept.words.whole; says = λ pl inside not. r.kept.words.says pl inside (none pl) });
}
  where
    never : (i : ℕ) (v : View) → get_elem? r.views i ≡ some v → (pl : Place) → Excepts v.working pl → i < length threads → ((i : ℕ) (t : Thread) → slice_get threads i ≡ Some t → t.asked ≡ moves.Ended) → ⊥
    never i v at pl x lt ended = go (slice_get threads i) refl
      where
        go : (m : Option Thread) → slice_get threads i ≡ m → ⊥
        go (Some t) e =
            let d = r.drives i t e in
            let same : d.0 ≡ v = some-injective d.0 v (sym d.1 ∙ at) in
            let h = ended_steppers_hold_nothing (work i) t d.0 d.2 (ended i t e) in
            excepts_none d.0.working h.is_idle.owes h.is_idle.access pl (subst (λ (u : View). Excepts u.working pl) (sym same) x)
        go None e = no_thread threads i lt e

pub ended_threads_spell : EndedThreadsSpell
ended_threads_spell script came chains threads words log i t valid served within r at ended =
    let n = (replays_are_one_history script.shape (λ p. work_of script p came) chains threads words log r).notes i t at in record {
      notes = n.0;
      tied = n.2;
      spelled = ended_steppers_spell script i (hands_in i log) t (chains i) n.0 within n.1 ended;
      share_is = notes_share Judged script.shape i n.0 log n.2;
    }
