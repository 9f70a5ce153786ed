-- A stepper that reads a cell: an access to it begins, and ends once the cell's reference was copied.
use Rattle.std.proofs.Common.{◌≡◌, ◌≢◌, ◌⊎◌, ⊎_elim, ℕ, ◌+◌, ◌-◌, ◌==◌, ◌&&◌, Bool, true, false, cond, [], ◌∷◌, ◌++◌, Option, Some, None, refl, sym, ap, ◌∙◌, subst, arith, eq-eqb, ne_eqb}
use Rattle.std.specs.Prelude.{slice_get}
use mathlib.Core.Logic.{dite}
use native.Mathlib.Decide.{ℕ_discrete}
use Rattle.arc_model.specs.declared.answer.Answer.TheVariants as answers
use Rattle.arc_model.specs.declared.event.Act.{Act}
use Rattle.arc_model.specs.declared.event.Act.TheVariants as acts
use Rattle.arc_model.specs.declared.event.CellName.{CellName}
use Rattle.arc_model.specs.declared.event.CellName.TheVariants as cells
use Rattle.arc_model.specs.declared.event.Origin.TheVariants as origins
use Rattle.arc_model.specs.declared.shape.RefShape.{RefShape}
use Rattle.arc_model.specs.Shapes.{HeapShape}
use Rattle.arc_model.specs.Cells.{cell}
use Rattle.arc_model.specs.History.{History, heap_after, IsLegal}
use Rattle.arc_model.specs.Lookup.{spot}
use Rattle.arc_spelling.specs.SpellingTies.Causes.{Judged}
use Rattle.arc_rule.specs.Extents.{Extent}
use Rattle.arc_rule.specs.Places.{IsPlace, extent_of, number}
use Rattle.arc_rule.proofs.Places.{place_at-number}
use Rattle.arc_rule.specs.declared.layout.Place.{Place}
use Rattle.arc_rule.specs.declared.layout.Place.TheVariants.{Global, Field, Count}
use Rattle.arc_rule.specs.declared.step.Step.{Step}
use Rattle.arc_rule.specs.declared.step.Step.TheVariants.{Load, Exchange, Store}
use Rattle.arc_rule.specs.declared.step.Intent.{Intent}
use Rattle.arc_rule.specs.declared.step.Intent.TheVariants as intents
use Rattle.arc_rule.specs.declared.plan.Next.TheVariants as nexts
use Rattle.arc_rule.specs.declared.attempt.At.{At as AttemptAt}
use Rattle.arc_rule.specs.declared.attempt.At.TheVariants as attempt
use Rattle.arc_rule.specs.declared.attempt.Choice.{Choice}
use Rattle.arc_rule.specs.declared.attempt.Choice.TheVariants.{Tell, Write}
use Rattle.arc_rule.specs.Attempts.{exchanging, chosen}
use Rattle.arc_plan.specs.declared.slots.Once.{Once}
use Rattle.arc_plan.specs.declared.slots.Once.TheVariants as once
use Rattle.arc_side.specs.Inline.{IsCountedInline}
use Rattle.arc_cells.specs.declared.begin.BeginAnswer.{BeginAnswer}
use Rattle.arc_cells.specs.declared.begin.BeginAnswer.TheVariants as begins
use Rattle.arc_cells.specs.Begins.{Beginning, begin_row}
use Rattle.arc_cells.specs.Ends.{AccessEnd}
use Rattle.arc_programs.specs.ProgramsTied.{hands_in}
use Rattle.arc_ops.specs.declared.cell.Cell.{Cell}
use Rattle.arc_ops.specs.declared.gain.Gain.TheVariants as gains
use Rattle.arc_ops.specs.declared.stepper.Held.{Held}
use Rattle.arc_ops.specs.declared.stepper.Doing.{Doing}
use Rattle.arc_ops.specs.declared.stepper.Doing.TheVariants as doings
use Rattle.arc_ops.specs.declared.stepper.Move.TheVariants as moves
use Rattle.arc_ops.specs.Cells.{IsCellWord, cell_number, place_in, source_in, open_begun}
use Rattle.arc_served.specs.Programs.{class_of, ref_of}
use Rattle.arc_ops.specs.Thread.{Thread, put}
use Rattle.arc_ops.specs.Plans.{gain_begun}
use Rattle.arc_ops.specs.Gets.{opened_on}
use Rattle.arc_ops.specs.Drops.{replaced}
use Rattle.arc_ops.specs.Takes.{takes_at}
use Rattle.arc_ops.specs.Turns.{turned_at}
use Rattle.arc_spelled.specs.StepperStands.{Work}
use Rattle.arc_view.specs.declared.view.Working.{Working}
use Rattle.arc_view.specs.declared.view.View.{View}
use Rattle.arc_view.specs.Views.{idle}
use Rattle.arc_view.specs.Kinds.{act_of, event_list, when, loaded_act, stored_act, working_loaded, working_stored}
use Rattle.arc_view.specs.Admission.{Admits}
use Rattle.arc_view.specs.Steps.{Told}
use Rattle.arc_view.specs.Calls.{Called}
use Rattle.arc_view_laws.proofs.Moving.{legal_tail}
use Rattle.arc_ops_passes.specs.References.{in_vars, references, LeadsTo, LeadsFrom, Owns}
use Rattle.arc_ops_passes.specs.Drives.{MayBegin, IsFree, accessing}
use Rattle.arc_ops_passes.proofs.Fields.{AllHold}
use Rattle.arc_ops_passes.proofs.Walks.{open_walks, replaced_walks, new-some, new-none}
use Rattle.arc_ops_passes.proofs.Owned.{to_still}
use Rattle.arc_ops_passes.proofs.CellReads.{CellIsNil, CellLeads}
use Rattle.arc_ops_passes.proofs.Reached.{IsReached, NamesCell, gets, reached, vars_stand, vars_met, same_place, may_load, reads_cell, reads_word}
use Rattle.arc_ops_passes.proofs.Goes.{quiet, Facts, Comes, knows_none, attempt_asked, once_asked, told_by, fresh_under, fresh_coming, owes_still, owes_on, owns_on, claims_on, classed_still, classed_on, nothing_shown, stays}

-- ---- what a step on a cell's word is

look_act : (shape : HeapShape) (v : View) (found : ℕ) (c : CellName) → loaded_act shape v (place_in c) found (intents.Access c) ≡ when (found == 0) (acts.Look c)
look_act shape v found (cells.Field s f) = ap (λ b. when (b && found == 0) (acts.Look (cells.Field s f))) (eq-eqb (number (extent_of shape) (Field s f)) (number (extent_of shape) (Field s f)) refl)
look_act shape v found (cells.Global g) = ap (λ b. when (b && found == 0) (acts.Look (cells.Global g))) (eq-eqb (number (extent_of shape) (Global g)) (number (extent_of shape) (Global g)) refl)

look_works : (x : Working) (found : ℕ) (c : CellName) → working_loaded x (place_in c) found (intents.Access c) ≡ x
look_works x found (cells.Field s f) = refl
look_works x found (cells.Global g) = refl

end_act : (v : View) (c : CellName) → stored_act v (place_in c) (intents.Access c) ≡ None
end_act v (cells.Field s f) = refl
end_act v (cells.Global g) = refl

end_works : (at : Place → ℕ) (x : Working) (new : ℕ) (c : CellName) → working_stored at x (place_in c) new (intents.Access c) ≡ record x { access = None }
end_works at x new (cells.Field s f) = refl
end_works at x new (cells.Global g) = refl

-- ---- an access begins

abbrev pub opening : Work → ℕ → Cell → AttemptAt → Doing
opening w to c a = doings.Opening to c (record { layout = extent_of w.shape; place = cell_number (extent_of w.shape) c.name; at = a })

module _ (w : Work) (t : Thread) (v : View) (to : ℕ) (c : Cell) (a : AttemptAt) (f : Facts w t v (opening w to c a)) where
  abbrev at : ℕ
  at = cell_number (extent_of w.shape) c.name

  abbrev why : Intent
  why = intents.Access c.name

  named : NamesCell w t.vars to c
  named = gets w (hands_in v.number v.seen) t.index to c t.vars f.notes f.served f.up_to

  -- what the cell may refer to
  abbrev ref : RefShape
  ref = ref_of w.shape w.classes named.of

  here : IsReached w.shape v.number v.seen c ref
  here = reached w v.number v.seen t.vars to c f.served f.sized f.legal f.in_shape f.kinds (vars_stand w.classes v t.vars f.classed) named

  is_free : IsFree v
  is_free = f.under_way.0

  free : v.working.owes ≡ None
  free = ap (λ (x : Working). x.owes) is_free.working

  pub load_allowed : Admits w.shape v (Load at) why
  load_allowed = (place_in c.name, refl, here.place, free, may_load w.shape v c.name why here.reaches, (same_place c.name, here.reaches))

  pub swap_allowed : (seen new : ℕ) → a ≡ attempt.Exchanging seen new → Admits w.shape v (Exchange at seen new) why
  swap_allowed seen new is = let m : MayBegin (attempt.Exchanging seen new) = subst MayBegin is f.under_way.1 in (place_in c.name, refl, here.place, free, (same_place c.name, m.0, m.1, ap (λ (x : Working). x.access) is_free.working, here.reaches))

  -- what a step finds in the global
  module _ (step : Step) (found : ℕ) (v' : View) (told : Told w.shape why step v found v') where
    abbrev met : History
    met = told.between ++ v.seen

    legal_met : IsLegal w.shape met
    legal_met = legal_tail w.shape (event_list v.number (act_of w.shape v step why found)) met (subst (IsLegal w.shape) (ap (λ (x : View). x.seen) told.after) told.legal)

    still : IsReached w.shape v.number met c ref
    still = reached w v.number met t.vars to c f.served f.sized legal_met told.met_in_shape f.kinds (vars_met w.shape why step w.classes v found v' t.vars told legal_met f.classed) named

  -- ---- it loads the word
  module _ (found : ℕ) (v' : View) (told : Told w.shape why (Load at) v found v') where
    abbrev h : History
    h = told.between ++ v.seen

    load_act : act_of w.shape v (Load at) why found ≡ when (found == 0) (acts.Look c.name)
    load_act = ap (λ (q : Place). loaded_act w.shape v q found why) (place_at-number (extent_of w.shape) (place_in c.name) here.place) ∙ look_act w.shape v found c.name

    load_works : v'.working ≡ v.working
    load_works = ap (λ (x : View). x.working) told.after ∙ ap (λ (q : Place). working_loaded v.working q found why) (place_at-number (extent_of w.shape) (place_in c.name) here.place) ∙ look_works v.working found c.name

    -- it is a word that a cell may have
    cell_word : IsCellWord w.shape.slots found
    cell_word = reads_word w.shape why (Load at) v found v' told c ref (legal_met (Load at) found v' told) (still (Load at) found v' told) tt refl

    abbrev Opened : Choice BeginAnswer → Type 0
    Opened r = Comes w t v (Load at) why found v' h (opening w to c attempt.Loading)
        (opened_on to c (record { layout = extent_of w.shape; place = at; at = exchanging found r }) (chosen at found r) (quiet t))

    module _ (is : a ≡ attempt.Loading) where
      fact : Facts w t v (opening w to c attempt.Loading)
      fact = subst (λ b. Facts w t v (opening w to c b)) is f

      takes : takes_at w.shape (Some found) (opening w to c attempt.Loading)
      takes = (tt, cell_word)

      -- nil: the access needn't begin
      opens_nil : found ≡ 0 → Opened (Tell begins.Nil)
      opens_nil zero_is =
          let look : Act = acts.Look c.name in
          let act : act_of w.shape v (Load at) why found ≡ Some (acts.Look c.name) = load_act ∙ ap (λ b. when b (acts.Look c.name)) (eq-eqb found 0 zero_is) in
          let called : Called w.shape (acts.Look c.name ∷ []) 1 v v' = told_by w.shape why (Load at) v found v' (Some (acts.Look c.name)) act told in
          let q : Thread = put answers.Nil (record (quiet t) { event = Some (acts.Look c.name) }) in
          let u : Thread = replaced to None q in
          let walk = replaced_walks w (LeadsTo v') q to None f.is_for f.fit f.fits.0 (classed_on w.shape 1 (acts.Look c.name) w.classes v v' t.vars called (λ x held e. refl) f.classed) (new-none (LeadsTo v') (class_of w.classes to)) in record {
            takes_it = takes;
            event = act ∙ sym walk.event;
            holds = subst (λ (e : Option Act). AllHold Judged w.shape (extent_of w.shape) (Some (Load at, why)) (Some found) w.thread e None h) (sym walk.event)
                (nothing_shown w.shape f.sized (extent_of w.shape) (Load at) why found w.thread (Some (acts.Look c.name)) h tt tt);
            knows = knows_none v';
            count = walk.count ∙ f.count;
            owns = subst (λ n. Owns v' n (references u.vars u.hands u.doing)) (sym walk.hands)
                (owns_on w.shape 1 (acts.Look c.name) v v' t.hands (references t.vars t.hands (opening w to c a)) (references u.vars u.hands u.doing) called (λ k. refl) refl f.owns (λ x. let e = walk.same x in omega arith));
            classed = walk.classed;
            coming = fresh_coming w.classes v' u.doing walk.fresh;
            no_claim = claims_on w.shape 1 (acts.Look c.name) v v' called (λ n e. refl) f.no_claim;
            asks = walk.asks;
            under_way = fresh_under w.shape v' u.doing walk.fresh (load_works ∙ is_free.working) (owes_on w.shape 1 (acts.Look c.name) v v' called (λ i k. refl) is_free.none);
          }

      -- no event
      none_act : found ≢ 0 → act_of w.shape v (Load at) why found ≡ None
      none_act ne = load_act ∙ ap (λ b. when b (acts.Look c.name)) (ne_eqb found 0 ne)

      called_none : found ≢ 0 → Called w.shape [] 1 v v'
      called_none ne = told_by w.shape why (Load at) v found v' None (none_act ne) told

      -- another one accesses it
      opens_busy : found ≢ 0 → Opened (Tell begins.Busy)
      opens_busy ne =
          let called = called_none ne in
          let walk = open_walks w (LeadsTo v') to c (quiet t) (quiet t) (in_vars t.vars) f.is_for refl refl refl (λ x. refl) (classed_still w.shape 1 w.classes v v' t.vars called f.classed) in
          let u : Thread = open_begun to c (quiet t) in
          stays w t v (Load at) why found v' (opening w to c attempt.Loading) u told fact takes refl (none_act ne) walk.event tt walk.hands walk.count (λ x. let e = walk.same x in omega arith) walk.classed (fresh_coming w.classes v' u.doing walk.fresh) walk.asks
          (fresh_under w.shape v' u.doing walk.fresh (load_works ∙ is_free.working) (owes_still w.shape 1 v v' called is_free.none))

      opens_on : found ≢ 0 → found ≢ 1 → Opened (Write 1)
      opens_on ne unmarked =
          let called = called_none ne in
          let u : Thread = record (quiet t) { doing = opening w to c (attempt.Exchanging found 1); asked = moves.Step (Exchange at found 1) why } in
          stays w t v (Load at) why found v' (opening w to c attempt.Loading) u told fact takes refl (none_act ne) refl tt refl refl (λ x. refl) (classed_still w.shape 1 w.classes v v' t.vars called f.classed) tt (refl, refl)
          (record { working = load_works ∙ is_free.working; none = owes_still w.shape 1 v v' called is_free.none }, (omega (arith, ne, unmarked), refl))

      pub load_comes : Opened (begin_row found)
      load_comes = dite (ℕ_discrete found 0)
          (λ e. subst (λ b. Opened (row b (found == 1))) (sym (eq-eqb found 0 e)) (opens_nil e))
          (λ ne. dite (ℕ_discrete found 1)
          (λ e. subst (λ (b : Bool × Bool). Opened (row b.0 b.1)) (λ j. (sym (ne_eqb found 0 ne) j, sym (eq-eqb found 1 e) j)) (opens_busy ne))
          (λ unmarked. subst (λ (b : Bool × Bool). Opened (row b.0 b.1)) (λ j. (sym (ne_eqb found 0 ne) j, sym (ne_eqb found 1 unmarked) j)) (opens_on ne unmarked)))
        where
          row : Bool → Bool → Choice BeginAnswer
          row b c = cond b (Tell begins.Nil) (cond c (Tell begins.Busy) (Write 1))

  -- ---- it exchanges it
  module _ (seen new : ℕ) (found : ℕ) (v' : View) (told : Told w.shape why (Exchange at seen new) v found v') (is : a ≡ attempt.Exchanging seen new) where
    abbrev d : Doing
    d = opening w to c (attempt.Exchanging seen new)

    fact_swap : Facts w t v d
    fact_swap = subst (λ b. Facts w t v (opening w to c b)) is f

    abbrev h_swap : History
    h_swap = told.between ++ v.seen

    may : MayBegin (attempt.Exchanging seen new)
    may = subst MayBegin is f.under_way.1

    act_none : act_of w.shape v (Exchange at seen new) why found ≡ None
    act_none = go (found == seen)
      where
        go : (b : Bool) → Path (Option Act) (cond b None None) None
        go true = refl
        go false = refl

    c_none : Called w.shape [] 1 v v'
    c_none = told_by w.shape why (Exchange at seen new) v found v' None act_none told

    works_if : v'.working ≡ cond (found == seen) (record v.working { access = Some (record { cell = c.name; value = seen }) }) v.working
    works_if = ap (λ (x : View). x.working) told.after

    abbrev Swapped : Bool → Type 0
    Swapped b = Comes w t v (Exchange at seen new) why found v' h_swap d
        (opened_on to c (record { layout = extent_of w.shape; place = at; at = attempt.Ended }) (nexts.Done (cond b (begins.Held seen) (begins.Again (record { seen = seen; found = found })))) (quiet t))

    -- another word is there
    missed : found ≢ seen → Swapped false
    missed ne =
        let walk = open_walks w (LeadsTo v') to c (quiet t) (quiet t) (in_vars t.vars) f.is_for refl refl refl (λ x. refl) (classed_still w.shape 1 w.classes v v' t.vars c_none f.classed) in
        let u : Thread = open_begun to c (quiet t) in
        let works = works_if ∙ ap (λ b. cond b (record v.working { access = Some (record { cell = c.name; value = seen }) }) v.working) (ne_eqb found seen ne) in
        stays w t v (Exchange at seen new) why found v' d u told fact_swap ((λ e. cc), tt) refl act_none walk.event tt walk.hands walk.count (λ x. let e = walk.same x in omega arith) walk.classed (fresh_coming w.classes v' u.doing walk.fresh) walk.asks
        (fresh_under w.shape v' u.doing walk.fresh (works ∙ is_free.working) (owes_still w.shape 1 v v' c_none is_free.none))

    -- the access has begun
    hit : found ≡ seen → Swapped true
    hit same =
        let u : Thread = gain_begun gains.Copy to (source_in c seen) (quiet t) in
        stays w t v (Exchange at seen new) why found v' d u told fact_swap ((λ e. cc), tt) refl act_none refl tt refl refl (λ x. refl) (classed_still w.shape 1 w.classes v v' t.vars c_none f.classed) tt (
          (λ j. record { layout = f.is_for.0 j; slot = seen - 2; list = c.kind; caps = (f.is_for.1 j).caps; entry = None; at = attempt.Loading }),
          ap (λ (l : Extent). moves.Step (Load (number l (Count (seen - 2)))) (intents.Copy (origins.Cell c.name))) f.is_for.0,
        ) (record { working = works; none = owes_still w.shape 1 v v' c_none is_free.none; source = leads }, tt)
      where
        back : seen ≡ seen - 2 + 2
        back = let m = may.0 in omega arith

        works : v'.working ≡ accessing c.name (seen - 2)
        works = works_if ∙ (ap (λ b. cond b (record v.working { access = Some (record { cell = c.name; value = seen }) }) v.working) (eq-eqb found seen same)
            ∙ ((λ j. record (is_free.working j) { access = Some (record { cell = c.name; value = seen }) }) ∙ (λ j. record idle { access = Some (record { cell = c.name; value = back j }) })))

        seen_is : v'.seen ≡ h_swap
        seen_is = ap (λ (x : View). x.seen) told.after ∙ ap (λ b. event_list v.number b ++ h_swap) act_none

        read : CellIsNil h_swap c.name found ⊎ CellLeads w.shape h_swap c.name ref found
        read = reads_cell w.shape why (Exchange at seen new) v found v' told c ref (legal_met (Exchange at seen new) found v' told) reach tt refl (λ one. let m = may.0 in omega (arith, one, same))
          where
            reach : IsReached w.shape v.number h_swap c ref
            reach = still (Exchange at seen new) found v' told

        leads : LeadsFrom v' (source_in c seen)
        leads = ⊎_elim (λ (r : CellIsNil h_swap c.name found). absurd (let z = r.word in let m = may.0 in omega arith)) (λ (r : CellLeads w.shape h_swap c.name ref found). (
          subst IsCountedInline (sym here.kind) here.counted,
          r.place,
          r.object,
          (
            ap (λ (k : History). spot (cell (heap_after k) c.name) (heap_after k)) seen_is ∙ (r.at ∙ ap (λ k. Some (record { place = r.place; kind = k })) (sym here.kind)),
            (record { cell = c.name; value = seen - 2 + 2 }, ap (λ (x : Working). x.access) works, refl),
          ),
          ap (λ (k : History). slice_get (heap_after k).objects r.place) seen_is ∙ r.here,
          r.in_slot ∙ ap Some (let z = r.word in let e : r.slot ≡ seen - 2 = omega arith in e),
        )) read

    pub swap_comes : Swapped (found == seen)
    swap_comes = dite (ℕ_discrete found seen) (λ e. subst Swapped (sym (eq-eqb found seen e)) (hit e)) (λ ne. subst Swapped (sym (ne_eqb found seen ne)) (missed ne))

-- ---- by where the attempt is

pub opens_allowed : (w : Work) (t : Thread) (v : View) (to : ℕ) (c : Cell) (plan : Beginning) (step : Step) (intent : Intent) → Facts w t v (doings.Opening to c plan) → t.asked ≡ moves.Step step intent → Admits w.shape v step intent
opens_allowed w t v to c plan step intent f asked =
    attempt_asked t.asked (cell_number (extent_of w.shape) c.name) (intents.Access c.name) (λ a x. Facts w t v (opening w to c a) → Admits w.shape v x.0 x.1) step intent asked
    (λ k. load_allowed w t v to c attempt.Loading k) (λ seen new k. swap_allowed w t v to c (attempt.Exchanging seen new) k seen new refl) plan.at f.asks.1 (subst (λ (p : Beginning). Facts w t v (doings.Opening to c p)) f.asks.0 f)

pub opens_come : (w : Work) (t : Thread) (v : View) (to : ℕ) (c : Cell) (plan : Beginning) (step : Step) (intent : Intent) (found : ℕ) (v' : View) → Facts w t v (doings.Opening to c plan) → t.asked ≡ moves.Step step intent
    → (told : Told w.shape intent step v found v') → Comes w t v step intent found v' (told.between ++ v.seen) (doings.Opening to c plan) (turned_at (Some found) (doings.Opening to c plan) (quiet t))
opens_come w t v to c plan step intent found v' f asked =
    subst Case (sym f.asks.0)
    (attempt_asked t.asked (cell_number (extent_of w.shape) c.name) (intents.Access c.name) CaseAt step intent asked (λ k told. load_comes w t v to c attempt.Loading k found v' told refl)
    (λ seen new k told. swap_comes w t v to c (attempt.Exchanging seen new) k seen new found v' told refl) plan.at f.asks.1 (subst (λ (p : Beginning). Facts w t v (doings.Opening to c p)) f.asks.0 f))
  where
    Case : Beginning → Type 0
    Case p = (told : Told w.shape intent step v found v') → Comes w t v step intent found v' (told.between ++ v.seen) (doings.Opening to c p) (turned_at (Some found) (doings.Opening to c p) (quiet t))

    CaseAt : AttemptAt → Step × Intent → Type 0
    CaseAt a x = Facts w t v (opening w to c a) → (told : Told w.shape x.1 x.0 v found v') → Comes w t v x.0 x.1 found v' (told.between ++ v.seen) (opening w to c a) (turned_at (Some found) (opening w to c a) (quiet t))

-- ---- an access ends

abbrev pub closing : Work → ℕ → CellName → Held → Once → Doing
closing w to c held a = doings.Closing to c held (record { layout = extent_of w.shape; place = cell_number (extent_of w.shape) c; value = held.place + 2; at = a })

module _ (w : Work) (t : Thread) (v : View) (to : ℕ) (c : CellName) (held : Held) (f : Facts w t v (closing w to c held once.Asked)) where
  abbrev GivesBack : Step
  GivesBack = Store (cell_number (extent_of w.shape) c) (held.place + 2)

  abbrev ends : Intent
  ends = intents.Access c

  inside : IsPlace (extent_of w.shape) (place_in c)
  inside =
      let n = gets w (hands_in v.number v.seen) t.index to (record { name = c; kind = held.kind }) t.vars f.up_to.before f.served f.up_to.getting in
      (reached w v.number v.seen t.vars to (record { name = c; kind = held.kind }) f.served f.sized f.legal f.in_shape f.kinds (vars_stand w.classes v t.vars f.classed) n).place

  pub close_allowed : Admits w.shape v GivesBack ends
  close_allowed =
      let is = f.under_way.0 in
      (place_in c, refl, inside, (ap (λ (x : Working). x.owes) is, (record { cell = c; value = held.place + 2 }, ap (λ (x : Working). x.access) is, refl, same_place c, refl)))

  module _ (found : ℕ) (v' : View) (told : Told w.shape ends GivesBack v found v') where
    close_act : act_of w.shape v GivesBack ends found ≡ None
    close_act = ap (λ (q : Place). stored_act v q ends) (place_at-number (extent_of w.shape) (place_in c) inside) ∙ end_act v c

    close_works : v'.working ≡ idle
    close_works = ap (λ (x : View). x.working) told.after ∙ (ap (λ (q : Place). working_stored (number (extent_of w.shape)) v.working q (held.place + 2) ends) (place_at-number (extent_of w.shape) (place_in c) inside)
        ∙ (end_works (number (extent_of w.shape)) v.working (held.place + 2) c ∙ ap (λ (x : Working). record x { access = None }) f.under_way.0))

    abbrev done : Thread
    done = put answers.Ok (quiet t)

    pub close_comes : Comes w t v GivesBack ends found v' (told.between ++ v.seen) (closing w to c held once.Asked) (replaced to (Some held) done)
    close_comes =
        let called = told_by w.shape ends GivesBack v found v' None close_act told in
        let u : Thread = replaced to (Some held) done in
        let here = to_still w.shape 1 v v' held (class_of w.classes to) called f.coming in
        let walk = replaced_walks w (LeadsTo v') done to (Some held) f.is_for f.fit f.fits.0 (classed_still w.shape 1 w.classes v v' t.vars called f.classed) (new-some (LeadsTo v') (class_of w.classes to) held here) in
        stays w t v GivesBack ends found v' (closing w to c held once.Asked) u told f tt refl close_act walk.event tt walk.hands walk.count walk.same walk.classed (fresh_coming w.classes v' u.doing walk.fresh) walk.asks
        (fresh_under w.shape v' u.doing walk.fresh close_works (owes_still w.shape 1 v v' called f.under_way.1))

-- ---- by where the plan is

pub closes_allowed : (w : Work) (t : Thread) (v : View) (to : ℕ) (c : CellName) (held : Held) (plan : AccessEnd) (step : Step) (intent : Intent) → Facts w t v (doings.Closing to c held plan) → t.asked ≡ moves.Step step intent → Admits w.shape v step intent
closes_allowed w t v to c held plan step intent f asked =
    once_asked t.asked (Store (cell_number (extent_of w.shape) c) (held.place + 2)) (intents.Access c) (λ a x. Facts w t v (closing w to c held a) → Admits w.shape v x.0 x.1) step intent asked (λ k. close_allowed w t v to c held k) plan.at f.asks.1
    (subst (λ (p : AccessEnd). Facts w t v (doings.Closing to c held p)) f.asks.0 f)

pub closes_come : (w : Work) (t : Thread) (v : View) (to : ℕ) (c : CellName) (held : Held) (plan : AccessEnd) (step : Step) (intent : Intent) (found : ℕ) (v' : View) → Facts w t v (doings.Closing to c held plan) → t.asked ≡ moves.Step step intent
    → (told : Told w.shape intent step v found v') → Comes w t v step intent found v' (told.between ++ v.seen) (doings.Closing to c held plan) (turned_at (Some found) (doings.Closing to c held plan) (quiet t))
closes_come w t v to c held plan step intent found v' f asked =
    subst Case (sym f.asks.0)
    (once_asked t.asked (Store (cell_number (extent_of w.shape) c) (held.place + 2)) (intents.Access c) CaseAt step intent asked (λ k told. close_comes w t v to c held k found v' told) plan.at f.asks.1
    (subst (λ (p : AccessEnd). Facts w t v (doings.Closing to c held p)) f.asks.0 f))
  where
    Case : AccessEnd → Type 0
    Case p = (told : Told w.shape intent step v found v') → Comes w t v step intent found v' (told.between ++ v.seen) (doings.Closing to c held p) (turned_at (Some found) (doings.Closing to c held p) (quiet t))

    CaseAt : Once → Step × Intent → Type 0
    CaseAt a x = Facts w t v (closing w to c held a) → (told : Told w.shape x.1 x.0 v found v') → Comes w t v x.0 x.1 found v' (told.between ++ v.seen) (closing w to c held a) (turned_at (Some found) (closing w to c held a) (quiet t))
