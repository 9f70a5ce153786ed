-- A stepper that exchanges what a cell has: a variable's reference, or nil, goes into it, and what was there comes into the next hand.
use Rattle.std.proofs.Common.{◌≡◌, ◌≢◌, ◌⊎◌, ⊎_elim, ℕ, ◌+◌, ◌-◌, ◌<◌, ◌≤◌, ◌==◌, Bool, true, false, cond, List, [], ◌∷◌, ◌++◌, length, set, Option, Some, None, refl, sym, ap, ◌∙◌, subst, arith, eq-eqb, ne_eqb}
use Rattle.std.specs.Prelude.{slice_get, All}
use Rattle.std.proofs.lemmas.List.{length-set}
use mathlib.Core.Logic.{dite}
use native.Mathlib.Decide.{ℕ_discrete}
use Rattle.arc_model.specs.declared.answer.Answer.TheVariants as answers
use Rattle.arc_model.specs.declared.event.Act.{Act}
use Rattle.arc_model.specs.declared.event.Act.TheVariants as acts
use Rattle.arc_model.specs.declared.event.CellName.{CellName}
use Rattle.arc_model.specs.declared.event.CellName.TheVariants as cells
use Rattle.arc_model.specs.declared.event.Event.{Event}
use Rattle.arc_model.specs.declared.event.Origin.TheVariants as origins
use Rattle.arc_model.specs.declared.shape.Kind.{Kind}
use Rattle.arc_model.specs.declared.shape.Kind.TheVariants.{Strong, Unowned, Weak}
use Rattle.arc_model.specs.declared.shape.RefShape.{RefShape}
use Rattle.arc_model.specs.Shapes.{HeapShape}
use Rattle.arc_model.specs.Heaps.{Holder, Hand}
use Rattle.arc_model.specs.Cells.{cell, cell_shape}
use Rattle.arc_model.specs.Holders.{is_number}
use Rattle.arc_model.specs.History.{History, heap_after, IsLegal}
use Rattle.arc_model.specs.Lookup.{spot}
use Rattle.arc_model.specs.Own.{ends_hand}
use Rattle.arc_spelling.specs.SpellingTies.Causes.{Judged}
use Rattle.arc_model.proofs.Basics.{None≢Some, Some-inj}
use Rattle.arc_rule.specs.Places.{IsPlace, extent_of, number, place_at}
use Rattle.arc_rule.proofs.Places.{place_at-number}
use Rattle.arc_rule.specs.declared.layout.Place.{Place}
use Rattle.arc_rule.specs.declared.layout.Place.TheVariants.{Global}
use Rattle.arc_rule.specs.declared.step.Step.{Step}
use Rattle.arc_rule.specs.declared.step.Step.TheVariants.{Load, Exchange}
use Rattle.arc_rule.specs.declared.step.Intent.{Intent}
use Rattle.arc_rule.specs.declared.step.Intent.TheVariants as intents
use Rattle.arc_rule.specs.declared.plan.Next.{Next}
use Rattle.arc_rule.specs.declared.plan.Next.TheVariants as nexts
use Rattle.arc_rule.specs.declared.attempt.At.{At as AttemptAt}
use Rattle.arc_rule.specs.declared.attempt.At.TheVariants as attempt
use Rattle.arc_rule.specs.declared.attempt.Choice.{Choice}
use Rattle.arc_rule.specs.declared.attempt.Choice.TheVariants.{Tell, Write}
use Rattle.arc_rule.specs.Attempts.{exchanging, chosen}
use Rattle.arc_side.specs.Inline.{IsCountedInline}
use Rattle.arc_cells.specs.declared.swap.SwapAnswer.{SwapAnswer}
use Rattle.arc_cells.specs.declared.swap.SwapAnswer.TheVariants as swaps
use Rattle.arc_cells.specs.Swaps.{SwapAttempt, swap_row}
use Rattle.arc_programs.specs.ProgramsTied.{hands_in}
use Rattle.arc_script.specs.declared.script.Op.{Op}
use Rattle.arc_script.specs.Valid.{ref_at}
use Rattle.arc_ops.specs.declared.cell.Cell.{Cell}
use Rattle.arc_ops.specs.declared.stepper.Held.{Held}
use Rattle.arc_ops.specs.declared.stepper.Doing.{Doing}
use Rattle.arc_ops.specs.declared.stepper.Doing.TheVariants as doings
use Rattle.arc_ops.specs.declared.stepper.Move.TheVariants as moves
use Rattle.arc_ops.specs.Cells.{IsCellWord, global_of, cell_number, place_in, word_of, held_in, hand_in, swapped, set_begun, clear_begun}
use Rattle.arc_served.specs.Programs.{class_of, ref_of}
use Rattle.arc_ops.specs.Thread.{Thread, value, set_var, put}
use Rattle.arc_ops.specs.Drops.{replaced_old}
use Rattle.arc_ops.specs.Sets.{set_on, cleared_on}
use Rattle.arc_ops.specs.Takes.{takes_at}
use Rattle.arc_ops.specs.Turns.{turned_at}
use Rattle.arc_spelled.specs.Came.{CameOut, was_there, swapped_out, came_out_at}
use Rattle.arc_spelled.specs.StepperStands.{Work}
use Rattle.arc_spelled.specs.Spelled.{WordsHold}
use Rattle.arc_view.specs.declared.view.Working.{Working}
use Rattle.arc_view.specs.declared.view.View.{View}
use Rattle.arc_view.specs.Views.{idle}
use Rattle.arc_view.specs.Holding.{heap_of}
use Rattle.arc_view.specs.Kinds.{act_of, event_list, loaded_act, hit_act, working_loaded}
use Rattle.arc_view.specs.Admission.{Admits, IsPut}
use Rattle.arc_view.specs.Steps.{Told}
use Rattle.arc_view.specs.Calls.{Called}
use Rattle.arc_view.proofs.AtCell.{cell_own}
use Rattle.arc_view.proofs.Held.{listed_busy, stays_after}
use Rattle.arc_view_laws.specs.Hands.{hand_after}
use Rattle.arc_view_laws.proofs.Hands.{told_hands}
use Rattle.arc_view_laws.proofs.Moving.{legal_tail}
use Rattle.arc_ops_passes.specs.References.{weigh, in_vars, references, one_if, has_hand, LeadsTo, Owns}
use Rattle.arc_ops_passes.specs.Drives.{MaySwap, OwesNothing, IsFree, AreOfClasses}
use Rattle.arc_ops_passes.proofs.Fields.{AllHold, notes_at}
use Rattle.arc_ops_passes.proofs.Walks.{Fits, IsFor, set_walks, clear_walks, old_walks, set-value, vars-set, vars-least}
use Rattle.arc_ops_passes.proofs.Hands.{known_new}
use Rattle.arc_ops_passes.proofs.Owned.{not_weak, leads_on, to_on, to_leads, owns_exchanged}
use Rattle.arc_ops_passes.proofs.Cells.{listed}
use Rattle.arc_ops_passes.proofs.CellReads.{CellIsNil, CellLeads}
use Rattle.arc_ops_passes.proofs.Reached.{IsReached, NamesCell, puts, reached, global_reached, vars_stand, vars_met, same_place, may_load, reads_cell, reads_word}
use Rattle.arc_ops_passes.proofs.Goes.{quiet, Facts, Comes, KnowsOf, knows_none, attempt_asked, told_by, fresh_under, fresh_coming, owes_still, owes_on, claims_on, classed_still, ReadsNoName, cell_shown, stays}

-- ---- what a step on a cell's word is

read_act : (shape : HeapShape) (v : View) (found : ℕ) (c : CellName) (put_in : Option ℕ) → loaded_act shape v (place_in c) found (intents.Swap c put_in) ≡ None
read_act shape v found (cells.Field s f) put_in = refl
read_act shape v found (cells.Global g) put_in = refl

read_works : (x : Working) (found : ℕ) (c : CellName) (put_in : Option ℕ) → working_loaded x (place_in c) found (intents.Swap c put_in) ≡ x
read_works x found (cells.Field s f) put_in = refl
read_works x found (cells.Global g) put_in = refl

-- what is put in is the word of a reference of the cell's kind and class
put_word : (shape : HeapShape) (v : View) (c : CellName) (r : RefShape) (held : Held) → cell_shape shape (heap_of v) c ≡ Some r → held.kind ≡ r.kind → LeadsTo v held r.class → IsPut shape v c (Some held.hand) (held.place + 2)
put_word shape v c r held named kind (counted, i, o, hand, here, slot, class) = go held.kind refl counted hand
  where
    go : (k : Kind) → held.kind ≡ k → IsCountedInline k → spot (Hand v.number held.hand) (heap_of v) ≡ Some (record { place = i; kind = k }) → IsPut shape v c (Some held.hand) (held.place + 2)
    go Strong is counted hand = (Strong, i, o, r, hand, here, named, sym kind ∙ is, sym class, (held.place, slot, refl))
    go Unowned is counted hand = (Unowned, i, o, r, hand, here, named, sym kind ∙ is, sym class, (held.place, slot, refl))
    go Weak is counted hand = absurd counted

-- how many references have come then
abbrev pub after : ℕ → Option Held → ℕ
after hands None = hands
after hands (Some held) = hands + 1

-- The exchange itself. The stepper, which has nothing else in flight, has these references behind it beside the one that comes.
module _ (w : Work) (t : Thread) (v : View) (c : Cell) (r : RefShape) (put_in : Option Held) (rest : List (Option Held)) (d : Doing) (f : Facts w t v d) (is_free : IsFree v) (all : (x : Held → ℕ) → references t.vars t.hands d x ≡ in_vars rest x + weigh x put_in)
    (sub : (x : ℕ) (held : Held) → value rest x ≡ Some held → value t.vars x ≡ Some held) (count_is : length rest ≡ length t.vars) (seen new found : ℕ) (v' : View)
    (told : Told w.shape (intents.Swap c.name (hand_in put_in)) (Exchange (cell_number (extent_of w.shape) c.name) seen new) v found v') (reach : IsLegal w.shape (told.between ++ v.seen) → IsReached w.shape v.number (told.between ++ v.seen) c r) (same : found ≡ seen) (unmarked : seen ≢ 1) where
  abbrev why : Intent
  why = intents.Swap c.name (hand_in put_in)

  abbrev step : Step
  step = Exchange (cell_number (extent_of w.shape) c.name) seen new

  abbrev h : History
  h = told.between ++ v.seen

  -- what comes
  abbrev came : Option Held
  came = held_in c.kind (t.hands + 1) seen

  abbrev did : Option Held → Act
  did there = acts.Swap c.name (hand_in put_in) (hand_in there)

  act_if : (b : Bool) → (seen == 0) ≡ b → act_of w.shape v step why found ≡ Some (acts.Swap c.name (hand_in put_in) (cond b None (Some (t.hands + 1))))
  act_if b is =
      (λ j. cond (eq-eqb found seen same j) (hit_act v (place_at (extent_of w.shape) (cell_number (extent_of w.shape) c.name)) seen new why) None)
      ∙ (λ j. Some (acts.Swap c.name (hand_in put_in) (cond (is j) None (Some (f.next j)))))

  works : v'.working ≡ v.working
  works = ap (λ (x : View). x.working) told.after ∙ go (found == seen)
    where
      go : (b : Bool) → cond b v.working v.working ≡ v.working
      go true = refl
      go false = refl

  number_is : v'.number ≡ v.number
  number_is = ap (λ (x : View). x.number) told.after

  legal_met : IsLegal w.shape h
  legal_met = legal_tail w.shape (event_list v.number (act_of w.shape v step why found)) h (subst (IsLegal w.shape) (ap (λ (x : View). x.seen) told.after) told.legal)

  there_still : IsReached w.shape v.number h c r
  there_still = reach legal_met

  -- the cell as a holder
  abbrev z : Holder
  z = cell (heap_after h) c.name

  read : CellIsNil h c.name found ⊎ CellLeads w.shape h c.name r found
  read = reads_cell w.shape why step v found v' told c r legal_met there_still tt refl (λ one. unmarked (sym same ∙ one))

  -- a variable that is left has another hand
  apart : (x : ℕ) (held : Held) → value rest x ≡ Some held → (p : Held) → put_in ≡ Some p → held.hand ≢ p.hand
  apart x held e p is one =
      let least = vars-least (has_hand p.hand) rest x held e in
      let its : has_hand p.hand held ≡ 1 = ap one_if (eq-eqb held.hand p.hand one) in
      let other : weigh (has_hand p.hand) put_in ≡ 1 = ap (weigh (has_hand p.hand)) is ∙ ap one_if (eq-eqb p.hand p.hand refl) in
      let a = all (has_hand p.hand) in
      let once = f.owns.once p.hand in
      absurd (omega arith)

  -- by what comes
  module _ (there : Option Held) (act : act_of w.shape v step why found ≡ Some (did there)) (is_next : (x : Held) → there ≡ Some x → x.hand ≡ t.hands + 1) where
    abbrev event : Event
    event = record { thread = v.number; act = did there }

    called : Called w.shape (did there ∷ []) 1 v v'
    called = told_by w.shape why step v found v' (Some (did there)) act told

    seen_is : v'.seen ≡ event ∷ h
    seen_is = ap (λ (x : View). x.seen) told.after ∙ ap (λ b. event_list v.number b ++ h) act

    legal : IsLegal w.shape (event ∷ h)
    legal = subst (IsLegal w.shape) seen_is told.legal

    hands_then : (k : ℕ) → spot (Hand v'.number k) (heap_of v') ≡ cond (ends_hand k (did there)) None (cond (is_number (hand_in there) k) (spot z (heap_after h)) (spot (Hand v.number k) (heap_of v)))
    hands_then k = (λ j. spot (Hand (number_is j) k) (heap_of v')) ∙ (told_hands w.shape why step v found v' told k ∙ ap (λ b. hand_after v.number b k (heap_after h) (heap_of v)) act)

    -- a hand that isn't put in isn't ended
    not_ended : (k : ℕ) → ((p : Held) → put_in ≡ Some p → k ≢ p.hand) → ends_hand k (did there) ≡ false
    not_ended k other = go put_in refl
      where
        go : (m : Option Held) → put_in ≡ m → ends_hand k (acts.Swap c.name (hand_in m) (hand_in there)) ≡ false
        go None e = refl
        go (Some p) e = ne_eqb p.hand k (λ is. other p e (sym is))

    ended : (p : Held) → put_in ≡ Some p → ends_hand p.hand (did there) ≡ true
    ended p e = ap (λ (m : Option Held). ends_hand p.hand (acts.Swap c.name (hand_in m) (hand_in there))) e ∙ eq-eqb p.hand p.hand refl

    not_brought : (k : ℕ) → ((x : Held) → there ≡ Some x → k ≢ x.hand) → is_number (hand_in there) k ≡ false
    not_brought k other = go there refl
      where
        go : (m : Option Held) → there ≡ m → is_number (hand_in m) k ≡ false
        go None e = refl
        go (Some x) e = ne_eqb x.hand k (λ is. other x e (sym is))

    gone : (p : Held) → put_in ≡ Some p → spot (Hand v'.number p.hand) (heap_of v') ≡ None
    gone p e = hands_then p.hand ∙ ap (λ b. cond b None (cond (is_number (hand_in there) p.hand) (spot z (heap_after h)) (spot (Hand v.number p.hand) (heap_of v)))) (ended p e)

    spots : (k : ℕ) → ((p : Held) → put_in ≡ Some p → k ≢ p.hand) → ((x : Held) → there ≡ Some x → k ≢ x.hand) → spot (Hand v'.number k) (heap_of v') ≡ spot (Hand v.number k) (heap_of v)
    spots k other new_one = hands_then k ∙ (λ j. cond (not_ended k other j) None (cond (not_brought k new_one j) (spot z (heap_after h)) (spot (Hand v.number k) (heap_of v))))

    -- the new hand is none that was put in
    new_hand : (x : Held) → there ≡ Some x → (p : Held) → put_in ≡ Some p → x.hand ≢ p.hand
    new_hand x e p is one =
        let a = all (has_hand p.hand) in
        let other : weigh (has_hand p.hand) put_in ≡ 1 = ap (weigh (has_hand p.hand)) is ∙ ap one_if (eq-eqb p.hand p.hand refl) in
        let below = f.owns.below p.hand (omega arith) in
        let n = is_next x e in
        omega (arith, one, n, below)

    -- it leads where the cell did
    leads : (x : Held) → there ≡ Some x → (q : CellLeads w.shape h c.name r found) → x.kind ≡ c.kind → x.place ≡ q.slot → LeadsTo v' x r.class
    leads x e q kind place =
        let s = stays_after w.shape event h legal q.place q.object q.here in
        let own = cell_own (heap_after h) c.name in
        let busy = listed_busy r.kind z q.object (listed w.shape h z q.place r.kind q.object legal_met own q.at q.here) (not_weak r.kind there_still.counted) in
        let hand : spot (Hand v'.number x.hand) (heap_of v') ≡ Some (record { place = q.place; kind = r.kind }) =
        hands_then x.hand ∙ ((λ j. cond (not_ended x.hand (new_hand x e) j) None (cond ((ap (λ m. is_number (hand_in m) x.hand) e ∙ eq-eqb x.hand x.hand refl) j) (spot z (heap_after h)) (spot (Hand v.number x.hand) (heap_of v)))) ∙ q.at) in
        let its : r.kind ≡ x.kind = sym (kind ∙ there_still.kind) in
        (subst IsCountedInline its there_still.counted, q.place, s.q, hand ∙ ap (λ k. Some (record { place = q.place; kind = k })) its, ap (λ k. slice_get (heap_after k).objects q.place) seen_is ∙ s.here, s.slot busy ∙ (q.in_slot ∙ ap Some (sym place)), s.class ∙ q.class)

    kept : AreOfClasses w.classes v' rest
    kept x held e = to_on w.shape (did there) 1 v v' held (class_of w.classes x) called (not_ended held.hand (apart x held e)) (f.classed x held (sub x held e))

    module _ (comes : (x : Held) → there ≡ Some x → LeadsTo v' x r.class) (out : came_out_at t (Some found) d ≡ was_there c.name there) (takes : takes_at w.shape (Some found) d) where
      knows : KnowsOf v' (was_there c.name there)
      knows = go there refl
        where
          go : (m : Option Held) → there ≡ m → KnowsOf v' (was_there c.name m)
          go None e = knows_none v'
          go (Some x) e = λ y is. subst (λ (z : CameOut). hands_in v'.number v'.seen z.hand ≡ Some (record { kind = z.kind; place = z.place })) (Some-inj is)
              (known_new v v' (did there) h x number_is seen_is (ap hand_in e) (to_leads v' x r.class (comes x e)))

      owns_then : (n : ℕ) (M : (Held → ℕ) → ℕ) → n ≡ after t.hands there → ((x : Held → ℕ) → M x ≡ in_vars rest x + weigh x there) → Owns v' n M
      owns_then n M is m = subst (λ k. Owns v' k M) (sym is)
          (owns_exchanged v v' t.hands (after t.hands there) rest (references t.vars t.hands d) M put_in there f.owns all m (grows there) (λ x e. (is_next x e, ap (after t.hands) e, to_leads v' x r.class (comes x e)))
          (λ x other. leads_on w.shape (did there) 1 v v' x called (not_ended x.hand other)) gone spots)
        where
          grows : (m : Option Held) → t.hands ≤ after t.hands m
          grows None = omega arith
          grows (Some x) = omega arith

      owes : OwesNothing v'
      owes = owes_on w.shape 1 (did there) v v' called (λ i k. refl) is_free.none

      -- what was there is dropped, where there was something
      pub exchanged : (q : Thread) → IsFor w.shape q → q.hands ≡ after t.hands there → q.event ≡ Some (did there) → q.vars ≡ rest → q.program ≡ t.program → Comes w t v step why found v' h d (replaced_old there q)
      exchanged q its hands event_is vars program =
          let u : Thread = replaced_old there q in
          let fit : All (Fits w (length q.vars)) q.program = subst (λ (x : ℕ × List Op). All (Fits w x.0) x.1) (λ j. (sym (ap length vars ∙ count_is) j, sym program j)) f.fit in
          let walk = old_walks w (LeadsTo v') q q there (λ x. in_vars rest x + weigh x there) its fit refl refl refl (λ x. ap (λ l. in_vars l x + weigh x there) vars) (subst (AreOfClasses w.classes v') (sym vars) kept) in record {
            takes_it = takes;
            event = act ∙ (sym event_is ∙ sym walk.event);
            holds = notes_at d (WordsHold Judged w.shape (extent_of w.shape) (Some (step, why)) (Some found) w.thread u.event (came_out_at t (Some found) d) h)
                (subst (λ (x : Option Act × Option CameOut). AllHold Judged w.shape (extent_of w.shape) (Some (step, why)) (Some found) w.thread x.0 x.1 h) (λ j. (sym (walk.event ∙ event_is) j, sym out j))
                (cell_shown w.shape f.sized (extent_of w.shape) step why found w.thread (Some (did there)) (was_there c.name there) h tt tt (λ x e is. absurd (no_copy x (Some-inj is)))));
            knows = subst (KnowsOf v') (sym out) knows;
            count = walk.count ∙ (ap length vars ∙ (count_is ∙ f.count));
            owns = owns_then u.hands (references u.vars u.hands u.doing) (walk.hands ∙ hands) walk.same;
            classed = walk.classed;
            coming = fresh_coming w.classes v' u.doing walk.fresh;
            no_claim = claims_on w.shape 1 (did there) v v' called (λ n e. refl) f.no_claim;
            asks = walk.asks;
            under_way = fresh_under w.shape v' u.doing walk.fresh (works ∙ is_free.working) owes;
          }
        where
          no_copy : (x : CameOut) → did there ≡ acts.Copy (origins.Cell x.cell) x.hand → ⊥
          no_copy x e = cc

  -- the cell was nil, or had a reference
  pub takes_out : (q : Option Held → Thread) → ((there : Option Held) → came ≡ there → came_out_at t (Some found) d ≡ was_there c.name there) → takes_at w.shape (Some found) d
      → ((there : Option Held) → IsFor w.shape (q there) × ((q there).vars ≡ rest) × ((q there).program ≡ t.program)) → ((there : Option Held) → ((q there).hands ≡ after t.hands there) × ((q there).event ≡ Some (did there)))
      → Comes w t v step why found v' h d (replaced_old came (q came))
  takes_out q out takes plain told_is = dite (ℕ_discrete seen 0) nil some
    where
      nil : seen ≡ 0 → Comes w t v step why found v' h d (replaced_old came (q came))
      nil zero_is =
          let is : came ≡ None = ap (λ b. cond b None (Some (record { hand = t.hands + 1; kind = c.kind; place = seen - 2 }))) (eq-eqb seen 0 zero_is) in
          let none : (x : Held) → None ≡ Some x → x.hand ≡ t.hands + 1 = λ x e. absurd (None≢Some x e) in
          let p = plain None in
          let s = told_is None in
          subst (λ m. Comes w t v step why found v' h d (replaced_old m (q m))) (sym is)
          (exchanged None (act_if true (eq-eqb seen 0 zero_is)) none (λ x e. absurd (None≢Some x e)) (out None is) takes (q None) p.0 s.0 s.1 p.1 p.2)

      some : seen ≢ 0 → Comes w t v step why found v' h d (replaced_old came (q came))
      some ne =
          let x : Held = record { hand = t.hands + 1; kind = c.kind; place = seen - 2 } in
          let is : came ≡ Some (record { hand = t.hands + 1; kind = c.kind; place = seen - 2 }) = ap (λ b. cond b None (Some (record { hand = t.hands + 1; kind = c.kind; place = seen - 2 }))) (ne_eqb seen 0 ne) in
          let one : (y : Held) → Some (record { hand = t.hands + 1; kind = c.kind; place = seen - 2 }) ≡ Some y → y.hand ≡ t.hands + 1 = λ y e. ap (λ (z : Held). z.hand) (sym (Some-inj e)) in
          let act : act_of w.shape v step why found ≡ Some (did (Some (record { hand = t.hands + 1; kind = c.kind; place = seen - 2 }))) = act_if false (ne_eqb seen 0 ne) in
          let p = plain (Some (record { hand = t.hands + 1; kind = c.kind; place = seen - 2 })) in
          let s = told_is (Some (record { hand = t.hands + 1; kind = c.kind; place = seen - 2 })) in
          subst (λ m. Comes w t v step why found v' h d (replaced_old m (q m))) (sym is)
          (exchanged (Some (record { hand = t.hands + 1; kind = c.kind; place = seen - 2 })) act one (goes act one) (out (Some (record { hand = t.hands + 1; kind = c.kind; place = seen - 2 })) is) takes (q (Some (record { hand = t.hands + 1; kind = c.kind; place = seen - 2 }))) p.0 s.0 s.1 p.1 p.2)
        where
          Comer : Option Held
          Comer = Some (record { hand = t.hands + 1; kind = c.kind; place = seen - 2 })

          goes : (act : act_of w.shape v step why found ≡ Some (did Comer)) (one : (y : Held) → Comer ≡ Some y → y.hand ≡ t.hands + 1) → (y : Held) → Comer ≡ Some y → LeadsTo v' y r.class
          goes act one y e =
              let leads_there : (q : CellLeads w.shape h c.name r found) → LeadsTo v' y r.class =
              λ q. leads Comer act one y e q (ap (λ (z : Held). z.kind) (sym (Some-inj e))) (ap (λ (z : Held). z.place) (sym (Some-inj e)) ∙ (let n = q.word in let k : seen - 2 ≡ q.slot = omega arith in k)) in
              ⊎_elim (λ (q : CellIsNil h c.name found). absurd (ne (sym same ∙ q.word))) leads_there read

-- ---- the load before

module _ (w : Work) (t : Thread) (v : View) (c : Cell) (r : RefShape) (put_in : Option Held) (is_free : IsFree v) (inside : IsPlace (extent_of w.shape) (place_in c.name)) (found : ℕ) (v' : View)
    (told : Told w.shape (intents.Swap c.name (hand_in put_in)) (Load (cell_number (extent_of w.shape) c.name)) v found v') where
  abbrev Reads : Step
  Reads = Load (cell_number (extent_of w.shape) c.name)

  abbrev for_swap : Intent
  for_swap = intents.Swap c.name (hand_in put_in)

  pub load_act : act_of w.shape v Reads for_swap found ≡ None
  load_act = ap (λ (q : Place). loaded_act w.shape v q found for_swap) (place_at-number (extent_of w.shape) (place_in c.name) inside) ∙ read_act w.shape v found c.name (hand_in put_in)

  pub load_works : v'.working ≡ idle
  load_works = ap (λ (x : View). x.working) told.after
      ∙ (ap (λ (q : Place). working_loaded v.working q found for_swap) (place_at-number (extent_of w.shape) (place_in c.name) inside) ∙ (read_works v.working found c.name (hand_in put_in) ∙ is_free.working))

  pub load_called : Called w.shape [] 1 v v'
  load_called = told_by w.shape for_swap Reads v found v' None load_act told

  pub load_word : (IsLegal w.shape (told.between ++ v.seen) → IsReached w.shape v.number (told.between ++ v.seen) c r) → IsCellWord w.shape.slots found
  load_word reach =
      let legal = legal_tail w.shape (event_list v.number (act_of w.shape v Reads for_swap found)) (told.between ++ v.seen) (subst (IsLegal w.shape) (ap (λ (x : View). x.seen) told.after) told.legal) in
      reads_word w.shape for_swap Reads v found v' told c r legal (reach legal) tt refl

-- a failed exchange leaves all
module _ (w : Work) (t : Thread) (v : View) (c : CellName) (put_in : Option Held) (is_free : IsFree v) (seen new found : ℕ) (v' : View)
    (told : Told w.shape (intents.Swap c (hand_in put_in)) (Exchange (cell_number (extent_of w.shape) c) seen new) v found v') (other : found ≢ seen) where
  abbrev Tries : Step
  Tries = Exchange (cell_number (extent_of w.shape) c) seen new

  abbrev to_swap : Intent
  to_swap = intents.Swap c (hand_in put_in)

  pub miss_act : act_of w.shape v Tries to_swap found ≡ None
  miss_act = ap (λ b. cond b (hit_act v (place_at (extent_of w.shape) (cell_number (extent_of w.shape) c)) seen new to_swap) None) (ne_eqb found seen other)

  pub miss_works : v'.working ≡ idle
  miss_works = ap (λ (x : View). x.working) told.after ∙ (ap (λ b. cond b v.working v.working) (ne_eqb found seen other) ∙ is_free.working)

  pub miss_called : Called w.shape [] 1 v v'
  miss_called = told_by w.shape to_swap Tries v found v' None miss_act told

-- ---- a variable's value goes into a cell

abbrev pub setting : Work → Thread → ℕ → Cell → AttemptAt → Doing
setting w t from c a = doings.Setting from c (record { layout = extent_of w.shape; place = cell_number (extent_of w.shape) c.name; new = word_of (value t.vars from); at = a })

module _ (w : Work) (t : Thread) (v : View) (from : ℕ) (c : Cell) (a : AttemptAt) (f : Facts w t v (setting w t from c a)) where
  abbrev place : ℕ
  place = cell_number (extent_of w.shape) c.name

  abbrev set_why : Intent
  set_why = intents.Swap c.name (hand_in (value t.vars from))

  named : NamesCell w t.vars from c
  named = puts w (hands_in v.number v.seen) t.index from c t.vars f.notes f.served f.up_to

  -- what the cell may refer to
  abbrev ref : RefShape
  ref = ref_of w.shape w.classes named.of

  here : IsReached w.shape v.number v.seen c ref
  here = reached w v.number v.seen t.vars from c f.served f.sized f.legal f.in_shape f.kinds (vars_stand w.classes v t.vars f.classed) named

  free : v.working.owes ≡ None
  free = ap (λ (x : Working). x.owes) f.under_way.0.working

  pub set_load_allowed : Admits w.shape v (Load place) set_why
  set_load_allowed = (place_in c.name, refl, here.place, free, may_load w.shape v c.name set_why here.reaches, tt)

  is_put : (m : Option Held) → value t.vars from ≡ m → IsPut w.shape v c.name (hand_in m) (word_of m)
  is_put None e = refl
  is_put (Some held) e = put_word w.shape v c.name ref held here.named (f.kinds from held e ∙ named.kinds.0) (subst (LeadsTo v held) named.class (f.classed from held e))

  pub set_swap_allowed : (seen new : ℕ) → a ≡ attempt.Exchanging seen new → Admits w.shape v (Exchange place seen new) set_why
  set_swap_allowed seen new is =
      let m : MaySwap (word_of (value t.vars from)) (attempt.Exchanging seen new) = subst (MaySwap (word_of (value t.vars from))) is f.under_way.1 in
      (place_in c.name, refl, here.place, free, (same_place c.name, m.0, ap (λ (x : Working). x.access) f.under_way.0.working, here.reaches, subst (IsPut w.shape v c.name (hand_in (value t.vars from))) (sym m.1) (is_put (value t.vars from) refl)))

  still : (step : Step) (found : ℕ) (v' : View) (told : Told w.shape set_why step v found v') → IsLegal w.shape (told.between ++ v.seen) → IsReached w.shape v.number (told.between ++ v.seen) c ref
  still step found v' told legal = reached w v.number (told.between ++ v.seen) t.vars from c f.served f.sized legal told.met_in_shape f.kinds (vars_met w.shape set_why step w.classes v found v' t.vars told legal f.classed) named

  -- the attempt begins anew
  anew : (step : Step) (found : ℕ) (v' : View) (told : Told w.shape set_why step v found v') (b : AttemptAt) → Facts w t v (setting w t from c b) → takes_at w.shape (Some found) (setting w t from c b) → came_out_at t (Some found) (setting w t from c b) ≡ None → act_of w.shape v step set_why found ≡ None
      → Called w.shape [] 1 v v' → v'.working ≡ idle → ReadsNoName (extent_of w.shape) step set_why → Comes w t v step set_why found v' (told.between ++ v.seen) (setting w t from c b) (set_begun from c (quiet t))
  anew step found v' told b k takes out act called works reads =
      let walk = set_walks w (LeadsTo v') from c (quiet t) (quiet t) (in_vars t.vars) f.is_for refl refl refl (λ x. refl) (classed_still w.shape 1 w.classes v v' t.vars called f.classed) in
      let u : Thread = set_begun from c (quiet t) in
      stays w t v step set_why found v' (setting w t from c b) u told k takes out act walk.event reads walk.hands walk.count (λ x. let e = walk.same x in omega arith) walk.classed (fresh_coming w.classes v' u.doing walk.fresh) walk.asks
      (fresh_under w.shape v' u.doing walk.fresh works (owes_still w.shape 1 v v' called f.under_way.0.none))

  -- ---- it loads the word
  module _ (found : ℕ) (v' : View) (told : Told w.shape set_why (Load place) v found v') where
    abbrev SetLoaded : Choice SwapAnswer → Type 0
    SetLoaded r = came_out_at t (Some found) (setting w t from c attempt.Loading) ≡ swapped_out c (t.hands + 1) (chosen place found r)
        → Comes w t v (Load place) set_why found v' (told.between ++ v.seen) (setting w t from c attempt.Loading)
        (set_on from c (record { layout = extent_of w.shape; place = place; new = word_of (value t.vars from); at = exchanging found r }) (chosen place found r) (quiet t))

    pub set_load_comes : a ≡ attempt.Loading → SetLoaded (swap_row (word_of (value t.vars from)) found)
    set_load_comes is = dite (ℕ_discrete found 1)
        (λ e. subst (λ b. SetLoaded (row b)) (sym (eq-eqb found 1 e)) (λ out. anew (Load place) found v' told attempt.Loading fact takes out act called works tt))
        (λ ne. subst (λ b. SetLoaded (row b)) (sym (ne_eqb found 1 ne)) (λ out.
        let u : Thread = record (quiet t) { doing = setting w t from c (attempt.Exchanging found (word_of (value t.vars from))); asked = moves.Step (Exchange place found (word_of (value t.vars from))) set_why } in
        stays w t v (Load place) set_why found v' (setting w t from c attempt.Loading) u told fact takes out act refl tt refl refl (λ x. refl) (classed_still w.shape 1 w.classes v v' t.vars called f.classed) tt (refl, refl)
        (record { working = works; none = owes_still w.shape 1 v v' called f.under_way.0.none }, (ne, refl))))
      where
        row : Bool → Choice SwapAnswer
        row b = cond b (Tell swaps.Busy) (Write (word_of (value t.vars from)))

        fact : Facts w t v (setting w t from c attempt.Loading)
        fact = subst (λ b. Facts w t v (setting w t from c b)) is f

        act : act_of w.shape v (Load place) set_why found ≡ None
        act = load_act w t v c ref (value t.vars from) f.under_way.0 here.place found v' told

        called : Called w.shape [] 1 v v'
        called = load_called w t v c ref (value t.vars from) f.under_way.0 here.place found v' told

        works : v'.working ≡ idle
        works = load_works w t v c ref (value t.vars from) f.under_way.0 here.place found v' told

        takes : takes_at w.shape (Some found) (setting w t from c attempt.Loading)
        takes = (tt, load_word w t v c ref (value t.vars from) f.under_way.0 here.place found v' told (still (Load place) found v' told))

  -- ---- it exchanges it
  module _ (seen new : ℕ) (found : ℕ) (v' : View) (told : Told w.shape set_why (Exchange place seen new) v found v') (is : a ≡ attempt.Exchanging seen new) where
    abbrev set_d : Doing
    set_d = setting w t from c (attempt.Exchanging seen new)

    fact : Facts w t v set_d
    fact = subst (λ b. Facts w t v (setting w t from c b)) is f

    abbrev answer_if : Bool → Next SwapAnswer
    answer_if b = nexts.Done (cond b (swaps.Took seen) (swaps.Again (record { seen = seen; found = found })))

    abbrev SetSwapped : Bool → Type 0
    SetSwapped b = came_out_at t (Some found) set_d ≡ swapped_out c (t.hands + 1) (answer_if b)
        → Comes w t v (Exchange place seen new) set_why found v' (told.between ++ v.seen) set_d
        (set_on from c (record { layout = extent_of w.shape; place = place; new = word_of (value t.vars from); at = attempt.Ended }) (answer_if b) (quiet t))

    missed : found ≢ seen → SetSwapped false
    missed ne out =
        anew (Exchange place seen new) found v' told (attempt.Exchanging seen new) fact ((λ e. cc), tt) out (miss_act w t v c.name (value t.vars from) f.under_way.0 seen new found v' told ne) (miss_called w t v c.name (value t.vars from) f.under_way.0 seen new found v' told ne)
        (miss_works w t v c.name (value t.vars from) f.under_way.0 seen new found v' told ne) tt

    -- the thread that has what was there
    abbrev with_it : Option Held → Thread
    with_it found_there = put answers.Ok (set_var from None (swapped c.name (hand_in (value t.vars from)) found_there (quiet t)))

    hit : found ≡ seen → SetSwapped true
    hit same out =
        let m : MaySwap (word_of (value t.vars from)) (attempt.Exchanging seen new) = subst (MaySwap (word_of (value t.vars from))) is f.under_way.1 in
        takes_out w t v c ref (value t.vars from) (set t.vars from None) set_d fact f.under_way.0 all sub (length-set t.vars from None) seen new found v' told (still (Exchange place seen new) found v' told) same m.0 with_it (λ x e. out ∙ ap (was_there c.name) e) ((λ e. cc), tt) plain says
      where
        all : (x : Held → ℕ) → references t.vars t.hands set_d x ≡ in_vars (set t.vars from None) x + weigh x (value t.vars from)
        all x = let s = vars-set x t.vars from None f.fits.0 in omega arith

        sub : (x : ℕ) (held : Held) → value (set t.vars from None) x ≡ Some held → value t.vars x ≡ Some held
        sub x held e = ⊎_elim (λ (s : (x ≡ from) × (None ≡ Some held)). absurd (None≢Some held s.1)) (λ s. s) (set-value t.vars from x None held e)

        plain : (x : Option Held) → IsFor w.shape (with_it x) × ((with_it x).vars ≡ set t.vars from None) × ((with_it x).program ≡ t.program)
        plain None = (f.is_for, refl, refl)
        plain (Some x) = (f.is_for, refl, refl)

        says : (x : Option Held) → ((with_it x).hands ≡ after t.hands x) × ((with_it x).event ≡ Some (acts.Swap c.name (hand_in (value t.vars from)) (hand_in x)))
        says None = (refl, refl)
        says (Some x) = (refl, refl)

    pub set_swap_comes : SetSwapped (found == seen)
    set_swap_comes = dite (ℕ_discrete found seen) (λ e. subst SetSwapped (sym (eq-eqb found seen e)) (hit e)) (λ ne. subst SetSwapped (sym (ne_eqb found seen ne)) (missed ne))

-- ---- by where the attempt is

pub sets_allowed : (w : Work) (t : Thread) (v : View) (from : ℕ) (c : Cell) (plan : SwapAttempt) (step : Step) (intent : Intent) → Facts w t v (doings.Setting from c plan) → t.asked ≡ moves.Step step intent → Admits w.shape v step intent
sets_allowed w t v from c plan step intent f asked =
    attempt_asked t.asked (cell_number (extent_of w.shape) c.name) (intents.Swap c.name (hand_in (value t.vars from))) (λ a x. Facts w t v (setting w t from c a) → Admits w.shape v x.0 x.1) step intent asked
    (λ k. set_load_allowed w t v from c attempt.Loading k) (λ seen new k. set_swap_allowed w t v from c (attempt.Exchanging seen new) k seen new refl) plan.at f.asks.1
    (subst (λ (p : SwapAttempt). Facts w t v (doings.Setting from c p)) f.asks.0 f)

pub sets_come : (w : Work) (t : Thread) (v : View) (from : ℕ) (c : Cell) (plan : SwapAttempt) (step : Step) (intent : Intent) (found : ℕ) (v' : View) → Facts w t v (doings.Setting from c plan) → t.asked ≡ moves.Step step intent
    → (told : Told w.shape intent step v found v') → Comes w t v step intent found v' (told.between ++ v.seen) (doings.Setting from c plan) (turned_at (Some found) (doings.Setting from c plan) (quiet t))
sets_come w t v from c plan step intent found v' f asked =
    subst Case (sym f.asks.0)
    (attempt_asked t.asked (cell_number (extent_of w.shape) c.name) (intents.Swap c.name (hand_in (value t.vars from))) CaseAt step intent asked (λ k told. set_load_comes w t v from c attempt.Loading k found v' told refl refl)
    (λ seen new k told. set_swap_comes w t v from c (attempt.Exchanging seen new) k seen new found v' told refl refl) plan.at f.asks.1 (subst (λ (p : SwapAttempt). Facts w t v (doings.Setting from c p)) f.asks.0 f))
  where
    Case : SwapAttempt → Type 0
    Case p = (told : Told w.shape intent step v found v') → Comes w t v step intent found v' (told.between ++ v.seen) (doings.Setting from c p) (turned_at (Some found) (doings.Setting from c p) (quiet t))

    CaseAt : AttemptAt → Step × Intent → Type 0
    CaseAt a x = Facts w t v (setting w t from c a) → (told : Told w.shape x.1 x.0 v found v') → Comes w t v x.0 x.1 found v' (told.between ++ v.seen) (setting w t from c a) (turned_at (Some found) (setting w t from c a) (quiet t))

-- ---- the next global is cleared

abbrev pub clearing : Work → Thread → AttemptAt → Doing
clearing w t a = doings.Clearing (record { layout = extent_of w.shape; place = number (extent_of w.shape) (Global t.cleared); new = 0; at = a })

module _ (w : Work) (t : Thread) (v : View) (a : AttemptAt) (f : Facts w t v (clearing w t a)) where
  abbrev its_cell : Cell
  its_cell = global_of w.shape t.cleared

  abbrev its_ref : RefShape
  its_ref = ref_at w.shape.globals t.cleared

  abbrev its_place : ℕ
  its_place = number (extent_of w.shape) (Global t.cleared)

  abbrev clear_why : Intent
  clear_why = intents.Swap (cells.Global t.cleared) None

  below : t.cleared < length w.shape.globals
  below = f.up_to.within

  not_owed : v.working.owes ≡ None
  not_owed = ap (λ (x : Working). x.owes) f.under_way.0.working

  pub clear_load_allowed : Admits w.shape v (Load its_place) clear_why
  clear_load_allowed = (Global t.cleared, refl, below, not_owed, tt, tt)

  pub clear_swap_allowed : (seen new : ℕ) → a ≡ attempt.Exchanging seen new → Admits w.shape v (Exchange its_place seen new) clear_why
  clear_swap_allowed seen new is =
      let m : MaySwap 0 (attempt.Exchanging seen new) = subst (MaySwap 0) is f.under_way.1 in
      (Global t.cleared, refl, below, not_owed, (refl, m.0, ap (λ (x : Working). x.access) f.under_way.0.working, tt, m.1))

  begins_anew : (step : Step) (found : ℕ) (v' : View) (told : Told w.shape clear_why step v found v') (b : AttemptAt) → Facts w t v (clearing w t b) → takes_at w.shape (Some found) (clearing w t b) → came_out_at t (Some found) (clearing w t b) ≡ None → act_of w.shape v step clear_why found ≡ None
      → Called w.shape [] 1 v v' → v'.working ≡ idle → ReadsNoName (extent_of w.shape) step clear_why → Comes w t v step clear_why found v' (told.between ++ v.seen) (clearing w t b) (clear_begun (quiet t))
  begins_anew step found v' told b k takes out act c works reads =
      let walk = clear_walks w (LeadsTo v') (quiet t) (quiet t) (in_vars t.vars) f.is_for refl refl refl (λ x. refl) (classed_still w.shape 1 w.classes v v' t.vars c f.classed) in
      let u : Thread = clear_begun (quiet t) in
      stays w t v step clear_why found v' (clearing w t b) u told k takes out act walk.event reads walk.hands walk.count (λ x. let e = walk.same x in omega arith) walk.classed (fresh_coming w.classes v' u.doing walk.fresh) walk.asks
      (fresh_under w.shape v' u.doing walk.fresh works (owes_still w.shape 1 v v' c f.under_way.0.none))

  module _ (found : ℕ) (v' : View) (told : Told w.shape clear_why (Load its_place) v found v') where
    abbrev ClearLoaded : Choice SwapAnswer → Type 0
    ClearLoaded r = came_out_at t (Some found) (clearing w t attempt.Loading) ≡ swapped_out (global_of t.shape t.cleared) (t.hands + 1) (chosen its_place found r)
        → Comes w t v (Load its_place) clear_why found v' (told.between ++ v.seen) (clearing w t attempt.Loading)
        (cleared_on (record { layout = extent_of w.shape; place = its_place; new = 0; at = exchanging found r }) (chosen its_place found r) (quiet t))

    pub clear_load_comes : a ≡ attempt.Loading → ClearLoaded (swap_row 0 found)
    clear_load_comes is = dite (ℕ_discrete found 1)
        (λ e. subst (λ b. ClearLoaded (row b)) (sym (eq-eqb found 1 e)) (λ out. begins_anew (Load its_place) found v' told attempt.Loading fact takes out act c works tt))
        (λ ne. subst (λ b. ClearLoaded (row b)) (sym (ne_eqb found 1 ne)) (λ out.
        let u : Thread = record (quiet t) { doing = clearing w t (attempt.Exchanging found 0); asked = moves.Step (Exchange its_place found 0) clear_why } in
        stays w t v (Load its_place) clear_why found v' (clearing w t attempt.Loading) u told fact takes out act refl tt refl refl (λ x. refl) (classed_still w.shape 1 w.classes v v' t.vars c f.classed) tt (refl, refl)
        (record { working = works; none = owes_still w.shape 1 v v' c f.under_way.0.none }, (ne, refl))))
      where
        row : Bool → Choice SwapAnswer
        row b = cond b (Tell swaps.Busy) (Write 0)

        fact : Facts w t v (clearing w t attempt.Loading)
        fact = subst (λ b. Facts w t v (clearing w t b)) is f

        act : act_of w.shape v (Load its_place) clear_why found ≡ None
        act = load_act w t v its_cell its_ref None f.under_way.0 below found v' told

        c : Called w.shape [] 1 v v'
        c = load_called w t v its_cell its_ref None f.under_way.0 below found v' told

        works : v'.working ≡ idle
        works = load_works w t v its_cell its_ref None f.under_way.0 below found v' told

        takes : takes_at w.shape (Some found) (clearing w t attempt.Loading)
        takes = (tt, load_word w t v its_cell its_ref None f.under_way.0 below found v' told (λ legal. global_reached w v.number (told.between ++ v.seen) t.cleared f.served below))

  module _ (seen new : ℕ) (found : ℕ) (v' : View) (told : Told w.shape clear_why (Exchange its_place seen new) v found v') (is : a ≡ attempt.Exchanging seen new) where
    abbrev clear_d : Doing
    clear_d = clearing w t (attempt.Exchanging seen new)

    clear_fact : Facts w t v clear_d
    clear_fact = subst (λ b. Facts w t v (clearing w t b)) is f

    abbrev clear_answer : Bool → Next SwapAnswer
    clear_answer b = nexts.Done (cond b (swaps.Took seen) (swaps.Again (record { seen = seen; found = found })))

    abbrev ClearSwapped : Bool → Type 0
    ClearSwapped b = came_out_at t (Some found) clear_d ≡ swapped_out (global_of t.shape t.cleared) (t.hands + 1) (clear_answer b)
        → Comes w t v (Exchange its_place seen new) clear_why found v' (told.between ++ v.seen) clear_d
        (cleared_on (record { layout = extent_of w.shape; place = its_place; new = 0; at = attempt.Ended }) (clear_answer b) (quiet t))

    clear_missed : found ≢ seen → ClearSwapped false
    clear_missed ne out =
        begins_anew (Exchange its_place seen new) found v' told (attempt.Exchanging seen new) clear_fact ((λ e. cc), tt) out (miss_act w t v (cells.Global t.cleared) None f.under_way.0 seen new found v' told ne) (miss_called w t v (cells.Global t.cleared) None f.under_way.0 seen new found v' told ne)
        (miss_works w t v (cells.Global t.cleared) None f.under_way.0 seen new found v' told ne) tt

    abbrev cleared_with : Option Held → Thread
    cleared_with found_there = swapped (cells.Global t.cleared) None found_there (record (quiet t) { cleared = t.cleared + 1 })

    abbrev came_in : HeapShape → Option Held
    came_in s = held_in (global_of s t.cleared).kind (t.hands + 1) seen

    clear_hit : found ≡ seen → ClearSwapped true
    clear_hit same out =
        let m : MaySwap 0 (attempt.Exchanging seen new) = subst (MaySwap 0) is f.under_way.1 in
        subst (λ (s : HeapShape). Comes w t v (Exchange its_place seen new) clear_why found v' (told.between ++ v.seen) clear_d (replaced_old (came_in s) (cleared_with (came_in s)))) (sym f.is_for.1)
        (takes_out w t v its_cell its_ref None t.vars clear_d clear_fact f.under_way.0 (λ x. refl) (λ x held e. e) refl seen new found v' told (λ legal. global_reached w v.number (told.between ++ v.seen) t.cleared f.served below) same m.0 cleared_with
        (λ x e. out ∙ (ap (λ (s : HeapShape). was_there (cells.Global t.cleared) (came_in s)) f.is_for.1 ∙ ap (was_there (cells.Global t.cleared)) e)) ((λ e. cc), tt) plain says)
      where
        plain : (x : Option Held) → IsFor w.shape (cleared_with x) × ((cleared_with x).vars ≡ t.vars) × ((cleared_with x).program ≡ t.program)
        plain None = (f.is_for, refl, refl)
        plain (Some x) = (f.is_for, refl, refl)

        says : (x : Option Held) → ((cleared_with x).hands ≡ after t.hands x) × ((cleared_with x).event ≡ Some (acts.Swap (cells.Global t.cleared) None (hand_in x)))
        says None = (refl, refl)
        says (Some x) = (refl, refl)

    pub clear_swap_comes : ClearSwapped (found == seen)
    clear_swap_comes = dite (ℕ_discrete found seen) (λ e. subst ClearSwapped (sym (eq-eqb found seen e)) (clear_hit e)) (λ ne. subst ClearSwapped (sym (ne_eqb found seen ne)) (clear_missed ne))

pub clears_allowed : (w : Work) (t : Thread) (v : View) (plan : SwapAttempt) (step : Step) (intent : Intent) → Facts w t v (doings.Clearing plan) → t.asked ≡ moves.Step step intent → Admits w.shape v step intent
clears_allowed w t v plan step intent f asked =
    attempt_asked t.asked (number (extent_of w.shape) (Global t.cleared)) (intents.Swap (cells.Global t.cleared) None) (λ a x. Facts w t v (clearing w t a) → Admits w.shape v x.0 x.1) step intent asked
    (λ k. clear_load_allowed w t v attempt.Loading k) (λ seen new k. clear_swap_allowed w t v (attempt.Exchanging seen new) k seen new refl) plan.at f.asks.1 (subst (λ (p : SwapAttempt). Facts w t v (doings.Clearing p)) f.asks.0 f)

pub clears_come : (w : Work) (t : Thread) (v : View) (plan : SwapAttempt) (step : Step) (intent : Intent) (found : ℕ) (v' : View) → Facts w t v (doings.Clearing plan) → t.asked ≡ moves.Step step intent
    → (told : Told w.shape intent step v found v') → Comes w t v step intent found v' (told.between ++ v.seen) (doings.Clearing plan) (turned_at (Some found) (doings.Clearing plan) (quiet t))
clears_come w t v plan step intent found v' f asked =
    subst Case (sym f.asks.0)
    (attempt_asked t.asked (number (extent_of w.shape) (Global t.cleared)) (intents.Swap (cells.Global t.cleared) None) CaseAt step intent asked (λ k told. clear_load_comes w t v attempt.Loading k found v' told refl refl)
    (λ seen new k told. clear_swap_comes w t v (attempt.Exchanging seen new) k seen new found v' told refl refl) plan.at f.asks.1 (subst (λ (p : SwapAttempt). Facts w t v (doings.Clearing p)) f.asks.0 f))
  where
    Case : SwapAttempt → Type 0
    Case p = (told : Told w.shape intent step v found v') → Comes w t v step intent found v' (told.between ++ v.seen) (doings.Clearing p) (turned_at (Some found) (doings.Clearing p) (quiet t))

    CaseAt : AttemptAt → Step × Intent → Type 0
    CaseAt a x = Facts w t v (clearing w t a) → (told : Told w.shape x.1 x.0 v found v') → Comes w t v x.0 x.1 found v' (told.between ++ v.seen) (clearing w t a) (turned_at (Some found) (clearing w t a) (quiet t))
