-- A stepper behind the last field of a dying object: the deinit ends.
use Rattle.std.proofs.Common.{◌≡◌, ◌≢◌, inl, inr, ℕ, ◌<◌, ◌≤◌, ◌==◌, Bool, true, false, cond, List, [], ◌∷◌, ◌++◌, length, option_map, Option, Some, None, refl, sym, ap, ◌∙◌, subst, eq-eqb, ne_eqb}
use mathlib.Core.Logic.{dite}
use native.Mathlib.Decide.{ℕ_discrete}
use Rattle.arc_bits.specs.declared.packing.Inline.{Inline}
use Rattle.arc_bits.specs.declared.packing.Word.{Word}
use Rattle.arc_bits.specs.declared.packing.Word.TheVariants.{Counts}
use Rattle.arc_bits.specs.Words.{IsWordOf, counts_word, unpacked}
use Rattle.arc_bits.specs.Moves.{unowned_less}
use Rattle.arc_model.specs.declared.event.Act.{Act}
use Rattle.arc_model.specs.declared.event.Act.TheVariants as acts
use Rattle.arc_model.specs.declared.event.ObjectName.{ObjectName}
use Rattle.arc_model.specs.declared.shape.Kind.TheVariants.{Unowned}
use Rattle.arc_model.specs.Shapes.{class_at}
use Rattle.arc_model.specs.Heaps.{Field, Deinit, Object}
use Rattle.arc_model.specs.Holders.{at_slot}
use Rattle.arc_model.specs.Cells.{are_all_nil, is_nil}
use Rattle.arc_model.specs.History.{History, heap_after}
use Rattle.arc_model.specs.References.{field_count}
use Rattle.arc_model.proofs.Basics.{true≢false}
use Rattle.arc_spelling.specs.SpellingTies.Causes.{Judged}
use Rattle.arc_rule.specs.Places.{extent_of, number, place_at}
use Rattle.arc_rule.specs.Shown.{ShowsCounts}
use Rattle.arc_rule.proofs.Places.{place_at-number}
use Rattle.arc_rule.specs.declared.layout.Place.TheVariants.{Count, Next}
use Rattle.arc_rule.specs.declared.step.Step.{Step}
use Rattle.arc_rule.specs.declared.step.Step.TheVariants.{Load, Exchange}
use Rattle.arc_rule.specs.declared.step.Intent.{Intent}
use Rattle.arc_rule.specs.declared.step.Intent.TheVariants as intents
use Rattle.arc_rule.specs.declared.plan.Next.TheVariants as nexts
use Rattle.arc_rule.specs.declared.attempt.At.{At as AttemptAt}
use Rattle.arc_rule.specs.declared.attempt.At.TheVariants as attempt
use Rattle.arc_rule.specs.declared.attempt.Choice.{Choice}
use Rattle.arc_rule.specs.declared.attempt.Choice.TheVariants.{Write}
use Rattle.arc_rule.specs.Attempts.{exchanging, chosen, told_as, turned_by, answer_by}
use Rattle.arc_plan.specs.declared.unowned.UnownedDownAnswer.TheVariants as unowneds
use Rattle.arc_plan.specs.Attempts.{IsCountWord}
use Rattle.arc_plan.specs.Unowned.{unowned_down_row, unowned_down_end}
use Rattle.arc_side.specs.declared.down.DownAnswer.{DownAnswer}
use Rattle.arc_side.specs.declared.down.DownAnswer.TheVariants as downs
use Rattle.arc_side.specs.Inline.{entry_named}
use Rattle.arc_side.specs.Downs.{Fall, of_unowned_down, down_choice_at, down_end_at, down_in, down_moved, down_place}
use Rattle.arc_cells.specs.declared.cascade.At.{At as CascadeAt}
use Rattle.arc_cells.specs.declared.cascade.At.TheVariants as ats
use Rattle.arc_cells.specs.declared.parent.Parent.{Parent}
use Rattle.arc_cells.specs.Chains.{Frame, parent_in, parent_of, IsParentIn}
use Rattle.arc_cells.specs.Cascades.{finishes, climbs}
use Rattle.arc_deinits.specs.Stands.{ChainFitsAt}
use Rattle.arc_ops.specs.declared.stepper.Held.{Held}
use Rattle.arc_ops.specs.declared.stepper.Move.TheVariants as moves
use Rattle.arc_ops.specs.Thread.{Thread, asking}
use Rattle.arc_ops.specs.Drops.{deinit_tells}
use Rattle.arc_ops.specs.Turns.{turned_at}
use Rattle.arc_ops.specs.Takes.{takes_at, IsInline}
use Rattle.arc_spelled.specs.StepperStands.{Work}
use Rattle.arc_view.specs.declared.view.Working.{Working}
use Rattle.arc_view.specs.declared.view.View.{View}
use Rattle.arc_view.specs.Views.{Each, private_words}
use Rattle.arc_view.specs.Holding.{heap_of}
use Rattle.arc_view.specs.Kinds.{act_of, is_last, is_last_in, hit_act, working_hit, without_next}
use Rattle.arc_view.specs.Admission.{IsDown, Admits}
use Rattle.arc_view.specs.Steps.{Told, IsKeptAt}
use Rattle.arc_view.proofs.Counting.{inline_counts}
use Rattle.arc_view.proofs.Owed.{OwedLater}
use Rattle.arc_view.proofs.Searching.{each_below_is}
use Rattle.arc_view.proofs.Strongs.{slot_found}
use Rattle.arc_view_laws.proofs.DyingWords.{ShowsDying, counts, slow, shows_dying}
use Rattle.arc_ops_passes.specs.References.{in_vars, in_flight}
use Rattle.arc_ops_passes.specs.Drives.{Due, OwesAll, AreOfClasses, CountAsks, MayGoDown, dying_due, vacating_due, waits, deiniting, chain_entered}
use Rattle.arc_ops_passes.specs.Laws.{IsServedWord}
use Rattle.arc_ops_passes.proofs.Chain.{FirstFits, under_chain, first_entered, ends_first, read_back}
use Rattle.arc_ops_passes.proofs.Dues.{owes_all_still, waiting_but}
use Rattle.arc_ops_passes.proofs.DuesOn.{Acted, acted, met, met_slot, finished_more, finished_last}
use Rattle.arc_ops_passes.proofs.Fields.{AllHold}
use Rattle.arc_ops_passes.proofs.Owed.{slot_is}
use Rattle.arc_ops_passes.proofs.Counts.{inline_unpacked}
use Rattle.arc_ops_passes.proofs.Names.{no_entry_shown}
use Rattle.arc_ops_passes.proofs.Goes.{quiet, Facts, ComesUnder, told_by, classed_on, nothing_shown, count_no_name, next_no_name, attempt_asked}
use Rattle.arc_ops_passes.proofs.Deinits.{state, dying, plus_none, first_fits, fields_named, Continues, due_below, silent}
use Rattle.arc_ops_passes.proofs.Enters.{works_on, met_silent}
use Rattle.arc_ops_passes.proofs.Looks.{cascaded}
use Rattle.arc_ops_passes.proofs.Climbs.{WentOn, climbs_on, acts_on, ending_at, Clear}

-- the attempt to take the unowned reference that stands for the strong ones
abbrev pub release : Work → ℕ → AttemptAt → Fall
release w s b = record { layout = extent_of w.shape; slot = s; list = Unowned; entry = None; at = b }

abbrev pub finishing_at : Work → List Frame → ℕ → AttemptAt → CascadeAt
finishing_at w fs s b = ats.Finishing (parent_of fs) (release w s b)

-- ---- at the object of this name, whose fields are all nil, under this chain
module _ (w : Work) (t : Thread) (v : View) (s : ℕ) (n : ℕ × ℕ) (a : CascadeAt) (e : Option Act) (f : Facts w t v (dying w s n a e)) (fs : List Frame) (name : ObjectName)
    (works : v.working ≡ deiniting (under_chain s (field_count w.shape name) fs)) (owes : OwesAll w.shape v (dying_due s (Some name) (field_count w.shape name) ∷ waits fs)) where
  abbrev deinit : Intent
  deinit = intents.Deinit s

  abbrev its : Due
  its = dying_due s (Some name) (field_count w.shape name)

  below : s < w.shape.slots
  below = due_below w t v s n a e f its owes.just.0

  free : v.working.owes ≡ None
  free = ap (λ (x : Working). x.owes) works

  all_nil : are_all_nil w.shape (heap_of v) owes.just.0.object ≡ true
  all_nil =
      let q = owes.just.0 in
      each_below_is (length (class_at w.shape q.object.class).fields) (λ g. is_nil (heap_of v) (Field q.object.id g)) (λ g lt. q.nils g (subst (λ k. g < k) (fields_named w.shape name q.object q.named) lt))

  abbrev ReadNext : Step
  ReadNext = Load (number (extent_of w.shape) (Next s))

  abbrev ReadCount : Step
  ReadCount = Load (number (extent_of w.shape) (Count s))

  abbrev Swap : ℕ → ℕ → Step
  Swap seen new = Exchange (number (extent_of w.shape) (Count s)) seen new

  leave_allowed : Admits w.shape v ReadNext deinit
  leave_allowed = let q = owes.just.0 in (Next s, refl, below, free, ((q.place, q.object, q.here, q.slot, q.owes, all_nil), first_entered v s (field_count w.shape name) fs works), tt)

  load_allowed : Admits w.shape v ReadCount deinit
  load_allowed = let q = owes.just.0 in (Count s, refl, below, free, (q.place, q.object, q.here, q.slot, inr (inl (Deinit, q.owes))), tt)

  swap_allowed : (seen new : ℕ) → IsDown Unowned (Count s) seen new → Admits w.shape v (Swap seen new) deinit
  swap_allowed seen new down = let q = owes.just.0 in (Count s, refl, below, free, (q.place, q.object, q.here, q.slot, q.owes, all_nil, slot_is q.object s q.slot, down))

  -- ---- without an event the attempt goes on
  module _ (step : Step) (found : ℕ) (v' : View) (told : Told w.shape deinit step v found v') (none : act_of w.shape v step deinit found ≡ None) where
    abbrev h : History
    h = told.between ++ v.seen

    owes_then : OwesAll w.shape v' (its ∷ waits fs)
    owes_then = owes_all_still w.shape (its ∷ waits fs) 1 v v' f.sized (told_by w.shape deinit step v found v' None none told) owes

    goes_to : (b : AttemptAt) (next : Step) → CountAsks w.shape (moves.Step next deinit) s deinit b → MayGoDown Unowned s b → v'.working ≡ v.working → takes_at w.shape (Some found) (dying w s n a e) → ((g : Held → ℕ) → in_flight g t.hands (dying w s n a e) ≡ 0)
        → AllHold Judged w.shape (extent_of w.shape) (Some (step, deinit)) (Some found) w.thread None None h
        → ComesUnder fs w t v step deinit found v' h (dying w s n a e) (asking (dying w s n (finishing_at w fs s b) None) next deinit (deinit_tells None (quiet t)))
    goes_to b next asks down same takes still holds =
        let x : Thread = deinit_tells None (quiet t) in
        let u : Thread = asking (dying w s n (finishing_at w fs s b) None) next deinit x in
        let c : Continues w fs v' x u (λ g. 0) = record {
          hands = refl;
          vars = refl;
          event = refl;
          held = λ g. refl;
          coming = tt;
          asks = (refl, (refl, refl, asks));
          under_way = record { name = name; working = same ∙ works; owes = owes_then; rests = down };
        } in
        silent w t v s n a e f fs step deinit found v' told none takes x u (λ g. 0) refl (plus_none t.hands) refl (λ g. sym (still g)) c (λ now noted. holds now)

  -- ---- the next word
  module _ (found : ℕ) (v' : View) (told : Told w.shape deinit ReadNext v found v') where
    parent_read : parent_in found ≡ parent_of fs
    parent_read =
        let kept : Each (IsKeptAt w.shape (Next s) found) (private_words (deiniting (under_chain s (field_count w.shape name) fs))) =
        subst (λ (x : Working). Each (IsKeptAt w.shape (Next s) found) (private_words x)) works (told.read (Next s) tt below refl).private in
        ap parent_in (kept.0 refl) ∙ read_back fs (first_fits w.shape v its fs f.sized owes)

    parent_fits : IsParentIn (extent_of w.shape) (parent_of fs)
    parent_fits = go fs (first_fits w.shape v its fs f.sized owes) owes
      where
        go : (gs : List Frame) → FirstFits gs → OwesAll w.shape v (its ∷ waits gs) → IsParentIn (extent_of w.shape) (parent_of gs)
        go [] fits o = tt
        go (p ∷ gs) fits o = (due_below w t v s n a e f (dying_due p.slot (Some p.name) p.field) o.just.1.0, fits)

    reads_next : a ≡ ats.Leaving → ComesUnder fs w t v ReadNext deinit found v' (told.between ++ v.seen) (dying w s n a e) (turned_at (Some found) (dying w s n ats.Leaving e) (quiet t))
    reads_next at =
        let takes : takes_at w.shape (Some found) (dying w s n ats.Leaving e) = subst (IsParentIn (extent_of w.shape)) (sym parent_read) parent_fits in
        subst (λ m. ComesUnder fs w t v ReadNext deinit found v' (told.between ++ v.seen) (dying w s n a e) (asking (dying w s n (ats.Finishing m (release w s attempt.Loading)) None) ReadCount deinit (deinit_tells None (quiet t)))) (sym parent_read)
        (goes_to ReadNext found v' told refl attempt.Loading ReadCount refl tt (works_on w.shape v (Next s) s found v' told below (λ x. refl))
        (subst (λ b. takes_at w.shape (Some found) (dying w s n b e)) (sym at) takes) (subst (λ b. (g : Held → ℕ) → in_flight g t.hands (dying w s n b e) ≡ 0) (sym at) (λ g. refl))
        (nothing_shown w.shape f.sized (extent_of w.shape) ReadNext deinit found w.thread None (told.between ++ v.seen) (next_no_name (extent_of w.shape) s s) tt))

  -- ---- the load of the count
  no_flight : (b : AttemptAt) → a ≡ finishing_at w fs s b → (g : Held → ℕ) → in_flight g t.hands (dying w s n a e) ≡ 0
  no_flight b at = subst (λ c. (g : Held → ℕ) → in_flight g t.hands (dying w s n c e) ≡ 0) (sym at) (λ g. refl)

  module _ (found : ℕ) (v' : View) (told : Told w.shape deinit ReadCount v found v') (at : a ≡ finishing_at w fs s attempt.Loading) where
    abbrev Loaded : Option ℕ × Choice DownAnswer → Type 0
    Loaded x = ComesUnder fs w t v ReadCount deinit found v' (told.between ++ v.seen) (dying w s n a e)
        (cascaded (finishes (state w s n ats.Ended None) (parent_of fs) (turned_by down_moved (release w s attempt.Loading) (down_in (release w s attempt.Loading) x.0) (exchanging found x.1)) (answer_by down_place (down_in (release w s attempt.Loading) x.0) (chosen (number (extent_of w.shape) (Count s)) found x.1))) (quiet t))

    loads : IsInline (unpacked found) → Loaded (entry_named (unpacked found), down_choice_at None Unowned found)
    loads served =
        let o = owes_then ReadCount found v' told refl in
        let q = o.just.0 in
        let m = met_silent w.shape deinit ReadCount v found v' told refl s (Some name) (field_count w.shape name) q in
        by q.object (shows_dying w.shape (told.between ++ v.seen) v.number q.place s found q.object f.sized m.legal told.met_in_shape m.here m.duty q.slot ((told.read (Count s) tt below refl).says (λ u. u)))
      where
        by : (o : Object) → ShowsDying w.shape o found → Loaded (entry_named (unpacked found), down_choice_at None Unowned found)
        by o (slow k some entry lt) = absurd (subst IsInline some served)
        by o (counts c some word ends unowned none) =
            let row : down_choice_at None Unowned found ≡ Write (counts_word (unowned_less c)) = ap (λ m. told_as of_unowned_down (unowned_down_row m)) some in
            let fits : IsCountWord w.shape.entries (λ c. c.deiniting ≡ false → 2 ≤ c.unowned) (unpacked found) = subst (IsCountWord w.shape.entries (λ c. c.deiniting ≡ false → 2 ≤ c.unowned)) (sym some) (unowned, λ live. absurd (true≢false (sym ends ∙ live))) in
            let new = counts_word (unowned_less c) in
            let done : Loaded (None, Write new) = goes_to ReadCount found v' told refl (attempt.Exchanging found new) (Swap found new) refl (c, word, unowned, refl) (works_on w.shape v (Count s) s found v' told below (λ x. refl))
            (subst (λ b. takes_at w.shape (Some found) (dying w s n b e)) (sym at) fits) (no_flight attempt.Loading at)
            (nothing_shown w.shape f.sized (extent_of w.shape) ReadCount deinit found w.thread None (told.between ++ v.seen) (count_no_name (extent_of w.shape) s s) tt) in
            subst Loaded (λ j. (sym (ap entry_named some) j, sym row j)) done

  -- ---- the exchange
  module _ (seen new : ℕ) (found : ℕ) (v' : View) (told : Told w.shape deinit (Swap seen new) v found v') (at : a ≡ finishing_at w fs s (attempt.Exchanging seen new)) where
    abbrev h_swap : History
    h_swap = told.between ++ v.seen

    abbrev Swapped : DownAnswer → Type 0
    Swapped answer = ComesUnder fs w t v (Swap seen new) deinit found v' h_swap (dying w s n a e) (cascaded (finishes (state w s n ats.Ended None) (parent_of fs) (release w s attempt.Ended) (nexts.Done answer)) (quiet t))

    takes_swap : takes_at w.shape (Some found) (dying w s n a e)
    takes_swap = subst (λ b. takes_at w.shape (Some found) (dying w s n b e)) (sym at) (λ x. cc)

    -- the word has changed: again
    missed : found ≢ seen → Swapped (downs.Again (record { seen = seen; found = found }))
    missed ne =
        let none : act_of w.shape v (Swap seen new) deinit found ≡ None = ap (λ b. cond b (hit_act v (place_at (extent_of w.shape) (number (extent_of w.shape) (Count s))) seen new deinit) None) (ne_eqb found seen ne) in
        let same : v'.working ≡ v.working = ap (λ (x : View). x.working) told.after ∙ ap (λ b. cond b (working_hit (number (extent_of w.shape)) v.working (place_at (extent_of w.shape) (number (extent_of w.shape) (Count s))) seen new deinit) v.working) (ne_eqb found seen ne) in
        goes_to (Swap seen new) found v' told none attempt.Loading ReadCount refl tt same takes_swap (no_flight (attempt.Exchanging seen new) at) (nothing_shown w.shape f.sized (extent_of w.shape) (Swap seen new) deinit found w.thread None h_swap tt tt)

    -- the deinit is over
    module _ (same : found ≡ seen) (last : Bool) (act : act_of w.shape v (Swap seen new) deinit found ≡ Some (acts.Finish s last)) where
      abbrev ended : Act
      ended = acts.Finish s last

      abbrev ends : Acted w.shape v v' ended
      ends = acted w.shape deinit (Swap seen new) v found v' ended act told

      works_end : v'.working ≡ deiniting (chain_entered fs)
      works_end = ap (λ (x : View). x.working) told.after ∙ (ap (λ b. cond b (working_hit (number (extent_of w.shape)) v.working (place_at (extent_of w.shape) (number (extent_of w.shape) (Count s))) seen new deinit) v.working) (eq-eqb found seen same)
          ∙ (ap (without_next (number (extent_of w.shape)) s) works ∙ ends_first (number (extent_of w.shape)) s (field_count w.shape name) fs owes.apart.0))

      classed_end : AreOfClasses w.classes v' t.vars
      classed_end = classed_on w.shape 1 ended w.classes v v' t.vars (told_by w.shape deinit (Swap seen new) v found v' (Some ended) act told) (λ x held e. refl) f.classed

      ends_on : (u : Thread) → WentOn w fs v' (deinit_tells (Some (acts.Finish s last)) (quiet t)) u → AllHold Judged w.shape (extent_of w.shape) (Some (Swap seen new, deinit)) (Some found) w.thread (Some (acts.Finish s last)) None h_swap
          → ComesUnder fs w t v (Swap seen new) deinit found v' h_swap (dying w s n a e) u
      ends_on u c holds = acts_on w t v s n a e f fs (Swap seen new) deinit found v' told ended act (λ k. refl) refl (λ m k. refl) takes_swap (no_flight (attempt.Exchanging seen new) at) (deinit_tells (Some ended) (quiet t)) u (plus_none t.hands) refl refl c (λ now noted. holds now)

    more : found ≡ seen → act_of w.shape v (Swap seen new) deinit found ≡ Some (acts.Finish s false) → Swapped (downs.More None)
    more same act =
        let e1 : Act = acts.Finish s false in
        ends_on same false act (cascaded (climbs (state w s n ats.Ended (Some e1)) (parent_of fs)) (quiet t))
        (climbs_on w fs v' s n (Some e1) (quiet t) f.is_for f.fit (classed_end same false act) (works_end same false act) (finished_more w.shape v v' its (waits fs) (ends same false act) (waiting_but s fs owes.apart.0) owes))
        (nothing_shown w.shape f.sized (extent_of w.shape) (Swap seen new) deinit found w.thread (Some e1) h_swap tt tt)

    -- the slot is to be vacated: the counts that were there show that the object has no entry
    last_one : found ≡ seen → (c : Inline) → IsWordOf (Counts c) seen → act_of w.shape v (Swap seen new) deinit found ≡ Some (acts.Finish s true) → Swapped (downs.Last None)
    last_one same c word act = ends_on same true act (asking (dying w s n (ending_at w fs s) (Some (acts.Finish s true))) (Clear w s) intents.Vacate (deinit_tells (Some (acts.Finish s true)) (quiet t)))
        (record {
          hands = refl;
          event = refl;
          count = refl;
          same = λ g. plus_none (in_vars t.vars g);
          classed = classed_end same true act;
          coming = tt;
          asks = (refl, (refl, refl, refl));
          under_way = record { name = name; working = works_end same true act; owes = left; rests = tt };
        })
        (no_entry_shown w.shape (extent_of w.shape) s seen new found w.thread deinit (acts.Finish s true) h_swap below none)
      where
        x : Acted w.shape v v' (acts.Finish s true)
        x = ends same true act

        m : OwedLater owes.just.0.place owes.just.0.object h_swap
        m = met w.shape v v' (acts.Finish s true) x its owes.just.0

        says : ShowsCounts w.shape (at_slot s (heap_after h_swap)) seen
        says = subst (ShowsCounts w.shape (at_slot s (heap_after h_swap))) same ((told.read (Count s) tt below refl).says (λ u. u))

        bare : m.q.entry ≡ None
        bare = (inline_counts w.shape m.q c seen f.sized (subst (λ o. ShowsCounts w.shape o seen) (slot_found w.shape h_swap owes.just.0.place s m.q x.legal.1 m.here (met_slot w.shape v v' (acts.Finish s true) x its owes.just.0)) says) word).entry

        left : OwesAll w.shape v' (vacating_due s ∷ waits fs)
        left = finished_last w.shape v v' its (waits fs) refl x (waiting_but s fs owes.apart.0) owes bare

        none : option_map (λ (o : Object). o.entry) (at_slot s (heap_after (record { thread = w.thread; act = acts.Finish s true } ∷ h_swap))) ≡ Some None
        none =
            let q = left.just.0 in
            let seen_is : v'.seen ≡ record { thread = w.thread; act = acts.Finish s true } ∷ h_swap = x.seen ∙ (λ j. record { thread = f.number j; act = acts.Finish s true } ∷ h_swap) in
            subst (λ k. option_map (λ (o : Object). o.entry) (at_slot s (heap_after k)) ≡ Some None) seen_is (ap (option_map (λ (o : Object). o.entry)) (slot_found w.shape v'.seen q.place s q.object told.legal q.here q.slot) ∙ ap Some (q.bare refl))

    -- by the counts that it found
    hit : found ≡ seen → IsDown Unowned (Count s) seen new → Swapped (down_end_at None Unowned seen)
    hit same down =
        let c : Inline = down.0 in
        let some = inline_unpacked c seen down.1 in
        let act : act_of w.shape v (Swap seen new) deinit found ≡ Some (acts.Finish s (c.unowned == 1)) =
        (λ j. cond (eq-eqb found seen same j) (Some (acts.Finish s (is_last Unowned (place_at-number (extent_of w.shape) (Count s) below j) seen))) None) ∙ ap (λ (m : Option Word). Some (acts.Finish s (is_last_in Unowned m))) some in
        subst (λ (m : Option Word). Swapped (of_unowned_down (unowned_down_end m))) (sym some) (go c down.1 (c.unowned == 1) act)
      where
        go : (c : Inline) → IsWordOf (Counts c) seen → (b : Bool) → act_of w.shape v (Swap seen new) deinit found ≡ Some (acts.Finish s b) → Swapped (of_unowned_down (cond b unowneds.Last unowneds.More))
        go c word true act = last_one same c word act
        go c word false act = more same act

    abbrev answer_if : Bool → DownAnswer
    answer_if b = cond b (down_end_at None Unowned seen) (downs.Again (record { seen = seen; found = found }))

    swaps : IsDown Unowned (Count s) seen new → Swapped (answer_if (found == seen))
    swaps down = dite (ℕ_discrete found seen) (λ x. subst (λ b. Swapped (answer_if b)) (sym (eq-eqb found seen x)) (hit x down)) (λ ne. subst (λ b. Swapped (answer_if b)) (sym (ne_eqb found seen ne)) (missed ne))

-- ---- behind the last field it reads the next word, which names the deinit that waits

module _ (w : Work) (t : Thread) (v : View) (s : ℕ) (n : ℕ × ℕ) (e : Option Act) (f : Facts w t v (dying w s n ats.Leaving e)) where
  pub leaves_allowed : Admits w.shape v (Load (number (extent_of w.shape) (Next s))) (intents.Deinit s)
  leaves_allowed = leave_allowed w t v s n ats.Leaving e f f.chain f.under_way.name f.under_way.working f.under_way.owes

  module _ (found : ℕ) (v' : View) (told : Told w.shape (intents.Deinit s) (Load (number (extent_of w.shape) (Next s))) v found v') where
    pub leaves_fits : ChainFitsAt f.chain (Some found) ats.Leaving
    leaves_fits = parent_read w t v s n ats.Leaving e f f.chain f.under_way.name f.under_way.working f.under_way.owes found v' told

    pub leaves_comes : ComesUnder f.chain w t v (Load (number (extent_of w.shape) (Next s))) (intents.Deinit s) found v' (told.between ++ v.seen) (dying w s n ats.Leaving e) (turned_at (Some found) (dying w s n ats.Leaving e) (quiet t))
    leaves_comes = reads_next w t v s n ats.Leaving e f f.chain f.under_way.name f.under_way.working f.under_way.owes found v' told refl

-- ---- the unowned references lose the holder that stands for the strong ones

module _ (w : Work) (t : Thread) (v : View) (s : ℕ) (n : ℕ × ℕ) (e : Option Act) (parent : Option Parent) (p : Fall) (f : Facts w t v (dying w s n (ats.Finishing parent p) e)) (step : Step) (intent : Intent) (asked : t.asked ≡ moves.Step step intent) where
  abbrev here : CascadeAt
  here = ats.Finishing parent p

  at_is : (b : AttemptAt) → p.at ≡ b → here ≡ finishing_at w f.chain s b
  at_is b is j = ats.Finishing (f.asks.1.0 j) ((f.asks.1.1 ∙ (λ k. release w s (is k))) j)

  pub finishes_allowed : Admits w.shape v step intent
  finishes_allowed = attempt_asked t.asked (number (extent_of w.shape) (Count s)) (intents.Deinit s) (λ b x. MayGoDown Unowned s b → Admits w.shape v x.0 x.1) step intent asked
      (λ down. load_allowed w t v s n here e f f.chain f.under_way.name f.under_way.working f.under_way.owes)
      (λ seen new down. swap_allowed w t v s n here e f f.chain f.under_way.name f.under_way.working f.under_way.owes seen new down) p.at f.asks.1.2 f.under_way.rests

  pub finishes_comes : (found : ℕ) (v' : View) (told : Told w.shape intent step v found v') → IsServedWord w.shape step intent found
      → ComesUnder f.chain w t v step intent found v' (told.between ++ v.seen) (dying w s n (ats.Finishing parent p) e) (turned_at (Some found) (dying w s n (ats.Finishing parent p) e) (quiet t))
  finishes_comes found v' =
      attempt_asked t.asked (number (extent_of w.shape) (Count s)) (intents.Deinit s) Case step intent asked
      (λ is down told served. subst (Turned (Load (number (extent_of w.shape) (Count s))) (intents.Deinit s) told) (sym (at_is attempt.Loading is))
      (loads w t v s n here e f f.chain f.under_way.name f.under_way.working f.under_way.owes found v' told (at_is attempt.Loading is) (served refl)))
      (λ seen new is down told served. subst (Turned (Exchange (number (extent_of w.shape) (Count s)) seen new) (intents.Deinit s) told) (sym (at_is (attempt.Exchanging seen new) is))
      (swaps w t v s n here e f f.chain f.under_way.name f.under_way.working f.under_way.owes seen new found v' told (at_is (attempt.Exchanging seen new) is) down)) p.at f.asks.1.2 refl f.under_way.rests
    where
      Turned : (st : Step) (i : Intent) → Told w.shape i st v found v' → CascadeAt → Type 0
      Turned st i told a = ComesUnder f.chain w t v st i found v' (told.between ++ v.seen) (dying w s n here e) (turned_at (Some found) (dying w s n a e) (quiet t))

      Case : AttemptAt → Step × Intent → Type 0
      Case b x = p.at ≡ b → MayGoDown Unowned s b → (told : Told w.shape x.1 x.0 v found v') → IsServedWord w.shape x.0 x.1 found → Turned x.0 x.1 told here
