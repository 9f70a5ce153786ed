-- What a deinit took out of a field is given up: its count is exchanged, and the slot of an object that lost its last unowned reference is vacated.
use Rattle.std.proofs.Common.{◌≡◌, ◌≢◌, ℕ, suc, ◌+◌, ◌/◌, ◌<◌, ◌==◌, Bool, true, false, cond, List, [], ◌∷◌, ◌++◌, length, Option, Some, None, refl, sym, ap, ◌∙◌, subst, arith, eq-eqb, ne_eqb}
use mathlib.Core.Logic.{dite}
use native.Mathlib.Decide.{ℕ_discrete}
use Rattle.arc_bits.specs.declared.packing.Inline.{Inline}
use Rattle.arc_bits.specs.declared.packing.Word.{Word}
use Rattle.arc_bits.specs.declared.packing.Word.TheVariants.{Counts, Immortal}
use Rattle.arc_bits.specs.Words.{IsWordOf, unpacked}
use Rattle.arc_model.specs.declared.event.Act.{Act}
use Rattle.arc_model.specs.declared.event.Act.TheVariants as acts
use Rattle.arc_model.specs.declared.event.ObjectName.{ObjectName}
use Rattle.arc_model.specs.declared.shape.Kind.{Kind}
use Rattle.arc_model.specs.declared.shape.Kind.TheVariants.{Strong, Unowned, Weak}
use Rattle.arc_model.specs.Heaps.{Object}
use Rattle.arc_model.specs.History.{History}
use Rattle.arc_spelling.specs.SpellingTies.Causes.{Judged}
use Rattle.arc_rule.specs.Attempts.{exchanging, chosen, turned_by, answer_by}
use Rattle.arc_rule.specs.Bits.{but_bit_of}
use Rattle.arc_rule.specs.Places.{extent_of, number}
use Rattle.arc_rule.specs.Shown.{counts_in}
use Rattle.arc_rule.specs.declared.attempt.At.{At as AttemptAt}
use Rattle.arc_rule.specs.declared.attempt.At.TheVariants as attempt
use Rattle.arc_rule.specs.declared.attempt.Choice.{Choice}
use Rattle.arc_rule.specs.declared.attempt.Choice.TheVariants.{Tell, Write}
use Rattle.arc_rule.specs.declared.layout.Place.TheVariants.{Count, Next as NextPlace, SlotBits}
use Rattle.arc_rule.specs.declared.plan.Next.TheVariants as nexts
use Rattle.arc_rule.specs.declared.step.Step.{Step}
use Rattle.arc_rule.specs.declared.step.Step.TheVariants.{Load, Exchange, Store, And}
use Rattle.arc_rule.specs.declared.step.Intent.{Intent}
use Rattle.arc_rule.specs.declared.step.Intent.TheVariants as intents
use Rattle.arc_side.specs.declared.down.DownAnswer.{DownAnswer}
use Rattle.arc_side.specs.declared.down.DownAnswer.TheVariants as downs
use Rattle.arc_side.specs.declared.slot_end.At.TheVariants as slot_ends
use Rattle.arc_side.specs.Downs.{down_choice_at, down_end_at, down_in, down_moved, down_place}
use Rattle.arc_side.specs.Inline.{IsCountedInline, entry_named}
use Rattle.arc_side.specs.SlotEnds.{SlotEnding}
use Rattle.arc_cells.specs.declared.cascade.At.TheVariants as ats
use Rattle.arc_cells.specs.declared.ref_drop.At.{At as DropAt}
use Rattle.arc_cells.specs.declared.ref_drop.At.TheVariants as drops
use Rattle.arc_cells.specs.Cascades.{drops_on, looks}
use Rattle.arc_cells.specs.Chains.{Frame, next_word_of, parent_of}
use Rattle.arc_cells.specs.Drops.{Dropping, DropTurn, counted_on, has_dropped, has_emptied, is_over}
use Rattle.arc_deinits.specs.Stands.{chained, chained_by}
use Rattle.arc_ops.specs.declared.stepper.Held.{Held}
use Rattle.arc_ops.specs.declared.stepper.Doing.{Doing}
use Rattle.arc_ops.specs.declared.stepper.Move.TheVariants as moves
use Rattle.arc_ops.specs.Thread.{Thread, asking}
use Rattle.arc_ops.specs.Drops.{deinit_tells}
use Rattle.arc_ops.specs.Takes.{takes_at, IsInline}
use Rattle.arc_ops.specs.Turns.{turned_at}
use Rattle.arc_spelled.specs.StepperStands.{Work}
use Rattle.arc_view.specs.declared.view.Working.{Working}
use Rattle.arc_view.specs.declared.view.View.{View}
use Rattle.arc_view.specs.Views.{Each}
use Rattle.arc_view.specs.Calls.{Called}
use Rattle.arc_view.specs.Kinds.{act_of, is_last_in, when}
use Rattle.arc_view.specs.Admission.{Admits}
use Rattle.arc_view.specs.Steps.{Told}
use Rattle.arc_ops_passes.specs.References.{in_vars, in_flight, references, Leads, Owns}
use Rattle.arc_ops_passes.specs.Drives.{Asks, AttemptAsks, DropAsks, Due, OwesAll, MayGoDown, UnderWay, AreOfClasses, ComesOfClass, dying_due, waits, deiniting}
use Rattle.arc_ops_passes.specs.Laws.{IsServedWord}
use Rattle.arc_ops_passes.proofs.Chain.{under_chain}
use Rattle.arc_ops_passes.proofs.Counts.{ShowsHeld, counts, slow, forever, loads_held, counts_not_one, inline_unpacked}
use Rattle.arc_ops_passes.proofs.Deinits.{state, dying, plus_none, Continues, going, looks_on, silent}
use Rattle.arc_ops_passes.proofs.Dues.{owes_all_still, waiting_but}
use Rattle.arc_ops_passes.proofs.DuesOn.{acted, vacated}
use Rattle.arc_ops_passes.proofs.Goes.{quiet, Facts, ComesUnder, ReadsNoName, knows_none, told_by, classed_on, claims_on, owns_on, nothing_shown, as_asked, attempt_asked}
use Rattle.arc_ops_passes.proofs.Fields.{AllHold}
use Rattle.arc_ops_passes.proofs.FallEnds.{fall, less_in, choice_less, choice_forever, takes_counts, takes_forever, is_down, down_counts, ends_with, end_is, vacate_allowed, vacate_act, vacate_works}
use Rattle.arc_ops_passes.proofs.Lasts.{Dies, all_die, owes_kept}
use Rattle.arc_ops_passes.proofs.Looks.{cascaded, looks_cascaded}
use Rattle.arc_ops_passes.proofs.Lessens.{left_due, leads, below, load_act, load_same, swap_same, load_allowed, swap_allowed, missed_act, hit_is, gives_up, owes_last, gives_up_last}

-- ---- the drop of what was taken out of a field

abbrev pub dropped : Work → Held → DropAt → Option Act → Dropping
dropped w held a e = record { layout = extent_of w.shape; hand = held.hand; kind = held.kind; place = held.place; at = a; event = e }

abbrev pub counting : Work → Held → AttemptAt → Option Act → Dropping
counting w held a e = dropped w held (drops.Counting (fall w held a)) e

abbrev pub slot_ending : Work → Held → SlotEnding
slot_ending w held = record { layout = extent_of w.shape; slot = held.place; entry = None; at = slot_ends.Vacating; event = None }

abbrev pub ending : Work → Held → Option Act → Dropping
ending w held e = dropped w held (drops.Ending (slot_ending w held)) e

-- what the cascade waits for, in the deinit of the object in slot s: k is the event that the drop told last, and e that of the cascade
module _ (w : Work) (t : Thread) (v : View) (s : ℕ) (n : ℕ × ℕ) (e : Option Act) (name : ObjectName) (field : ℕ) (held : Held) (k : Option Act) where
  abbrev giving : Dropping → Doing
  giving d = dying w s n (ats.Dropping name field d) e

  -- the dues of the deinit, under those that wait
  abbrev waiting : List Frame → List Due
  waiting fs = dying_due s (Some name) (suc field) ∷ waits fs

  they_die : (fs : List Frame) → Each Dies (waiting fs)
  they_die fs = (refl, all_die fs)

  abbrev Turns : (fs : List Frame) (step : Step) (intent : Intent) (found : ℕ) (v' : View) → History → Dropping → DropTurn → Type 0
  Turns fs step intent found v' h d r =
      ComesUnder (chained_by (state w s n (ats.Dropping name field d) e) name field r.says fs) w t v step intent found v' h (giving d) (cascaded (drops_on (state w s n ats.Ended r.after.event) name field r.after r.says) (quiet t))

  -- it looks on behind the field
  on : (fs : List Frame) (v' : View) → OwesAll w.shape v' (waiting fs) → v'.working ≡ deiniting (under_chain s (suc field) fs) → (x : Option Act) (u : Thread) → Continues w fs v' u (going (looks (state w s n ats.Ended x) name (field + 1)) u) (λ g. 0)
  on fs v' owes works x u =
      let one : suc field ≡ field + 1 = omega arith in
      looks_on w fs v' s n x name (field + 1) u (subst (λ j. OwesAll w.shape v' (dying_due s (Some name) j ∷ waits fs)) one owes) (works ∙ ap (λ j. deiniting (under_chain s j fs)) one)

  -- ---- the count is exchanged
  module _ (a : AttemptAt) (f : Facts w t v (giving (counting w held a k))) where
    has_it : (g : Held → ℕ) → references t.vars t.hands (giving (counting w held a k)) g ≡ in_vars t.vars g + g held
    has_it g = refl

    free : v.working.owes ≡ None
    free = ap (λ (x : Working). x.owes) f.under_way.working

    no_access : v.working.access ≡ None
    no_access = ap (λ (x : Working). x.access) f.under_way.working

    abbrev at : ℕ
    at = number (extent_of w.shape) (Count held.place)

    abbrev drop : Intent
    drop = intents.Drop held.hand

    -- more references are left
    more : (step : Step) (found : ℕ) (v' : View) (told : Told w.shape drop step v found v') → v'.working ≡ v.working → act_of w.shape v step drop found ≡ Some (acts.Drop held.hand false) → takes_at w.shape (Some found) (giving (counting w held a k)) → ReadsNoName (extent_of w.shape) step drop
        → Turns f.chain step drop found v' (told.between ++ v.seen) (counting w held a k) (is_over (has_dropped (dropped w held drops.Ended None) false))
    more step found v' told works act takes reads =
        let lost = acts.Drop held.hand false in
        let x : Thread = deinit_tells (Some lost) (quiet t) in
        let u : Thread = going (looks (state w s n ats.Ended (Some lost)) name (field + 1)) x in
        let owes = owes_kept w.shape v v' lost (waiting f.chain) (acted w.shape drop step v found v' lost act told) (λ i h. refl) (they_die f.chain) f.under_way.owes in
        let c = on f.chain v' owes (works ∙ f.under_way.working) (Some lost) x in
        subst (λ (y : Thread). ComesUnder f.chain w t v step drop found v' (told.between ++ v.seen) (giving (counting w held a k)) y) (sym (looks_cascaded (state w s n ats.Ended (Some lost)) name (field + 1) (quiet t)))
        (gives_up w t v held (giving (counting w held a k)) f has_it free no_access step found v' told act f.chain u takes refl reads c.event (c.hands ∙ plus_none t.hands) c.vars c.held c.coming c.asks c.under_way)

    -- it attempts on, without an event
    again : (step : Step) (found : ℕ) (v' : View) (told : Told w.shape drop step v found v') → v'.working ≡ v.working → act_of w.shape v step drop found ≡ None → takes_at w.shape (Some found) (giving (counting w held a k)) → ReadsNoName (extent_of w.shape) step drop → (b : AttemptAt) (next : Step)
        → AttemptAsks (moves.Step next drop) at drop b → MayGoDown held.kind held.place b
        → ComesUnder f.chain w t v step drop found v' (told.between ++ v.seen) (giving (counting w held a k)) (asking (dying w s n (ats.Dropping name field (counting w held b None)) None) next drop (deinit_tells None (quiet t)))
    again step found v' told works none takes reads b next asks rests =
        let called = told_by w.shape drop step v found v' None none told in
        let x : Thread = deinit_tells None (quiet t) in
        let u : Thread = asking (dying w s n (ats.Dropping name field (counting w held b None)) None) next drop x in
        silent w t v s n (ats.Dropping name field (counting w held a k)) e f f.chain step drop found v' told none takes x u (λ g. g held) refl (plus_none t.hands) refl (λ g. refl)
        (record {
          hands = refl;
          vars = refl;
          event = refl;
          held = λ g. refl;
          coming = tt;
          asks = (refl, (refl, (refl, asks)));
          under_way = record {
            name = name;
            working = works ∙ f.under_way.working;
            owes = owes_all_still w.shape (waiting f.chain) 1 v v' f.sized called f.under_way.owes;
            rests = rests;
          };
        })
        (λ now noted. nothing_shown w.shape f.sized (extent_of w.shape) step drop found w.thread None (told.between ++ v.seen) reads tt now)

  -- ---- it loads the count
  module _ (f : Facts w t v (giving (counting w held attempt.Loading k))) where
    abbrev its_has : (g : Held → ℕ) → references t.vars t.hands (giving (counting w held attempt.Loading k)) g ≡ in_vars t.vars g + g held
    its_has = has_it attempt.Loading f

    pub loading_allowed : Admits w.shape v (Load (number (extent_of w.shape) (Count held.place))) (intents.Drop held.hand)
    loading_allowed = load_allowed w t v held (giving (counting w held attempt.Loading k)) f its_has (free attempt.Loading f) (no_access attempt.Loading f)

    module _ (found : ℕ) (v' : View) (told : Told w.shape (intents.Drop held.hand) (Load (number (extent_of w.shape) (Count held.place))) v found v') where
      abbrev place : ℕ
      place = number (extent_of w.shape) (Count held.place)

      abbrev Loaded : Option ℕ × Choice DownAnswer → Type 0
      Loaded x = Turns f.chain (Load place) (intents.Drop held.hand) found v' (told.between ++ v.seen) (counting w held attempt.Loading k)
          (counted_on (dropped w held drops.Ended None) (turned_by down_moved (fall w held attempt.Loading) (down_in (fall w held attempt.Loading) x.0) (exchanging found x.1)) (answer_by down_place (down_in (fall w held attempt.Loading) x.0) (chosen place found x.1)))

      by_word : (o : Option Word) (r : Choice DownAnswer) → unpacked found ≡ o → down_choice_at None held.kind found ≡ r → entry_named o ≡ None → Loaded (None, r) → Loaded (entry_named (unpacked found), down_choice_at None held.kind found)
      by_word o r some is none done = subst Loaded (λ j. ((sym none ∙ ap entry_named (sym some)) j, sym is j)) done

      pub loading_comes : IsInline (unpacked found) → Loaded (entry_named (unpacked found), down_choice_at None held.kind found)
      loading_comes served = let r = loads_held w.shape (intents.Drop held.hand) v found v' held f.sized its_below told its_leads in by r.0 r.1
        where
          its_leads : Leads v held
          its_leads = leads w t v held (giving (counting w held attempt.Loading k)) f its_has (free attempt.Loading f) (no_access attempt.Loading f)

          its_below : held.place < w.shape.slots
          its_below = below w t v held (giving (counting w held attempt.Loading k)) f its_has (free attempt.Loading f) (no_access attempt.Loading f)

          works : v'.working ≡ v.working
          works = ap (λ (x : View). x.working) told.after ∙ load_same w t v held (giving (counting w held attempt.Loading k)) f its_has (free attempt.Loading f) (no_access attempt.Loading f) found

          act_is : act_of w.shape v (Load place) (intents.Drop held.hand) found ≡ when (found == 1) (acts.Drop held.hand false)
          act_is = load_act w t v held (giving (counting w held attempt.Loading k)) f its_has (free attempt.Loading f) (no_access attempt.Loading f) found

          by : (o : Object) → ShowsHeld w.shape held.kind o found → Loaded (entry_named (unpacked found), down_choice_at None held.kind found)
          by o (slow j some entry lt) = absurd (subst IsInline some served)
          by o (forever one some immortal) =
              by_word (Some Immortal) (Tell (downs.More None)) some (choice_forever held.kind found its_leads.0 some) refl
              (more attempt.Loading f (Load place) found v' told works (act_is ∙ ap (λ b. when b (acts.Drop held.hand false)) (eq-eqb found 1 one)) (takes_forever w held held.kind found its_leads.0 some) tt)
          by o (counts some word_is unowned fact none) =
              let c : Inline = counts_in o in
              let new = less_in held.kind c in
              by_word (Some (Counts c)) (Write new) some (choice_less held.kind c found its_leads.0 some) refl
              (again attempt.Loading f (Load place) found v' told works (act_is ∙ ap (λ b. when b (acts.Drop held.hand false)) (ne_eqb found 1 (counts_not_one found c some))) (takes_counts w held held.kind c found some unowned fact its_leads.0) tt
              (attempt.Exchanging found new) (Exchange place found new) refl (is_down held.kind c held.place found word_is unowned fact its_leads.0))

  -- ---- it exchanges it
  module _ (seen new : ℕ) (f : Facts w t v (giving (counting w held (attempt.Exchanging seen new) k))) where
    abbrev swapping : AttemptAt
    swapping = attempt.Exchanging seen new

    abbrev swaps_it : (g : Held → ℕ) → references t.vars t.hands (giving (counting w held (attempt.Exchanging seen new) k)) g ≡ in_vars t.vars g + g held
    swaps_it = has_it swapping f

    pub exchange_allowed : Admits w.shape v (Exchange (number (extent_of w.shape) (Count held.place)) seen new) (intents.Drop held.hand)
    exchange_allowed = swap_allowed w t v held (giving (counting w held swapping k)) f swaps_it (free swapping f) (no_access swapping f) seen new f.under_way.rests

    module _ (found : ℕ) (v' : View) (told : Told w.shape (intents.Drop held.hand) (Exchange (number (extent_of w.shape) (Count held.place)) seen new) v found v') where
      abbrev Swap : Step
      Swap = Exchange (number (extent_of w.shape) (Count held.place)) seen new

      abbrev Swapped : DownAnswer → Type 0
      Swapped answer = Turns f.chain Swap (intents.Drop held.hand) found v' (told.between ++ v.seen) (counting w held swapping k) (counted_on (dropped w held drops.Ended None) (fall w held attempt.Ended) (nexts.Done answer))

      takes_any : takes_at w.shape (Some found) (giving (counting w held swapping k))
      takes_any x = cc

      same_works : v'.working ≡ v.working
      same_works = ap (λ (x : View). x.working) told.after ∙ swap_same w t v held (giving (counting w held swapping k)) f swaps_it (free swapping f) (no_access swapping f) seen new found

      in_line : IsCountedInline held.kind
      in_line = (leads w t v held (giving (counting w held swapping k)) f swaps_it (free swapping f) (no_access swapping f)).0

      -- another word is there
      missed : found ≢ seen → Swapped (downs.Again (record { seen = seen; found = found }))
      missed ne = again swapping f Swap found v' told same_works (missed_act w t v held (giving (counting w held swapping k)) f swaps_it (free swapping f) (no_access swapping f) seen new found ne) takes_any tt attempt.Loading (Load (number (extent_of w.shape) (Count held.place))) refl tt

      -- the last one of its list
      last_one : found ≡ seen → (c : Inline) → IsWordOf (Counts c) seen → act_of w.shape v Swap (intents.Drop held.hand) found ≡ Some (acts.Drop held.hand true) → Swapped (downs.Last None)
      last_one same c word_is act = go held.kind in_line owes
        where
          works_then : v'.working ≡ deiniting (under_chain s (suc field) f.chain)
          works_then = same_works ∙ f.under_way.working

          owes : OwesAll w.shape v' (left_due held.kind held.place ∷ waiting f.chain)
          owes = owes_last w t v held (giving (counting w held swapping k)) f swaps_it (free swapping f) (no_access swapping f) seen new found v' told same c word_is act (waiting f.chain) (they_die f.chain) f.under_way.owes

          leaves : (fs : List Frame) (u : Thread) → u.event ≡ Some (acts.Drop held.hand true) → u.hands ≡ t.hands → u.vars ≡ t.vars → ((g : Held → ℕ) → in_flight g u.hands u.doing ≡ 0) → ComesOfClass w.classes v' u.doing → Asks w.shape fs u u.doing → UnderWay w.shape v' fs u.doing
              → ComesUnder fs w t v Swap (intents.Drop held.hand) found v' (told.between ++ v.seen) (giving (counting w held swapping k)) u
          leaves fs u = gives_up_last w t v held (giving (counting w held swapping k)) f swaps_it (free swapping f) (no_access swapping f) seen new found v' told same c word_is act fs u takes_any refl

          go : (kind : Kind) → IsCountedInline kind → OwesAll w.shape v' (left_due kind held.place ∷ waiting f.chain)
              → Turns f.chain Swap (intents.Drop held.hand) found v' (told.between ++ v.seen) (counting w held swapping k) (has_emptied (has_dropped (dropped w held drops.Ended None) true) kind None)
          go Strong counted_is due =
              let one : suc field ≡ field + 1 = omega arith in
              let p : Frame = record { slot = s; name = name; field = field + 1 } in
              let x : Thread = deinit_tells (Some (acts.Drop held.hand true)) (quiet t) in
              leaves (p ∷ f.chain) (asking (dying w held.place n ats.Entering (Some (acts.Drop held.hand true))) (Store (number (extent_of w.shape) (NextPlace held.place)) (next_word_of (parent_of (p ∷ f.chain)))) (intents.Deinit held.place) x)
              refl (plus_none t.hands) refl (λ g. refl) tt (refl, refl)
              (record {
                name = name;
                working = works_then ∙ ap (λ j. deiniting (under_chain s j f.chain)) one;
                owes = subst (λ j. OwesAll w.shape v' (dying_due held.place None 0 ∷ dying_due s (Some name) j ∷ waits f.chain)) one due;
                rests = tt;
              })
          go Unowned counted_is due =
              let x : Thread = deinit_tells (Some (acts.Drop held.hand true)) (quiet t) in
              leaves f.chain (asking (dying w s n (ats.Dropping name field (ending w held (Some (acts.Drop held.hand true)))) (Some (acts.Drop held.hand true))) (And (number (extent_of w.shape) (SlotBits (held.place / 64))) (but_bit_of held.place)) intents.Vacate x)
              refl (plus_none t.hands) refl (λ g. refl) tt (refl, (refl, (refl, refl))) (record { name = name; working = works_then; owes = due; rests = tt })
          go Weak counted_is due = absurd counted_is

      -- by the counts that it found
      hit : found ≡ seen → Swapped (down_end_at None held.kind seen)
      hit same =
          let down = down_counts held.kind held.place seen new in_line f.under_way.rests in
          let c : Inline = down.0 in
          subst Swapped (sym (end_is held.kind c seen in_line (inline_unpacked c seen down.1)))
          (go c down.1 (is_last_in held.kind (Some (Counts c))) (hit_is w t v held (giving (counting w held swapping k)) f swaps_it (free swapping f) (no_access swapping f) seen new found same c down.1))
        where
          go : (c : Inline) → IsWordOf (Counts c) seen → (b : Bool) → act_of w.shape v Swap (intents.Drop held.hand) found ≡ Some (acts.Drop held.hand b) → Swapped (ends_with b)
          go c word_is true act = last_one same c word_is act
          go c word_is false act = more swapping f Swap found v' told same_works act takes_any tt

      abbrev answer : Bool → DownAnswer
      answer b = cond b (down_end_at None held.kind seen) (downs.Again (record { seen = seen; found = found }))

      pub exchange_comes : Swapped (answer (found == seen))
      exchange_comes = dite (ℕ_discrete found seen) (λ same. subst (λ b. Swapped (answer b)) (sym (eq-eqb found seen same)) (hit same)) (λ ne. subst (λ b. Swapped (answer b)) (sym (ne_eqb found seen ne)) (missed ne))

  -- ---- behind the last unowned one the slot is vacated
  module _ (f : Facts w t v (giving (ending w held k))) where
    free_then : v.working.owes ≡ None
    free_then = ap (λ (x : Working). x.owes) f.under_way.working

    pub ending_allowed : Admits w.shape v (And (number (extent_of w.shape) (SlotBits (held.place / 64))) (but_bit_of held.place)) intents.Vacate
    ending_allowed = vacate_allowed w.shape v held.place f.in_shape f.under_way.owes.just.0 free_then

    pub ending_comes : (found : ℕ) (v' : View) (told : Told w.shape intents.Vacate (And (number (extent_of w.shape) (SlotBits (held.place / 64))) (but_bit_of held.place)) v found v')
        → Turns f.chain (And (number (extent_of w.shape) (SlotBits (held.place / 64))) (but_bit_of held.place)) intents.Vacate found v' (told.between ++ v.seen) (ending w held k) (is_over (dropped w held drops.Ended (Some (acts.Vacate held.place))))
    ending_comes found v' told =
        let step = And (number (extent_of w.shape) (SlotBits (held.place / 64))) (but_bit_of held.place) in
        let left = acts.Vacate held.place in
        let d = giving (ending w held k) in
        let act = vacate_act w.shape v held.place f.in_shape f.under_way.owes.just.0 free_then found in
        let called : Called w.shape (left ∷ []) 1 v v' = told_by w.shape intents.Vacate step v found v' (Some left) act told in
        let works : v'.working ≡ v.working = ap (λ (y : View). y.working) told.after ∙ vacate_works w.shape v held.place f.in_shape f.under_way.owes.just.0 free_then found in
        let owes = vacated w.shape v v' held.place (waiting f.chain) f.sized (acted w.shape intents.Vacate step v found v' left act told) (waiting_but held.place (record { slot = s; name = name; field = suc field } ∷ f.chain) f.under_way.owes.apart.0) f.under_way.owes in
        let x : Thread = deinit_tells (Some left) (quiet t) in
        let u : Thread = going (looks (state w s n ats.Ended (Some left)) name (field + 1)) x in
        let c : Continues w f.chain v' x u (λ g. 0) = on f.chain v' owes (works ∙ f.under_way.working) (Some left) x in
        let hands : u.hands ≡ t.hands = c.hands ∙ plus_none t.hands in
        let same : (g : Held → ℕ) → references u.vars u.hands u.doing g ≡ references t.vars t.hands d g = λ g. (λ j. in_vars (c.vars j) g + c.held g j) in
        subst (λ (y : Thread). ComesUnder f.chain w t v step intents.Vacate found v' (told.between ++ v.seen) d y) (sym (looks_cascaded (state w s n ats.Ended (Some left)) name (field + 1) (quiet t)))
        (record {
          takes_it = λ y. cc;
          event = act ∙ sym c.event;
          holds = λ now noted. subst (λ (y : Option Act). AllHold Judged w.shape (extent_of w.shape) (Some (step, intents.Vacate)) (Some found) w.thread y None (told.between ++ v.seen)) (sym c.event)
              (nothing_shown w.shape f.sized (extent_of w.shape) step intents.Vacate found w.thread (Some left) (told.between ++ v.seen) tt tt) now;
          knows = knows_none v';
          count = ap length c.vars ∙ f.count;
          owns = subst (λ j. Owns v' j (references u.vars u.hands u.doing)) (sym hands) (owns_on w.shape 1 left v v' t.hands (references t.vars t.hands d) (references u.vars u.hands u.doing) called (λ j. refl) refl f.owns same);
          classed = subst (AreOfClasses w.classes v') (sym c.vars) (classed_on w.shape 1 left w.classes v v' t.vars called (λ y h z. refl) f.classed);
          coming = c.coming;
          no_claim = claims_on w.shape 1 left v v' called (λ y z. refl) f.no_claim;
          asks = c.asks;
          under_way = c.under_way;
        })

-- ---- by where the drop is

module _ (w : Work) (t : Thread) (v : View) (s : ℕ) (n : ℕ × ℕ) (e : Option Act) (name : ObjectName) (field : ℕ) (d : Dropping) (step : Step) (intent : Intent) (f : Facts w t v (dying w s n (ats.Dropping name field d) e)) (asked : t.asked ≡ moves.Step step intent) where
  abbrev its : Held
  its = record { hand = d.hand; kind = d.kind; place = d.place }

  by_place : (C : Dropping → Step × Intent → Type 0) → C (counting w its attempt.Loading d.event) (Load (number (extent_of w.shape) (Count d.place)), intents.Drop d.hand)
      → ((seen new : ℕ) → C (counting w its (attempt.Exchanging seen new) d.event) (Exchange (number (extent_of w.shape) (Count d.place)) seen new, intents.Drop d.hand))
      → C (ending w its d.event) (And (number (extent_of w.shape) (SlotBits (d.place / 64))) (but_bit_of d.place), intents.Vacate) → C d (step, intent)
  by_place C loads exchanges ends = subst (λ q. C q (step, intent)) (sym f.asks.1.0) (of d.at f.asks.1.1)
    where
      of : (a : DropAt) → DropAsks w.shape t.asked d a → C (dropped w its a d.event) (step, intent)
      of drops.Start ask = absurd ask
      of (drops.Counting p) (is, ask) = subst (λ q. C (dropped w its (drops.Counting q) d.event) (step, intent)) (sym is)
          (attempt_asked t.asked (number (extent_of w.shape) (Count d.place)) (intents.Drop d.hand) (λ a x. C (counting w its a d.event) x) step intent asked loads exchanges p.at ask)
      of (drops.InEntry p) ask = absurd ask
      of (drops.Ending p) (is, ask) = subst (λ q. C (dropped w its (drops.Ending q) d.event) (step, intent)) (sym is)
          (as_asked t.asked (λ x. C (ending w its d.event) x) step (And (number (extent_of w.shape) (SlotBits (d.place / 64))) (but_bit_of d.place)) intent intents.Vacate ask asked ends)
      of drops.Returning ask = absurd ask
      of drops.Ended ask = absurd ask

  pub falls_allowed : Admits w.shape v step intent
  falls_allowed = by_place (λ q x. Facts w t v (dying w s n (ats.Dropping name field q) e) → Admits w.shape v x.0 x.1)
      (λ g. loading_allowed w t v s n e name field its d.event g) (λ seen new g. exchange_allowed w t v s n e name field its d.event seen new g) (λ g. ending_allowed w t v s n e name field its d.event g) f

  module _ (found : ℕ) (v' : View) where
    abbrev Falls : Dropping → Step × Intent → Type 0
    Falls q x = (g : Facts w t v (dying w s n (ats.Dropping name field q) e)) → IsServedWord w.shape x.0 x.1 found → (told : Told w.shape x.1 x.0 v found v')
        → ComesUnder (chained (state w s n (ats.Dropping name field q) e) (Some found) g.chain) w t v x.0 x.1 found v' (told.between ++ v.seen) (dying w s n (ats.Dropping name field q) e) (turned_at (Some found) (dying w s n (ats.Dropping name field q) e) (quiet t))

    pub falls_come : IsServedWord w.shape step intent found → (told : Told w.shape intent step v found v')
        → ComesUnder (chained (state w s n (ats.Dropping name field d) e) (Some found) f.chain) w t v step intent found v' (told.between ++ v.seen) (dying w s n (ats.Dropping name field d) e) (turned_at (Some found) (dying w s n (ats.Dropping name field d) e) (quiet t))
    falls_come = by_place Falls (λ g served told. loading_comes w t v s n e name field its d.event g found v' told served) (λ seen new g served told. exchange_comes w t v s n e name field its d.event seen new g found v' told)
        (λ g served told. ending_comes w t v s n e name field its d.event g found v' told) f
