-- A stepper that gives up a reference.
use mathlib.Core.Logic.{dite}
use native.Mathlib.Decide.{ℕ_discrete}
use Rattle.arc_bits.specs.declared.packing.Inline.{Inline}
use Rattle.arc_bits.specs.declared.packing.Word.{Word}
use Rattle.arc_bits.specs.declared.packing.Word.TheVariants.{Counts, Immortal}
use Rattle.arc_model.specs.declared.event.Act.{Act}
use Rattle.arc_model.specs.declared.event.Act.TheVariants as acts
use Rattle.arc_model.specs.declared.shape.Kind.{Kind}
use Rattle.arc_model.specs.History.{History}
use Rattle.arc_cells.specs.declared.cascade.At.TheVariants as ats
use Rattle.arc_spelling.specs.SpellingTies.Causes.{Judged}
use Rattle.arc_rule.specs.Extents.{Extent}
use Rattle.arc_rule.specs.Places.{extent_of, number}
use Rattle.arc_rule.specs.declared.layout.Place.TheVariants.{Count, Next, SlotBits}
use Rattle.arc_rule.specs.declared.step.Step.{Step}
use Rattle.arc_rule.specs.declared.step.Step.TheVariants.{Load, Exchange, Store, And}
use Rattle.arc_rule.specs.declared.step.Intent.{Intent}
use Rattle.arc_rule.specs.declared.step.Intent.TheVariants as intents
use Rattle.arc_rule.specs.declared.plan.Next.TheVariants as nexts
use Rattle.arc_rule.specs.declared.attempt.At.{At as AttemptAt}
use Rattle.arc_rule.specs.declared.attempt.At.TheVariants as attempt
use Rattle.arc_rule.specs.declared.attempt.Choice.{Choice}
use Rattle.arc_rule.specs.declared.attempt.Choice.TheVariants.{Tell, Write}
use Rattle.arc_ops.specs.declared.stepper.Held.{Held}
use Rattle.arc_ops.specs.declared.stepper.Doing.{Doing}
use Rattle.arc_ops.specs.declared.stepper.Doing.TheVariants as doings
use Rattle.arc_ops.specs.declared.stepper.Move.TheVariants as moves
use Rattle.arc_ops.specs.Thread.{Thread}
use Rattle.arc_ops.specs.Begins.{next_op}
use Rattle.arc_ops.specs.Turns.{turned_at}
use Rattle.arc_spelled.specs.StepperStands.{Work}
use Rattle.arc_view.specs.declared.view.Working.{Working}
use Rattle.arc_view.specs.declared.view.View.{View}
use Rattle.arc_view.specs.Steps.{Told}
use Rattle.arc_ops_passes.specs.References.{in_vars, in_flight, references, Leads, LeadsTo, Owns}
use Rattle.arc_ops_passes.proofs.Fields.{AllHold}
use Rattle.arc_ops_passes.proofs.Walks.{next_walks, drops_again}
use Rattle.std.proofs.Common.{◌≡◌, ◌≢◌, ℕ, ◌+◌, ◌/◌, ◌==◌, Bool, true, false, cond, [], ◌∷◌, ◌++◌, Option, Some, None, refl, sym, ap, ◌∙◌, subst, eq-eqb, ne_eqb}
use Rattle.arc_bits.specs.Words.{IsWordOf, unpacked}
use Rattle.arc_model.specs.declared.shape.Kind.TheVariants.{Strong, Unowned, Weak}
use Rattle.arc_model.specs.Heaps.{Object}
use Rattle.arc_rule.specs.Bits.{but_bit_of}
use Rattle.arc_rule.specs.Shown.{counts_in}
use Rattle.arc_rule.specs.Attempts.{exchanging, chosen, turned_by, answer_by}
use Rattle.arc_plan.specs.declared.slots.Once.TheVariants as once
use Rattle.arc_side.specs.declared.down.DownAnswer.{DownAnswer}
use Rattle.arc_side.specs.declared.down.DownAnswer.TheVariants as downs
use Rattle.arc_side.specs.Inline.{IsCountedInline, entry_named}
use Rattle.arc_side.specs.Downs.{Fall, down_choice_at, down_end_at, down_in, down_moved, down_place}
use Rattle.arc_ops.specs.Plans.{drop_begun}
use Rattle.arc_ops.specs.Drops.{dropped_on, last_gone}
use Rattle.arc_ops.specs.Takes.{takes_at, IsInline}
use Rattle.arc_view.specs.Kinds.{act_of, is_last_in, when}
use Rattle.arc_view.specs.Admission.{Admits}
use Rattle.arc_ops_passes.specs.Drives.{Asks, OwesAll, UnderWay, ComesOfClass}
use Rattle.arc_ops_passes.specs.Laws.{IsServedWord}
use Rattle.arc_ops_passes.proofs.Counts.{ShowsHeld, counts, slow, forever, loads_held, inline_unpacked, counts_not_one}
use Rattle.arc_ops_passes.proofs.Goes.{quiet, Facts, Comes, knows_none, attempt_asked, told_by, fresh_under, fresh_coming, classed_still, owes_still, owes_on, claims_on, ReadsNoName, nothing_shown, stays}
use Rattle.arc_view.specs.Views.{idle}
use Rattle.arc_ops_passes.proofs.FallEnds.{fall, less_in, choice_less, choice_forever, takes_counts, takes_forever, is_down, down_counts, ends_with, end_is}
use Rattle.arc_ops_passes.proofs.Lessens as lessens
use Rattle.arc_ops_passes.proofs.Lessens.{left_due}
use Rattle.arc_ops_passes.proofs.Dues.{one_of_all}

abbrev pub dropping : Work → Held → AttemptAt → Doing
dropping w held a = doings.Dropping held (fall w held a)

module _ (w : Work) (t : Thread) (v : View) (held : Held) where
  abbrev at : ℕ
  at = number (extent_of w.shape) (Count held.place)

  abbrev drop : Intent
  drop = intents.Drop held.hand

  module _ (a : AttemptAt) (f : Facts w t v (dropping w held a)) where
    has_it : (g : Held → ℕ) → references t.vars t.hands (dropping w held a) g ≡ in_vars t.vars g + g held
    has_it g = refl

    free : v.working.owes ≡ None
    free = ap (λ (x : Working). x.owes) f.under_way.0.working

    no_access : v.working.access ≡ None
    no_access = ap (λ (x : Working). x.access) f.under_way.0.working

    leads : Leads v held
    leads = lessens.leads w t v held (dropping w held a) f has_it free no_access

    -- it isn't the last of its list, and the next operation follows
    more : (step : Step) (found : ℕ) (v' : View) (told : Told w.shape drop step v found v') → takes_at w.shape (Some found) (dropping w held a) → ReadsNoName (extent_of w.shape) step drop → v'.working ≡ v.working
        → act_of w.shape v step drop found ≡ Some (acts.Drop held.hand false) → Comes w t v step drop found v' (told.between ++ v.seen) (dropping w held a) (next_op (record (quiet t) { event = Some (acts.Drop held.hand false) }))
    more step found v' told takes reads works act =
        let lost : Act = acts.Drop held.hand false in
        let h = told.between ++ v.seen in
        let q : Thread = record (quiet t) { event = Some (acts.Drop held.hand false) } in
        let u : Thread = next_op q in
        let walk = next_walks w (LeadsTo v') q f.is_for f.fit (lessens.classed_then w t v held (dropping w held a) f has_it free no_access step found v' told false act) in
        let c = told_by w.shape drop step v found v' (Some lost) act told in record {
          takes_it = takes;
          event = act ∙ sym walk.event;
          holds = subst (λ e. AllHold Judged w.shape (extent_of w.shape) (Some (step, drop)) (Some found) w.thread e None h) (sym walk.event) (nothing_shown w.shape f.sized (extent_of w.shape) step drop found w.thread (Some lost) h reads tt);
          knows = knows_none v';
          count = walk.count ∙ f.count;
          classed = walk.classed;
          coming = fresh_coming w.classes v' u.doing walk.fresh;
          owns = subst (λ n. Owns v' n (references u.vars u.hands u.doing)) (sym walk.hands)
              (lessens.owns_then w t v held (dropping w held a) f has_it free no_access step found v' told false act (references u.vars u.hands u.doing) walk.same);
          no_claim = claims_on w.shape 1 lost v v' c (λ m e. refl) f.no_claim;
          asks = walk.asks;
          under_way = fresh_under w.shape v' u.doing walk.fresh (works ∙ f.under_way.0.working) (owes_on w.shape 1 lost v v' c (λ i h. refl) f.under_way.0.none);
        }

  -- ---- it loads the count
  module _ (f : Facts w t v (dropping w held attempt.Loading)) where
    abbrev loading : Fall
    loading = fall w held attempt.Loading

    abbrev d_loading : Doing
    d_loading = dropping w held attempt.Loading

    load_allowed : Admits w.shape v (Load at) drop
    load_allowed = lessens.load_allowed w t v held d_loading f (has_it attempt.Loading f) (free attempt.Loading f) (no_access attempt.Loading f)

    module _ (found : ℕ) (v' : View) (told : Told w.shape drop (Load at) v found v') where
      abbrev Loaded : Option ℕ × Choice DownAnswer → Type 0
      Loaded x = Comes w t v (Load at) drop found v' (told.between ++ v.seen) (dropping w held attempt.Loading)
          (dropped_on held (turned_by down_moved loading (down_in loading x.0) (exchanging found x.1)) (answer_by down_place (down_in loading x.0) (chosen at found x.1)) (quiet t))

      abbrev choice : Choice DownAnswer
      choice = down_choice_at None held.kind found

      by_word : (o : Option Word) (r : Choice DownAnswer) → unpacked found ≡ o → choice ≡ r → entry_named o ≡ None → Loaded (None, r) → Loaded (entry_named (unpacked found), choice)
      by_word o r some is none done = subst Loaded (λ j. ((sym none ∙ ap entry_named (sym some)) j, sym is j)) done

      works : v'.working ≡ v.working
      works = ap (λ (x : View). x.working) told.after ∙ lessens.load_same w t v held d_loading f (has_it attempt.Loading f) (free attempt.Loading f) (no_access attempt.Loading f) found

      act_is : act_of w.shape v (Load at) drop found ≡ when (found == 1) (acts.Drop held.hand false)
      act_is = lessens.load_act w t v held d_loading f (has_it attempt.Loading f) (free attempt.Loading f) (no_access attempt.Loading f) found

      load_comes : IsInline (unpacked found) → Loaded (entry_named (unpacked found), choice)
      load_comes served = let s = loads_held w.shape drop v found v' held f.sized (lessens.below w t v held d_loading f (has_it attempt.Loading f) (free attempt.Loading f) (no_access attempt.Loading f)) told it in by s.0 s.1
        where
          it : Leads v held
          it = leads attempt.Loading f

          by : (o : Object) → ShowsHeld w.shape held.kind o found → Loaded (entry_named (unpacked found), choice)
          by o (slow e some entry lt) = absurd (subst IsInline some served)
          by o (forever one some immortal) = by_word (Some Immortal) (Tell (downs.More None)) some (choice_forever held.kind found it.0 some) refl
              (more attempt.Loading f (Load at) found v' told (takes_forever w held held.kind found it.0 some, served) tt works (act_is ∙ ap (λ b. when b (acts.Drop held.hand false)) (eq-eqb found 1 one)))
          by o (counts some word_is unowned fact none) =
              let c : Inline = counts_in o in
              let new = less_in held.kind c in
              let act : act_of w.shape v (Load at) drop found ≡ None = act_is ∙ ap (λ b. when b (acts.Drop held.hand false)) (ne_eqb found 1 (counts_not_one found c some)) in
              let c_none = told_by w.shape drop (Load at) v found v' None act told in
              let u : Thread = record (quiet t) { doing = dropping w held (attempt.Exchanging found new); asked = moves.Step (Exchange at found new) drop } in
              by_word (Some (Counts c)) (Write new) some (choice_less held.kind c found it.0 some) refl
              (stays w t v (Load at) drop found v' d_loading u told f (takes_counts w held held.kind c found some unowned fact it.0, served) refl act refl tt refl refl (λ g. refl) (classed_still w.shape 1 w.classes v v' t.vars c_none f.classed) tt (refl, refl)
              (record { working = works ∙ f.under_way.0.working; none = owes_still w.shape 1 v v' c_none f.under_way.0.none }, is_down held.kind c held.place found word_is unowned fact it.0))

  -- ---- it exchanges it
  module _ (seen new : ℕ) (f : Facts w t v (dropping w held (attempt.Exchanging seen new))) where
    abbrev swapping : AttemptAt
    swapping = attempt.Exchanging seen new

    abbrev d : Doing
    d = dropping w held (attempt.Exchanging seen new)

    swap_allowed : Admits w.shape v (Exchange at seen new) drop
    swap_allowed = lessens.swap_allowed w t v held d f (has_it swapping f) (free swapping f) (no_access swapping f) seen new f.under_way.1

    module _ (found : ℕ) (v' : View) (told : Told w.shape drop (Exchange at seen new) v found v') where
      abbrev h : History
      h = told.between ++ v.seen

      swap_works : v'.working ≡ v.working
      swap_works = ap (λ (x : View). x.working) told.after ∙ lessens.swap_same w t v held d f (has_it swapping f) (free swapping f) (no_access swapping f) seen new found

      abbrev Swapped : DownAnswer → Type 0
      Swapped answer = Comes w t v (Exchange at seen new) drop found v' h d (dropped_on held (fall w held attempt.Ended) (nexts.Done answer) (quiet t))

      -- another word is there
      missed : found ≢ seen → Swapped (downs.Again (record { seen = seen; found = found }))
      missed ne =
          let act = lessens.missed_act w t v held d f (has_it swapping f) (free swapping f) (no_access swapping f) seen new found ne in
          let c_none = told_by w.shape drop (Exchange at seen new) v found v' None act told in
          let walk = drops_again w (LeadsTo v') held (quiet t) f.is_for (classed_still w.shape 1 w.classes v v' t.vars c_none f.classed) in
          stays w t v (Exchange at seen new) drop found v' d (drop_begun held (quiet t)) told f ((λ e. cc), tt) refl act walk.event tt walk.hands walk.count walk.same walk.classed (fresh_coming w.classes v' (drop_begun held (quiet t)).doing walk.fresh) walk.asks
          (fresh_under w.shape v' (drop_begun held (quiet t)).doing walk.fresh (swap_works ∙ f.under_way.0.working) (owes_still w.shape 1 v v' c_none f.under_way.0.none))

      abbrev q : Thread
      q = record (quiet t) { event = Some (acts.Drop held.hand true) }

      -- the last one of its list: the object dies, or its slot ends
      last_one : found ≡ seen → (c : Inline) → IsWordOf (Counts c) seen → act_of w.shape v (Exchange at seen new) drop found ≡ Some (acts.Drop held.hand true) → Swapped (downs.Last None)
      last_one same c word_is act = go held.kind (leads swapping f).0 (lessens.owes_last w t v held d f (has_it swapping f) (free swapping f) (no_access swapping f) seen new found v' told same c word_is act [] tt (record { apart = tt; just = λ i all. f.under_way.0.none i }))
        where
          works : v'.working ≡ idle
          works = swap_works ∙ f.under_way.0.working

          goes : (u : Thread) → u.event ≡ Some (acts.Drop held.hand true) → u.hands ≡ t.hands → u.vars ≡ t.vars → ((g : Held → ℕ) → in_flight g u.hands u.doing ≡ 0) → ComesOfClass w.classes v' u.doing → Asks w.shape [] u u.doing → UnderWay w.shape v' [] u.doing → Comes w t v (Exchange at seen new) drop found v' h d u
          goes u = lessens.gives_up_last w t v held d f (has_it swapping f) (free swapping f) (no_access swapping f) seen new found v' told same c word_is act [] u ((λ e. cc), tt) refl

          go : (kind : Kind) → IsCountedInline kind → OwesAll w.shape v' (left_due kind held.place ∷ []) → Comes w t v (Exchange at seen new) drop found v' h d (last_gone kind held.place q)
          go Strong counted owes = goes (last_gone Strong held.place q) refl refl refl (λ g. refl) tt (
            (λ j. record { layout = f.is_for.0 j; shape = f.is_for.1 j; slot = held.place; before = t.hands; taken = 0; at = ats.Entering; event = None }),
            ap (λ (l : Extent). moves.Step (Store (number l (Next held.place)) 0) (intents.Deinit held.place)) f.is_for.0,
          ) (record { name = record { class = 0; thread = 0; number = 0 }; working = works; owes = owes; rests = tt })
          go Unowned counted owes = goes (last_gone Unowned held.place q) refl refl refl (λ g. refl) tt (
            (λ j. record { layout = f.is_for.0 j; slot = held.place; at = once.Asked }),
            ap (λ (l : Extent). moves.Step (And (number l (SlotBits (held.place / 64))) (but_bit_of held.place)) intents.Vacate) f.is_for.0,
          ) (works, one_of_all w.shape v' (left_due Unowned held.place) owes)
          go Weak counted owes = absurd counted

      -- by the counts that it found
      hit : found ≡ seen → Swapped (down_end_at None held.kind seen)
      hit same =
          let counted = (leads swapping f).0 in
          let down = down_counts held.kind held.place seen new counted f.under_way.1 in
          let c : Inline = down.0 in
          subst Swapped (sym (end_is held.kind c seen counted (inline_unpacked c seen down.1)))
          (go c down.1 (is_last_in held.kind (Some (Counts c))) (lessens.hit_is w t v held d f (has_it swapping f) (free swapping f) (no_access swapping f) seen new found same c down.1))
        where
          go : (c : Inline) → IsWordOf (Counts c) seen → (b : Bool) → act_of w.shape v (Exchange at seen new) drop found ≡ Some (acts.Drop held.hand b) → Swapped (ends_with b)
          go c word_is true act = last_one same c word_is act
          go c word_is false act = more swapping f (Exchange at seen new) found v' told ((λ e. cc), tt) tt swap_works act

      abbrev answer : Bool → DownAnswer
      answer b = cond b (down_end_at None held.kind seen) (downs.Again (record { seen = seen; found = found }))

      swap_comes : Swapped (answer (found == seen))
      swap_comes = dite (ℕ_discrete found seen) (λ e. subst (λ b. Swapped (answer b)) (sym (eq-eqb found seen e)) (hit e)) (λ ne. subst (λ b. Swapped (answer b)) (sym (ne_eqb found seen ne)) (missed ne))

-- ---- by where the attempt is

pub drops_allowed : (w : Work) (t : Thread) (v : View) (held : Held) (plan : Fall) (step : Step) (intent : Intent) → Facts w t v (doings.Dropping held plan) → t.asked ≡ moves.Step step intent → Admits w.shape v step intent
drops_allowed w t v held plan step intent f asked =
    attempt_asked t.asked (number (extent_of w.shape) (Count held.place)) (intents.Drop held.hand) (λ a x. Facts w t v (dropping w held a) → Admits w.shape v x.0 x.1) step intent asked
    (λ g. load_allowed w t v held g) (λ seen new g. swap_allowed w t v held seen new g) plan.at f.asks.1
    (subst (λ (p : Fall). Facts w t v (doings.Dropping held p)) f.asks.0 f)

pub drops_come : (w : Work) (t : Thread) (v : View) (held : Held) (plan : Fall) (step : Step) (intent : Intent) (found : ℕ) (v' : View) → Facts w t v (doings.Dropping held plan) → t.asked ≡ moves.Step step intent → IsServedWord w.shape step intent found
    → (told : Told w.shape intent step v found v') → Comes w t v step intent found v' (told.between ++ v.seen) (doings.Dropping held plan) (turned_at (Some found) (doings.Dropping held plan) (quiet t))
drops_come w t v held plan step intent found v' f asked =
    subst (λ (p : Fall). IsServedWord w.shape step intent found → (told : Told w.shape intent step v found v') → Comes w t v step intent found v' (told.between ++ v.seen) (doings.Dropping held p) (turned_at (Some found) (doings.Dropping held p) (quiet t))) (sym f.asks.0)
    (attempt_asked t.asked (number (extent_of w.shape) (Count held.place)) (intents.Drop held.hand) Case step intent asked (λ g served told. load_comes w t v held g found v' told served)
    (λ seen new g served. swap_comes w t v held seen new g found v') plan.at f.asks.1 (subst (λ (p : Fall). Facts w t v (doings.Dropping held p)) f.asks.0 f))
  where
    Case : AttemptAt → Step × Intent → Type 0
    Case a x = Facts w t v (dropping w held a) → IsServedWord w.shape x.0 x.1 found
        → (told : Told w.shape x.1 x.0 v found v') → Comes w t v x.0 x.1 found v' (told.between ++ v.seen) (dropping w held a) (turned_at (Some found) (dropping w held a) (quiet t))
