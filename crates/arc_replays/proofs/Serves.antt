-- The word that a step finds is served, and the event that it has is one of the operations that are served.
use Rattle.std.proofs.Common.{◌≡◌, inl, inr, ℕ, suc, ◌+◌, ◌≤◌, ◌<◌, ◌/◌, ◌==◌, Bool, true, false, cond, List, [], ◌∷◌, ◌++◌, length, Option, Some, None, refl, sym, ap, ◌∙◌, subst, arith}
use Rattle.std.specs.Prelude.{slice_get, bit_and}
use Rattle.std.proofs.lemmas.Option.{slice_get_within, get_or_from_slice_get}
use Rattle.arc_bits.specs.Words.{unpacked}
use Rattle.arc_model.specs.declared.event.Act.{Act}
use Rattle.arc_model.specs.declared.event.Act.TheVariants as acts
use Rattle.arc_model.specs.declared.event.ObjectName.{ObjectName}
use Rattle.arc_model.specs.declared.event.CellName.{CellName}
use Rattle.arc_model.specs.declared.event.CellName.TheVariants as cells
use Rattle.arc_model.specs.declared.event.Origin.{Origin}
use Rattle.arc_model.specs.declared.event.Origin.TheVariants as origins
use Rattle.arc_model.specs.declared.event.Got.TheVariants as gots
use Rattle.arc_model.specs.declared.shape.Kind.{Kind}
use Rattle.arc_model.specs.declared.shape.Kind.TheVariants.{Strong, Unowned, Weak}
use Rattle.arc_model.specs.Shapes.{HeapShape, class_at}
use Rattle.arc_model.specs.Heaps.{Hand, Duty, Vacating, Object}
use Rattle.arc_model.specs.References.{field_count}
use Rattle.arc_model.specs.History.{History, heap_after, next_hand, share, IsLegal}
use Rattle.arc_model.specs.Lookup.{spot}
use Rattle.arc_model.proofs.Courses.{well_formed}
use Rattle.arc_rule.specs.Extents.{Extent}
use Rattle.arc_rule.specs.Places.{IsPlace, extent_of, number, place_at}
use Rattle.arc_rule.specs.Shown.{Says, ShowsCounts, word_at}
use Rattle.arc_rule.specs.Steps.{found_by}
use Rattle.arc_rule.specs.declared.layout.Place.{Place}
use Rattle.arc_rule.specs.declared.layout.Place.TheVariants as places
use Rattle.arc_rule.specs.declared.layout.Place.TheVariants.{Count, Isa, Next, SlotBits}
use Rattle.arc_rule.specs.declared.step.Step.{Step}
use Rattle.arc_rule.specs.declared.step.Step.TheVariants.{Load, Exchange, Store, And}
use Rattle.arc_rule.specs.declared.step.Intent.{Intent}
use Rattle.arc_rule.specs.declared.step.Intent.TheVariants as intents
use Rattle.arc_rule.proofs.Places.{place_at-number}
use Rattle.arc_plan.specs.Slots.{looking, taking, counting, naming}
use Rattle.arc_rule.specs.Bits.{words_of, bit_of, but_bit_of}
use Rattle.arc_rule.specs.declared.attempt.At.{At as AttemptAt}
use Rattle.arc_rule.specs.declared.attempt.At.TheVariants as attempt
use Rattle.arc_plan.specs.declared.slots.Making.{Making as Search}
use Rattle.arc_plan.specs.declared.slots.Making.TheVariants as search
use Rattle.arc_plan.specs.declared.slots.Once.{Once}
use Rattle.arc_plan.specs.declared.slots.Once.TheVariants as once
use Rattle.arc_cells.specs.declared.cascade.At.{At as CascadeAt}
use Rattle.arc_cells.specs.declared.cascade.At.TheVariants as ats
use Rattle.arc_cells.specs.declared.ref_drop.At.{At as DropAt}
use Rattle.arc_cells.specs.declared.ref_drop.At.TheVariants as drops
use Rattle.arc_cells.specs.Drops.{Dropping as Drop}
use Rattle.arc_cells.specs.Chains.{Frame, next_word_of, parent_of}
use Rattle.arc_ops.specs.Takes.{IsInline}
use Rattle.arc_side.specs.Inline.{IsCountedInline}
use Rattle.arc_script.specs.declared.script.Op.{Op}
use Rattle.arc_script.specs.declared.script.Op.TheVariants as op
use Rattle.arc_served.specs.Programs.{ClassFits}
use Rattle.arc_ops.specs.declared.stepper.Held.{Held}
use Rattle.arc_ops.specs.declared.stepper.Doing.{Doing}
use Rattle.arc_ops.specs.declared.stepper.Doing.TheVariants as doings
use Rattle.arc_ops.specs.declared.stepper.Move.{Move}
use Rattle.arc_ops.specs.declared.stepper.Move.TheVariants as moves
use Rattle.arc_ops.specs.declared.gain.Gain.{Gain}
use Rattle.arc_ops.specs.declared.gain.Gain.TheVariants as gains
use Rattle.arc_ops.specs.declared.gain.Source.{Source}
use Rattle.arc_ops.specs.Cells.{place_in, cell_number, hand_in}
use Rattle.arc_ops.specs.Thread.{Thread, value}
use Rattle.arc_ops.specs.Plans.{hand_of, intent_of}
use Rattle.arc_ops.specs.Steppers.{IsStepper, IsReached, IsMakingIn}
use Rattle.arc_spelled.specs.StepperStands.{Work, IsServedWork, MakesUpTo, GainsUpTo}
use Rattle.arc_view.specs.declared.view.Role.TheVariants.{Pass}
use Rattle.arc_view.specs.declared.view.View.{View}
use Rattle.arc_view.specs.declared.view.Working.{Working}
use Rattle.arc_view.specs.Admission.{KnowsSlot, KeepsObject, Admits}
use Rattle.arc_view.specs.Holding.{At, IsSource}
use Rattle.arc_view.proofs.Bridge.{unsettled}
use Rattle.arc_view.proofs.Known.{AccessStays, cell_held, refers_still}
use mathlib.Core.Option.{some}
use lib.ListN.{get_elem?}
use Rattle.arc_view.specs.Kinds.{act_of, first_of, is_forever, is_fruitless, shows_end, kind_at, load_shown, loaded_act, hit_act, or_act, and_act, stored_act, when}
use Rattle.arc_view.specs.Rule.{InShape, IsKept, IsWithin, CellStays, Fits}
use Rattle.arc_view.proofs.Held.{Held as HeldLater, held_stays}
use Rattle.arc_view.proofs.Lists.{others_came}
use Rattle.arc_view.proofs.Owed.{OwedLater, owed_stays}
use Rattle.arc_view.proofs.Strongs.{slot_found}
use Rattle.arc_view.proofs.Within.{each_at}
use Rattle.arc_ops_passes.specs.References.{is_ref, dropped_in_flight, taken_in_flight, Leads, LeadsFrom}
use Rattle.arc_ops_passes.specs.Drives.{SearchAsks, AttemptAsks, CountAsks, OnceAsks, GainsFrom, VacateAsks, NameAsks, DropAsks, CascadeAsks, OwesOne, Due, IsDue, OwesAll, dying_due, vacating_due, dropped_dues, dues_at, waits, Drives}
use Rattle.arc_ops_passes.specs.Laws.{IsBelowCaps, IsServedWord}
use Rattle.arc_ops_passes.proofs.Goes.{Facts, facts, known, asked_is}
use Rattle.arc_ops_passes.proofs.Laws.{steps_are_allowed}
use Rattle.arc_ops_passes.proofs.Sources.{gains_owes}
use Rattle.arc_ops_passes.proofs.Owned.{ref-itself}
use Rattle.arc_ops_passes.proofs.Walks.{vars-least}
use Rattle.arc_replays.specs.Named.{IsThere, OriginFits, EventFits}
use Rattle.arc_replays.specs.Replaying.{table}
use Rattle.arc_replays.proofs.Bare.{IsBareHeap, bare_at}
use Rattle.arc_replays.proofs.Words.{below_inline, bare_word}

-- ---- the events

when_full : (shape : HeapShape) (b : Bool) → EventFits shape (when b acts.Full)
when_full shape true = tt
when_full shape false = tt

-- a word that tells of an immortal object, and one that doesn't
told_first : (shape : HeapShape) (b : Bool) (a : Act) (more : Option Act) → EventFits shape (Some a) → EventFits shape more → EventFits shape (first_of b a more)
told_first shape true a more fits others = fits
told_first shape false a more fits others = others

told_when : (shape : HeapShape) (b : Bool) (a : Act) → EventFits shape (Some a) → EventFits shape (when b a)
told_when shape true a fits = fits
told_when shape false a fits = tt

exchanged : (shape : HeapShape) (b : Bool) (hit missed : Option Act) → EventFits shape hit → EventFits shape missed → EventFits shape (cond b hit missed)
exchanged shape true hit missed a b = a
exchanged shape false hit missed a b = b

-- ---- the words

counted≢weak : (kind : Kind) → IsCountedInline kind → kind ≡ Weak → ⊥
counted≢weak Strong counted e = cc
counted≢weak Unowned counted e = cc
counted≢weak Weak counted e = absurd counted

module _ (w : Work) (words : List ℕ) (views : List View) (k : IsKept w.shape (table words views)) (i : ℕ) (v : View) (there : get_elem? views i ≡ some v) (pass : v.role ≡ Pass) (n : ℕ) (bare : IsBareHeap n (heap_after k.log)) (few : n < w.shape.caps.strong) (few_unowned : suc n < w.shape.caps.unowned) where
  abbrev fit : Fits w.shape k.log k.splits k.taken v
  fit = k.fits i v there

  abbrev rest : History
  rest = fit.begins.0

  others : share rest v.number ≡ []
  others = others_came v.number k.log v.seen rest fit.begins.1 (fit.own pass)

  abbrev now : History
  now = rest ++ v.seen

  legal : IsLegal w.shape now
  legal = subst (IsLegal w.shape) fit.begins.1 k.legal

  in_shape : InShape w.shape now
  in_shape = subst (InShape w.shape) fit.begins.1 k.in_shape

  bare_now : IsBareHeap n (heap_after now)
  bare_now = subst (λ (h : History). IsBareHeap n (heap_after h)) fit.begins.1 bare

  -- the inline word of an object that the pass keeps
  says : (s : ℕ) → s < w.shape.slots → v.working.owes ≡ None → KnowsSlot v s → Says w.shape (heap_after now) (Count s) (word_at w.shape words (Count s))
  says s lt free known =
      subst (λ (h : History). Says w.shape (heap_after h) (Count s) (word_at w.shape words (Count s))) fit.begins.1 (k.words.says (Count s) lt (λ x. unsettled w.shape (table words views) k i v there pass free (Count s) (inl known) x))

  -- of an object in a slot
  word_of : (s j : ℕ) (q : Object) → At (heap_after now) j q → q.slot ≡ Some s → Says w.shape (heap_after now) (Count s) (word_at w.shape words (Count s)) → IsBelowCaps w.shape.caps (unpacked (word_at w.shape words (Count s)))
  word_of s j q here slot word_says =
      bare_word w.shape n (word_at w.shape words (Count s)) q k.sized ((well_formed w.shape now legal).whole j q here) (bare_at n (heap_after now).objects j q bare_now.objects here) few few_unowned
      (subst (λ m. ShowsCounts w.shape m (word_at w.shape words (Count s))) (slot_found w.shape now j s q legal here slot) word_says)

  -- of an object to which the pass has a reference
  led_word : (held : Held) → held.place < w.shape.slots → v.working.owes ≡ None → Leads v held → IsBelowCaps w.shape.caps (unpacked (word_at w.shape words (Count held.place)))
  led_word held lt free (counted, j, o, hand, here, slot) =
      let later : HeldLater held.kind j o (heap_after now) = held_stays w.shape v.number held.hand j held.kind o v.seen rest legal others hand here in
      word_of held.place j later.q later.here (later.slot (counted≢weak held.kind counted) ∙ slot) (says held.place lt free (j, o, here, slot, inl (held.hand, held.kind, hand, counted≢weak held.kind counted)))

  -- of an object to which a variable's reference leads, or that in a cell which the pass accesses
  sourced_word : (from : Source) → from.place < w.shape.slots → v.working.owes ≡ None → LeadsFrom v from → IsBelowCaps w.shape.caps (unpacked (word_at w.shape words (Count from.place)))
  sourced_word from lt free (counted, j, o, source, here, slot) =
      let later : HeldLater from.kind j o (heap_after now) = later_of from.origin source in
      word_of from.place j later.q later.here (later.slot (counted≢weak from.kind counted) ∙ slot) (says from.place lt free (j, o, here, slot, keeps from.origin source))
    where
      stays : AccessStays now v
      stays a e = subst (λ (h : History). CellStays h v.seen a.cell) fit.begins.1 ((k.lying i v there).access a e).stays

      later_of : (from_o : Origin) → IsSource v from_o from.kind j → HeldLater from.kind j o (heap_after now)
      later_of (origins.Hand hand) source = held_stays w.shape v.number hand j from.kind o v.seen rest legal others source.0 here
      later_of (origins.Cell cell) source = cell_held w.shape cell j from.kind o v.seen rest legal here (refers_still now v cell j from.kind stays source)

      keeps : (from_o : Origin) → IsSource v from_o from.kind j → KeepsObject v j
      keeps (origins.Hand hand) source = inl (hand, from.kind, source.0, counted≢weak from.kind counted)
      keeps (origins.Cell cell) source = inr (inr (cell, from.kind, source, counted≢weak from.kind counted))

  -- of an object to which it owes something
  owed_word : (q : Due) → q.slot < w.shape.slots → v.working.owes ≡ None → IsDue w.shape v q → IsInline (unpacked (word_at w.shape words (Count q.slot)))
  owed_word q lt free o =
      let later : OwedLater o.place o.object now = owed_stays w.shape v.number o.place q.duty o.object v.seen rest legal others o.here o.owes in
      below_inline w.shape.caps _ (word_of q.slot o.place later.q later.here (later.slot ∙ o.slot) (says q.slot lt free (o.place, o.object, o.here, o.slot, inr (inl (q.duty, o.owes)))))

  -- ---- the step that the stepper asks for

  module _ (t : Thread) (step : Step) (intent : Intent) (asked : t.asked ≡ moves.Step step intent) where
    abbrev classes : ℕ
    classes = length w.shape.classes

    pub record Serves (st : Step) (it : Intent) : Type 0 where
      pub word : IsServedWord w.shape st it (found_by st words)
      pub event : EventFits w.shape (act_of w.shape v st it (found_by st words))

    as_asked : (st : Step) (it : Intent) → t.asked ≡ moves.Step st it → Serves st it → Serves step intent
    as_asked st it is s = let same = asked_is t.asked st step it intent is asked in subst (λ (x : Step × Intent). Serves x.0 x.1) (λ j. (same.0 j, same.1 j)) s

    no_step : (m : Move) → t.asked ≡ m → (moves.Step step intent ≡ m → ⊥) → Serves step intent
    no_step m is ne = absurd (ne (sym asked ∙ is))

    class_fits : IsStepper t → t.shape ≡ w.shape → t.program ≡ w.program → (to class j : ℕ) → slice_get w.program j ≡ Some (op.New to class) → class < length w.shape.classes
    class_fits stepper shape program to class j there =
        let at : slice_get t.program j ≡ Some (op.New to class) = ap (λ (ops : List Op). slice_get ops j) program ∙ there in
        let fits : ClassFits (length t.shape.classes) (op.New to class) = subst (ClassFits (length t.shape.classes)) (get_or_from_slice_get t.program j (op.New to class) (op.New to class) at) (stepper.classes_fit j (op.New to class) (slice_get_within t.program j (op.New to class) at)) in
        subst (λ (x : HeapShape). class < length x.classes) shape fits.0

    making : (name : ObjectName) (a : Search) → IsMakingIn (extent_of w.shape) a → SearchAsks w.shape t.asked name a → ((s seen : ℕ) → a ≡ search.Taking s seen → name.class < length w.shape.classes) → Serves step intent
    making name search.Start inside x fits = absurd x
    making name (search.Looking j) inside x fits = as_asked (looking (extent_of w.shape) j) (intents.New name.class) x (record {
      word = tt;
      event = subst (EventFits w.shape) (sym (ap (λ (q : Place). loaded_act w.shape v q (word_at w.shape words (SlotBits j)) (intents.New name.class)) (place_at-number (extent_of w.shape) (SlotBits j) inside)))
          (when_full w.shape (is_fruitless (λ m. number (extent_of w.shape) (SlotBits m)) w.shape.slots v j (word_at w.shape words (SlotBits j))));
    })
    making name (search.Taking s seen) inside x fits =
        let word_in : s / 64 < words_of w.shape.slots = let b = inside.below in omega arith in
        as_asked (taking (extent_of w.shape) s) (intents.New name.class) x (record {
          word = tt;
          event = exchanged w.shape (bit_and (word_at w.shape words (SlotBits (s / 64))) (bit_of s) == 0) _ _
              (subst (EventFits w.shape) (sym (ap (λ (q : Place). or_act v q (bit_of s) (intents.New name.class)) (place_at-number (extent_of w.shape) (SlotBits (s / 64)) word_in))) (fits s seen refl)) tt;
        })
    making name (search.Counting s) inside x fits = as_asked (counting (extent_of w.shape) (class_at w.shape name.class).immortal s) (intents.New name.class) x (record {
      word = tt;
      event = subst (EventFits w.shape) (sym (ap (λ (q : Place). stored_act v q (intents.New name.class)) (place_at-number (extent_of w.shape) (Count s) inside))) tt;
    })
    making name (search.Naming s) inside x fits = as_asked (naming (extent_of w.shape) name s) (intents.New name.class) x (record {
      word = tt;
      event = subst (EventFits w.shape) (sym (ap (λ (q : Place). stored_act v q (intents.New name.class)) (place_at-number (extent_of w.shape) (Isa s) inside))) tt;
    })
    making name search.Ended inside x fits = absurd x

    -- what a load of the inline word shows where a strong reference is loaded of this kind
    load_fits : (kind : Kind) (o : Option Object) (s found of next : ℕ) → EventFits w.shape (load_shown w.shape kind o (Count s) found of next)
    load_fits Strong o s found of next = tt
    load_fits Unowned o s found of next =
        told_first w.shape (is_forever Strong o (Count s) found) (acts.Load of (gots.Hand next)) (first_of (shows_end o (Count s) found) (acts.Load of gots.Dead) None) tt
        (told_first w.shape (shows_end o (Count s) found) (acts.Load of gots.Dead) None tt tt)
    load_fits Weak o s found of next = told_first w.shape (shows_end o (Count s) found) (acts.Load of gots.Nil) None tt tt

    gain_shows : (gain : Gain) (from : Source) (s found : ℕ) → OriginFits w.shape from.origin → EventFits w.shape (loaded_act w.shape v (Count s) found (intent_of gain from))
    gain_shows gains.Copy from s found there = told_first w.shape _ (acts.Copy from.origin (next_hand v.number v.seen)) None there tt
    gain_shows gains.Unown from s found there = told_first w.shape _ (acts.UnownedOf (hand_of from.origin) (next_hand v.number v.seen)) None tt tt
    gain_shows gains.Load from s found there = load_fits (kind_at (spot (Hand v.number (hand_of from.origin)) (heap_after v.seen))) _ s found (hand_of from.origin) (next_hand v.number v.seen)

    gain_word : (gain : Gain) (from : Source) (s found : ℕ) → IsBelowCaps w.shape.caps (unpacked found) → IsServedWord w.shape (Load s) (intent_of gain from) found
    gain_word gains.Copy from s found below = below
    gain_word gains.Unown from s found below = below
    gain_word gains.Load from s found below = below

    gain_made : (gain : Gain) (from : Source) (pl : Place) (seen new : ℕ) → OriginFits w.shape from.origin → EventFits w.shape (hit_act v pl seen new (intent_of gain from))
    gain_made gains.Copy from pl seen new there = there
    gain_made gains.Unown from pl seen new there = tt
    gain_made gains.Load from pl seen new there = tt

    exchange_word : (gain : Gain) (from : Source) (s seen new found : ℕ) → IsServedWord w.shape (Exchange s seen new) (intent_of gain from) found
    exchange_word gains.Copy from s seen new found = tt
    exchange_word gains.Unown from s seen new found = tt
    exchange_word gains.Load from s seen new found = tt

    gaining : (gain : Gain) (from : Source) (a : AttemptAt) → from.place < w.shape.slots → v.working.owes ≡ None → LeadsFrom v from → OriginFits w.shape from.origin → CountAsks w.shape t.asked from.place (intent_of gain from) a → Serves step intent
    gaining gain from attempt.Start lt free leads there x = absurd x
    gaining gain from attempt.Loading lt free leads there x = as_asked (Load (number (extent_of w.shape) (Count from.place))) (intent_of gain from) x (record {
      word = gain_word gain from (number (extent_of w.shape) (Count from.place)) (word_at w.shape words (Count from.place)) (sourced_word from lt free leads);
      event = subst (EventFits w.shape) (sym (ap (λ (q : Place). loaded_act w.shape v q (word_at w.shape words (Count from.place)) (intent_of gain from)) (place_at-number (extent_of w.shape) (Count from.place) lt)))
          (gain_shows gain from from.place (word_at w.shape words (Count from.place)) there);
    })
    gaining gain from (attempt.Exchanging seen new) lt free leads there x = as_asked (Exchange (number (extent_of w.shape) (Count from.place)) seen new) (intent_of gain from) x (record {
      word = exchange_word gain from (number (extent_of w.shape) (Count from.place)) seen new (word_at w.shape words (Count from.place));
      event = exchanged w.shape (word_at w.shape words (Count from.place) == seen) _ _ (gain_made gain from _ seen new there) tt;
    })
    gaining gain from attempt.Ended lt free leads there x = absurd x

    reading : (s : ℕ) (a : Once) → NameAsks w.shape t.asked s a → Serves step intent
    reading s once.Start x = absurd x
    reading s once.Asked x = as_asked (Load (number (extent_of w.shape) (Isa s))) intents.Look x (record { word = tt; event = tt })
    reading s once.Ended x = absurd x

    -- ---- cells

    looked : (b : Bool) (c : CellName) → IsThere w.shape c → EventFits w.shape (when b (acts.Look c))
    looked true c there = there
    looked false c there = tt

    -- what a step on a cell shows, wherever it is
    look_shows : (pl : Place) (found : ℕ) (c : CellName) → IsThere w.shape c → EventFits w.shape (loaded_act w.shape v pl found (intents.Access c))
    look_shows places.Zero found c there = looked _ c there
    look_shows (places.Global g) found c there = looked _ c there
    look_shows (Count s) found c there = looked _ c there
    look_shows (Isa s) found c there = looked _ c there
    look_shows (Next s) found c there = looked _ c there
    look_shows (places.Field s f) found c there = looked _ c there
    look_shows (places.Link e) found c there = looked _ c there
    look_shows (places.Strong e) found c there = looked _ c there
    look_shows (places.Unowned e) found c there = looked _ c there
    look_shows (places.Weak e) found c there = looked _ c there
    look_shows (SlotBits j) found c there = looked _ c there
    look_shows (places.EntryBits j) found c there = looked _ c there

    swap_shows : (pl : Place) (found : ℕ) (c : CellName) (out : Option ℕ) → EventFits w.shape (loaded_act w.shape v pl found (intents.Swap c out))
    swap_shows places.Zero found c out = tt
    swap_shows (places.Global g) found c out = tt
    swap_shows (Count s) found c out = tt
    swap_shows (Isa s) found c out = tt
    swap_shows (Next s) found c out = tt
    swap_shows (places.Field s f) found c out = tt
    swap_shows (places.Link e) found c out = tt
    swap_shows (places.Strong e) found c out = tt
    swap_shows (places.Unowned e) found c out = tt
    swap_shows (places.Weak e) found c out = tt
    swap_shows (SlotBits j) found c out = tt
    swap_shows (places.EntryBits j) found c out = tt

    store_shows : (pl : Place) (c : CellName) → EventFits w.shape (stored_act v pl (intents.Access c))
    store_shows places.Zero c = tt
    store_shows (places.Global g) c = tt
    store_shows (Count s) c = tt
    store_shows (Isa s) c = tt
    store_shows (Next s) c = tt
    store_shows (places.Field s f) c = tt
    store_shows (places.Link e) c = tt
    store_shows (places.Strong e) c = tt
    store_shows (places.Unowned e) c = tt
    store_shows (places.Weak e) c = tt
    store_shows (SlotBits j) c = tt
    store_shows (places.EntryBits j) c = tt

    opening : (c : CellName) → IsThere w.shape c → (place : ℕ) (a : AttemptAt) → AttemptAsks t.asked place (intents.Access c) a → Serves step intent
    opening c there place attempt.Start x = absurd x
    opening c there place attempt.Loading x = as_asked (Load place) (intents.Access c) x (record { word = tt; event = look_shows (place_at (extent_of w.shape) place) (found_by (Load place) words) c there })
    opening c there place (attempt.Exchanging seen new) x = as_asked (Exchange place seen new) (intents.Access c) x (record {
      word = tt;
      event = exchanged w.shape (found_by (Exchange place seen new) words == seen) _ _ tt tt;
    })
    opening c there place attempt.Ended x = absurd x

    closing : (c : CellName) (place value : ℕ) (a : Once) → OnceAsks t.asked (Store place value) (intents.Access c) a → Serves step intent
    closing c place value once.Start x = absurd x
    closing c place value once.Asked x = as_asked (Store place value) (intents.Access c) x (record { word = tt; event = store_shows (place_at (extent_of w.shape) place) c })
    closing c place value once.Ended x = absurd x

    swapping : (c : CellName) → IsThere w.shape c → (out : Option ℕ) (place : ℕ) (a : AttemptAt) → AttemptAsks t.asked place (intents.Swap c out) a → Serves step intent
    swapping c there out place attempt.Start x = absurd x
    swapping c there out place attempt.Loading x = as_asked (Load place) (intents.Swap c out) x (record { word = tt; event = swap_shows (place_at (extent_of w.shape) place) (found_by (Load place) words) c out })
    swapping c there out place (attempt.Exchanging seen new) x = as_asked (Exchange place seen new) (intents.Swap c out) x (record {
      word = tt;
      event = exchanged w.shape (found_by (Exchange place seen new) words == seen) _ _ there tt;
    })
    swapping c there out place attempt.Ended x = absurd x

    dropping : (held : Held) (a : AttemptAt) → held.place < w.shape.slots → v.working.owes ≡ None → Leads v held → CountAsks w.shape t.asked held.place (intents.Drop held.hand) a → Serves step intent
    dropping held attempt.Start lt free leads x = absurd x
    dropping held attempt.Loading lt free leads x = as_asked (Load (number (extent_of w.shape) (Count held.place))) (intents.Drop held.hand) x (record {
      word = below_inline w.shape.caps _ (led_word held lt free leads);
      event = subst (EventFits w.shape) (sym (ap (λ (q : Place). loaded_act w.shape v q (word_at w.shape words (Count held.place)) (intents.Drop held.hand)) (place_at-number (extent_of w.shape) (Count held.place) lt)))
          (told_when w.shape _ (acts.Drop held.hand false) tt);
    })
    dropping held (attempt.Exchanging seen new) lt free leads x = as_asked (Exchange (number (extent_of w.shape) (Count held.place)) seen new) (intents.Drop held.hand) x (record {
      word = tt;
      event = exchanged w.shape (word_at w.shape words (Count held.place) == seen) _ _ tt tt;
    })
    dropping held attempt.Ended lt free leads x = absurd x

    finishing : (s : ℕ) (a : AttemptAt) → IsInline (unpacked (word_at w.shape words (Count s))) → CountAsks w.shape t.asked s (intents.Deinit s) a → Serves step intent
    finishing s attempt.Start inline x = absurd x
    finishing s attempt.Loading inline x = as_asked (Load (number (extent_of w.shape) (Count s))) (intents.Deinit s) x (record { word = λ _. inline; event = tt })
    finishing s (attempt.Exchanging seen new) inline x = as_asked (Exchange (number (extent_of w.shape) (Count s)) seen new) (intents.Deinit s) x (record {
      word = tt;
      event = exchanged w.shape (word_at w.shape words (Count s) == seen) _ _ tt tt;
    })
    finishing s attempt.Ended inline x = absurd x

    vacating : (s : ℕ) (a : Once) → s < w.shape.slots → VacateAsks w.shape t.asked s a → Serves step intent
    vacating s once.Start lt x = absurd x
    vacating s once.Asked lt x =
        let word_in : s / 64 < words_of w.shape.slots = omega (arith, lt) in
        as_asked (And (number (extent_of w.shape) (SlotBits (s / 64))) (but_bit_of s)) intents.Vacate x (record {
          word = tt;
          event = subst (EventFits w.shape) (sym (ap (λ (q : Place). and_act q (but_bit_of s) intents.Vacate) (place_at-number (extent_of w.shape) (SlotBits (s / 64)) word_in))) tt;
        })
    vacating s once.Ended lt x = absurd x

    -- ---- an object dies

    -- an object that the pass owes something is in a slot of the shape, and so is one to which it has a reference
    owed_within : (s : ℕ) (d : Duty) → InShape w.shape v.seen → OwesOne v d s → s < w.shape.slots
    owed_within s d within o = (each_at (IsWithin w.shape) (heap_after v.seen).objects o.place o.object within.within o.here).0 s o.slot

    due_within : (q : Due) → InShape w.shape v.seen → IsDue w.shape v q → q.slot < w.shape.slots
    due_within q within o = (each_at (IsWithin w.shape) (heap_after v.seen).objects o.place o.object within.within o.here).0 q.slot o.slot

    led_within : (held : Held) → InShape w.shape v.seen → Leads v held → held.place < w.shape.slots
    led_within held within (counted, j, o, hand, here, slot) = (each_at (IsWithin w.shape) (heap_after v.seen).objects j o within.within here).0 held.place slot

    -- a load of another word of the slot
    looking_at : (s place : ℕ) → (place ≡ number (extent_of w.shape) (Count s) → ⊥) → t.asked ≡ moves.Step (Load place) (intents.Deinit s) → Serves step intent
    looking_at s place apart x = as_asked (Load place) (intents.Deinit s) x (record { word = λ e. absurd (apart e); event = tt })

    -- what is stored in a field takes out of it
    store_fits : (s : ℕ) (pl : Place) → IsPlace (extent_of w.shape) pl → s < w.shape.slots → EventFits w.shape (stored_act v pl (intents.Deinit s))
    store_fits s (places.Field owner field) inside lt = (lt, inside.1)
    store_fits s pl inside lt = tt

    storing : (s place new : ℕ) → s < w.shape.slots → Admits w.shape v step intent → t.asked ≡ moves.Step (Store place new) (intents.Deinit s) → Serves step intent
    storing s place new lt may x =
        let same = asked_is t.asked (Store place new) step (intents.Deinit s) intent x asked in
        let its : Admits w.shape v (Store place new) (intents.Deinit s) = subst (λ (y : Step × Intent). Admits w.shape v y.0 y.1) (λ j. (sym same.0 j, sym same.1 j)) may in
        let back : place_at (extent_of w.shape) place ≡ its.0 = ap (place_at (extent_of w.shape)) its.1 ∙ place_at-number (extent_of w.shape) its.0 its.2 in
        as_asked (Store place new) (intents.Deinit s) x (record { word = tt; event = subst (λ (q : Place). EventFits w.shape (stored_act v q (intents.Deinit s))) (sym back) (store_fits s its.0 its.2 lt) })

    -- what was taken out of a field is dropped
    falling : (d : Drop) (b : DropAt) (ds : List Due) → InShape w.shape v.seen → v.working.owes ≡ None → ((held : Held) → 1 ≤ dropped_in_flight (is_ref held) d b → Leads v held) → OwesAll w.shape v (dropped_dues d.place b ds) → DropAsks w.shape t.asked d b → Serves step intent
    falling d (drops.Counting p) ds within free leads owes x =
        let held : Held = record { hand = d.hand; kind = d.kind; place = d.place } in
        let led : Leads v held = leads held (let one = ref-itself held in omega (arith, one)) in
        dropping held p.at (led_within held within led) free led x.1
    falling d (drops.Ending p) ds within free leads owes x = vacating d.place once.Asked (due_within (vacating_due d.place) within owes.just.0) x.1
    falling d b ds within free leads owes x = absurd x

    dying : (fs : List Frame) (name : ObjectName) (s : ℕ) (a : CascadeAt) → InShape w.shape v.seen → v.working.owes ≡ None → ((held : Held) → 1 ≤ taken_in_flight (is_ref held) a → Leads v held) → OwesAll w.shape v (dues_at w.shape name fs s a) → Admits w.shape v step intent
        → CascadeAsks w.shape t.asked fs s a → Serves step intent
    dying fs name s ats.Entering within free leads owes may x = storing s (number (extent_of w.shape) (Next s)) (next_word_of (parent_of fs)) (due_within (dying_due s None 0) within owes.just.0) may x
    dying fs name s ats.Naming within free leads owes may x = looking_at s (number (extent_of w.shape) (Isa s)) (λ e. omega (arith, e)) x
    dying fs name s (ats.Looking n field) within free leads owes may x = looking_at s (number (extent_of w.shape) (places.Field s field)) (λ e. omega (arith, e)) x
    dying fs name s (ats.Taking n field place) within free leads owes may x = storing s (number (extent_of w.shape) (places.Field s field)) 0 (due_within (dying_due s (Some n) field) within owes.just.0) may x
    dying fs name s (ats.Dropping n field d) within free leads owes may x = falling d d.at (dying_due s (Some n) (suc field) ∷ waits fs) within free leads owes x.1
    dying fs name s ats.Leaving within free leads owes may x = looking_at s (number (extent_of w.shape) (Next s)) (λ e. omega (arith, e)) x
    dying fs name s (ats.Finishing parent p) within free leads owes may x =
        let q : Due = dying_due s (Some name) (field_count w.shape name) in finishing s p.at (owed_word q (due_within q within owes.just.0) free owes.just.0) x.2
    dying fs name s (ats.Ending parent p) within free leads owes may x = vacating s once.Asked (due_within (vacating_due s) within owes.just.0) x.2
    dying fs name s (ats.Resuming field) within free leads owes may x = looking_at s (number (extent_of w.shape) (Isa s)) (λ e. omega (arith, e)) x
    dying fs name s a within free leads owes may x = absurd x

    serves_at : (d : Doing) → Facts w t v d → Admits w.shape v step intent → Serves step intent
    serves_at doings.Ready f may = no_step moves.PhaseEnd f.asks (λ e. cc)
    serves_at (doings.Making to name plan) f may = making name plan.at (subst (λ (l : Extent). IsMakingIn l plan.at) f.is_for.0 f.fits.3) f.asks.1 (λ s seen is.
        let up : MakesUpTo (known v w) t.index to name t.vars f.notes (search.Taking s seen) = subst (λ (a : Search). MakesUpTo (known v w) t.index to name t.vars f.notes a) is f.up_to in
        class_fits f.stepper f.is_for.1 f.program to name.class t.index up.begun.there)
    serves_at (doings.Gaining gain to from plan) f may =
        let lt : from.place < w.shape.slots = subst (λ (e : Extent). from.place < e.slots) f.is_for.0 f.fits.1.place in
        gaining gain from plan.at lt (gains_owes v from from.origin f.under_way.0) (leads_from from.origin refl f.up_to f.under_way.0) (reached from.origin (subst (λ (e : Extent). IsReached e from.origin) f.is_for.0 f.fits.1.reached)) f.asks.1
      where
        leads_from : (o : Origin) → from.origin ≡ o → GainsUpTo (known v w) t.index gain to o from.kind from.place t.vars f.notes → GainsFrom v o from → LeadsFrom v from
        leads_from (origins.Hand hand) e up under =
            let held : Held = record { hand = hand; kind = from.kind; place = from.place } in
            let leads : Leads v held = f.owns.leads held (let least = vars-least (is_ref held) t.vars up.of held up.source in let one = ref-itself held in omega arith) in
            (leads.0, leads.1, leads.2, subst (λ (x : Origin). IsSource v x from.kind leads.1) (sym e) (leads.3, tt), leads.4, leads.5)
        leads_from (origins.Cell cell) e up under = under.source

        reached : (o : Origin) → IsReached (extent_of w.shape) o → OriginFits w.shape o
        reached (origins.Hand hand) there = tt
        reached (origins.Cell cell) there = there
    serves_at (doings.Naming to held plan) f may = reading held.place plan.at f.asks.1
    serves_at (doings.Opening to cell plan) f may = opening cell.name (subst (λ (e : Extent). IsPlace e (place_in cell.name)) f.is_for.0 f.fits.1.place) (cell_number (extent_of w.shape) cell.name) plan.at f.asks.1
    serves_at (doings.Closing to cell held plan) f may = closing cell (cell_number (extent_of w.shape) cell) (held.place + 2) plan.at f.asks.1
    serves_at (doings.Setting from cell plan) f may = swapping cell.name (subst (λ (e : Extent). IsPlace e (place_in cell.name)) f.is_for.0 f.fits.1.place) (hand_in (value t.vars from)) (cell_number (extent_of w.shape) cell.name) plan.at f.asks.1
    serves_at (doings.Clearing plan) f may = swapping (cells.Global t.cleared) (subst (λ (e : Extent). t.cleared < e.globals) f.is_for.0 f.in_op) None (cell_number (extent_of w.shape) (cells.Global t.cleared)) plan.at f.asks.1
    serves_at (doings.Dropping held plan) f may =
        let lt : held.place < w.shape.slots = subst (λ (e : Extent). held.place < e.slots) f.is_for.0 f.fits.place in
        let leads : Leads v held = f.owns.leads held (let one = ref-itself held in omega arith) in
        dropping held plan.at lt (ap (λ (x : Working). x.owes) f.under_way.0.working) leads f.asks.1
    serves_at (doings.Vacating slot plan) f may = vacating slot plan.at (owed_within slot Vacating f.in_shape f.under_way.1) f.asks.1
    serves_at (doings.Dying c) f may =
        let u = f.under_way in
        dying f.chain u.name c.slot c.at f.in_shape (ap (λ (x : Working). x.owes) u.working) (λ held le. f.owns.leads held (omega (arith, le))) u.owes may f.asks.1
    serves_at doings.Ended f may = no_step moves.Ended f.asks.0 (λ e. cc)

    pub serves : IsServedWork w → IsStepper t → Drives w t v → Serves step intent
    serves served stepper d = serves_at t.doing (facts w t v served stepper k.sized d) (steps_are_allowed w t v step intent served stepper k.sized d asked)
