-- A stepper that gains a reference by one that it has, or that is in a cell: it copies one, forms an unowned one of a strong one, or loads a strong
-- one by an unowned one.
use Rattle.std.proofs.Common.{◌≡◌, ◌≢◌, ◌⊎◌, inl, inr, ℕ, ◌+◌, ◌<◌, ◌≤◌, ◌==◌, ◌&&◌, Bool, true, false, cond, [], ◌∷◌, ◌++◌, length, Option, Some, None, refl, sym, ap, ◌∙◌, subst, arith, eq-eqb, ne_eqb}
use Rattle.std.specs.Prelude.{slice_get}
use mathlib.Core.Logic.{dite}
use native.Mathlib.Decide.{ℕ_discrete}
use Rattle.arc_bits.specs.declared.packing.Inline.{Inline}
use Rattle.arc_bits.specs.declared.packing.Word.{Word}
use Rattle.arc_bits.specs.declared.packing.Word.TheVariants.{Counts, Immortal}
use Rattle.arc_bits.specs.Words.{IsWordOf, counts_word, unpacked}
use Rattle.arc_bits.specs.Moves.{strong_more, unowned_more}
use Rattle.arc_model.specs.declared.answer.Answer.TheVariants as answers
use Rattle.arc_model.specs.declared.event.Act.{Act}
use Rattle.arc_model.specs.declared.event.Act.TheVariants as acts
use Rattle.arc_model.specs.declared.event.Got.TheVariants as gots
use Rattle.arc_model.specs.declared.event.CellName.{CellName}
use Rattle.arc_model.specs.declared.event.Event.{Event}
use Rattle.arc_model.specs.declared.event.Origin.{Origin}
use Rattle.arc_model.specs.declared.event.Origin.TheVariants as origins
use Rattle.arc_model.specs.Cells.{cell, origin}
use Rattle.arc_spelling.specs.Spelling.Note.{Refers}
use Rattle.arc_spelling.specs.SpellingTies.{Holds}
use Rattle.arc_model.specs.References.{reference_of}
use Rattle.arc_model.specs.declared.shape.Kind.{Kind}
use Rattle.arc_model.specs.declared.shape.Kind.TheVariants.{Strong, Unowned, Weak}
use Rattle.arc_model.specs.Shapes.{HeapShape}
use Rattle.arc_model.specs.Heaps.{Hand, Object, Heap}
use Rattle.arc_model.specs.Holders.{is_number, is_claimed_by}
use Rattle.arc_model.specs.History.{History, heap_after, next_hand, IsLegal}
use Rattle.arc_model.specs.Lookup.{Spot, spot, duty_of}
use Rattle.arc_model.specs.Own.{ends_hand, brings_hand, brought, in_list, owed_next, claimed_next}
use Rattle.arc_spelling.specs.SpellingTies.Causes.{Judged}
use Rattle.arc_model.proofs.Basics.{true≢false, None≢Some, Some-inj}
use Rattle.arc_rule.specs.Extents.{Extent}
use Rattle.arc_rule.specs.Places.{extent_of, number, place_at}
use Rattle.arc_rule.specs.Shown.{counts_in}
use Rattle.arc_rule.proofs.Places.{place_at-number}
use Rattle.arc_rule.specs.declared.layout.Place.{Place}
use Rattle.arc_rule.specs.declared.layout.Place.TheVariants.{Count, Isa}
use Rattle.arc_rule.specs.declared.step.Step.{Step}
use Rattle.arc_rule.specs.declared.step.Step.TheVariants.{Load, Exchange, Store}
use Rattle.arc_rule.specs.Steps.{place_of}
use Rattle.arc_rule.specs.declared.step.Intent.{Intent}
use Rattle.arc_rule.specs.declared.step.Intent.TheVariants as intents
use Rattle.arc_rule.specs.declared.plan.Next.{Next}
use Rattle.arc_rule.specs.declared.plan.Next.TheVariants as nexts
use Rattle.arc_rule.specs.declared.attempt.At.{At as AttemptAt}
use Rattle.arc_rule.specs.declared.attempt.At.TheVariants as attempt
use Rattle.arc_rule.specs.declared.attempt.Choice.{Choice}
use Rattle.arc_rule.specs.declared.attempt.Choice.TheVariants.{Tell, Write}
use Rattle.arc_rule.specs.Attempts.{exchanging, chosen, told_as, turned_by, answer_by}
use Rattle.arc_plan.specs.declared.slots.Once.TheVariants as once
use Rattle.arc_plan.specs.declared.strong.StrongUpAnswer.TheVariants as strongs
use Rattle.arc_plan.specs.declared.unowned.UnownedUpAnswer.TheVariants as unowneds
use Rattle.arc_plan.specs.Attempts.{IsCountWord}
use Rattle.arc_plan.specs.Strong.{strong_up_row}
use Rattle.arc_plan.specs.Unowned.{unowned_up_row}
use Rattle.arc_side.specs.declared.up.UpAnswer.{UpAnswer}
use Rattle.arc_side.specs.declared.up.UpAnswer.TheVariants as ups
use Rattle.arc_side.specs.Inline.{IsCountedInline, entry_named}
use Rattle.arc_side.specs.Ups.{Rise, of_strong_up, of_unowned_up, up_choice_at, up_in, up_moved, up_place}
use Rattle.arc_ops.specs.declared.gain.Gain.{Gain}
use Rattle.arc_ops.specs.declared.gain.Gain.TheVariants as gains
use Rattle.arc_ops.specs.declared.stepper.Held.{Held}
use Rattle.arc_ops.specs.declared.stepper.Doing.{Doing}
use Rattle.arc_ops.specs.declared.stepper.Doing.TheVariants as doings
use Rattle.arc_ops.specs.declared.stepper.Move.TheVariants as moves
use Rattle.arc_served.specs.Programs.{class_of}
use Rattle.arc_ops.specs.declared.gain.Source.{Source}
use Rattle.arc_ops.specs.Cells.{cell_number, close_begun}
use Rattle.arc_ops.specs.Thread.{Thread, put}
use Rattle.arc_ops.specs.Plans.{hand_of, list_of, intent_of, act_of as does, gain_begun, name_begun}
use Rattle.arc_ops.specs.Drops.{replaced}
use Rattle.arc_ops.specs.Gains.{came_by, has_gained, gained_on}
use Rattle.arc_ops.specs.Turns.{turned_at}
use Rattle.arc_ops.specs.Takes.{FindsDead, IsGainWord, gain_takes, takes_at}
use Rattle.arc_programs.specs.ProgramsTied.{hands_in}
use Rattle.arc_spelled.specs.Came.{CameOut, copied_out, came_out_at}
use Rattle.arc_spelled.specs.Spelled.{WordsHold}
use Rattle.arc_spelled.specs.StepperStands.{Work, GainsUpTo}
use Rattle.arc_view.specs.declared.view.Working.{Working}
use Rattle.arc_view.specs.declared.view.View.{View}
use Rattle.arc_view.specs.Views.{idle}
use Rattle.arc_view.specs.Holding.{HasHand, IsOpen, IsSource, is_counted_at, heap_of}
use Rattle.arc_view.specs.Kinds.{act_of, event_list, kind_at, object_at, is_strong, is_deiniting, is_forever, first_of, load_shown, loaded_act, hit_act, working_loaded, working_hit}
use Rattle.arc_view.specs.Admission.{Admits, IsUp, MayExchange, KeepsObject}
use Rattle.arc_view.specs.Admission as admission
use Rattle.arc_view.specs.Steps.{Told, Reads}
use Rattle.arc_view.specs.Calls.{Called}
use Rattle.arc_view.proofs.Held.{listed_busy, stays_after}
use Rattle.arc_view_laws.specs.Hands.{hand_after}
use Rattle.arc_view_laws.proofs.Hands.{told_hands}
use Rattle.arc_view_laws.proofs.Moving.{legal_tail}
use Rattle.arc_ops_passes.specs.References.{in_vars, references, LeadsTo, Owns}
use Rattle.arc_ops_passes.specs.Drives.{Asks, MayGoUp, OwesNothing, IsFree, accessing, GainsFrom, UnderWay, AreOfClasses, ComesOfClass}
use Rattle.arc_ops_passes.specs.Laws.{IsBelowCaps, IsServedWord}
use Rattle.arc_ops_passes.proofs.Fields.{AllHold, notes_at}
use Rattle.arc_ops_passes.proofs.Walks.{replaced_walks, new-some, new-none}
use Rattle.arc_ops_passes.proofs.Hands.{reference_at, known_new}
use Rattle.arc_ops_passes.proofs.Cells.{listed}
use Rattle.arc_ops_passes.proofs.Owned.{not_weak, leads_on, to_leads, owns_more}
use Rattle.arc_ops_passes.proofs.Counts.{CountsHeld, ShowsHeld, counts, slow, forever, shows_held, counted_in, counts_not_one}
use Rattle.arc_ops_passes.proofs.Sources.{HasSource, MetSource, IsGainOf, own_origin, gain_is_of, has_source, met_source, gains_owes, gains_none, gains_still}
use Rattle.arc_ops_passes.proofs.Goes.{quiet, known, Facts, Comes, KnowsOf, knows_none, cell_shown, fresh_coming, classed_still, classed_on, attempt_asked, told_by, fresh_under, owes_still, owes_on, owns_on, claims_on, ReadsNoName, TakesNoLast, nothing_shown, stays}

abbrev pub rise : Work → Gain → Source → AttemptAt → Rise
rise w gain from a = record { layout = extent_of w.shape; slot = from.place; list = list_of gain from; caps = w.shape.caps; entry = None; at = a }

abbrev pub gaining : Work → Gain → ℕ → Source → AttemptAt → Doing
gaining w gain to from a = doings.Gaining gain to from (rise w gain from a)

-- ---- what each gain is

unowned≢strong : Unowned ≡ Strong → ⊥
unowned≢strong e = cc

list_counted : (gain : Gain) (from : Source) → IsCountedInline from.kind → IsCountedInline (list_of gain from)
list_counted gains.Copy from counted = counted
list_counted gains.Unown from counted = tt
list_counted gains.Load from counted = tt

-- ---- its steps

load_is_for : (shape : HeapShape) (v : View) (pl : Place) (gain : Gain) (from : Source) → IsOpen v from.origin → admission.IsFor shape v pl (intent_of gain from)
load_is_for shape v pl gains.Copy from opened = opened
load_is_for shape v pl gains.Unown from opened = tt
load_is_for shape v pl gains.Load from opened = tt

-- a hand that is the source
hand_there : (v : View) (o : Origin) (kind : Kind) (i : ℕ) → o ≡ origins.Hand (hand_of o) → IsSource v o kind i → HasHand v (hand_of o) kind i
hand_there v o kind i is source = subst (λ x. spot (origin (heap_of v) v.number x) (heap_of v) ≡ Some (record { place = i; kind = kind })) is source.0

may_exchange : (shape : HeapShape) (v : View) (gain : Gain) (from : Source) (class seen new : ℕ) → HasSource v from class → IsGainOf gain from → IsUp shape (list_of gain from) (Count from.place) seen new → MayExchange shape v (Count from.place) seen new (intent_of gain from)
may_exchange shape v gains.Copy from class seen new s of up = (from.kind, s.place, s.object, s.source, s.here, counted_in from.kind s.counted s.object from.place s.slot, up)
may_exchange shape v gains.Unown from class seen new s of up = (s.place, s.object, subst (λ k. HasHand v (hand_of from.origin) k s.place) of.1 (hand_there v from.origin from.kind s.place of.0 s.source), s.here, counted_in Unowned tt s.object from.place s.slot, up)
may_exchange shape v gains.Load from class seen new s of up =
    (from.kind, s.place, s.object, hand_there v from.origin from.kind s.place of.0 s.source, (λ e. unowned≢strong (sym of.1 ∙ e)), (λ n is. not_weak from.kind s.counted), s.here, counted_in Strong tt s.object from.place s.slot, up)

-- a load alone finds that the object's deinit has begun
abbrev dead_if : Gain → Source → Bool → Option Act
dead_if gains.Load from b = first_of b (acts.Load (hand_of from.origin) gots.Dead) None
dead_if _ from b = None

-- what the load of the count does: the word of an immortal object gives the reference at once
load_does : (shape : HeapShape) (v : View) (gain : Gain) (from : Source) (class found : ℕ) → HasSource v from class → IsGainOf gain from
    → loaded_act shape v (Count from.place) found (intent_of gain from) ≡ first_of (found == 1) (does gain from (next_hand v.number v.seen)) (dead_if gain from (is_deiniting (unpacked found)))
load_does shape v gains.Copy from class found s of =
    let copied = acts.Copy from.origin (next_hand v.number v.seen) in
    (λ j. first_of (is_forever (kind_at (s.source.0 j)) (object_at (heap_of v) (s.source.0 j)) (Count from.place) found) copied None)
    ∙ (λ j. first_of ((ap (λ m. is_counted_at from.kind m (Count from.place)) s.here ∙ counted_in from.kind s.counted s.object from.place s.slot) j && found == 1) copied None)
load_does shape v gains.Unown from class found s of =
    let formed = acts.UnownedOf (hand_of from.origin) (next_hand v.number v.seen) in
    let hand = hand_there v from.origin from.kind s.place of.0 s.source in
    (λ j. first_of (is_strong (kind_at (hand j)) && is_forever Unowned (object_at (heap_of v) (hand j)) (Count from.place) found) formed None)
    ∙ (λ j. first_of (is_strong (of.1 j) && ((ap (λ m. is_counted_at Unowned m (Count from.place)) s.here ∙ counted_in Unowned tt s.object from.place s.slot) j && found == 1)) formed None)
load_does shape v gains.Load from class found s of =
    let hand = hand_there v from.origin from.kind s.place of.0 s.source in
    let its = ap (λ m. is_counted_at Strong m (Count from.place)) s.here ∙ counted_in Strong tt s.object from.place s.slot in
    (λ j. load_shown shape (kind_at (hand j)) (object_at (heap_of v) (hand j)) (Count from.place) found (hand_of from.origin) (next_hand v.number v.seen))
    ∙ ((λ j. load_shown shape (of.1 j) (object_at (heap_of v) (Some (record { place = s.place; kind = from.kind }))) (Count from.place) found (hand_of from.origin) (next_hand v.number v.seen))
    ∙ (λ j. first_of (its j && found == 1) (acts.Load (hand_of from.origin) (gots.Hand (next_hand v.number v.seen)))
    (first_of (its j && is_deiniting (unpacked found)) (acts.Load (hand_of from.origin) gots.Dead) None)))

-- what the exchange does that finds what it expects
hit_does : (v : View) (pl : Place) (gain : Gain) (from : Source) (old new : ℕ) → hit_act v pl old new (intent_of gain from) ≡ Some (does gain from (next_hand v.number v.seen))
hit_does v pl gains.Copy from old new = refl
hit_does v pl gains.Unown from old new = refl
hit_does v pl gains.Load from old new = refl

load_works_on : (working : Working) (gain : Gain) (from : Source) (found : ℕ) → working_loaded working (Count from.place) found (intent_of gain from) ≡ working
load_works_on working gains.Copy from found = refl
load_works_on working gains.Unown from found = refl
load_works_on working gains.Load from found = refl

hit_works_on : (l : Place → ℕ) (working : Working) (pl : Place) (gain : Gain) (from : Source) (old new : ℕ) → working_hit l working pl old new (intent_of gain from) ≡ working
hit_works_on l working pl gains.Copy from old new = refl
hit_works_on l working pl gains.Unown from old new = refl
hit_works_on l working pl gains.Load from old new = refl

reads_no_name : (l : Extent) (place : ℕ) (gain : Gain) (from : Source) → ReadsNoName l (Load place) (intent_of gain from)
reads_no_name l place gains.Copy from = tt
reads_no_name l place gains.Unown from = tt
reads_no_name l place gains.Load from = tt

served_word : (shape : HeapShape) (place found : ℕ) (gain : Gain) (from : Source) → IsServedWord shape (Load place) (intent_of gain from) found → IsBelowCaps shape.caps (unpacked found)
served_word shape place found gains.Copy from word_is = word_is
served_word shape place found gains.Unown from word_is = word_is
served_word shape place found gains.Load from word_is = word_is

-- ---- its act: it brings the hand, and leaves all else

ends_none : (gain : Gain) (from : Source) (n k : ℕ) → ends_hand k (does gain from n) ≡ false
ends_none gains.Copy from n k = refl
ends_none gains.Unown from n k = refl
ends_none gains.Load from n k = refl

brings_it : (gain : Gain) (from : Source) (n : ℕ) → brings_hand (does gain from n) ≡ Some n
brings_it gains.Copy from n = refl
brings_it gains.Unown from n = refl
brings_it gains.Load from n = refl

-- the hand comes into its list of the object of the source
brought_is : (heap : Heap) (p i n : ℕ) (gain : Gain) (from : Source) → IsGainOf gain from → spot (origin heap p from.origin) heap ≡ Some (record { place = i; kind = from.kind }) → brought heap p (does gain from n) ≡ Some (record { place = i; kind = list_of gain from })
brought_is heap p i n gains.Copy from of source = source
brought_is heap p i n gains.Unown from of source = ap (in_list Unowned) (subst (λ o. spot (origin heap p o) heap ≡ Some (record { place = i; kind = from.kind })) of.0 source)
brought_is heap p i n gains.Load from of source = ap (in_list Strong) (subst (λ o. spot (origin heap p o) heap ≡ Some (record { place = i; kind = from.kind })) of.0 source)

owes_same : (p i n : ℕ) (gain : Gain) (from : Source) (heap : Heap) → owed_next p (does gain from n) i heap ≡ duty_of p i heap
owes_same p i n gains.Copy from heap = refl
owes_same p i n gains.Unown from heap = refl
owes_same p i n gains.Load from heap = refl

claims_same : (p e n : ℕ) (gain : Gain) (from : Source) (heap : Heap) → claimed_next p (does gain from n) e heap ≡ is_claimed_by p e heap
claims_same p e n gains.Copy from heap = refl
claims_same p e n gains.Unown from heap = refl
claims_same p e n gains.Load from heap = refl

takes_no_last : (gain : Gain) (from : Source) (n : ℕ) → TakesNoLast (Some (does gain from n))
takes_no_last gains.Copy from n = tt
takes_no_last gains.Unown from n = tt
takes_no_last gains.Load from n = tt

-- ---- its choice by the word

-- the word with one more in the list
abbrev more_in : Kind → Inline → ℕ
more_in Strong c = counts_word (strong_more c)
more_in Unowned c = counts_word (unowned_more c)
more_in Weak c = 0

abbrev IsBelow : HeapShape → Inline → Type 0
IsBelow shape c = (c.strong_extra < shape.caps.strong) × (c.unowned < shape.caps.unowned)

-- the counts let the list grow, or show a load that the object's deinit has begun
lives_or_dead : (gain : Gain) (from : Source) (c : Inline) → IsGainOf gain from → CountsHeld from.kind c → (list_of gain from ≡ Strong → c.deiniting ≡ false) ⊎ ((gain ≡ gains.Load) × (c.deiniting ≡ true))
lives_or_dead gains.Copy from c of held = inl (λ e. subst (λ k. CountsHeld k c) e held)
lives_or_dead gains.Unown from c of held = inl (λ e. absurd (unowned≢strong e))
lives_or_dead gains.Load from c of held = go c.deiniting refl
  where
    go : (b : Bool) → c.deiniting ≡ b → (Strong ≡ Strong → c.deiniting ≡ false) ⊎ ((gains.Load ≡ gains.Load) × (c.deiniting ≡ true))
    go true e = inr (refl, e)
    go false e = inl (λ _. e)

no_dead : (gain : Gain) (from : Source) (b : Bool) → (list_of gain from ≡ Strong → b ≡ false) → dead_if gain from b ≡ None
no_dead gains.Copy from b lives = refl
no_dead gains.Unown from b lives = refl
no_dead gains.Load from b lives = ap (λ x. first_of x (acts.Load (hand_of from.origin) gots.Dead) None) (lives refl)

choice_more : (w : Work) (gain : Gain) (from : Source) (list : Kind) (c : Inline) (found : ℕ) → IsCountedInline list → unpacked found ≡ Some (Counts c) → IsBelow w.shape c → (list ≡ Strong → c.deiniting ≡ false)
    → up_choice_at (rise w gain from attempt.Loading) None list found ≡ Write (more_in list c)
choice_more w gain from Strong c found counted some below lives =
    ap (λ m. told_as of_strong_up (strong_up_row w.shape.caps.strong m)) some
    ∙ (λ j. told_as of_strong_up (cond (lives refl j) (Tell strongs.Dead) (cond (ne_eqb c.strong_extra w.shape.caps.strong (λ e. let lt = below.0 in omega arith) j) (Tell strongs.AtCap) (Write (counts_word (strong_more c))))))
choice_more w gain from Unowned c found counted some below lives =
    ap (λ m. told_as of_unowned_up (unowned_up_row w.shape.caps.unowned m)) some
    ∙ (λ j. told_as of_unowned_up (cond (ne_eqb c.unowned w.shape.caps.unowned (λ e. let lt = below.1 in omega arith) j) (Tell unowneds.AtCap) (Write (counts_word (unowned_more c)))))
choice_more w gain from Weak c found counted some below lives = absurd counted

choice_dead : (w : Work) (gain : Gain) (from : Source) (c : Inline) (found : ℕ) → unpacked found ≡ Some (Counts c) → c.deiniting ≡ true → up_choice_at (rise w gain from attempt.Loading) None Strong found ≡ Tell ups.Dead
choice_dead w gain from c found some dead =
    ap (λ m. told_as of_strong_up (strong_up_row w.shape.caps.strong m)) some
    ∙ (λ j. told_as of_strong_up (cond (dead j) (Tell strongs.Dead) (cond (c.strong_extra == w.shape.caps.strong) (Tell strongs.AtCap) (Write (counts_word (strong_more c))))))

choice_forever : (w : Work) (gain : Gain) (from : Source) (list : Kind) (found : ℕ) → IsCountedInline list → unpacked found ≡ Some Immortal → up_choice_at (rise w gain from attempt.Loading) None list found ≡ Tell ups.Up
choice_forever w gain from Strong found counted some = ap (λ m. told_as of_strong_up (strong_up_row w.shape.caps.strong m)) some
choice_forever w gain from Unowned found counted some = ap (λ m. told_as of_unowned_up (unowned_up_row w.shape.caps.unowned m)) some
choice_forever w gain from Weak found counted some = absurd counted

-- which it may be given
abbrev Takes : Work → Gain → Source → Kind → ℕ → Type 0
Takes w gain from list found = gain_takes gain (record { layout = extent_of w.shape; slot = from.place; list = list; caps = w.shape.caps; entry = None; at = attempt.Loading }) (Some found)

takes_counts : (w : Work) (gain : Gain) (from : Source) (list : Kind) (c : Inline) (found : ℕ) → IsCountedInline list → unpacked found ≡ Some (Counts c) → 1 ≤ c.unowned → IsBelow w.shape c → (c.deiniting ≡ true → list ≡ Strong → FindsDead gain) → Takes w gain from list found
takes_counts w gain from Strong c found counted some unowned below dead = (
  subst (IsCountWord w.shape.entries (λ x. x.strong_extra ≤ w.shape.caps.strong)) (sym some) (unowned, let lt = below.0 in omega arith),
  subst (IsGainWord gain Strong w.shape.caps) (sym some) ((λ e. dead e refl), λ lives. below.0),
)
takes_counts w gain from Unowned c found counted some unowned below dead = (
  subst (IsCountWord w.shape.entries (λ x. x.unowned ≤ w.shape.caps.unowned)) (sym some) (unowned, let lt = below.1 in omega arith),
  subst (IsGainWord gain Unowned w.shape.caps) (sym some) below.1,
)
takes_counts w gain from Weak c found counted some unowned below dead = absurd counted

takes_forever : (w : Work) (gain : Gain) (from : Source) (list : Kind) (found : ℕ) → IsCountedInline list → unpacked found ≡ Some Immortal → Takes w gain from list found
takes_forever w gain from Strong found counted some = (subst (IsCountWord w.shape.entries (λ x. x.strong_extra ≤ w.shape.caps.strong)) (sym some) tt, subst (IsGainWord gain Strong w.shape.caps) (sym some) tt)
takes_forever w gain from Unowned found counted some = (subst (IsCountWord w.shape.entries (λ x. x.unowned ≤ w.shape.caps.unowned)) (sym some) tt, subst (IsGainWord gain Unowned w.shape.caps) (sym some) tt)
takes_forever w gain from Weak found counted some = absurd counted

-- and which exchange the rule allows
is_up : (shape : HeapShape) (list : Kind) (c : Inline) (s found : ℕ) → IsCountedInline list → IsWordOf (Counts c) found → IsBelow shape c → (list ≡ Strong → c.deiniting ≡ false) → IsUp shape list (Count s) found (more_in list c)
is_up shape Strong c s found counted word_is below lives = (c, word_is, lives refl, below.0, refl)
is_up shape Unowned c s found counted word_is below lives = (c, word_is, below.1, refl)
is_up shape Weak c s found counted word_is below lives = absurd counted

-- what comes out of a cell by an answer of the plan
abbrev Out : Thread → Source → Next UpAnswer → Option CameOut
Out t from answer = copied_out from.origin from (t.hands + 1) answer

none_out : (o : Origin) (from : Source) (hand : ℕ) (answer : Next UpAnswer) → (answer ≡ nexts.Done ups.Up → ⊥) → copied_out o from hand answer ≡ None
none_out (origins.Hand h) from hand answer other = refl
none_out (origins.Cell c) from hand (nexts.Step s) other = refl
none_out (origins.Cell c) from hand (nexts.Done ups.Up) other = absurd (other refl)
none_out (origins.Cell c) from hand (nexts.Done ups.Dead) other = refl
none_out (origins.Cell c) from hand (nexts.Done ups.AtCap) other = refl
none_out (origins.Cell c) from hand (nexts.Done ups.CountFull) other = refl
none_out (origins.Cell c) from hand (nexts.Done (ups.Again changed)) other = refl

module _ (w : Work) (t : Thread) (v : View) (gain : Gain) (to : ℕ) (from : Source) (a : AttemptAt) (f : Facts w t v (gaining w gain to from a)) where
  abbrev at : ℕ
  at = number (extent_of w.shape) (Count from.place)

  abbrev why : Intent
  why = intent_of gain from

  below : from.place < w.shape.slots
  below = subst (λ (e : Extent). from.place < e.slots) f.is_for.0 f.fits.1.place

  is_of : IsGainOf gain from
  is_of = gain_is_of w t v gain to from f.notes f.served f.sized f.legal f.kinds from.origin refl f.up_to

  -- the variable's class
  abbrev class : ℕ
  class = class_of w.classes to

  source : HasSource v from class
  source = has_source w t v gain to from f.notes f.served f.sized f.legal f.kinds f.classed f.in_shape from.origin refl f.up_to f.under_way.0

  list_is : IsCountedInline (list_of gain from)
  list_is = list_counted gain from source.counted

  free : v.working.owes ≡ None
  free = gains_owes v from from.origin f.under_way.0

  none_owed : OwesNothing v
  none_owed = gains_none v from from.origin f.under_way.0

  keeps : (o : Origin) → IsSource v o from.kind source.place → KeepsObject v source.place
  keeps (origins.Hand k) s = inl (k, from.kind, s.0, not_weak from.kind source.counted)
  keeps (origins.Cell c) s = inr (inr (c, from.kind, s, not_weak from.kind source.counted))

  pub load_allowed : Admits w.shape v (Load at) why
  load_allowed = let s = source in (Count from.place, refl, below, free, (s.place, s.object, s.here, s.slot, keeps from.origin s.source), load_is_for w.shape v (Count from.place) gain from s.source.1)

  pub swap_allowed : (seen new : ℕ) → a ≡ attempt.Exchanging seen new → Admits w.shape v (Exchange at seen new) why
  swap_allowed seen new is = (Count from.place, refl, below, free, may_exchange w.shape v gain from class seen new source is_of (subst (MayGoUp w.shape (list_of gain from) from.place) is f.under_way.1))

  abbrev did : Act
  did = does gain from (t.hands + 1)

  abbrev new_ref : Held
  new_ref = record { hand = t.hands + 1; kind = list_of gain from; place = from.place }

  abbrev with_it : Thread
  with_it = came_by gain from (quiet t)

  module _ (step : Step) (found : ℕ) (v' : View) (told : Told w.shape why step v found v') where
    abbrev met : History
    met = told.between ++ v.seen

    number_is : v'.number ≡ v.number
    number_is = ap (λ (x : View). x.number) told.after

    legal_met : IsLegal w.shape met
    legal_met = legal_tail w.shape (event_list v.number (act_of w.shape v step why found)) met (subst (IsLegal w.shape) (ap (λ (x : View). x.seen) told.after) told.legal)

    source_met : MetSource v.number from class met
    source_met = met_source w t v gain to from f.notes f.served f.sized f.legal f.kinds step why found v' told legal_met class source from.origin refl f.up_to f.under_way.0

    -- the count that a load of it finds
    shown : Reads step → place_of step ≡ at → (o : Object) × ShowsHeld w.shape from.kind o found
    shown reads place_is =
        let s = source_met in (
          s.object,
          shows_held w.shape met (origin (heap_after met) v.number from.origin) s.place from.place found from.kind s.object (own_origin (heap_after met) v.number from.origin) f.sized legal_met told.met_in_shape source.counted s.at s.here s.slot
              ((told.read (Count from.place) reads below place_is).says (λ u. u)),
        )

    -- a step of no event leaves where it takes from
    source_still : Called w.shape [] 1 v v' → v'.seen ≡ met → v'.working ≡ v.working → GainsFrom v' from.origin from
    source_still c seen works =
        let s = source_met in
        gains_still v v' from from.origin works (owes_still w.shape 1 v v' c none_owed) (
          source.counted,
          s.place,
          s.object,
          (
            (λ j. spot (origin (heap_after (seen j)) (number_is j) from.origin) (heap_after (seen j))) ∙ s.at,
            opened from.origin source.source.1,
          ),
          ap (λ k. slice_get (heap_after k).objects s.place) seen ∙ s.here,
          s.slot,
        ) f.under_way.0
      where
        opened : (o : Origin) → IsOpen v o → IsOpen v' o
        opened (origins.Hand k) is = tt
        opened (origins.Cell c) (b, begun, same) = (b, ap (λ (x : Working). x.access) works ∙ begun, same)

    seen_none : act_of w.shape v step why found ≡ None → v'.seen ≡ met
    seen_none act = ap (λ (x : View). x.seen) told.after ∙ ap (λ b. event_list v.number b ++ met) act

  -- ---- a step brings the reference
  module _ (step : Step) (found : ℕ) (v' : View) (told : Told w.shape why step v found v') (act : act_of w.shape v step why found ≡ Some did) where
    abbrev h : History
    h = told.between ++ v.seen

    abbrev event : Event
    event = record { thread = v.number; act = did }

    called : Called w.shape (did ∷ []) 1 v v'
    called = told_by w.shape why step v found v' (Some did) act told

    seen_is : v'.seen ≡ event ∷ h
    seen_is = ap (λ (x : View). x.seen) told.after ∙ ap (λ b. event_list v.number b ++ h) act

    abbrev then : (k : ℕ) → Bool → Option Spot
    then k b = cond b (brought (heap_after h) v.number did) (spot (Hand v.number k) (heap_of v))

    hands_then : (k : ℕ) → spot (Hand v'.number k) (heap_of v') ≡ then k (t.hands + 1 == k)
    hands_then k =
        (λ j. spot (Hand (number_is step found v' told j) k) (heap_of v')) ∙ (told_hands w.shape why step v found v' told k
        ∙ (ap (λ b. hand_after v.number b k (heap_after h) (heap_of v)) act ∙ (λ j. cond (ends_none gain from (t.hands + 1) k j) None (then k (is_number (brings_it gain from (t.hands + 1) j) k)))))

    spots : (k : ℕ) → k ≢ t.hands + 1 → spot (Hand v'.number k) (heap_of v') ≡ spot (Hand v.number k) (heap_of v)
    spots k ne = hands_then k ∙ ap (then k) (ne_eqb (t.hands + 1) k (λ e. ne (sym e)))

    its : spot (Hand v'.number (t.hands + 1)) (heap_of v') ≡ brought (heap_after h) v.number did
    its = hands_then (t.hands + 1) ∙ ap (then (t.hands + 1)) (eq-eqb (t.hands + 1) (t.hands + 1) refl)

    there : LeadsTo v' new_ref class
    there =
        let s = source_met step found v' told in
        let legal : IsLegal w.shape (event ∷ h) = subst (IsLegal w.shape) seen_is told.legal in
        let r = stays_after w.shape event h legal s.place s.object s.here in
        let z = origin (heap_after h) v.number from.origin in
        let busy = listed_busy from.kind z s.object (listed w.shape h z s.place from.kind s.object legal.1 (own_origin (heap_after h) v.number from.origin) s.at s.here) (not_weak from.kind source.counted) in
        (list_is, s.place, r.q, its ∙ brought_is (heap_after h) v.number s.place (t.hands + 1) gain from is_of s.at, ap (λ k. slice_get (heap_after k).objects s.place) seen_is ∙ r.here, r.slot busy ∙ s.slot, r.class ∙ s.is_class)

    -- what it knows of it where it is copied out of a cell
    knows : KnowsOf v' (Out t from (nexts.Done ups.Up))
    knows = go from.origin f.up_to
      where
        one : hands_in v'.number v'.seen (t.hands + 1) ≡ Some (record { kind = list_of gain from; place = from.place })
        one = known_new v v' did h new_ref (number_is step found v' told) seen_is (brings_it gain from (t.hands + 1)) (to_leads v' new_ref class there)

        go : (o : Origin) → GainsUpTo (known v w) t.index gain to o from.kind from.place t.vars f.notes → KnowsOf v' (copied_out o from (t.hands + 1) (nexts.Done ups.Up))
        go (origins.Hand k) up = knows_none v'
        go (origins.Cell c) up = λ x e. subst (λ (y : CameOut). hands_in v'.number v'.seen y.hand ≡ Some (record { kind = y.kind; place = y.place })) (Some-inj e)
            (subst (λ g. hands_in v'.number v'.seen (t.hands + 1) ≡ Some (record { kind = list_of g from; place = from.place })) up.0 one)

    refers : (x : CameOut) → Out t from (nexts.Done ups.Up) ≡ Some x → Holds Judged w.shape (heap_after h) (Refers x.cell x.kind x.place)
    refers = go from.origin (source_met step found v' told).at
      where
        go : (o : Origin) → spot (origin (heap_after h) v.number o) (heap_after h) ≡ Some (record { place = (source_met step found v' told).place; kind = from.kind }) → (x : CameOut) → copied_out o from (t.hands + 1) (nexts.Done ups.Up) ≡ Some x
            → Holds Judged w.shape (heap_after h) (Refers x.cell x.kind x.place)
        go (origins.Hand k) stood x e = absurd (None≢Some x e)
        go (origins.Cell c) stood x e =
            let s = source_met step found v' told in
            subst (λ (y : CameOut). reference_of (cell (heap_after h) y.cell) (heap_after h) ≡ Some (record { kind = y.kind; place = y.place })) (Some-inj e)
            (reference_at (cell (heap_after h) c) (heap_after h) s.place from.place from.kind s.object source.counted stood s.here s.slot)

    kept : AreOfClasses w.classes v' t.vars
    kept = classed_on w.shape 1 did w.classes v v' t.vars called (λ x held e. ends_none gain from (t.hands + 1) held.hand) f.classed

    owed_none : OwesNothing v'
    owed_none = owes_on w.shape 1 did v v' called (λ i k. owes_same v.number i (t.hands + 1) gain from (heap_after k)) none_owed

    -- the stepper goes on to this
    arrives : (d : Doing) (u : Thread) → takes_at w.shape (Some found) d → came_out_at t (Some found) d ≡ Out t from (nexts.Done ups.Up) → ReadsNoName (extent_of w.shape) step why → u.event ≡ Some did → u.hands ≡ t.hands + 1 → length u.vars ≡ length t.vars
        → ((g : Held → ℕ) → references u.vars u.hands u.doing g ≡ in_vars t.vars g + g new_ref) → AreOfClasses w.classes v' u.vars → ComesOfClass w.classes v' u.doing → Asks w.shape [] u u.doing → UnderWay w.shape v' [] u.doing → Comes w t v step why found v' h d u
    arrives d u takes out reads event_is hands count same classed coming asks under = record {
      takes_it = takes;
      event = act ∙ sym event_is;
      holds = notes_at d (WordsHold Judged w.shape (extent_of w.shape) (Some (step, why)) (Some found) w.thread u.event (came_out_at t (Some found) d) h)
          (subst (λ (x : Option Act × Option CameOut). AllHold Judged w.shape (extent_of w.shape) (Some (step, why)) (Some found) w.thread x.0 x.1 h) (λ j. (sym event_is j, sym out j))
          (cell_shown w.shape f.sized (extent_of w.shape) step why found w.thread (Some did) (Out t from (nexts.Done ups.Up)) h reads (takes_no_last gain from (t.hands + 1)) (λ x e is. refers x e)));
      knows = subst (KnowsOf v') (sym out) knows;
      count = count ∙ f.count;
      owns = subst (λ n. Owns v' n (references u.vars u.hands u.doing)) (sym hands)
          (owns_more v v' t.hands (references t.vars t.hands (gaining w gain to from a)) (references u.vars u.hands u.doing) new_ref f.owns refl (λ g. let e = same g in omega arith) (to_leads v' new_ref class there)
          (λ x. leads_on w.shape did 1 v v' x called (ends_none gain from (t.hands + 1) x.hand)) spots);
      classed = classed;
      coming = coming;
      no_claim = claims_on w.shape 1 did v v' called (λ n e. claims_same v.number e (t.hands + 1) gain from (heap_after n.met)) f.no_claim;
      asks = asks;
      under_way = under;
    }

    brings : (d : Doing) → takes_at w.shape (Some found) d → came_out_at t (Some found) d ≡ Out t from (nexts.Done ups.Up) → ReadsNoName (extent_of w.shape) step why → v'.working ≡ v.working → Comes w t v step why found v' h d (has_gained gain from.origin to new_ref with_it)
    brings d takes out reads works = go gain from.origin f.under_way.0 is_hand
      where
        in_var : v.working ≡ idle → Comes w t v step why found v' h d (replaced to (Some new_ref) (put answers.Ok with_it))
        in_var is =
            let walk = replaced_walks w (LeadsTo v') (put answers.Ok with_it) to (Some new_ref) f.is_for f.fit f.fits.0 kept (new-some (LeadsTo v') class new_ref there) in
            let u : Thread = replaced to (Some new_ref) (put answers.Ok with_it) in
            arrives d u takes out reads walk.event walk.hands walk.count walk.same walk.classed (fresh_coming w.classes v' u.doing walk.fresh) walk.asks (fresh_under w.shape v' u.doing walk.fresh (works ∙ is) owed_none)

        -- but for a copy it is one in a variable
        ByHand : Gain → Origin → Type 0
        ByHand gains.Copy o = Unit {0}
        ByHand gains.Unown o = o ≡ origins.Hand (hand_of o)
        ByHand gains.Load o = o ≡ origins.Hand (hand_of o)

        is_hand : ByHand gain from.origin
        is_hand = at gain is_of
          where
            at : (g : Gain) → IsGainOf g from → ByHand g from.origin
            at gains.Copy of = tt
            at gains.Unown of = of.0
            at gains.Load of = of.0

        no_cell : {X : Type 0} (c : CellName) (k : ℕ) → origins.Cell c ≡ origins.Hand k → X
        no_cell c k e = absurd (cc)

        naming : v.working ≡ idle → Comes w t v step why found v' h d (name_begun to new_ref with_it)
        naming is = arrives d (name_begun to new_ref with_it) takes out reads refl refl refl (λ g. refl) kept there (
          (λ j. record { layout = f.is_for.0 j; slot = from.place; at = once.Asked }),
          ap (λ (l : Extent). moves.Step (Load (number l (Isa from.place))) intents.Look) f.is_for.0,
        ) (record { working = works ∙ is; none = owed_none })

        closing : (c : CellName) → v.working ≡ accessing c from.place → Comes w t v step why found v' h d (close_begun to c new_ref with_it)
        closing c is = arrives d (close_begun to c new_ref with_it) takes out reads refl refl refl (λ g. refl) kept there (
          (λ j. record { layout = f.is_for.0 j; place = cell_number (f.is_for.0 j) c; value = from.place + 2; at = once.Asked }),
          ap (λ (l : Extent). moves.Step (Store (cell_number l c) (from.place + 2)) (intents.Access c)) f.is_for.0,
        ) (works ∙ is, owed_none)

        go : (g : Gain) (o : Origin) → GainsFrom v o from → ByHand g o → Comes w t v step why found v' h d (has_gained g o to new_ref with_it)
        go gains.Copy (origins.Hand k) under by = in_var under.working
        go gains.Copy (origins.Cell c) under by = closing c under.working
        go gains.Unown (origins.Hand k) under by = in_var under.working
        go gains.Unown (origins.Cell c) under by = no_cell c (hand_of (origins.Cell c)) by
        go gains.Load (origins.Hand k) under by = naming under.working
        go gains.Load (origins.Cell c) under by = no_cell c (hand_of (origins.Cell c)) by

  -- ---- it loads the count
  module _ (found : ℕ) (v' : View) (told : Told w.shape why (Load at) v found v') where
    load_act : act_of w.shape v (Load at) why found ≡ first_of (found == 1) did (dead_if gain from (is_deiniting (unpacked found)))
    load_act = ap (λ (q : Place). loaded_act w.shape v q found why) (place_at-number (extent_of w.shape) (Count from.place) below)
        ∙ (load_does w.shape v gain from class found source is_of ∙ ap (λ n. first_of (found == 1) (does gain from n) (dead_if gain from (is_deiniting (unpacked found)))) f.next)

    load_works : v'.working ≡ v.working
    load_works = ap (λ (x : View). x.working) told.after ∙ (ap (λ (q : Place). working_loaded v.working q found why) (place_at-number (extent_of w.shape) (Count from.place) below) ∙ load_works_on v.working gain from found)

    abbrev loading : Rise
    loading = rise w gain from attempt.Loading

    abbrev answer : Option ℕ × Choice UpAnswer → Next UpAnswer
    answer x = answer_by up_place (up_in loading x.0) (chosen at found x.1)

    abbrev Loaded : Option ℕ × Choice UpAnswer → Type 0
    Loaded x = came_out_at t (Some found) (gaining w gain to from attempt.Loading) ≡ Out t from (answer x) → Comes w t v (Load at) why found v' (told.between ++ v.seen) (gaining w gain to from attempt.Loading)
        (gained_on gain to from (turned_by up_moved loading (up_in loading x.0) (exchanging found x.1)) (answer_by up_place (up_in loading x.0) (chosen at found x.1)) (quiet t))

    abbrev choice : Choice UpAnswer
    choice = up_choice_at loading None (list_of gain from) found

    -- by the word read
    by_word : (o : Option Word) (r : Choice UpAnswer) → unpacked found ≡ o → choice ≡ r → entry_named o ≡ None → Loaded (None, r) → Loaded (entry_named (unpacked found), choice)
    by_word o r some is none done = subst Loaded (λ j. ((sym none ∙ ap entry_named (sym some)) j, sym is j)) done

    grows : (c : Inline) → a ≡ attempt.Loading → unpacked found ≡ Some (Counts c) → IsWordOf (Counts c) found → 1 ≤ c.unowned → IsBelow w.shape c → (list_of gain from ≡ Strong → c.deiniting ≡ false) → Loaded (None, Write (more_in (list_of gain from) c))
    grows c is some word_is unowned most lives out =
        let new = more_in (list_of gain from) c in
        let act : act_of w.shape v (Load at) why found ≡ None =
        load_act ∙ (ap (λ b. first_of b did (dead_if gain from (is_deiniting (unpacked found)))) (ne_eqb found 1 (counts_not_one found c some)) ∙ no_dead gain from (is_deiniting (unpacked found)) (λ e. ap is_deiniting some ∙ lives e)) in
        let fact : Facts w t v (gaining w gain to from attempt.Loading) = subst (λ b. Facts w t v (gaining w gain to from b)) is f in
        let c_none = told_by w.shape why (Load at) v found v' None act told in
        let none = none_out from.origin from (t.hands + 1) (nexts.Step (Exchange at found (more_in (list_of gain from) c))) (λ e. cc) in
        let u : Thread = record (quiet t) { doing = gaining w gain to from (attempt.Exchanging found new); asked = moves.Step (Exchange at found new) why } in
        stays w t v (Load at) why found v' (gaining w gain to from attempt.Loading) u told fact
        (takes_counts w gain from (list_of gain from) c found list_is some unowned most (λ dead e. absurd (true≢false (sym dead ∙ lives e)))) (out ∙ none) act refl (reads_no_name (extent_of w.shape) at gain from) refl refl (λ g. refl)
        (classed_still w.shape 1 w.classes v v' t.vars c_none f.classed) tt (refl, refl) (source_still (Load at) found v' told c_none (seen_none (Load at) found v' told act) load_works, is_up w.shape (list_of gain from) c from.place found list_is word_is most lives)

    -- a load is of a reference in a variable
    idle_load : gain ≡ gains.Load → v.working ≡ idle
    idle_load load =
        let of : from.origin ≡ origins.Hand (hand_of from.origin) = (subst (λ g. IsGainOf g from) load is_of).0 in
        let free_is : IsFree v = subst (λ o. GainsFrom v o from) of f.under_way.0 in
        free_is.working

    -- the object's deinit has begun
    finds_dead : (c : Inline) → unpacked found ≡ Some (Counts c) → 1 ≤ c.unowned → IsBelow w.shape c → gain ≡ gains.Load → c.deiniting ≡ true → Loaded (None, Tell ups.Dead)
    finds_dead c some unowned most load dead out =
        let none_left : Act = acts.Load (hand_of from.origin) gots.Dead in
        let act : act_of w.shape v (Load at) why found ≡ Some (acts.Load (hand_of from.origin) gots.Dead) =
        load_act ∙ (ap (λ b. first_of b did (dead_if gain from (is_deiniting (unpacked found)))) (ne_eqb found 1 (counts_not_one found c some)) ∙ (λ j. dead_if (load j) from ((ap is_deiniting some ∙ dead) j))) in
        let called_dead : Called w.shape (acts.Load (hand_of from.origin) gots.Dead ∷ []) 1 v v' = told_by w.shape why (Load at) v found v' (Some (acts.Load (hand_of from.origin) gots.Dead)) act told in
        let q : Thread = put answers.Dead (record (quiet t) { event = Some (acts.Load (hand_of from.origin) gots.Dead) }) in
        let u : Thread = replaced to None q in
        let none = none_out from.origin from (t.hands + 1) (nexts.Done ups.Dead) (λ e. cc) in
        let walk = replaced_walks w (LeadsTo v') q to None f.is_for f.fit f.fits.0 (classed_on w.shape 1 (acts.Load (hand_of from.origin) gots.Dead) w.classes v v' t.vars called_dead (λ x held e. refl) f.classed) (new-none (LeadsTo v') class) in record {
          takes_it = takes_counts w gain from (list_of gain from) c found list_is some unowned most (λ d e. subst FindsDead (sym load) tt);
          event = act ∙ sym walk.event;
          holds = subst (λ (x : Option Act × Option CameOut). AllHold Judged w.shape (extent_of w.shape) (Some (Load at, why)) (Some found) w.thread x.0 x.1 (told.between ++ v.seen)) (λ j. (sym walk.event j, sym (out ∙ none) j))
              (nothing_shown w.shape f.sized (extent_of w.shape) (Load at) why found w.thread (Some (acts.Load (hand_of from.origin) gots.Dead)) (told.between ++ v.seen) (reads_no_name (extent_of w.shape) at gain from) tt);
          knows = subst (KnowsOf v') (sym (out ∙ none)) (knows_none v');
          count = walk.count ∙ f.count;
          classed = walk.classed;
          coming = fresh_coming w.classes v' u.doing walk.fresh;
          owns = subst (λ n. Owns v' n (references u.vars u.hands u.doing)) (sym walk.hands)
              (owns_on w.shape 1 (acts.Load (hand_of from.origin) gots.Dead) v v' t.hands (references t.vars t.hands (gaining w gain to from a)) (references u.vars u.hands u.doing) called_dead (λ k. refl) refl f.owns (λ g. let e = walk.same g in omega arith));
          no_claim = claims_on w.shape 1 (acts.Load (hand_of from.origin) gots.Dead) v v' called_dead (λ n e. refl) f.no_claim;
          asks = walk.asks;
          under_way = fresh_under w.shape v' u.doing walk.fresh (load_works ∙ idle_load load) (owes_on w.shape 1 (acts.Load (hand_of from.origin) gots.Dead) v v' called_dead (λ i h. refl) none_owed);
        }

    pub load_comes : a ≡ attempt.Loading → IsBelowCaps w.shape.caps (unpacked found) → Loaded (entry_named (unpacked found), choice)
    load_comes is served = let s = shown (Load at) found v' told tt refl in by s.0 s.1
      where
        by : (o : Object) → ShowsHeld w.shape from.kind o found → Loaded (entry_named (unpacked found), choice)
        by o (slow e some entry lt) = absurd (subst (IsBelowCaps w.shape.caps) some served)
        by o (forever one some immortal) =
            let act : act_of w.shape v (Load at) why found ≡ Some did = load_act ∙ ap (λ b. first_of b did (dead_if gain from (is_deiniting (unpacked found)))) (eq-eqb found 1 one) in
            by_word (Some Immortal) (Tell ups.Up) some (choice_forever w gain from (list_of gain from) found list_is some) refl
            (λ out. brings (Load at) found v' told act (gaining w gain to from attempt.Loading) (takes_forever w gain from (list_of gain from) found list_is some) out (reads_no_name (extent_of w.shape) at gain from) load_works)
        by o (counts some word_is unowned held none) =
            let most : IsBelow w.shape (counts_in o) = subst (IsBelowCaps w.shape.caps) some served in
            elim (lives_or_dead gain from (counts_in o) is_of held) as (λ _. Loaded (entry_named (unpacked found), choice)) [
              | inl lives ↦ by_word (Some (Counts (counts_in o))) (Write (more_in (list_of gain from) (counts_in o))) some (choice_more w gain from (list_of gain from) (counts_in o) found list_is some most lives) refl (grows (counts_in o) is some word_is unowned most lives)
              | inr dead ↦ by_word (Some (Counts (counts_in o))) (Tell ups.Dead) some
                  (ap (λ g. up_choice_at loading None (list_of g from) found) dead.0 ∙ choice_dead w gain from (counts_in o) found some dead.1) refl (finds_dead (counts_in o) some unowned most dead.0 dead.1)
            ]

  -- ---- it exchanges it
  module _ (seen new : ℕ) (found : ℕ) (v' : View) (told : Told w.shape why (Exchange at seen new) v found v') (is : a ≡ attempt.Exchanging seen new) where
    abbrev d : Doing
    d = gaining w gain to from (attempt.Exchanging seen new)

    fact : Facts w t v d
    fact = subst (λ b. Facts w t v (gaining w gain to from b)) is f

    swap_works : v'.working ≡ v.working
    swap_works = ap (λ (x : View). x.working) told.after
        ∙ (ap (λ (x : Working). cond (found == seen) x v.working) (hit_works_on (number (extent_of w.shape)) v.working (place_at (extent_of w.shape) at) gain from seen new) ∙ go (found == seen))
      where
        go : (b : Bool) → cond b v.working v.working ≡ v.working
        go true = refl
        go false = refl

    abbrev answer_if : Bool → Next UpAnswer
    answer_if b = nexts.Done (cond b ups.Up (ups.Again (record { seen = seen; found = found })))

    abbrev Swapped : Bool → Type 0
    Swapped b = came_out_at t (Some found) d ≡ Out t from (answer_if b) → Comes w t v (Exchange at seen new) why found v' (told.between ++ v.seen) d (gained_on gain to from (rise w gain from attempt.Ended) (nexts.Done (cond b ups.Up (ups.Again (record { seen = seen; found = found })))) (quiet t))

    abbrev when_found : Bool → Option Act
    when_found b = cond b (hit_act v (place_at (extent_of w.shape) at) seen new why) None

    -- another word is there
    missed : found ≢ seen → Swapped false
    missed ne out =
        let act : act_of w.shape v (Exchange at seen new) why found ≡ None = ap when_found (ne_eqb found seen ne) in
        let c_none = told_by w.shape why (Exchange at seen new) v found v' None act told in
        let none = none_out from.origin from (t.hands + 1) (answer_if false) (λ e. cc) in
        stays w t v (Exchange at seen new) why found v' d (gain_begun gain to from (quiet t)) told fact ((λ e. cc), tt) (out ∙ none) act refl tt refl refl (λ g. refl) (classed_still w.shape 1 w.classes v v' t.vars c_none f.classed) tt (
          (λ j. record { layout = f.is_for.0 j; slot = from.place; list = list_of gain from; caps = (f.is_for.1 j).caps; entry = None; at = attempt.Loading }),
          ap (λ (l : Extent). moves.Step (Load (number l (Count from.place))) (intent_of gain from)) f.is_for.0,
        ) (source_still (Exchange at seen new) found v' told c_none (seen_none (Exchange at seen new) found v' told act) swap_works, tt)

    -- the reference comes
    hit : found ≡ seen → Swapped true
    hit same out =
        let act : act_of w.shape v (Exchange at seen new) why found ≡ Some did =
        ap when_found (eq-eqb found seen same) ∙ (hit_does v (place_at (extent_of w.shape) at) gain from seen new ∙ ap (λ n. Some (does gain from n)) f.next) in
        brings (Exchange at seen new) found v' told act d ((λ e. cc), tt) out tt swap_works

    pub swap_comes : Swapped (found == seen)
    swap_comes = dite (ℕ_discrete found seen) (λ e. subst Swapped (sym (eq-eqb found seen e)) (hit e)) (λ ne. subst Swapped (sym (ne_eqb found seen ne)) (missed ne))

-- ---- by where the attempt is

pub gains_allowed : (w : Work) (t : Thread) (v : View) (gain : Gain) (to : ℕ) (from : Source) (plan : Rise) (step : Step) (intent : Intent) → Facts w t v (doings.Gaining gain to from plan) → t.asked ≡ moves.Step step intent → Admits w.shape v step intent
gains_allowed w t v gain to from plan step intent f asked =
    attempt_asked t.asked (number (extent_of w.shape) (Count from.place)) (intent_of gain from) (λ a x. Facts w t v (gaining w gain to from a) → Admits w.shape v x.0 x.1) step intent asked
    (λ g. load_allowed w t v gain to from attempt.Loading g) (λ seen new g. swap_allowed w t v gain to from (attempt.Exchanging seen new) g seen new refl) plan.at f.asks.1
    (subst (λ (p : Rise). Facts w t v (doings.Gaining gain to from p)) f.asks.0 f)

pub gains_come : (w : Work) (t : Thread) (v : View) (gain : Gain) (to : ℕ) (from : Source) (plan : Rise) (step : Step) (intent : Intent) (found : ℕ) (v' : View) → Facts w t v (doings.Gaining gain to from plan) → t.asked ≡ moves.Step step intent → IsServedWord w.shape step intent found
    → (told : Told w.shape intent step v found v') → Comes w t v step intent found v' (told.between ++ v.seen) (doings.Gaining gain to from plan) (turned_at (Some found) (doings.Gaining gain to from plan) (quiet t))
gains_come w t v gain to from plan step intent found v' f asked =
    subst (λ (p : Rise). IsServedWord w.shape step intent found → (told : Told w.shape intent step v found v') → Comes w t v step intent found v' (told.between ++ v.seen) (doings.Gaining gain to from p) (turned_at (Some found) (doings.Gaining gain to from p) (quiet t))) (sym f.asks.0)
    (attempt_asked t.asked (number (extent_of w.shape) (Count from.place)) (intent_of gain from) Case step intent asked
    (λ g word_is told. load_comes w t v gain to from attempt.Loading g found v' told refl (served_word w.shape (number (extent_of w.shape) (Count from.place)) found gain from word_is) refl)
    (λ seen new g word_is told. swap_comes w t v gain to from (attempt.Exchanging seen new) g seen new found v' told refl refl) plan.at f.asks.1
    (subst (λ (p : Rise). Facts w t v (doings.Gaining gain to from p)) f.asks.0 f))
  where
    Case : AttemptAt → Step × Intent → Type 0
    Case a x = Facts w t v (gaining w gain to from a) → IsServedWord w.shape x.0 x.1 found
        → (told : Told w.shape x.1 x.0 v found v') → Comes w t v x.0 x.1 found v' (told.between ++ v.seen) (gaining w gain to from a) (turned_at (Some found) (gaining w gain to from a) (quiet t))
