-- One reference fewer in a list of an object: what its inline word makes of the attempt; and the slot that the last unowned one leaves is vacated.
use Rattle.std.proofs.Common.{◌≡◌, ◌≢◌, ℕ, ◌/◌, ◌≤◌, ◌<◌, ◌==◌, ◌&&◌, Bool, true, false, cond, Option, Some, None, refl, sym, ap, ◌∙◌, subst, arith, eq-eqb, ne_eqb}
use Rattle.arc_bits.specs.declared.packing.Inline.{Inline}
use Rattle.arc_bits.specs.declared.packing.Word.TheVariants.{Counts, Immortal}
use Rattle.arc_bits.specs.Words.{IsWordOf, counts_word, unpacked}
use Rattle.arc_bits.specs.Moves.{strong_less, unowned_less}
use Rattle.arc_model.specs.declared.event.Act.TheVariants as acts
use Rattle.arc_model.specs.declared.shape.Kind.{Kind}
use Rattle.arc_model.specs.declared.shape.Kind.TheVariants.{Strong, Unowned, Weak}
use Rattle.arc_model.specs.Shapes.{HeapShape}
use Rattle.arc_model.specs.Cells.{same_kind}
use Rattle.arc_model.specs.Heaps.{Holder, Duty, Deinit, Vacating, Object}
use Rattle.arc_model.specs.Holders.{is_in, kind_in, list_of}
use Rattle.arc_model.specs.Lookup.{Spot, is_spot}
use Rattle.arc_rule.specs.Places.{extent_of, number}
use Rattle.arc_rule.proofs.Places.{place_at-number}
use Rattle.arc_rule.specs.Bits.{words_of, but_bit_of}
use Rattle.arc_rule.proofs.Bits.{thing_left_but}
use Rattle.arc_rule.specs.Attempts.{told_as}
use Rattle.arc_rule.specs.declared.attempt.At.{At as AttemptAt}
use Rattle.arc_rule.specs.declared.attempt.At.TheVariants as attempt
use Rattle.arc_rule.specs.declared.attempt.Choice.TheVariants.{Tell, Write}
use Rattle.arc_rule.specs.declared.layout.Place.{Place}
use Rattle.arc_rule.specs.declared.layout.Place.TheVariants.{Count, SlotBits}
use Rattle.arc_rule.specs.declared.step.Step.{Step}
use Rattle.arc_rule.specs.declared.step.Step.TheVariants.{And}
use Rattle.arc_rule.specs.declared.step.Intent.TheVariants as intents
use Rattle.arc_plan.specs.declared.strong.StrongDownAnswer.TheVariants as strongs
use Rattle.arc_plan.specs.declared.unowned.UnownedDownAnswer.TheVariants as unowneds
use Rattle.arc_plan.specs.Attempts.{IsCountWord}
use Rattle.arc_plan.specs.Strong.{strong_down_row, strong_down_end}
use Rattle.arc_plan.specs.Unowned.{unowned_down_row, unowned_down_end}
use Rattle.arc_side.specs.declared.down.DownAnswer.{DownAnswer}
use Rattle.arc_side.specs.declared.down.DownAnswer.TheVariants as downs
use Rattle.arc_side.specs.Inline.{IsCountedInline}
use Rattle.arc_side.specs.Downs.{Fall, DownWordAt, of_strong_down, of_unowned_down, down_choice_at, down_end_at}
use Rattle.arc_ops.specs.declared.stepper.Held.{Held}
use Rattle.arc_spelled.specs.StepperStands.{Work}
use Rattle.arc_view.specs.declared.view.View.{View}
use Rattle.arc_view.specs.Holding.{heap_of}
use Rattle.arc_view.specs.Rule.{InShape, IsWithin}
use Rattle.arc_view.specs.Kinds.{act_of, and_act, is_last_in, working_after, working_and}
use Rattle.arc_view.specs.Admission.{Admits, IsDown}
use Rattle.arc_view.proofs.Within.{each_at}
use Rattle.arc_ops_passes.specs.Drives.{IsDue, vacating_due}
use Rattle.arc_ops_passes.proofs.Counts.{CountsHeld}

abbrev pub fall : Work → Held → AttemptAt → Fall
fall w held a = record { layout = extent_of w.shape; slot = held.place; list = held.kind; entry = None; at = a }

-- ---- its choice by the word

-- the word with one fewer in the list
abbrev pub less_in : Kind → Inline → ℕ
less_in Strong c = counts_word (strong_less c)
less_in Unowned c = counts_word (unowned_less c)
less_in Weak c = 0

pub choice_less : (list : Kind) (c : Inline) (found : ℕ) → IsCountedInline list → unpacked found ≡ Some (Counts c) → down_choice_at None list found ≡ Write (less_in list c)
choice_less Strong c found counted some = ap (λ m. told_as of_strong_down (strong_down_row m)) some
choice_less Unowned c found counted some = ap (λ m. told_as of_unowned_down (unowned_down_row m)) some
choice_less Weak c found counted some = absurd counted

pub choice_forever : (list : Kind) (found : ℕ) → IsCountedInline list → unpacked found ≡ Some Immortal → down_choice_at None list found ≡ Tell (downs.More None)
choice_forever Strong found counted some = ap (λ m. told_as of_strong_down (strong_down_row m)) some
choice_forever Unowned found counted some = ap (λ m. told_as of_unowned_down (unowned_down_row m)) some
choice_forever Weak found counted some = absurd counted

-- which it may be given
abbrev pub TakesWord : Work → Held → Kind → ℕ → Type 0
TakesWord w held list found = DownWordAt (fall w held attempt.Loading) None list found

pub takes_counts : (w : Work) (held : Held) (list : Kind) (c : Inline) (found : ℕ) → unpacked found ≡ Some (Counts c) → 1 ≤ c.unowned → CountsHeld list c → IsCountedInline list → TakesWord w held list found
takes_counts w held Strong c found some unowned fact counted = subst (IsCountWord w.shape.entries (λ x. x.deiniting ≡ false)) (sym some) (unowned, fact)
takes_counts w held Unowned c found some unowned fact counted = subst (IsCountWord w.shape.entries (λ x. x.deiniting ≡ false → 2 ≤ x.unowned)) (sym some) (unowned, fact)
takes_counts w held Weak c found some unowned fact counted = absurd counted

pub takes_forever : (w : Work) (held : Held) (list : Kind) (found : ℕ) → IsCountedInline list → unpacked found ≡ Some Immortal → TakesWord w held list found
takes_forever w held Strong found counted some = subst (IsCountWord w.shape.entries (λ x. x.deiniting ≡ false)) (sym some) tt
takes_forever w held Unowned found counted some = subst (IsCountWord w.shape.entries (λ x. x.deiniting ≡ false → 2 ≤ x.unowned)) (sym some) tt
takes_forever w held Weak found counted some = absurd counted

-- and which exchange the rule allows
pub is_down : (list : Kind) (c : Inline) (s found : ℕ) → IsWordOf (Counts c) found → 1 ≤ c.unowned → CountsHeld list c → IsCountedInline list → IsDown list (Count s) found (less_in list c)
is_down Strong c s found word_is unowned fact counted = (c, word_is, fact, refl)
is_down Unowned c s found word_is unowned fact counted = (c, word_is, unowned, refl)
is_down Weak c s found word_is unowned fact counted = absurd counted

-- ---- the exchange of counts

pub down_counts : (list : Kind) (s seen new : ℕ) → IsCountedInline list → IsDown list (Count s) seen new → (c : Inline) × IsWordOf (Counts c) seen
down_counts Strong s seen new counted down = (down.0, down.1)
down_counts Unowned s seen new counted down = (down.0, down.1)
down_counts Weak s seen new counted down = absurd counted

abbrev pub ends_with : Bool → DownAnswer
ends_with b = cond b (downs.Last None) (downs.More None)

-- the plan's answer after it
pub end_is : (list : Kind) (c : Inline) (seen : ℕ) → IsCountedInline list → unpacked seen ≡ Some (Counts c) → down_end_at None list seen ≡ ends_with (is_last_in list (Some (Counts c)))
end_is Strong c seen counted some = ap (λ m. of_strong_down (strong_down_end m)) some ∙ go (c.strong_extra == 0)
  where
    go : (b : Bool) → of_strong_down (cond b strongs.Last strongs.More) ≡ ends_with b
    go true = refl
    go false = refl
end_is Unowned c seen counted some = ap (λ m. of_unowned_down (unowned_down_end m)) some ∙ go (c.unowned == 1)
  where
    go : (b : Bool) → of_unowned_down (cond b unowneds.Last unowneds.More) ≡ ends_with b
    go true = refl
    go false = refl
end_is Weak c seen counted some = absurd counted

-- ---- what the last one leaves

-- what is owed to the object then
abbrev pub duty_after : Kind → Duty
duty_after Unowned = Vacating
duty_after _ = Deinit

abbrev pub spot_duty : ℕ → Option Spot → Option Duty → Option Duty
spot_duty j at old = cond (is_spot j Strong at) (Some Deinit) (cond (is_spot j Unowned at) (Some Vacating) old)

pub its_duty : (list : Kind) (i : ℕ) (old : Option Duty) → IsCountedInline list → spot_duty i (Some (record { place = i; kind = list })) old ≡ Some (duty_after list)
its_duty Strong i old counted = ap (λ b. cond (b && true) (Some Deinit) (cond (b && false) (Some Vacating) old)) (eq-eqb i i refl)
its_duty Unowned i old counted = ap (λ b. cond (b && false) (Some Deinit) (cond (b && true) (Some Vacating) old)) (eq-eqb i i refl)
its_duty Weak i old counted = absurd counted

pub other_duty : (list : Kind) (i j : ℕ) (old : Option Duty) → i ≢ j → spot_duty j (Some (record { place = i; kind = list })) old ≡ old
other_duty list i j old ne = ap (λ b. cond (b && same_kind list Strong) (Some Deinit) (cond (b && same_kind list Unowned) (Some Vacating) old)) (ne_eqb i j ne)

-- a hand in the list isn't a weak holder
pub not_weak_in : (list : Kind) (z : Holder) (o : Object) (more : Bool) → IsCountedInline list → is_in z (list_of list o) ≡ true → (same_kind (kind_in z o) Weak && more) ≡ false
not_weak_in Strong z o more counted listed = ap (λ b. same_kind (cond b Strong (cond (is_in z o.unowned) Unowned Weak)) Weak && more) listed
not_weak_in Unowned z o more counted listed = ap (λ b. same_kind (cond (is_in z o.strong) Strong (cond b Unowned Weak)) Weak && more) listed ∙ go (is_in z o.strong)
  where
    go : (b : Bool) → (same_kind (cond b Strong Unowned) Weak && more) ≡ false
    go true = refl
    go false = refl
not_weak_in Weak z o more counted listed = absurd counted

-- ---- a slot is vacated

module _ (shape : HeapShape) (v : View) (s : ℕ) (within : InShape shape v.seen) (q : IsDue shape v (vacating_due s)) (free : v.working.owes ≡ None) where
  abbrev Clear : Step
  Clear = And (number (extent_of shape) (SlotBits (s / 64))) (but_bit_of s)

  inside : s < shape.slots
  inside = (each_at (IsWithin shape) (heap_of v).objects q.place q.object within.within q.here).0 s q.slot

  word_in : s / 64 < words_of shape.slots
  word_in = let b = inside in omega arith

  pub vacate_allowed : Admits shape v Clear intents.Vacate
  vacate_allowed = (SlotBits (s / 64), refl, word_in, free, (s, q.place, q.object, refl, inside, refl, q.here, q.slot, q.owes))

  pub vacate_act : (found : ℕ) → act_of shape v Clear intents.Vacate found ≡ Some (acts.Vacate s)
  vacate_act found = ap (λ (u : Place). and_act u (but_bit_of s) intents.Vacate) (place_at-number (extent_of shape) (SlotBits (s / 64)) word_in) ∙ ap (λ n. Some (acts.Vacate n)) (thing_left_but s)

  pub vacate_works : (found : ℕ) → working_after shape v Clear intents.Vacate found ≡ v.working
  vacate_works found = ap (λ (u : Place). working_and (number (extent_of shape)) v.working u (but_bit_of s) intents.Vacate) (place_at-number (extent_of shape) (SlotBits (s / 64)) word_in)
