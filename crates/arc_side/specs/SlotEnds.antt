-- The end of a slot: where it is after each word, and what it says then.
use Rattle.std.specs.Prelude.{ℕ, ◌≡◌, ◌≢◌, ◌<◌, ◌/◌, true, false, Option, Some, None, IfSome, ⊤}
use Rattle.arc_model.specs.declared.event.Act.{Act}
use Rattle.arc_model.specs.declared.event.Act.TheVariants as acts
use Rattle.arc_model.specs.declared.shape.Kind.TheVariants.{Weak}
use Rattle.arc_rule.specs.Bits.{but_bit_of}
use Rattle.arc_rule.specs.Extents.{Extent}
use Rattle.arc_rule.specs.Places.{number}
use Rattle.arc_rule.specs.declared.layout.Place.TheVariants as places
use Rattle.arc_rule.specs.declared.plan.Next.{Next}
use Rattle.arc_rule.specs.declared.plan.Next.TheVariants as nexts
use Rattle.arc_rule.specs.declared.step.Step.{Step}
use Rattle.arc_rule.specs.declared.step.Step.TheVariants.{Load, And}
use Rattle.arc_rule.specs.declared.step.Intent.{Intent}
use Rattle.arc_rule.specs.declared.step.Intent.TheVariants as intents
use Rattle.arc_rule.specs.declared.attempt.At.TheVariants as attempts
use Rattle.arc_plan.specs.declared.slots.Once.TheVariants as onces
use Rattle.arc_plan.specs.Slots.{vacating}
use Rattle.arc_side.specs.Entries.{EntryFall, entry_down_turned, entry_down_answer, entry_down_takes}
use Rattle.arc_side.specs.declared.entry_down.EntryDownAnswer.{EntryDownAnswer}
use Rattle.arc_side.specs.declared.entry_down.EntryDownAnswer.TheVariants.{More, Last, Again}
use Rattle.arc_side.specs.declared.slot_end.At.{At}
use Rattle.arc_side.specs.declared.slot_end.At.TheVariants.{Start, Vacating, Leaving, Returning, Ended}
use Rattle.arc_side.specs.declared.slot_end.SlotEndNext.{SlotEndNext}
use Rattle.arc_side.specs.declared.slot_end.SlotEndNext.TheVariants as says

-- the end of a slot whose object has this entry, or none
pub record SlotEnding : Type 0 where
  pub layout : Extent
  pub slot : ℕ
  pub entry : Option ℕ
  pub at : At
  pub event : Option Act

-- what a word makes of it, and what it says then
pub record SlotEndTurn : Type 0 where
  pub after : SlotEnding
  pub says : SlotEndNext

abbrev pub slot_end_from : Extent → ℕ → Option ℕ → SlotEnding
slot_end_from layout slot entry = record { layout = layout; slot = slot; entry = entry; at = Start; event = None }

abbrev pub asks : SlotEnding → At → Step → Intent → SlotEndTurn
asks p at step intent = record { after = record p { at = at }; says = says.Step step intent }

abbrev pub is_over : SlotEnding → SlotEndTurn
is_over p = record { after = record p { at = Ended }; says = says.Done }

-- the steps by which the slot's bit and the entry's bit are cleared
abbrev pub vacates : Extent → ℕ → Step
vacates layout slot = vacating (record { layout = layout; slot = slot; at = onces.Start })

abbrev pub gives_back : Extent → ℕ → Step
gives_back layout entry = And (number layout (places.EntryBits (entry / 64))) (but_bit_of entry)

-- the object's own weak holder is to go, in the entry's count
abbrev pub own_holder : Extent → ℕ → EntryFall
own_holder layout entry = record { layout = layout; entry = entry; list = Weak; at = attempts.Start }

abbrev pub leaves_entry : SlotEnding → ℕ → SlotEndTurn
leaves_entry p e = asks p (Leaving e (entry_down_turned (own_holder p.layout e) None)) (Load (number p.layout (places.Weak e))) intents.Gone

abbrev pub is_vacated : SlotEnding → Option ℕ → SlotEndTurn
is_vacated p None = is_over (record p { event = Some (acts.Vacate p.slot) })
is_vacated p (Some e) = leaves_entry (record p { event = Some (acts.Vacate p.slot) }) e

abbrev pub left_on : SlotEnding → ℕ → EntryFall → Next EntryDownAnswer → SlotEndTurn
left_on p e plan (nexts.Step step) = asks p (Leaving e plan) step intents.Gone
left_on p e plan (nexts.Done More) = is_over (record p { event = Some (acts.Gone e false) })
left_on p e plan (nexts.Done Last) = asks (record p { event = Some (acts.Gone e true) }) (Returning e) (gives_back p.layout e) intents.Back
left_on p e plan (nexts.Done (Again changed)) = leaves_entry p e

-- The slot is vacated; where the object has an entry its own weak holder goes, and where that was the last one the entry is given back.
abbrev pub slot_end_at : SlotEnding → Option ℕ → At → SlotEndTurn
slot_end_at p last Start = asks p Vacating (vacates p.layout p.slot) intents.Vacate
slot_end_at p last Vacating = is_vacated p p.entry
slot_end_at p last (Leaving e plan) = left_on p e (entry_down_turned plan last) (entry_down_answer plan last)
slot_end_at p last (Returning e) = is_over (record p { event = Some (acts.Back e) })
slot_end_at p last Ended = is_over p

abbrev pub slot_end_turn : SlotEnding → Option ℕ → SlotEndTurn
slot_end_turn p last = slot_end_at (record p { at = Ended; event = None }) last p.at

-- what it may be given: nothing at first, a count with a holder where the entry's is read, and then any word
abbrev pub slot_end_takes_at : Option ℕ → At → Type 0
slot_end_takes_at last Start = last ≡ None
slot_end_takes_at last Vacating = last ≢ None
slot_end_takes_at last (Leaving e plan) = entry_down_takes plan last
slot_end_takes_at last (Returning e) = last ≢ None
slot_end_takes_at last Ended = ⊥

abbrev pub slot_end_takes : SlotEnding → Option ℕ → Type 0
slot_end_takes p last = slot_end_takes_at last p.at

-- the entry whose count it reads, or which it gives back, is the layout's
abbrev pub IsInEntry : Extent → At → Type 0
IsInEntry layout (Leaving e plan) = e < layout.entries
IsInEntry layout (Returning e) = e < layout.entries
IsInEntry layout _ = ⊤

pub record IsSlotEnd (layout : Extent) (slot : ℕ) (entry : Option ℕ) (at : At) : Type 0 where
  pub slot_is : slot < layout.slots
  pub entry_is : IfSome entry (λ e. e < layout.entries)
  pub at_is : IsInEntry layout at
