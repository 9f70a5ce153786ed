-- An object is made, its name is read, and its slot is given up.
use Rattle.std.specs.Prelude.{ℕ, ◌≡◌, ◌≢◌, ◌+◌, ◌-◌, ◌/◌, ◌<◌, ◌==◌, nat_lt, bit_and, Bool, if◌then◌else◌, Option, Some, None, ⊤}
use Rattle.std.specs.Option.{unwrap_or}
use Rattle.arc_model.specs.declared.event.ObjectName.{ObjectName}
use Rattle.arc_rule.specs.declared.layout.Place.TheVariants.{Count, Isa, SlotBits}
use Rattle.arc_rule.specs.declared.step.Step.{Step}
use Rattle.arc_rule.specs.declared.step.Step.TheVariants.{Load, Store, Or, And}
use Rattle.arc_rule.specs.declared.step.Changed.{Changed}
use Rattle.arc_rule.specs.declared.plan.Next.{Next}
use Rattle.arc_rule.specs.declared.plan.Next.TheVariants as nexts
use Rattle.arc_rule.specs.Bits.{words_of, bit_of, but_bit_of}
use Rattle.arc_rule.specs.Extents.{Extent}
use Rattle.arc_rule.specs.Isa.{isa_word_of, isa_name_of, IsName, IsIsaWord}
use Rattle.arc_rule.specs.Places.{number}
use Rattle.arc_rule.specs.Plans.{Reading}
pub use Rattle.arc_plan.specs.Searches.{free_thing as free_slot, IsTaking}
use Rattle.arc_plan.specs.declared.slots.NewObjectAnswer.{NewObjectAnswer}
use Rattle.arc_plan.specs.declared.slots.NewObjectAnswer.TheVariants.{Slot, NoSlot, Again}
use Rattle.arc_plan.specs.declared.slots.Making.{Making}
use Rattle.arc_plan.specs.declared.slots.Making.TheVariants as makings
use Rattle.arc_plan.specs.declared.slots.Once.{Once}
use Rattle.arc_plan.specs.declared.slots.Once.TheVariants as onces

-- the making of the object with a name
pub record Creation : Type 0 where
  pub layout : Extent
  pub name : ObjectName
  pub immortal : Bool
  pub at : Making

-- a plan of one step on a word of a slot
pub record OneStep : Type 0 where
  pub layout : Extent
  pub slot : ℕ
  pub at : Once

-- the place of a word of the slots' bits, and of the one that has the slot's
abbrev pub bits_place : Extent → ℕ → ℕ
bits_place l word = number l (SlotBits word)

abbrev pub bits_place_of : Extent → ℕ → ℕ
bits_place_of l slot = bits_place l (slot / 64)

abbrev pub InSlots : Extent → Making → Type 0
InSlots l makings.Start = ⊤
InSlots l (makings.Looking word) = word < words_of l.slots
InSlots l (makings.Taking s seen) = IsTaking l.slots s seen
InSlots l (makings.Counting s) = s < l.slots
InSlots l (makings.Naming s) = s < l.slots
InSlots l makings.Ended = ⊤

pub record IsCreation (layout : Extent) (name : ObjectName) (at : Making) : Type 0 where
  pub name_fits : IsName name
  pub in_slots : InSlots layout at

-- a word of the slots' bits is read
abbrev pub looking : Extent → ℕ → Step
looking l word = Load (bits_place l word)

-- the slot is taken by its bit
abbrev pub taking : Extent → ℕ → Step
taking l s = Or (bits_place_of l s) (bit_of s)

-- the inline word of a new object: it has one strong reference, and one unowned reference on its behalf
abbrev pub new_word : Bool → ℕ
new_word immortal = if immortal then 1 else 2

abbrev pub counting : Extent → Bool → ℕ → Step
counting l immortal s = Store (number l (Count s)) (new_word immortal)

abbrev pub naming : Extent → ObjectName → ℕ → Step
naming l name s = Store (number l (Isa s)) (isa_word_of name)

abbrev pub making_takes : Making → Option ℕ → Type 0
making_takes makings.Start last = last ≡ None
making_takes (makings.Looking word) last = last ≢ None
making_takes (makings.Taking s seen) last = last ≢ None
making_takes (makings.Counting s) last = last ≢ None
making_takes (makings.Naming s) last = last ≢ None
making_takes makings.Ended last = ⊥

abbrev pub creation_takes : Creation → Option ℕ → Type 0
creation_takes p last = making_takes p.at last

-- after a word of the bits: the free slot is taken, if it has one; else the next word is read, if there is one
abbrev pub looked : ℕ → ℕ → ℕ → Option ℕ → Making
looked slots word seen (Some s) = makings.Taking s seen
looked slots word seen None = if nat_lt (word + 1) (words_of slots) then makings.Looking (word + 1) else makings.Ended

abbrev pub making_turned : ℕ → Making → ℕ → Making
making_turned slots makings.Start w = makings.Looking 0
making_turned slots (makings.Looking word) w = looked slots word w (free_slot slots word w)
making_turned slots (makings.Taking s seen) w = if bit_and w (bit_of s) == 0 then makings.Counting s else makings.Ended
making_turned slots (makings.Counting s) w = makings.Naming s
making_turned slots (makings.Naming s) w = makings.Ended
making_turned slots makings.Ended w = makings.Ended

-- the slot that its last step took: both words of the new object are still to be stored
abbrev pub slot_taken : Making → Option ℕ
slot_taken (makings.Counting s) = Some s
slot_taken _ = None

abbrev pub creation_turned : Creation → Option ℕ → Creation
creation_turned p last = record p { at = making_turned p.layout.slots p.at (unwrap_or last 0) }

-- NoSlot once each word has shown that its slots are taken
abbrev pub looked_answer : Extent → ℕ → Option ℕ → Next NewObjectAnswer
looked_answer l word (Some s) = nexts.Step (taking l s)
looked_answer l word None = if nat_lt (word + 1) (words_of l.slots) then nexts.Step (looking l (word + 1)) else nexts.Done NoSlot

-- The words of the bits in turn, until one has a clear bit; then that bit is set. Where another set it in the meantime, Again with
-- the two words; else the inline word and the name are stored.
abbrev pub making_answer : Creation → Making → ℕ → Next NewObjectAnswer
making_answer p makings.Start w = nexts.Step (looking p.layout 0)
making_answer p (makings.Looking word) w = looked_answer p.layout word (free_slot p.layout.slots word w)
making_answer p (makings.Taking s seen) w =
    if bit_and w (bit_of s) == 0 then nexts.Step (counting p.layout p.immortal s) else nexts.Done (Again (record { seen = seen; found = w }))
making_answer p (makings.Counting s) w = nexts.Step (naming p.layout p.name s)
making_answer p (makings.Naming s) w = nexts.Done (Slot s)
making_answer p makings.Ended w = nexts.Done NoSlot

abbrev pub creation_answer : Creation → Option ℕ → Next NewObjectAnswer
creation_answer p last = making_answer p p.at (unwrap_or last 0)

abbrev pub making_asked : Creation → Making → Option Step
making_asked p makings.Start = None
making_asked p (makings.Looking word) = Some (looking p.layout word)
making_asked p (makings.Taking s seen) = Some (taking p.layout s)
making_asked p (makings.Counting s) = Some (counting p.layout p.immortal s)
making_asked p (makings.Naming s) = Some (naming p.layout p.name s)
making_asked p makings.Ended = None

abbrev pub creation_asked : Creation → Option Step
creation_asked p = making_asked p p.at

-- at most the words of the bits, and three more
abbrev pub making_left : ℕ → Making → ℕ
making_left slots makings.Start = words_of slots + 3
making_left slots (makings.Looking word) = words_of slots + 2 - word
making_left slots (makings.Taking s seen) = 2
making_left slots (makings.Counting s) = 1
making_left slots (makings.Naming s) = 0
making_left slots makings.Ended = 0

abbrev pub creation_left : Creation → ℕ
creation_left p = making_left p.layout.slots p.at

-- the word in which the bit was clear, until the bit is set
abbrev pub making_rests : Extent → Making → Option Reading
making_rests l makings.Start = None
making_rests l (makings.Looking word) = None
making_rests l (makings.Taking s seen) = Some (record { place = bits_place_of l s; word = seen })
making_rests l (makings.Counting s) = None
making_rests l (makings.Naming s) = None
making_rests l makings.Ended = None

abbrev pub creation_rests : Creation → Option Reading
creation_rests p = making_rests p.layout p.at

abbrev pub creation_change : NewObjectAnswer → Option Changed
creation_change (Again c) = Some c
creation_change _ = None

-- a plan that rests on no word, and whose answer never says that one has changed
abbrev pub no_reading : {P : Type 0} → P → Option Reading
no_reading p = None

abbrev pub no_change : {A : Type 0} → A → Option Changed
no_change a = None

-- a plan of one step: nothing is given at first, and then a word of this kind
abbrev pub once_takes : (ℕ → Type 0) → Once → Option ℕ → Type 0
once_takes Fits onces.Start last = last ≡ None
once_takes Fits onces.Asked None = ⊥
once_takes Fits onces.Asked (Some w) = Fits w
once_takes Fits onces.Ended last = ⊥

abbrev pub once_turned : Once → Once
once_turned onces.Start = onces.Asked
once_turned onces.Asked = onces.Ended
once_turned onces.Ended = onces.Ended

abbrev pub one_turned : OneStep → Option ℕ → OneStep
one_turned p last = record p { at = once_turned p.at }

abbrev pub once_answer : {A : Type 0} → Step → A → Once → Next A
once_answer step a onces.Start = nexts.Step step
once_answer step a onces.Asked = nexts.Done a
once_answer step a onces.Ended = nexts.Done a

abbrev pub once_asked : Step → Once → Option Step
once_asked step onces.Start = None
once_asked step onces.Asked = Some step
once_asked step onces.Ended = None

abbrev pub once_left : Once → ℕ
once_left onces.Start = 1
once_left onces.Asked = 0
once_left onces.Ended = 0

abbrev pub one_left : OneStep → ℕ
one_left p = once_left p.at

abbrev pub vacating : OneStep → Step
vacating p = And (bits_place_of p.layout p.slot) (but_bit_of p.slot)

abbrev pub vacate_takes : OneStep → Option ℕ → Type 0
vacate_takes p last = once_takes (λ w. ⊤) p.at last

abbrev pub vacate_answer : OneStep → Option ℕ → Next (Unit {0})
vacate_answer p last = once_answer (vacating p) tt p.at

abbrev pub vacate_asked : OneStep → Option Step
vacate_asked p = once_asked (vacating p) p.at

abbrev pub reading_isa : OneStep → Step
reading_isa p = Load (number p.layout (Isa p.slot))

-- the word is the isa word of a name
abbrev pub name_of_takes : OneStep → Option ℕ → Type 0
name_of_takes p last = once_takes IsIsaWord p.at last

abbrev pub name_of_answer : OneStep → Option ℕ → Next ObjectName
name_of_answer p last = once_answer (reading_isa p) (isa_name_of (unwrap_or last 0)) p.at

abbrev pub name_of_asked : OneStep → Option Step
name_of_asked p = once_asked (reading_isa p) p.at
