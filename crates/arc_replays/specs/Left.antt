-- The words of a heap in which immortal objects alone are left.
use Rattle.std.specs.Prelude.{ℕ, ◌≡◌, ◌<◌, ◌/◌, true, false, List, [], length, slice_index}
use Rattle.arc_model.specs.Shapes.{HeapShape, class_at}
use Rattle.arc_bits.specs.Words.{unpacked}
use Rattle.arc_ops.specs.Takes.{IsInline}
use Rattle.arc_rule.specs.Bits.{is_set}
use Rattle.arc_rule.specs.Isa.{IsIsaWord, isa_name_of}
use Rattle.arc_rule.specs.Places.{extent_of, number, word_count}
use Rattle.arc_rule.specs.declared.layout.Place.TheVariants.{Count, Isa, SlotBits, EntryBits}

-- the word that names the object in a slot
abbrev pub isa_of : HeapShape → List ℕ → ℕ → ℕ
isa_of shape words s = slice_index words (number (extent_of shape) (Isa s))

-- the words of the slot are those of an immortal object
pub record IsImmortalSlot (shape : HeapShape) (words : List ℕ) (s : ℕ) : Type 0 where
  pub count : slice_index words (number (extent_of shape) (Count s)) ≡ 1
  pub named : IsIsaWord (isa_of shape words s)
  pub class_there : (isa_name_of (isa_of shape words s)).class < length shape.classes
  pub immortal : (class_at shape (isa_name_of (isa_of shape words s)).class).immortal ≡ true

-- the words of the slot name an object of a class of the heap, and its counts lie in the inline word
pub record IsBareSlot (shape : HeapShape) (words : List ℕ) (s : ℕ) : Type 0 where
  pub named : IsIsaWord (isa_of shape words s)
  pub class_there : (isa_name_of (isa_of shape words s)).class < length shape.classes
  pub inline : IsInline (unpacked (slice_index words (number (extent_of shape) (Count s))))

-- each slot that is taken is of an object that has no entry, and no entry is taken
pub record NoEntries (shape : HeapShape) (words : List ℕ) : Type 0 where
  pub whole : length words ≡ word_count (extent_of shape)
  pub slots : (s : ℕ) → s < shape.slots → is_set s (slice_index words (number (extent_of shape) (SlotBits (s / 64)))) ≡ true → IsBareSlot shape words s
  pub entries : (e : ℕ) → e < shape.entries → is_set e (slice_index words (number (extent_of shape) (EntryBits (e / 64)))) ≡ false

-- what an immortal object has in its fields stays with it; these have none
abbrev pub ImmortalsHaveNoFields : HeapShape → Type 0
ImmortalsHaveNoFields shape = (class : ℕ) → (class_at shape class).immortal ≡ true → (class_at shape class).fields ≡ []

-- each slot that is taken is of an immortal object, and no entry is taken
pub record OnlyImmortals (shape : HeapShape) (words : List ℕ) : Type 0 where
  pub whole : length words ≡ word_count (extent_of shape)
  pub slots : (s : ℕ) → s < shape.slots → is_set s (slice_index words (number (extent_of shape) (SlotBits (s / 64)))) ≡ true → IsImmortalSlot shape words s
  pub entries : (e : ℕ) → e < shape.entries → is_set e (slice_index words (number (extent_of shape) (EntryBits (e / 64)))) ≡ false
