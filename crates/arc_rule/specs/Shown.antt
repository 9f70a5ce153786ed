-- The words show a heap: what the heap says of the word at each place. The heap says nothing of a next word, nor of the inline word and the
-- isa word of a free slot, nor of the words of an entry that belongs to no object. That the counts lie in the inline word, or in the side table entry
-- once there is one, is by RefCount.h; the layout is this project's own.
use Rattle.std.specs.Prelude.{ℕ, ◌≡◌, ◌+◌, ◌-◌, ◌≤◌, Bool, true, false, List, length, slice_index, Option, Some, None, ⊤}
use Rattle.arc_bits.specs.declared.packing.Inline.{Inline}
use Rattle.arc_bits.specs.declared.packing.Word.TheVariants.{Counts, Slow}
use Rattle.arc_bits.specs.Words.{packed}
use Rattle.arc_model.specs.declared.shape.Kind.{Kind}
use Rattle.arc_model.specs.declared.shape.Kind.TheVariants as kinds
use Rattle.arc_model.specs.Shapes.{HeapShape}
use Rattle.arc_model.specs.Heaps.{Object, Heap}
use Rattle.arc_model.specs.Heaps as holders
use Rattle.arc_model.specs.Holders.{is_empty, list_of, at_slot, at_entry, is_slot_taken, is_entry_taken}
use Rattle.arc_model.specs.Cells.{has_field, is_immortal}
use Rattle.arc_model.specs.References.{Reference, reference_of, name_of}
use Rattle.arc_rule.specs.Isa.{isa_word_of}
use Rattle.arc_rule.specs.Bits.{ShowsBits}
use Rattle.arc_rule.specs.Places.{IsPlace, extent_of, number}
use Rattle.arc_rule.specs.Places as places
use Rattle.arc_rule.specs.declared.layout.Place.{Place}
use Rattle.arc_rule.specs.declared.layout.Place.TheVariants.{Zero, Global, Count, Isa, Next, Field, Link, Strong, Unowned, Weak, SlotBits, EntryBits}

-- the counts of an object without an entry: its strong references but the first, and its unowned ones
abbrev pub counts_in : Object → Inline
counts_in o = record { strong_extra = length o.strong - 1; unowned = length o.unowned; deiniting = is_empty o.strong }

-- the inline word of an object: its counts, none above its cap, or the number of its entry
abbrev pub IsHeader : HeapShape → Object → Option ℕ → ℕ → Type 0
IsHeader shape o None w = (w ≡ packed (Counts (counts_in o))) × (length o.strong ≤ shape.caps.strong + 1) × (length o.unowned ≤ shape.caps.unowned)
IsHeader shape o (Some entry) w = w ≡ packed (Slow entry)

-- the inline word of an object whose class is immortal, and of any other
abbrev pub IsInline : Bool → HeapShape → Object → ℕ → Type 0
IsInline true shape o w = w ≡ 1
IsInline false shape o w = IsHeader shape o o.entry w

-- the inline word of a slot, by the object in it
abbrev pub ShowsCounts : HeapShape → Option Object → ℕ → Type 0
ShowsCounts shape None w = ⊤
ShowsCounts shape (Some o) w = IsInline (is_immortal shape o) shape o w

abbrev pub ShowsName : Option Object → ℕ → Type 0
ShowsName None w = ⊤
ShowsName (Some o) w = w ≡ isa_word_of (name_of o)

-- 0 for nil, else two more than the slot, or for a weak reference the entry, that it leads to
abbrev pub cell_word : Option Reference → ℕ
cell_word None = 0
cell_word (Some r) = r.place + 2

abbrev pub field_word_if : Bool → HeapShape → Heap → ℕ → Object → ℕ
field_word_if true shape heap field o = cell_word (reference_of (holders.Field o.id field) heap)
field_word_if false shape heap field o = 0

-- a field of the object in a slot; 0 behind the class's last field, and where the slot is free
abbrev pub field_word : HeapShape → Heap → ℕ → Option Object → ℕ
field_word shape heap field None = 0
field_word shape heap field (Some o) = field_word_if (has_field shape field o) shape heap field o

-- the link of an entry: one more than the slot of the object that has it, and once that is gone than some slot
abbrev pub IsLink : HeapShape → Option ℕ → ℕ → Type 0
IsLink shape None w = (1 ≤ w) × (w ≤ shape.slots)
IsLink shape (Some slot) w = w ≡ slot + 1

abbrev pub ShowsLink : HeapShape → Option Object → ℕ → Type 0
ShowsLink shape None w = ⊤
ShowsLink shape (Some o) w = IsLink shape o.slot w

-- a count of an entry: how many holders there are, not above the wide cap
abbrev pub ShowsHolders : HeapShape → Kind → Option Object → ℕ → Type 0
ShowsHolders shape kind None w = ⊤
ShowsHolders shape kind (Some o) w = (w ≡ length (list_of kind o)) × (w ≤ shape.caps.wide)

-- what the heap says of the word at a place
abbrev pub Says : HeapShape → Heap → Place → ℕ → Type 0
Says shape heap Zero w = w ≡ 0
Says shape heap (Global g) w = w ≡ cell_word (reference_of (holders.Global g) heap)
Says shape heap (Count slot) w = ShowsCounts shape (at_slot slot heap) w
Says shape heap (Isa slot) w = ShowsName (at_slot slot heap) w
Says shape heap (Next slot) w = ⊤
Says shape heap (Field slot field) w = w ≡ field_word shape heap field (at_slot slot heap)
Says shape heap (Link entry) w = ShowsLink shape (at_entry entry heap) w
Says shape heap (Strong entry) w = ShowsHolders shape kinds.Strong (at_entry entry heap) w
Says shape heap (Unowned entry) w = ShowsHolders shape kinds.Unowned (at_entry entry heap) w
Says shape heap (Weak entry) w = ShowsHolders shape kinds.Weak (at_entry entry heap) w
Says shape heap (SlotBits k) w = ShowsBits shape.slots k (λ s. is_slot_taken s heap) w
Says shape heap (EntryBits k) w = ShowsBits shape.entries k (λ e. is_entry_taken e heap) w

abbrev pub word_at : HeapShape → List ℕ → Place → ℕ
word_at shape words place = slice_index words (number (extent_of shape) place)

-- the words show the heap, but for some places
pub record ShowsBut (excepted : Place → Type 0) (shape : HeapShape) (heap : Heap) (words : List ℕ) : Type 0 where
  pub whole : length words ≡ places.word_count (extent_of shape)
  pub says : (place : Place) → IsPlace (extent_of shape) place → (excepted place → ⊥) → Says shape heap place (word_at shape words place)

-- with no exception
abbrev pub Shows : HeapShape → Heap → List ℕ → Type 0
Shows shape heap words = ShowsBut (λ place. ⊥) shape heap words
