-- What the final words say of slots and entries.
use Rattle.std.specs.Prelude.{ℕ, zero, suc, Bool, true, false, not, ◌≡◌, ◌-◌, ◌/◌, ◌<◌, ◌≤◌, ◌==◌, ◌&&◌, if◌then◌else◌, List, [], ◌∷◌, ◌++◌, length, slice_index, Option, Some, None, ⊤}
use Rattle.arc_bits.specs.declared.packing.Word.{Word}
use Rattle.arc_bits.specs.declared.packing.Word.TheVariants.{Free, Counts, Slow, Immortal}
use Rattle.arc_bits.specs.Words.{packed, unpacked}
use Rattle.arc_rule.specs.declared.layout.Place.{Place}
use Rattle.arc_rule.specs.declared.layout.Place.TheVariants as place
use Rattle.arc_rule.specs.Bits.{is_set}
use Rattle.arc_rule.specs.Extents.{Extent}
use Rattle.arc_rule.specs.Places.{number, word_count}
use Rattle.arc_rule.specs.Isa.{IsIsaWord, isa_name_of}

abbrev pub word_at : Extent → List ℕ → Place → ℕ
word_at l words p = slice_index words (number l p)

-- An object has the slot: its bit is set. The words of a free slot keep their last values, and mean nothing.
abbrev pub is_taken : Extent → List ℕ → ℕ → Bool
is_taken l words slot = is_set slot (word_at l words (place.SlotBits (slot / 64)))

-- an object has the entry: its bit is set
abbrev pub is_entry_taken : Extent → List ℕ → ℕ → Bool
is_entry_taken l words entry = is_set entry (word_at l words (place.EntryBits (entry / 64)))

-- whether the inline word, or else the entry, counts a strong reference; an immortal object has one for ever
abbrev pub is_live : Extent → List ℕ → Option Word → Bool
is_live l words (Some Free) = false
is_live l words (Some (Counts c)) = not c.deiniting
is_live l words (Some (Slow entry)) = not (word_at l words (place.Strong entry) == 0)
is_live l words (Some Immortal) = true
is_live l words None = false

-- an object has the slot, and has this entry
abbrev pub has_entry : Extent → List ℕ → ℕ → ℕ → Bool
has_entry l words slot entry = is_taken l words slot && (word_at l words (place.Count slot) == packed (Slow entry))

-- an object has the entry, and no slot any more; the link is the slot that it had, plus 1
abbrev pub is_freed : Extent → List ℕ → ℕ → Bool
is_freed l words entry =
    is_entry_taken l words entry && not (has_entry l words (word_at l words (place.Link entry) - 1) entry)

-- the numbers below n that pass, in order
unfoldable pub numbers_where : (ℕ → Bool) → ℕ → List ℕ
numbers_where test zero = []
numbers_where test (suc n) = numbers_where test n ++ (if test n then n ∷ [] else [])

-- an entry that is named is one of the layout's
abbrev pub EntryIsThere : Extent → Option Word → Type 0
EntryIsThere l (Some Free) = ⊤
EntryIsThere l (Some (Counts c)) = ⊤
EntryIsThere l (Some (Slow entry)) = entry < l.entries
EntryIsThere l (Some Immortal) = ⊤
EntryIsThere l None = ⊤

-- what a report relies on in the final words: words that show a heap have it
pub record AreFinalWords (l : Extent) (words : List ℕ) : Type 0 where
  pub whole : length words ≡ word_count l
  pub names : (slot : ℕ) → slot < l.slots → is_taken l words slot ≡ true → IsIsaWord (word_at l words (place.Isa slot))
  pub entries : (slot : ℕ) → slot < l.slots → is_taken l words slot ≡ true → EntryIsThere l (unpacked (word_at l words (place.Count slot)))
  pub links : (entry : ℕ) → entry < l.entries → is_entry_taken l words entry ≡ true → (1 ≤ word_at l words (place.Link entry)) × (word_at l words (place.Link entry) ≤ l.slots)

-- each object in a slot is of one of so many classes
abbrev pub ObjectsHaveClasses : ℕ → Extent → List ℕ → Type 0
ObjectsHaveClasses n l words =
    (slot : ℕ) → slot < l.slots → is_taken l words slot ≡ true → (isa_name_of (word_at l words (place.Isa slot))).class < n
