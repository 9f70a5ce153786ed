-- The place of each word.
use Rattle.std.specs.Prelude.{ℕ, ◌==◌, nat_lt, ◌+◌, ◌-◌, ◌*◌, ◌/◌, ◌%◌, ◌<◌, if◌then◌else◌, length, ⊤}
use Rattle.arc_model.specs.Shapes.{HeapShape}
use Rattle.arc_rule.specs.Extents.{Extent, IsExtent}
use Rattle.arc_rule.specs.Bits.{words_of}
use Rattle.arc_rule.specs.declared.layout.Place.{Place}
use Rattle.arc_rule.specs.declared.layout.Place.TheVariants.{Zero, Global, Count, Isa, Next, Field, Link, Strong, Unowned, Weak, SlotBits, EntryBits}

abbrev pub extent_of : HeapShape → Extent
extent_of shape = record { globals = length shape.globals; slots = shape.slots; entries = shape.entries }

abbrev pub ExtentFits : Extent → Type 0
ExtentFits l = IsExtent l.globals l.slots l.entries

-- the thing is one of the heap's
abbrev pub IsPlace : Extent → Place → Type 0
IsPlace l Zero = ⊤
IsPlace l (Global g) = g < l.globals
IsPlace l (Count s) = s < l.slots
IsPlace l (Isa s) = s < l.slots
IsPlace l (Next s) = s < l.slots
IsPlace l (Field s f) = (s < l.slots) × (f < 8)
IsPlace l (Link e) = e < l.entries
IsPlace l (Strong e) = e < l.entries
IsPlace l (Unowned e) = e < l.entries
IsPlace l (Weak e) = e < l.entries
IsPlace l (SlotBits k) = k < words_of l.slots
IsPlace l (EntryBits k) = k < words_of l.entries

abbrev pub slot_start : Extent → ℕ → ℕ
slot_start l s = 1 + l.globals + 11 * s

abbrev pub entry_start : Extent → ℕ → ℕ
entry_start l e = 1 + l.globals + 11 * l.slots + 4 * e

-- behind the entries stand the bit words of the slots, and behind them those of the entries
abbrev pub bits_start : Extent → ℕ
bits_start l = entry_start l l.entries

-- where the word is in the table
abbrev pub number : Extent → Place → ℕ
number l Zero = 0
number l (Global g) = 1 + g
number l (Count s) = slot_start l s
number l (Isa s) = slot_start l s + 1
number l (Next s) = slot_start l s + 2
number l (Field s f) = slot_start l s + 3 + f
number l (Link e) = entry_start l e
number l (Strong e) = entry_start l e + 1
number l (Unowned e) = entry_start l e + 2
number l (Weak e) = entry_start l e + 3
number l (SlotBits k) = bits_start l + k
number l (EntryBits k) = bits_start l + words_of l.slots + k

abbrev pub word_count : Extent → ℕ
word_count l = bits_start l + words_of l.slots + words_of l.entries

-- the word of a slot, and that of an entry, by its place among the slot's or the entry's words
abbrev pub in_slot : ℕ → ℕ → Place
in_slot s k = if k == 0 then Count s else if k == 1 then Isa s else if k == 2 then Next s else Field s (k - 3)

abbrev pub in_entry : ℕ → ℕ → Place
in_entry e k = if k == 0 then Link e else if k == 1 then Strong e else if k == 2 then Unowned e else Weak e

-- what lies at a place of the table
unfoldable pub place_at : Extent → ℕ → Place
place_at l n =
    if n == 0 then Zero else
    if nat_lt n (slot_start l 0) then Global (n - 1) else
    if nat_lt n (entry_start l 0) then in_slot ((n - slot_start l 0) / 11) ((n - slot_start l 0) % 11) else
    if nat_lt n (bits_start l) then in_entry ((n - entry_start l 0) / 4) ((n - entry_start l 0) % 4) else
    if nat_lt n (bits_start l + words_of l.slots) then SlotBits (n - bits_start l) else
    EntryBits (n - (bits_start l + words_of l.slots))
