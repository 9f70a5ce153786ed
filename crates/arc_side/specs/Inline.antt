-- The count of a list in the inline word of a slot, or in the entry that the inline word names.
use Rattle.std.specs.Prelude.{ℕ, Option, Some, None, ⊤}
use Rattle.arc_bits.specs.declared.packing.Word.{Word}
use Rattle.arc_bits.specs.declared.packing.Word.TheVariants.{Free, Counts, Slow, Immortal}
use Rattle.arc_bits.specs.Words.{unpacked}
use Rattle.arc_model.specs.declared.shape.Kind.{Kind}
use Rattle.arc_model.specs.declared.shape.Kind.TheVariants.{Strong, Unowned, Weak}
use Rattle.arc_rule.specs.declared.layout.Place.{Place}
use Rattle.arc_rule.specs.declared.layout.Place.TheVariants.{Count}
use Rattle.arc_rule.specs.declared.attempt.At.{At}
use Rattle.arc_rule.specs.declared.attempt.At.TheVariants.{Start, Loading, Exchanging, Ended}
use Rattle.arc_side.specs.Entries.{count_place}

-- an inline word counts these lists
abbrev pub IsCountedInline : Kind → Type 0
IsCountedInline Strong = ⊤
IsCountedInline Unowned = ⊤
IsCountedInline Weak = ⊥

-- the word that counts the list: that of the slot, until an entry is known
abbrev pub counted_at : Kind → ℕ → Option ℕ → Place
counted_at list slot None = Count slot
counted_at list slot (Some e) = count_place list e

-- the entry that an inline word names
abbrev pub entry_named : Option Word → Option ℕ
entry_named (Some (Slow e)) = Some e
entry_named (Some (Counts c)) = None
entry_named (Some Immortal) = None
entry_named (Some Free) = None
entry_named None = None

-- the entry to which an attempt goes on: the one that the inline word names that its load gave, where it has none yet
abbrev pub entry_met : Option ℕ → At → Option ℕ → Option ℕ
entry_met None Loading (Some w) = entry_named (unpacked w)
entry_met None Loading None = None
entry_met None Start last = None
entry_met None (Exchanging seen new) last = None
entry_met None Ended last = None
entry_met (Some e) at last = None

-- after the load of the inline word one of an entry's count and its exchange, after that of an entry's count its exchange
abbrev pub inline_leaves : Option ℕ → ℕ
inline_leaves None = 2
inline_leaves (Some e) = 1
