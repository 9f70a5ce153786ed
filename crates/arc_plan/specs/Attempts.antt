-- An attempt on the inline word of a slot, and which words it may be given.
use Rattle.std.specs.Prelude.{ℕ, ◌≤◌, ◌<◌, Option, Some, None, ⊤}
use Rattle.arc_bits.specs.declared.packing.Inline.{Inline}
use Rattle.arc_bits.specs.declared.packing.Word.{Word}
use Rattle.arc_bits.specs.declared.packing.Word.TheVariants.{Free, Counts, Slow, Immortal}
use Rattle.arc_rule.specs.declared.attempt.At.{At}
use Rattle.arc_rule.specs.Extents.{Extent}

-- an attempt on the inline word of a slot
pub record Attempt : Type 0 where
  pub layout : Extent
  pub slot : ℕ
  pub at : At

-- an attempt to count up there, up to a cap
pub record CappedAttempt : Type 0 where
  pub layout : Extent
  pub slot : ℕ
  pub cap : ℕ
  pub at : At

-- A slot's inline word that an attempt may be given: counts with a fact and with an unowned count of at least 1, the number of an entry, or
-- the word of an immortal object.
abbrev pub IsCountWord : ℕ → (Inline → Type 0) → Option Word → Type 0
IsCountWord entries Fact None = ⊥
IsCountWord entries Fact (Some Free) = ⊥
IsCountWord entries Fact (Some (Counts c)) = (1 ≤ c.unowned) × Fact c
IsCountWord entries Fact (Some (Slow e)) = e < entries
IsCountWord entries Fact (Some Immortal) = ⊤
