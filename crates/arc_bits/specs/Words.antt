-- Which number an inline word is packed as.
use Rattle.std.specs.Prelude.{ℕ, ◌≡◌, ◌+◌, ◌-◌, ◌*◌, ◌/◌, ◌%◌, ◌^◌, ◌<◌, ◌≤◌, ◌⊎◌, ◌==◌, nat_lt, Bool, if◌then◌else◌, Option, Some, None, ⊤, ◌≢◌}
use Rattle.std.specs.Int.{bit_at}
use Rattle.arc_bits.specs.declared.packing.Inline.{Inline}
use Rattle.arc_bits.specs.declared.packing.Word.{Word}
use Rattle.arc_bits.specs.declared.packing.Word.TheVariants.{Free, Counts, Slow, Immortal}

abbrev pub flag : Bool → ℕ
flag b = if b then 1 else 0

abbrev pub counts_word : Inline → ℕ
counts_word c = 2 * c.unowned + 2 ^ 32 * flag c.deiniting + 2 ^ 33 * c.strong_extra

abbrev pub packed : Word → ℕ
packed Free = 0
packed (Counts c) = counts_word c
packed (Slow e) = 2 ^ 63 + e
packed Immortal = 1

-- each count has its bits, and not all of them are zero, since that is a free slot's word
pub record CountsFit (c : Inline) : Type 0 where
  pub strong : c.strong_extra < 2 ^ 30
  pub unowned : c.unowned < 2 ^ 31
  pub some : 0 < c.strong_extra + c.unowned + flag c.deiniting

abbrev pub IsPackable : Word → Type 0
IsPackable Free = ⊤
IsPackable (Counts c) = CountsFit c
IsPackable (Slow e) = e < 2 ^ 32
IsPackable Immortal = ⊤

-- the word packs to the number
pub record IsWordOf (w : Word) (n : ℕ) : Type 0 where
  pub packable : IsPackable w
  pub packed_is : packed w ≡ n

-- the counts in a number below 2 ^ 63
abbrev pub counts_of : ℕ → Inline
counts_of n = record { strong_extra = n / 2 ^ 33; unowned = n % 2 ^ 32 / 2; deiniting = n / 2 ^ 32 % 2 == 1 }

-- the word that packs to the number
unfoldable pub unpacked : ℕ → Option Word
unpacked n =
    if n == 0 then Some Free else
    if n == 1 then Some Immortal else
    if nat_lt n (2 ^ 63) then (if n % 2 == 0 then Some (Counts (counts_of n)) else None) else
    if nat_lt n (2 ^ 63 + 2 ^ 32) then Some (Slow (n - 2 ^ 63)) else None

-- bit 63 is clear and bit 0 is set in another number than 1, or bit 63 is set and one of the bits 32 to 62 is set
abbrev pub HasNoWord : ℕ → Type 0
HasNoWord n = ((bit_at n 63 ≡ 0) × (bit_at n 0 ≡ 1) × (n ≢ 1)) ⊎ ((bit_at n 63 ≡ 1) × ((k : ℕ) × (32 ≤ k) × (k ≤ 62) × (bit_at n k ≡ 1)))

-- the greatest strong extra count and the greatest unowned count that an inline word may be given
abbrev pub IsStrongCap : ℕ → Type 0
IsStrongCap cap = cap ≤ 1073741823

abbrev pub IsUnownedCap : ℕ → Type 0
IsUnownedCap cap = (1 ≤ cap) × (cap ≤ 2147483647)
