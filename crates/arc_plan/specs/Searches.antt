-- The search for a free thing, a slot or an entry, by the words that hold a bit for each.
use Rattle.std.specs.Prelude.{ℕ, ◌≡◌, ◌+◌, ◌*◌, ◌<◌, nat_lt, min, bit_and, if◌then◌else◌, Option, Some, None}
use Rattle.arc_rule.specs.Bits.{words_of, bit_of, thing_left}

-- the lowest of n things whose bit, in this word of their bits, is clear, if there is one
abbrev pub free_thing : ℕ → ℕ → ℕ → Option ℕ
free_thing n word bits = let x = thing_left word bits in if nat_lt x (min n (64 * (word + 1))) then Some x else None

-- the bit of one of n things is clear in the word that was read
pub record IsTaking (n thing seen : ℕ) : Type 0 where
  pub below : thing < n
  pub clear : bit_and seen (bit_of thing) ≡ 0

-- after a word of the bits of n things: a free thing of the word is taken; else the next word is looked at, and behind the last one there is none
abbrev pub after_look : {A : Type 0} → ℕ → (ℕ → A) → (ℕ → A) → A → ℕ → Option ℕ → A
after_look n take look none word (Some x) = take x
after_look n take look none word None = if nat_lt (word + 1) (words_of n) then look (word + 1) else none
