-- The bit words: one bit for each slot, and one for each entry, set while it is taken. Bit x % 64 of word x / 64 is that of thing x.
-- This project's own.
use Rattle.std.specs.Prelude.{ℕ, zero, suc, ◌≡◌, ◌+◌, ◌-◌, ◌*◌, ◌/◌, ◌%◌, ◌^◌, ◌<◌, ◌==◌, nat_lt, min, ◌&&◌, Bool, if◌then◌else◌}

-- how many words hold a bit for each of n things
abbrev pub words_of : ℕ → ℕ
words_of n = (n + 63) / 64

abbrev pub bit_of : ℕ → ℕ
bit_of x = 2 ^ (x % 64)

-- each bit of a word but that of the thing
abbrev pub but_bit_of : ℕ → ℕ
but_bit_of x = 2 ^ 64 - 1 - bit_of x

-- the bit of the thing in its word
abbrev pub is_set : ℕ → ℕ → Bool
is_set x w = w / 2 ^ (x % 64) % 2 == 1

-- word k of the bits of n things, all of which are taken
abbrev pub full_word : ℕ → ℕ → ℕ
full_word n k = 2 ^ min 64 (n - 64 * k) - 1

-- the place of the lowest bit that is set, among the first n
abbrev pub lowest : ℕ → ℕ → ℕ
lowest zero w = 0
lowest (suc n) w = if w % 2 == 1 then 0 else suc (lowest n (w / 2))

-- the thing whose bit, in word k, is the lowest of these
abbrev pub thing_of : ℕ → ℕ → ℕ
thing_of k bits = 64 * k + lowest 64 bits

-- the thing whose bit, in word k, isn't among these
abbrev pub thing_left : ℕ → ℕ → ℕ
thing_left k bits = thing_of k (2 ^ 64 - 1 - bits)

-- word k of the bits of n things: a bit is set exactly where the thing is taken, and those past the last thing are clear
pub record ShowsBits (n k : ℕ) (is_taken : ℕ → Bool) (w : ℕ) : Type 0 where
  pub below : w < 2 ^ 64
  pub bits : (x : ℕ) → x / 64 ≡ k → is_set x w ≡ (nat_lt x n && is_taken x)
