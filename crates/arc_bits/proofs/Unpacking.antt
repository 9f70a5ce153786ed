-- The words of numbers, and the bits of those that have none.
use Rattle.std.proofs.Common.{◌≡◌, Option, Some, IfSome, refl, true, false, Bool, ◌≢◌, ℕ, ◌+◌, ◌-◌, ◌*◌, ◌/◌, ◌%◌, ◌^◌, ◌<◌, ◌≤◌, inr, ⊎_elim, ap, ◌∙◌, subst, arith, rules}
use Rattle.std.proofs.lemmas.Bool.{cases_lt}
use Rattle.std.proofs.lemmas.Nat.Bits.{bit_at_cat_low, bit_at_cat_high, bit_at_above, bit_at-trailing_zeros}
use Rattle.std.specs.Int.{bit_at, w64, trailing_zeros}
use Rattle.arc_bits.specs.declared.packing.Word.{Word}
use Rattle.arc_bits.specs.declared.packing.Word.TheVariants.{Free, Counts, Slow, Immortal}
use Rattle.arc_bits.specs.Words.{counts_of, packed, unpacked, IsPackable, IsWordOf, HasNoWord, flag}

pub slow_is : (n : ℕ) → 2 ^ 63 ≤ n → n < 2 ^ 63 + 2 ^ 32 → IsWordOf (Slow (n - 2 ^ 63)) n
slow_is n above below = record { packable = omega arith; packed_is = omega arith }

pub counts_are : (n : ℕ) → n ≢ 0 → n < 2 ^ 63 → n % 2 ≢ 1 → IsWordOf (Counts (counts_of n)) n
counts_are n some below even = search rules

-- a slow word has no bit from 32 to 62
pub slow_has_word : (n : ℕ) → 2 ^ 63 ≤ n → n < 2 ^ 63 + 2 ^ 32 → HasNoWord n → ⊥
slow_has_word n above below = ⊎_elim
    (λ (b : (bit_at n 63 ≡ 0) × (bit_at n 0 ≡ 1) × (n ≢ 1)). omega (arith, b.0))
    (λ (b : (bit_at n 63 ≡ 1) × ((k : ℕ) × (32 ≤ k) × (k ≤ 62) × (bit_at n k ≡ 1))). no_bit b.1.0 b.1.1 b.1.2 b.1.3)
  where
    no_bit : (k : ℕ) → 32 ≤ k → k ≤ 62 → bit_at n k ≡ 1 → ⊥
    no_bit k low high is =
        let split : 1 * 2 ^ 63 + (n - 2 ^ 63) ≡ n = omega arith in
        let low_bits : bit_at (1 * 2 ^ 63 + (n - 2 ^ 63)) k ≡ bit_at (n - 2 ^ 63) k = bit_at_cat_low 1 63 (n - 2 ^ 63) k (omega arith) in
        let none : bit_at (n - 2 ^ 63) k ≡ 0 = bit_at_above (n - 2 ^ 63) 32 k (omega arith) low in
        let same : bit_at n k ≡ 0 = subst (λ (m : ℕ). bit_at m k ≡ 0) split (low_bits ∙ none) in
        cc

-- where a number of 31 bits isn't 0, one of its bits is set
some_bit : (m : ℕ) → 0 < m → m < 2 ^ 31 → (t : ℕ) × (t < 31) × (bit_at m t ≡ 1)
some_bit m some below =
    let found = bit_at-trailing_zeros w64 m some (omega arith) in
    let t : ℕ = trailing_zeros w64 m in
    let within : t < 31 = ⊎_elim
    (λ (lt : t < 31). lt)
    (λ (ge : 31 ≤ t). let none : bit_at m t ≡ 0 = bit_at_above m 31 t below ge in let set : bit_at m t ≡ 1 = found.1 in absurd (cc))
    (cases_lt t 31) in
    (t, within, found.1)

-- a number past the slow words has one of the bits 32 to 62
pub past_slow : (n : ℕ) → 2 ^ 63 + 2 ^ 32 ≤ n → n < 2 ^ 64 → HasNoWord n
past_slow n above below = with_bit (some_bit (n / 2 ^ 32 - 2 ^ 31) (omega arith) (omega arith))
  where
    with_bit : (t : ℕ) × (t < 31) × (bit_at (n / 2 ^ 32 - 2 ^ 31) t ≡ 1) → HasNoWord n
    with_bit b =
        let t : ℕ = b.0 in
        let within : t < 31 = b.1 in
        let high : ℕ = n / 2 ^ 32 in
        let low : bit_at (1 * 2 ^ 31 + (high - 2 ^ 31)) t ≡ bit_at (high - 2 ^ 31) t = bit_at_cat_low 1 31 (high - 2 ^ 31) t within in
        let split : 1 * 2 ^ 31 + (high - 2 ^ 31) ≡ high = omega arith in
        let here : bit_at high t ≡ 1 = subst (λ (m : ℕ). bit_at m t ≡ 1) split (low ∙ b.2) in
        let shifted : bit_at (high * 2 ^ 32 + n % 2 ^ 32) (32 + t) ≡ bit_at high (32 + t - 32) = bit_at_cat_high high 32 (n % 2 ^ 32) (32 + t) (omega arith) (omega arith) in
        let whole : high * 2 ^ 32 + n % 2 ^ 32 ≡ n = omega arith in
        let back : 32 + t - 32 ≡ t = omega arith in
        let bit : bit_at n (32 + t) ≡ 1 = subst (λ (m : ℕ). bit_at m (32 + t) ≡ 1) whole (shifted ∙ ap (λ m. bit_at high m) back ∙ here) in
        inr (omega arith, (32 + t, omega arith, omega arith, bit))

counts_back : (s u : ℕ) (d : Bool) → s < 2 ^ 30 → u < 2 ^ 31 → 0 < s + u + flag d → unpacked (2 * u + 2 ^ 32 * flag d + 2 ^ 33 * s) ≡ Some (Counts (record { strong_extra = s; unowned = u; deiniting = d }))
unfolding unpacked
counts_back s u true p q r = search rules
counts_back s u false p q r = search rules

-- what is packed is unpacked again
pub unpacked-packed : (w : Word) → IsPackable w → unpacked (packed w) ≡ Some w
unfolding unpacked
unpacked-packed Free fits = refl
unpacked-packed (Counts c) fits = counts_back c.strong_extra c.unowned c.deiniting fits.strong fits.unowned fits.some
unpacked-packed (Slow e) fits = search rules
unpacked-packed Immortal fits = refl

-- a number's word packs to it
unpacked_packs : (n : ℕ) → IfSome (unpacked n) (λ w. IsWordOf w n)
unfolding unpacked
unpacked_packs n = search (rules, slow_is, counts_are)

pub unpacked_is : (n : ℕ) (w : Word) → unpacked n ≡ Some w → IsWordOf w n
unpacked_is n w is = let P : Option Word → Type 0 = λ o. IfSome o (λ v. IsWordOf v n) in subst P is (unpacked_packs n)
