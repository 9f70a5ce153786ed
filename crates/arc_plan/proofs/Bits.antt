-- The lowest bit of a word that is clear.
use Rattle.std.proofs.Common.{◌≡◌, ◌⊎◌, inl, inr, ℕ, zero, suc, ◌+◌, ◌-◌, ◌*◌, ◌/◌, ◌%◌, ◌^◌, ◌<◌, ◌≤◌, ◌==◌, nat_lt, min, bit_and, Bool, cond, Option, None, Some, refl, sym, ap, ◌∙◌, subst, arith, zero-mul, ⊎_elim, ◌&&◌, w64}
use Rattle.std.proofs.lemmas.Nat.Bits.{bit_at-trailing_zeros, bit_at_not, bit_at_ones, and_pow}
use Rattle.std.proofs.lemmas.Bool.{lt-ltb, le-ltb, cases_lt}
use Rattle.std.specs.Int.{bit_at}
use lib.Count.{count_trailing_zeros, under}
use Rattle.arc_rule.specs.Bits.{is_set, full_word, lowest, thing_left, ShowsBits}
use Rattle.arc_rule.proofs.Bits.{full_below, set_in_full, same_bits}
use Rattle.arc_plan.specs.Searches.{free_thing, IsTaking}

-- the place of the lowest bit is what the processor counts
pub lowest_is : (k n : ℕ) → lowest k n ≡ count_trailing_zeros k n
unfolding count_trailing_zeros
lowest_is zero n = refl
lowest_is (suc k) n = go (lowest_is k (n / 2)) (n % 2) (omega arith)
  where
    go : lowest k (n / 2) ≡ count_trailing_zeros k (n / 2) → (d : ℕ) → d < 2 → cond (d == 1) 0 (suc (lowest k (n / 2))) ≡ under d (count_trailing_zeros k (n / 2))
    go half zero two = ap suc half
    go half (suc zero) two = refl
    go half (suc (suc d)) two = absurd (omega arith)

-- the lowest bit of none
lowest_of_none : lowest 64 0 ≡ 64
lowest_of_none = refl

abbrev pub rest : ℕ → ℕ
rest w = 2 ^ 64 - 1 - w

abbrev pub clear_place : ℕ → ℕ
clear_place w = lowest 64 (rest w)

-- a word of 64 bits, whose bits are all set, or which has a lowest clear one
pub record HasClear (w : ℕ) : Type 0 where
  pub below : clear_place w < 64
  pub clear : bit_at w (clear_place w) ≡ 0
  pub set : (i : ℕ) → i < clear_place w → bit_at w i ≡ 1

pub has_clear : (w : ℕ) → w + 1 < 2 ^ 64 → HasClear w
has_clear w less =
    let e : clear_place w ≡ count_trailing_zeros 64 (rest w) = lowest_is 64 (rest w) in
    let h = bit_at-trailing_zeros w64 (rest w) (omega arith) (omega arith) in
    let below : clear_place w < 64 = subst (λ t. t < 64) (sym e) h.0 in
    let one : bit_at (rest w) (clear_place w) ≡ 1 = subst (λ t. bit_at (rest w) t ≡ 1) (sym e) h.1 in
    record {
      below = below;
      clear = (let not_is = bit_at_not w64 w (clear_place w) (omega arith) below in omega (arith, one, not_is));
      set = λ i lt. let z : bit_at (rest w) i ≡ 0 = h.2 i (subst (λ t. i < t) e lt) in let not_is = bit_at_not w64 w i (omega arith) (omega (arith, lt, below)) in omega (arith, z, not_is);
    }

free_of : (n t s : ℕ) → Path (Option ℕ) (cond (nat_lt t n) (Some t) None) (Some s) → (t < n) × (t ≡ s)
free_of n t s e = go (cases_lt t n)
  where
    some_is : {x y : ℕ} → Path (Option ℕ) (Some x) (Some y) → x ≡ y
    some_is e = cc

    none_isnt : {X : Type 0} {y : ℕ} → Path (Option ℕ) None (Some y) → X
    none_isnt e = absurd (cc)

    go : (t < n) ⊎ (n ≤ t) → (t < n) × (t ≡ s)
    go (inl lt) = (lt, some_is (subst (λ b. Path (Option ℕ) (cond b (Some t) None) (Some s)) (lt-ltb t n lt) e))
    go (inr le) = none_isnt (subst (λ b. Path (Option ℕ) (cond b (Some t) None) (Some s)) (le-ltb t n le) e)

none_of : (n t : ℕ) → Path (Option ℕ) (cond (nat_lt t n) (Some t) None) None → n ≤ t
none_of n t e = go (cases_lt t n)
  where
    some_isnt : {X : Type 0} {y : ℕ} → Path (Option ℕ) (Some y) None → X
    some_isnt e = absurd (cc)

    go : (t < n) ⊎ (n ≤ t) → n ≤ t
    go (inl lt) = some_isnt (subst (λ b. Path (Option ℕ) (cond b (Some t) None) None) (lt-ltb t n lt) e)
    go (inr le) = le

-- no bit is clear in a word of 64 ones, or past it
no_clear : (w : ℕ) → 2 ^ 64 ≤ w + 1 → clear_place w ≡ 64
no_clear w full = ap (lowest 64) (let z : rest w ≡ 0 = omega (arith, full) in z) ∙ lowest_of_none

-- the slot that is found free is one of the word's, and its bit is clear
pub free_is_clear : (n k w s : ℕ) → free_thing n k w ≡ Some s → IsTaking n s w × (s / 64 ≡ k)
free_is_clear n k w s e = go (cases_lt (w + 1) (2 ^ 64))
  where
    found : (thing_left k w < min n (64 * (k + 1))) × (thing_left k w ≡ s)
    found = free_of (min n (64 * (k + 1))) (thing_left k w) s e

    go : (w + 1 < 2 ^ 64) ⊎ (2 ^ 64 ≤ w + 1) → IsTaking n s w × (s / 64 ≡ k)
    go (inr full) = absurd (let c = no_clear w full in let f = found.0 in omega (arith, c, f))
    go (inl less) =
        let h = has_clear w less in
        let f = found.0 in
        let same : 64 * k + clear_place w ≡ s = found.1 in
        let b = h.below in
        let place : s % 64 ≡ clear_place w = omega (arith, same, b) in (
          record {
            below = omega (arith, f, same);
            clear = ap (λ t. bit_and w (2 ^ t)) place ∙ (and_pow w (clear_place w) ∙ (ap (λ d. d * 2 ^ clear_place w) h.clear ∙ zero-mul (2 ^ clear_place w)));
          },
          omega (arith, same, b),
        )

-- where a word that shows which slots are taken has no free one, each of its slots is taken
pub none_free_is_full : (n k : ℕ) (taken : ℕ → Bool) (w : ℕ) → ShowsBits n k taken w → free_thing n k w ≡ None → w ≡ full_word n k
none_free_is_full n k taken w shows e = same_bits k w (full_word n k) shows.below (full_below n k) (λ x word. same x word (cases_lt x n))
  where
    none : min n (64 * (k + 1)) ≤ thing_left k w
    none = none_of (min n (64 * (k + 1))) (thing_left k w) e

    set : (x : ℕ) → x / 64 ≡ k → x < n → bit_at w (x % 64) ≡ 1
    set x word lt = ⊎_elim
        (λ less. (has_clear w less).set (x % 64) (omega (arith, none, word, lt)))
        (λ full. let all : w ≡ 2 ^ 64 - 1 = (let b = shows.below in omega (arith, full, b)) in ap (λ v. bit_at v (x % 64)) all ∙ bit_at_ones 64 (x % 64) (omega arith))
        (cases_lt (w + 1) (2 ^ 64))

    same : (x : ℕ) → x / 64 ≡ k → (x < n) ⊎ (n ≤ x) → is_set x w ≡ is_set x (full_word n k)
    same x word (inl lt) = ap (λ b. b == 1) (set x word lt) ∙ sym (subst (λ j. is_set x (full_word n j) ≡ nat_lt x n) word (set_in_full n x) ∙ lt-ltb x n lt)
    same x word (inr le) = shows.bits x word ∙ (ap (λ b. b && taken x) (le-ltb x n le) ∙ sym (subst (λ j. is_set x (full_word n j) ≡ nat_lt x n) word (set_in_full n x) ∙ le-ltb x n le))
