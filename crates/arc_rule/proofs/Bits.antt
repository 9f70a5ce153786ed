-- Bits of a word of bits: what an Or sets and an And clears, which thing a bit is of, and which word says that all are taken.
use Rattle.std.specs.Prelude.{bit_and, bit_or, min, max, nat_lt, ◌==◌}
use Rattle.std.proofs.Common.{◌≡◌, ◌≢◌, ℕ, zero, suc, ◌+◌, ◌-◌, ◌*◌, ◌/◌, ◌%◌, ◌^◌, ◌<◌, ◌≤◌, true, false, Bool, not, ◌&&◌, ◌||◌, cond, eqb, ltb, refl, sym, ap, subst, ◌∙◌, ⊎_elim, arith, pow_pos, mod-lt, eq-eqb, eqb-true, ne_eqb, pow-suc, lt-ltb, le-ltb, ltb-true, pow_mono}
use Rattle.std.proofs.lemmas.Nat.{or_lt, and_le_l, pow_below}
use Rattle.std.proofs.lemmas.Bool.{cases_eq, cases_lt}
use Rattle.std.specs.Int.{bit_at}
use Rattle.std.proofs.lemmas.Nat.Bits.{bit_at_and, bit_at_or, bit_at-pow_same, bit_at-pow_other, bit_at_not, bit_at_ones, bit_at_ones_above, bit_at-lt, bit_at-zero, and_pow, same_from_bits_below}
use Rattle.std.proofs.Common.{w64}
use Rattle.arc_rule.specs.Bits.{words_of, bit_of, but_bit_of, is_set, full_word, lowest, thing_of, thing_left, ShowsBits}

-- a test of a bit, by the bit's number
test_or : (a b : ℕ) → a < 2 → b < 2 → eqb (max a b) 1 ≡ eqb a 1 || eqb b 1
test_or zero zero p q = refl
test_or zero (suc zero) p q = refl
test_or (suc zero) zero p q = refl
test_or (suc zero) (suc zero) p q = refl
test_or zero (suc (suc b)) p q = absurd (omega arith)
test_or (suc zero) (suc (suc b)) p q = absurd (omega arith)
test_or (suc (suc a)) b p q = absurd (omega arith)

test_and : (a b : ℕ) → a < 2 → b < 2 → eqb (min a (1 - b)) 1 ≡ eqb a 1 && not (eqb b 1)
test_and zero zero p q = refl
test_and zero (suc zero) p q = refl
test_and (suc zero) zero p q = refl
test_and (suc zero) (suc zero) p q = refl
test_and zero (suc (suc b)) p q = absurd (omega arith)
test_and (suc zero) (suc (suc b)) p q = absurd (omega arith)
test_and (suc (suc a)) b p q = absurd (omega arith)

-- bit i of the power of bit j
test_pow : (i j : ℕ) → eqb (bit_at (2 ^ j) i) 1 ≡ eqb i j
test_pow i j = ⊎_elim
    (λ same. subst (λ k. eqb (bit_at (2 ^ j) k) 1 ≡ eqb k j) (sym same) (ap (λ b. eqb b 1) (bit_at-pow_same j) ∙ sym (eq-eqb j j refl)))
    (λ apart. ap (λ b. eqb b 1) (bit_at-pow_other j i apart) ∙ sym (ne_eqb i j apart))
    (cases_eq i j)

pub bit_of_below : (x : ℕ) → bit_of x < 2 ^ 64
bit_of_below x = pow_below (x % 64) 64 (omega arith)

pub set_by_or : (x y w : ℕ) → is_set x (bit_or w (bit_of y)) ≡ is_set x w || x % 64 == y % 64
set_by_or x y w =
    ap (λ b. eqb b 1) (bit_at_or w (bit_of y) (x % 64)) ∙ test_or _ _ (bit_at-lt w (x % 64)) (bit_at-lt (bit_of y) (x % 64)) ∙ ap (λ t. is_set x w || t) (test_pow (x % 64) (y % 64))

pub set_after_and : (x y w : ℕ) → is_set x (bit_and w (but_bit_of y)) ≡ is_set x w && not (x % 64 == y % 64)
set_after_and x y w =
    ap (λ b. eqb b 1) (bit_at_and w (but_bit_of y) (x % 64) ∙ ap (min (bit_at w (x % 64))) (bit_at_not w64 (bit_of y) (x % 64) (bit_of_below y) (omega arith)))
    ∙ test_and _ _ (bit_at-lt w (x % 64)) (bit_at-lt (bit_of y) (x % 64)) ∙ ap (λ t. is_set x w && not t) (test_pow (x % 64) (y % 64))

-- an Or finds the bit of a thing clear
pub clear_at : (x w : ℕ) → bit_and w (bit_of x) == 0 ≡ not (is_set x w)
clear_at x w = ap (λ a. eqb a 0) (and_pow w (x % 64)) ∙ go (bit_at w (x % 64)) (bit_at-lt w (x % 64)) (2 ^ (x % 64)) (pow_pos (x % 64))
  where
    go : (b : ℕ) → b < 2 → (power : ℕ) → 0 < power → eqb (b * power) 0 ≡ not (eqb b 1)
    go zero small power some = eq-eqb (0 * power) 0 (omega arith)
    go (suc zero) small power some = ne_eqb (1 * power) 0 (λ e. omega arith)
    go (suc (suc b)) small power some = absurd (omega arith)

pub or_below : (w y : ℕ) → w < 2 ^ 64 → bit_or w (bit_of y) < 2 ^ 64
or_below w y below = or_lt 64 w (bit_of y) below (bit_of_below y)

pub and_below : (w b : ℕ) → w < 2 ^ 64 → bit_and w b < 2 ^ 64
and_below w b below = omega (arith, and_le_l w b)

-- ---- which thing a bit is of

pub lowest_of_bit : (n b : ℕ) → b < n → lowest n (2 ^ b) ≡ b
lowest_of_bit zero b within = absurd (omega arith)
lowest_of_bit (suc n) zero within = refl
lowest_of_bit (suc n) (suc b) within = ap (λ t. cond t 0 (suc (lowest n (2 ^ suc b / 2)))) even ∙ ap (λ half. suc (lowest n half)) half ∙ ap suc (lowest_of_bit n b (omega arith))
  where
    even : eqb (2 ^ suc b % 2) 1 ≡ false
    even = ne_eqb (2 ^ suc b % 2) 1 (λ e. omega (arith, pow-suc 2 b))

    half : 2 ^ suc b / 2 ≡ 2 ^ b
    half = omega (arith, pow-suc 2 b)

pub thing_of_bit : (x : ℕ) → thing_of (x / 64) (bit_of x) ≡ x
thing_of_bit x = omega (arith, lowest_of_bit 64 (x % 64) (omega arith))

pub thing_left_but : (x : ℕ) → thing_left (x / 64) (but_bit_of x) ≡ x
thing_left_but x =
    let twice : 2 ^ 64 - 1 - but_bit_of x ≡ bit_of x = omega (arith, bit_of_below x) in
    ap (λ bits. thing_of (x / 64) bits) twice ∙ thing_of_bit x

-- two things of one word have different bits
pub same_thing : (x y : ℕ) → x / 64 ≡ y / 64 → x % 64 == y % 64 ≡ x == y
same_thing x y word = ⊎_elim
    (λ same. eq-eqb (x % 64) (y % 64) (ap (λ z. z % 64) same) ∙ sym (eq-eqb x y same))
    (λ apart. ne_eqb (x % 64) (y % 64) (λ e. apart (omega arith)) ∙ sym (ne_eqb x y apart))
    (cases_eq x y)

-- ---- the word that says that all are taken

pub full_below : (n k : ℕ) → full_word n k < 2 ^ 64
full_below n k =
    let most : 2 ^ min 64 (n - 64 * k) ≤ 2 ^ 64 = pow_mono {j = 64} (omega arith) in
    omega (arith, most, pow_pos (min 64 (n - 64 * k)))

pub set_in_full : (n x : ℕ) → is_set x (full_word n (x / 64)) ≡ nat_lt x n
set_in_full n x = ⊎_elim
    (λ lt. ap (λ b. eqb b 1) (bit_at_ones (min 64 (n - 64 * (x / 64))) (x % 64) (omega arith)) ∙ sym (lt-ltb x n lt))
    (λ le. ap (λ b. eqb b 1) (bit_at_ones_above (min 64 (n - 64 * (x / 64))) (x % 64) (omega arith)) ∙ sym (le-ltb x n le))
    (cases_lt x n)

-- words below 2 ^ 64 that have the same bits set are the same
pub same_bits : (k v w : ℕ) → v < 2 ^ 64 → w < 2 ^ 64 → ((x : ℕ) → x / 64 ≡ k → is_set x v ≡ is_set x w) → v ≡ w
same_bits k v w v_below w_below same = same_from_bits_below 64 v w v_below w_below bits
  where
    by_test : (a b : ℕ) → a < 2 → b < 2 → eqb a 1 ≡ eqb b 1 → a ≡ b
    by_test zero zero p q e = refl
    by_test (suc zero) (suc zero) p q e = refl
    by_test zero (suc zero) p q e = absurd (cc)
    by_test (suc zero) zero p q e = absurd (cc)
    by_test zero (suc (suc b)) p q e = absurd (omega arith)
    by_test (suc zero) (suc (suc b)) p q e = absurd (omega arith)
    by_test (suc (suc a)) b p q e = absurd (omega arith)

    bits : (i : ℕ) → i < 64 → bit_at v i ≡ bit_at w i
    bits i within =
        let place : (64 * k + i) % 64 ≡ i = omega arith in
        by_test _ _ (bit_at-lt v i) (bit_at-lt w i) (subst (λ j. eqb (bit_at v j) 1 ≡ eqb (bit_at w j) 1) place (same (64 * k + i) (omega arith)))

-- an Or with a bit that is set already changes nothing
pub or_again : (x w : ℕ) → w < 2 ^ 64 → is_set x w ≡ true → bit_or w (bit_of x) ≡ w
or_again x w below set = same_bits (x / 64) (bit_or w (bit_of x)) w (or_below w x below) below (λ y word. set_by_or y x w ∙ ap (λ t. is_set y w || t) (same_thing y x word) ∙ go y (y == x) refl)
  where
    go : (y : ℕ) → (t : Bool) → y == x ≡ t → is_set y w || t ≡ is_set y w
    go y true same = let at : is_set y w ≡ true = ap (λ z. is_set z w) (eqb-true y x same) ∙ set in ap (λ t. t || true) at ∙ sym at
    go y false other = or_false (is_set y w)
      where
        or_false : (t : Bool) → t || false ≡ t
        or_false true = refl
        or_false false = refl

-- ---- words that show which things are taken

module _ (n k : ℕ) where
  -- a word that shows all things of it taken is full
  pub full_where_all : (taken : ℕ → Bool) (w : ℕ) → ShowsBits n k taken w → ((x : ℕ) → x / 64 ≡ k → x < n → taken x ≡ true) → w ≡ full_word n k
  full_where_all taken w shows all = same_bits k w (full_word n k) (shows.below) (full_below n k) bits
    where
      both : (x : ℕ) → x / 64 ≡ k → (b : Bool) → nat_lt x n ≡ b → (b && taken x) ≡ b
      both x word true lt = all x word (ltb-true x n lt)
      both x word false lt = refl

      bits : (x : ℕ) → x / 64 ≡ k → is_set x w ≡ is_set x (full_word n k)
      bits x word = shows.bits x word ∙ both x word (nat_lt x n) refl ∙ subst (λ j. nat_lt x n ≡ is_set x (full_word n j)) word (sym (set_in_full n x))

  -- and one that is full shows them taken
  pub all_where_full : (taken : ℕ → Bool) (w : ℕ) → ShowsBits n k taken w → w ≡ full_word n k → (x : ℕ) → x / 64 ≡ k → x < n → taken x ≡ true
  all_where_full taken w shows full x word lt =
      let is : nat_lt x n ≡ true = lt-ltb x n lt in
      let set : is_set x w ≡ nat_lt x n = ap (is_set x) full ∙ subst (λ j. is_set x (full_word n j) ≡ nat_lt x n) word (set_in_full n x) in
      sym (ap (λ b. b && taken x) is) ∙ sym (shows.bits x word) ∙ set ∙ is

  -- the bit of a thing of it
  pub bit_shown : (taken : ℕ → Bool) (w : ℕ) → ShowsBits n k taken w → (x : ℕ) → x / 64 ≡ k → x < n → is_set x w ≡ taken x
  bit_shown taken w shows x word lt = shows.bits x word ∙ ap (λ b. b && taken x) (lt-ltb x n lt)

  -- a word says the same where the same things are taken
  pub shows_same : (taken taken' : ℕ → Bool) (w : ℕ) → ((x : ℕ) → x / 64 ≡ k → x < n → taken' x ≡ taken x) → ShowsBits n k taken w → ShowsBits n k taken' w
  shows_same taken taken' w same shows = record {
    below = shows.below;
    bits = λ x word. shows.bits x word ∙ go x word (nat_lt x n) refl;
  }
    where
      go : (x : ℕ) → x / 64 ≡ k → (b : Bool) → nat_lt x n ≡ b → (b && taken x) ≡ (b && taken' x)
      go x word true lt = sym (same x word (ltb-true x n lt))
      go x word false lt = refl

  -- an Or with the bit of a thing of it takes the thing
  pub shows_or : (taken taken' : ℕ → Bool) (w y : ℕ) → y / 64 ≡ k → y < n → ((x : ℕ) → taken' x ≡ taken x || x == y) → ShowsBits n k taken w → ShowsBits n k taken' (bit_or w (bit_of y))
  shows_or taken taken' w y word lt is shows = record {
    below = or_below w y (shows.below);
    bits = λ x here. set_by_or x y w ∙ ap (λ t. is_set x w || t) (same_thing x y (here ∙ sym word)) ∙ ap (λ b. b || x == y) (shows.bits x here) ∙ go x (x == y) refl ∙ ap (λ t. nat_lt x n && t) (sym (is x));
  }
    where
      go : (x : ℕ) → (b : Bool) → x == y ≡ b → (nat_lt x n && taken x) || b ≡ nat_lt x n && (taken x || b)
      go x true e = or_true (nat_lt x n && taken x) ∙ sym (ap (λ t. t && (taken x || true)) (lt-ltb x n (subst (λ z. z < n) (sym (eqb-true x y e)) lt)) ∙ or_true (taken x))
        where
          or_true : (t : Bool) → t || true ≡ true
          or_true true = refl
          or_true false = refl
      go x false e = or_false (nat_lt x n && taken x) ∙ ap (λ t. nat_lt x n && t) (sym (or_false (taken x)))
        where
          or_false : (t : Bool) → t || false ≡ t
          or_false true = refl
          or_false false = refl

  -- an And with each bit but that of a thing of it sets the thing free
  pub shows_and : (taken taken' : ℕ → Bool) (w y : ℕ) → y / 64 ≡ k → ((x : ℕ) → taken' x ≡ taken x && not (x == y)) → ShowsBits n k taken w → ShowsBits n k taken' (bit_and w (but_bit_of y))
  shows_and taken taken' w y word is shows = record {
    below = and_below w (but_bit_of y) (shows.below);
    bits = λ x here. set_after_and x y w ∙ ap (λ t. is_set x w && not t) (same_thing x y (here ∙ sym word)) ∙ ap (λ b. b && not (x == y)) (shows.bits x here)
        ∙ grouped (nat_lt x n) (taken x) (not (x == y)) ∙ ap (λ t. nat_lt x n && t) (sym (is x));
  }
    where
      grouped : (a b c : Bool) → (a && b) && c ≡ a && (b && c)
      grouped true b c = refl
      grouped false b c = refl

-- where nothing is taken, the word is 0
pub shows_none : (n k : ℕ) (taken : ℕ → Bool) → ((x : ℕ) → taken x ≡ false) → ShowsBits n k taken 0
shows_none n k taken none = record { below = pow_pos 64; bits = λ x here. ap (λ b. eqb b 1) (bit_at-zero (x % 64)) ∙ go (nat_lt x n) ∙ ap (λ t. nat_lt x n && t) (sym (none x)) }
  where
    go : (b : Bool) → false ≡ b && false
    go true = refl
    go false = refl
