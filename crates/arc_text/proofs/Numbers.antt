-- What std's `parse` gives of a numeral.
use Rattle.std.proofs.Common.{◌≡◌, ℕ, ◌^◌, ◌<◌, ◌≤◌, Bool, true, false, cond, eqb, leb, ◌&&◌, List, [], ◌∷◌, length, get_or, Some, None, refl, sym, ap, ◌∙◌, arith, rules, tests, Result, Err, inl, inr}
use Rattle.std.specs.Prelude.{not}
use Rattle.std.specs.Fmt.{decimal}
use Rattle.std.proofs.lemmas.Fmt.{decimal-digits_value}
use Rattle.std.specs.List.{list_all}
use Rattle.std.specs.Char.{is_ascii_digit}
use Rattle.std.specs.Str.{IsUtf8}
use Rattle.std.specs.Str.Parse.{digits_value, ParsesUnsigned}
use Rattle.std.proofs.lemmas.Str.Parse.{IsDigitsTest, IsNumeralModel, numerals_by_value, parse_digits}
use Rattle.std.proofs.lemmas.Fmt.{IsAscii-from_digits}
use Rattle.std.proofs.lemmas.Str.{IsUtf8-from_ascii}
use Rattle.std.proofs.lemmas.Result.{OkIff-at_err}
use Rattle.std.proofs.lemmas.Bool.{cases_lt}
use Rattle.arc_text.specs.Words.{is_numeral, number_in}

digit_test : IsDigitsTest (λ ds. list_all is_ascii_digit ds ≡ true)
digit_test = search rules

pub own : IsNumeralModel (λ ds. list_all is_ascii_digit ds ≡ true) (digits_value 10)
own = numerals_by_value (λ ds. list_all is_ascii_digit ds ≡ true) digit_test

-- a numeral is digits, and not empty
numeral_digits : (word : List ℕ) → is_numeral word ≡ true → (list_all is_ascii_digit word ≡ true) × (0 < length word)
numeral_digits [] h = absurd cc
numeral_digits (d ∷ []) h = (search (rules, tests), omega arith)
numeral_digits (d ∷ e ∷ ds) h = (search (rules, tests), omega arith)

pub numeral_text : (word : List ℕ) → is_numeral word ≡ true → IsUtf8 word
numeral_text word h = IsUtf8-from_ascii word (IsAscii-from_digits word (own.to word (numeral_digits word h).0))

not_both : (a b : Bool) → b ≡ false → (a && b) ≡ false
not_both true b h = h
not_both false b h = refl

past : (low high : ℕ) (word : List ℕ) → high < 2 ^ 32 → 2 ^ 32 ≤ digits_value 10 word → number_in low high word ≡ None
past low high word h p =
    let e : leb (digits_value 10 word) high ≡ false = grind (arith, tests) in
    ap (λ b. cond b (Some (digits_value 10 word)) None) (not_both (is_numeral word) _ (not_both (leb low (digits_value 10 word)) (leb (digits_value 10 word) high) e))

-- where `parse` finds no number that fits, none is in range
pub parse_past : {E : Type 0} (low high : ℕ) (word : List ℕ) (r : Result ℕ E) (d : E) → r ≡ Err d → is_numeral word ≡ true → high < 2 ^ 32 → ParsesUnsigned 32 10 word r → number_in low high word ≡ None
parse_past low high word r d e h fits p =
    let ds = numeral_digits word h in
    let none : ¬ ((0 < length word) × (digits_value 10 word < 2 ^ 32)) = OkIff-at_err r _ _ d (parse_digits own 32 word r p ds.0) e in
    elim (cases_lt (digits_value 10 word) (2 ^ 32)) [ inl lt ↦ absurd (none (ds.1, lt)) | inr le ↦ past low high word fits le ]

-- ---- what a number that was read says

both : (a b : Bool) → (a && b) ≡ true → (a ≡ true) × (b ≡ true)
both true b h = (refl, h)
both false b h = absurd cc

chosen : (b : Bool) (n m : ℕ) → cond b (Some n) None ≡ Some m → (b ≡ true) × (n ≡ m)
chosen true n m e = (refl, cc)
chosen false n m e = absurd cc

numeral_is : (w : List ℕ) → is_numeral w ≡ true → (list_all is_ascii_digit w ≡ true) × (0 < length w) × (get_or w 0 0 ≡ 48 → length w ≡ 1)
numeral_is [] h = absurd cc
numeral_is (d ∷ []) h = (search (rules, tests), omega arith, λ _. refl)
numeral_is (d ∷ e ∷ ds) h =
    let p = both (not (eqb d 48)) (list_all is_ascii_digit (d ∷ e ∷ ds)) h in
    (p.1, omega arith, λ zero. absurd (let z : eqb d 48 ≡ true = search (rules, tests) in let n = p.0 in cc))

-- it is in its range
pub number_range : (low high : ℕ) (w : List ℕ) (n : ℕ) → number_in low high w ≡ Some n → (low ≤ n) × (n ≤ high)
number_range low high w n h =
    let c = chosen (is_numeral w && (leb low (digits_value 10 w) && leb (digits_value 10 w) high)) (digits_value 10 w) n h in
    let p = both (is_numeral w) (leb low (digits_value 10 w) && leb (digits_value 10 w) high) c.0 in
    let q = both (leb low (digits_value 10 w)) (leb (digits_value 10 w) high) p.1 in
    let below : digits_value 10 w ≤ high = (let t = q.1 in search (rules, tests)) in
    let above : low ≤ digits_value 10 w = (let t = q.0 in search (rules, tests)) in
    let is : digits_value 10 w ≡ n = c.1 in
    (omega arith, omega arith)

-- and the word is its decimal digits
pub number_spelled : (low high : ℕ) (w : List ℕ) (n : ℕ) → high < 2 ^ 64 → number_in low high w ≡ Some n → w ≡ decimal n
number_spelled low high w n fits h =
    let c = chosen (is_numeral w && (leb low (digits_value 10 w) && leb (digits_value 10 w) high)) (digits_value 10 w) n h in
    let p = both (is_numeral w) (leb low (digits_value 10 w) && leb (digits_value 10 w) high) c.0 in
    let q = both (leb low (digits_value 10 w)) (leb (digits_value 10 w) high) p.1 in
    let ds = numeral_is w p.0 in
    let below : digits_value 10 w ≤ high = (let t = q.1 in search (rules, tests)) in
    let text : decimal (digits_value 10 w) ≡ w = decimal-digits_value own w ds.0 ds.1 ds.2 (omega arith) in
    sym text ∙ ap decimal c.1
