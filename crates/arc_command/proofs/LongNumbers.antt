-- What std's `parse` gives of a numeral, up to 2^64 - 1.
use Rattle.std.proofs.Common.{◌≡◌, ℕ, ◌-◌, ◌^◌, ◌<◌, ◌≤◌, Bool, true, false, cond, leb, ◌&&◌, List, [], ◌∷◌, length, Some, None, refl, ap, arith, rules, tests, Result, Err, inl, inr}
use Rattle.std.specs.List.{list_all}
use Rattle.std.specs.Char.{is_ascii_digit}
use Rattle.std.specs.Str.Parse.{digits_value, ParsesUnsigned}
use Rattle.std.proofs.lemmas.Str.Parse.{parse_digits}
use Rattle.std.proofs.lemmas.Result.{OkIff-at_err}
use Rattle.std.proofs.lemmas.Bool.{cases_lt}
use Rattle.arc_text.specs.Words.{is_numeral, number_in}
use Rattle.arc_text.proofs.Numbers.{own}

-- a numeral is digits, and not empty
numeral_digits : (word : List ℕ) → is_numeral word ≡ true → (list_all is_ascii_digit word ≡ true) × (0 < length word)
numeral_digits [] h = absurd cc
numeral_digits (d ∷ []) h = (search (rules, tests), omega arith)
numeral_digits (d ∷ e ∷ ds) h = (search (rules, tests), omega arith)

not_both : (a b : Bool) → b ≡ false → (a && b) ≡ false
not_both true b h = h
not_both false b h = refl

past : (word : List ℕ) → 2 ^ 64 ≤ digits_value 10 word → number_in 0 (2 ^ 64 - 1) word ≡ None
past word p =
    let e : leb (digits_value 10 word) (2 ^ 64 - 1) ≡ false = grind (arith, tests) in
    ap (λ b. cond b (Some (digits_value 10 word)) None) (not_both (is_numeral word) _ (not_both (leb 0 (digits_value 10 word)) (leb (digits_value 10 word) (2 ^ 64 - 1)) e))

-- where `parse` finds no number that fits, the word spells none
pub long_past : {E : Type 0} (word : List ℕ) (r : Result ℕ E) (d : E) → r ≡ Err d → is_numeral word ≡ true → ParsesUnsigned 64 10 word r → number_in 0 (2 ^ 64 - 1) word ≡ None
long_past word r d e h p =
    let ds = numeral_digits word h in
    let none : ¬ ((0 < length word) × (digits_value 10 word < 2 ^ 64)) = OkIff-at_err r _ _ d (parse_digits own 64 word r p ds.0) e in
    elim (cases_lt (digits_value 10 word) (2 ^ 64)) [ inl lt ↦ absurd (none (ds.1, lt)) | inr le ↦ past word le ]
