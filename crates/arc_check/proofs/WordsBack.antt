-- The words of an event are read as what they stand for.
use Rattle.std.proofs.Common.{◌≡◌, ℕ, ◌^◌, ◌-◌, ◌<◌, ◌≤◌, Bool, true, false, eqb, List, [], ◌∷◌, ◌++◌, length, Option, Some, None, refl, ap, ◌∙◌, arith, rules, tests, lit<, count_by}
use Rattle.std.specs.Prelude.{bytes_eq}
use Rattle.std.specs.List.{before_first, after_first}
use Rattle.std.specs.Char.{digit_value, is_ascii_digit}
use Rattle.std.specs.Fmt.{decimal}
use Rattle.std.specs.Str.Parse.{AllDigits}
use Rattle.std.proofs.lemmas.Fmt.{decimal_is_IsNumeral}
use Rattle.std.proofs.lemmas.Str.Parse.{digit_from_value}
use Rattle.arc_text.specs.Words.{number_in}
use Rattle.arc_model.specs.declared.event.Got.{Got}
use Rattle.arc_model.specs.declared.event.Got.TheVariants as got
use Rattle.arc_script.specs.Lookups.{is_at_sign}
use Rattle.arc_script_laws.proofs.Spelled.{number_back}
use Rattle.arc_script_laws.proofs.FormsBack.{is_mark, Without, before_mark, after_mark, no_marks, marks}
use Rattle.arc_check.specs.Scopes.{Naming, slot_in, entry_in, thread_in}
use Rattle.arc_check.specs.EventForms.{hand_in, hand_or_nil, got_in, last_in}
use Rattle.arc_check.specs.WrittenHistory.{last_word, got_word, hand_word, HandFits, HandOrNilFits, GotFits}

-- ---- digits

digit_is : (c : ℕ) → digit_value c < 10 → is_ascii_digit c ≡ true
digit_is c h = let d = digit_from_value c h in search (rules, tests)

digit_range : (c : ℕ) → digit_value c < 10 → (48 ≤ c) × (c ≤ 57)
digit_range c h = let d = digit_from_value c h in (omega arith, omega arith)

no_mark : (m c : ℕ) → (48 ≤ c) × (c ≤ 57) → (m < 48) → eqb c m ≡ false
no_mark m c r h = let low = r.0 in search (rules, tests)

no_letter : (m c : ℕ) → (48 ≤ c) × (c ≤ 57) → (57 < m) → eqb c m ≡ false
no_letter m c r h = let high = r.1 in search (rules, tests)

without_mark : (m : ℕ) → m < 48 → (ds : List ℕ) → AllDigits 10 ds → Without m ds
without_mark m low [] h = tt
without_mark m low (d ∷ ds) h = (no_mark m d (digit_range d h.0) low, without_mark m low ds h.1)

-- a number's word begins with a digit
pub record IsDigits (w : List ℕ) : Type 0 where
  pub first : ℕ
  pub rest : List ℕ
  pub is : w ≡ first ∷ rest
  pub digit : (48 ≤ first) × (first ≤ 57)
  pub dotless : Without 46 w

digits_first : (ds : List ℕ) → 0 < length ds → AllDigits 10 ds → IsDigits ds
digits_first [] some h = absurd (omega arith)
digits_first (d ∷ ds) some h = record { first = d; rest = ds; is = refl; digit = digit_range d h.0; dotless = without_mark 46 (lit< tt) (d ∷ ds) h }

pub decimal_digits : (n : ℕ) → n < 2 ^ 64 → IsDigits (decimal n)
decimal_digits n h = let d = (decimal_is_IsNumeral n h).0 in digits_first (decimal n) d.0 d.1

first_digit : (c : ℕ) → (48 ≤ c) × (c ≤ 57) → is_ascii_digit c ≡ true
first_digit c r = let low = r.0 in let high = r.1 in search (rules, tests)

pub begins_with_digit : (w : List ℕ) (i : IsDigits w) → is_ascii_digit i.first ≡ true
begins_with_digit w i = first_digit i.first i.digit

pub no_sign : (w rest : List ℕ) → IsDigits w → is_at_sign (w ++ rest) ≡ false
no_sign w rest i =
    let e = no_letter 64 i.first i.digit (lit< tt) in
    ap (λ (v : List ℕ). is_at_sign (v ++ rest)) i.is ∙ e

other_text : (m c : ℕ) (cs ds : List ℕ) → eqb c m ≡ false → bytes_eq (c ∷ cs) (m ∷ ds) ≡ false
other_text m c cs ds h = rw h refl

pub no_text : (m : ℕ) (ds w : List ℕ) → 57 < m → IsDigits w → bytes_eq w (m ∷ ds) ≡ false
no_text m ds w high i = ap (λ (v : List ℕ). bytes_eq v (m ∷ ds)) i.is ∙ other_text m i.first i.rest ds (no_letter m i.first i.digit high)

-- ---- numbers

pub hand_back : (k : ℕ) → HandFits k → hand_in (decimal k) ≡ Some k
hand_back k h = number_back 0 4294967295 k (omega arith) h (omega arith)

below : (n k : ℕ) → n ≤ 4096 → k < n → number_in 0 (n - 1) (decimal k) ≡ Some k
below n k few h = number_back 0 (n - 1) k (omega arith) (omega arith) (omega arith)

pub slot_back : (scope : Naming) (k : ℕ) → scope.slots ≤ 4096 → k < scope.slots → slot_in scope (decimal k) ≡ Some k
slot_back scope k few h = below scope.slots k few h

pub entry_back : (scope : Naming) (k : ℕ) → scope.entries ≤ 4096 → k < scope.entries → entry_in scope (decimal k) ≡ Some k
entry_back scope k few h = below scope.entries k few h

pub thread_back : (scope : Naming) (k : ℕ) → scope.threads ≤ 64 → k ≤ scope.threads → thread_in scope (decimal k) ≡ Some k
thread_back scope k few h = number_back 0 scope.threads k (omega arith) h (omega arith)

pub step_back : (k : ℕ) → k < 2 ^ 64 → number_in 0 (2 ^ 64 - 1) (decimal k) ≡ Some k
step_back k h = number_back 0 (2 ^ 64 - 1) k (omega arith) (omega arith) h

pub index_back : (k : ℕ) → k < 8 → number_in 0 7 (decimal k) ≡ Some k
index_back k h = number_back 0 7 k (omega arith) (omega arith) (omega arith)

pub last_back : (l : Bool) → last_in (last_word l) ≡ Some l
last_back true = refl
last_back false = refl

pub hand_or_nil_back : (o : Option ℕ) → HandOrNilFits o → hand_or_nil (hand_word o) ≡ Some o
hand_or_nil_back None h = refl
hand_or_nil_back (Some k) h =
    let no = no_text 110 (105 ∷ 108 ∷ []) (decimal k) (lit< tt) (decimal_digits k (omega arith)) in
    let back = hand_back k h in
    rw (no, back) refl

pub got_back : (g : Got) → GotFits g → got_in (got_word g) ≡ Some g
got_back got.Dead h = refl
got_back got.Nil h = refl
got_back (got.Hand k) h =
    let dead = no_text 100 (101 ∷ 97 ∷ 100 ∷ []) (decimal k) (lit< tt) (decimal_digits k (omega arith)) in
    let nil = no_text 110 (105 ∷ 108 ∷ []) (decimal k) (lit< tt) (decimal_digits k (omega arith)) in
    let back = hand_back k h in
    rw (dead, nil, back) refl

-- ---- parts of a cell

pub record HasParts (slot field : ℕ) : Type 0 where
  pub sign : is_at_sign (decimal slot ++ 46 ∷ decimal field) ≡ false
  pub one : count_by (is_mark 46) (decimal slot ++ 46 ∷ decimal field) ≡ 1
  pub first : before_first (is_mark 46) (decimal slot ++ 46 ∷ decimal field) ≡ decimal slot
  pub second : after_first (is_mark 46) (decimal slot ++ 46 ∷ decimal field) ≡ decimal field

pub parts_back : (slot field : ℕ) → slot < 2 ^ 64 → field < 2 ^ 64 → HasParts slot field
parts_back slot field s f =
    let ds = decimal_digits slot s in
    let df = decimal_digits field f in
    record {
      sign = no_sign (decimal slot) (46 ∷ decimal field) ds;
      one = marks 46 0 (decimal slot) (decimal field) ds.dotless (no_marks 46 (decimal field) df.dotless);
      first = before_mark 46 (decimal slot) (decimal field) ds.dotless;
      second = after_mark 46 (decimal slot) (decimal field) ds.dotless;
    }

pub record IsHandWord (hand : ℕ) : Type 0 where
  pub sign : is_at_sign (decimal hand) ≡ false
  pub none : count_by (is_mark 46) (decimal hand) ≡ 0

pub hand_word_back : (hand : ℕ) → hand < 2 ^ 64 → IsHandWord hand
hand_word_back hand h =
    let d = decimal_digits hand h in
    record {
      sign = ap is_at_sign d.is ∙ no_letter 64 d.first d.digit (lit< tt);
      none = no_marks 46 (decimal hand) d.dotless;
    }
