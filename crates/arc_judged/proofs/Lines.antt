-- Lines that begin with neither a blank nor an h, put together from parts without a newline.
use Rattle.std.proofs.Common.{◌≡◌, ℕ, zero, suc, ◌+◌, ◌/◌, ◌%◌, ◌<◌, ◌≤◌, Bool, true, false, cond, eqb, List, [], ◌∷◌, ◌++◌, length, refl, sym, ap, subst, ◌∙◌, append_assoc, arith, rules, tests}
use Rattle.std.specs.Prelude.{not, nat_lt}
use Rattle.std.proofs.Common.{◌-◌, replicate}
use Rattle.std.specs.List.{AllByRecursion, list_all}
use Rattle.std.specs.Fmt.{digit_glyph, digits_onto, digits, decimal, padded_integral, char_count}
use Rattle.arc_text.specs.Words.{is_newline, is_blank, is_name}
use Rattle.arc_script.proofs.Inverted.{both}
use Rattle.arc_script_laws.proofs.Spelled.{IsInk, name_word}
use Rattle.arc_report.specs.Leaks.{hex_text}
use Rattle.arc_check.specs.Behind.{GoesBefore}
use Rattle.arc_check.proofs.OtherLines.{Unbroken, line_before, other_letter}

pub joined : (xs ys : List ℕ) → Unbroken xs → Unbroken ys → Unbroken (xs ++ ys)
joined [] ys h k = k
joined (x ∷ xs) ys h k = (h.0, joined xs ys h.1 k)

no_newline : (b : ℕ) → not (is_newline b) ≡ true → is_newline b ≡ false
no_newline b h = search (rules, tests)

-- words that are written out
pub unbroken_test : (xs : List ℕ) → list_all (λ b. not (is_newline b)) xs ≡ true → Unbroken xs
unbroken_test [] h = tt
unbroken_test (x ∷ xs) h = let p = both (not (is_newline x)) (list_all (λ b. not (is_newline b)) xs) h in (no_newline x p.0, unbroken_test xs p.1)

-- begins with neither a blank nor an h
abbrev pub Opens : List ℕ → Type 0
Opens [] = ⊥
Opens (c ∷ cs) = (is_blank c ≡ false) × (eqb c 104 ≡ false) × Unbroken (c ∷ cs)

pub opens_unbroken : (w : List ℕ) → Opens w → Unbroken w
opens_unbroken [] o = absurd o
opens_unbroken (c ∷ cs) o = o.2

pub opens_more : (w v : List ℕ) → Opens w → Unbroken v → Opens (w ++ v)
opens_more [] v o u = absurd o
opens_more (c ∷ cs) v o u = (o.0, o.1, joined (c ∷ cs) v o.2 u)

-- ---- one line with its newline

pub record IsOneLine (text : List ℕ) : Type 0 where
  pub line : List ℕ
  pub is : text ≡ line ++ 10 ∷ []
  pub whole : Unbroken line

pub line_end : IsOneLine (10 ∷ [])
line_end = record { line = []; is = refl; whole = tt }

pub part : (xs text : List ℕ) → Unbroken xs → IsOneLine text → IsOneLine (xs ++ text)
part xs text u l = record { line = xs ++ l.line; is = ap (λ (t : List ℕ). xs ++ t) l.is ∙ sym (append_assoc xs l.line (10 ∷ [])); whole = joined xs l.line u l.whole }

pub opened : (w text : List ℕ) → Opens w → IsOneLine text → GoesBefore (w ++ text)
opened [] text o l = absurd o
opened (c ∷ cs) text o l =
    subst GoesBefore (ap (λ (t : List ℕ). (c ∷ cs) ++ t) (sym l.is))
    (subst GoesBefore (append_assoc (c ∷ cs) l.line (10 ∷ [])) (line_before (c ∷ (cs ++ l.line)) (joined (c ∷ cs) l.line o.2 l.whole) (other_letter c (cs ++ l.line) o.0 o.1)))

-- ---- numbers

-- a digit or a lower case letter up to f
abbrev pub IsDigit : ℕ → Type 0
IsDigit b = (48 ≤ b) × (b ≤ 102)

glyph : (r : ℕ) → r < 16 → IsDigit (digit_glyph false r)
glyph r h = go (nat_lt r 10) refl
  where
    go : (b : Bool) → nat_lt r 10 ≡ b → IsDigit (cond b (48 + r) (87 + r))
    go true is = (omega arith, omega (arith, h))
    go false is = (omega arith, omega (arith, h))

-- in a base of at most 16
onto_digits : (base : ℕ) → ((m : ℕ) → m % base < 16) → (k n : ℕ) (acc : List ℕ) → AllByRecursion IsDigit acc → AllByRecursion IsDigit (digits_onto k base false n acc)
onto_digits base few zero n acc h = h
onto_digits base few (suc k) n acc h =
    let last : AllByRecursion IsDigit (digit_glyph false (n % base) ∷ acc) = (glyph (n % base) (few n), h) in
    go (eqb (n / base) 0) last (onto_digits base few k (n / base) (digit_glyph false (n % base) ∷ acc) last)
  where
    go : (b : Bool) → AllByRecursion IsDigit (digit_glyph false (n % base) ∷ acc) → AllByRecursion IsDigit (digits_onto k base false (n / base) (digit_glyph false (n % base) ∷ acc)) →
        AllByRecursion IsDigit (cond b (digit_glyph false (n % base) ∷ acc) (digits_onto k base false (n / base) (digit_glyph false (n % base) ∷ acc)))
    go true last more = last
    go false last more = more

onto_some : (k n : ℕ) (acc : List ℕ) → 0 < k + length acc → 0 < length (digits_onto k 10 false n acc)
onto_some zero n acc h = omega arith
onto_some (suc k) n acc h = go (eqb (n / 10) 0) (onto_some k (n / 10) (digit_glyph false (n % 10) ∷ acc) (omega arith))
  where
    go : (b : Bool) → 0 < length (digits_onto k 10 false (n / 10) (digit_glyph false (n % 10) ∷ acc)) → 0 < length (cond b (digit_glyph false (n % 10) ∷ acc) (digits_onto k 10 false (n / 10) (digit_glyph false (n % 10) ∷ acc)))
    go true more = omega arith
    go false more = more

digit_inner : (b : ℕ) → IsDigit b → is_newline b ≡ false
digit_inner b h = search (rules, tests)

digit_first : (b : ℕ) → IsDigit b → (is_blank b ≡ false) × (eqb b 104 ≡ false)
digit_first b h = (search (rules, tests), search (rules, tests))

digits_unbroken : (ds : List ℕ) → AllByRecursion IsDigit ds → Unbroken ds
digits_unbroken [] h = tt
digits_unbroken (d ∷ ds) h = (digit_inner d h.0, digits_unbroken ds h.1)

digits_open : (ds : List ℕ) → 0 < length ds → AllByRecursion IsDigit ds → Opens ds
digits_open [] some h = absurd (omega arith)
digits_open (d ∷ ds) some h = let f = digit_first d h.0 in (f.0, f.1, digits_unbroken (d ∷ ds) h)

pub decimal_opens : (n : ℕ) → Opens (decimal n)
unfolding digits
decimal_opens n = digits_open (digits_onto 64 10 false n []) (onto_some 64 n [] (omega arith)) (onto_digits 10 (λ m. omega arith) 64 n [] tt)

pub decimal_unbroken : (n : ℕ) → Unbroken (decimal n)
decimal_unbroken n = opens_unbroken (decimal n) (decimal_opens n)

zeros_unbroken : (n : ℕ) → Unbroken (replicate n 48)
zeros_unbroken zero = tt
zeros_unbroken (suc n) = (refl, zeros_unbroken n)

pub hex_unbroken : (n : ℕ) → Unbroken (hex_text n)
unfolding padded_integral char_count digits
hex_unbroken n =
    let ds = digits_onto 64 16 false n [] in
    let whole = digits_unbroken ds (onto_digits 16 (λ m. omega arith) 64 n [] tt) in
    joined (replicate (16 - length ds - 0 - 0) 48) (ds ++ []) (zeros_unbroken (16 - length ds - 0 - 0)) (joined ds [] whole tt)

-- ---- names

ink_inner : (b : ℕ) → IsInk b → is_newline b ≡ false
ink_inner b h = search (rules, tests)

inks_unbroken : (w : List ℕ) → AllByRecursion IsInk w → Unbroken w
inks_unbroken [] h = tt
inks_unbroken (b ∷ bs) h = (ink_inner b h.0, inks_unbroken bs h.1)

pub name_unbroken : (n : List ℕ) → is_name n ≡ true → Unbroken n
name_unbroken n h = inks_unbroken n (name_word n h).inks
