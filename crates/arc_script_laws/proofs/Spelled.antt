-- The lines and the words of a text that was put together from words.
use Rattle.std.proofs.Common.{◌≡◌, ℕ, ◌<◌, ◌≤◌, Bool, true, false, eqb, ltb, leb, ◌&&◌, ◌^◌, List, [], ◌∷◌, ◌++◌, length, map, get_or, Some, refl, sym, ap, ◌∙◌, append_assoc, arith, rules, tests, ◌⊎◌, inl, inr, zero, suc, ◌+◌}
use Rattle.std.specs.Prelude.{not, filter}
use Rattle.std.specs.List.{slice_split, flat_map, list_all, AllByRecursion}
use Rattle.std.specs.Char.{is_ascii_alphabetic, digit_value, is_ascii_digit}
use Rattle.std.specs.Fmt.{decimal}
use Rattle.std.specs.Str.Parse.{AllDigits}
use Rattle.std.proofs.lemmas.Fmt.{decimal_is_IsNumeral, first_decimal, decimal_digit}
use Rattle.std.proofs.lemmas.Str.Parse.{digit_from_value}
use Rattle.std.proofs.lemmas.List.{append-nil, length-append}
use Rattle.arc_text.specs.Words.{is_newline, is_blank, is_plain, is_name_byte, is_name, words_of, is_numeral, number_in}
use Rattle.arc_text.specs.Lines.{lines_of}
use Rattle.arc_script.specs.Canonical.{spaced, line_text, text_of}
use Rattle.arc_script.proofs.Inverted.{both}

-- a byte that stands in words alone
abbrev pub IsInk : ℕ → Type 0
IsInk b = (33 ≤ b) × (b ≤ 126)

pub record IsWord (w : List ℕ) : Type 0 where
  pub some : 0 < length w
  pub inks : AllByRecursion IsInk w

abbrev pub is_word : List ℕ → Bool
is_word w = not (eqb (length w) 0) && list_all (λ b. leb 33 b && leb b 126) w

ink : (b : ℕ) → (leb 33 b && leb b 126) ≡ true → IsInk b
ink b h = search (rules, tests)

inks_of : (w : List ℕ) → list_all (λ b. leb 33 b && leb b 126) w ≡ true → AllByRecursion IsInk w
inks_of [] h = tt
inks_of (b ∷ bs) h = let p = both (leb 33 b && leb b 126) (list_all (λ b. leb 33 b && leb b 126) bs) h in (ink b p.0, inks_of bs p.1)

-- words that are written out
pub word_from_test : (w : List ℕ) → is_word w ≡ true → IsWord w
word_from_test [] h = absurd cc
word_from_test (b ∷ bs) h = record { some = omega arith; inks = inks_of (b ∷ bs) (both (not (eqb (length (b ∷ bs)) 0)) _ h).1 }

-- ---- lines

-- the words with a space between each two
abbrev pub body : List (List ℕ) → List ℕ
body [] = []
body (first ∷ words) = first ++ flat_map spaced words

one_line : (xs ys : List ℕ) → AllByRecursion (λ b. is_newline b ≡ false) xs → lines_of (xs ++ 10 ∷ ys) ≡ xs ∷ lines_of ys
one_line [] ys h = refl
one_line (x ∷ xs) ys h = rw (h.0, one_line xs ys h.1) refl

not_newline : (b : ℕ) → IsInk b → is_newline b ≡ false
not_newline b h = search (rules, tests)

not_blank : (b : ℕ) → IsInk b → is_blank b ≡ false
not_blank b h = search (rules, tests)

plain : (b : ℕ) → IsInk b → is_plain b ≡ true
plain b h = search (rules, tests)

unbroken : (w rest : List ℕ) → AllByRecursion IsInk w → AllByRecursion (λ b. is_newline b ≡ false) rest → AllByRecursion (λ b. is_newline b ≡ false) (w ++ rest)
unbroken [] rest h k = k
unbroken (b ∷ bs) rest h k = (not_newline b h.0, unbroken bs rest h.1 k)

unbroken_rest : (ws : List (List ℕ)) → AllByRecursion IsWord ws → AllByRecursion (λ b. is_newline b ≡ false) (flat_map spaced ws)
unbroken_rest [] h = tt
unbroken_rest (w ∷ ws) h = (refl, unbroken w (flat_map spaced ws) h.0.inks (unbroken_rest ws h.1))

unbroken_body : (ws : List (List ℕ)) → AllByRecursion IsWord ws → AllByRecursion (λ b. is_newline b ≡ false) (body ws)
unbroken_body [] h = tt
unbroken_body (w ∷ ws) h = unbroken w (flat_map spaced ws) h.0.inks (unbroken_rest ws h.1)

line_is : (ws : List (List ℕ)) → line_text ws ≡ body ws ++ 10 ∷ []
line_is [] = refl
line_is (w ∷ ws) = sym (append_assoc w (flat_map spaced ws) (10 ∷ []))

pub lines_of_text : (ls : List (List (List ℕ))) → AllByRecursion (AllByRecursion IsWord) ls → lines_of (text_of ls) ≡ map body ls
lines_of_text [] h = refl
lines_of_text (l ∷ ls) h =
    let cut : line_text l ++ text_of ls ≡ body l ++ 10 ∷ text_of ls = rw (line_is l, append_assoc) refl in
    ap lines_of cut ∙ (one_line (body l) (text_of ls) (unbroken_body l h.0) ∙ ap (λ (rest : List (List ℕ)). body l ∷ rest) (lines_of_text ls h.1))

-- ---- words

split_at : (w rest : List ℕ) → AllByRecursion IsInk w → slice_split is_blank (w ++ 32 ∷ rest) ≡ w ∷ slice_split is_blank rest
split_at [] rest h = refl
split_at (b ∷ bs) rest h = rw (not_blank b h.0, split_at bs rest h.1) refl

split_end : (w : List ℕ) → AllByRecursion IsInk w → slice_split is_blank w ≡ w ∷ []
split_end [] h = refl
split_end (b ∷ bs) h = rw (not_blank b h.0, split_end bs h.1) refl

split_body : (w : List ℕ) (ws : List (List ℕ)) → AllByRecursion IsInk w → AllByRecursion IsWord ws → slice_split is_blank (w ++ flat_map spaced ws) ≡ w ∷ ws
split_body w [] h k = ap (slice_split is_blank) (append-nil w) ∙ split_end w h
split_body w (v ∷ vs) h k = split_at w (v ++ flat_map spaced vs) h ∙ ap (λ (rest : List (List ℕ)). w ∷ rest) (split_body v vs k.0.inks k.1)

kept : (ws : List (List ℕ)) → AllByRecursion IsWord ws → filter (λ w. not (eqb (length w) 0)) ws ≡ ws
kept [] h = refl
kept (w ∷ ws) h = let some : eqb (length w) 0 ≡ false = (let p = h.0.some in search (rules, tests)) in rw (some, kept ws h.1) refl

pub words_of_body : (w : List ℕ) (ws : List (List ℕ)) → IsWord w → AllByRecursion IsWord ws → words_of (body (w ∷ ws)) ≡ w ∷ ws
words_of_body w ws h k = ap (filter (λ (w : List ℕ). not (eqb (length w) 0))) (split_body w ws h.inks k) ∙ kept (w ∷ ws) (h, k)

plain_then : (w rest : List ℕ) → AllByRecursion IsInk w → list_all is_plain rest ≡ true → list_all is_plain (w ++ rest) ≡ true
plain_then [] rest h k = k
plain_then (b ∷ bs) rest h k = rw (plain b h.0) (plain_then bs rest h.1 k)

plain_rest : (ws : List (List ℕ)) → AllByRecursion IsWord ws → list_all is_plain (flat_map spaced ws) ≡ true
plain_rest [] h = refl
plain_rest (w ∷ ws) h = plain_then w (flat_map spaced ws) h.0.inks (plain_rest ws h.1)

pub plain_body : (w : List ℕ) (ws : List (List ℕ)) → IsWord w → AllByRecursion IsWord ws → list_all is_plain (body (w ∷ ws)) ≡ true
plain_body w ws h k = plain_then w (flat_map spaced ws) h.inks (plain_rest ws k)

-- ---- names

letter : (b : ℕ) → is_ascii_alphabetic b ≡ true → IsInk b
letter b h = search (rules, tests)

name_byte : (b : ℕ) → is_name_byte b ≡ true → IsInk b
name_byte b h = search (rules, tests)

name_bytes : (bs : List ℕ) → list_all is_name_byte bs ≡ true → AllByRecursion IsInk bs
name_bytes [] h = tt
name_bytes (b ∷ bs) h = let p = both (is_name_byte b) (list_all is_name_byte bs) h in (name_byte b p.0, name_bytes bs p.1)

pub name_word : (n : List ℕ) → is_name n ≡ true → IsWord n
name_word [] h = absurd cc
name_word (b ∷ bs) h =
    let p = both (is_ascii_alphabetic b) (ltb (length bs) 32 && list_all is_name_byte bs) h in
    let q = both (ltb (length bs) 32) (list_all is_name_byte bs) p.1 in
    record { some = omega arith; inks = (letter b p.0, name_bytes bs q.1) }

-- ---- numbers

digit_ink : (c : ℕ) → digit_value c < 10 → IsInk c × (is_ascii_digit c ≡ true)
digit_ink c h = let d = digit_from_value c h in ((omega arith, omega arith), search (rules, tests))

digits_inks : (ds : List ℕ) → AllDigits 10 ds → AllByRecursion IsInk ds
digits_inks [] h = tt
digits_inks (d ∷ ds) h = ((digit_ink d h.0).0, digits_inks ds h.1)

digits_pass : (ds : List ℕ) → AllDigits 10 ds → list_all is_ascii_digit ds ≡ true
digits_pass [] h = refl
digits_pass (d ∷ ds) h = rw ((digit_ink d h.0).1) (digits_pass ds h.1)

-- a number is spelled with no zero in front, 0 itself apart
numeral_from : (ds : List ℕ) → 0 < length ds → AllDigits 10 ds → (length ds ≡ 1) ⊎ (48 < get_or ds 0 0) → is_numeral ds ≡ true
numeral_from [] some h first = absurd (omega arith)
numeral_from (d ∷ []) some h first = (digit_ink d h.0).1
numeral_from (d ∷ e ∷ ds) some h (inl one) = absurd (omega arith)
numeral_from (d ∷ e ∷ ds) some h (inr first) = let no_zero : eqb d 48 ≡ false = search (rules, tests) in rw no_zero (digits_pass (d ∷ e ∷ ds) h)

pub decimal_word : (n : ℕ) → n < 2 ^ 64 → IsWord (decimal n)
decimal_word n h = let d = (decimal_is_IsNumeral n h).0 in record { some = d.0; inks = digits_inks (decimal n) d.1 }

one_or_more : (n : ℕ) → n < 2 ^ 64 → (length (decimal n) ≡ 1) ⊎ (48 < get_or (decimal n) 0 0)
one_or_more zero h = inl (ap length (decimal_digit 0 (omega arith)))
one_or_more (suc n) h = inr (first_decimal (suc n) (omega arith) h)

-- a number's decimals are read as the number
pub number_back : (low high n : ℕ) → low ≤ n → n ≤ high → n < 2 ^ 64 → number_in low high (decimal n) ≡ Some n
number_back low high n least most fits =
    let d = decimal_is_IsNumeral n fits in
    let spelled : is_numeral (decimal n) ≡ true = numeral_from (decimal n) d.0.0 d.0.1 (one_or_more n fits) in
    let above : leb low n ≡ true = search (rules, tests) in
    let below : leb n high ≡ true = search (rules, tests) in
    rw (spelled, d.1, above, below) refl

-- ---- words of parts

inks_append : (xs ys : List ℕ) → AllByRecursion IsInk xs → AllByRecursion IsInk ys → AllByRecursion IsInk (xs ++ ys)
inks_append [] ys h k = k
inks_append (x ∷ xs) ys h k = (h.0, inks_append xs ys h.1 k)

-- two words with a mark between them
pub marked_word : (m : ℕ) (xs ys : List ℕ) → IsInk m → IsWord xs → IsWord ys → IsWord (xs ++ m ∷ ys)
marked_word m xs ys mark x y =
    let long : length (xs ++ m ∷ ys) ≡ length xs + length (m ∷ ys) = length-append xs (m ∷ ys) in
    record { some = omega arith; inks = inks_append xs (m ∷ ys) x.inks (mark, y.inks) }

pub sign_word : (m : ℕ) (ys : List ℕ) → IsInk m → IsWord ys → IsWord (m ∷ ys)
sign_word m ys mark y = record { some = omega arith; inks = (mark, y.inks) }
