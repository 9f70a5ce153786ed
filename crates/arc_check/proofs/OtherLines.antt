-- Lines that stand before a history text.
use Rattle.std.proofs.Common.{◌≡◌, ℕ, Option, Some, None, false, eqb, List, [], ◌∷◌, ◌++◌, length, refl, ap, ◌∙◌, append_assoc, suc, rules, tests}
use Rattle.std.specs.Prelude.{not, filter, is_some}
use Rattle.std.specs.List.{AllByRecursion, flat_map, slice_split, onto_first}
use Rattle.arc_text.specs.Words.{is_newline, is_blank}
use Rattle.arc_text.specs.Lines.{lines_of}
use Rattle.arc_check.specs.EventTexts.{version_said, version_begun, starts, started_by, behind_start, from_start, history_of}
use Rattle.arc_check.specs.Behind.{GoesBefore}

abbrev pub Unbroken : List ℕ → Type 0
Unbroken line = AllByRecursion (λ b. is_newline b ≡ false) line

one_line : (xs ys : List ℕ) → Unbroken xs → lines_of (xs ++ 10 ∷ ys) ≡ xs ∷ lines_of ys
one_line [] ys h = refl
one_line (x ∷ xs) ys h = rw (h.0, one_line xs ys h.1) refl

passed_by : (line : List ℕ) (lines : List (List ℕ)) → starts line ≡ false → behind_start (line ∷ lines) ≡ behind_start lines
passed_by line lines h = go (version_begun line) h
  where
    go : (v : Option ℕ) → is_some v ≡ false → started_by v lines (behind_start lines) ≡ behind_start lines
    go None h = refl
    go (Some v) h = absurd cc

pub line_before : (line : List ℕ) → Unbroken line → starts line ≡ false → GoesBefore (line ++ 10 ∷ [])
line_before line whole other text =
    ap (λ (ls : List (List ℕ)). from_start (behind_start ls)) (ap lines_of (append_assoc line (10 ∷ []) text) ∙ one_line line text whole)
    ∙ ap from_start (passed_by line (lines_of text) other)

pub none_before : GoesBefore []
none_before text = refl

pub both_before : (first second : List ℕ) → GoesBefore first → GoesBefore second → GoesBefore (first ++ second)
both_before first second a b text = ap history_of (append_assoc first second text) ∙ (a (second ++ text) ∙ b text)

pub each_before : {X : Type 0} (P : X → Type 0) (f : X → List ℕ) → ((x : X) → P x → GoesBefore (f x)) → (xs : List X) → AllByRecursion P xs → GoesBefore (flat_map f xs)
each_before P f each [] h = none_before
each_before P f each (x ∷ xs) h = both_before (f x) (flat_map f xs) (each x h.0) (each_before P f each xs h.1)

-- ---- a line that begins with another letter

two_words : (c : ℕ) (l : List ℕ) (ws : List (List ℕ)) → eqb c 104 ≡ false → version_said ((c ∷ l) ∷ ws) ≡ None
two_words c l [] h = refl
two_words c l (w ∷ []) h = rw h refl
two_words c l (w ∷ v ∷ ws) h = refl

first_word : (c : ℕ) (ls : List (List ℕ)) → eqb c 104 ≡ false → version_said (filter (λ (w : List ℕ). not (eqb (length w) 0)) (onto_first c ls)) ≡ None
first_word c [] h = refl
first_word c (l ∷ ls) h =
    let some : eqb (suc (length l)) 0 ≡ false = search (rules, tests) in
    rw some (two_words c l (filter (λ (w : List ℕ). not (eqb (length w) 0)) ls) h)

letter_begins : (c : ℕ) (cs : List ℕ) → is_blank c ≡ false → eqb c 104 ≡ false → version_begun (c ∷ cs) ≡ None
unfolding version_begun
letter_begins c cs blank h = rw blank (first_word c (slice_split is_blank cs) h)

pub other_letter : (c : ℕ) (cs : List ℕ) → is_blank c ≡ false → eqb c 104 ≡ false → starts (c ∷ cs) ≡ false
other_letter c cs blank h = ap is_some (letter_begins c cs blank h)
