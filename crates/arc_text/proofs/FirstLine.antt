-- The first line of a text, and how many lines there are at most.
use Rattle.std.proofs.Common.{◌≡◌, ℕ, suc, ◌+◌, ◌-◌, ◌≤◌, ◌<◌, Bool, true, false, cond, List, [], ◌∷◌, length, take, drop, Some, None, refl, sym, ap, ◌∙◌, arith}
use Rattle.std.specs.Prelude.{not, position}
use Rattle.std.specs.List.{onto_first, position_or_len}
use Rattle.std.proofs.lemmas.Bool.{ltb-false}
use Rattle.std.proofs.lemmas.List.{take_rest, take_all, drop_all}
use Rattle.arc_text.specs.Words.{is_newline}
use Rattle.arc_text.specs.Lines.{lines_of}

head : (t : Bool) (b : ℕ) (bs : List ℕ) (k : ℕ) → onto_first b (lines_of bs) ≡ (b ∷ take k bs) ∷ lines_of (drop (suc k) bs)
    → cond t ([] ∷ lines_of bs) (onto_first b (lines_of bs)) ≡ take (cond (not t) (1 + k) 0) (b ∷ bs) ∷ lines_of (drop (suc (cond (not t) (1 + k) 0)) (b ∷ bs))
head true b bs k h = refl
head false b bs k h = let e : 1 + k ≡ suc k = omega arith in rw e h

behind : (b : ℕ) (bs : List ℕ) → onto_first b (lines_of bs) ≡ (b ∷ take (position_or_len is_newline bs) bs) ∷ lines_of (drop (suc (position_or_len is_newline bs)) bs)
behind b [] = refl
behind b (c ∷ cs) = ap (onto_first b) (head (is_newline c) c cs (position_or_len is_newline cs) (behind c cs))

first_line_is : (xs : List ℕ) → 0 < length xs → lines_of xs ≡ take (position_or_len is_newline xs) xs ∷ lines_of (drop (suc (position_or_len is_newline xs)) xs)
first_line_is [] h = absurd (omega arith)
first_line_is (b ∷ bs) h = head (is_newline b) b bs (position_or_len is_newline bs) (behind b bs)

pos_some : (b : Bool) (m n : ℕ) → Some n ≡ cond b (Some m) None → m ≡ n
pos_some true m n e = cc
pos_some false m n e = absurd cc

pos_none : (b : Bool) (m : ℕ) → None ≡ cond b (Some m) None → b ≡ false
pos_none true m e = absurd cc
pos_none false m e = refl

pub at_some : (xs : List ℕ) (n : ℕ) → 0 < length xs → Some n ≡ position is_newline xs → lines_of xs ≡ take n xs ∷ lines_of (take (length xs - (n + 1)) (drop (n + 1) xs))
at_some xs n h e =
    let p : position_or_len is_newline xs ≡ n = pos_some _ _ n e in
    let s : n + 1 ≡ suc n = omega arith in
    rw (take_rest xs (n + 1), s, ← p) (first_line_is xs h)

pub at_none : (xs : List ℕ) → 0 < length xs → None ≡ position is_newline xs → lines_of xs ≡ xs ∷ lines_of (take (length xs - length xs) (drop (length xs) xs))
at_none xs h e =
    let far : length xs ≤ position_or_len is_newline xs = ltb-false _ _ (pos_none _ _ e) in
    let whole : take (position_or_len is_newline xs) xs ≡ xs = take_all _ xs far in
    let ended : drop (suc (position_or_len is_newline xs)) xs ≡ [] = drop_all (suc (position_or_len is_newline xs)) xs (omega arith) in
    let nothing : take (length xs - length xs) (drop (length xs) xs) ≡ [] = take_rest xs (length xs) ∙ drop_all (length xs) xs (omega arith) in
    first_line_is xs h ∙ (ap (λ (l : List ℕ). l ∷ lines_of (drop (suc (position_or_len is_newline xs)) xs)) whole ∙ ap (λ (t : List ℕ). xs ∷ lines_of t) (ended ∙ sym nothing))

few : (b : ℕ) (ls : List (List ℕ)) → length (onto_first b ls) ≤ length ls + 1
few b [] = omega arith
few b (l ∷ ls) = omega arith

few_at : (t : Bool) (b : ℕ) (ls : List (List ℕ)) (n : ℕ) → length ls ≤ n → length (cond t ([] ∷ ls) (onto_first b ls)) ≤ suc n
few_at true b ls n h = omega arith
few_at false b ls n h = omega (arith, few b ls)

-- no more lines than bytes
pub length-lines_of : (bs : List ℕ) → length (lines_of bs) ≤ length bs
length-lines_of [] = omega arith
length-lines_of (b ∷ bs) = few_at (is_newline b) b (lines_of bs) (length bs) (length-lines_of bs)
