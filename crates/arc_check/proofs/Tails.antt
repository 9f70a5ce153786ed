-- What is left of a text behind some of its lines.
use Rattle.std.proofs.Common.{◌≡◌, ℕ, zero, suc, ◌+◌, ◌-◌, Bool, true, false, cond, List, [], ◌∷◌, length, drop, refl, sym, ap, ◌∙◌, arith, inl, inr}
use Rattle.std.specs.Prelude.{not}
use Rattle.std.specs.List.{onto_first, after_first, position_or_len}
use Rattle.std.proofs.lemmas.Bool.{cases_lt}
use Rattle.std.proofs.lemmas.List.{length-drop, drop-drop, drop_all}
use Rattle.arc_text.specs.Words.{is_newline}
use Rattle.arc_text.specs.Lines.{lines_of}
use Rattle.arc_script.specs.HeadingText.{after_lines}

-- what is left of a list, found again by its length
pub tail_again : {X : Type 0} (k : ℕ) (xs : List X) → drop (length xs - length (drop k xs)) xs ≡ drop k xs
tail_again k xs =
    let len : length (drop k xs) ≡ length xs - k = length-drop k xs in
    elim (cases_lt k (length xs)) [
      | inl lt ↦ (let e : length xs - length (drop k xs) ≡ k = omega arith in ap (λ (n : ℕ). drop n xs) e)
      | inr le ↦ (let e : length xs - length (drop k xs) ≡ length xs = omega arith in ap (λ (n : ℕ). drop n xs) e ∙ (drop_all (length xs) xs (omega arith) ∙ sym (drop_all k xs le)))
    ]

drop_one_onto : (b : ℕ) (ls : List (List ℕ)) → drop 1 (onto_first b ls) ≡ drop 1 ls
drop_one_onto b [] = refl
drop_one_onto b (l ∷ ls) = refl

one_less : (t : Bool) (b p : ℕ) (bs : List ℕ) → lines_of (drop (p + 1) bs) ≡ drop 1 (lines_of bs)
    → lines_of (drop (cond (not t) (1 + p) 0 + 1) (b ∷ bs)) ≡ drop 1 (cond t ([] ∷ lines_of bs) (onto_first b (lines_of bs)))
one_less true b p bs h = refl
one_less false b p bs h =
    let e : 1 + p + 1 ≡ suc (p + 1) = omega arith in
    rw e (h ∙ sym (drop_one_onto b (lines_of bs)))

-- behind the first newline stand the lines but the first
pub later_lines : (xs : List ℕ) → lines_of (after_first is_newline xs) ≡ drop 1 (lines_of xs)
later_lines [] = refl
later_lines (b ∷ bs) = one_less (is_newline b) b (position_or_len is_newline bs) bs (later_lines bs)

pub lines_behind : (n : ℕ) (xs : List ℕ) → lines_of (after_lines n xs) ≡ drop n (lines_of xs)
lines_behind zero xs = refl
lines_behind (suc n) xs =
    let one : n + 1 ≡ suc n = omega arith in
    later_lines (after_lines n xs) ∙ (ap (drop 1) (lines_behind n xs) ∙ (drop-drop 1 n (lines_of xs) ∙ ap (λ (k : ℕ). drop k (lines_of xs)) one))

-- what stands behind some lines is what is left behind some bytes
pub is_tail : (n at : ℕ) (xs : List ℕ) → (m : ℕ) × (after_lines n (drop at xs) ≡ drop m xs)
is_tail zero at xs = (at, refl)
is_tail (suc n) at xs =
    let t = is_tail n at xs in
    let p = position_or_len is_newline (after_lines n (drop at xs)) + 1 in
    (t.0 + p, ap (drop p) t.1 ∙ drop-drop p t.0 xs)

pub behind_again : (n at : ℕ) (xs : List ℕ) → drop (length xs - length (after_lines n (drop at xs))) xs ≡ after_lines n (drop at xs)
behind_again n at xs =
    let t = is_tail n at xs in
    ap (λ (ys : List ℕ). drop (length xs - length ys) xs) t.1 ∙ (tail_again t.0 xs ∙ sym t.1)
