-- A run of class lines names no more classes than the text has lines.
use Rattle.std.proofs.Common.{ℕ, ◌+◌, ◌≤◌, Bool, true, false, cond, eqb, ◌&&◌, List, [], ◌∷◌, length, arith}
use Rattle.std.specs.Prelude.{bytes_eq, codes, slice_index}
use Rattle.arc_text.specs.Words.{words_of}
use Rattle.arc_script.specs.Said.{Grouped}
use Rattle.arc_script.specs.Group.{named, line_group, run_group}

few_named : (immortal : Bool) (words : List (List ℕ)) (later : List Grouped) → length (named immortal words later) ≤ length later + 1
few_named immortal [] later = omega arith
few_named immortal (name ∷ words) later = omega arith

chosen : (a : Bool) (xs ys : List Grouped) (n : ℕ) → length xs ≤ n → length ys ≤ n → length (cond a xs ys) ≤ n
chosen true xs ys n h k = h
chosen false xs ys n h k = k

few_more : (version : ℕ) (words : List (List ℕ)) (later : List Grouped) → length (line_group version words later) ≤ length later + 1
few_more version [] later = omega arith
few_more version (first ∷ words) later =
    chosen (eqb (slice_index first 0) 35) later _ (length later + 1) (omega arith)
    (chosen (bytes_eq first (codes "class")) (named false words later) _ (length later + 1) (few_named false words later)
    (chosen (bytes_eq first (codes "immortal") && eqb version 2) (named true words later) [] (length later + 1) (few_named true words later) (omega arith)))

few_names : (version : ℕ) (lines : List (List ℕ)) → length (run_group version lines) ≤ length lines
few_names version [] = omega arith
few_names version (line ∷ lines) = omega (arith, few_more version (words_of line) (run_group version lines), few_names version lines)

pub few_in_run : (version : ℕ) (immortal : Bool) (words lines : List (List ℕ)) → length (named immortal words (run_group version lines)) ≤ length lines + 1
few_in_run version immortal words lines = omega (arith, few_named immortal words (run_group version lines), few_names version lines)
