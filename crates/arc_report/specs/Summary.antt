-- The summary of a generated script's replay.
use Rattle.std.specs.Prelude.{ℕ, List, ◌++◌, codes}
use Rattle.std.specs.Fmt.{decimal}

-- a word, its number and the line's end
abbrev pub figure_text : List ℕ → ℕ → List ℕ
figure_text word n = word ++ (codes " " ++ (decimal n ++ codes "\n"))

abbrev pub storm_text : ℕ → ℕ → List ℕ
storm_text count start = codes "storm " ++ (decimal count ++ (codes " " ++ (decimal start ++ codes "\n")))

abbrev pub summary : ℕ → ℕ → ℕ → ℕ → ℕ → List ℕ
summary count start objects deinits leaks =
    storm_text count start
    ++ (figure_text (codes "operations") count
    ++ (figure_text (codes "objects") objects
    ++ (figure_text (codes "deinits") deinits
    ++ figure_text (codes "leaks") leaks)))
