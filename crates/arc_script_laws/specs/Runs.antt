-- The look-ahead of a class line, in words: some line of the unbroken run of class lines has the name as its second word, whatever
-- else that line has.
use Rattle.std.specs.Prelude.{◌≡◌, ℕ, Bool, List, ◌∷◌}
use Rattle.arc_text.specs.Words.{words_of}
use Rattle.arc_script.specs.Valid.{OfSecond}
use Rattle.arc_script.specs.Canonical.{class_word}
use Rattle.arc_script.specs.Accepted.{IsPassedOver}

pub data HasInRun (version : ℕ) (name : List ℕ) : List (List ℕ) → Type 0 where
  here : (immortal : Bool) (line : List ℕ) (rest words : List (List ℕ)) → OfSecond version immortal → words_of line ≡ class_word immortal ∷ name ∷ words → HasInRun version name (line ∷ rest)
  behind_class : (immortal : Bool) (line : List ℕ) (rest words : List (List ℕ)) → OfSecond version immortal → words_of line ≡ class_word immortal ∷ words → HasInRun version name rest → HasInRun version name (line ∷ rest)
  behind_passed : (line : List ℕ) (rest : List (List ℕ)) → IsPassedOver line → HasInRun version name rest → HasInRun version name (line ∷ rest)
