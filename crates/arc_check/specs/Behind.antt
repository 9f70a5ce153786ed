-- What may stand before a history text.
use Rattle.std.specs.Prelude.{◌≡◌, ℕ, List, ◌++◌}
use Rattle.arc_check.specs.EventTexts.{history_of}

-- the text behind it is read as if it stood alone
abbrev pub GoesBefore : List ℕ → Type 0
GoesBefore before = (text : List ℕ) → history_of (before ++ text) ≡ history_of text
