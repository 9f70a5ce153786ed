-- Lines in their order, with room for so many.
use Rattle.std.specs.Prelude.{ℕ, List, [], ◌∷◌, ◌++◌, length, nat_lt, if◌then◌else◌}
use Rattle.arc_script.specs.declared.answer.Line.{Line}

pub record Kept : Type 0 where
  pub lines : List Line
  pub room : ℕ

-- a line that finds no room isn't kept
abbrev pub with_line : Line → Kept → Kept
with_line line k = record k { lines = if nat_lt (length k.lines) k.room then k.lines ++ line ∷ [] else k.lines }
