-- The group of a class line: the unbroken run of class lines in which it stands. Lines that are passed over don't break it.
use Rattle.std.specs.Prelude.{ℕ, Bool, true, false, ◌&&◌, List, [], ◌∷◌, map, ◌==◌, if◌then◌else◌, bytes_eq, codes, slice_index}
use Rattle.arc_text.specs.Words.{words_of}
use Rattle.arc_script.specs.declared.script.ClassDecl.{ClassDecl}
use Rattle.arc_script.specs.Said.{Grouped}

-- the second word of a class line, if it has one, before what comes later
abbrev pub named : Bool → List (List ℕ) → List Grouped → List Grouped
named immortal [] later = later
named immortal (name ∷ words) later = record { name = name; immortal = immortal } ∷ later

-- in version 1 a line that begins with `immortal` is no class line
abbrev pub line_group : ℕ → List (List ℕ) → List Grouped → List Grouped
line_group version [] later = later
line_group version (first ∷ words) later =
    if slice_index first 0 == 35 then later else
    if bytes_eq first (codes "class") then named false words later else
    if bytes_eq first (codes "immortal") && version == 2 then named true words later else []

-- what the run names which begins with these lines
abbrev pub run_group : ℕ → List (List ℕ) → List Grouped
run_group version [] = []
run_group version (line ∷ lines) = line_group version (words_of line) (run_group version lines)

abbrev pub group_names : List Grouped → List (List ℕ)
group_names group = map (λ (g : Grouped). g.name) group

abbrev pub group_immortals : List Grouped → List Bool
group_immortals group = map (λ (g : Grouped). g.immortal) group

-- what the lines of these classes name
abbrev pub group_of : List ClassDecl → List Grouped
group_of classes = map (λ (c : ClassDecl). record { name = c.name; immortal = c.immortal }) classes
