-- What the words of the command line ask for.
use Rattle.std.specs.Prelude.{Bool, true, false, ℕ, ◌-◌, ◌^◌, ◌≤◌, List, [], ◌∷◌, Option, Some, None, bytes_eq, codes, if◌then◌else◌}
use Rattle.arc_text.specs.Words.{number_in}
use Rattle.arc_command.specs.declared.command.Command.{Command}
use Rattle.arc_command.specs.declared.command.Command.TheVariants as command

-- a count and a start that are in range
abbrev pub script_of_numbers : Option ℕ → Option ℕ → Option Command
script_of_numbers (Some count) (Some start) = Some (command.Script count start)
script_of_numbers (Some count) None = None
script_of_numbers None start = None

abbrev pub script_asked : List ℕ → List ℕ → Option Command
script_asked count start = script_of_numbers (number_in 1 100000 count) (number_in 0 (2 ^ 64 - 1) start)

abbrev pub one_word : List ℕ → Option Command
one_word name =
    if bytes_eq name (codes "replay") then Some command.Replay else
    if bytes_eq name (codes "check") then Some command.Check else None

-- the table of words: `replay`, `check`, and `script COUNT START`
abbrev pub command_of : List (List ℕ) → Option Command
command_of (name ∷ []) = one_word name
command_of (name ∷ count ∷ start ∷ []) = if bytes_eq name (codes "script") then script_asked count start else None
command_of words = None

-- the count is one that a script can have
abbrev pub CountFits : Command → Type 0
CountFits command.Replay = Unit {0}
CountFits command.Check = Unit {0}
CountFits (command.Script count start) = (1 ≤ count) × (count ≤ 100000)

-- whether the command reads
abbrev pub reads : Command → Bool
reads command.Replay = true
reads command.Check = true
reads (command.Script count start) = false

abbrev pub is_reading : Option Command → Bool
is_reading None = false
is_reading (Some c) = reads c

-- the most bytes that are read: of a script's text, and of what `check` judges
abbrev pub limit_of : Option Command → ℕ
limit_of (Some command.Check) = 67108864
limit_of c = 8388608
