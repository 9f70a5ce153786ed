-- The words of a command line, and how one is found.
use Rattle.std.specs.Prelude.{◌≡◌, ℕ, ◌<◌, ◌≤◌, List, [], length, take, slice_get, nat_le, if◌then◌else◌, Option, Some, None, option_map, IfSome, IsSomeAnd}
use Rattle.arc_command.specs.declared.words.Found.{Found}
use Rattle.arc_command.specs.declared.words.Found.TheVariants as found

-- word i, where it is told, is found so, with these bytes in the buffer then
abbrev pub Finds : Option (List (List ℕ)) → ℕ → Found → List ℕ → Type 0
Finds told i (found.Word n) into = (n ≤ length into) × IfSome told (λ words. slice_get words i ≡ Some (take n into))
Finds told i found.TooLong into = IfSome told (λ words. IsSomeAnd (slice_get words i) (λ word. length into < length word))
Finds told i found.Absent into = IfSome told (λ words. slice_get words i ≡ None)

-- a word as it is read: one that is longer than any word of a command is empty
abbrev pub as_read : List ℕ → List ℕ
as_read word = if nat_le (length word) 20 then word else []

abbrev pub word_read : List (List ℕ) → ℕ → Option (List ℕ)
word_read words i = option_map as_read (slice_get words i)
