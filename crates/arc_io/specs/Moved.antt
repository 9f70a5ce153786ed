-- Which bytes a source gave, and which a sink took.
use Rattle.std.specs.Prelude.{◌≡◌, ℕ, ◌≤◌, ◌<◌, List, length, take, drop, None, Some, ⊤}
use Rattle.std.specs.declared.option.Option.{Option}
use Rattle.std.specs.Io.KnownBytes.{Appends}

-- where the bytes that are left are told, the first n of them were taken, and no other
abbrev pub Took : Option (List ℕ) → Option (List ℕ) → ℕ → Type 0
Took None new n = ⊤
Took (Some old) None n = ⊥
Took (Some old) (Some new) n = (n ≤ length old) × (new ≡ drop n old)

-- the first few bytes were taken, and no other
abbrev pub TookAtMost : Option (List ℕ) → Option (List ℕ) → ℕ → Type 0
TookAtMost old new most = (n : ℕ) × (n ≤ most) × Took old new n

-- the first few bytes were appended, and not all of them
abbrev pub AppendsPrefix : Option (List ℕ) → Option (List ℕ) → List ℕ → Type 0
AppendsPrefix old new bytes = (n : ℕ) × (n < length bytes) × Appends old new (take n bytes)
