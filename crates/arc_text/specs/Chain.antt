-- Chains of tests, each with the reason that its failure has: the first that fails gives the answer.
use Rattle.std.specs.Prelude.{Bool, if◌then◌else◌, Option, Some, None, Result, Err}

-- refused for this reason where the test holds
abbrev pub refuse : {X R : Type 0} → Bool → R → Result X R → Result X R
refuse holds reason rest = if holds then Err reason else rest

-- refused for this reason where there is none
abbrev pub need : {A X R : Type 0} → Option A → R → (A → Result X R) → Result X R
need None reason f = Err reason
need (Some x) reason f = f x
