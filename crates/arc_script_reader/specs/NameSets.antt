-- Sets of names.
use Rattle.std.specs.Prelude.{ℕ, Bool, List, bytes_eq}
use Rattle.std.specs.List.{list_any}
use Rattle.std.specs.HashSet.{HashSet}
use Rattle.std.proofs.Common.{Bor}

-- the name is in the set
abbrev pub holds : {S : Type 0} → HashSet (Bor (List ℕ)) S → List ℕ → Bool
holds set q = list_any (λ (k : Bor (List ℕ)). bytes_eq q k.now) set.keys
