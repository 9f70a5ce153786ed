-- What holds of each element is decided by a test that tells it of one.
use Rattle.std.proofs.Common.{ℕ, ◌<◌, Bool, true, false, List, length, refl}
use Rattle.std.proofs.lemmas.Iterator.Search.{true_from_All}
use Rattle.std.proofs.lemmas.List.Elements.{All-from_all_within}
use Rattle.std.specs.Prelude.{All, ◌↔◌, IsTrue}
use Rattle.std.specs.Bool.{MatchBool}
use Rattle.std.specs.List.{AllWithin, HoldsAt}

pub all_decided : {X : Type 0} (P : X → Type 0) (answer : Bool) (xs : List X) →
    MatchBool answer (AllWithin P xs 0 (length xs)) ((k : ℕ) × (k < length xs) × HoldsAt (λ x. P x → ⊥) xs k) → IsTrue answer ↔ All P xs
all_decided P true xs decided = (λ yes. All-from_all_within P xs decided, λ all. refl)
all_decided P false xs decided = (λ yes. absurd (cc), λ all. true_from_All P (λ x. P x → ⊥) false xs (λ x holds fails. fails holds) decided all)
