-- The attempt on a count by which a reference goes, and the step that it has asked for.
use Rattle.std.specs.Prelude.{ℕ, ◌≡◌, Option, Some, ⊤}
use Rattle.arc_rule.specs.Extents.{Extent}
use Rattle.arc_rule.specs.Places.{number}
use Rattle.arc_rule.specs.declared.layout.Place.TheVariants.{Count}
use Rattle.arc_rule.specs.declared.step.Step.{Step}
use Rattle.arc_rule.specs.declared.step.Intent.{Intent}
use Rattle.arc_rule.specs.declared.step.Step.TheVariants.{Exchange}
use Rattle.arc_rule.specs.declared.attempt.At.{At as AttemptAt}
use Rattle.arc_rule.specs.declared.attempt.At.TheVariants as attempt
use Rattle.arc_plan.specs.Attempts.{Attempt}

-- an exchange that is under way is one of the count of the object in the slot, and made for this
abbrev pub AwaitsExchange : Extent → (slot : ℕ) → Intent → Option (Step × Intent) → AttemptAt → Type 0
AwaitsExchange layout slot intent asked (attempt.Exchanging seen new) = asked ≡ Some (Exchange (number layout (Count slot)) seen new, intent)
AwaitsExchange layout slot intent asked _ = ⊤

-- the attempt is on that count
pub record IsReleasing (layout : Extent) (slot : ℕ) (intent : Intent) (asked : Option (Step × Intent)) (p : Attempt) : Type 0 where
  pub layout_is : p.layout ≡ layout
  pub slot_is : p.slot ≡ slot
  pub awaits : AwaitsExchange layout slot intent asked p.at
