-- What the numbers of a pass rest on: whose events it hasn't seen, and which steps make an object.
use Rattle.std.specs.Prelude.{ℕ, ◌≡◌, ◌<◌, ◌==◌, Bool, false, [], bit_and}
use Rattle.arc_model.specs.History.{share}
use Rattle.arc_rule.specs.declared.step.Step.{Step}
use Rattle.arc_rule.specs.declared.step.Step.TheVariants.{Or}
use Rattle.arc_rule.specs.declared.step.Intent.{Intent}
use Rattle.arc_rule.specs.declared.step.Intent.TheVariants as intents
use Rattle.arc_view.specs.declared.view.View.{View}

-- The first pass has seen no event of a number that it gave to no pass.
abbrev pub SeesNoStranger : View → Type 0
SeesNoStranger v = v.number ≡ 0 → (p : ℕ) → v.splits < p → share v.seen p ≡ []

-- a step with this intent that finds this word has made an object: it has set the bit of a slot, which was clear
abbrev pub makes_object : Step → Intent → ℕ → Bool
makes_object (Or place bits) (intents.New class) found = bit_and found bits == 0
makes_object step intent found = false
