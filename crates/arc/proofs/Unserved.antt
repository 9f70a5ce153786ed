-- A text that can't be served gives no output.
use Rattle.std.proofs.Common.{◌≡◌, ℕ, Bool, true, false, List, Option, Some, None, Ok, sym, ap, subst, ◌∙◌, true≢false}
use Rattle.std.specs.Prelude.{IsSomeAnd}
use Rattle.std.specs.Result.{is_err}
use Rattle.arc_check.specs.EventTexts.{HistoryText, history_of}
use Rattle.arc_command.specs.declared.command.Command.{Command}
use Rattle.arc_command.specs.declared.command.Command.TheVariants as command
use Rattle.arc.specs.Outputs.{AreAll, IsServedText, IsOutput, IsUnservedInput}

-- a text that holds a history is no fault
holds_one : (left : List ℕ) (text : List ℕ) (h : HistoryText) → text ≡ left → history_of text ≡ Ok h → is_err (history_of left) ≡ true → ⊥
holds_one left text h all holds err = true≢false (sym err ∙ (ap (λ (t : List ℕ). is_err (history_of t)) (sym all) ∙ ap is_err holds))

pub gives_nothing : (c : Command) (left : Option (List ℕ)) (legal : Bool) (out : List ℕ) → IsOutput c left legal out → IsUnservedInput c left → ⊥
gives_nothing c None legal out o none = none
gives_nothing command.Replay (Some text) true out o none = none.1 (subst IsServedText o.1 o.2.served)
gives_nothing command.Replay (Some text) false out o none = o
gives_nothing command.Check (Some text) true out o none = holds_one text o.0 o.2.history o.1 o.2.holds none.1
gives_nothing command.Check (Some text) false out o none = holds_one text o.0 o.2.history o.1 o.2.holds none.1
gives_nothing (command.Script count start) (Some text) legal out o none = none

-- what some command is asked of is asked of this one
pub asked_of : (m : Option Command) (c : Command) (P : Command → Type 0) → Some c ≡ m → IsSomeAnd m P → P c
asked_of m c P is asks = subst (λ (x : Option Command). IsSomeAnd x P) (sym is) asks
