-- What it means that a plan runs on the shared heap: other passes' steps may come between its own.
use Rattle.std.specs.Prelude.{ℕ, ◌≡◌, List, ◌++◌, Option, Some}
use Rattle.arc_model.specs.Shapes.{HeapShape}
use Rattle.arc_rule.specs.declared.step.Step.{Step}
use Rattle.arc_rule.specs.declared.step.Intent.{Intent}
use Rattle.arc_rule.specs.declared.plan.Next.{Next}
use Rattle.arc_rule.specs.declared.plan.Next.TheVariants as nexts
use Rattle.arc_view.specs.declared.view.Mark.{Mark}
use Rattle.arc_view.specs.declared.view.View.{View}
use Rattle.arc_view.specs.Admission.{Admits}
use Rattle.arc_view.specs.Steps.{Told}

-- The plan p, given last, may go on for a pass with the view v, whatever its steps find: each is one that the view then admits, and the plan
-- may be given what the step finds.
pub data MayRun {P A : Type 0} (takes : P → Option ℕ → Type 0) (turned : P → Option ℕ → P) (answer : P → Option ℕ → Next A) (shape : HeapShape) (intent : Intent) : P → Option ℕ → View → Type 0 where
  ends : {p : P} {last : Option ℕ} {v : View} (a : A) → takes p last → answer p last ≡ nexts.Done a → MayRun takes turned answer shape intent p last v
  steps_on : {p : P} {last : Option ℕ} {v : View} (s : Step) → takes p last → answer p last ≡ nexts.Step s → Admits shape v s intent →
      ((found : ℕ) (w : View) → Told shape intent s v found w → MayRun takes turned answer shape intent (turned p last) (Some found) w) → MayRun takes turned answer shape intent p last v

-- The plan p, given last, came to the answer: each step that it asked for was made, and told what it found.
pub data Ran {P A : Type 0} (turned : P → Option ℕ → P) (answer : P → Option ℕ → Next A) (shape : HeapShape) (intent : Intent) : P → Option ℕ → View → A → View → Type 0 where
  ended : {p : P} {last : Option ℕ} {v w : View} {a : A} → answer p last ≡ nexts.Done a → w ≡ v → Ran turned answer shape intent p last v a w
  stepped : {p : P} {last : Option ℕ} {v w : View} {a : A} (s : Step) (found : ℕ) (u : View) → answer p last ≡ nexts.Step s → Told shape intent s v found u →
      Ran turned answer shape intent (turned p last) (Some found) u a w → Ran turned answer shape intent p last v a w

-- The pass has made these steps since v, the newest first.
pub record Walked (v w : View) : Type 0 where
  pub marks : List Mark
  pub trail : w.trail ≡ marks ++ v.trail
