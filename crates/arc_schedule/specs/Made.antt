-- Steps that were made, the newest first.
use Rattle.std.specs.Prelude.{ℕ, ◌==◌, Bool, List, [], ◌∷◌, filter, Option}
use Rattle.arc_model.specs.declared.event.Act.{Act}
use Rattle.arc_rule.specs.Steps.{found_by, made_by}
use Rattle.arc_rule.specs.declared.step.Step.{Step}

-- Where a step stands in the script: the thread, its phase from 0, and the operation's number in the phase from 1, where the beginnings of blocks have none, or 0 for the end of the scope.
pub record Point : Type 0 where
  pub thread : ℕ
  pub phase : ℕ
  pub operation : ℕ

-- a made step, the word that it gave back, and its event, where it has one
pub record Made : Type 0 where
  pub point : Point
  pub step : Step
  pub found : ℕ
  pub event : Option Act

abbrev pub made_at : Point → Step → ℕ → Option Act → Made
made_at point step found event = record { point = point; step = step; found = found; event = event }

-- The steps take the words from those at the start to those after: each finds what the words before it have, and leaves what it means.
pub data Go (start : List ℕ) : List Made → List ℕ → Type 0 where
  none : Go start [] start
  step : {ms : List Made} {words : List ℕ} (point : Point) (s : Step) (event : Option Act) → Go start ms words → Go start (made_at point s (found_by s words) event ∷ ms) (made_by s words)

abbrev pub is_of : ℕ → Made → Bool
is_of p m = m.point.thread == p

-- the steps of a thread by themselves
abbrev pub own : ℕ → List Made → List Made
own p ms = filter (is_of p) ms
