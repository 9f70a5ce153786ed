-- An attempt to exchange the word of a cell for another, where no access to the cell is under way.
use Rattle.std.specs.Prelude.{ℕ, ◌==◌, ◌<◌, if◌then◌else◌, Option, Some, None, ⊤}
use Rattle.std.specs.Option.{unwrap_or}
use Rattle.arc_rule.specs.declared.step.Changed.{Changed}
use Rattle.arc_rule.specs.declared.plan.Next.{Next}
use Rattle.arc_rule.specs.Extents.{Extent}
use Rattle.arc_rule.specs.Places.{word_count}
use Rattle.arc_rule.specs.declared.attempt.At.{At}
use Rattle.arc_rule.specs.declared.attempt.Choice.{Choice}
use Rattle.arc_rule.specs.declared.attempt.Choice.TheVariants.{Tell, Write}
use Rattle.arc_rule.specs.Attempts.{takes_at, turned_at, answer_at}
use Rattle.arc_cells.specs.declared.swap.SwapAnswer.{SwapAnswer}
use Rattle.arc_cells.specs.declared.swap.SwapAnswer.TheVariants.{Took, Busy, Again}

-- the word that is to come to the place
pub record SwapAttempt : Type 0 where
  pub layout : Extent
  pub place : ℕ
  pub new : ℕ
  pub at : At

-- the place is one of the table's
abbrev pub IsInTable : Extent → ℕ → Type 0
IsInTable layout place = place < word_count layout

-- Busy where the word read is 1; else it is exchanged for the new one
abbrev pub swap_row : ℕ → ℕ → Choice SwapAnswer
swap_row new w = if w == 1 then Tell Busy else Write new

abbrev pub swap_takes : SwapAttempt → Option ℕ → Type 0
swap_takes p last = takes_at (λ w. ⊤) p.at last

abbrev pub swap_turned : SwapAttempt → Option ℕ → SwapAttempt
swap_turned p last = record p { at = turned_at (swap_row p.new) p.at (unwrap_or last 0) }

abbrev pub swap_answer : SwapAttempt → Option ℕ → Next SwapAnswer
swap_answer p last = answer_at (swap_row p.new) Took Again p.place p.at (unwrap_or last 0)

abbrev pub swap_change : SwapAnswer → Option Changed
swap_change (Took w) = None
swap_change Busy = None
swap_change (Again c) = Some c
