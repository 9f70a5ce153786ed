-- An attempt to begin an access to a cell: its word is exchanged for 1, which says that an access is under way.
use Rattle.std.specs.Prelude.{ℕ, ◌==◌, if◌then◌else◌, Option, Some, None, ⊤}
use Rattle.std.specs.Option.{unwrap_or}
use Rattle.arc_rule.specs.declared.step.Changed.{Changed}
use Rattle.arc_rule.specs.declared.plan.Next.{Next}
use Rattle.arc_rule.specs.declared.attempt.At.{At}
use Rattle.arc_rule.specs.declared.attempt.Choice.{Choice}
use Rattle.arc_rule.specs.declared.attempt.Choice.TheVariants.{Tell, Write}
use Rattle.arc_rule.specs.Attempts.{takes_at, turned_at, answer_at}
use Rattle.arc_rule.specs.Extents.{Extent}
use Rattle.arc_cells.specs.declared.begin.BeginAnswer.{BeginAnswer}
use Rattle.arc_cells.specs.declared.begin.BeginAnswer.TheVariants.{Held, Nil, Busy, Again}

pub record Beginning : Type 0 where
  pub layout : Extent
  pub place : ℕ
  pub at : At

-- Nil where the word read is 0, Busy where it is 1; else it is exchanged for 1
abbrev pub begin_row : ℕ → Choice BeginAnswer
begin_row w = if w == 0 then Tell Nil else if w == 1 then Tell Busy else Write 1

abbrev pub begin_takes : Beginning → Option ℕ → Type 0
begin_takes p last = takes_at (λ w. ⊤) p.at last

abbrev pub begin_turned : Beginning → Option ℕ → Beginning
begin_turned p last = record p { at = turned_at begin_row p.at (unwrap_or last 0) }

abbrev pub begin_answer : Beginning → Option ℕ → Next BeginAnswer
begin_answer p last = answer_at begin_row Held Again p.place p.at (unwrap_or last 0)

abbrev pub begin_change : BeginAnswer → Option Changed
begin_change (Held w) = None
begin_change Nil = None
begin_change Busy = None
begin_change (Again c) = Some c
