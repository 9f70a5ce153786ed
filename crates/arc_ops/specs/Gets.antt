-- The steps of `get`: the reference in a cell is copied while an access to the cell is under way.
use Rattle.std.specs.Prelude.{ℕ, Some, None}
use Rattle.arc_model.specs.declared.event.CellName.{CellName}
use Rattle.arc_model.specs.declared.event.Act.TheVariants as acts
use Rattle.arc_model.specs.declared.answer.Answer.TheVariants as answers
use Rattle.arc_rule.specs.declared.step.Intent.TheVariants as intents
use Rattle.arc_rule.specs.declared.plan.Next.{Next}
use Rattle.arc_rule.specs.declared.plan.Next.TheVariants as nexts
use Rattle.arc_cells.specs.declared.begin.BeginAnswer.{BeginAnswer}
use Rattle.arc_cells.specs.declared.begin.BeginAnswer.TheVariants as begins
use Rattle.arc_cells.specs.Begins.{Beginning}
use Rattle.arc_cells.specs.Ends.{AccessEnd}
use Rattle.arc_ops.specs.Thread.{Thread, put, asking}
use Rattle.arc_ops.specs.Cells.{source_in, open_begun}
use Rattle.arc_ops.specs.Plans.{gain_begun}
use Rattle.arc_ops.specs.Drops.{replaced}
use Rattle.arc_ops.specs.declared.cell.Cell.{Cell}
use Rattle.arc_ops.specs.declared.gain.Gain.TheVariants as gains
use Rattle.arc_ops.specs.declared.stepper.Held.{Held}
use Rattle.arc_ops.specs.declared.stepper.Doing.TheVariants.{Opening, Closing}

-- a cell that is nil makes the destination nil
abbrev pub found_nil : ℕ → CellName → Thread → Thread
found_nil to cell t = replaced to None (put answers.Nil (record t { event = Some (acts.Look cell) }))

-- An access that another one has, or whose cell has changed in the meantime, begins anew.
abbrev pub opened_on : ℕ → Cell → Beginning → Next BeginAnswer → Thread → Thread
opened_on to cell plan (nexts.Step s) t = asking (Opening to cell plan) s (intents.Access cell.name) t
opened_on to cell plan (nexts.Done (begins.Held w)) t = gain_begun gains.Copy to (source_in cell w) t
opened_on to cell plan (nexts.Done begins.Nil) t = found_nil to cell.name t
opened_on to cell plan (nexts.Done _) t = open_begun to cell t

abbrev pub closed_on : ℕ → CellName → Held → AccessEnd → Next (Unit {0}) → Thread → Thread
closed_on to cell held plan (nexts.Step s) t = asking (Closing to cell held plan) s (intents.Access cell) t
closed_on to cell held plan (nexts.Done a) t = replaced to (Some held) (put answers.Ok t)
