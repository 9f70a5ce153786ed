-- The steps of `set`, by which a variable's reference goes into a cell, and of the end section, by which thread 0 clears the globals.
use Rattle.std.specs.Prelude.{ℕ, ◌+◌, Option, None}
use Rattle.arc_model.specs.declared.answer.Answer.TheVariants as answers
use Rattle.arc_rule.specs.declared.step.Intent.TheVariants as intents
use Rattle.arc_rule.specs.declared.plan.Next.{Next}
use Rattle.arc_rule.specs.declared.plan.Next.TheVariants as nexts
use Rattle.arc_cells.specs.declared.swap.SwapAnswer.{SwapAnswer}
use Rattle.arc_cells.specs.declared.swap.SwapAnswer.TheVariants as swaps
use Rattle.arc_cells.specs.Swaps.{SwapAttempt}
use Rattle.arc_ops.specs.Thread.{Thread, value, set_var, put, asking}
use Rattle.arc_ops.specs.Cells.{held_in, hand_in, swapped, set_begun, clear_begun, next_global}
use Rattle.arc_ops.specs.Drops.{replaced_old}
use Rattle.arc_ops.specs.declared.cell.Cell.{Cell}
use Rattle.arc_ops.specs.declared.stepper.Held.{Held}
use Rattle.arc_ops.specs.declared.stepper.Doing.TheVariants.{Setting, Clearing}

-- the cell has the variable's reference, the variable is nil, and what the cell had is dropped last
abbrev pub set_to : ℕ → Cell → (there : Option Held) → Thread → Thread
set_to from cell there t = replaced_old there (put answers.Ok (set_var from None (swapped cell.name (hand_in (value t.vars from)) there t)))

-- An exchange that an access stands in the way of, or whose cell has changed in the meantime, begins anew.
abbrev pub set_on : ℕ → Cell → SwapAttempt → Next SwapAnswer → Thread → Thread
set_on from cell plan (nexts.Step s) t = asking (Setting from cell plan) s (intents.Swap cell.name (hand_in (value t.vars from))) t
set_on from cell plan (nexts.Done (swaps.Took w)) t = set_to from cell (held_in cell.kind (t.hands + 1) w) t
set_on from cell plan (nexts.Done _) t = set_begun from cell t

-- the global is nil, and what it had is dropped
abbrev pub cleared : Cell → (there : Option Held) → Thread → Thread
cleared cell there t = replaced_old there (swapped cell.name None there (record t { cleared = t.cleared + 1 }))

abbrev pub cleared_on : SwapAttempt → Next SwapAnswer → Thread → Thread
cleared_on plan (nexts.Step s) t = asking (Clearing plan) s (intents.Swap (next_global t).name None) t
cleared_on plan (nexts.Done (swaps.Took w)) t = cleared (next_global t) (held_in (next_global t).kind (t.hands + 1) w) t
cleared_on plan (nexts.Done _) t = clear_begun t
