-- What a stepper is after each word.
use Rattle.std.specs.Prelude.{ℕ, false, Option, None}
use Rattle.arc_plan.specs.Slots.{creation_turned, creation_answer, one_turned, name_of_answer, vacate_answer}
use Rattle.arc_side.specs.Ups.{up_turned, up_answer}
use Rattle.arc_side.specs.Downs.{down_turned, down_answer}
use Rattle.arc_cells.specs.Begins.{begin_turned, begin_answer}
use Rattle.arc_cells.specs.Ends.{end_turned, end_answer}
use Rattle.arc_cells.specs.Swaps.{swap_turned, swap_answer}
use Rattle.arc_cells.specs.Cascades.{cascade_turned, cascade_answer}
use Rattle.arc_ops.specs.Thread.{Thread}
use Rattle.arc_ops.specs.Begins.{begun}
use Rattle.arc_ops.specs.Makes.{made_on}
use Rattle.arc_ops.specs.Gains.{gained_on, named_on}
use Rattle.arc_ops.specs.Gets.{opened_on, closed_on}
use Rattle.arc_ops.specs.Sets.{set_on, cleared_on}
use Rattle.arc_ops.specs.Drops.{dropped_on, dying_on, deinit_tells, vacated_on}
use Rattle.arc_ops.specs.declared.stepper.Doing.{Doing}
use Rattle.arc_ops.specs.declared.stepper.Doing.TheVariants.{Ready, Making, Gaining, Naming, Opening, Closing, Setting, Clearing, Dropping, Dying, Vacating, Ended}

-- after what was given at its place; the stepper tells no event before
abbrev pub turned_at : Option ℕ → Doing → Thread → Thread
turned_at last Ready t = begun t
turned_at last (Making to name plan) t = made_on to name (creation_turned plan last) (creation_answer plan last) t
turned_at last (Gaining gain to from plan) t = gained_on gain to from (up_turned plan last) (up_answer plan last) t
turned_at last (Naming to held plan) t = named_on to held (one_turned plan last) (name_of_answer plan last) t
turned_at last (Opening to cell plan) t = opened_on to cell (begin_turned plan last) (begin_answer plan last) t
turned_at last (Closing to cell held plan) t = closed_on to cell held (end_turned plan last) (end_answer plan last) t
turned_at last (Setting from cell plan) t = set_on from cell (swap_turned plan last) (swap_answer plan last) t
turned_at last (Clearing plan) t = cleared_on (swap_turned plan last) (swap_answer plan last) t
turned_at last (Dropping held plan) t = dropped_on held (down_turned plan last) (down_answer plan last) t
turned_at last (Dying c) t = dying_on (cascade_turned c last) (cascade_answer c last) (deinit_tells (cascade_turned c last).event t)
turned_at last (Vacating slot plan) t = vacated_on slot (one_turned plan last) (vacate_answer plan last) t
turned_at last Ended t = t

abbrev pub turned : Thread → Option ℕ → Thread
turned t last = turned_at last t.doing (record t { doing = Ended; first = false; event = None })
