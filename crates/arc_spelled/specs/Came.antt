-- What comes out of cells into a thread's hands.
use Rattle.std.specs.Prelude.{ℕ, ◌+◌, ◌≡◌, Option, Some, None}
use Rattle.arc_model.specs.declared.event.CellName.{CellName}
use Rattle.arc_model.specs.declared.event.Origin.{Origin}
use Rattle.arc_model.specs.declared.event.Origin.TheVariants as origins
use Rattle.arc_model.specs.declared.shape.Kind.{Kind}
use Rattle.arc_model.specs.References.{Reference}
use Rattle.arc_rule.specs.declared.plan.Next.{Next}
use Rattle.arc_rule.specs.declared.plan.Next.TheVariants as nexts
use Rattle.arc_side.specs.declared.up.UpAnswer.{UpAnswer}
use Rattle.arc_side.specs.declared.up.UpAnswer.TheVariants as ups
use Rattle.arc_side.specs.Ups.{up_answer}
use Rattle.arc_cells.specs.declared.swap.SwapAnswer.{SwapAnswer}
use Rattle.arc_cells.specs.declared.swap.SwapAnswer.TheVariants as swaps
use Rattle.arc_cells.specs.Swaps.{swap_answer}
use Rattle.arc_programs.specs.Programs.{Hands}
use Rattle.arc_ops.specs.Cells.{held_in, next_global}
use Rattle.arc_ops.specs.Thread.{Thread}
use Rattle.arc_ops.specs.declared.cell.Cell.{Cell}
use Rattle.arc_ops.specs.declared.gain.Source.{Source}
use Rattle.arc_ops.specs.declared.stepper.Held.{Held}
use Rattle.arc_ops.specs.declared.stepper.Doing.{Doing}
use Rattle.arc_ops.specs.declared.stepper.Doing.TheVariants.{Gaining, Setting, Clearing}
use Rattle.arc_spelled.specs.Work.{Work}

-- more hands are known, and none is another
abbrev pub Extends : (came more : Hands) → Type 0
Extends came more = (k : ℕ) (r : Reference) → came k ≡ Some r → more k ≡ Some r

-- a reference that a turn brings out of a cell, into the thread's next hand
pub record CameOut : Type 0 where
  pub cell : CellName
  pub hand : ℕ
  pub kind : Kind
  pub place : ℕ

-- a gain brings one where it takes from a cell, and has counted it
abbrev pub copied_out : Origin → Source → (hand : ℕ) → Next UpAnswer → Option CameOut
copied_out (origins.Cell cell) from hand (nexts.Done ups.Up) = Some (record { cell = cell; hand = hand; kind = from.kind; place = from.place })
copied_out origin from hand answer = None

abbrev pub was_there : CellName → Option Held → Option CameOut
was_there cell None = None
was_there cell (Some there) = Some (record { cell = cell; hand = there.hand; kind = there.kind; place = there.place })

-- an exchange brings what the cell had
abbrev pub swapped_out : Cell → (hand : ℕ) → Next SwapAnswer → Option CameOut
swapped_out cell hand (nexts.Done (swaps.Took w)) = was_there cell.name (held_in cell.kind hand w)
swapped_out cell hand answer = None

abbrev pub came_out_at : Thread → Option ℕ → Doing → Option CameOut
came_out_at t last (Gaining gain to from plan) = copied_out from.origin from (t.hands + 1) (up_answer plan last)
came_out_at t last (Setting from cell plan) = swapped_out cell (t.hands + 1) (swap_answer plan last)
came_out_at t last (Clearing plan) = swapped_out (next_global t) (t.hands + 1) (swap_answer plan last)
came_out_at t last _ = None

-- what the turn brings out of a cell: by a copy from under an access, by a swap, or as a global is cleared
abbrev pub came_out : Thread → Option ℕ → Option CameOut
came_out t last = came_out_at t last t.doing

-- what is known of hands has it
abbrev pub KnowsWhatComes : Hands → Thread → Option ℕ → Type 0
KnowsWhatComes came t last = (x : CameOut) → came_out t last ≡ Some x → came x.hand ≡ Some (record { kind = x.kind; place = x.place })

-- the same work, with more known of its hands
abbrev pub knowing : Hands → Work → Work
knowing more w = record w { came = more }
