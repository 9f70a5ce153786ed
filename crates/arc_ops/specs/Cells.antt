-- The cells that operations name, what their words stand for, and the plans that read and write them, with the first step of each.
use Rattle.std.specs.Prelude.{ℕ, ◌+◌, ◌-◌, ◌==◌, ◌<◌, if◌then◌else◌, List, slice_index_or, Option, Some, None}
use Rattle.arc_model.specs.Shapes.{HeapShape, class_at}
use Rattle.arc_model.specs.declared.event.CellName.{CellName}
use Rattle.arc_model.specs.declared.event.CellName.TheVariants as cells
use Rattle.arc_model.specs.declared.event.Origin.TheVariants as origins
use Rattle.arc_model.specs.declared.event.Act.TheVariants as acts
use Rattle.arc_model.specs.declared.shape.Kind.{Kind}
use Rattle.arc_model.specs.declared.shape.Kind.TheVariants.{Strong}
use Rattle.arc_rule.specs.Extents.{Extent}
use Rattle.arc_rule.specs.declared.layout.Place.{Place}
use Rattle.arc_rule.specs.declared.layout.Place.TheVariants as places
use Rattle.arc_rule.specs.Places.{number}
use Rattle.arc_rule.specs.declared.step.Intent.TheVariants as intents
use Rattle.arc_rule.specs.declared.plan.Next.{Next}
use Rattle.arc_rule.specs.declared.plan.Next.TheVariants as nexts
use Rattle.arc_rule.specs.declared.attempt.At.TheVariants as attempt
use Rattle.arc_plan.specs.declared.slots.Once.TheVariants as once
use Rattle.arc_cells.specs.declared.begin.BeginAnswer.{BeginAnswer}
use Rattle.arc_cells.specs.declared.swap.SwapAnswer.{SwapAnswer}
use Rattle.arc_cells.specs.Begins.{Beginning, begin_turned, begin_answer}
use Rattle.arc_cells.specs.Ends.{AccessEnd, end_turned, end_answer}
use Rattle.arc_cells.specs.Swaps.{SwapAttempt, swap_turned, swap_answer}
use Rattle.arc_script.specs.declared.script.OpCell.{OpCell}
use Rattle.arc_script.specs.declared.script.OpCell.TheVariants as opcell
use Rattle.arc_script.specs.Valid.{ref_at}
use Rattle.arc_served.specs.Programs.{class_of}
use Rattle.arc_ops.specs.Thread.{Thread, value, asking}
use Rattle.arc_ops.specs.declared.cell.Cell.{Cell}
use Rattle.arc_ops.specs.declared.gain.Source.{Source}
use Rattle.arc_ops.specs.declared.stepper.Held.{Held}
use Rattle.arc_ops.specs.declared.stepper.Doing.TheVariants.{Opening, Closing, Setting, Clearing}

-- the global with this number
abbrev pub global_of : HeapShape → ℕ → Cell
global_of shape g = record { name = cells.Global g; kind = (slice_index_or shape.globals g (record { kind = Strong; class = 0 })).kind }

-- the field of the object that the owner refers to, whose variable is for this class
abbrev pub field_of : HeapShape → (class field : ℕ) → (owner : Option Held) → Option Cell
field_of shape class field None = None
field_of shape class field (Some owner) = Some (record { name = cells.Field owner.place field; kind = (ref_at (class_at shape class).fields field).kind })

-- the cell that an operation names; through an owner that is nil there is none
abbrev pub cell_in : HeapShape → (classes : List ℕ) → List (Option Held) → OpCell → Option Cell
cell_in shape classes vars (opcell.Global g) = Some (global_of shape g)
cell_in shape classes vars (opcell.Field owner field) = field_of shape (class_of classes owner) field (value vars owner)

abbrev pub cell_of : OpCell → Thread → Option Cell
cell_of cell t = cell_in t.shape t.classes t.vars cell

-- the cell's word
abbrev pub place_in : CellName → Place
place_in (cells.Field s f) = places.Field s f
place_in (cells.Global g) = places.Global g

abbrev pub cell_number : Extent → CellName → ℕ
cell_number layout cell = number layout (place_in cell)

-- ---- the word is 0 where the cell is nil, 1 while it is accessed, and else 2 more than the slot of the object that it refers to

abbrev pub word_of : Option Held → ℕ
word_of None = 0
word_of (Some held) = held.place + 2

abbrev pub IsCellWord : (slots w : ℕ) → Type 0
IsCellWord slots w = w < slots + 2

-- the reference that such a word stands for, where no access is under way
abbrev pub held_in : Kind → (hand w : ℕ) → Option Held
held_in kind hand w = if w == 0 then None else Some (record { hand = hand; kind = kind; place = w - 2 })

-- a cell with a reference, as what a gain takes from
abbrev pub source_in : Cell → (w : ℕ) → Source
source_in cell w = record { origin = origins.Cell cell.name; kind = cell.kind; place = w - 2 }

abbrev pub hand_in : Option Held → Option ℕ
hand_in None = None
hand_in (Some held) = Some held.hand

-- a reference, or nil, was put into the cell, and what was there is in the thread's hands
abbrev pub swapped : CellName → (put : Option ℕ) → (there : Option Held) → Thread → Thread
swapped cell put None t = record t { event = Some (acts.Swap cell put None) }
swapped cell put (Some there) t = record t { hands = t.hands + 1; event = Some (acts.Swap cell put (Some there.hand)) }

-- ---- an access to a cell begins

abbrev pub open_from : Cell → Thread → Beginning
open_from cell t = record { layout = t.layout; place = cell_number t.layout cell.name; at = attempt.Start }

abbrev pub open_asks : ℕ → Cell → Beginning → Next BeginAnswer → Thread → Thread
open_asks to cell plan (nexts.Step s) t = asking (Opening to cell plan) s (intents.Access cell.name) t
open_asks to cell plan (nexts.Done a) t = t

abbrev pub open_begun : ℕ → Cell → Thread → Thread
open_begun to cell t = open_asks to cell (begin_turned (open_from cell t) None) (begin_answer (open_from cell t) None) t

-- ---- and ends: the reference that was copied leads where the cell's does

abbrev pub close_from : CellName → Held → Thread → AccessEnd
close_from cell held t = record { layout = t.layout; place = cell_number t.layout cell; value = held.place + 2; at = once.Start }

abbrev pub close_asks : ℕ → CellName → Held → AccessEnd → Next (Unit {0}) → Thread → Thread
close_asks to cell held plan (nexts.Step s) t = asking (Closing to cell held plan) s (intents.Access cell) t
close_asks to cell held plan (nexts.Done a) t = t

abbrev pub close_begun : ℕ → CellName → Held → Thread → Thread
close_begun to cell held t = close_asks to cell held (end_turned (close_from cell held t) None) (end_answer (close_from cell held t) None) t

-- ---- a variable's reference, or nil, is put into a cell

abbrev pub swap_from : CellName → (put : Option Held) → Thread → SwapAttempt
swap_from cell put t = record { layout = t.layout; place = cell_number t.layout cell; new = word_of put; at = attempt.Start }

abbrev pub set_asks : ℕ → Cell → SwapAttempt → Next SwapAnswer → Thread → Thread
set_asks from cell plan (nexts.Step s) t = asking (Setting from cell plan) s (intents.Swap cell.name (hand_in (value t.vars from))) t
set_asks from cell plan (nexts.Done a) t = t

abbrev pub set_begun : ℕ → Cell → Thread → Thread
set_begun from cell t =
    set_asks from cell (swap_turned (swap_from cell.name (value t.vars from) t) None) (swap_answer (swap_from cell.name (value t.vars from) t) None) t

-- ---- the next global is cleared

-- the global that is cleared next
abbrev pub next_global : Thread → Cell
next_global t = global_of t.shape t.cleared

abbrev pub clear_asks : SwapAttempt → Next SwapAnswer → Thread → Thread
clear_asks plan (nexts.Step s) t = asking (Clearing plan) s (intents.Swap (next_global t).name None) t
clear_asks plan (nexts.Done a) t = t

abbrev pub clear_begun : Thread → Thread
clear_begun t = clear_asks (swap_turned (swap_from (next_global t).name None t) None) (swap_answer (swap_from (next_global t).name None t) None) t
