-- The variables of a thread while it runs: each is nil, or has a reference that is in the thread's hands.
use Rattle.std.specs.Prelude.{ℕ, List, replicate, slice_index_or, slice_set, Option, Some, None}
use Rattle.arc_model.specs.declared.event.CellName.{CellName}
use Rattle.arc_model.specs.declared.event.CellName.TheVariants as cells
use Rattle.arc_model.specs.declared.shape.Kind.{Kind}
use Rattle.arc_script.specs.declared.script.OpCell.{OpCell}
use Rattle.arc_script.specs.declared.script.OpCell.TheVariants as opcell

-- A reference in the hands of a thread: its number among those that came to it, its kind, and where it leads: to its object's
-- slot, a weak one to its entry.
pub record Held : Type 0 where
  pub hand : ℕ
  pub kind : Kind
  pub place : ℕ

abbrev pub Variables : Type 0
Variables = List (Option Held)

-- at first each is nil
abbrev pub all_nil : ℕ → Variables
all_nil count = replicate count None

abbrev pub value : Variables → ℕ → Option Held
value vars v = slice_index_or vars v None

abbrev pub put : Variables → ℕ → Option Held → Variables
put vars v new = slice_set vars v new

abbrev pub hand_in : Option Held → Option ℕ
hand_in None = None
hand_in (Some held) = Some held.hand

-- the field of the object that an owner refers to
abbrev pub field_of : ℕ → Option Held → Option CellName
field_of field None = None
field_of field (Some owner) = Some (cells.Field owner.place field)

-- the cell that an operation names, as events name it; through an owner that is nil there is none
abbrev pub cell_of : Variables → OpCell → Option CellName
cell_of vars (opcell.Field owner field) = field_of field (value vars owner)
cell_of vars (opcell.Global g) = Some (cells.Global g)
