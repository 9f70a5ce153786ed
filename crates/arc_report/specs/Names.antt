-- How texts name objects and cells.
use Rattle.std.specs.Prelude.{ℕ, List, ◌++◌, codes}
use Rattle.std.specs.Fmt.{decimal}
use Rattle.arc_model.specs.declared.event.ObjectName.{ObjectName}
use Rattle.arc_model.specs.declared.event.CellName.{CellName}
use Rattle.arc_model.specs.declared.event.CellName.TheVariants as cell
use Rattle.arc_model.specs.declared.event.Origin.{Origin}
use Rattle.arc_model.specs.declared.event.Origin.TheVariants as origin
use Rattle.arc_script.specs.Valid.{name_at}

-- CLASS#THREAD.NUMBER
abbrev pub object_text : List (List ℕ) → ObjectName → List ℕ
object_text classes name = name_at classes name.class ++ (codes "#" ++ (decimal name.thread ++ (codes "." ++ decimal name.number)))

-- SLOT.FIELD or @NAME
abbrev pub cell_text : List (List ℕ) → CellName → List ℕ
cell_text globals (cell.Field slot field) = decimal slot ++ (codes "." ++ decimal field)
cell_text globals (cell.Global global) = codes "@" ++ name_at globals global

-- a hand's number, or a cell
abbrev pub origin_text : List (List ℕ) → Origin → List ℕ
origin_text globals (origin.Hand hand) = decimal hand
origin_text globals (origin.Cell c) = cell_text globals c
