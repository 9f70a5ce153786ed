-- Which classes lines and events name, and which cells events do.
use Rattle.std.specs.Prelude.{◌<◌, length, [], ◌∷◌, Option, Some, None, ⊤}
use Rattle.arc_model.specs.declared.event.CellName.{CellName}
use Rattle.arc_model.specs.declared.event.CellName.TheVariants as cells
use Rattle.arc_model.specs.declared.event.Origin.{Origin}
use Rattle.arc_model.specs.declared.event.Origin.TheVariants.{Hand, Cell}
use Rattle.arc_model.specs.declared.event.Act.{Act}
use Rattle.arc_model.specs.declared.event.Act.TheVariants as acts
use Rattle.arc_model.specs.History.{History}
use Rattle.arc_model.specs.Shapes.{HeapShape}
use Rattle.arc_rule.specs.Places.{IsPlace, extent_of}
use Rattle.arc_ops.specs.Cells.{place_in}
pub use Rattle.arc_programs_laws.specs.Names.{AnswerFits, LineFits}

-- the cell is one of the heap's
abbrev pub IsThere : HeapShape → CellName → Type 0
IsThere shape cell = IsPlace (extent_of shape) (place_in cell)

abbrev pub OriginFits : HeapShape → Origin → Type 0
OriginFits shape (Hand of) = ⊤
OriginFits shape (Cell cell) = IsThere shape cell

-- An event of the operations that are served so far: an object is made, of a class of the heap, or no slot is free; a reference is
-- copied from a hand or a cell, formed or loaded by one, put into a cell or taken out of it, or dropped; a cell is looked at; a deinit takes
-- out of a field, or is finished; a slot is vacated.
abbrev pub ActFits : HeapShape → Act → Type 0
ActFits shape (acts.New hand class slot) = class < length shape.classes
ActFits shape acts.Full = ⊤
ActFits shape (acts.Copy from hand) = OriginFits shape from
ActFits shape (acts.UnownedOf of hand) = ⊤
ActFits shape (acts.WeakOf of hand) = ⊥
ActFits shape (acts.Load of got) = ⊤
ActFits shape (acts.Drop hand last) = ⊤
ActFits shape (acts.CountFull list from) = ⊥
ActFits shape (acts.Claim entry) = ⊥
ActFits shape acts.NoEntry = ⊥
ActFits shape (acts.Side slot entry why) = ⊥
ActFits shape (acts.Back entry) = ⊥
ActFits shape (acts.Swap cell put took) = IsThere shape cell
ActFits shape (acts.Look cell) = IsThere shape cell
ActFits shape (acts.Take slot field hand) = IsThere shape (cells.Field slot field)
ActFits shape (acts.Finish slot last) = ⊤
ActFits shape (acts.Vacate slot) = ⊤
ActFits shape (acts.Gone entry last) = ⊥

abbrev pub EventFits : HeapShape → Option Act → Type 0
EventFits shape None = ⊤
EventFits shape (Some act) = ActFits shape act

abbrev pub EventsFit : HeapShape → History → Type 0
EventsFit shape [] = ⊤
EventsFit shape (e ∷ h) = ActFits shape e.act × EventsFit shape h
