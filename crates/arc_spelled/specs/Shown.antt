-- What a turn of a thread's machine adds to the thread's notes: what the word that was given shows, the event that is told, and lines.
use Rattle.std.specs.Prelude.{ℕ, true, ◌≡◌, ◌-◌, ◌<◌, ◌≤◌, List, ◌∷◌, Option, Some, None}
use Rattle.arc_model.specs.declared.answer.Answer.{Answer}
use Rattle.arc_model.specs.declared.event.Act.{Act}
use Rattle.arc_model.specs.declared.event.Act.TheVariants.{Copy, Drop, Finish}
use Rattle.arc_model.specs.declared.event.Origin.TheVariants.{Cell}
use Rattle.arc_model.specs.declared.event.CellName.TheVariants as cells
use Rattle.arc_model.specs.declared.event.ObjectName.{ObjectName}
use Rattle.arc_model.specs.declared.shape.Kind.TheVariants.{Unowned}
use Rattle.arc_model.specs.Shapes.{HeapShape}
use Rattle.arc_spelling.specs.Spelling.{Note}
use Rattle.arc_model.specs.References.{field_count}
use Rattle.arc_spelling.specs.Spelling.Note.{Line, Operation, Name, Nil, Entry, Refers}
use Rattle.arc_rule.specs.Extents.{Extent}
use Rattle.arc_rule.specs.Places.{number}
use Rattle.arc_rule.specs.Isa.{isa_name_of}
use Rattle.arc_rule.specs.declared.layout.Place.TheVariants.{Isa, Field}
use Rattle.arc_rule.specs.declared.step.Step.{Step}
use Rattle.arc_rule.specs.declared.step.Intent.TheVariants as intents
use Rattle.arc_rule.specs.declared.step.Intent.{Intent}
use Rattle.arc_rule.specs.declared.step.Step.TheVariants.{Load, Exchange}
use Rattle.arc_side.specs.Inline.{counted_at}
use Rattle.arc_side.specs.Lasts.{CountsIn}
use Rattle.arc_cells.specs.Cascades.{field_kind}
use Rattle.arc_deinits.specs.Found.{name_in}
pub use Rattle.arc_deinits.specs.Found.{with_act}
use Rattle.arc_spelled.specs.Came.{CameOut}

-- what the name of the object in a slot is read for: its deinit, or the line of a load
pub data IsNamedFor (slot : ℕ) : Intent → Type 0 where
  deinit : IsNamedFor slot (intents.Deinit slot)
  line : IsNamedFor slot intents.Look

-- Nothing, or what a load found: the name of an object; or in a deinit what one of the fields holds that an object with its name has.
pub data Reads (shape : HeapShape) (layout : Extent) (asked : Option (Step × Intent)) (last : Option ℕ) : (before after : List Note) → Type 0 where
  nothing : {b : List Note} → Reads shape layout asked last b b
  name : {slot w : ℕ} {intent : Intent} {b : List Note} → asked ≡ Some (Load (number layout (Isa slot)), intent) → IsNamedFor slot intent → last ≡ Some w → Reads shape layout asked last b (Name slot (isa_name_of w) ∷ b)
  nil_field : {slot f : ℕ} {of : ObjectName} {b : List Note} → asked ≡ Some (Load (number layout (Field slot f)), intents.Deinit slot) → last ≡ Some 0 →
      name_in slot b ≡ Some of → f < field_count shape of → Reads shape layout asked last b (Nil (cells.Field slot f) ∷ b)
  reference : {slot f w : ℕ} {of : ObjectName} {b : List Note} → asked ≡ Some (Load (number layout (Field slot f)), intents.Deinit slot) → last ≡ Some w → 2 ≤ w →
      name_in slot b ≡ Some of → f < field_count shape of → Reads shape layout asked last b (Refers (cells.Field slot f) (field_kind shape of f) (w - 2) ∷ b)

-- Nothing, or before the copy of a cell what the cell refers to.
pub data FindsReference (event : Option Act) (out : Option CameOut) : (before after : List Note) → Type 0 where
  nothing : {b : List Note} → FindsReference event out b b
  refers : {x : CameOut} {b : List Note} → out ≡ Some x → event ≡ Some (Copy (Cell x.cell) x.hand) → FindsReference event out b (Refers x.cell x.kind x.place ∷ b)

-- an event that takes the last unowned reference to the object in a slot, and what its step is made for: the end of its deinit, or a drop
pub data TakesLast (slot : ℕ) : Act → Intent → Type 0 where
  finish : TakesLast slot (Finish slot true) (intents.Deinit slot)
  drop : {hand : ℕ} → TakesLast slot (Drop hand true) (intents.Drop hand)

-- Nothing, or behind such an event the entry that the object has, or none: its count was exchanged there.
pub data FindsEntry (layout : Extent) (asked : Option (Step × Intent)) (last : Option ℕ) (event : Option Act) : (before after : List Note) → Type 0 where
  nothing : {b : List Note} → FindsEntry layout asked last event b b
  entry : {slot w new : ℕ} {act : Act} {intent : Intent} {entry : Option ℕ} {b : List Note} →
      event ≡ Some act → asked ≡ Some (Exchange (number layout (counted_at Unowned slot entry)) w new, intent) → TakesLast slot act intent → last ≡ Some w → CountsIn entry w →
      FindsEntry layout asked last event b (Entry slot entry ∷ b)

-- the step that was asked for and the word that it gave back, with the event told and what came out of a cell
pub record Shows (shape : HeapShape) (layout : Extent) (asked : Option (Step × Intent)) (last : Option ℕ) (event : Option Act) (out : Option CameOut) (before after : List Note) : Type 0 where
  pub read : List Note
  pub reads : Reads shape layout asked last before read
  pub referred : List Note
  pub refers : FindsReference event out read referred
  pub finds : FindsEntry layout asked last event (with_act event referred) after

-- nothing but lines and beginnings of operations
pub data Says : (before after : List Note) → Type 0 where
  nothing : {b : List Note} → Says b b
  line : {a : Answer} {b ns : List Note} → Says b ns → Says b (Line a ∷ ns)
  operation : {n : ℕ} {b ns : List Note} → Says b ns → Says b (Operation n ∷ ns)

-- what is shown, and then lines and beginnings of operations
pub record Adds (shape : HeapShape) (layout : Extent) (asked : Option (Step × Intent)) (last : Option ℕ) (event : Option Act) (out : Option CameOut) (before after : List Note) : Type 0 where
  pub found : List Note
  pub shows : Shows shape layout asked last event out before found
  pub says : Says found after

-- the events with the one that is told, the newest first
abbrev pub with_event : Option Act → List Act → List Act
with_event None acts = acts
with_event (Some a) acts = a ∷ acts
