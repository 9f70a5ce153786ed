-- What the words show that the steps of a deinit found, as notes between its events.
use Rattle.std.specs.Prelude.{ℕ, true, ◌==◌, ◌≡◌, ◌-◌, ◌<◌, ◌≤◌, if◌then◌else◌, List, [], ◌∷◌, Option, Some, None}
use Rattle.arc_model.specs.declared.event.ObjectName.{ObjectName}
use Rattle.arc_model.specs.declared.event.CellName.TheVariants as cells
use Rattle.arc_model.specs.declared.event.Act.{Act}
use Rattle.arc_model.specs.declared.event.Act.TheVariants.{Finish, Drop, Take}
use Rattle.arc_model.specs.declared.shape.Kind.TheVariants.{Unowned}
use Rattle.arc_model.specs.Shapes.{HeapShape}
use Rattle.arc_spelling.specs.Spelling.{Note}
use Rattle.arc_model.specs.References.{field_count}
use Rattle.arc_spelling.specs.Spelling.Note.{Did, Name, Entry, Nil, Refers}
use Rattle.arc_rule.specs.Extents.{Extent}
use Rattle.arc_rule.specs.Places.{number}
use Rattle.arc_rule.specs.Isa.{isa_name_of}
use Rattle.arc_rule.specs.declared.layout.Place.TheVariants.{Isa, Field}
use Rattle.arc_rule.specs.declared.step.Step.{Step}
use Rattle.arc_rule.specs.declared.step.Step.TheVariants.{Load, Exchange}
use Rattle.arc_rule.specs.declared.step.Intent.{Intent}
use Rattle.arc_rule.specs.declared.step.Intent.TheVariants as intents
use Rattle.arc_side.specs.Inline.{counted_at}
use Rattle.arc_side.specs.Lasts.{CountsIn}
use Rattle.arc_cells.specs.Cascades.{field_kind}

-- the name that the object in the slot has by the newest note of its name
abbrev pub name_in : ℕ → List Note → Option ObjectName
name_in slot [] = None
name_in slot (Name s name ∷ ns) = if s == slot then Some name else name_in slot ns
name_in slot (_ ∷ ns) = name_in slot ns

-- Nothing, or what the load of a deinit found: the name of the object, or what one of the fields holds that an object with this name has.
pub data Reads (shape : HeapShape) (layout : Extent) (asked : Option (Step × Intent)) (last : Option ℕ) : (before after : List Note) → Type 0 where
  nothing : {b : List Note} → Reads shape layout asked last b b
  name : {slot w : ℕ} {b : List Note} → asked ≡ Some (Load (number layout (Isa slot)), intents.Deinit slot) → last ≡ Some w →
      Reads shape layout asked last b (Name slot (isa_name_of w) ∷ b)
  nil_field : {slot f : ℕ} {of : ObjectName} {b : List Note} → asked ≡ Some (Load (number layout (Field slot f)), intents.Deinit slot) → last ≡ Some 0 →
      name_in slot b ≡ Some of → f < field_count shape of → Reads shape layout asked last b (Nil (cells.Field slot f) ∷ b)
  reference : {slot f w : ℕ} {of : ObjectName} {b : List Note} → asked ≡ Some (Load (number layout (Field slot f)), intents.Deinit slot) → last ≡ Some w → 2 ≤ w →
      name_in slot b ≡ Some of → f < field_count shape of → Reads shape layout asked last b (Refers (cells.Field slot f) (field_kind shape of f) (w - 2) ∷ b)

-- the hand came out of a field, which had an unowned reference to the object in the slot
pub data CameOut (shape : HeapShape) (hand slot : ℕ) : (notes : List Note) → Type 0 where
  taken : {s f : ℕ} {of : ObjectName} {b : List Note} → name_in s b ≡ Some of → f < field_count shape of →
      CameOut shape hand slot (Did (Take s f hand) ∷ Refers (cells.Field s f) Unowned slot ∷ b)

-- Nothing, or behind the last unowned reference, of the deinit or of a hand that came out of a field, the entry that the object has, or
-- none: its count was exchanged there.
pub data FindsEntry (shape : HeapShape) (layout : Extent) (asked : Option (Step × Intent)) (last : Option ℕ) (event : Option Act) : (before after : List Note) → Type 0 where
  nothing : {b : List Note} → FindsEntry shape layout asked last event b b
  finished : {slot w new : ℕ} {entry : Option ℕ} {b : List Note} → event ≡ Some (Finish slot true) →
      asked ≡ Some (Exchange (number layout (counted_at Unowned slot entry)) w new, intents.Deinit slot) → last ≡ Some w → CountsIn entry w →
      FindsEntry shape layout asked last event b (Entry slot entry ∷ b)
  dropped : {slot hand w new : ℕ} {entry : Option ℕ} {b : List Note} → event ≡ Some (Drop hand true) → CameOut shape hand slot b →
      asked ≡ Some (Exchange (number layout (counted_at Unowned slot entry)) w new, intents.Drop hand) → last ≡ Some w → CountsIn entry w →
      FindsEntry shape layout asked last event (Did (Drop hand true) ∷ b) (Entry slot entry ∷ Did (Drop hand true) ∷ b)

-- the event, if one is told, is the newest note
abbrev pub with_act : Option Act → List Note → List Note
with_act None ns = ns
with_act (Some a) ns = Did a ∷ ns

-- the step that was asked for and the word that it gave back, with the event told
pub record Shows (shape : HeapShape) (layout : Extent) (asked : Option (Step × Intent)) (last : Option ℕ) (event : Option Act) (before after : List Note) : Type 0 where
  pub read : List Note
  pub reads : Reads shape layout asked last before read
  pub finds : FindsEntry shape layout asked last event (with_act event read) after
