-- What events leave of the cells.
use Rattle.std.specs.Prelude.{ℕ, true, false, if◌then◌else◌, ◌∷◌, ◌++◌, Option, Some, None, slice_get, ◌≡◌}
use Rattle.arc_model.specs.declared.event.Act.{Act}
use Rattle.arc_model.specs.declared.event.Act.TheVariants as acts
use Rattle.arc_model.specs.declared.event.CellName.TheVariants as cells
use Rattle.arc_model.specs.declared.event.Event.{Event}
use Rattle.arc_model.specs.Shapes.{HeapShape}
use Rattle.arc_model.specs.Heaps.{Holder, Field, Global, Object, Heap}
use Rattle.arc_model.specs.Holders.{same_holder}
use Rattle.arc_model.specs.Cells.{cell, is_nil, is_live, is_kind, field_shape}
use Rattle.arc_model.specs.History.{History, heap_after, IsLegal}
use Rattle.arc_model.specs.Lookup.{Spot, spot, is_cell, hand_spot}

-- A nil field of an object that isn't live stays nil: so do the fields before a dying object's next field.
abbrev pub NilFieldsStay : Type 0
NilFieldsStay = (shape : HeapShape) (before after : History) (i : ℕ) (o : Object) (f : ℕ) → IsLegal shape (after ++ before) →
    slice_get (heap_after before).objects i ≡ Some o → is_live shape o ≡ false → is_nil (heap_after before) (Field o.id f) ≡ true → is_nil (heap_after (after ++ before)) (Field o.id f) ≡ true

-- where a cell stands after an act of p: the cell of a swap where the hand that is put in stood
abbrev pub cell_next : ℕ → Act → Holder → Heap → Option Spot
cell_next p (acts.Swap c h k) z heap = if same_holder z (cell heap c) then hand_spot p h heap else spot z heap
cell_next p (acts.Take s f k) z heap = if same_holder z (cell heap (cells.Field s f)) then None else spot z heap
cell_next p _ z heap = spot z heap

-- An event changes the one cell that it names and no other.
abbrev pub CellsAfter : Type 0
CellsAfter = (shape : HeapShape) (h : History) (e : Event) (z : Holder) → IsLegal shape (e ∷ h) → is_cell z ≡ true → spot z (heap_after (e ∷ h)) ≡ cell_next e.thread e.act z (heap_after h)

-- A cell that isn't nil stands in a list of the kind that the shape names for it.
pub record CellKinds (shape : HeapShape) (heap : Heap) : Type 0 where
  pub fields : (i : ℕ) (o : Object) (f : ℕ) (s : Spot) → slice_get heap.objects i ≡ Some o → spot (Field o.id f) heap ≡ Some s → is_kind s.kind (field_shape shape f (Some o)) ≡ true
  pub globals : (g : ℕ) (s : Spot) → spot (Global g) heap ≡ Some s → is_kind s.kind (slice_get shape.globals g) ≡ true

abbrev pub CellKindsAfter : Type 0
CellKindsAfter = (shape : HeapShape) (h : History) → IsLegal shape h → CellKinds shape (heap_after h)
