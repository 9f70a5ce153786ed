-- Strong fields that lead one way along the classes, and what that leaves of a quiet heap.
use Rattle.std.specs.Prelude.{ℕ, false, ◌<◌, ◌≡◌, Some, slice_get}
use Rattle.arc_model.specs.declared.event.Life.TheVariants.{Dead}
use Rattle.arc_model.specs.declared.shape.Kind.TheVariants.{Strong}
use Rattle.arc_model.specs.declared.shape.RefShape.{RefShape}
use Rattle.arc_model.specs.Shapes.{HeapShape, class_at}
use Rattle.arc_model.specs.Heaps.{Field, Global, Object, Heap}
use Rattle.arc_model.specs.Cells.{field_shape}
use Rattle.arc_model.specs.Life.{life_of}
use Rattle.arc_model.specs.Lookup.{Spot, spot}
use Rattle.arc_model.specs.History.{History, heap_after, IsLegal}
use Rattle.arc_quiet.specs.Quiet.{IsQuietHeap}

-- The class of each strong field stands later among the class lines than the class that declares the field.
abbrev pub StrongFieldsLeadOneWay : HeapShape → Type 0
StrongFieldsLeadOneWay shape = (class field : ℕ) (r : RefShape) → slice_get (class_at shape class).fields field ≡ Some r → r.kind ≡ Strong → class < r.class

abbrev pub NoClassIsImmortal : HeapShape → Type 0
NoClassIsImmortal shape = (class : ℕ) → (class_at shape class).immortal ≡ false

-- The object that a cell refers to is of the class that the shape names for the cell.
pub record CellsKeepClasses (shape : HeapShape) (heap : Heap) : Type 0 where
  pub fields : (i : ℕ) (owner : Object) (field : ℕ) (r : RefShape) (s : Spot) (o : Object) → slice_get heap.objects i ≡ Some owner → field_shape shape field (Some owner) ≡ Some r →
      spot (Field owner.id field) heap ≡ Some s → slice_get heap.objects s.place ≡ Some o → o.class ≡ r.class
  pub globals : (g : ℕ) (r : RefShape) (s : Spot) (o : Object) → slice_get shape.globals g ≡ Some r → spot (Global g) heap ≡ Some s → slice_get heap.objects s.place ≡ Some o → o.class ≡ r.class

abbrev pub AllDead : HeapShape → Heap → Type 0
AllDead shape heap = (i : ℕ) (o : Object) → slice_get heap.objects i ≡ Some o → life_of shape o ≡ Dead

-- Where no class is immortal, strong fields lead one way and cells keep their classes, every object of a quiet heap is dead.
abbrev pub QuietIsDead : Type 0
QuietIsDead = (shape : HeapShape) (h : History) → IsLegal shape h → NoClassIsImmortal shape → StrongFieldsLeadOneWay shape → CellsKeepClasses shape (heap_after h) → IsQuietHeap (heap_after h) → AllDead shape (heap_after h)
