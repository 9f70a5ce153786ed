-- Quiet heaps: no thread has anything in hand, and no global refers to an object.
use Rattle.std.specs.Prelude.{ℕ, true, false, Some, slice_get, ◌≡◌}
use Rattle.arc_model.specs.declared.shape.Kind.TheVariants.{Strong}
use Rattle.arc_model.specs.Shapes.{HeapShape}
use Rattle.arc_model.specs.Heaps.{Field, Global, Object, Heap}
use Rattle.arc_model.specs.Holders.{is_in}
use Rattle.arc_model.specs.Cells.{is_nil, is_live, is_immortal, is_kind, field_shape}
use Rattle.arc_model.specs.History.{History, heap_after, IsLegal}
use Rattle.arc_model.specs.Others.{IsQuiet}

-- no thread has a hand, owes a duty or has claimed an entry, and each global is nil
pub record IsQuietHeap (heap : Heap) : Type 0 where
  pub threads : (p : ℕ) → IsQuiet p heap
  pub globals : (g : ℕ) → is_nil heap (Global g) ≡ true

-- a strong field of a live object is among the object's strong holders
pub record IsHeldStrongly (shape : HeapShape) (heap : Heap) (o : Object) : Type 0 where
  pub place : ℕ
  pub owner : Object
  pub field : ℕ
  pub here : slice_get heap.objects place ≡ Some owner
  pub live : is_live shape owner ≡ true
  pub strong : is_kind Strong (field_shape shape field (Some owner)) ≡ true
  pub holds : is_in (Field owner.id field) o.strong ≡ true

-- In a quiet heap each live object that isn't immortal is held by a strong field of a live object.
abbrev pub LiveIsHeld : Type 0
LiveIsHeld = (shape : HeapShape) (h : History) (i : ℕ) (o : Object) → IsLegal shape h → IsQuietHeap (heap_after h) →
    slice_get (heap_after h).objects i ≡ Some o → is_live shape o ≡ true → is_immortal shape o ≡ false → IsHeldStrongly shape (heap_after h) o
