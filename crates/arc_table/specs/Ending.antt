-- What is left of a heap at its end.
use Rattle.std.specs.Prelude.{ℕ}
use Rattle.arc_model.specs.Shapes.{HeapShape}
use Rattle.arc_model.specs.Heaps.{Heap}
use Rattle.arc_model.specs.History.{History, heap_after, IsLegal}
use Rattle.arc_model.specs.Others.{IsQuiet}
use Rattle.arc_rule.specs.Shown.{Shows}
use Rattle.arc_view.specs.Rule.{InShape}
use Rattle.arc_table.specs.declared.close.Closed.{Closed}

-- the history of the pass that was closed
abbrev pub last_seen : Closed → History
last_seen c = c.pass.at.value.me.0.seen

-- no thread has anything: no hand is a holder, no duty is owed, no entry is claimed
abbrev pub IsAllQuiet : Heap → Type 0
IsAllQuiet heap = (p : ℕ) → IsQuiet p heap

-- The history is legal and in the shape, the words show the heap after it, at every place, and no thread has anything in it.
pub record IsClosed (shape : HeapShape) (c : Closed) : Type 0 where
  pub legal : IsLegal shape (last_seen c)
  pub in_shape : InShape shape (last_seen c)
  pub words : Shows shape (heap_after (last_seen c)) c.words.items
  pub quiet : IsAllQuiet (heap_after (last_seen c))
