-- What contracts see of a heap, a pass and a note.
use Rattle.atomic_table.specs.Seated.{TableId}
use Rattle.arc_model.specs.Shapes.{HeapShape}
use Rattle.arc_model.specs.History.{History}
use Rattle.arc_view.specs.declared.view.View.{View}
use Rattle.arc_table.specs.declared.heap.Heap.{Heap}
use Rattle.arc_table.specs.declared.heap.Note.{Note}
use Rattle.arc_table.specs.declared.heap.Part.{Part}
use Rattle.arc_table.specs.declared.heap.Pass.{Pass}

-- which heap it is
abbrev pub heap_id : Heap → TableId
heap_id h = h.table.shared.table_id

abbrev pub shape_of : Heap → HeapShape
shape_of h = h.shape

-- the same of a pass's seat
abbrev pub part_id : Part → TableId
part_id p = p.seat.table_id

abbrev pub part_view : Part → View
part_view p = p.seat.me.0

-- the heap of a pass
abbrev pub pass_id : Pass → TableId
pass_id p = p.part.seat.table_id

abbrev pub view_of : Pass → View
view_of p = p.part.seat.me.0

abbrev pub note_id : Note → TableId
note_id n = n.seat.table_id

abbrev pub seen_of : Note → History
seen_of n = n.seat.me.0.seen
