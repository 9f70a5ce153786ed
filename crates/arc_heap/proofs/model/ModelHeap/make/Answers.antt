use Rattle.std.proofs.Common.{◌+◌, length}
use Rattle.arc_heap_index.specs.Fresh.{IsBlankTable, AreZero, AreMarked}
use Rattle.arc_heap_index.specs.Freeing.{AreFree}
use Rattle.arc_heap.proofs.Fresh.{fresh}
use Rattle.arc_heap.proofs.model.ModelHeap.make.Goals as goal

pub returns-clause-stands : goal.returns-clause-stands
returns-clause-stands c =
    let s = c.slots-slot_count.ensures.value in
    let e = c.entries-entry_count.ensures.value in
    let g = c.globals-global_count.ensures.value in
    let hands : IsBlankTable c.args.threads 1 1 c.in_ok-hands.hands = c.in_ok-hands.ensures in
    let cells : IsBlankTable c.args.shape.slots 8 (length c.args.shape.globals) c.in_ok-cells.cells = rw (s, g) at c.in_ok-cells.ensures in
    let reach : AreZero (c.args.threads + 1) c.args.shape.slots c.in_ok-reach.reach = rw s at c.in_ok-reach.ensures in
    let marks : AreMarked (c.args.threads + 1) c.args.shape.slots c.args.shape.entries c.in_ok-marks.marks.items = rw (s, e) at c.in_ok-marks.ensures in
    let slots : AreFree c.args.shape.slots c.in_ok-slots.slots = rw s at c.in_ok-slots.ensures in
    let entries : AreFree c.args.shape.entries c.in_ok-entries.entries = rw e at c.in_ok-entries.ensures in
    rw c.new-6.ensures.items
    (fresh c.args.shape c.args.threads c.in_ok-hands.hands c.in_ok-cells.cells c.in_ok-reach.reach c.in_ok-marks.marks.items c.in_ok-slots.slots c.in_ok-entries.entries hands cells reach marks slots entries c.slots-slot_count.ensures.fits.fields_fit)
