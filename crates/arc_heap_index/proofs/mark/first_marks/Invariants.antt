use Rattle.arc_heap_index.specs.Fresh.{AreMarked}
use Rattle.arc_heap_index.proofs.mark.first_marks.Given as goal

abbrev pub invariant-loop : goal.invariant-loop
invariant-loop l = AreMarked l.counter l.slots l.entries l.marks.items
