use Rattle.arc_heap_index.specs.Fresh.{AreBlank}
use Rattle.arc_heap_index.proofs.table.blank_rows.Given as goal

abbrev pub invariant-loop : goal.invariant-loop
invariant-loop l = AreBlank l.counter l.columns l.rows.items
