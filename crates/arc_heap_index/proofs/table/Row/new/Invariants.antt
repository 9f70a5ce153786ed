use Rattle.arc_heap_index.specs.Fresh.{IsBlank}
use Rattle.arc_heap_index.proofs.table.Row.new.Given as goal

abbrev pub invariant-loop : goal.invariant-loop
invariant-loop l = IsBlank l.counter l.places.items
