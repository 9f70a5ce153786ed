use Rattle.arc_heap_index.specs.Fresh.{AreZero}
use Rattle.arc_heap_index.proofs.reach.Reach.new.Given as goal

abbrev pub invariant-loop : goal.invariant-loop
invariant-loop l = AreZero l.counter l.slots l.rows.items
