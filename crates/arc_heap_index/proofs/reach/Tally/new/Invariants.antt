use Rattle.arc_heap_index.specs.Fresh.{IsZero}
use Rattle.arc_heap_index.proofs.reach.Tally.new.Given as goal

abbrev pub invariant-loop : goal.invariant-loop
invariant-loop l = IsZero l.counter l.counts.items
