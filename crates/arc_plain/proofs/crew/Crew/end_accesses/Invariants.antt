use Rattle.arc_plain.proofs.Order.{Leaving}
use Rattle.arc_plain.proofs.crew.Crew.end_accesses.Given as goal

abbrev pub invariant-loop-thread : goal.invariant-loop-thread
invariant-loop-thread l = Leaving l.thread l.fn.self l.self
