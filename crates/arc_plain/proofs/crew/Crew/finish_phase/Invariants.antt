use Rattle.arc_plain.proofs.Order.{Finishing}
use Rattle.arc_plain.proofs.crew.Crew.finish_phase.Given as goal

abbrev pub invariant-loop-thread : goal.invariant-loop-thread
invariant-loop-thread l = Finishing l.thread l.fn.self l.self
