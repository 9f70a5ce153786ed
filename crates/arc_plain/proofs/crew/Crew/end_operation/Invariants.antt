use Rattle.arc_plain.proofs.Alone.{Ending, steps_left}
use Rattle.arc_plain.proofs.crew.Crew.end_operation.Given as goal

abbrev pub invariant-loop-self : goal.invariant-loop-self
invariant-loop-self l = Ending l.thread l.fn.self l.self

abbrev pub decreases-loop-self : goal.decreases-loop-self
decreases-loop-self l = steps_left l.fn.self l.self
