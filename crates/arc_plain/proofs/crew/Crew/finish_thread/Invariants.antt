use Rattle.arc_plain.proofs.Alone.{Alone, steps_left}
use Rattle.arc_plain.proofs.crew.Crew.finish_thread.Given as goal

abbrev pub invariant-loop-step : goal.invariant-loop-step
invariant-loop-step l = Alone l.thread l.fn.self l.self

abbrev pub decreases-loop-step : goal.decreases-loop-step
decreases-loop-step l = steps_left l.fn.self l.self
