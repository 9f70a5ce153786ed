use Rattle.arc_replays.specs.Stages.{IsNoneBelow, awaits_phase}
use Rattle.arc_plain.proofs.crew.Crew.awaits_phase.Given as goal

abbrev pub invariant-loop-thread : goal.invariant-loop-thread
invariant-loop-thread l = IsNoneBelow l.thread awaits_phase l.self.stage.threads
