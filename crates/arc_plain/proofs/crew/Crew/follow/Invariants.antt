use Rattle.std.proofs.Common.{length}
use Rattle.arc_plain.specs.Crews.{IsInPhases, CameOn}
use Rattle.arc_plain.proofs.crew.Crew.follow.Given as goal

abbrev pub invariant-loop-self : goal.invariant-loop-self
invariant-loop-self l = record { in_phases : IsInPhases l.self; came : CameOn 0 l.fn.self l.self }

abbrev pub decreases-loop-self : goal.decreases-loop-self
decreases-loop-self l = length l.self.stage.places
