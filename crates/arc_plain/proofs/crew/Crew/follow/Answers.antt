use Rattle.arc_plain.proofs.Places.{idle_followed}
use Rattle.arc_plain.proofs.crew.Crew.follow.Goals as goal

pub returns : goal.returns
returns c = record { in_phases = c.loop-self.invariant.in_phases; came = c.loop-self.invariant.came; followed = idle_followed c.loop-self.self (c.has_step.ensures.1 c.loop-self-test.false) }
