use Rattle.arc_rule.proofs.Runs.{IsRunning}
use Rattle.arc_plain.proofs.words.PlainWords.run.Given as goal

abbrev pub invariant-loop-step : goal.invariant-loop-step
invariant-loop-step g l = IsRunning g.P.Plan.takes g.P.Plan.turned g.P.Plan.answer g.P.Plan.asked g.P.Plan.rests l.fn.plan l.initial.self l.plan l.last l.self

abbrev pub decreases-loop-step : goal.decreases-loop-step
decreases-loop-step g l = g.P.Plan.left l.plan
