use Rattle.std.proofs.Common.{sym}
use Rattle.arc_rule.proofs.Runs.{runs_on, comes_to, none_changed}
use Rattle.arc_plain.proofs.words.PlainWords.run.Goals as goal

pub loop-step-preserved : goal.loop-step-preserved
loop-step-preserved g c =
    runs_on g.P.Plan.takes g.P.Plan.turned g.P.Plan.answer g.P.Plan.asked g.P.Plan.rests c.args.plan c.args.self.now c.loop-step.plan c.loop-step.last c.loop-step.self c.in-Step.step c.next.new.self c.step.result c.step.new.self
    c.loop-step.invariant c.in-Step.ensures.turned (sym c.in-Step.ensures.answer) c.in-Step.ensures.waits c.in-Step.ensures.rests c.step.ensures.found c.step.ensures.made

pub returns-in-Done-clause-comes_to : goal.returns-in-Done-clause-comes_to
returns-in-Done-clause-comes_to g c =
    comes_to g.P.Plan.takes g.P.Plan.turned g.P.Plan.answer g.P.Plan.asked g.P.Plan.rests c.args.plan c.args.self.now c.loop-step.plan c.loop-step.last c.loop-step.self c.in-Done.answer c.loop-step.invariant (sym c.in-Done.ensures.answer)

pub returns-in-Done-clause-never_again : goal.returns-in-Done-clause-never_again
returns-in-Done-clause-never_again g c =
    none_changed g.P.Plan.changed (g.P.Plan.asked c.loop-step.plan) c.loop-step.last (g.P.Plan.rests c.loop-step.plan) c.loop-step.self c.in-Done.answer c.loop-step.invariant.settled c.in-Done.ensures.change
