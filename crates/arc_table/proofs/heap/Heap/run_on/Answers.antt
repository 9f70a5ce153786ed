use Rattle.std.proofs.Common.{sym, refl, ◌∙◌, subst, None, Some}
use Rattle.arc_table.specs.Seats.{shape_of, part_view}
use Rattle.arc_table.proofs.Running.{IsUnderWay, may_start, may_take, may_step, goes_on, comes_to, ran_walked}
use Rattle.arc_table.proofs.heap.Heap.run_on.Goals as goal

pub loop-step-init : goal.loop-step-init
loop-step-init g c = (may_start g.P.Plan.takes g.P.Plan.turned g.P.Plan.answer (shape_of c.args.self.now) g.J.Asks.intent c.args.plan c.args.last (part_view c.args.part.now) c.requires.may, refl)

pub next-requires : goal.next-requires
next-requires g c = may_take g.P.Plan.takes g.P.Plan.turned g.P.Plan.answer (shape_of c.args.self.now) g.J.Asks.intent c.loop-step.plan c.loop-step.last (part_view c.loop-step.part) c.loop-step.invariant.0.may

pub step_as-requires-clause-own : goal.step_as-requires-clause-own
step_as-requires-clause-own g c = c.loop-step.invariant.1 ∙ c.requires.own

pub step_as-requires-clause-kind : goal.step_as-requires-clause-kind
step_as-requires-clause-kind g c = may_step g.P.Plan.takes g.P.Plan.turned g.P.Plan.answer (shape_of c.args.self.now) g.J.Asks.intent c.loop-step.plan c.loop-step.last (part_view c.loop-step.part) c.in-Step.step c.loop-step.invariant.0.may (sym c.in-Step.ensures.answer)

pub loop-step-preserved : goal.loop-step-preserved
loop-step-preserved g c = (
  subst (λ p. IsUnderWay g.P.Plan.takes g.P.Plan.turned g.P.Plan.answer (shape_of c.args.self.now) g.J.Asks.intent c.args.plan c.args.last (part_view c.args.part.now) p (Some c.step_as.result) (part_view c.step_as.new.part)) (sym c.in-Step.ensures.turned)
      (goes_on g.P.Plan.takes g.P.Plan.turned g.P.Plan.answer (shape_of c.args.self.now) g.J.Asks.intent c.args.plan c.args.last (part_view c.args.part.now) c.loop-step.plan c.loop-step.last (part_view c.loop-step.part) c.in-Step.step c.step_as.result (part_view c.step_as.new.part) c.loop-step.invariant.0 (sym c.in-Step.ensures.answer) c.step_as.ensures.told),
  c.step_as.ensures.same ∙ c.loop-step.invariant.1,
)

pub returns-in-Done-clause-same : goal.returns-in-Done-clause-same
returns-in-Done-clause-same g c = c.loop-step.invariant.1

pub returns-in-Done-clause-ran : goal.returns-in-Done-clause-ran
returns-in-Done-clause-ran g c = comes_to g.P.Plan.takes g.P.Plan.turned g.P.Plan.answer (shape_of c.args.self.now) g.J.Asks.intent c.args.plan c.args.last (part_view c.args.part.now) c.loop-step.plan c.loop-step.last (part_view c.loop-step.part) c.in-Done.answer c.loop-step.invariant.0 (sym c.in-Done.ensures.answer)

pub returns-in-Done-clause-walked : goal.returns-in-Done-clause-walked
returns-in-Done-clause-walked g c = ran_walked g.P.Plan.takes g.P.Plan.turned g.P.Plan.answer (shape_of c.args.self.now) g.J.Asks.intent c.args.plan c.args.last (part_view c.args.part.now) c.in-Done.answer (part_view c.loop-step.part)
    (comes_to g.P.Plan.takes g.P.Plan.turned g.P.Plan.answer (shape_of c.args.self.now) g.J.Asks.intent c.args.plan c.args.last (part_view c.args.part.now) c.loop-step.plan c.loop-step.last (part_view c.loop-step.part) c.in-Done.answer c.loop-step.invariant.0 (sym c.in-Done.ensures.answer))
