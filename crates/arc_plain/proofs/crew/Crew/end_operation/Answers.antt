use Rattle.std.proofs.Common.{ap, sym, ◌∙◌}
use Rattle.arc_replays.specs.Stages.{is_step}
use Rattle.arc_plain.proofs.Places.{may_make}
use Rattle.arc_plain.proofs.Alone.{ending_first, ending_made, ending_last, ending_steps}
use Rattle.arc_plain.proofs.crew.Crew.end_operation.Goals as goal

pub loop-self-init : goal.loop-self-init
loop-self-init c = ending_first c.args.thread c.args.self.now c.requires.under_way c.requires.there c.requires.may

pub make_step-requires-clause-place : goal.make_step-requires-clause-place
make_step-requires-clause-place c =
    (may_make c.args.thread c.loop-self.self c.args.thread c.in-Step.step c.in-Step.intent c.loop-self.invariant.at_stage c.loop-self.invariant.within (sym c.asks.ensures.asked ∙ c.in-Step.is)).place

pub make_step-requires-clause-takes : goal.make_step-requires-clause-takes
make_step-requires-clause-takes c =
    (may_make c.args.thread c.loop-self.self c.args.thread c.in-Step.step c.in-Step.intent c.loop-self.invariant.at_stage c.loop-self.invariant.within (sym c.asks.ensures.asked ∙ c.in-Step.is)).takes_it

pub loop-self-smaller : goal.loop-self-smaller
loop-self-smaller c =
    (ending_made c.args.thread c.args.self.now c.loop-self.self c.make_step.new.self c.in-Step.step c.in-Step.intent c.loop-self.invariant (sym c.in_operation.ensures ∙ c.loop-self-test.true) (sym c.asks.ensures.asked ∙ c.in-Step.is)
    c.in_ok-make_step-in-Step.ensures.made c.in_ok-make_step-in-Step.ensures.steppers).1

pub loop-self-preserved : goal.loop-self-preserved
loop-self-preserved c =
    (ending_made c.args.thread c.args.self.now c.loop-self.self c.make_step.new.self c.in-Step.step c.in-Step.intent c.loop-self.invariant (sym c.in_operation.ensures ∙ c.loop-self-test.true) (sym c.asks.ensures.asked ∙ c.in-Step.is)
    c.in_ok-make_step-in-Step.ensures.made c.in_ok-make_step-in-Step.ensures.steppers).0

pub returns-in-PhaseEnd : goal.returns-in-PhaseEnd
returns-in-PhaseEnd c = absurd (ending_steps c.args.thread c.args.self.now c.loop-self.self c.loop-self.invariant (sym c.in_operation.ensures ∙ c.loop-self-test.true) (ap is_step (sym c.asks.ensures.asked ∙ c.in-PhaseEnd.is)))

pub returns-in-Ended : goal.returns-in-Ended
returns-in-Ended c = absurd (ending_steps c.args.thread c.args.self.now c.loop-self.self c.loop-self.invariant (sym c.in_operation.ensures ∙ c.loop-self-test.true) (ap is_step (sym c.asks.ensures.asked ∙ c.in-Ended.is)))

pub returns : goal.returns
returns c = ending_last c.args.thread c.args.self.now c.loop-self.self c.loop-self.invariant (sym c.in_operation.ensures ∙ c.loop-self-test.false)
