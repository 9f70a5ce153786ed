use Rattle.std.proofs.Common.{sym, ◌∙◌}
use Rattle.arc_plain.proofs.Places.{may_make}
use Rattle.arc_plain.proofs.Alone.{alone_first, alone_made}
use Rattle.arc_plain.proofs.crew.Crew.finish_thread.Goals as goal

pub loop-step-init : goal.loop-step-init
loop-step-init c = alone_first c.args.thread c.args.self.now c.requires.under_way c.requires.there c.requires.may c.requires.alone

pub make_step-requires-clause-place : goal.make_step-requires-clause-place
make_step-requires-clause-place c = (may_make 0 c.loop-step.self c.args.thread c.in-Step.step c.in-Step.intent c.loop-step.invariant.under_way c.loop-step.invariant.within (sym c.asks.ensures.asked ∙ c.in-Step.is)).place

pub make_step-requires-clause-takes : goal.make_step-requires-clause-takes
make_step-requires-clause-takes c = (may_make 0 c.loop-step.self c.args.thread c.in-Step.step c.in-Step.intent c.loop-step.invariant.under_way c.loop-step.invariant.within (sym c.asks.ensures.asked ∙ c.in-Step.is)).takes_it

pub loop-step-smaller : goal.loop-step-smaller
loop-step-smaller c =
    (alone_made c.args.thread c.args.self.now c.loop-step.self c.make_step.new.self c.in-Step.step c.in-Step.intent c.loop-step.invariant (sym c.asks.ensures.asked ∙ c.in-Step.is) c.in_ok-make_step-in-Step.ensures.made
    c.in_ok-make_step-in-Step.ensures.steppers).1

pub loop-step-preserved : goal.loop-step-preserved
loop-step-preserved c =
    (alone_made c.args.thread c.args.self.now c.loop-step.self c.make_step.new.self c.in-Step.step c.in-Step.intent c.loop-step.invariant (sym c.asks.ensures.asked ∙ c.in-Step.is) c.in_ok-make_step-in-Step.ensures.made
    c.in_ok-make_step-in-Step.ensures.steppers).0
