use Rattle.arc_plain.proofs.Order.{between_first, between_on, between_last}
use Rattle.arc_plain.proofs.crew.Crew.run_phases.Goals as goal

pub loop-self-init : goal.loop-self-init
loop-self-init c = between_first c.args.self.now c.requires.script c.requires.served c.requires.first

pub loop-self-smaller : goal.loop-self-smaller
loop-self-smaller c =
    (between_on c.args.self.now c.loop-self.self c.begin_phase.new.self c.follow.new.self c.finish_phase.new.self c.loop-self.invariant (c.awaits_phase.ensures.some c.loop-self-test.true) c.begin_phase.ensures.begun c.in_ok-follow.ensures c.in_ok-finish_phase.ensures).1

pub loop-self-preserved : goal.loop-self-preserved
loop-self-preserved c =
    (between_on c.args.self.now c.loop-self.self c.begin_phase.new.self c.follow.new.self c.finish_phase.new.self c.loop-self.invariant (c.awaits_phase.ensures.some c.loop-self-test.true) c.begin_phase.ensures.begun c.in_ok-follow.ensures c.in_ok-finish_phase.ensures).0

pub returns : goal.returns
returns c = between_last c.args.self.now c.loop-self.self c.loop-self.invariant (c.awaits_phase.ensures.none c.loop-self-test.false)
