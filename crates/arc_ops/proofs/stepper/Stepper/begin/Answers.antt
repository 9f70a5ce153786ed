use Rattle.std.proofs.Common.{ap, ◌∙◌, arith}
use Rattle.arc_ops.specs.Thread.{Thread}
use Rattle.arc_ops.specs.Begins.{begun}
use Rattle.arc_served.proofs.Blocks.{long_as_phases}
use Rattle.arc_ops.proofs.Moves.{moved}
use Rattle.arc_ops.proofs.Passed.{begun_from}
use Rattle.arc_ops.proofs.stepper.Stepper.begin.Goals as goal

pub invariant_of-self : goal.invariant_of-self
invariant_of-self c =
    let idle = ap (λ (t : Thread). t.doing) c.self.view_is ∙ c.requires.idle in
    moved _ c.self.invariant idle c.first_asking-at.result c.first_asking-at.new.vars.items c.first_asking-at.new.lines c.first_asking-at.ensures.from c.first_asking-at.ensures.within c.first_asking-at.ensures.count
    (c.first_asking-at.ensures.held c.self.inside.layout.slots)

pub invariant_of-self-else-at-end : goal.invariant_of-self-else-at-end
invariant_of-self-else-at-end c =
    let idle = ap (λ (t : Thread). t.doing) c.self.view_is ∙ c.requires.idle in
    moved _ c.self.invariant idle c.first_asking-at.result c.first_asking-at.new.vars.items c.first_asking-at.new.lines c.first_asking-at.ensures.from c.first_asking-at.ensures.within c.first_asking-at.ensures.count
    (c.first_asking-at.ensures.held c.self.inside.layout.slots)

pub begin_op-requires-clause-at : goal.begin_op-requires-clause-at
begin_op-requires-clause-at c = c.op-op.ensures

pub begin_op-requires-clause-asks : goal.begin_op-requires-clause-asks
begin_op-requires-clause-asks c = c.first_asking-at.ensures.asks c.if-at-end.true c.op-op.result c.op-op.ensures

pub returns-then-at-end : goal.returns-then-at-end
returns-then-at-end c =
    begun_from _ c.begin_op.new.self c.op-op.result c.first_asking-at.result c.ops_in_first-end.result c.first_asking-at.new.vars.items c.first_asking-at.new.lines c.ops_in_first-end.ensures.count
    (rw (long_as_phases c.self.inside.program c.self.inside.phases.now c.self.invariant.whole) at c.ops_in_first-end.ensures.within) c.if-at-end.true c.op-op.ensures c.first_asking-at.ensures.same c.begin_op.ensures
    ∙ ap begun c.self.view_is

pub ops_in_first-end-requires : goal.ops_in_first-end-requires
ops_in_first-end-requires c =
    let few = c.self.invariant.few in
    let long = long_as_phases c.self.inside.program c.self.inside.phases.now c.self.invariant.whole in
    record { few = omega (arith, few, long) }

pub first_asking-at-requires-clause-end : goal.first_asking-at-requires-clause-end
first_asking-at-requires-clause-end c = rw (long_as_phases c.self.inside.program c.self.inside.phases.now c.self.invariant.whole) at c.ops_in_first-end.ensures.within

pub op-op-requires : goal.op-op-requires
op-op-requires c =
    let within = rw (long_as_phases c.self.inside.program c.self.inside.phases.now c.self.invariant.whole) at c.ops_in_first-end.ensures.within in
    let below = c.if-at-end.true in
    omega (arith, within, below)

pub begin_op-requires-clause-few : goal.begin_op-requires-clause-few
begin_op-requires-clause-few c =
    let within = rw (long_as_phases c.self.inside.program c.self.inside.phases.now c.self.invariant.whole) at c.ops_in_first-end.ensures.within in
    let below = c.if-at-end.true in
    let from = c.first_asking-at.ensures.from in
    let few = rw (← c.self.view_is) at c.requires.few in
    let f = few (omega (arith, within, below, from)) in
    let hands = f.0 in
    let made = f.1 in
    (omega (arith, hands, from), omega (arith, made, from))
