use Rattle.std.proofs.Common.{◌∙◌}
use Rattle.arc_served.proofs.Blocks.{next_phase, next_phase_fits}
use Rattle.arc_served.proofs.program.program_in.Goals as goal

pub put_phase-requires-clause-few : goal.put_phase-requires-clause-few
put_phase-requires-clause-few c =
    next_phase_fits c.args.phases.now c.loop-ops.ops-index c.as_slice.result.now _ c.loop-ops.program.items c.loop-ops-test.true (c.as_slice.ensures ∙ c.ops-item.is) c.loop-ops.invariant c.requires.few

pub loop-ops-preserved : goal.loop-ops-preserved
loop-ops-preserved c =
    next_phase c.args.phases.now c.loop-ops.ops-index c.as_slice.result.now _ c.loop-ops.program.items c.put_phase.new.program.items c.loop-ops-test.true (c.as_slice.ensures ∙ c.ops-item.is) c.loop-ops.invariant c.in_ok-put_phase.ensures
