use Rattle.arc_ops.proofs.Made.{is_stepper, phases_few, to_fit}
use Rattle.arc_ops.proofs.stepper.Stepper.make.Goals as goal

pub make-requires-clause-few : goal.make-requires-clause-few
make-requires-clause-few c = rw c.phases_of-phases.ensures (phases_few c.args.script.now c.args.thread c.requires.script)

pub make-requires-clause-to : goal.make-requires-clause-to
make-requires-clause-to c = rw c.phases_of-phases.ensures (to_fit c.args.script.now c.args.thread c.requires.script)

pub invariant_of-result : goal.invariant_of-result
invariant_of-result c =
    rw (c.in_ok-lines.ensures, c.new_count.ensures.count, c.as_slice.ensures, c.len.ensures, c.requires.layout, c.in_ok-program.ensures, c.phases_of-phases.ensures, c.in_ok-vars.ensures, c.vars_of-declared.ensures.count, c.vars_of-declared.ensures.classes)
    (is_stepper c.args.script.now c.args.thread c.requires.script c.requires.served c.requires.thread)
