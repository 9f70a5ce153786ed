use Rattle.std.proofs.Common.{ap, ◌∙◌, Some, ◌+◌}
use Rattle.arc_model.specs.declared.event.Act.TheVariants as acts
use Rattle.arc_ops.specs.Thread.{Thread}
use Rattle.arc_ops.proofs.Moves.{made_one}
use Rattle.arc_ops.proofs.stepper.Stepper.came_to.Goals as goal

pub invariant_of-self : goal.invariant_of-self
invariant_of-self c =
    let idle = ap (λ (t : Thread). t.doing) c.self.view_is ∙ c.requires.idle in
    let few = rw c.in-Some.is at c.requires.few in
    made_one _ c.self.invariant idle (rw (← c.self.view_is) at few) (Some (acts.New (c.self.inside.hands + 1) c.args.name.class c.in-Some.slot))
