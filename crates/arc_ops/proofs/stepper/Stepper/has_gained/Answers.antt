use Rattle.std.proofs.Common.{ap, ◌∙◌, Some}
use Rattle.arc_ops.specs.Thread.{Thread}
use Rattle.arc_ops.proofs.Moves.{took_one}
use Rattle.arc_ops.proofs.stepper.Stepper.has_gained.Goals as goal

pub invariant_of-self : goal.invariant_of-self
invariant_of-self c =
    let idle = ap (λ (t : Thread). t.doing) c.self.view_is ∙ c.requires.idle in
    let few = rw (← c.self.view_is) at c.requires.few in
    took_one _ c.self.invariant idle few.0 (Some c.act.result)
