use Rattle.std.proofs.Common.{length, ap, ◌∙◌, arith}
use Rattle.arc_script.proofs.OneList.{length_in_one}
use Rattle.arc_served.proofs.program.Program.make.Goals as goal

pub numbers_in-requires : goal.numbers_in-requires
numbers_in-requires c =
    let few = c.requires.few in
    let long = ap length (c.deref.ensures.value ∙ c.in_ok-ops.ensures) ∙ length_in_one 0 c.args.phases.now in
    record { few = omega (arith, few, long) }
