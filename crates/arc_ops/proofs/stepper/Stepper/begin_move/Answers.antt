use Rattle.std.proofs.Common.{ap, ◌∙◌, sym, subst, Some, None}
use Rattle.std.proofs.lemmas.List.Elements.{All-set}
use Rattle.arc_ops.specs.Thread.{Thread}
use Rattle.arc_ops.specs.Steppers.{IsHeld, HeldFits}
use Rattle.arc_ops.proofs.Moves.{revalued}
use Rattle.arc_ops.proofs.stepper.Stepper.begin_move.Goals as goal

pub invariant_of-self : goal.invariant_of-self
invariant_of-self c =
    let same = ap (λ (t : Thread). t.layout.slots) (c.self-in-Some.view_is ∙ c.put.ensures) in
    let fits = subst (λ n. IsHeld n c.args.held) (sym same) c.requires.place in
    let P = HeldFits c.self-in-Some.inside.layout.slots in
    let held = All-set P c.self-in-Some.inside.vars.items c.args.to (Some c.args.held) fits c.self-in-Some.invariant.held in
    revalued _ c.self-in-Some.invariant c.args.to c.args.from (Some c.args.held) None (All-set P _ c.args.from None tt held)
