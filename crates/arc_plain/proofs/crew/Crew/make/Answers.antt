use Rattle.std.proofs.Common.{◌≡◌, length, rules}
use Rattle.arc_plain.proofs.Turns.{crew_new_is}
use Rattle.arc_plain.proofs.crew.Crew.make.Goals as goal

pub invariant_of-result : goal.invariant_of-result
invariant_of-result c =
    let long : c.len.result ≡ length c.in_ok-steppers.steppers.items = search rules in
    crew_new_is c.args.script.now c.in_ok-steppers.steppers.items c.in_ok-moves.moves.items c.len.result c.requires.script c.requires.served c.in_ok-steppers.ensures (c.in_ok-moves.ensures.items_if_clones_equal (λ y e. e)) long
