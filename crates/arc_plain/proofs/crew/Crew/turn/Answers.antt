use Rattle.std.proofs.Common.{◌≡◌, ◌<◌, List, length, get_or, ap, ◌∙◌, sym, subst, arith}
use Rattle.arc_ops.specs.Thread.{Thread, stepper_of}
use Rattle.arc_plain.specs.Crews.{Progress, step_count}
use Rattle.arc_plain.proofs.Turns.{one_few, steps_few, crew_turned}
use Rattle.std.proofs.lemmas.List.Elements.{All-set}
use Rattle.arc_ops.specs.Steppers.{IsStepper}
use Rattle.arc_plain.proofs.crew.Crew.turn.Goals as goal

pub overflow_add-self : goal.overflow_add-self
overflow_add-self c =
    let few = c.self.invariant.few in
    let busy = c.self.invariant.busy_is in
    let all = steps_few c.self.inside.steppers.items in
    let one = one_few c.next-turn.result.next in
    omega arith

pub invariant_of-self : goal.invariant_of-self
invariant_of-self c =
    let threads : c.args.self.now.stage.threads ≡ c.self.inside.steppers.items = sym (ap (λ (x : Progress). x.stage.threads) c.self.view_is) in
    crew_turned c.self.inside.steppers.items c.self.inside.moves.items c.self.inside.busy c.args.thread c.next-turn.new.self (stepper_of c.args.self.now.script c.args.thread) c.next-turn.result.next c.count_of.result c.count_of-before.result
    c.self.invariant (subst (λ (ts : List Thread). c.args.thread < length ts) threads c.requires.there) c.next-turn.ensures.next c.next-turn.ensures.is_stepper c.count_of.ensures
    (c.count_of-before.ensures ∙ (ap step_count c.asks.ensures.asked ∙ ap (λ (ts : List Thread). step_count (get_or ts c.args.thread (stepper_of c.args.self.now.script c.args.thread)).asked) threads))

pub returns-clause-steppers : goal.returns-clause-steppers
returns-clause-steppers c = All-set IsStepper c.self.inside.steppers.items c.args.thread c.next-turn.new.self c.next-turn.ensures.is_stepper c.self.invariant.steppers
