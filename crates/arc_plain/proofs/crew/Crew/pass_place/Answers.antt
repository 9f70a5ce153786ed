use Rattle.std.proofs.Common.{◌≡◌, length, drop, ap, sym, arith, length-drop}
use Rattle.arc_plain.specs.Crews.{Progress}
use Rattle.arc_plain.proofs.Lists.{drop_next}
use Rattle.arc_plain.proofs.crew.Crew.pass_place.Goals as goal

pub overflow_add-self : goal.overflow_add-self
overflow_add-self c =
    let places : length c.args.self.now.stage.places ≡ length (drop c.self.inside.followed c.self.inside.script.now.schedule) = sym (ap (λ (x : Progress). length x.stage.places) c.self.view_is) in
    let script : length c.args.self.now.script.schedule ≡ length c.self.inside.script.now.schedule = sym (ap (λ (x : Progress). length x.script.schedule) c.self.view_is) in
    let long = length-drop c.self.inside.followed c.self.inside.script.now.schedule in
    let some = c.requires.some in
    let few = c.requires.few in
    omega arith

pub returns : goal.returns
returns c = rw (← c.self.view_is, drop_next c.self.inside.followed c.self.inside.script.now.schedule)
