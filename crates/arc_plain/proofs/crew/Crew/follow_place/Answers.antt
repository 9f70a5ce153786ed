use Rattle.std.proofs.Common.{◌≡◌, Result, Ok, Err, ap, ◌∙◌, sym}
use Rattle.std.specs.Prelude.{OnOk}
use Rattle.arc_replays.specs.Stages.{is_step}
use Rattle.arc_plain.specs.Crews.{Progress, thread_at}
use Rattle.arc_plain.proofs.Places.{place_fits, may_make, place_made_on, place_passed, places_left}
use Rattle.arc_plain.proofs.crew.Crew.follow_place.Goals as goal

both_ok : {T E P Q R : Type 0} (r : Result T E) → OnOk r P → OnOk r Q → (P → Q → R) → OnOk r R
both_ok (Ok x) p q f = f p q
both_ok (Err e) p q f = tt

pub pass_place-requires-clause-some : goal.pass_place-requires-clause-some
pass_place-requires-clause-some c = places_left c.args.self.now.stage.places c.args.thread c.requires.next

pub pass_place-requires-clause-few : goal.pass_place-requires-clause-few
pass_place-requires-clause-few c = c.requires.in_phases.under_way.script.few_places

pub asks-requires : goal.asks-requires
asks-requires c = rw c.pass_place.ensures (place_fits c.args.self.now c.args.thread c.requires.in_phases.under_way c.requires.next).1

pub make_step-requires-clause-there : goal.make_step-requires-clause-there
make_step-requires-clause-there c = rw c.pass_place.ensures (place_fits c.args.self.now c.args.thread c.requires.in_phases.under_way c.requires.next).1

pub make_step-requires-clause-place : goal.make_step-requires-clause-place
make_step-requires-clause-place c =
    let at : c.asks.result ≡ (thread_at c.args.thread c.args.self.now).asked = c.asks.ensures.asked ∙ ap (λ (x : Progress). (thread_at c.args.thread x).asked) c.pass_place.ensures in
    rw c.pass_place.ensures (may_make 0 c.args.self.now c.args.thread c.in-Step.step c.in-Step.intent c.requires.in_phases.under_way (place_fits c.args.self.now c.args.thread c.requires.in_phases.under_way c.requires.next).1 (sym at ∙ c.in-Step.is)).place

pub make_step-requires-clause-takes : goal.make_step-requires-clause-takes
make_step-requires-clause-takes c =
    let at : c.asks.result ≡ (thread_at c.args.thread c.args.self.now).asked = c.asks.ensures.asked ∙ ap (λ (x : Progress). (thread_at c.args.thread x).asked) c.pass_place.ensures in
    rw c.pass_place.ensures (may_make 0 c.args.self.now c.args.thread c.in-Step.step c.in-Step.intent c.requires.in_phases.under_way (place_fits c.args.self.now c.args.thread c.requires.in_phases.under_way c.requires.next).1 (sym at ∙ c.in-Step.is)).takes_it

pub returns-in-Step : goal.returns-in-Step
returns-in-Step c =
    let at : c.asks.result ≡ (thread_at c.args.thread c.args.self.now).asked = c.asks.ensures.asked ∙ ap (λ (x : Progress). (thread_at c.args.thread x).asked) c.pass_place.ensures in
    both_ok c.make_step.result c.make_step.ensures.made c.make_step.ensures.steppers
    (λ made steppers. place_made_on c.args.self.now c.pass_place.new.self c.make_step.new.self c.args.thread c.in-Step.step c.in-Step.intent c.requires.in_phases c.requires.next c.pass_place.ensures (sym at ∙ c.in-Step.is) made steppers)

pub returns-in-PhaseEnd : goal.returns-in-PhaseEnd
returns-in-PhaseEnd c =
    let at : c.asks.result ≡ (thread_at c.args.thread c.args.self.now).asked = c.asks.ensures.asked ∙ ap (λ (x : Progress). (thread_at c.args.thread x).asked) c.pass_place.ensures in
    rw c.pass_place.ensures (place_passed c.args.self.now c.args.thread c.requires.in_phases c.requires.next c.requires.some (ap is_step (sym at ∙ c.in-PhaseEnd.is)))

pub returns-in-Ended : goal.returns-in-Ended
returns-in-Ended c =
    let at : c.asks.result ≡ (thread_at c.args.thread c.args.self.now).asked = c.asks.ensures.asked ∙ ap (λ (x : Progress). (thread_at c.args.thread x).asked) c.pass_place.ensures in
    rw c.pass_place.ensures (place_passed c.args.self.now c.args.thread c.requires.in_phases c.requires.next c.requires.some (ap is_step (sym at ∙ c.in-Ended.is)))
