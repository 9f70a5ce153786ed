use Rattle.std.proofs.Common.{◌≡◌, ◌+◌, List, length, rules, ap, ◌∙◌, sym, subst, arith}
use Rattle.std.specs.Prelude.{All}
use Rattle.arc_ops.specs.Thread.{Thread}
use Rattle.arc_ops.specs.Steppers.{IsStepper}
use Rattle.arc_plain.specs.Crews.{Progress, IsInPhases}
use Rattle.arc_plain.proofs.Order.{beginning_takes, beginning_on, beginning_last, beginning_done, begun_in_phases, phase_left}
use Rattle.arc_plain.proofs.crew.Crew.begin_phase.Goals as goal

pub begin-requires-clause-takes : goal.begin-requires-clause-takes
begin-requires-clause-takes c =
    let all : c.len-thread-end.result ≡ length c.self.inside.steppers.items = search rules in
    let threads : length c.self.inside.steppers.items ≡ length c.args.self.now.stage.threads = ap (λ (x : Progress). length x.stage.threads) c.self.view_is in
    let long = c.loop-thread.invariant.begun.long in
    beginning_takes c.loop-thread.thread c.args.self.now c.loop-thread.self c.requires.in_phases.under_way (omega arith) c.loop-thread.invariant.begun

pub loop-thread-preserved : goal.loop-thread-preserved
loop-thread-preserved c =
    let all : c.len-thread-end.result ≡ length c.self.inside.steppers.items = search rules in
    let threads : length c.self.inside.steppers.items ≡ length c.args.self.now.stage.threads = ap (λ (x : Progress). length x.stage.threads) c.self.view_is in
    let long = c.loop-thread.invariant.begun.long in
    record {
      begun = beginning_on c.loop-thread.thread c.args.self.now c.loop-thread.self c.begin.new.self (omega arith) (omega arith) c.loop-thread.invariant.begun c.begin.ensures.begun;
      steppers = c.begin.ensures.steppers;
    }

pub overflow_add-self : goal.overflow_add-self
overflow_add-self c =
    let few = phase_left c.args.self.now c.requires.in_phases.under_way c.requires.some in
    let now : c.self-2.inside.begun ≡ c.loop-thread.self.stage.begun = ap (λ (x : Progress). x.stage.begun) c.self-2.view_is in
    let before : c.loop-thread.self.stage.begun ≡ c.args.self.now.stage.begun = ap (λ (x : Progress). x.stage.begun) c.loop-thread.invariant.begun.c_is in
    omega arith

pub returns-clause-begun : goal.returns-clause-begun
returns-clause-begun c =
    let all : c.len-thread-end.result ≡ length c.self.inside.steppers.items = search rules in
    let threads : length c.self.inside.steppers.items ≡ length c.args.self.now.stage.threads = ap (λ (x : Progress). length x.stage.threads) c.self.view_is in
    let long = c.loop-thread.invariant.begun.long in
    ap (λ (x : Progress). record { script = x.script; stage = record x.stage { begun = x.stage.begun + 1 } }) c.self-2.view_is ∙ beginning_done c.loop-thread.thread c.args.self.now c.loop-thread.self (omega arith) c.loop-thread.invariant.begun

pub returns-clause-in_phases : goal.returns-clause-in_phases
returns-clause-in_phases c =
    let all : c.len-thread-end.result ≡ length c.self.inside.steppers.items = search rules in
    let threads : length c.self.inside.steppers.items ≡ length c.args.self.now.stage.threads = ap (λ (x : Progress). length x.stage.threads) c.self.view_is in
    let long = c.loop-thread.invariant.begun.long in
    subst IsInPhases
    (sym (ap (λ (x : Progress). record { script = x.script; stage = record x.stage { begun = x.stage.begun + 1 } }) c.self-2.view_is ∙ beginning_done c.loop-thread.thread c.args.self.now c.loop-thread.self (omega arith) c.loop-thread.invariant.begun))
    (begun_in_phases c.args.self.now c.requires.in_phases c.requires.none c.requires.some
    (subst (λ (ts : List Thread). All IsStepper ts) (beginning_last c.loop-thread.thread c.args.self.now c.loop-thread.self (omega arith) c.loop-thread.invariant.begun) c.loop-thread.invariant.steppers))
