use Rattle.std.proofs.Common.{◌≡◌, length, rules, ap, arith}
use Rattle.arc_plain.specs.Crews.{Progress}
use Rattle.arc_plain.proofs.Order.{threads_long, finishing_first, finishing_may, finishing_alone, finishing_on, finishing_last}
use Rattle.arc_plain.proofs.crew.Crew.finish_phase.Goals as goal

pub loop-thread-init : goal.loop-thread-init
loop-thread-init c = finishing_first c.args.self.now c.end_accesses.new.self c.in_ok-end_accesses.ensures

pub finish_thread-requires-clause-may : goal.finish_thread-requires-clause-may
finish_thread-requires-clause-may c =
    let all : c.len-thread-end.result ≡ length c.self.inside.steppers.items = search rules in
    let threads : length c.self.inside.steppers.items ≡ length c.end_accesses.new.self.stage.threads = ap (λ (x : Progress). length x.stage.threads) c.self.view_is in
    let same = c.in_ok-end_accesses.ensures.long in
    let long = c.loop-thread.invariant.long in
    finishing_may c.loop-thread.thread c.args.self.now c.loop-thread.self c.loop-thread.invariant (omega arith)

pub finish_thread-requires-clause-alone : goal.finish_thread-requires-clause-alone
finish_thread-requires-clause-alone c = finishing_alone c.loop-thread.thread c.args.self.now c.loop-thread.self c.loop-thread.invariant

pub loop-thread-preserved : goal.loop-thread-preserved
loop-thread-preserved c =
    let all : c.len-thread-end.result ≡ length c.self.inside.steppers.items = search rules in
    let threads : length c.self.inside.steppers.items ≡ length c.end_accesses.new.self.stage.threads = ap (λ (x : Progress). length x.stage.threads) c.self.view_is in
    let same = c.in_ok-end_accesses.ensures.long in
    let long = c.loop-thread.invariant.long in
    finishing_on c.loop-thread.thread c.args.self.now c.loop-thread.self c.finish_thread.new.self (omega arith) (omega arith) c.loop-thread.invariant c.in_ok-finish_thread.ensures

pub returns : goal.returns
returns c =
    let all : c.len-thread-end.result ≡ length c.self.inside.steppers.items = search rules in
    let threads : length c.self.inside.steppers.items ≡ length c.end_accesses.new.self.stage.threads = ap (λ (x : Progress). length x.stage.threads) c.self.view_is in
    let same = c.in_ok-end_accesses.ensures.long in
    let long = c.loop-thread.invariant.long in
    let few = c.self.invariant.few in
    let some = threads_long c.args.self.now c.requires.in_phases.under_way in
    finishing_last c.loop-thread.thread c.args.self.now c.loop-thread.self (omega arith) (omega arith) c.loop-thread.invariant
