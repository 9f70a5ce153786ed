use Rattle.std.proofs.Common.{◌≡◌, length, rules, ap, arith}
use Rattle.arc_plain.specs.Crews.{Progress}
use Rattle.arc_plain.proofs.Order.{threads_long, leaving_first, leaving_may, leaving_on, leaving_last}
use Rattle.arc_plain.proofs.crew.Crew.end_accesses.Goals as goal

pub loop-thread-init : goal.loop-thread-init
loop-thread-init c = leaving_first c.args.self.now c.requires.in_phases c.requires.followed

pub end_access-requires-clause-may : goal.end_access-requires-clause-may
end_access-requires-clause-may c =
    let all : c.len-thread-end.result ≡ length c.self.inside.steppers.items = search rules in
    let threads : length c.self.inside.steppers.items ≡ length c.args.self.now.stage.threads = ap (λ (x : Progress). length x.stage.threads) c.self.view_is in
    let long = c.loop-thread.invariant.long in
    λ within. leaving_may c.loop-thread.thread c.args.self.now c.loop-thread.self (omega arith) (omega arith) c.loop-thread.invariant within

pub loop-thread-preserved : goal.loop-thread-preserved
loop-thread-preserved c =
    let all : c.len-thread-end.result ≡ length c.self.inside.steppers.items = search rules in
    let threads : length c.self.inside.steppers.items ≡ length c.args.self.now.stage.threads = ap (λ (x : Progress). length x.stage.threads) c.self.view_is in
    let long = c.loop-thread.invariant.long in
    leaving_on c.loop-thread.thread c.args.self.now c.loop-thread.self c.end_access.new.self (omega arith) (omega arith) c.loop-thread.invariant c.in_ok-end_access.ensures

pub returns : goal.returns
returns c =
    let all : c.len-thread-end.result ≡ length c.self.inside.steppers.items = search rules in
    let threads : length c.self.inside.steppers.items ≡ length c.args.self.now.stage.threads = ap (λ (x : Progress). length x.stage.threads) c.self.view_is in
    let long = c.loop-thread.invariant.long in
    let few = c.self.invariant.few in
    let some = threads_long c.args.self.now c.requires.in_phases.under_way in
    leaving_last c.loop-thread.thread c.args.self.now c.loop-thread.self (omega arith) (omega arith) c.loop-thread.invariant
