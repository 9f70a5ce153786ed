use Rattle.std.proofs.Common.{arith, length, List}
use Rattle.std.proofs.lemmas.List.Concat.{length-flat_map}
use Rattle.arc_script.specs.declared.script.Op.{Op}
use Rattle.arc_served.proofs.Counts.{sum_fits, sum_few, first_counted}
use Rattle.arc_served.proofs.programs.ops_in_first.Goals as goal

pub overflow_add-count : goal.overflow_add-count
overflow_add-count c =
    let few = sum_fits (λ (ops : List Op). length ops) (λ (ops : List Op). length ops) (λ ops. omega arith) c.args.phases.now c.loop-i.i _ _ c.loop-i.count c.len-count.result (let a = c.loop-i-test.true in let b = c.min-i-end.ensures in omega arith)
    c.index-phases-i.is c.loop-i.invariant (let a = c.len-count.ensures in omega arith) in
    let most = c.requires.few in
    let total = length-flat_map (λ (ops : List Op). ops) c.args.phases.now in
    omega arith

pub returns-clause-count : goal.returns-clause-count
returns-clause-count c =
    first_counted c.args.k c.loop-i.i c.loop-i.count c.args.phases.now
    (let a = c.loop-i-test.false in let b = c.min-i-end.ensures in let d = c.loop-i.auto.i-end in omega arith)
    c.loop-i.invariant

pub returns-clause-within : goal.returns-clause-within
returns-clause-within c =
    let few = sum_few (λ (ops : List Op). length ops) (λ (ops : List Op). length ops) (λ ops. omega arith) c.args.phases.now c.loop-i.i c.loop-i.count c.loop-i.invariant in
    let total = length-flat_map (λ (ops : List Op). ops) c.args.phases.now in
    omega arith
