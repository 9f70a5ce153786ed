use Rattle.std.proofs.Common.{arith, length, List}
use Rattle.std.specs.List.{sum_by}
use Rattle.arc_script.specs.declared.script.Op.{Op}
use Rattle.arc_script.specs.declared.script.ThreadDecl.{ThreadDecl}
use Rattle.arc_served.specs.Programs.{new_count_of}
use Rattle.arc_served.proofs.Counts.{sum_fits, sum_few, thread_few}
use Rattle.arc_served.proofs.programs.new_count.Goals as goal

pub overflow_add-count : goal.overflow_add-count
overflow_add-count c =
    let few = sum_fits new_count_of (λ (t : ThreadDecl). sum_by (λ (ops : List Op). length ops) t.phases) thread_few c.args.threads.now c.loop-thread.thread-index _ _ c.loop-thread.count c.new_count_of-count.result c.loop-thread-test.true
    c.thread-item.is c.loop-thread.invariant c.new_count_of-count.ensures.few in
    let most = c.requires.few in
    omega arith

pub returns-clause-few : goal.returns-clause-few
returns-clause-few c =
    let few = sum_few new_count_of (λ (t : ThreadDecl). sum_by (λ (ops : List Op). length ops) t.phases) thread_few c.args.threads.now c.loop-thread.thread-index c.loop-thread.count c.loop-thread.invariant in
    let most = c.requires.few in
    omega arith
