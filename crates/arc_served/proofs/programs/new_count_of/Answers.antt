use Rattle.std.proofs.Common.{arith, length, List}
use Rattle.std.specs.List.{count_by}
use Rattle.arc_script.specs.declared.script.Op.{Op}
use Rattle.arc_served.specs.Programs.{is_new}
use Rattle.arc_served.proofs.Counts.{sum_fits, sum_few, new_few}
use Rattle.arc_served.proofs.programs.new_count_of.Goals as goal

pub overflow_add-count : goal.overflow_add-count
overflow_add-count c =
    let few = sum_fits (λ (ops : List Op). count_by is_new ops) (λ (ops : List Op). length ops) new_few c.args.thread.now.phases c.loop-ops.ops-index _ _ c.loop-ops.count c.new_in-count.result (rw c.as_slice-ops-items.ensures at c.loop-ops-test.true)
    (rw c.as_slice-ops-items.ensures at c.ops-item.is) c.loop-ops.invariant (rw c.as_slice.ensures at c.new_in-count.ensures.few) in
    let most = c.requires.few in
    omega arith

pub returns-clause-few : goal.returns-clause-few
returns-clause-few c = sum_few (λ (ops : List Op). count_by is_new ops) (λ (ops : List Op). length ops) new_few c.args.thread.now.phases c.loop-ops.ops-index c.loop-ops.count c.loop-ops.invariant
