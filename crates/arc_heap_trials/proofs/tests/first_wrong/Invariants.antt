use Rattle.std.proofs.Common.{◌≡◌}
use Rattle.arc_heap_judge.specs.Stands.{thread_count}
use Rattle.arc_heap_trials.proofs.tests.first_wrong.Given as goal

-- the heap is still one of three threads, of this shape
abbrev pub invariant-loop-number : goal.invariant-loop-number
invariant-loop-number l = record {
  threads : thread_count l.heap ≡ 3;
  shape : l.heap.shape ≡ l.shape;
}
