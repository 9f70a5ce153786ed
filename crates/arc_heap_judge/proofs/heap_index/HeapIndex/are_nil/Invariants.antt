use Rattle.std.proofs.Common.{◌≡◌, true}
use Rattle.arc_heap_judge.specs.Judging.{are_empty}
use Rattle.arc_heap_judge.proofs.heap_index.HeapIndex.are_nil.Given as goal

abbrev pub invariant-loop-field : goal.invariant-loop-field
invariant-loop-field l = are_empty l.self l.slot l.field ≡ true
