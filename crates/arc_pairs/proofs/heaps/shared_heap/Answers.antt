use Rattle.arc_pairs.proofs.Swapping.{are_for_ours}
use Rattle.arc_pairs.proofs.heaps.shared_heap.Goals as goal

pub returns-clause-globals : goal.returns-clause-globals
returns-clause-globals c = are_for_ours c.plain_heap.result c.args.globals c.in_ok-cells.cells.items c.in_ok-cells.ensures c.plain_heap.ensures.globals
