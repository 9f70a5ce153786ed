use Rattle.std.proofs.Common.{arith}
use Rattle.arc_heap_index.proofs.Fronts.{fresh-logged}
use Rattle.arc_heap_index.proofs.slots.Slots.new.Goals as goal

pub invariant_of-result : goal.invariant_of-result
invariant_of-result c =
    fresh-logged c.loop-slot.states.items c.loop-slot.log.items c.args.count (omega arith) (omega arith) (λ s l. c.loop-slot.invariant.free s (omega arith)) (λ s l. c.loop-slot.invariant.logged s (omega arith))
