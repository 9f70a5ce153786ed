use Rattle.std.proofs.Common.{length, ◌<◌, arith}
use Rattle.arc_heap_index.proofs.Places.{at_place-over}
use Rattle.arc_heap_index.proofs.Fronts.{taken-logged, grown-logged}
use Rattle.arc_heap_index.specs.declared.slots.SlotState.TheVariants.{Taken}
use Rattle.arc_heap_index.proofs.slots.Slots.take.Goals as goal

pub invariant_of-self-then-slot-len : goal.invariant_of-self-then-slot-len
invariant_of-self-then-slot-len c =
    let s = c.self.inside in
    let within : c.args.slot < length s.states.items = omega arith in
    let first = rw (c.as_slice.ensures.value, c.as_slice-then-slot-len.ensures.value, c.in_ok-push.ensures.items, at_place-over c.args.slot (Taken c.args.holder) s.states.items within) at c.first_current-front.ensures in
    rw (c.in_ok-push.ensures.items, at_place-over c.args.slot (Taken c.args.holder) s.states.items within)
    (taken-logged s.states.items s.log.items s.frees s.front c.first_current-front.result c.args.slot c.args.holder c.self.invariant first)

pub invariant_of-self-else-slot-len : goal.invariant_of-self-else-slot-len
invariant_of-self-else-slot-len c =
    let s = c.self.inside in
    rw c.in_ok-push.ensures.items (grown-logged s.states.items s.log.items s.frees s.front c.self.invariant)
