use Rattle.std.proofs.Common.{ap, sym, ◌≡◌, ◌∙◌, true, length, ◌<◌, arith}
use Rattle.std.specs.Prelude.{slice_get, is_some}
use Rattle.arc_heap_index.specs.Freeing.{owner_in}
use Rattle.arc_heap_index.specs.declared.slots.SlotState.TheVariants.{Free}
use Rattle.arc_heap_index.proofs.Places.{at_place-over}
use Rattle.arc_heap_index.proofs.Fronts.{freed-logged, has-room, owner-within}
use Rattle.arc_heap_index.proofs.slots.Slots.free.Goals as goal

pub returns-then-frees-len : goal.returns-then-frees-len
returns-then-frees-len c =
    let s = c.self.inside in
    let held : is_some (owner_in (slice_get s.states.items c.args.slot)) ≡ true = rw (← c.self.view_is) at (ap is_some (sym c.at.ensures) ∙ c.if-is_none.ensures) in
    let l = has-room s.states.items s.log.items s.frees s.front c.args.slot held c.self.invariant in
    absurd (omega arith)

pub returns-then-slot-len : goal.returns-then-slot-len
returns-then-slot-len c =
    let s = c.self.inside in
    let held : is_some (owner_in (slice_get s.states.items c.args.slot)) ≡ true = rw (← c.self.view_is) at (ap is_some (sym c.at.ensures) ∙ c.if-is_none.ensures) in
    let l = owner-within s.states.items c.args.slot held in
    absurd (omega arith)

pub invariant_of-self : goal.invariant_of-self
invariant_of-self c =
    let s = c.self.inside in
    let held : is_some (owner_in (slice_get s.states.items c.args.slot)) ≡ true = rw (← c.self.view_is) at (ap is_some (sym c.at.ensures) ∙ c.if-is_none.ensures) in
    let within : c.args.slot < length s.states.items = omega arith in
    let room : s.frees < length s.log.items = omega arith in
    rw (at_place-over c.args.slot (Free s.frees) s.states.items within, at_place-over s.frees c.args.slot s.log.items room)
    (freed-logged s.states.items s.log.items s.frees s.front c.args.slot held c.self.invariant)
