use Rattle.std.proofs.Common.{ap, sym, ◌≡◌, ◌∙◌, true, length, ◌<◌, arith}
use Rattle.std.specs.Prelude.{slice_get, is_some}
use Rattle.arc_heap_index.specs.Freeing.{owner_in}
use Rattle.arc_heap_index.proofs.Places.{at_place-over}
use Rattle.arc_heap_index.proofs.Fronts.{changed-logged}
use Rattle.arc_heap_index.proofs.slots.Slots.change.Goals as goal

pub invariant_of-self : goal.invariant_of-self
invariant_of-self c =
    let s = c.self.inside in
    let within : c.args.slot < length s.states.items = omega arith in
    let held : is_some (owner_in (slice_get s.states.items c.args.slot)) ≡ true = rw (← c.self.view_is) at (ap is_some (sym c.at.ensures) ∙ c.if-is_none.ensures) in
    rw (at_place-over _ _ _ within) (changed-logged s.states.items s.log.items s.frees s.front c.args.slot c.args.holder held c.self.invariant)
