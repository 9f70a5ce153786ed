use Rattle.std.proofs.Common.{◌≡◌, ℕ, ◌<◌, length, Some}
use Rattle.std.specs.Prelude.{slice_get}
use Rattle.arc_heap_index.specs.declared.slots.SlotState.TheVariants.{Free}
use Rattle.arc_heap_index.proofs.slots.Slots.new.Given as goal

abbrev pub invariant-loop-slot : goal.invariant-loop-slot
invariant-loop-slot l = record {
  states : length l.states.items ≡ l.slot;
  log : length l.log.items ≡ l.slot;
  free : (s : ℕ) → s < l.slot → slice_get l.states.items s ≡ Some (Free s);
  logged : (s : ℕ) → s < l.slot → slice_get l.log.items s ≡ Some s;
}
