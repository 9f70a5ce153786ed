use Rattle.std.proofs.Common.{◌≡◌, ℕ, ◌<◌, ◌≤◌, ◌-◌, false}
use Rattle.arc_heap_index.specs.Freeing.{is_current_entry}
use Rattle.arc_heap_index.proofs.slots.first_current.Given as goal

abbrev pub invariant-loop-at : goal.invariant-loop-at
invariant-loop-at l = (l.at ≤ l.frees) × ((j : ℕ) → j < l.at → is_current_entry l.states l.log j ≡ false)

abbrev pub decreases-loop-at : goal.decreases-loop-at
decreases-loop-at l = l.frees - l.at
