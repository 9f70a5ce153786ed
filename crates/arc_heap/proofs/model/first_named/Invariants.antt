use Rattle.std.proofs.Common.{◌≡◌, ◌≤◌, ◌-◌, length, drop}
use Rattle.std.specs.Prelude.{find}
use Rattle.arc_model.specs.Holders.{same_id}
use Rattle.arc_heap_index.specs.declared.counted.Counted.{Counted}
use Rattle.arc_heap.proofs.model.first_named.Given as goal

abbrev pub invariant-loop-at : goal.invariant-loop-at
invariant-loop-at l = (l.at ≤ length l.objects) × (find (λ (c : Counted). same_id c.id l.object) l.objects ≡ find (λ (c : Counted). same_id c.id l.object) (drop l.at l.objects))

abbrev pub decreases-loop-at : goal.decreases-loop-at
decreases-loop-at l = length l.objects - l.at
