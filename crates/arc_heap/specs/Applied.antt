-- What follows of each call, where an index stands for a history.
use Rattle.std.specs.Prelude.{◌≡◌, ℕ, Bool, true, ◌∷◌, Option, Some, None, find, length, Result, MatchResult}
use Rattle.arc_model.specs.declared.event.ObjectId.{ObjectId}
use Rattle.arc_model.specs.declared.event.Act.{Act}
use Rattle.arc_model.specs.declared.event.Act.TheVariants as acts
use Rattle.arc_model.specs.declared.event.Event.{Event}
use Rattle.arc_model.specs.declared.event.Illegal.{Illegal}
use Rattle.arc_model.specs.declared.event.Life.{Life}
use Rattle.arc_model.specs.declared.shape.Kind.{Kind}
use Rattle.arc_model.specs.Heaps.{Object, Heap}
use Rattle.arc_model.specs.Shapes.{HeapShape}
use Rattle.arc_model.specs.Holders.{same_id}
use Rattle.arc_model.specs.Cells.{holders_of}
use Rattle.arc_model.specs.Life.{life_of}
use Rattle.arc_model.specs.History.{History, brings, judge}
use Rattle.arc_heap.specs.declared.refusal.Refusal.{Refusal}
use Rattle.arc_heap.specs.declared.refusal.Refusal.TheVariants as refusals
use Rattle.arc_heap_judge.specs.Index.{Index}
use Rattle.arc_heap_judge.specs.Stands.{StandsFor}

-- the act makes something grow: a thread's hands, the objects, or the notes of entries
abbrev pub grows : Act → Bool
grows (acts.Claim e) = true
grows act = brings act

-- why an event was refused, and that nothing changed
abbrev pub Refuses : {H : Type 0} → Option Illegal → Act → H → H → Refusal → Type 0
Refuses verdict act old new (refusals.Illegal i) = (verdict ≡ Some i) × (new ≡ old)
Refuses verdict act old new refusals.Memory = (verdict ≡ None) × (grows act ≡ true) × (new ≡ old)

-- Ok only where nothing is wrong and one holder more can be counted, and then the new value is the one after the event
abbrev pub Answers : {H R : Type 0} → Option Illegal → Act → Bool → H → H → H → Result R Refusal → Type 0
Answers verdict act fits old after new result = MatchResult result (λ _. (verdict ≡ None) × (fits ≡ true) × (new ≡ after)) (Refuses verdict act old new)

-- From an index that stands for h: Ok exactly where the event is legal after h, and then it stands for h with the event
-- at its end; else the first need that fails, and nothing changed. Memory only at a legal act that makes something grow.
abbrev pub AppliesAfter : {R : Type 0} → History → Index → Index → Event → Result R Refusal → Type 0
AppliesAfter h old new e result =
    MatchResult result (λ _. (judge old.shape h e ≡ None) × StandsFor new (e ∷ h)) (Refuses (judge old.shape h e) e.act old new)

-- the object of that name
abbrev pub named : ObjectId → Heap → Option Object
named id heap = find (λ o. same_id o.id id) heap.objects

abbrev pub life_in : HeapShape → Option Object → Option Life
life_in shape None = None
life_in shape (Some o) = Some (life_of shape o)

abbrev pub holders_in : HeapShape → Kind → Option Object → Option ℕ
holders_in shape list None = None
holders_in shape list (Some o) = Some (length (holders_of shape list o))
