-- Laws of all legal histories.
use Rattle.std.specs.Prelude.{ℕ, true, IsTrue, List, [], ◌∷◌, ◌++◌, Option, Some, None, ◌≡◌, ◌≢◌, slice_get, length}
use Rattle.arc_model.specs.declared.event.Got.TheVariants as got
use Rattle.arc_model.specs.declared.event.Act.TheVariants as acts
use Rattle.arc_model.specs.declared.event.Event.{Event}
use Rattle.arc_model.specs.Shapes.{HeapShape}
use Rattle.arc_model.specs.Heaps.{Holder, Hand, Object, Heap}
use Rattle.arc_model.specs.Holders.{is_in, held_by}
use Rattle.arc_model.specs.Cells.{is_immortal, strong_holders, is_live}
use Rattle.arc_model.specs.Lookup.{entry_in}
use Rattle.arc_model.specs.History.{History, heap_after, IsLegal}

abbrev pub strong_in : HeapShape → Option Object → List Holder
strong_in shape None = []
strong_in shape (Some o) = strong_holders shape o

-- the strong holders of the i-th object that was made
abbrev pub strong_list : HeapShape → ℕ → Heap → List Holder
strong_list shape i heap = strong_in shape (slice_get heap.objects i)

-- the event after h empties the strong list of object i
abbrev pub Empties : HeapShape → ℕ → History → Event → Type 0
Empties shape i h e = (strong_list shape i (heap_after h) ≢ []) × (strong_list shape i (heap_after (e ∷ h)) ≡ [])

-- the event is a `drop H last` of a hand H in that list
abbrev pub IsLastStrongDrop : HeapShape → ℕ → History → Event → Type 0
IsLastStrongDrop shape i h e =
    (hand : ℕ) × (e.act ≡ acts.Drop hand true) × IsTrue (is_in (Hand e.thread hand) (strong_list shape i (heap_after h)))

-- At most one event empties an object's strong list. It is the drop of its last holder, and nothing is added later.
pub record EndsOnce (shape : HeapShape) : Type 0 where
  pub once : (i : ℕ) (before between : History) (e f : Event) → IsLegal shape (f ∷ between ++ e ∷ before) → Empties shape i before e → Empties shape i (between ++ e ∷ before) f → ⊥
  pub by_drop : (i : ℕ) (before : History) (e : Event) → IsLegal shape (e ∷ before) → Empties shape i before e → IsLastStrongDrop shape i before e
  pub stays : (i : ℕ) (before after : History) (e : Event) → IsLegal shape (after ++ e ∷ before) → Empties shape i before e → strong_list shape i (heap_after (after ++ e ∷ before)) ≡ []

abbrev pub StrongListEndsOnce : Type 0
StrongListEndsOnce = (shape : HeapShape) → EndsOnce shape

abbrev pub unowned_in : Option Object → List Holder
unowned_in None = []
unowned_in (Some o) = o.unowned

abbrev pub unowned_list : ℕ → Heap → List Holder
unowned_list i heap = unowned_in (slice_get heap.objects i)

-- among the events between there is a `vacate` of the slot, where object i has no strong and no unowned holder
pub record IsVacated (shape : HeapShape) (i slot : ℕ) (before between : History) : Type 0 where
  pub later : History
  pub earlier : History
  pub event : Event
  pub split : between ≡ later ++ event ∷ earlier
  pub act : event.act ≡ acts.Vacate slot
  pub strong : strong_list shape i (heap_after (earlier ++ before)) ≡ []
  pub unowned : unowned_list i (heap_after (earlier ++ before)) ≡ []

-- the event makes an object in the slot
abbrev pub Makes : ℕ → Event → Type 0
Makes slot e = (hand class : ℕ) × (e.act ≡ acts.New hand class slot)

-- Between two `new` events of one slot stands a `vacate` of it, at which the first object has no strong and no unowned holder.
abbrev pub SlotVacatedBetween : Type 0
SlotVacatedBetween = (shape : HeapShape) (slot : ℕ) (before between : History) (e f : Event) →
    IsLegal shape (f ∷ between ++ e ∷ before) → Makes slot e → Makes slot f →
    IsVacated shape (length (heap_after before).objects) slot (e ∷ before) between

-- No load takes a strong reference to an object after the event that emptied its strong list.
abbrev pub LoadsBeforeEnd : Type 0
LoadsBeforeEnd = (shape : HeapShape) (i hand took : ℕ) (before after : History) (e f : Event) →
    IsLegal shape (f ∷ after ++ e ∷ before) → Empties shape i before e → f.act ≡ acts.Load hand (got.Hand took) →
    held_by (Hand f.thread hand) (heap_after (after ++ e ∷ before)) ≡ slice_get (heap_after (after ++ e ∷ before)).objects i → ⊥

abbrev pub weak_in : Option Object → List Holder
weak_in None = []
weak_in (Some o) = o.weak

-- Among the events between there is a `back` of the entry. Each object that had the entry before it has no weak holder then.
pub record IsGivenBack (entry : ℕ) (before between : History) : Type 0 where
  pub later : History
  pub earlier : History
  pub event : Event
  pub split : between ≡ later ++ event ∷ earlier
  pub act : event.act ≡ acts.Back entry
  pub emptied : (i : ℕ) (after since : History) → earlier ≡ after ++ since → entry_in (slice_get (heap_after (since ++ before)).objects i) ≡ Some entry → weak_in (slice_get (heap_after (earlier ++ before)).objects i) ≡ []

-- Between two `claim` events of an entry stands a `back` of it; where it belonged to an object, that object's weak list is empty then.
abbrev pub EntryGivenBackBetween : Type 0
EntryGivenBackBetween = (shape : HeapShape) (entry : ℕ) (before between : History) (e f : Event) →
    IsLegal shape (f ∷ between ++ e ∷ before) → e.act ≡ acts.Claim entry → f.act ≡ acts.Claim entry → IsGivenBack entry (e ∷ before) between

-- object i is live in this slot, and has no entry
pub record LivesOn (shape : HeapShape) (i : ℕ) (slot : Option ℕ) (heap : Heap) : Type 0 where
  pub object : Object
  pub here : slice_get heap.objects i ≡ Some object
  pub live : is_live shape object ≡ true
  pub slot_is : object.slot ≡ slot
  pub no_entry : object.entry ≡ None
  pub not_owed : object.owed ≡ None

-- An object of an immortal class is live in its slot after each event.
abbrev pub ImmortalsLiveOn : Type 0
ImmortalsLiveOn = (shape : HeapShape) (i : ℕ) (o : Object) (before after : History) → IsLegal shape (after ++ before) →
    slice_get (heap_after before).objects i ≡ Some o → is_immortal shape o ≡ true → LivesOn shape i o.slot (heap_after (after ++ before))
