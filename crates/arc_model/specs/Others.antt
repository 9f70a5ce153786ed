-- What events of other threads leave of what a thread has.
use Rattle.std.specs.Prelude.{ℕ, Bool, true, false, [], ◌∷◌, ◌++◌, Some, None, slice_get, ◌≡◌, ◌↔◌}
use Rattle.arc_model.specs.declared.shape.Kind.{Kind}
use Rattle.arc_model.specs.declared.shape.Kind.TheVariants.{Strong}
use Rattle.arc_model.specs.Shapes.{HeapShape}
use Rattle.arc_model.specs.Heaps.{Hand, Field, Strongs, Unowneds, Deinit, Object, Heap}
use Rattle.arc_model.specs.Holders.{is_claimed_by, owes_to}
use Rattle.arc_model.specs.History.{History, heap_after, next_hand, ever_since, share, IsLegal}
use Rattle.arc_model.specs.Lookup.{spot, duty_of, list_in}

-- what thread p has is as it was: its hands, its duties, its claims
pub record IsUntouched (p : ℕ) (old new : Heap) : Type 0 where
  pub hands : (k : ℕ) → spot (Hand p k) new ≡ spot (Hand p k) old
  pub duties : (i : ℕ) → duty_of p i new ≡ duty_of p i old
  pub claims : (e : ℕ) → is_claimed_by p e new ≡ is_claimed_by p e old

-- Events of other threads leave what a thread has.
abbrev pub OthersLeave : Type 0
OthersLeave = (shape : HeapShape) (p : ℕ) (before after : History) → IsLegal shape (after ++ before) → share after p ≡ [] → IsUntouched p (heap_after before) (heap_after (after ++ before))

-- While p owes an object's deinit, events of other threads leave its fields.
abbrev pub OthersLeaveFields : Type 0
OthersLeaveFields = (shape : HeapShape) (p : ℕ) (before after : History) (i : ℕ) (o : Object) (f : ℕ) → IsLegal shape (after ++ before) → share after p ≡ [] →
    slice_get (heap_after before).objects i ≡ Some o → owes_to p Deinit o ≡ true → spot (Field o.id f) (heap_after (after ++ before)) ≡ spot (Field o.id f) (heap_after before)

-- Where hand k of p is an object's only unowned holder, or its only weak one, events of other threads leave that list. To
-- a strong list another thread's load of an unowned or weak reference may add.
abbrev pub SoleHolderStays : Type 0
SoleHolderStays = (shape : HeapShape) (p k : ℕ) (before after : History) (i : ℕ) (list : Kind) → IsLegal shape (after ++ before) → share after p ≡ [] → (list ≡ Strong → ⊥) →
    list_in list (slice_get (heap_after before).objects i) ≡ Hand p k ∷ [] → list_in list (slice_get (heap_after (after ++ before)).objects i) ≡ Hand p k ∷ []

-- hand k of p is the object's only holder beside the two extra ones
pub record IsUnshared (p k : ℕ) (o : Object) : Type 0 where
  pub strong : o.strong ≡ Hand p k ∷ []
  pub unowned : o.unowned ≡ Strongs ∷ []
  pub weak : o.weak ≡ Unowneds ∷ []

-- Events of other threads leave the lists of such an object.
abbrev pub UnsharedStays : Type 0
UnsharedStays = (shape : HeapShape) (p k : ℕ) (before after : History) (i : ℕ) (o : Object) → IsLegal shape (after ++ before) → share after p ≡ [] → slice_get (heap_after before).objects i ≡ Some o → IsUnshared p k o →
    (q : Object) × (slice_get (heap_after (after ++ before)).objects i ≡ Some q) × IsUnshared p k q

-- thread p has nothing: no hand, no duty, no claim
pub record IsQuiet (p : ℕ) (heap : Heap) : Type 0 where
  pub hands : (k : ℕ) → spot (Hand p k) heap ≡ None
  pub duties : (i : ℕ) → duty_of p i heap ≡ None
  pub claims : (e : ℕ) → is_claimed_by p e heap ≡ false

-- Once quiet, a thread stays so while it does nothing.
abbrev pub StaysQuiet : Type 0
StaysQuiet = (shape : HeapShape) (p : ℕ) (before after : History) → IsLegal shape (after ++ before) → share after p ≡ [] → IsQuiet p (heap_after before) → IsQuiet p (heap_after (after ++ before))

-- The number of a thread's next hand is by its own events alone.
abbrev pub NextHandStays : Type 0
NextHandStays = (p : ℕ) (before after : History) → share after p ≡ [] → next_hand p (after ++ before) ≡ next_hand p before

-- a point since the last event of p, or since the start, at which the test holds of the heap
pub record SeenAt (p : ℕ) (test : Heap → Bool) (h : History) : Type 0 where
  pub later : History
  pub earlier : History
  pub split : h ≡ later ++ earlier
  pub since : share later p ≡ []
  pub seen : test (heap_after earlier) ≡ true

-- What `full` and `noentry` look back for is such a point.
abbrev pub SeenIsAtPoint : Type 0
SeenIsAtPoint = (p : ℕ) (test : Heap → Bool) (h : History) → (ever_since p test h ≡ true) ↔ SeenAt p test h
