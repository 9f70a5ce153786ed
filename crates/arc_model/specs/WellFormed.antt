-- What every heap after a legal history keeps: each object stands at one stage of its life, and each holder, slot,
-- entry and name has at most one place.
use Rattle.std.specs.Prelude.{ℕ, zero, suc, ◌+◌, ◌≤◌, Bool, true, false, ◌||◌, List, [], ◌∷◌, Some, None, is_some, slice_get, ◌≡◌}
use Rattle.arc_model.specs.declared.event.ObjectId.{ObjectId}
use Rattle.arc_model.specs.Shapes.{HeapShape}
use Rattle.arc_model.specs.Heaps.{Holder, Hand, Field, Global, Strongs, Unowneds, Forever, Deinit, Vacating, Gone, Object, Claimed, Heap}
use Rattle.arc_model.specs.Holders.{same_holder, same_id, is_empty, in_slot, has_entry, claims_it, made_by, is_duty}
use Rattle.arc_model.specs.Cells.{has_field, is_immortal, strong_holders, is_live}
use Rattle.arc_model.specs.History.{History, heap_after, next_hand, IsLegal}

-- one more where it holds
abbrev pub more : Bool → ℕ → ℕ
more true n = suc n
more false n = n

-- how often z stands in the list
abbrev pub tally : Holder → List Holder → ℕ
tally z [] = zero
tally z (x ∷ xs) = more (same_holder z x) (tally z xs)

-- how often z stands in the three lists of an object
abbrev pub held : Holder → Object → ℕ
held z o = tally z o.strong + tally z o.unowned + tally z o.weak

abbrev pub total : (Object → ℕ) → List Object → ℕ
total w [] = zero
total w (o ∷ os) = w o + total w os

abbrev pub in_slot_times : ℕ → Object → ℕ
in_slot_times s o = more (in_slot s o) zero

abbrev pub has_entry_times : ℕ → Object → ℕ
has_entry_times e o = more (has_entry e o) zero

abbrev pub named_times : ObjectId → Object → ℕ
named_times id o = more (same_id id o.id) zero

-- how often the entry is claimed
abbrev pub claimed_times : ℕ → List Claimed → ℕ
claimed_times e [] = zero
claimed_times e (c ∷ cs) = more (claims_it e c) (claimed_times e cs)

-- a hand or a cell
abbrev pub is_own : Holder → Bool
is_own (Hand p k) = true
is_own (Field o f) = true
is_own (Global g) = true
is_own Strongs = false
is_own Unowneds = false
is_own Forever = false

-- The stages of an object. While it has a slot and no entry, its one weak holder is Unowneds.
pub data IsWhole (shape : HeapShape) (o : Object) : Type 0 where
  live : is_empty (strong_holders shape o) ≡ false → o.owed ≡ None → is_some o.slot ≡ true → tally Strongs o.unowned ≡ 1 → tally Unowneds o.weak ≡ 1 → (o.entry ≡ None → o.weak ≡ Unowneds ∷ []) → IsWhole shape o
  deiniting : is_empty (strong_holders shape o) ≡ true → is_duty Deinit o.owed ≡ true → is_some o.slot ≡ true → tally Strongs o.unowned ≡ 1 → tally Unowneds o.weak ≡ 1 → (o.entry ≡ None → o.weak ≡ Unowneds ∷ []) → IsWhole shape o
  deinited : is_empty (strong_holders shape o) ≡ true → o.owed ≡ None → is_some o.slot ≡ true → tally Strongs o.unowned ≡ 0 → is_empty o.unowned ≡ false → tally Unowneds o.weak ≡ 1 → (o.entry ≡ None → o.weak ≡ Unowneds ∷ []) → IsWhole shape o
  vacating : is_empty (strong_holders shape o) ≡ true → is_duty Vacating o.owed ≡ true → is_some o.slot ≡ true → is_empty o.unowned ≡ true → tally Unowneds o.weak ≡ 1 → (o.entry ≡ None → o.weak ≡ Unowneds ∷ []) → IsWhole shape o
  going : is_empty (strong_holders shape o) ≡ true → is_duty Gone o.owed ≡ true → o.slot ≡ None → is_empty o.unowned ≡ true → tally Unowneds o.weak ≡ 1 → is_some o.entry ≡ true → IsWhole shape o
  freed : is_empty (strong_holders shape o) ≡ true → o.owed ≡ None → o.slot ≡ None → is_empty o.unowned ≡ true → tally Unowneds o.weak ≡ 0 → is_empty o.weak ≡ false → is_some o.entry ≡ true → IsWhole shape o
  dead : is_empty (strong_holders shape o) ≡ true → o.owed ≡ None → o.slot ≡ None → is_empty o.unowned ≡ true → is_empty o.weak ≡ true → o.entry ≡ None → IsWhole shape o

-- while an object is live or its deinit is owed, its fields may hold references
abbrev pub keeps_fields : HeapShape → Object → Bool
keeps_fields shape o = is_live shape o || is_duty Deinit o.owed

-- an object of the heap that passes the test has this id, and its class has this field
pub record HasField (shape : HeapShape) (test : Object → Bool) (id : ObjectId) (f : ℕ) (heap : Heap) : Type 0 where
  pub place : ℕ
  pub object : Object
  pub here : slice_get heap.objects place ≡ Some object
  pub named : object.id ≡ id
  pub field : has_field shape f object ≡ true
  pub passing : test object ≡ true

-- how often Strongs, Unowneds or Forever stands where it has no place
abbrev pub stray : Object → ℕ
stray o = tally Strongs o.strong + tally Strongs o.weak + tally Unowneds o.strong + tally Unowneds o.unowned + held Forever o

pub record IsWellFormed (shape : HeapShape) (next : ℕ → ℕ) (heap : Heap) : Type 0 where
  -- each object is at a stage
  pub whole : (i : ℕ) (o : Object) → slice_get heap.objects i ≡ Some o → IsWhole shape o
  -- an immortal object has a slot and no entry
  pub immortal : (i : ℕ) (o : Object) → slice_get heap.objects i ≡ Some o → is_immortal shape o ≡ true → (is_some o.slot ≡ true) × (o.entry ≡ None)
  -- Strongs is stored in no list but unowned, Unowneds in none but weak, Forever in none
  pub none_strays : (i : ℕ) (o : Object) → slice_get heap.objects i ≡ Some o → stray o ≡ 0
  -- a hand or a cell stands at most once, in all lists of all objects
  pub once : (z : Holder) → is_own z ≡ true → total (held z) heap.objects ≤ 1
  -- no hand that is still to come
  pub fresh : (p k : ℕ) → next p ≤ k → total (held (Hand p k)) heap.objects ≡ 0
  -- each slot is in at most one object
  pub slots : (s : ℕ) → total (in_slot_times s) heap.objects ≤ 1
  -- each entry is claimed at most once, or belongs to one object
  pub entries : (e : ℕ) → total (has_entry_times e) heap.objects + claimed_times e heap.claims ≤ 1
  -- thread p's objects are numbered from 1 to the number that it made, each once
  pub numbered : (p n : ℕ) → suc n ≤ made_by p heap.objects → total (named_times (record { thread = p; number = suc n })) heap.objects ≡ 1
  pub no_other : (p n : ℕ) → made_by p heap.objects ≤ n → total (named_times (record { thread = p; number = suc n })) heap.objects ≡ 0
  pub no_zero : (p : ℕ) → total (named_times (record { thread = p; number = zero })) heap.objects ≡ 0
  -- a field that isn't nil is one of an object that is live or whose deinit is owed
  pub owned : (id : ObjectId) (f : ℕ) → 1 ≤ total (held (Field id f)) heap.objects → HasField shape (keeps_fields shape) id f heap

abbrev pub WellFormedAfter : Type 0
WellFormedAfter = (shape : HeapShape) (h : History) → IsLegal shape h → IsWellFormed shape (λ p. next_hand p h) (heap_after h)
