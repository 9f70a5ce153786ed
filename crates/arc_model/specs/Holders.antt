-- Who holds what: holders in lists, objects among objects, slots and entries that are taken.
use Rattle.std.specs.Prelude.{ℕ, Bool, true, false, ◌==◌, ◌&&◌, ◌||◌, if◌then◌else◌, List, [], ◌∷◌, ◌++◌, find, Option, Some, None, is_some, count_by}
use Rattle.std.specs.List.{list_any}
use Rattle.arc_model.specs.declared.event.ObjectId.{ObjectId}
use Rattle.arc_model.specs.declared.shape.Kind.{Kind}
use Rattle.arc_model.specs.declared.shape.Kind.TheVariants.{Strong, Unowned, Weak}
use Rattle.arc_model.specs.Heaps.{Holder, Hand, Field, Global, Strongs, Unowneds, Forever, Duty, Deinit, Vacating, Gone, Owed, Object, Claimed, Heap}

abbrev pub same_id : ObjectId → ObjectId → Bool
same_id a b = a.thread == b.thread && a.number == b.number

abbrev pub same_holder : Holder → Holder → Bool
same_holder (Hand p k) (Hand q n) = p == q && k == n
same_holder (Field o f) (Field q g) = same_id o q && f == g
same_holder (Global g) (Global n) = g == n
same_holder Strongs Strongs = true
same_holder Unowneds Unowneds = true
same_holder Forever Forever = true
same_holder _ _ = false

abbrev pub is_hand_of : ℕ → Holder → Bool
is_hand_of p (Hand q k) = q == p
is_hand_of p _ = false

-- x is in the list
abbrev pub is_in : Holder → List Holder → Bool
is_in x xs = list_any (same_holder x) xs

abbrev pub is_empty : List Holder → Bool
is_empty [] = true
is_empty (x ∷ xs) = false

-- one holder and no other
abbrev pub is_alone : List Holder → Bool
is_alone [] = false
is_alone (x ∷ []) = true
is_alone (x ∷ y ∷ ys) = false

-- the list with y at its end
abbrev pub with_last : Holder → List Holder → List Holder
with_last y xs = xs ++ y ∷ []

-- the list with y at its end, where x is in it
abbrev pub gains : Holder → Holder → List Holder → List Holder
gains x y xs = if is_in x xs then xs ++ y ∷ [] else xs

-- the list without x
abbrev pub without : Holder → List Holder → List Holder
without x [] = []
without x (z ∷ zs) = if same_holder x z then zs else z ∷ without x zs

-- the list with y in the place of x
abbrev pub renamed : Holder → Holder → List Holder → List Holder
renamed x y [] = []
renamed x y (z ∷ zs) = if same_holder x z then y ∷ zs else z ∷ renamed x y zs

abbrev pub list_of : Kind → Object → List Holder
list_of Strong o = o.strong
list_of Unowned o = o.unowned
list_of Weak o = o.weak

-- the object with its three lists changed
abbrev pub lists : (List Holder → List Holder) → Object → Object
lists f o = record o { strong = f o.strong; unowned = f o.unowned; weak = f o.weak }

-- the object with one list changed
abbrev pub with_list : Kind → (List Holder → List Holder) → Object → Object
with_list Strong f o = record o { strong = f o.strong }
with_list Unowned f o = record o { unowned = f o.unowned }
with_list Weak f o = record o { weak = f o.weak }

-- x is in a list of the object
abbrev pub holds : Holder → Object → Bool
holds x o = is_in x o.strong || is_in x o.unowned || is_in x o.weak

-- which list of an object that it is in
abbrev pub kind_in : Holder → Object → Kind
kind_in x o = if is_in x o.strong then Strong else if is_in x o.unowned then Unowned else Weak

-- the list that x is in
abbrev pub list_with : Holder → Object → List Holder
list_with x o = list_of (kind_in x o) o

abbrev pub is_number : Option ℕ → ℕ → Bool
is_number None n = false
is_number (Some m) n = m == n

abbrev pub in_slot : ℕ → Object → Bool
in_slot s o = is_number o.slot s

abbrev pub has_entry : ℕ → Object → Bool
has_entry e o = is_number o.entry e

-- the object that x holds, the object in slot s, the object that has entry e
abbrev pub held_by : Holder → Heap → Option Object
held_by x heap = find (holds x) heap.objects

abbrev pub at_slot : ℕ → Heap → Option Object
at_slot s heap = find (in_slot s) heap.objects

abbrev pub at_entry : ℕ → Heap → Option Object
at_entry e heap = find (has_entry e) heap.objects

abbrev pub is_slot_taken : ℕ → Heap → Bool
is_slot_taken s heap = is_some (at_slot s heap)

abbrev pub claims_it : ℕ → Claimed → Bool
claims_it e c = c.entry == e

-- the entry is claimed by a thread or belongs to an object
abbrev pub is_entry_taken : ℕ → Heap → Bool
is_entry_taken e heap = list_any (claims_it e) heap.claims || is_some (at_entry e heap)

abbrev pub is_claimed_by : ℕ → ℕ → Heap → Bool
is_claimed_by p e heap = list_any (λ c. c.thread == p && c.entry == e) heap.claims

-- the number of objects that thread p made
abbrev pub made_by : ℕ → List Object → ℕ
made_by p os = count_by (λ o. o.id.thread == p) os

-- f at the first object that passes the test
abbrev pub at_first : (Object → Bool) → (Object → Object) → List Object → List Object
at_first p f [] = []
at_first p f (o ∷ os) = if p o then f o ∷ os else o ∷ at_first p f os

abbrev pub change : (Object → Bool) → (Object → Object) → Heap → Heap
change p f heap = record heap { objects = at_first p f heap.objects }

abbrev pub same_duty : Duty → Duty → Bool
same_duty Deinit Deinit = true
same_duty Vacating Vacating = true
same_duty Gone Gone = true
same_duty _ _ = false

abbrev pub is_duty : Duty → Option Owed → Bool
is_duty duty None = false
is_duty duty (Some d) = same_duty d.duty duty

abbrev pub is_by : ℕ → Option Owed → Bool
is_by p None = false
is_by p (Some d) = d.thread == p

-- p owes this duty to the object
abbrev pub owes_to : ℕ → Duty → Object → Bool
owes_to p duty o = is_by p o.owed && is_duty duty o.owed
