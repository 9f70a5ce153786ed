-- What a view has: hands, duties, claims, sources of references. All are functions of its number and of what it has seen.
use Rattle.arc_model.specs.declared.event.CellName.TheVariants as cells
use Rattle.std.specs.Prelude.{ℕ, ◌≡◌, ◌==◌, ◌⊎◌, Bool, true, false, List, [], ◌∷◌, Option, None, Some, slice_get, ⊤}
use Rattle.arc_model.specs.declared.event.CellName.{CellName}
use Rattle.arc_model.specs.declared.event.Origin.{Origin}
use Rattle.arc_model.specs.declared.event.Origin.TheVariants as origins
use Rattle.arc_model.specs.declared.shape.Kind.{Kind}
use Rattle.arc_model.specs.declared.shape.Kind.TheVariants as kinds
use Rattle.arc_model.specs.Shapes.{HeapShape}
use Rattle.arc_model.specs.Heaps.{Hand, Duty, Deinit, Object, Heap}
use Rattle.arc_model.specs.Holders.{in_slot, has_entry, is_claimed_by}
use Rattle.arc_model.specs.Cells.{origin, has_field}
use Rattle.arc_model.specs.History.{heap_after}
use Rattle.arc_model.specs.Lookup.{spot, duty_of}
use Rattle.arc_rule.specs.declared.layout.Place.{Place}
use Rattle.arc_rule.specs.declared.layout.Place.TheVariants.{Count, Next, Link, Strong, Unowned, Weak}
use Rattle.arc_view.specs.declared.view.Begun.{Begun}
use Rattle.arc_view.specs.declared.view.Stored.{Stored}
use Rattle.arc_view.specs.declared.view.View.{View}

-- the heap after what the view has seen
abbrev pub heap_of : View → Heap
heap_of v = heap_after v.seen

abbrev pub At : Heap → ℕ → Object → Type 0
At heap i o = slice_get heap.objects i ≡ Some o

-- hand k of the view stands in this list of object i
abbrev pub HasHand : View → ℕ → Kind → ℕ → Type 0
HasHand v k kind i = spot (Hand v.number k) (heap_of v) ≡ Some (record { place = i; kind = kind })

-- a cell can be a source while the view has an access to it
abbrev pub IsOpen : View → Origin → Type 0
IsOpen v (origins.Hand k) = ⊤
IsOpen v (origins.Cell c) = (a : Begun) × (v.working.access ≡ Some a) × (a.cell ≡ c)

-- what a reference is taken from stands in this list of object i: a hand of the view, or a cell that it has an access to
abbrev pub IsSource : View → Origin → Kind → ℕ → Type 0
IsSource v from kind i = (spot (origin (heap_of v) v.number from) (heap_of v) ≡ Some (record { place = i; kind = kind })) × IsOpen v from

-- the view owes this to object i
abbrev pub HasDuty : View → Duty → ℕ → Type 0
HasDuty v duty i = duty_of v.number i (heap_of v) ≡ Some duty

-- the view has claimed the entry
abbrev pub HasClaim : View → ℕ → Type 0
HasClaim v e = is_claimed_by v.number e (heap_of v) ≡ true

-- p can reach the cell: a global, or a field of an object of which hand k of p is a strong one
abbrev pub CanReach : HeapShape → Heap → ℕ → CellName → Type 0
CanReach shape heap p (cells.Global g) = ⊤
CanReach shape heap p (cells.Field s f) =
    (k : ℕ) × (i : ℕ) × (o : Object) × (spot (Hand p k) heap ≡ Some (record { place = i; kind = kinds.Strong })) × At heap i o × (o.slot ≡ Some s) × (has_field shape f o ≡ true)

abbrev pub Reaches : HeapShape → View → CellName → Type 0
Reaches shape v c = CanReach shape (heap_of v) v.number c

-- The count of an object's list of this kind is at the place: that of a strong or unowned list in the inline word of its slot, or each in
-- its word of the object's entry. The word that is found says which of them.
abbrev pub is_counted : Kind → Object → Place → Bool
is_counted kinds.Strong o (Count s) = in_slot s o
is_counted kinds.Unowned o (Count s) = in_slot s o
is_counted kinds.Strong o (Strong e) = has_entry e o
is_counted kinds.Unowned o (Unowned e) = has_entry e o
is_counted kinds.Weak o (Weak e) = has_entry e o
is_counted _ o _ = false

-- the same of the object at a place of the heap
abbrev pub is_counted_at : Kind → Option Object → Place → Bool
is_counted_at kind None pl = false
is_counted_at kind (Some o) pl = is_counted kind o pl

-- a hand, a duty, or a cell that is accessed leads to object i
abbrev pub Knows : View → ℕ → Type 0
Knows v i = ((k : ℕ) × (kind : Kind) × HasHand v k kind i) ⊎ ((duty : Duty) × HasDuty v duty i) ⊎ ((c : CellName) × (kind : Kind) × IsSource v (origins.Cell c) kind i)

-- p alone writes the word: it has claimed the entry, or owes the deinit of the object in the slot
abbrev pub Owns : Heap → ℕ → Place → Type 0
Owns heap p (Link e) = is_claimed_by p e heap ≡ true
Owns heap p (Strong e) = is_claimed_by p e heap ≡ true
Owns heap p (Unowned e) = is_claimed_by p e heap ≡ true
Owns heap p (Weak e) = is_claimed_by p e heap ≡ true
Owns heap p (Next s) = (i : ℕ) × (o : Object) × At heap i o × (in_slot s o ≡ true) × (duty_of p i heap ≡ Some Deinit)
Owns heap p _ = ⊥

-- the word of the number i that the view keeps private
abbrev pub word_in : (Place → ℕ) → ℕ → List Stored → Option ℕ
word_in at i [] = None
word_in at i (k ∷ ks) = word_if (at k.place == i) k.word (word_in at i ks)
  where
    word_if : Bool → ℕ → Option ℕ → Option ℕ
    word_if true w more = Some w
    word_if false w more = more
