-- Where a holder stands, and what a thread owes.
use Rattle.std.specs.Prelude.{ℕ, zero, suc, ◌==◌, ◌&&◌, Bool, true, false, if◌then◌else◌, List, [], ◌∷◌, Option, Some, None, find, slice_get, ◌≡◌}
use Rattle.arc_model.specs.declared.shape.Kind.{Kind}
use Rattle.arc_model.specs.Shapes.{HeapShape}
use Rattle.arc_model.specs.Heaps.{Holder, Hand, Field, Global, Duty, Owed, Object, Heap}
use Rattle.arc_model.specs.Holders.{holds, kind_in, is_in, list_of}
use Rattle.arc_model.specs.Cells.{same_kind}
use Rattle.arc_model.specs.Needs.{passes}
use Rattle.arc_model.specs.WellFormed.{is_own}
use Rattle.arc_model.specs.History.{History, heap_after, IsLegal}

-- the place of an object in the heap, and one of its lists
pub record Spot : Type 0 where
  pub place : ℕ
  pub kind : Kind

abbrev pub further : Option Spot → Option Spot
further None = None
further (Some s) = Some (record { place = suc s.place; kind = s.kind })

-- where z stands
abbrev pub spot_in : Holder → List Object → Option Spot
spot_in z [] = None
spot_in z (o ∷ os) = if holds z o then Some (record { place = zero; kind = kind_in z o }) else further (spot_in z os)

abbrev pub spot : Holder → Heap → Option Spot
spot z heap = spot_in z heap.objects

abbrev pub owed_by : ℕ → Option Owed → Option Duty
owed_by p None = None
owed_by p (Some d) = if d.thread == p then Some d.duty else None

-- what p owes to the i-th object
abbrev pub duty_in : ℕ → Option Object → Option Duty
duty_in p None = None
duty_in p (Some o) = owed_by p o.owed

abbrev pub duty_of : ℕ → ℕ → Heap → Option Duty
duty_of p i heap = duty_in p (slice_get heap.objects i)

-- the duty of the i-th object
abbrev pub owed_in : Option Object → Option Owed
owed_in None = None
owed_in (Some o) = o.owed

-- The spot of z is the one place and list that z is in.
pub record IsLookup (z : Holder) (heap : Heap) : Type 0 where
  pub there : (s : Spot) → spot z heap ≡ Some s → (o : Object) × (slice_get heap.objects s.place ≡ Some o) × (find (holds z) heap.objects ≡ Some o) × (is_in z (list_of s.kind o) ≡ true)
  pub only : (i : ℕ) (o : Object) (k : Kind) → slice_get heap.objects i ≡ Some o → is_in z (list_of k o) ≡ true → spot z heap ≡ Some (record { place = i; kind = k })
  pub nowhere : spot z heap ≡ None → find (holds z) heap.objects ≡ None

abbrev pub LookupAfter : Type 0
LookupAfter = (shape : HeapShape) (h : History) (z : Holder) → IsLegal shape h → is_own z ≡ true → IsLookup z (heap_after h)

abbrev pub list_in : Kind → Option Object → List Holder
list_in k None = []
list_in k (Some o) = list_of k o

-- z stands in this list of the i-th object
abbrev pub is_spot : ℕ → Kind → Option Spot → Bool
is_spot i k None = false
is_spot i k (Some s) = s.place == i && same_kind s.kind k

-- the i-th object passes the test
abbrev pub passes_at : (Object → Bool) → ℕ → Heap → Bool
passes_at test i heap = passes test (slice_get heap.objects i)

abbrev pub entry_in : Option Object → Option ℕ
entry_in None = None
entry_in (Some o) = o.entry

abbrev pub is_cell : Holder → Bool
is_cell (Field o f) = true
is_cell (Global g) = true
is_cell _ = false

abbrev pub hand_spot : ℕ → Option ℕ → Heap → Option Spot
hand_spot p None heap = None
hand_spot p (Some h) heap = spot (Hand p h) heap
