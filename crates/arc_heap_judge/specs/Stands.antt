-- When an index stands for a history.
use Rattle.std.specs.Prelude.{◌≡◌, ℕ, ◌+◌, ◌<◌, ◌≤◌, Bool, true, false, ◌==◌, List, [], ◌∷◌, if◌then◌else◌, Option, Some, None, slice_get, length, count_by, ⊤}
use Rattle.arc_model.specs.declared.event.CellName.{CellName}
use Rattle.arc_model.specs.declared.event.CellName.TheVariants as cells
use Rattle.arc_model.specs.declared.event.Origin.{Origin}
use Rattle.arc_model.specs.declared.event.Origin.TheVariants as origins
use Rattle.arc_model.specs.declared.event.Act.{Act}
use Rattle.arc_model.specs.declared.event.Act.TheVariants as acts
use Rattle.arc_model.specs.declared.shape.Kind.TheVariants.{Strong}
use Rattle.arc_model.specs.Shapes.{HeapShape, class_at}
use Rattle.arc_model.specs.Heaps.{Holder, Hand, Duty, Deinit, Vacating, Gone, Owed, Object, Claimed, Heap}
use Rattle.arc_model.specs.Holders.{is_hand_of, in_slot, has_entry, claims_it, is_slot_taken, is_entry_taken, made_by}
use Rattle.arc_model.specs.Cells.{cell}
use Rattle.arc_model.specs.Lookup.{Spot, spot, list_in}
use Rattle.arc_model.specs.History.{History, heap_after, next_hand, ever_since, IsLegal}
use Rattle.arc_heap_index.specs.declared.counted.Due.{Due}
use Rattle.arc_heap_index.specs.declared.counted.Due.TheVariants as due
use Rattle.arc_heap_index.specs.declared.counted.Debt.{Debt}
use Rattle.arc_heap_index.specs.declared.counted.Place.{Place}
use Rattle.arc_heap_index.specs.declared.counted.Counted.{Counted}
use Rattle.arc_heap_index.specs.declared.slots.Owner.{Owner}
use Rattle.arc_heap_index.specs.declared.slots.Owner.TheVariants as owners
use Rattle.arc_heap_index.specs.declared.slots.SlotState.TheVariants.{Free}
use Rattle.arc_heap_index.specs.Counting.{row_of, most}
use Rattle.arc_heap_index.specs.Freeing.{Freed, owner_at, is_seen}
use Rattle.arc_heap_judge.specs.Index.{Index, hand_at, cell_at, reach_at, mark_of, next_of}

-- the spot of a place
abbrev pub spot_of : Option Place → Option Spot
spot_of None = None
spot_of (Some w) = Some (record { place = w.object; kind = w.kind })

abbrev pub duty_of_due : Due → Duty
duty_of_due due.Deinit = Deinit
duty_of_due due.Vacating = Vacating
duty_of_due due.Gone = Gone

abbrev pub owed_of : Option Debt → Option Owed
owed_of None = None
owed_of (Some d) = Some (record { thread = d.thread; duty = duty_of_due d.due })

-- The counts are the lengths of the object's lists, the rest is the object's.
pub record IsCounted (c : Counted) (o : Object) : Type 0 where
  pub id : c.id ≡ o.id
  pub class : c.class ≡ o.class
  pub slot : c.slot ≡ o.slot
  pub entry : c.entry ≡ o.entry
  pub owed : owed_of c.owed ≡ o.owed
  pub strong : c.strong ≡ length o.strong
  pub unowned : c.unowned ≡ length o.unowned
  pub weak : c.weak ≡ length o.weak
  pub within : c.strong ≤ most

abbrev pub AreCounted : Option Counted → Option Object → Type 0
AreCounted None None = ⊤
AreCounted (Some c) (Some o) = IsCounted c o
AreCounted _ _ = ⊥

-- the object that the test is about
abbrev pub is_so : (Object → Bool) → Option Object → Bool
is_so test None = false
is_so test (Some o) = test o

abbrev pub is_object : ℕ → Option Owner → Bool
is_object i (Some (owners.Object j)) = j == i
is_object i _ = false

-- the threads that have claimed an entry
abbrev pub claimants : ℕ → List Claimed → List ℕ
claimants e [] = []
claimants e (c ∷ cs) = if claims_it e c then c.thread ∷ claimants e cs else claimants e cs

abbrev pub claimant : Option Owner → List ℕ
claimant (Some (owners.Claim p)) = p ∷ []
claimant _ = []

-- how many hands of p are in the list
abbrev pub hands_of : ℕ → List Holder → ℕ
hands_of p xs = count_by (is_hand_of p) xs

abbrev pub IsCellInRange : HeapShape → CellName → Type 0
IsCellInRange shape (cells.Field s f) = (s < shape.slots) × (f < 8)
IsCellInRange shape (cells.Global g) = g < length shape.globals

-- The index tells what is in the heap: for each object its counts, for each hand and each cell the one place where it
-- counts, for each slot and each entry who has it.
pub record Tells (ix : Index) (heap : Heap) : Type 0 where
  pub counted : (i : ℕ) → AreCounted (slice_get ix.objects i) (slice_get heap.objects i)
  pub slots : (s i : ℕ) → is_so (in_slot s) (slice_get heap.objects i) ≡ is_object i (owner_at s ix.slots)
  pub entries : (e i : ℕ) → is_so (has_entry e) (slice_get heap.objects i) ≡ is_object i (owner_at e ix.entries)
  pub claims : (e : ℕ) → claimants e heap.claims ≡ claimant (owner_at e ix.entries)
  pub unclaimed : (s : ℕ) → claimant (owner_at s ix.slots) ≡ []
  pub made : (p : ℕ) → p < length ix.marks → (mark_of ix p).made ≡ made_by p heap.objects
  pub reach : (p s i : ℕ) → p < length ix.marks → s < ix.shape.slots → is_object i (owner_at s ix.slots) ≡ true → reach_at ix p s ≡ hands_of p (list_in Strong (slice_get heap.objects i))
  pub idle : (p s : ℕ) → p < length ix.marks → s < ix.shape.slots → owner_at s ix.slots ≡ None → reach_at ix p s ≡ 0

pub record Points (ix : Index) (heap : Heap) : Type 0 where
  pub hands : (p k : ℕ) → p < length ix.marks → spot_of (hand_at ix p k) ≡ spot (Hand p k) heap
  pub cells : (c : CellName) → IsCellInRange ix.shape c → spot_of (cell_at ix c) ≡ spot (cell heap c) heap

-- Which slots or entries were taken since each thread's event before is told by when each became free.
pub record Looks (n threads : ℕ) (freed : Freed) (since : ℕ → ℕ) (test : ℕ → Heap → Bool) (h : History) : Type 0 where
  pub count : length freed.states ≡ n
  pub seen : (p s : ℕ) → p < threads → s < n → is_seen (since p) (slice_get freed.states s) ≡ ever_since p (test s) h
  pub before : (s j : ℕ) → slice_get freed.states s ≡ Some (Free j) → j < freed.frees
  pub last : (p : ℕ) → p < threads → since p ≤ freed.frees

-- the tables have their rows
pub record IsSized (ix : Index) : Type 0 where
  pub hands : length ix.hands ≡ length ix.marks
  pub reach : length ix.reach ≡ length ix.marks
  pub reach_rows : (p : ℕ) → p < length ix.marks → length (row_of p ix.reach) ≡ ix.shape.slots
  pub cells : length ix.cells ≡ ix.shape.slots + 1
  pub fields : (s : ℕ) → s < ix.shape.slots → length (row_of s ix.cells) ≡ 8
  pub globals : length (row_of ix.shape.slots ix.cells) ≡ length ix.shape.globals
  pub few : (class : ℕ) → length (class_at ix.shape class).fields ≤ 8

pub record StandsFor (ix : Index) (h : History) : Type 0 where
  pub legal : IsLegal ix.shape h
  pub tells : Tells ix (heap_after h)
  pub points : Points ix (heap_after h)
  pub sized : IsSized ix
  pub next : (p : ℕ) → p < length ix.marks → next_of ix p ≡ next_hand p h
  pub fewer : (p : ℕ) → p < length ix.marks → (mark_of ix p).made < next_of ix p
  pub slots : Looks ix.shape.slots (length ix.marks) ix.slots (λ p. (mark_of ix p).slots) is_slot_taken h
  pub entries : Looks ix.shape.entries (length ix.marks) ix.entries (λ p. (mark_of ix p).entries) is_entry_taken h

-- How many threads may make events: the threads 0 to one less.
abbrev pub thread_count : Index → ℕ
thread_count ix = length ix.marks

-- The numbers of a cell, an origin, an act are in the ranges of the shape; those of hands are free.
abbrev pub IsOriginInRange : HeapShape → Origin → Type 0
IsOriginInRange shape (origins.Hand k) = ⊤
IsOriginInRange shape (origins.Cell c) = IsCellInRange shape c

abbrev pub IsInRange : HeapShape → Act → Type 0
IsInRange shape (acts.New k c s) = (c < length shape.classes) × (s < shape.slots)
IsInRange shape (acts.Copy from k) = IsOriginInRange shape from
IsInRange shape (acts.CountFull k from) = IsOriginInRange shape from
IsInRange shape (acts.Claim e) = e < shape.entries
IsInRange shape (acts.Side s e why) = (s < shape.slots) × (e < shape.entries)
IsInRange shape (acts.Back e) = e < shape.entries
IsInRange shape (acts.Swap c h k) = IsCellInRange shape c
IsInRange shape (acts.Look c) = IsCellInRange shape c
IsInRange shape (acts.Take s f k) = (s < shape.slots) × (f < 8)
IsInRange shape (acts.Finish s last) = s < shape.slots
IsInRange shape (acts.Vacate s) = s < shape.slots
IsInRange shape (acts.Gone e last) = e < shape.entries
IsInRange shape _ = ⊤
