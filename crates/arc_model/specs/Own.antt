-- What a thread's own event leaves of what it has, and what it gives it.
use Rattle.std.specs.Prelude.{ℕ, ◌==◌, ◌&&◌, ◌||◌, not, Bool, true, false, if◌then◌else◌, ◌∷◌, length, Option, Some, None, is_some, slice_get, ◌≡◌, ◌⊎◌}
use Rattle.arc_model.specs.declared.event.Act.{Act}
use Rattle.arc_model.specs.declared.event.Act.TheVariants as acts
use Rattle.arc_model.specs.declared.event.CellName.TheVariants as cells
use Rattle.arc_model.specs.declared.event.Got.TheVariants as got
use Rattle.arc_model.specs.declared.event.Event.{Event}
use Rattle.arc_model.specs.declared.shape.Kind.{Kind}
use Rattle.arc_model.specs.declared.shape.Kind.TheVariants.{Strong, Unowned, Weak}
use Rattle.arc_model.specs.Shapes.{HeapShape}
use Rattle.arc_model.specs.Heaps.{Hand, Duty, Deinit, Vacating, Gone, Owed, Heap}
use Rattle.arc_model.specs.Holders.{kind_in, in_slot, has_entry, held_by, is_claimed_by}
use Rattle.arc_model.specs.Cells.{cell, origin, same_kind}
use Rattle.arc_model.specs.Needs.{passes}
use Rattle.arc_model.specs.History.{History, heap_after, IsLegal}
use Rattle.arc_model.specs.Lookup.{Spot, spot, duty_of, owed_in, is_spot, passes_at, entry_in}

-- the act is one that ends the duty
abbrev pub ends : Duty → Act → Bool
ends Deinit (acts.Finish s last) = true
ends Vacating (acts.Vacate s) = true
ends Gone (acts.Gone e last) = true
ends _ _ = false

-- the act takes hand k of its thread out of its hands
abbrev pub ends_hand : ℕ → Act → Bool
ends_hand k (acts.Drop h last) = h == k
ends_hand k (acts.Swap c (Some h) n) = h == k
ends_hand k _ = false

-- A duty stands until its thread ends it by the act for that.
abbrev pub DutiesLast : Type 0
DutiesLast = (shape : HeapShape) (h : History) (e : Event) (i : ℕ) (d : Owed) → IsLegal shape (e ∷ h) → owed_in (slice_get (heap_after h).objects i) ≡ Some d →
    (owed_in (slice_get (heap_after (e ∷ h)).objects i) ≡ Some d) ⊎ ((d.thread ≡ e.thread) × (ends d.duty e.act ≡ true))

-- A thread's own event leaves each of its hands but the one that it ends.
abbrev pub OwnLeave : Type 0
OwnLeave = (shape : HeapShape) (h : History) (e : Event) (k : ℕ) → IsLegal shape (e ∷ h) → is_some (spot (Hand e.thread k) (heap_after h)) ≡ true → ends_hand k e.act ≡ false →
    spot (Hand e.thread k) (heap_after (e ∷ h)) ≡ spot (Hand e.thread k) (heap_after h)

-- the hand that an act brings
abbrev pub brings_hand : Act → Option ℕ
brings_hand (acts.New k c s) = Some k
brings_hand (acts.Copy from k) = Some k
brings_hand (acts.UnownedOf h k) = Some k
brings_hand (acts.WeakOf h k) = Some k
brings_hand (acts.Load h (got.Hand k)) = Some k
brings_hand (acts.Swap c h k) = k
brings_hand (acts.Take s f k) = Some k
brings_hand _ = None

-- the place of a spot, with another list
abbrev pub in_list : Kind → Option Spot → Option Spot
in_list k None = None
in_list k (Some s) = Some (record { place = s.place; kind = k })

-- where the hand that an act brings stands, by where its source stood
abbrev pub brought : Heap → ℕ → Act → Option Spot
brought heap p (acts.New k c s) = Some (record { place = length heap.objects; kind = Strong })
brought heap p (acts.Copy from k) = spot (origin heap p from) heap
brought heap p (acts.UnownedOf h k) = in_list Unowned (spot (Hand p h) heap)
brought heap p (acts.WeakOf h k) = in_list Weak (spot (Hand p h) heap)
brought heap p (acts.Load h g) = in_list Strong (spot (Hand p h) heap)
brought heap p (acts.Swap c h k) = spot (cell heap c) heap
brought heap p (acts.Take s f k) = spot (cell heap (cells.Field s f)) heap
brought heap p _ = None

-- The hand that an event brings stands where its source stood.
abbrev pub OwnGains : Type 0
OwnGains = (shape : HeapShape) (h : History) (e : Event) (k : ℕ) → IsLegal shape (e ∷ h) → brings_hand e.act ≡ Some k →
    spot (Hand e.thread k) (heap_after (e ∷ h)) ≡ brought (heap_after h) e.thread e.act

-- The hand that an event ends is nowhere.
abbrev pub OwnEnds : Type 0
OwnEnds = (shape : HeapShape) (h : History) (e : Event) (k : ℕ) → IsLegal shape (e ∷ h) → ends_hand k e.act ≡ true → spot (Hand e.thread k) (heap_after (e ∷ h)) ≡ None

-- what p owes to the i-th object after its act
abbrev pub owed_next : ℕ → Act → ℕ → Heap → Option Duty
owed_next p (acts.Drop h true) i heap =
    if is_spot i Strong (spot (Hand p h) heap) then Some Deinit else
    if is_spot i Unowned (spot (Hand p h) heap) then Some Vacating else duty_of p i heap
owed_next p (acts.Finish s last) i heap = if passes_at (in_slot s) i heap then (if last then Some Vacating else None) else duty_of p i heap
owed_next p (acts.Vacate s) i heap = if passes_at (in_slot s) i heap then (if is_some (entry_in (slice_get heap.objects i)) then Some Gone else None) else duty_of p i heap
owed_next p (acts.Gone e last) i heap = if passes_at (has_entry e) i heap then None else duty_of p i heap
owed_next p _ i heap = duty_of p i heap

-- A thread's event gives it the duty that a last holder leaves, and ends the one that it is the act for.
abbrev pub OwnDuties : Type 0
OwnDuties = (shape : HeapShape) (h : History) (e : Event) (i : ℕ) → IsLegal shape (e ∷ h) → duty_of e.thread i (heap_after (e ∷ h)) ≡ owed_next e.thread e.act i (heap_after h)

-- whether p has claimed entry e after its act
abbrev pub claimed_next : ℕ → Act → ℕ → Heap → Bool
claimed_next p (acts.Claim n) e heap = n == e || is_claimed_by p e heap
claimed_next p (acts.Side s n why) e heap = not (n == e) && is_claimed_by p e heap
claimed_next p (acts.Back n) e heap = not (n == e) && is_claimed_by p e heap
claimed_next p (acts.Drop h true) e heap = passes (λ o. same_kind (kind_in (Hand p h) o) Weak && has_entry e o) (held_by (Hand p h) heap) || is_claimed_by p e heap
claimed_next p (acts.Gone n true) e heap = n == e || is_claimed_by p e heap
claimed_next p _ e heap = is_claimed_by p e heap

-- A thread's event claims the entry that it takes and the one that its last weak holder leaves, and no other.
abbrev pub OwnClaims : Type 0
OwnClaims = (shape : HeapShape) (h : History) (e : Event) (n : ℕ) → IsLegal shape (e ∷ h) → is_claimed_by e.thread n (heap_after (e ∷ h)) ≡ claimed_next e.thread e.act n (heap_after h)
