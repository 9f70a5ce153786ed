-- Slots or entries, and when each became free.
use Rattle.std.specs.Prelude.{◌≡◌, ℕ, ◌+◌, ◌<◌, ◌≤◌, nat_le, Bool, true, false, ◌==◌, List, [], ◌∷◌, Option, Some, None, slice_get, length}
use Rattle.arc_heap_index.specs.declared.slots.Owner.{Owner}
use Rattle.arc_heap_index.specs.declared.slots.Owner.TheVariants.{Object}
use Rattle.arc_heap_index.specs.declared.slots.SlotState.{SlotState}
use Rattle.arc_heap_index.specs.declared.slots.SlotState.TheVariants.{Taken, Free}
use Rattle.arc_heap_index.specs.Counting.{placed}
use Rattle.arc_model.specs.Cells.{each_below}

-- the states, and how often one became free
pub record Freed : Type 0 where
  pub states : List SlotState
  pub frees : ℕ

abbrev pub is_free_by : ℕ → Option SlotState → Bool
is_free_by j (Some (Free i)) = i == j
is_free_by j _ = false

abbrev pub state_of_entry : List SlotState → Option ℕ → Option SlotState
state_of_entry states None = None
state_of_entry states (Some s) = slice_get states s

abbrev pub is_current_entry : List SlotState → List ℕ → ℕ → Bool
is_current_entry states log j = is_free_by j (state_of_entry states (slice_get log j))

abbrev pub owner_in : Option SlotState → Option Owner
owner_in (Some (Taken x)) = Some x
owner_in _ = None

abbrev pub object_in : Option Owner → Option ℕ
object_in (Some (Object i)) = Some i
object_in _ = None

abbrev pub owner_at : ℕ → Freed → Option Owner
owner_at s slots = owner_in (slice_get slots.states s)

-- it is taken, or it became free when at least `since` had
abbrev pub is_seen : ℕ → Option SlotState → Bool
is_seen since (Some (Free j)) = nat_le since j
is_seen since (Some (Taken x)) = true
is_seen since None = false

abbrev pub are_seen : ℕ → Freed → Bool
are_seen since slots = each_below (length slots.states) (λ s. is_seen since (slice_get slots.states s))

abbrev pub taken : ℕ → Owner → Freed → Freed
taken s x slots = record slots { states = placed s (Taken x) slots.states }

abbrev pub freed_by : Option Owner → ℕ → Freed → Freed
freed_by None s slots = slots
freed_by (Some x) s slots = record { states = placed s (Free slots.frees) slots.states; frees = slots.frees + 1 }

-- what is taken becomes free
abbrev pub freed : ℕ → Freed → Freed
freed s slots = freed_by (owner_at s slots) s slots

abbrev pub changed_by : Option Owner → ℕ → Owner → Freed → Freed
changed_by None s x slots = slots
changed_by (Some old) s x slots = taken s x slots

-- what is taken goes to another
abbrev pub changed : ℕ → Owner → Freed → Freed
changed s x slots = changed_by (owner_at s slots) s x slots

-- how many are taken
abbrev pub one_if_taken : SlotState → ℕ
one_if_taken (Taken x) = 1
one_if_taken (Free j) = 0

abbrev pub taken_times : List SlotState → ℕ
taken_times [] = 0
taken_times (st ∷ states) = one_if_taken st + taken_times states

-- `front` is the first entry that still holds
pub record IsFront (states : List SlotState) (log : List ℕ) (frees front : ℕ) : Type 0 where
  pub stale : (j : ℕ) → j < front → is_current_entry states log j ≡ false
  pub next : front < frees → is_current_entry states log front ≡ true
  pub within : front ≤ frees

-- Each that is free has its entry, and there is room for an entry of each that is taken.
pub record IsLogged (states : List SlotState) (log : List ℕ) (frees front : ℕ) : Type 0 where
  pub logged : (s j : ℕ) → slice_get states s ≡ Some (Free j) → slice_get log j ≡ Some s
  pub before : (s j : ℕ) → slice_get states s ≡ Some (Free j) → j < frees
  pub is_front : IsFront states log frees front
  pub room : taken_times states + frees ≤ length log

-- n of them that were never taken
pub record AreFree (n : ℕ) (slots : Freed) : Type 0 where
  pub count : length slots.states ≡ n
  pub frees : slots.frees ≡ n
  pub free : (s : ℕ) → s < n → slice_get slots.states s ≡ Some (Free s)
