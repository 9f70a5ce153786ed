-- Legal histories. A history is a list of events, the newest first: `e ∷ h` is h with e at its end.
use Rattle.std.specs.Prelude.{ℕ, Bool, true, false, ◌==◌, ◌&&◌, ◌||◌, ◌+◌, if◌then◌else◌, List, [], ◌∷◌, Option, Some, None, count_by, filter, ◌≡◌, ⊤}
use Rattle.arc_model.specs.declared.event.Got.TheVariants as got
use Rattle.arc_model.specs.declared.event.Act.{Act}
use Rattle.arc_model.specs.declared.event.Act.TheVariants as acts
use Rattle.arc_model.specs.declared.event.Event.{Event}
use Rattle.arc_model.specs.declared.event.Illegal.{Illegal}
use Rattle.arc_model.specs.Heaps.{Heap, empty}
use Rattle.arc_model.specs.Shapes.{HeapShape}
use Rattle.arc_model.specs.Holders.{is_slot_taken, is_entry_taken}
use Rattle.arc_model.specs.Effects.{effect}
use Rattle.arc_model.specs.Needs.{Sight, first_failing, needs}

abbrev pub History : Type 0
History = List Event

-- the heap after a history
abbrev pub heap_after : History → Heap
heap_after [] = empty
heap_after (e ∷ h) = effect e.thread e.act (heap_after h)

-- a reference comes into the thread's hands
abbrev pub brings : Act → Bool
brings (acts.New k c s) = true
brings (acts.Copy from k) = true
brings (acts.UnownedOf h k) = true
brings (acts.WeakOf h k) = true
brings (acts.Load h (got.Hand k)) = true
brings (acts.Swap c h (Some k)) = true
brings (acts.Take s f k) = true
brings _ = false

abbrev pub is_of : ℕ → Event → Bool
is_of p e = e.thread == p

-- the number of thread p's next hand
abbrev pub next_hand : ℕ → History → ℕ
next_hand p h = count_by (λ e. is_of p e && brings e.act) h + 1

-- the test holds at some point since the last event of p, or since the start
abbrev pub ever_since : ℕ → (Heap → Bool) → History → Bool
ever_since p test [] = test empty
ever_since p test (e ∷ h) = test (heap_after (e ∷ h)) || (if is_of p e then false else ever_since p test h)

abbrev pub sight : ℕ → History → Sight
sight p h = record { heap = heap_after h; next = next_hand p h; slot_seen = λ s. ever_since p (is_slot_taken s) h; entry_seen = λ e. ever_since p (is_entry_taken e) h }

-- the first need of the event that fails after h
abbrev pub judge : HeapShape → History → Event → Option Illegal
judge shape h e = first_failing (needs shape (sight e.thread h) e.thread e.act)

abbrev pub IsLegal : HeapShape → History → Type 0
IsLegal shape [] = ⊤
IsLegal shape (e ∷ h) = (judge shape h e ≡ None) × IsLegal shape h

-- the events of thread p, in order
abbrev pub share : History → ℕ → History
share h p = filter (is_of p) h
