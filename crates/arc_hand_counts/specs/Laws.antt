-- What comes out of cells was put there.
use Rattle.std.specs.Prelude.{ℕ, ◌+◌, ◌<◌, ◌≤◌, ◌≡◌, Bool, []}
use Rattle.arc_model.specs.declared.event.Act.{Act}
use Rattle.arc_model.specs.Shapes.{HeapShape}
use Rattle.arc_model.specs.History.{History, heap_after, share, IsLegal}
use Rattle.arc_hand_counts.specs.Counts.{times, puts, swapped_out, takes, full_cells, sum_to}

-- Each reference that was put into a cell is there, was brought out by a swap, or was taken out by a deinit.
abbrev pub CellsAddUp : Type 0
CellsAddUp = (shape : HeapShape) (h : History) → IsLegal shape h → takes h + swapped_out h + full_cells (heap_after h) ≡ puts h

-- Deinits take no more out of fields than swaps put into cells.
abbrev pub TakesWerePut : Type 0
TakesWerePut = (shape : HeapShape) (h : History) → IsLegal shape h → takes h ≤ puts h

-- Nor does one thread.
abbrev pub OwnTakesWerePut : Type 0
OwnTakesWerePut = (shape : HeapShape) (p : ℕ) (h : History) → IsLegal shape h → takes (share h p) ≤ puts h

-- no event is of a thread above n
abbrev pub NoThreadAbove : ℕ → History → Type 0
NoThreadAbove n h = (p : ℕ) → n < p → share h p ≡ []

-- What all threads do is what each of them does, added up.
abbrev pub ThreadsAddUp : Type 0
ThreadsAddUp = (test : Act → Bool) (n : ℕ) (h : History) → NoThreadAbove n h → times test h ≡ sum_to n (λ p. times test (share h p))

-- Where each thread q up to n puts at most m q references into cells, a thread takes at most their sum out of fields.
abbrev pub HandsFit : Type 0
HandsFit = (shape : HeapShape) (n : ℕ) (m : ℕ → ℕ) (h : History) (p : ℕ) → IsLegal shape h → NoThreadAbove n h → ((q : ℕ) → q ≤ n → puts (share h q) ≤ m q) → takes (share h p) ≤ sum_to n m
