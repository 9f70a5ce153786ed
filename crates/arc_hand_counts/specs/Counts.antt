-- How many references events put into cells and bring out of them, and how many cells hold one.
use Rattle.std.specs.Prelude.{ℕ, zero, suc, Bool, true, false, ◌+◌, List, [], ◌∷◌, Some, count_by}
use Rattle.arc_model.specs.declared.event.Act.{Act}
use Rattle.arc_model.specs.declared.event.Act.TheVariants as acts
use Rattle.arc_model.specs.Heaps.{Holder, Object, Heap}
use Rattle.arc_model.specs.History.{History}
use Rattle.arc_model.specs.Lookup.{is_cell}
use Rattle.arc_model.specs.WellFormed.{more, total}

-- a swap puts a reference into a cell
abbrev pub is_put : Act → Bool
is_put (acts.Swap c (Some h) k) = true
is_put _ = false

-- a swap brings out what the cell held
abbrev pub is_swapped_out : Act → Bool
is_swapped_out (acts.Swap c h (Some k)) = true
is_swapped_out _ = false

-- a deinit takes a reference out of a field
abbrev pub is_taken : Act → Bool
is_taken (acts.Take s f k) = true
is_taken _ = false

-- how many events have an act that passes the test
abbrev pub times : (Act → Bool) → History → ℕ
times test h = count_by (λ e. test e.act) h

abbrev pub puts : History → ℕ
puts h = times is_put h

abbrev pub swapped_out : History → ℕ
swapped_out h = times is_swapped_out h

abbrev pub takes : History → ℕ
takes h = times is_taken h

-- how many cells are in the list
abbrev pub cells_in : List Holder → ℕ
cells_in [] = zero
cells_in (x ∷ xs) = more (is_cell x) (cells_in xs)

-- how many cells refer to the object
abbrev pub cells_of : Object → ℕ
cells_of o = cells_in o.strong + cells_in o.unowned + cells_in o.weak

-- how many cells hold a reference: each of them stands in one list of one object
abbrev pub full_cells : Heap → ℕ
full_cells heap = total cells_of heap.objects

-- the sum of f over the numbers from 0 to n
abbrev pub sum_to : ℕ → (ℕ → ℕ) → ℕ
sum_to zero f = f zero
sum_to (suc n) f = f (suc n) + sum_to n f
