use Rattle.std.proofs.Common.{ℕ, ◌≤◌, ◌<◌, ◌*◌, length, slice_index_or}
use Rattle.arc_pairs.proofs.total.total.Given as goal

abbrev pub invariant-loop-count : goal.invariant-loop-count
invariant-loop-count l = (l.total ≤ l.count-index * 4294967295) × ((m : ℕ) → ((i : ℕ) (d : ℕ) → i < length l.fn.counts → slice_index_or l.fn.counts i d ≤ m) → l.total ≤ l.count-index * m)
