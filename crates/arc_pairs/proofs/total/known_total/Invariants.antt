use Rattle.std.proofs.Common.{ℕ, ◌≤◌, ◌<◌, ◌*◌, length, slice_index_or, Option, IfSome}
use Rattle.arc_pairs.proofs.total.known_total.Given as goal

abbrev pub invariant-loop-count : goal.invariant-loop-count
invariant-loop-count l = (l.total ≤ l.count-index * 4294967295) × ((m : ℕ) → ((i : ℕ) (d : Option ℕ) → i < length l.fn.counts → IfSome (slice_index_or l.fn.counts i d) (λ n. n ≤ m)) → l.total ≤ l.count-index * m)
