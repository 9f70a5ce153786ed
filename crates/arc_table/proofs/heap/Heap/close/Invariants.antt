use Rattle.std.proofs.Common.{◌≡◌, ℕ, ◌<◌, get_or, vec_len}
use Rattle.arc_table.proofs.heap.Heap.close.Given as goal

abbrev pub invariant-loop-i : goal.invariant-loop-i
invariant-loop-i l = (vec_len l.words ≡ vec_len l.initial.words) × ((k : ℕ) → k < l.i → get_or l.words.items k 0 ≡ get_or l.closed.words.items k 0)
