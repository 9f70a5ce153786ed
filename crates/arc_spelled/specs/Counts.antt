-- How many references a thread's notes put into cells, and take out of fields.
use Rattle.std.specs.Prelude.{ℕ, List, [], ◌∷◌}
use Rattle.arc_spelling.specs.Spelling.{Note, one_more_if}
use Rattle.arc_spelling.specs.Spelling.Note.{Did}
use Rattle.arc_hand_counts.specs.Counts.{is_put, is_taken}

-- how many swaps of the thread put a reference into a cell
abbrev pub put_in : List Note → ℕ
put_in [] = 0
put_in (Did a ∷ ns) = one_more_if (is_put a) (put_in ns)
put_in (_ ∷ ns) = put_in ns

-- how many references its deinits took out of fields
abbrev pub taken_out : List Note → ℕ
taken_out [] = 0
taken_out (Did a ∷ ns) = one_more_if (is_taken a) (taken_out ns)
taken_out (_ ∷ ns) = taken_out ns
