-- What a thread's notes count: hands that came and hands that ended, debts that were made and debts that were paid. A debt is a
-- duty or a claim.
use Rattle.std.specs.Prelude.{ℕ, Bool, true, false, ◌==◌, not, List, [], ◌∷◌, Some, None}
use Rattle.arc_model.specs.declared.event.Act.{Act}
use Rattle.arc_model.specs.declared.event.Act.TheVariants.{Drop, Claim, Side, Back, Swap, Finish, Vacate, Gone}
use Rattle.arc_spelling.specs.Spelling.{Note, one_more_if}
use Rattle.arc_spelling.specs.Spelling.Note.{Did, Entry}

abbrev pub one_if : Bool → ℕ
one_if true = 1
one_if false = 0

-- a hand leaves the thread
abbrev pub is_ending : Act → Bool
is_ending (Drop k last) = true
is_ending (Swap c (Some h) k) = true
is_ending _ = false

abbrev pub ended_in : List Note → ℕ
ended_in [] = 0
ended_in (Did a ∷ ns) = one_more_if (is_ending a) (ended_in ns)
ended_in (_ ∷ ns) = ended_in ns

-- a duty or a claim comes to the thread
abbrev pub is_debt : Act → Bool
is_debt (Drop k last) = last
is_debt (Claim e) = true
is_debt _ = false

abbrev pub debts_in : List Note → ℕ
debts_in [] = 0
debts_in (Did a ∷ ns) = one_more_if (is_debt a) (debts_in ns)
debts_in (_ ∷ ns) = debts_in ns

-- the object in the slot was just found without an entry
abbrev pub is_bare : ℕ → List Note → Bool
is_bare slot (Entry s None ∷ ns) = s == slot
is_bare slot _ = false

-- a duty or a claim ends, and no other takes its place
abbrev pub is_payment : Act → List Note → Bool
is_payment (Side s e list) ns = true
is_payment (Back e) ns = true
is_payment (Finish s last) ns = not last
is_payment (Gone e last) ns = not last
is_payment (Vacate s) ns = is_bare s ns
is_payment _ ns = false

abbrev pub paid_in : List Note → ℕ
paid_in [] = 0
paid_in (Did a ∷ ns) = one_more_if (is_payment a ns) (paid_in ns)
paid_in (_ ∷ ns) = paid_in ns
