-- Which operation the newest step of a thread is of: the one that is under way, or one before.
use Rattle.std.proofs.Common.{◌≡◌, ℕ, ◌+◌, ◌<◌, ◌≤◌, Bool, true, false, List, [], ◌∷◌, Some, ◌⊎◌, inl, inr, refl, arith}
use Rattle.std.specs.Prelude.{slice_get, take, ⊤}
use Rattle.arc_script.specs.declared.script.Op.{Op}
use Rattle.arc_script.specs.OneList.{numbered}
use Rattle.arc_script.specs.Valid.{begins_block}
use Rattle.arc_script.proofs.OneList.{number_next, numbers_grow}
use Rattle.arc_schedule.specs.Made.{Point, Made}

abbrev pub AreSame : Point → Made → Type 0
AreSame point m = (m.point.phase ≡ point.phase) × (m.point.operation ≡ point.operation)

-- the newest step is one of the operation at the point
abbrev pub IsHere : Point → List Made → Type 0
IsHere point [] = ⊥
IsHere point (m ∷ ms) = AreSame point m

-- an operation with this number comes before: 0 is the end of the scope
abbrev pub IsBelow : ℕ → ℕ → Type 0
IsBelow number later = (later ≡ 0) ⊎ (number < later)

abbrev pub ComesBefore : Point → Made → Type 0
ComesBefore point m = (m.point.phase < point.phase) ⊎ ((m.point.phase ≡ point.phase) × (1 ≤ m.point.operation) × IsBelow m.point.operation point.operation)

-- the newest step, where there is one, is one of an operation before
abbrev pub IsPast : Point → List Made → Type 0
IsPast point [] = ⊤
IsPast point (m ∷ ms) = ComesBefore point m

-- The operation has made a step, or this is to be its first one; the end of the scope hasn't any that is called so.
abbrev pub Newest : Point → (first : Bool) → List Made → Type 0
Newest point first ms = (IsHere point ms × (first ≡ false)) ⊎ (IsPast point ms × ((first ≡ true) ⊎ (point.operation ≡ 0)))

-- ---- between operations

-- the step is one of the operations before this place of the phase
abbrev pub IsOfFirst : (phase : ℕ) → List Op → ℕ → Made → Type 0
IsOfFirst phase ops i m = (m.point.phase < phase) ⊎ ((m.point.phase ≡ phase) × (1 ≤ m.point.operation) × (m.point.operation ≤ numbered (take i ops)))

abbrev pub Passed : (phase : ℕ) → List Op → ℕ → List Made → Type 0
Passed phase ops i [] = ⊤
Passed phase ops i (m ∷ ms) = IsOfFirst phase ops i m

pub passed-on : (phase : ℕ) (ops : List Op) (i on : ℕ) (ms : List Made) → i ≤ on → Passed phase ops i ms → Passed phase ops on ms
passed-on phase ops i on [] least p = tt
passed-on phase ops i on (m ∷ ms) least (inl earlier) = inl earlier
passed-on phase ops i on (m ∷ ms) least (inr h) = let a = numbers_grow ops i on least in let b = h.2 in inr (h.0, h.1, omega arith)

-- in the next phase
pub passed-phase : (phase next : ℕ) (ops others : List Op) (i on : ℕ) (ms : List Made) → phase < next → Passed phase ops i ms → Passed next others on ms
passed-phase phase next ops others i on [] more p = tt
passed-phase phase next ops others i on (m ∷ ms) more (inl earlier) = inl (omega arith)
passed-phase phase next ops others i on (m ∷ ms) more (inr h) = let e = h.0 in inl (omega arith)

-- the operation at this place is the next one
pub passed-here : (thread phase : ℕ) (ops : List Op) (i : ℕ) (o : Op) (ms : List Made) → slice_get ops i ≡ Some o → begins_block o ≡ false → Passed phase ops i ms →
    IsPast (record { thread = thread; phase = phase; operation = numbered (take (i + 1) ops) }) ms
passed-here thread phase ops i o [] there plain p = tt
passed-here thread phase ops i o (m ∷ ms) there plain (inl earlier) = inl earlier
passed-here thread phase ops i o (m ∷ ms) there plain (inr h) = let a = number_next ops i o there plain in let b = h.2 in inr (h.0, h.1, inr (omega arith))

-- and so is the end of the scope
pub passed-scope : (thread phase : ℕ) (ops : List Op) (i : ℕ) (ms : List Made) → Passed phase ops i ms → IsPast (record { thread = thread; phase = phase; operation = 0 }) ms
passed-scope thread phase ops i [] p = tt
passed-scope thread phase ops i (m ∷ ms) (inl earlier) = inl earlier
passed-scope thread phase ops i (m ∷ ms) (inr h) = inr (h.0, h.1, inl refl)

-- a step of the operation was made: behind it the operation is passed
pub passed-it : (thread phase : ℕ) (ops : List Op) (i : ℕ) (o : Op) (ms : List Made) → slice_get ops i ≡ Some o → begins_block o ≡ false →
    IsHere (record { thread = thread; phase = phase; operation = numbered (take (i + 1) ops) }) ms → Passed phase ops (i + 1) ms
passed-it thread phase ops i o [] there plain h = absurd h
passed-it thread phase ops i o (m ∷ ms) there plain h =
    let a = number_next ops i o there plain in let b = h.1 in inr (h.0, omega arith, omega arith)
