-- In which order the steps of the threads stand.
use Rattle.std.specs.Prelude.{ℕ, zero, suc, ◌≡◌, ◌≢◌, ◌≤◌, ◌==◌, ◌&&◌, not, ◌+◌, Bool, true, false, if◌then◌else◌, List, [], ◌∷◌, ◌++◌, length, reverse, replicate, filter, All, slice_get, Some}
use Rattle.arc_rule.specs.Extents.{Extent}
use Rattle.arc_rule.specs.Places.{extent_of, place_at, word_count}
use Rattle.arc_rule.specs.declared.layout.Place.{Place}
use Rattle.arc_rule.specs.declared.layout.Place.TheVariants as places
use Rattle.arc_rule.specs.declared.step.Step.{Step}
use Rattle.arc_rule.specs.declared.step.Step.TheVariants.{Load, Exchange, Store, Or, And}
use Rattle.arc_script.specs.declared.script.ThreadDecl.{ThreadDecl}
use Rattle.arc_script.specs.declared.script.Script.{Script}
use Rattle.arc_schedule.specs.Made.{Point, Made, Go, own}
use Rattle.arc_schedule.specs.Threads.{IsThread, IsEndSection}

-- ---- a thread that is inside an access to a cell

abbrev pub is_cell : Place → Bool
is_cell (places.Global g) = true
is_cell (places.Field s f) = true
is_cell _ = false

-- what a step says of it: an access begins as a cell's word becomes 1, and ends with the next store to a cell
abbrev pub enters : Extent → Step → ℕ → Bool → Bool
enters l (Load place) found before = before
enters l (Exchange place old new) found before = if is_cell (place_at l place) && new == 1 && found == old then true else before
enters l (Store place new) found before = if is_cell (place_at l place) then false else before
enters l (Or place bits) found before = before
enters l (And place bits) found before = before

-- the thread whose own steps these are is inside an access behind them
abbrev pub in_access : Extent → List Made → Bool
in_access l [] = false
in_access l (m ∷ ms) = enters l m.step m.found (in_access l ms)

-- ---- the order; the steps to come have the next one first, those made have the newest first

-- the step is one of a phase; thread 0's belong to none
abbrev pub is_in : ℕ → Made → Bool
is_in phase m = not (m.point.thread == 0) && m.point.phase == phase

-- the steps of the phase that thread p has yet to make
abbrev pub steps_of : ℕ → ℕ → List Made → List Made
steps_of phase p left = filter (is_in phase) (own p left)

-- the steps belong to one operation
abbrev pub is_same : Point → Made → Bool
is_same point m = m.point.phase == point.phase && m.point.operation == point.operation

-- of its steps, those that end the operation with its access, where it is inside one
abbrev pub ending_of : (inside : Bool) → (made own_left : List Made) → List Made
ending_of true (m ∷ ms) left = filter (is_same m.point) left
ending_of _ _ left = []

abbrev pub other_of : (inside : Bool) → (made own_left : List Made) → List Made
other_of true (m ∷ ms) left = filter (λ x. not (is_same m.point x)) left
other_of _ _ left = left

-- one thread after the other, from 1 to the last
abbrev pub in_turn : ℕ → (ℕ → List Made) → List Made
in_turn zero steps = []
in_turn (suc n) steps = in_turn n steps ++ steps (suc n)

-- How the steps of a phase stand where no place of the schedule is left: first the threads inside an access end their operations, in the
-- order of numbers, and then each thread makes its steps to the end of the phase.
abbrev pub by_numbers : Extent → (threads : ℕ) → (before here : List Made) → List Made
by_numbers l threads before here =
    in_turn threads (λ p. ending_of (in_access l (own p before)) (own p before) (own p here)) ++
    in_turn threads (λ p. other_of (in_access l (own p before)) (own p before) (own p here))

-- The steps to come, where this phase is under way and these places of the schedule are left.
pub data InOrder (l : Extent) (threads : ℕ) : (phase : ℕ) (places : List ℕ) (before left : List Made) → Type 0 where
  -- the place's thread has a step in the phase, and makes it
  makes : {phase : ℕ} {places : List ℕ} {before left : List Made} (m : Made) →
      is_in phase m ≡ true → InOrder l threads phase places (m ∷ before) left → InOrder l threads phase (m.point.thread ∷ places) before (m ∷ left)
  -- it has none, but another thread has: the place is used up
  passes : {phase p : ℕ} {places : List ℕ} {before left : List Made} →
      steps_of phase p left ≡ [] → filter (is_in phase) left ≢ [] → InOrder l threads phase places before left → InOrder l threads phase (p ∷ places) before left
  -- no thread has a step in the phase: the next phase begins, with the places that are left
  next_phase : {phase : ℕ} {places : List ℕ} {before left : List Made} →
      filter (is_in phase) left ≡ [] → InOrder l threads (phase + 1) places before left → InOrder l threads phase places before left
  -- no place is left
  runs_out : {phase : ℕ} {before left : List Made} (here later : List Made) →
      left ≡ here ++ later → All (λ m. is_in phase m ≡ true) here → filter (is_in phase) later ≡ [] → here ≡ by_numbers l threads before here →
      InOrder l threads (phase + 1) [] (reverse here ++ before) later → InOrder l threads phase [] before left
  -- after the last phase thread 0 makes its steps, whatever places are left
  ends : {phase : ℕ} {places : List ℕ} {before left : List Made} → All (λ m. m.point.thread ≡ 0) left → InOrder l threads phase places before left

-- ---- the schedule run

-- The steps, the newest first, are a schedule run of the script and leave these words.
pub record IsScheduleRun (script : Script) (made : List Made) (words : List ℕ) : Type 0 where
  -- the words go from all 0
  pub goes : Go (replicate (word_count (extent_of script.shape)) 0) made words
  -- each thread's steps are those of its operations
  pub threads : (i : ℕ) (decl : ThreadDecl) → slice_get script.threads i ≡ Some decl → IsThread script.shape (i + 1) decl (own (i + 1) made)
  pub end_section : IsEndSection script (own 0 made)
  pub no_other : All (λ m. m.point.thread ≤ length script.threads) made
  -- phases and schedule give their order
  pub order : InOrder (extent_of script.shape) (length script.threads) 0 script.schedule [] (reverse made)
