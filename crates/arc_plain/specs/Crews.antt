-- A replay under way, as the contracts of its crew see it.
use Rattle.std.specs.Prelude.{ℕ, true, false, ◌≡◌, ◌≢◌, ◌≤◌, ◌<◌, ◌+◌, ◌^◌, List, [], length, drop, map, sum_by, slice_get, slice_set, slice_index_or, All, Option, Some}
use Rattle.arc_script.specs.declared.script.Script.{Script}
use Rattle.arc_script.specs.Valid.{IsScript}
use Rattle.arc_rule.specs.declared.step.Step.{Step}
use Rattle.arc_served.specs.Served.{IsServed}
use Rattle.arc_ops.specs.Thread.{Thread, stepper_of, in_access}
use Rattle.arc_ops.specs.Turns.{turned}
use Rattle.arc_ops.specs.Steppers.{IsStepper}
use Rattle.arc_ops.specs.declared.stepper.Move.{Move}
use Rattle.arc_ops.specs.declared.stepper.Move.TheVariants as moves
use Rattle.arc_replays.specs.Stages.{Stage, Reached, IsSome, IsNone, IsNoneBelow, IsNoneBut, has_step, awaits_phase, begun_thread, begun_threads, stepped}

-- the script, and the stage that its replay has come to
pub record Progress : Type 0 where
  pub script : Script
  pub stage : Stage

-- 1 for a step
abbrev pub step_count : Move → ℕ
step_count (moves.Step step intent) = 1
step_count moves.PhaseEnd = 0
step_count moves.Ended = 0

-- how many threads have a step
abbrev pub steps_asked : List Thread → ℕ
steps_asked threads = sum_by (λ (t : Thread). step_count t.asked) threads

-- what a crew keeps of its threads: what each asks for, and how many of them have a step
pub record IsCrew (threads : List Thread) (asked : List Move) (busy : ℕ) : Type 0 where
  pub asked_is : asked ≡ map (λ (t : Thread). t.asked) threads
  pub busy_is : busy ≡ steps_asked threads
  pub steppers : All IsStepper threads
  pub few : length threads ≤ 65

abbrev pub thread_at : ℕ → Progress → Thread
thread_at p c = slice_index_or c.stage.threads p (stepper_of c.script p)

-- thread p is given this
abbrev pub given : ℕ → Option ℕ → Progress → Progress
given p last c = record { script = c.script; stage = record c.stage { threads = slice_set c.stage.threads p (turned (thread_at p c) last) } }

-- thread p has made the step
abbrev pub has_made : ℕ → Step → Progress → Progress
has_made p step c = record { script = c.script; stage = stepped p (thread_at p c) step c.stage }

-- the schedule's next place is used up
abbrev pub place_used : Progress → Progress
place_used c = record { script = c.script; stage = record c.stage { places = drop 1 c.stage.places } }

-- thread p has begun its next phase, if it waited for it
abbrev pub thread_begun : ℕ → Progress → Progress
thread_begun p c = record { script = c.script; stage = record c.stage { threads = slice_set c.stage.threads p (begun_thread (thread_at p c)) } }

-- the next phase has begun
abbrev pub phase_begun : Progress → Progress
phase_begun c = record { script = c.script; stage = record c.stage { begun = c.stage.begun + 1; threads = begun_threads c.stage.threads } }

-- a script that is served, at a stage that its replay comes to, where this thread is to end its operation first, and where it is 0 none is
pub record IsAtStage (ending : ℕ) (c : Progress) : Type 0 where
  pub script : IsScript c.script
  pub served : IsServed c.script
  pub reached : Reached c.script ending c.stage
  pub steppers : All IsStepper c.stage.threads

abbrev pub IsUnderWay : Progress → Type 0
IsUnderWay c = IsAtStage 0 c

-- and thread 0 hasn't begun
pub record IsInPhases (c : Progress) : Type 0 where
  pub under_way : IsUnderWay c
  pub first_waits : awaits_phase (thread_at 0 c) ≡ true

-- How far the replay came meanwhile: its threads made so many steps at most beside those of the places that it followed.
pub record CameOn (more : ℕ) (before c : Progress) : Type 0 where
  pub script : c.script ≡ before.script
  pub begun : c.stage.begun ≡ before.stage.begun
  pub steps : c.stage.steps + length c.stage.places ≤ before.stage.steps + length before.stage.places + more

-- where a thread but thread 0 has a step, no place of the schedule is left
abbrev pub AreFollowed : Progress → Type 0
AreFollowed c = IsSome has_step c.stage.threads → c.stage.places ≡ []

-- The next place of the schedule was followed.
pub record PlaceFollowed (before c : Progress) : Type 0 where
  pub in_phases : IsInPhases c
  pub came : CameOn 0 before c
  pub fewer : length c.stage.places < length before.stage.places

-- The places were followed as far as a thread has a step.
pub record PlacesFollowed (before c : Progress) : Type 0 where
  pub in_phases : IsInPhases c
  pub came : CameOn 0 before c
  pub followed : AreFollowed c

-- thread p may go on: it is thread 0, or no place is left and no thread before it has a step
abbrev pub MayGoOn : ℕ → Progress → Type 0
MayGoOn p c = has_step (thread_at p c) ≡ true → 1 ≤ p → (c.stage.places ≡ []) × IsNoneBelow p has_step c.stage.threads

-- no other thread is inside an access
abbrev pub IsAlone : ℕ → Progress → Type 0
IsAlone p c = IsNoneBut p in_access c.stage.threads

-- thread p may end its operation: no place is left, and it is the first thread inside an access
pub record MayEnd (p : ℕ) (c : Progress) : Type 0 where
  pub other : 1 ≤ p
  pub followed : c.stage.places ≡ []
  pub below : IsNoneBelow p in_access c.stage.threads
  pub inside : in_access (thread_at p c) ≡ true

-- Thread p is inside no access: where it was, it ended its operation.
pub record AccessEnded (p : ℕ) (before c : Progress) : Type 0 where
  pub under_way : IsUnderWay c
  pub came : CameOn (2 ^ 40) before c
  pub places : c.stage.places ≡ before.stage.places
  pub others : (q : ℕ) → q ≢ p → slice_get c.stage.threads q ≡ slice_get before.stage.threads q
  pub outside : in_access (thread_at p c) ≡ false
  pub followed : AreFollowed before → AreFollowed c

-- Each thread inside an access ended its operation.
pub record AccessesEnded (before c : Progress) : Type 0 where
  pub in_phases : IsInPhases c
  pub came : CameOn (2 ^ 46) before c
  pub places : c.stage.places ≡ before.stage.places
  pub long : length c.stage.threads ≡ length before.stage.threads
  pub followed : AreFollowed c
  pub outside : IsNone in_access c.stage.threads

-- Thread p made steps until it had none, and the others none.
pub record ThreadFinished (p : ℕ) (before c : Progress) : Type 0 where
  pub under_way : IsUnderWay c
  pub came : CameOn (2 ^ 40) before c
  pub places : c.stage.places ≡ before.stage.places
  pub others : (q : ℕ) → q ≢ p → slice_get c.stage.threads q ≡ slice_get before.stage.threads q
  pub done : has_step (thread_at p c) ≡ false
  pub begun_once : (awaits_phase (thread_at p before) ≡ true → 1 ≤ (thread_at p before).phase) → awaits_phase (thread_at p c) ≡ true → 1 ≤ (thread_at p c).phase

-- Each thread made steps until it had none.
pub record PhaseFinished (before c : Progress) : Type 0 where
  pub in_phases : IsInPhases c
  pub came : CameOn (2 ^ 47) before c
  pub none : IsNone has_step c.stage.threads

-- All phases are over.
pub record PhasesDone (before c : Progress) : Type 0 where
  pub in_phases : IsInPhases c
  pub script : c.script ≡ before.script
  pub none : IsNone has_step c.stage.threads
  pub no_phase : IsNone awaits_phase c.stage.threads
  pub few : c.stage.steps + length c.stage.places ≤ 2 ^ 54

-- The replay came to its end.
pub record IsDone (before c : Progress) : Type 0 where
  pub script : c.script ≡ before.script
  pub under_way : IsUnderWay c
  pub ended : (p : ℕ) (t : Thread) → slice_get c.stage.threads p ≡ Some t → t.asked ≡ moves.Ended
  pub few : c.stage.steps ≤ 2 ^ 55
