-- A replay: which steps are made, in which order, and what comes of them.
use Rattle.std.specs.Prelude.{ℕ, zero, suc, Bool, true, false, ◌≡◌, ◌≢◌, ◌≤◌, ◌<◌, ◌+◌, ◌==◌, if◌then◌else◌, List, [], ◌∷◌, length, map, replicate, slice_get, slice_set, Option, Some, None}
use Rattle.arc_model.specs.declared.event.Act.{Act}
use Rattle.arc_rule.specs.Places.{extent_of, word_count}
use Rattle.arc_rule.specs.Steps.{found_by, made_by}
use Rattle.arc_rule.specs.declared.step.Step.{Step}
use Rattle.arc_rule.specs.declared.step.Intent.{Intent}
use Rattle.arc_script.specs.declared.script.Script.{Script}
use Rattle.arc_cells.specs.Chains.{Frame}
use Rattle.arc_ops.specs.declared.told.Stamped.{Stamped}
use Rattle.arc_ops.specs.declared.stepper.Move.{Move}
use Rattle.arc_ops.specs.declared.stepper.Move.TheVariants as moves
use Rattle.arc_ops.specs.Thread.{Thread, stepper_of, in_access, in_operation}
use Rattle.arc_ops.specs.Turns.{turned}
use Rattle.arc_ops.specs.Takes.{takes}
use Rattle.arc_ops.specs.Steppers.{IsStepper}
use Rattle.arc_spelled.specs.StepperStands.{chain_after}

-- Where a replay is: how many phases have begun, the places of the schedule that are left, the threads with thread 0 first, the words, how many steps
-- were made, and the events, the newest first.
pub record Stage : Type 0 where
  pub begun : ℕ
  pub places : List ℕ
  pub threads : List Thread
  pub words : List ℕ
  pub steps : ℕ
  pub events : List Stamped

-- ---- what a thread asks for

abbrev pub is_step : Move → Bool
is_step (moves.Step step intent) = true
is_step _ = false

abbrev pub is_phase_end : Move → Bool
is_phase_end moves.PhaseEnd = true
is_phase_end _ = false

abbrev pub has_step : Thread → Bool
has_step t = is_step t.asked

abbrev pub awaits_phase : Thread → Bool
awaits_phase t = is_phase_end t.asked

-- this holds of some thread but thread 0
pub record IsSome (test : Thread → Bool) (threads : List Thread) : Type 0 where
  pub place : ℕ
  pub thread : Thread
  pub other : 1 ≤ place
  pub there : slice_get threads place ≡ Some thread
  pub passes : test thread ≡ true

-- of no thread from 1 on, and below this one
abbrev pub IsNoneBelow : ℕ → (Thread → Bool) → List Thread → Type 0
IsNoneBelow n test threads = (p : ℕ) (t : Thread) → 1 ≤ p → p < n → slice_get threads p ≡ Some t → test t ≡ false

abbrev pub IsNone : (Thread → Bool) → List Thread → Type 0
IsNone test threads = (p : ℕ) (t : Thread) → 1 ≤ p → slice_get threads p ≡ Some t → test t ≡ false

-- ---- what is made of a stage

-- the steppers of so many threads from this one on, before any has begun
abbrev pub new_threads : Script → (count from : ℕ) → List Thread
new_threads script zero p = []
new_threads script (suc n) p = stepper_of script p ∷ new_threads script n (p + 1)

abbrev pub first_stage : Script → Stage
first_stage script = record {
  begun = 0;
  places = script.schedule;
  threads = new_threads script (length script.threads + 1) 0;
  words = replicate (word_count (extent_of script.shape)) 0;
  steps = 0;
  events = [];
}

abbrev pub begun_thread : Thread → Thread
begun_thread t = if awaits_phase t then turned t None else t

abbrev pub begun_threads : List Thread → List Thread
begun_threads [] = []
begun_threads (first ∷ others) = first ∷ map begun_thread others

-- the events with the one that a step of the thread told, the newest first
abbrev pub stamped : ℕ → ℕ → Option Act → List Stamped → List Stamped
stamped step thread None events = events
stamped step thread (Some act) events = record { step = step; event = record { thread = thread; act = act } } ∷ events

-- The thread makes the step: the words go by its plain meaning, the stepper is given what it finds, and the event that the stepper tells has the number of
-- the step.
abbrev pub stepped : ℕ → Thread → Step → Stage → Stage
stepped p t step s = record s {
  threads = slice_set s.threads p (turned t (Some (found_by step s.words)));
  words = made_by step s.words;
  steps = s.steps + 1;
  events = stamped (s.steps + 1) p (turned t (Some (found_by step s.words))).event s.events;
}

-- thread p, a stepper, asks for this step, and may be given what it finds
pub record MayStep (s : Stage) (p : ℕ) (t : Thread) (step : Step) (intent : Intent) : Type 0 where
  pub there : slice_get s.threads p ≡ Some t
  pub stepper : IsStepper t
  pub asked : t.asked ≡ moves.Step step intent
  pub takes_it : takes t (Some (found_by step s.words))

-- ---- the order of the steps

-- no thread from 1 on but this one
abbrev pub IsNoneBut : ℕ → (Thread → Bool) → List Thread → Type 0
IsNoneBut n test threads = (p : ℕ) (t : Thread) → 1 ≤ p → p ≢ n → slice_get threads p ≡ Some t → test t ≡ false

-- The stages that a replay of the script comes to. Where no place of the schedule is left, the threads inside an access end their operations first: `ending` is
-- the one that is to do so now, 0 where none is.
pub data Reached (script : Script) : (ending : ℕ) → Stage → Type 0 where
  new : Reached script 0 (first_stage script)
  -- no thread has a step, and some thread waits for its next phase: all that wait begin it
  begins : {s : Stage} → Reached script 0 s → IsNone has_step s.threads → IsSome awaits_phase s.threads →
      ((p : ℕ) (t : Thread) → 1 ≤ p → slice_get s.threads p ≡ Some t → awaits_phase t ≡ true → takes t None) →
      Reached script 0 (record s { begun = s.begun + 1; threads = begun_threads s.threads })
  -- the next place of the schedule is that of a thread that has a step, which it makes
  makes : {s : Stage} {p : ℕ} {places : List ℕ} {t : Thread} (step : Step) (intent : Intent) →
      Reached script 0 s → s.places ≡ p ∷ places → 1 ≤ p → MayStep s p t step intent → Reached script 0 (stepped p t step (record s { places = places }))
  -- it is that of a thread without one, while another thread has one: the place is used up
  passes : {s : Stage} {p : ℕ} {places : List ℕ} {t : Thread} →
      Reached script 0 s → s.places ≡ p ∷ places → 1 ≤ p → slice_get s.threads p ≡ Some t → has_step t ≡ false → IsSome has_step s.threads → Reached script 0 (record s { places = places })
  -- no place is left: the first thread inside an access is to end its operation
  inside : {s : Stage} {p : ℕ} {t : Thread} →
      Reached script 0 s → s.places ≡ [] → 1 ≤ p → IsNoneBelow p in_access s.threads → slice_get s.threads p ≡ Some t → in_access t ≡ true → Reached script p s
  -- it makes a step of the operation
  ends_it : {s : Stage} {p : ℕ} {t : Thread} (step : Step) (intent : Intent) →
      Reached script p s → 1 ≤ p → MayStep s p t step intent → in_operation t ≡ true → Reached script p (stepped p t step s)
  -- the operation is over
  outside : {s : Stage} {p : ℕ} {t : Thread} → Reached script p s → 1 ≤ p → slice_get s.threads p ≡ Some t → in_operation t ≡ false → Reached script 0 s
  -- no place is left, and no other thread is inside an access: the first thread that has a step makes it
  by_number : {s : Stage} {p : ℕ} {t : Thread} (step : Step) (intent : Intent) →
      Reached script 0 s → s.places ≡ [] → 1 ≤ p → IsNoneBelow p has_step s.threads → IsNoneBut p in_access s.threads → MayStep s p t step intent → Reached script 0 (stepped p t step s)
  -- all other threads have ended: thread 0 begins
  last : {s : Stage} {t : Thread} →
      Reached script 0 s → IsNone has_step s.threads → IsNone awaits_phase s.threads → slice_get s.threads 0 ≡ Some t → awaits_phase t ≡ true → takes t None →
      Reached script 0 (record s { threads = slice_set s.threads 0 (turned t None) })
  -- and makes its steps
  last_step : {s : Stage} {t : Thread} (step : Step) (intent : Intent) → Reached script 0 s → MayStep s 0 t step intent → Reached script 0 (stepped 0 t step s)

-- a replay that has come to its end
pub record IsRun (script : Script) (s : Stage) : Type 0 where
  pub reached : Reached script 0 s
  pub ended : (p : ℕ) (t : Thread) → slice_get s.threads p ≡ Some t → t.asked ≡ moves.Ended

-- ---- the deinits that wait

-- The chains of the deinits that wait, by thread, where this one's has become a new one.
abbrev pub with_chain : ℕ → List Frame → (ℕ → List Frame) → ℕ → List Frame
with_chain i own chains p = if p == i then own else chains p

-- The chains of the deinits that wait, by thread, at a stage that the replay came to: each step of a thread changes its own as its machine says.
abbrev pub chains_at : {script : Script} {ending : ℕ} {s : Stage} → Reached script ending s → ℕ → List Frame
chains_at new = λ p. []
chains_at (begins before none waits take) = chains_at before
chains_at (makes {s = s} {p = p} {t = t} step intent before next other may) = with_chain p (chain_after t (Some (found_by step s.words)) (chains_at before p)) (chains_at before)
chains_at (passes before next other there none some) = chains_at before
chains_at (inside before none other below there within) = chains_at before
chains_at (ends_it {s = s} {p = p} {t = t} step intent before other may busy) = with_chain p (chain_after t (Some (found_by step s.words)) (chains_at before p)) (chains_at before)
chains_at (outside before other there idle) = chains_at before
chains_at (by_number {s = s} {p = p} {t = t} step intent before none other below but may) = with_chain p (chain_after t (Some (found_by step s.words)) (chains_at before p)) (chains_at before)
chains_at (last before none no_phase there waits take) = chains_at before
chains_at (last_step {s = s} {t = t} step intent before may) = with_chain 0 (chain_after t (Some (found_by step s.words)) (chains_at before 0)) (chains_at before)
