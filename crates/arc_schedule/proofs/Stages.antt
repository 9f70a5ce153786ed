-- What holds of each stage of a replay: the steps made are those of the threads' operations up to where the steppers are, and in order.
use Rattle.std.proofs.Common.{◌≡◌, ℕ, ◌+◌, ◌<◌, ◌≤◌, false, List, [], ◌∷◌, ◌++◌, length, Some, arith}
use Rattle.std.specs.Prelude.{slice_get, reverse, replicate}
use Rattle.std.specs.List.{AllByRecursion}
use Rattle.arc_rule.specs.Places.{extent_of, word_count}
use Rattle.arc_script.specs.declared.script.ThreadDecl.{ThreadDecl}
use Rattle.arc_script.specs.declared.script.Script.{Script}
use Rattle.arc_cells.specs.Chains.{Frame}
use Rattle.arc_ops.specs.Thread.{Thread, in_access as accesses}
use Rattle.arc_replays.specs.Stages.{Stage, has_step, awaits_phase, IsNone}
use Rattle.arc_schedule.specs.Made.{Made, Go, own}
use Rattle.arc_schedule.specs.Orders.{in_access, InOrder}
use Rattle.arc_schedule.specs.Law.{events_of}
use Rattle.arc_schedule.proofs.Stands.{Task, Stands, StandsFirst}
use Rattle.arc_schedule.proofs.Ahead.{IsAhead}

abbrev pub task_of : (script : Script) → 0 < script.shape.slots → ℕ → ThreadDecl → Task
task_of script some i decl = record { shape = script.shape; thread = i + 1; decl = decl; some_slot = some; other = omega arith }

-- so many phases have begun, in the threads from 1 on, each under its chain of deinits that wait
abbrev pub AllStand : (script : Script) → 0 < script.shape.slots → (begun : ℕ) → (chains : ℕ → List Frame) → List Thread → List Made → Type 0
AllStand script some begun chains threads ms = (i : ℕ) (decl : ThreadDecl) (t : Thread) → slice_get script.threads i ≡ Some decl → slice_get threads (i + 1) ≡ Some t → Stands (task_of script some i decl) begun (chains (i + 1)) t (own (i + 1) ms)

-- the steps say which threads are inside an access
abbrev pub AllInside : Script → List Thread → List Made → Type 0
AllInside script threads ms = (i : ℕ) (t : Thread) → i < length script.threads → slice_get threads (i + 1) ≡ Some t → in_access (extent_of script.shape) (own (i + 1) ms) ≡ accesses t

-- the thread that ends its operation has made a step of it last, in the phase that is under way
pub record IsEnding (begun p : ℕ) (places : List ℕ) (ms : List Made) : Type 0 where
  pub no_place : places ≡ []
  pub newest : Made
  pub rest : List Made
  pub own_is : own p ms ≡ newest ∷ rest
  pub number : 1 ≤ newest.point.operation
  pub phase : newest.point.phase + 1 ≡ begun

pub record Follows (script : Script) (some : 0 < script.shape.slots) (ending : ℕ) (s : Stage) (chains : ℕ → List Frame) : Type 0 where
  pub ms : List Made
  pub goes : Go (replicate (word_count (extent_of script.shape)) 0) ms s.words
  pub count : length ms ≡ s.steps
  pub events_are : s.events ≡ events_of ms
  pub threads_in : AllByRecursion (λ m. m.point.thread ≤ length script.threads) ms
  pub many : length s.threads ≡ length script.threads + 1
  pub stand : AllStand script some s.begun chains s.threads ms
  pub inside : AllInside script s.threads ms
  pub first : (t : Thread) → slice_get s.threads 0 ≡ Some t → StandsFirst script.shape (chains 0) t (own 0 ms)
  -- once thread 0 has begun, the others have ended
  pub alone : (t : Thread) → slice_get s.threads 0 ≡ Some t → awaits_phase t ≡ false → IsNone has_step s.threads × IsNone awaits_phase s.threads
  pub ends : 1 ≤ ending → IsEnding s.begun ending s.places ms
  pub order : (left : List Made) → IsAhead script ending s ms left → InOrder (extent_of script.shape) (length script.threads) 0 script.schedule [] (reverse ms ++ left)
