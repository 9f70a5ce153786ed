-- A replay under way: each thread's stepper drives a pass, and the rule holds of the plain words and the passes' views.
use Rattle.std.specs.Prelude.{ℕ, ◌≡◌, ◌≤◌, ◌⊎◌, List, [], ◌++◌, length, map, replicate, slice_get, slice_set, Some, None}
use mathlib.Core.Option.{some}
use lib.ListN.{get_elem?}
use Rattle.atomic_table.specs.Table.{State}
use Rattle.arc_model.specs.Shapes.{HeapShape}
use Rattle.arc_model.specs.History.{History, heap_after, share, IsLegal}
use Rattle.arc_spelling.specs.Spelling.{Note, acts_of}
use Rattle.arc_spelling.specs.SpellingTies.{Ties}
use Rattle.arc_spelling.specs.SpellingTies.Causes.{Judged}
use Rattle.arc_rule.specs.Places.{extent_of, word_count}
use Rattle.arc_rule.specs.Shown.{Shows}
use Rattle.arc_rule.specs.Steps.{found_by, made_by}
use Rattle.arc_rule.specs.declared.step.Step.{Step}
use Rattle.arc_rule.specs.declared.step.Intent.{Intent}
use Rattle.arc_cells.specs.Chains.{Frame}
use Rattle.arc_ops.specs.declared.stepper.Move.TheVariants as moves
use Rattle.arc_ops.specs.Thread.{Thread, stepper_of}
use Rattle.arc_ops.specs.Turns.{turned}
use Rattle.arc_ops.specs.Takes.{takes, HasHandLeft}
use Rattle.arc_ops.specs.Steppers.{IsStepper}
use Rattle.arc_spelled.specs.StepperStands.{Work, IsServedWork, StandsFor, chain_after, FitsChain}
use Rattle.arc_spelled.specs.Came.{knowing}
use Rattle.arc_spelled.specs.Spelled.{work_of, with_event_of, IsSpelled}
use Rattle.arc_served.specs.Served.{IsServed}
use Rattle.arc_script.specs.Valid.{IsScript}
use Rattle.arc_programs.specs.Programs.{Hands}
use Rattle.arc_programs.specs.ProgramsTied.{hands_in}
use Rattle.arc_script.specs.declared.script.Script.{Script}
use Rattle.arc_view.specs.declared.view.Role.TheVariants.{Pass}
use Rattle.arc_view.specs.declared.view.View.{View}
use Rattle.arc_view.specs.Rule.{IsSized, IsKept}
use Rattle.arc_view.specs.Kinds.{act_of, event_list}
use Rattle.arc_view.specs.Steps.{Told}
use Rattle.arc_ops_passes.specs.Drives.{Drives, IsChain}
use Rattle.arc_view.specs.Admission.{Admits}
use Rattle.arc_ops_passes.specs.Laws.{IsServedWord, NamesVariables}
use Rattle.arc_replays.specs.Stages.{with_chain}

-- words and views as a table with no slot
abbrev pub table : List ℕ → List View → State (Unit {0}) View
table words views = record { words = words; homes = []; views = views }

-- What a step of the pass v at seat id leaves: its view has changed, the rule holds, and the history has the step's event more.
pub record StepMade (shape : HeapShape) (step : Step) (intent : Intent) (words : List ℕ) (views : List View) (id : ℕ) (v : View) (log : History) : Type 0 where
  pub view : View
  pub kept : IsKept shape (table (made_by step words) (slice_set views id view))
  pub log_is : kept.log ≡ event_list v.number (act_of shape v step intent (found_by step words)) ++ log
  pub told : Told shape intent step v (found_by step words) view

abbrev pub PlainStepsKeep : Type 0
PlainStepsKeep = (shape : HeapShape) (words : List ℕ) (views : List View) (id : ℕ) (v : View) (step : Step) (intent : Intent) (k : IsKept shape (table words views)) → get_elem? views id ≡ some v → v.role ≡ Pass →
    Admits shape v step intent → StepMade shape step intent words views id v k.log

-- The threads at work, each at the seat of its place, on words that show the history but for what is under way. Where an object dies in a thread, the
-- thread's chain is of the deinits that wait.
pub record Replaying (shape : HeapShape) (work : ℕ → Work) (chains : ℕ → List Frame) (threads : List Thread) (words : List ℕ) (log : History) : Type 0 where
  pub views : List View
  pub kept : IsKept shape (table words views)
  pub log_is : kept.log ≡ log
  pub as_many : length views ≡ length threads
  pub drives : (i : ℕ) (t : Thread) → slice_get threads i ≡ Some t → (v : View) × (get_elem? views i ≡ some v) × (d : Drives (work i) t v) × IsChain t.doing d.chain (chains i)

-- What each step of a replay needs: the thread asks for it, and the word that it finds is served.
pub record MayTurn (shape : HeapShape) (work : ℕ → Work) (threads : List Thread) (words : List ℕ) (i : ℕ) (t : Thread) (step : Step) (intent : Intent) : Type 0 where
  pub there : slice_get threads i ≡ Some t
  pub asked : t.asked ≡ moves.Step step intent
  pub stepper : IsStepper t
  pub served : IsServedWork (work i)
  pub hand_left : HasHandLeft t
  pub same_shape : (work i).shape ≡ shape
  pub word : IsServedWord (work i).shape step intent (found_by step words)

-- A thread of the schedule made its step: the stepper may be given what that found, which shows its chain, and its event is the history's next.
pub record ReplayGoesOn (shape : HeapShape) (work : ℕ → Work) (chains : ℕ → List Frame) (threads : List Thread) (words : List ℕ) (log : History) (i : ℕ) (t : Thread) (step : Step) : Type 0 where
  pub takes_it : takes t (Some (found_by step words))
  pub fits : FitsChain t (chains i) (Some (found_by step words))
  pub replaying : Replaying shape work (with_chain i (chain_after t (Some (found_by step words)) (chains i)) chains) (slice_set threads i (turned t (Some (found_by step words)))) (made_by step words)
      (with_event_of (work i).thread (turned t (Some (found_by step words))).event log)

abbrev pub ReplaysGoOn : Type 0
ReplaysGoOn = (shape : HeapShape) (work : ℕ → Work) (chains : ℕ → List Frame) (threads : List Thread) (words : List ℕ) (log : History) (i : ℕ) (t : Thread) (step : Step) (intent : Intent) → Replaying shape work chains threads words log →
    MayTurn shape work threads words i t step intent → ReplayGoesOn shape work chains threads words log i t step

-- thread i after some threads have begun their next phase: this one, or as it was
pub record IsBegun (threads : List Thread) (i : ℕ) (t : Thread) : Type 0 where
  pub before : Thread
  pub there : slice_get threads i ≡ Some before
  pub begun : (t ≡ before) ⊎ ((before.asked ≡ moves.PhaseEnd) × (t ≡ turned before None))

pub record AreBegun (threads after : List Thread) : Type 0 where
  pub as_many : length after ≡ length threads
  pub each : (i : ℕ) (t : Thread) → slice_get after i ≡ Some t → IsBegun threads i t

-- Threads whose next phase begins make no step.
abbrev pub ReplaysBeginPhases : Type 0
ReplaysBeginPhases = (shape : HeapShape) (work : ℕ → Work) (chains : ℕ → List Frame) (threads after : List Thread) (words : List ℕ) (log : History) → Replaying shape work chains threads words log →
    ((i : ℕ) (t : Thread) → slice_get threads i ≡ Some t → IsServedWork (work i) × NamesVariables (work i) × HasHandLeft t) → AreBegun threads after → Replaying shape work chains after words log

-- One legal history, in which each thread's notes are its own; it tells what the thread's hands referred to when they came. Where all have ended the words show
-- the heap after it.
pub record IsOneHistory (shape : HeapShape) (work : ℕ → Work) (chains : ℕ → List Frame) (threads : List Thread) (words : List ℕ) (log : History) : Type 0 where
  pub legal : IsLegal shape log
  pub notes : (i : ℕ) (t : Thread) → slice_get threads i ≡ Some t → (ns : List Note) × StandsFor (knowing (hands_in (work i).thread log) (work i)) t (chains i) ns × Ties Judged (work i).shape (work i).thread ns log
  pub shows : ((i : ℕ) (t : Thread) → slice_get threads i ≡ Some t → t.asked ≡ moves.Ended) → Shows shape (heap_after log) words

abbrev pub ReplaysAreOneHistory : Type 0
ReplaysAreOneHistory = (shape : HeapShape) (work : ℕ → Work) (chains : ℕ → List Frame) (threads : List Thread) (words : List ℕ) (log : History) → Replaying shape work chains threads words log → IsOneHistory shape work chains threads words log

-- Where a thread of a replay of the script has ended, notes that are its own in the history spell its program, and of their lines its stepper
-- keeps the first ones. Its share of the history is their events.
pub record IsSpelledInLog (script : Script) (i : ℕ) (t : Thread) (log : History) : Type 0 where
  pub notes : List Note
  pub tied : Ties Judged script.shape i notes log
  pub spelled : IsSpelled script (hands_in i log) i t notes
  pub share_is : map (λ a. record { thread = i; act = a }) (acts_of notes) ≡ share log i

abbrev pub EndedThreadsSpell : Type 0
EndedThreadsSpell = (script : Script) (came : Hands) (chains : ℕ → List Frame) (threads : List Thread) (words : List ℕ) (log : History) (i : ℕ) (t : Thread) → IsScript script → IsServed script → i ≤ length script.threads →
    Replaying script.shape (λ p. work_of script p came) chains threads words log → slice_get threads i ≡ Some t → t.asked ≡ moves.Ended → IsSpelledInLog script i t log

-- the steppers of the script's threads, from thread 0 on, before any has begun
pub record AreNew (script : Script) (threads : List Thread) : Type 0 where
  pub few : length threads ≤ 65
  pub some : 1 ≤ length threads
  pub new : (i : ℕ) (t : Thread) → slice_get threads i ≡ Some t → t ≡ stepper_of script i

-- New steppers may be replayed on words that are all 0.
abbrev pub ReplaysBegin : Type 0
ReplaysBegin = (script : Script) (came : Hands) (threads : List Thread) (words : List ℕ) → IsSized script.shape → AreNew script threads → words ≡ replicate (word_count (extent_of script.shape)) 0 →
    Replaying script.shape (λ p. work_of script p came) (λ p. []) threads words []
