-- The laws of the stages that a replay comes to.
use Rattle.std.specs.Prelude.{ℕ, ◌≡◌, ◌<◌, ◌+◌, drop, length, List, All, slice_get, Some, None}
use Rattle.arc_rule.specs.Places.{extent_of, word_count}
use Rattle.arc_rule.specs.Steps.{place_of, found_by}
use Rattle.arc_rule.specs.declared.step.Step.{Step}
use Rattle.arc_rule.specs.declared.step.Intent.{Intent}
use Rattle.arc_script.specs.declared.script.Script.{Script}
use Rattle.arc_script.specs.Valid.{IsScript}
use Rattle.arc_ops.specs.declared.stepper.Move.TheVariants as moves
use Rattle.arc_served.specs.Served.{IsServed}
use Rattle.arc_served.specs.Programs.{program_of}
use Rattle.arc_ops.specs.Thread.{Thread}
use Rattle.arc_ops.specs.Takes.{takes}
use Rattle.arc_ops.specs.Steppers.{IsStepper}
use Rattle.arc_ops_passes.specs.Drives.{Asks}
use Rattle.arc_ops.specs.declared.told.Stamped.{Stamped}
use Rattle.arc_ops.specs.declared.told.ThreadLines.{ThreadLines}
use Rattle.arc_replays.specs.Histories.{history_of, lines_from, first_lines, IsHistory}
use Rattle.arc_quiet.specs.OneWay.{StrongFieldsLeadOneWay}
use Rattle.arc_spelled.specs.StepperStands.{FitsChain}
use Rattle.arc_cells.specs.Chains.{Frame}
use Rattle.arc_replays.specs.Left.{OnlyImmortals, NoEntries, ImmortalsHaveNoFields}
use Rattle.arc_replays.specs.Named.{LineFits, ActFits}
use Rattle.arc_replays.specs.Stages.{Stage, Reached, IsRun, chains_at}

-- there is a thread for each number up to the script's last, and a word for each place
pub record IsWhole (script : Script) (s : Stage) : Type 0 where
  pub threads : length s.threads ≡ length script.threads + 1
  pub words : length s.words ≡ word_count (extent_of script.shape)

abbrev pub StagesAreWhole : Type 0
StagesAreWhole = (script : Script) (ending : ℕ) (s : Stage) → IsScript script → IsServed script → Reached script ending s → IsWhole script s

-- A thread is at work on its program in the script's heap, and its plan waits for the word of the step that it asks for, under its chain of
-- deinits that wait.
pub record IsAtWork (script : Script) (p : ℕ) (t : Thread) (chain : List Frame) : Type 0 where
  pub thread : t.thread ≡ p
  pub shape : t.shape ≡ script.shape
  pub layout : t.layout ≡ extent_of script.shape
  pub program : t.program ≡ program_of script p
  pub asks : Asks script.shape chain t t.doing

abbrev pub ThreadsAreAtWork : Type 0
ThreadsAreAtWork = (script : Script) (ending : ℕ) (s : Stage) (p : ℕ) (t : Thread) → IsScript script → IsServed script → (reached : Reached script ending s) → slice_get s.threads p ≡ Some t → IsAtWork script p t (chains_at reached p)

-- A step that a thread asks for has its place among the words, and the stepper may be given what it finds there, which shows the thread's chain.
pub record MayBeMade (s : Stage) (t : Thread) (chain : List Frame) (step : Step) : Type 0 where
  pub place : place_of step < length s.words
  pub takes_it : takes t (Some (found_by step s.words))
  pub fits : FitsChain t chain (Some (found_by step s.words))

abbrev pub StepsMayBeMade : Type 0
StepsMayBeMade = (script : Script) (ending : ℕ) (s : Stage) (p : ℕ) (t : Thread) (step : Step) (intent : Intent) → IsScript script → IsServed script → (reached : Reached script ending s) → slice_get s.threads p ≡ Some t → IsStepper t → t.asked ≡ moves.Step step intent →
    MayBeMade s t (chains_at reached p) step

-- A thread that waits for its next phase may begin it.
abbrev pub PhasesMayBegin : Type 0
PhasesMayBegin = (script : Script) (ending : ℕ) (s : Stage) (p : ℕ) (t : Thread) → IsScript script → IsServed script → Reached script ending s → slice_get s.threads p ≡ Some t → t.asked ≡ moves.PhaseEnd → takes t None

-- What a replay is that has come to its end: one legal history with the lines of its threads, and no entry is taken. Where strong fields lead one way along the classes
-- and immortal objects have none, no object is left but immortal ones. Lines and events name classes of the script.
pub record IsWholeReplay (script : Script) (s : Stage) : Type 0 where
  pub history : IsHistory script (lines_from 1 (drop 1 s.threads)) (first_lines s.threads) (history_of s.events) s.words
  pub no_entries : NoEntries script.shape s.words
  pub left : ImmortalsHaveNoFields script.shape → StrongFieldsLeadOneWay script.shape → OnlyImmortals script.shape s.words
  pub lines_fit : All (λ (x : ThreadLines). All (LineFits (length script.shape.classes)) x.lines) (lines_from 1 (drop 1 s.threads))
  pub end_fits : All (LineFits (length script.shape.classes)) (first_lines s.threads)
  pub events_fit : All (λ (x : Stamped). ActFits script.shape x.event.act) s.events

abbrev pub ReplaysAreHistories : Type 0
ReplaysAreHistories = (script : Script) (s : Stage) → IsScript script → IsServed script → IsRun script s → IsWholeReplay script s
