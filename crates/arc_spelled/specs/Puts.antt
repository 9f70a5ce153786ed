-- A thread puts few references into cells, so that a hand is left for what its deinits take out of fields.
use Rattle.std.specs.Prelude.{ℕ, ◌≡◌, ◌≤◌, List, length}
use Rattle.std.specs.List.{AllByRecursion}
use Rattle.arc_model.specs.declared.event.Event.{Event}
use Rattle.arc_model.specs.Shapes.{HeapShape}
use Rattle.arc_model.specs.History.{History, share, IsLegal}
use Rattle.arc_spelling.specs.Spelling.{Note}
use Rattle.arc_spelling.specs.SpellingTies.{Causes, Ties}
use Rattle.arc_hand_counts.specs.Counts.{puts, takes}
use Rattle.arc_cells.specs.Chains.{Frame}
use Rattle.arc_script.specs.declared.script.Script.{Script}
use Rattle.arc_script.specs.Valid.{IsScript}
use Rattle.arc_programs.specs.Programs.{Hands}
use Rattle.arc_ops.specs.Thread.{Thread}
use Rattle.arc_ops.specs.Takes.{HasHandLeft}
use Rattle.arc_spelled.specs.Work.{Work}
use Rattle.arc_spelled.specs.Counts.{put_in, taken_out}
use Rattle.arc_spelled.specs.StepperStands.{StandsFor}
use Rattle.arc_spelled.specs.Spelled.{work_of}

-- The notes that a stepper stands for put at most one reference into a cell for each operation of its program.
abbrev pub PutsAreFew : Type 0
PutsAreFew = (w : Work) (t : Thread) (fs : List Frame) (now : List Note) → StandsFor w t fs now → put_in now ≤ length w.program

-- A thread's share of a history puts into cells and takes out of fields what its notes do.
abbrev pub NotesCountCells : Type 0
NotesCountCells = (causes : Causes) (shape : HeapShape) (p : ℕ) (ns : List Note) (h : History) → Ties causes shape p ns h →
    (puts (share h p) ≡ put_in ns) × (takes (share h p) ≡ taken_out ns)

-- some notes are those of thread p in the history, and its stepper stands for them
pub record IsStoodFor (causes : Causes) (script : Script) (p : ℕ) (h : History) : Type 0 where
  pub came : Hands
  pub stepper : Thread
  pub chain : List Frame
  pub notes : List Note
  pub stands : StandsFor (work_of script p came) stepper chain notes
  pub tied : Ties causes script.shape p notes h

-- A legal history of the script's threads, in which a stepper stands for the notes of each.
pub record AreStoodFor (causes : Causes) (script : Script) (h : History) : Type 0 where
  pub valid : IsScript script
  pub legal : IsLegal script.shape h
  -- no event is of a thread that the script doesn't have
  pub no_other : AllByRecursion (λ (e : Event). e.thread ≤ length script.threads) h
  pub each : (q : ℕ) → q ≤ length script.threads → IsStoodFor causes script q h

-- In such a history each thread takes few references out of fields,
abbrev pub FewAreTaken : Type 0
FewAreTaken = (causes : Causes) (script : Script) (h : History) (p : ℕ) → AreStoodFor causes script h → takes (share h p) ≤ 100000

-- and its stepper has counted as many, and has a hand left.
abbrev pub HandsAreLeft : Type 0
HandsAreLeft = (causes : Causes) (script : Script) (h : History) (p : ℕ) (x : IsStoodFor causes script p h) → AreStoodFor causes script h → (x.stepper.taken ≡ takes (share h p)) × HasHandLeft x.stepper
