-- The laws of what steppers stand for, for the threads of a script.
use Rattle.std.specs.Prelude.{ℕ, ◌≡◌, ◌-◌, ◌<◌, ◌≤◌, List, [], ◌∷◌, length, take, Option, Some, None}
use Rattle.arc_model.specs.declared.event.Act.{Act}
use Rattle.arc_model.specs.declared.event.ObjectName.{ObjectName}
use Rattle.arc_model.specs.declared.event.CellName.TheVariants as cells
use Rattle.arc_model.specs.declared.shape.Kind.TheVariants.{Unowned}
use Rattle.arc_model.specs.declared.event.Act.TheVariants.{Copy}
use Rattle.arc_model.specs.declared.event.Origin.TheVariants.{Cell}
use Rattle.arc_model.specs.Shapes.{HeapShape}
use Rattle.arc_model.specs.History.{History, heap_after}
use Rattle.arc_spelling.specs.Spelling.{Note}
use Rattle.arc_model.specs.References.{field_count}
use Rattle.arc_spelling.specs.Spelling.Note.{Name, Nil, Entry, Refers}
use Rattle.arc_spelling.specs.SpellingTies.{Causes, Holds, Ties}
use Rattle.arc_rule.specs.Extents.{Extent}
use Rattle.arc_rule.specs.Isa.{isa_name_of}
use Rattle.arc_rule.specs.Places.{number}
use Rattle.arc_rule.specs.declared.layout.Place.TheVariants.{Isa, Field}
use Rattle.arc_rule.specs.declared.step.Step.{Step}
use Rattle.arc_rule.specs.declared.step.Intent.{Intent}
use Rattle.arc_rule.specs.declared.step.Step.TheVariants.{Load, Exchange}
use Rattle.arc_rule.specs.declared.step.Intent.TheVariants as intents
use Rattle.arc_side.specs.Inline.{counted_at}
use Rattle.arc_side.specs.Lasts.{CountsIn}
use Rattle.arc_cells.specs.Cascades.{field_kind}
use Rattle.arc_cells.specs.Chains.{Frame}
use Rattle.arc_deinits.specs.Found.{name_in}
use Rattle.arc_script.specs.declared.script.Script.{Script}
use Rattle.arc_script.specs.Valid.{IsScript}
use Rattle.arc_programs.specs.Programs.{Hands, OpsDone}
use Rattle.arc_programs.specs.ProgramsLines.{told}
use Rattle.arc_programs.specs.ProgramsTied.{Spells}
use Rattle.arc_ops.specs.declared.stepper.Move.TheVariants as moves
use Rattle.arc_served.specs.Programs.{phases_of, program_of, ops_in_first, vars_of, kinds_of, classes_of, room_in}
use Rattle.arc_served.specs.Served.{IsServed}
use Rattle.arc_ops.specs.Thread.{Thread, stepper_of}
use Rattle.arc_ops.specs.Takes.{takes}
use Rattle.arc_spelled.specs.Work.{Work}
use Rattle.arc_spelled.specs.Came.{Extends, CameOut, KnowsWhatComes, knowing}
use Rattle.arc_spelled.specs.Shown.{IsNamedFor, TakesLast, Adds}
use Rattle.arc_spelled.specs.StepperStands.{variables, StandsFor, FitsChain, StepperGoesOn}

-- what a thread of the script works on
abbrev pub work_of : Script → ℕ → Hands → Work
work_of script p came = record {
  shape = script.shape;
  thread = p;
  phases = phases_of script p;
  program = program_of script p;
  count = vars_of script p;
  kinds = kinds_of script p;
  classes = classes_of script p;
  room = room_in script p;
  came = came;
}

-- A new stepper stands for no note.
abbrev pub SteppersBegin : Type 0
SteppersBegin = (script : Script) (p : ℕ) (came : Hands) → StandsFor (work_of script p came) (stepper_of script p) [] []

-- More may be known of what comes.
abbrev pub MoreIsKnown : Type 0
MoreIsKnown = (w : Work) (more : Hands) (t : Thread) (fs : List Frame) (now : List Note) → StandsFor w t fs now → Extends w.came more → StandsFor (knowing more w) t fs now

-- Each word that a stepper may be given, and that shows the chain, keeps what it stands for, where what this turn brings out of a cell for an
-- operation, or as a global is cleared, is known.
abbrev pub SteppersGoOn : Type 0
SteppersGoOn = (script : Script) (p : ℕ) (came more : Hands) (t : Thread) (fs : List Frame) (last : Option ℕ) (now : List Note) →
    IsScript script → IsServed script → StandsFor (work_of script p came) t fs now → takes t last → FitsChain t fs last → Extends came more → KnowsWhatComes more t last →
    StepperGoesOn (work_of script p more) t fs last now

-- The notes spell the thread's program, and of their lines the stepper keeps the first ones, as many as it has room for.
pub record IsSpelled (script : Script) (came : Hands) (p : ℕ) (t : Thread) (notes : List Note) : Type 0 where
  pub spelled : Spells script came p notes
  pub first_lines : t.kept.lines ≡ take (room_in script p) (told notes)
  pub all_lines : length (told notes) ≤ room_in script p → t.kept.lines ≡ told notes

-- Where a stepper says that it has ended, its notes spell the program of its thread.
abbrev pub EndedSteppersSpell : Type 0
EndedSteppersSpell = (script : Script) (p : ℕ) (came : Hands) (t : Thread) (fs : List Frame) (now : List Note) → p ≤ length script.threads →
    StandsFor (work_of script p came) t fs now → t.asked ≡ moves.Ended → IsSpelled script came p t now

-- Where a stepper says that a phase is over, or that it is to begin its first one, its notes spell the operations of the phases
-- before.
abbrev pub ReadySteppersHaveDone : Type 0
ReadySteppersHaveDone = (script : Script) (p : ℕ) (came : Hands) (t : Thread) (fs : List Frame) (now : List Note) → StandsFor (work_of script p came) t fs now → t.asked ≡ moves.PhaseEnd →
    OpsDone script.shape p came (program_of script p) (vars_of script p) (ops_in_first t.phase (phases_of script p)) (variables t.vars) now

-- the history with the event at its end, if one was told
abbrev pub with_event_of : ℕ → Option Act → History → History
with_event_of p None h = h
with_event_of p (Some a) h = record { thread = p; act = a } ∷ h

-- What the word shows holds of the heap, where the notes before are these: before the event the name, what the field holds of an object whose
-- name was read before, and what the cell refers to; and behind the event the entry, or that there is none.
pub record WordsHold (causes : Causes) (shape : HeapShape) (layout : Extent) (asked : Option (Step × Intent)) (last : Option ℕ) (p : ℕ) (event : Option Act) (out : Option CameOut) (h : History) (now : List Note) : Type 0 where
  pub names : (slot w : ℕ) (intent : Intent) → asked ≡ Some (Load (number layout (Isa slot)), intent) → IsNamedFor slot intent → last ≡ Some w → Holds causes shape (heap_after h) (Name slot (isa_name_of w))
  pub refers : (x : CameOut) → out ≡ Some x → event ≡ Some (Copy (Cell x.cell) x.hand) → Holds causes shape (heap_after h) (Refers x.cell x.kind x.place)
  pub nil_fields : (slot f : ℕ) (of : ObjectName) → asked ≡ Some (Load (number layout (Field slot f)), intents.Deinit slot) → last ≡ Some 0 → name_in slot now ≡ Some of → f < field_count shape of →
      Holds causes shape (heap_after h) (Nil (cells.Field slot f))
  pub fields : (slot f w : ℕ) (of : ObjectName) → asked ≡ Some (Load (number layout (Field slot f)), intents.Deinit slot) → last ≡ Some w → 2 ≤ w → name_in slot now ≡ Some of → f < field_count shape of →
      Holds causes shape (heap_after h) (Refers (cells.Field slot f) (field_kind shape of f) (w - 2))
  pub entries : (slot w new : ℕ) (act : Act) (intent : Intent) (entry : Option ℕ) →
      event ≡ Some act → asked ≡ Some (Exchange (number layout (counted_at Unowned slot entry)) w new, intent) → TakesLast slot act intent → last ≡ Some w → CountsIn entry w →
      Holds causes shape (heap_after (with_event_of p event h)) (Entry slot entry)

-- Where what a word shows holds of the heap, the notes with what a turn adds are those of the thread in the history with the event.
abbrev pub AddedNotesAreTied : Type 0
AddedNotesAreTied = (causes : Causes) (shape : HeapShape) (layout : Extent) (asked : Option (Step × Intent)) (last : Option ℕ) (p : ℕ) (event : Option Act) (out : Option CameOut) (h : History) (now after : List Note) →
    Adds shape layout asked last event out now after → WordsHold causes shape layout asked last p event out h now → Ties causes shape p now h → Ties causes shape p after (with_event_of p event h)
