-- What a thread's stepper stands for: the notes that spell the thread's program up to where the stepper is.
use Rattle.std.specs.Prelude.{ℕ, Bool, true, false, ◌≡◌, ◌+◌, ◌<◌, ◌≤◌, ◌==◌, nat_lt, if◌then◌else◌, List, [], ◌∷◌, length, map, take, slice_get, All, Option, Some, None, ⊤}
use Rattle.arc_model.specs.declared.event.ObjectName.{ObjectName}
use Rattle.arc_model.specs.declared.event.CellName.{CellName}
use Rattle.arc_model.specs.declared.event.Origin.{Origin}
use Rattle.arc_model.specs.declared.event.Origin.TheVariants as origins
use Rattle.arc_model.specs.declared.event.Act.TheVariants as acts
use Rattle.arc_model.specs.declared.event.Got.TheVariants as gots
use Rattle.arc_model.specs.declared.shape.Kind.{Kind}
use Rattle.arc_model.specs.declared.shape.Kind.TheVariants.{Strong}
use Rattle.arc_model.specs.Shapes.{HeapShape}
use Rattle.arc_spelling.specs.Spelling.{Note, hands_of, acts_of, IsEnd, IsDrop, IsCascade}
use Rattle.arc_spelling.specs.Spelling.Note.{Did, Operation, Entry, Refers}
use Rattle.arc_rule.specs.Extents.{Extent}
use Rattle.arc_rule.specs.Places.{number, extent_of}
use Rattle.arc_rule.specs.declared.layout.Place.TheVariants.{Isa}
use Rattle.arc_rule.specs.declared.step.Step.{Step}
use Rattle.arc_rule.specs.declared.step.Step.TheVariants.{Load}
use Rattle.arc_rule.specs.declared.step.Intent.{Intent}
use Rattle.arc_rule.specs.declared.step.Intent.TheVariants as intents
use Rattle.arc_plan.specs.declared.slots.Making.{Making as Search}
use Rattle.arc_plan.specs.declared.slots.Making.TheVariants as search
use Rattle.arc_plan.specs.declared.slots.Once.TheVariants.{Asked}
use Rattle.arc_plan.specs.Slots.{OneStep}
use Rattle.arc_side.specs.Inline.{IsCountedInline}
use Rattle.arc_side.specs.Downs.{Fall, inline_fall}
use Rattle.arc_cells.specs.Cascades.{CascadeState}
use Rattle.arc_cells.specs.Chains.{Frame}
use Rattle.arc_deinits.specs.Stands.{CascadeStandsFor, ChainFits, chained}
use Rattle.arc_script.specs.declared.script.Op.{Op}
use Rattle.arc_script.specs.declared.script.Op.TheVariants as op
use Rattle.arc_script.specs.declared.script.OpCell.{OpCell}
use Rattle.arc_script.specs.OneList.{in_one_list}
use Rattle.arc_programs.specs.Variables.{Held, Variables}
use Rattle.arc_programs.specs.Programs.{made_of, OpsDone, ScopeEnds, IsProgram, GlobalsCleared}
use Rattle.arc_programs.specs.ProgramsLines.{number_of, told}
use Rattle.arc_ops.specs.Cells.{cell_in}
use Rattle.arc_ops.specs.declared.cell.Cell.{Cell}
use Rattle.arc_ops.specs.declared.stepper.Held.{Held as HeldByStepper}
pub use Rattle.arc_ops.specs.Plans.{op_of}
use Rattle.arc_ops.specs.declared.gain.Gain.{Gain}
use Rattle.arc_ops.specs.declared.gain.Gain.TheVariants as gains
use Rattle.arc_ops.specs.declared.stepper.Doing.{Doing}
use Rattle.arc_ops.specs.declared.stepper.Doing.TheVariants.{Ready, Making, Gaining, Naming, Opening, Closing, Setting, Clearing, Dropping, Dying, Vacating, Ended}
use Rattle.arc_ops.specs.declared.stepper.Move.{Move}
use Rattle.arc_ops.specs.declared.stepper.Move.TheVariants as moves
use Rattle.arc_served.specs.Kept.{Kept}
use Rattle.arc_served.specs.Programs.{BlocksFit, ordinal, ops_in_first, kind_of, KindsFit, ClassesFit, CellFits}
use Rattle.arc_served.specs.Served.{IsServedOp, IsServedRef, IsServedClass}
use Rattle.arc_ops.specs.Thread.{Thread, value, is_busy}
use Rattle.arc_ops.specs.Turns.{turned}
pub use Rattle.arc_spelled.specs.Work.{Work}
use Rattle.arc_spelled.specs.Came.{came_out}
use Rattle.arc_spelled.specs.Counts.{taken_out}
use Rattle.arc_spelled.specs.Shown.{Adds, with_event}
use Rattle.arc_spelled.specs.Releases.{IsReleasing}

-- the program is that of its phases, blocks stay within these, the operations, the kinds of variables, the globals and the classes are
-- served, operations fit kinds and classes and name cells that are there, and thread 0 has neither operations nor variables
pub record IsServedWork (w : Work) : Type 0 where
  pub whole : w.program ≡ in_one_list 0 w.phases
  pub blocks : BlocksFit w.program w.phases
  pub ops : All IsServedOp w.program
  pub kinds : All IsCountedInline w.kinds
  pub kinds_fit : All (KindsFit w.shape w.classes w.kinds) w.program
  pub classes_fit : All (ClassesFit w.shape w.classes) w.program
  pub cells_fit : All (CellFits w.shape w.classes) w.program
  pub globals : All IsServedRef w.shape.globals
  pub served_classes : All IsServedClass w.shape.classes
  pub clearing : w.thread ≡ 0 → (w.program ≡ []) × (w.count ≡ 0)

abbrev pub held_of : HeldByStepper → Held
held_of h = record { hand = h.hand; kind = h.kind; place = h.place }

abbrev pub held_in : Option HeldByStepper → Option Held
held_in None = None
held_in (Some h) = Some (held_of h)

abbrev pub variables : List (Option HeldByStepper) → Variables
variables vars = map held_in vars

-- the reference that a variable has is of the variable's kind
abbrev pub AreOfKinds : List Kind → List (Option HeldByStepper) → Type 0
AreOfKinds kinds vars = (v : ℕ) (h : HeldByStepper) → value vars v ≡ Some h → h.kind ≡ kind_of kinds v

-- the first operations of the program are done
abbrev pub AreDone : Work → ℕ → List (Option HeldByStepper) → List Note → Type 0
AreDone w i vars now = OpsDone w.shape w.thread w.came w.program w.count i (variables vars) now

-- all operations are done, and of the variables the first ones are nil, and dropped where they weren't
pub record IsInScope (w : Work) (vars : List (Option HeldByStepper)) (now : List Note) : Type 0 where
  pub first : Variables
  pub worked : List Note
  pub ops : OpsDone w.shape w.thread w.came w.program w.count (length w.program) first worked
  pub same_count : length first ≡ length vars
  pub below : ℕ
  pub within : below ≤ length vars
  pub ends : ScopeEnds w.shape first below (variables vars) worked now
  pub nils : (v : ℕ) → v < below → value vars v ≡ None

-- thread 0, which has no variable, has cleared the first globals
pub record HasCleared (w : Work) (vars : List (Option HeldByStepper)) (cleared : ℕ) (now : List Note) : Type 0 where
  pub no_vars : length vars ≡ 0
  pub globals : GlobalsCleared w.shape w.came cleared now

-- behind its operations a thread is in the end of its scope, and thread 0 in the end section
abbrev pub IsAtEnd : (clears : Bool) → Work → List (Option HeldByStepper) → (cleared : ℕ) → List Note → Type 0
IsAtEnd true w vars cleared now = HasCleared w vars cleared now
IsAtEnd false w vars cleared now = IsInScope w vars now

-- The operation at this place is over, or where there is none, a drop at the end.
abbrev pub IsOverIf : Bool → Work → ℕ → List (Option HeldByStepper) → (cleared : ℕ) → List Note → Type 0
IsOverIf true w i vars cleared now = AreDone w (i + 1) vars now
IsOverIf false w i vars cleared now = IsAtEnd (w.thread == 0) w vars cleared now

abbrev pub IsOver : Work → ℕ → List (Option HeldByStepper) → (cleared : ℕ) → List Note → Type 0
IsOver w i vars cleared now = IsOverIf (nat_lt i (length w.program)) w i vars cleared now

-- before its operations a thread has cleared no global; but for thread 0 none ever has
pub record IsReady (w : Work) (i : ℕ) (vars : List (Option HeldByStepper)) (cleared : ℕ) (now : List Note) : Type 0 where
  pub done : AreDone w i vars now
  pub uncleared : w.thread ≡ 0 → cleared ≡ 0

-- the thread has ended, and thread 0 has cleared all globals
abbrev pub HasEnded : (clears : Bool) → Work → List Note → Type 0
HasEnded true w now = GlobalsCleared w.shape w.came (length w.shape.globals) now
HasEnded false w now = IsProgram w.shape w.thread w.came w.program w.count now

-- the operation at this place began just now
pub record IsBegun (w : Work) (i : ℕ) (o : Op) (vars : List (Option HeldByStepper)) (now : List Note) : Type 0 where
  pub base : List Note
  pub done : AreDone w i vars base
  pub there : slice_get w.program i ≡ Some o
  pub now_is : now ≡ Operation (ordinal w.program i) ∷ base

-- an object is to be made that has the thread's next number
pub record IsMaking (w : Work) (i to : ℕ) (name : ObjectName) (vars : List (Option HeldByStepper)) (now : List Note) : Type 0 where
  pub begun : IsBegun w i (op.New to name.class) vars now
  pub named : name ≡ record { class = name.class; thread = w.thread; number = made_of now + 1 }

-- it was made in this slot
pub record IsMade (w : Work) (i to : ℕ) (name : ObjectName) (slot : ℕ) (vars : List (Option HeldByStepper)) (now : List Note) : Type 0 where
  pub before : List Note
  pub making : IsMaking w i to name vars before
  pub now_is : now ≡ Did (acts.New (hands_of before + 1) name.class slot) ∷ before

abbrev pub MakesUpTo : Work → ℕ → ℕ → ObjectName → List (Option HeldByStepper) → List Note → Search → Type 0
MakesUpTo w i to name vars now (search.Looking word) = IsMaking w i to name vars now
MakesUpTo w i to name vars now (search.Taking slot seen) = IsMaking w i to name vars now
MakesUpTo w i to name vars now (search.Counting slot) = IsMade w i to name slot vars now
MakesUpTo w i to name vars now (search.Naming slot) = IsMade w i to name slot vars now
MakesUpTo w i to name vars now _ = ⊥

-- an operation that gains a reference began just now, and this is the reference of the other variable
pub record IsGaining (w : Work) (i : ℕ) (gain : Gain) (to : ℕ) (from : HeldByStepper) (vars : List (Option HeldByStepper)) (now : List Note) : Type 0 where
  pub of : ℕ
  pub begun : IsBegun w i (op_of gain to of) vars now
  pub source : value vars of ≡ Some from

-- a cell is to be read: the operation began just now
pub record IsGetting (w : Work) (i to : ℕ) (cell : Cell) (vars : List (Option HeldByStepper)) (now : List Note) : Type 0 where
  pub of : OpCell
  pub begun : IsBegun w i (op.Get to of) vars now
  pub cell_is : cell_in w.shape w.classes vars of ≡ Some cell

-- the reference is gained from one in a variable, or copied from one in a cell
abbrev pub GainsUpTo : Work → ℕ → Gain → ℕ → (origin : Origin) → (kind : Kind) → (place : ℕ) → List (Option HeldByStepper) → List Note → Type 0
GainsUpTo w i gain to (origins.Hand hand) kind place vars now = IsGaining w i gain to (record { hand = hand; kind = kind; place = place }) vars now
GainsUpTo w i gain to (origins.Cell cell) kind place vars now = (gain ≡ gains.Copy) × IsGetting w i to (record { name = cell; kind = kind }) vars now

-- the cell's reference was copied, and came into the thread's next hand
pub record IsGot (w : Work) (i to : ℕ) (cell : CellName) (held : HeldByStepper) (vars : List (Option HeldByStepper)) (now : List Note) : Type 0 where
  pub before : List Note
  pub getting : IsGetting w i to (record { name = cell; kind = held.kind }) vars before
  pub hand_is : held.hand ≡ hands_of before + 1
  pub came : w.came held.hand ≡ Some (record { kind = held.kind; place = held.place })
  pub now_is : now ≡ Did (acts.Copy (origins.Cell cell) held.hand) ∷ Refers cell held.kind held.place ∷ before

-- a variable's value is to be put into a cell: the operation began just now
pub record IsPutting (w : Work) (i from : ℕ) (cell : Cell) (vars : List (Option HeldByStepper)) (now : List Note) : Type 0 where
  pub of : OpCell
  pub begun : IsBegun w i (op.Set of from) vars now
  pub cell_is : cell_in w.shape w.classes vars of ≡ Some cell

-- thread 0 is to clear its next global
pub record IsClearing (w : Work) (vars : List (Option HeldByStepper)) (cleared : ℕ) (now : List Note) : Type 0 where
  pub thread_is : w.thread ≡ 0
  pub within : cleared < length w.shape.globals
  pub so_far : HasCleared w vars cleared now

-- a reference was loaded, and for its line the name of its object is read
pub record IsLoaded (w : Work) (i to : ℕ) (held : HeldByStepper) (plan : OneStep) (asked : Option (Step × Intent)) (vars : List (Option HeldByStepper)) (now : List Note) : Type 0 where
  pub from : HeldByStepper
  pub before : List Note
  pub gaining : IsGaining w i gains.Load to from vars before
  pub held_is : held ≡ record { hand = hands_of before + 1; kind = Strong; place = from.place }
  pub now_is : now ≡ Did (acts.Load from.hand (gots.Hand held.hand)) ∷ before
  pub waits : plan.at ≡ Asked
  pub asks : asked ≡ Some (Load (number (extent_of w.shape) (Isa held.place)), intents.Look)

-- whatever completes the drop completes what is under way
abbrev pub DropEnds : Work → ℕ → HeldByStepper → List (Option HeldByStepper) → (cleared : ℕ) → List Note → Type 0
DropEnds w i held vars cleared now = (after : List Note) → IsDrop w.shape held.kind held.place held.hand now after → IsOver w i vars cleared after

-- a reference is dropped that is counted in the inline word
pub record IsDropping (w : Work) (i : ℕ) (held : HeldByStepper) (plan : Fall) (asked : Option (Step × Intent)) (vars : List (Option HeldByStepper)) (cleared : ℕ) (now : List Note) : Type 0 where
  pub counted : IsCountedInline held.kind
  pub releasing : IsReleasing (extent_of w.shape) held.place (intents.Drop held.hand) asked (inline_fall plan)
  pub ends : DropEnds w i held vars cleared now

-- the step that is asked for, and what it is made for
abbrev pub step_in : Move → Option (Step × Intent)
step_in (moves.Step step intent) = Some (step, intent)
step_in _ = None

-- an object dies, under a chain of deinits that wait, and whatever completes the deinit of the first of them, the root, completes what is
-- under way
pub record IsDying (w : Work) (i : ℕ) (c : CascadeState) (fs : List Frame) (asked : Move) (vars : List (Option HeldByStepper)) (cleared : ℕ) (now : List Note) : Type 0 where
  pub root : ℕ
  pub base : List Note
  pub stands : CascadeStandsFor root base c fs (step_in asked) now
  pub layout : c.layout ≡ extent_of w.shape
  pub shape : c.shape ≡ w.shape
  pub ends : (after : List Note) → IsCascade w.shape root base after → IsOver w i vars cleared after

-- the last unowned reference was dropped, and whatever completes the end of the slot completes what is under way
pub record IsVacating (w : Work) (i slot : ℕ) (vars : List (Option HeldByStepper)) (cleared : ℕ) (now : List Note) : Type 0 where
  pub before : List Note
  pub now_is : now ≡ Entry slot None ∷ before
  pub ends : (after : List Note) → IsEnd slot before after → IsOver w i vars cleared after

-- the notes, by what the stepper is doing, under a chain of deinits that wait where an object dies
abbrev pub StepperUpTo : Work → ℕ → List (Option HeldByStepper) → (cleared : ℕ) → List Frame → Move → List Note → Doing → Type 0
StepperUpTo w i vars cleared fs asked now Ready = IsReady w i vars cleared now
StepperUpTo w i vars cleared fs asked now (Making to name plan) = MakesUpTo w i to name vars now plan.at
StepperUpTo w i vars cleared fs asked now (Gaining gain to from plan) = GainsUpTo w i gain to from.origin from.kind from.place vars now
StepperUpTo w i vars cleared fs asked now (Naming to held plan) = IsLoaded w i to held plan (step_in asked) vars now
StepperUpTo w i vars cleared fs asked now (Opening to cell plan) = IsGetting w i to cell vars now
StepperUpTo w i vars cleared fs asked now (Closing to cell held plan) = IsGot w i to cell held vars now
StepperUpTo w i vars cleared fs asked now (Setting from cell plan) = IsPutting w i from cell vars now
StepperUpTo w i vars cleared fs asked now (Clearing plan) = IsClearing w vars cleared now
StepperUpTo w i vars cleared fs asked now (Dropping held plan) = IsDropping w i held plan (step_in asked) vars cleared now
StepperUpTo w i vars cleared fs asked now (Dying c) = IsDying w i c fs asked vars cleared now
StepperUpTo w i vars cleared fs asked now (Vacating slot plan) = IsVacating w i slot vars cleared now
StepperUpTo w i vars cleared fs asked now Ended = HasEnded (w.thread == 0) w now

-- what it works on
pub record WorksOn (w : Work) (layout : Extent) (shape : HeapShape) (thread : ℕ) (phases : List (List Op)) (program : List Op) (classes : List ℕ) (vars : List (Option HeldByStepper)) : Type 0 where
  pub layout_is : layout ≡ extent_of w.shape
  pub shape_is : shape ≡ w.shape
  pub thread_is : thread ≡ w.thread
  pub phases_is : phases ≡ w.phases
  pub program_is : program ≡ w.program
  pub classes_are : classes ≡ w.classes
  pub kinds : AreOfKinds w.kinds vars

-- the first lines of the notes, as many as there is room for
abbrev pub first_lines : ℕ → List Note → Kept
first_lines room now = record { lines = take room (told now); room = room }

-- how many references came, how many of these out of fields, and how many objects were made; and the lines that it keeps
pub record IsCounted (w : Work) (hands taken made : ℕ) (kept : Kept) (now : List Note) : Type 0 where
  pub hands_are : hands ≡ hands_of now
  pub taken_is : taken ≡ taken_out now
  pub made_is : made ≡ made_of now
  pub lines_are : kept ≡ first_lines w.room now

-- a line has the number of the operation that is under way
abbrev pub number_at : Work → ℕ → ℕ
number_at w i = if nat_lt i (length w.program) then ordinal w.program i else 0

abbrev pub IsNumberedIf : Bool → Work → ℕ → List Note → Type 0
IsNumberedIf true w i now = number_of now ≡ number_at w i
IsNumberedIf false w i now = ⊤

abbrev pub IsStep : Move → Type 0
IsStep (moves.Step step intent) = ⊤
IsStep _ = ⊥

-- it asks for a step exactly where something is under way
abbrev pub Asks : Doing → Move → Type 0
Asks Ready asked = asked ≡ moves.PhaseEnd
Asks Ended asked = asked ≡ moves.Ended
Asks _ asked = IsStep asked

-- the operation at this place is one of the phase, or where there is none, the phase is the last one
abbrev pub IsOfPhaseIf : Bool → Work → (phase index : ℕ) → Type 0
IsOfPhaseIf true w phase index = index < ops_in_first (phase + 1) w.phases
IsOfPhaseIf false w phase index = length w.phases ≤ phase + 1

abbrev pub IsOfPhase : Work → (phase index : ℕ) → Type 0
IsOfPhase w phase index = IsOfPhaseIf (nat_lt index (length w.program)) w phase index

-- What is under way is of the phase. Before a phase the operations of the earlier ones are done.
abbrev pub IsInPhase : Work → (phase index : ℕ) → Doing → Type 0
IsInPhase w phase index Ready = index ≡ ops_in_first phase w.phases
IsInPhase w phase index Ended = ⊤
IsInPhase w phase index _ = IsOfPhase w phase index

-- The stepper, at work on these operations, stands for the notes, under a chain of deinits that wait where an object dies.
pub record StandsFor (w : Work) (t : Thread) (fs : List Frame) (now : List Note) : Type 0 where
  pub works : WorksOn w t.layout t.shape t.thread t.phases t.program t.classes t.vars
  pub in_phase : IsInPhase w t.phase t.index t.doing
  pub counts : IsCounted w t.hands t.taken t.made t.kept now
  pub number : IsNumberedIf (is_busy t.doing) w t.index now
  pub asks : Asks t.doing t.asked
  pub up_to : StepperUpTo w t.index t.vars t.cleared fs t.asked now t.doing

-- the chain after a word: that of the cascade, where one is under way
abbrev pub chain_at : Option ℕ → List Frame → Doing → List Frame
chain_at last fs (Dying c) = chained c last fs
chain_at last fs _ = []

abbrev pub chain_after : Thread → Option ℕ → List Frame → List Frame
chain_after t last fs = chain_at last fs t.doing

-- What is read of the chain in a cascade is what the chain is.
abbrev pub FitsChainAt : List Frame → Option ℕ → Doing → Type 0
FitsChainAt fs last (Dying c) = ChainFits c fs last
FitsChainAt fs last _ = ⊤

abbrev pub FitsChain : Thread → List Frame → Option ℕ → Type 0
FitsChain t fs last = FitsChainAt fs last t.doing

-- What a stepper stands for once it is given a word: the notes that it stood for, with what this turn adds. The event that it
-- tells, or none, is what the events have more.
pub record StepperGoesOn (w : Work) (t : Thread) (fs : List Frame) (last : Option ℕ) (now : List Note) : Type 0 where
  pub after : List Note
  pub adds : Adds w.shape (extent_of w.shape) (step_in t.asked) last (turned t last).event (came_out t last) now after
  pub events : acts_of after ≡ with_event (turned t last).event (acts_of now)
  pub stands : StandsFor w (turned t last) (chain_after t last fs) after
