-- What a stepper stands for: the steps made so far are those of its thread's operations up to where it is.
use Rattle.std.proofs.Common.{◌≡◌, ℕ, ◌+◌, ◌<◌, ◌≤◌, Bool, true, false, cond, ltb, List, [], length, map, set, Option, Some, None}
use Rattle.std.specs.Prelude.{slice_get, take, All, ⊤}
use Rattle.arc_model.specs.declared.event.ObjectName.{ObjectName}
use Rattle.arc_model.specs.declared.event.Origin.{Origin}
use Rattle.arc_model.specs.declared.event.Origin.TheVariants as origins
use Rattle.arc_model.specs.declared.event.CellName.{CellName}
use Rattle.arc_model.specs.declared.event.CellName.TheVariants as cells
use Rattle.arc_model.specs.declared.shape.Kind.{Kind}
use Rattle.arc_model.specs.Shapes.{HeapShape, class_at}
use Rattle.arc_model.specs.Ranges.{FieldsFit}
use Rattle.arc_rule.specs.Extents.{Extent}
use Rattle.arc_rule.specs.declared.step.Step.{Step}
use Rattle.arc_plan.specs.declared.slots.Making.{Making as Search}
use Rattle.arc_plan.specs.declared.slots.Making.TheVariants as search
use Rattle.arc_side.specs.declared.up.UpAnswer.{UpAnswer}
use Rattle.arc_side.specs.Ups.{Rise}
use Rattle.arc_cells.specs.declared.begin.BeginAnswer.TheVariants as begins
use Rattle.arc_cells.specs.declared.swap.SwapAnswer.{SwapAnswer}
use Rattle.arc_cells.specs.Begins.{Beginning}
use Rattle.arc_cells.specs.Ends.{AccessEnd}
use Rattle.arc_cells.specs.Swaps.{SwapAttempt}
use Rattle.arc_plan.specs.Slots.{Creation, OneStep}
use Rattle.arc_script.specs.declared.script.ThreadDecl.{ThreadDecl}
use Rattle.arc_script.specs.declared.script.Op.{Op}
use Rattle.arc_script.specs.declared.script.Op.TheVariants as op
use Rattle.arc_script.specs.Valid.{begins_block}
use Rattle.arc_script.specs.OneList.{in_one_list, numbered}
use Rattle.arc_ops.specs.declared.stepper.Held.{Held}
use Rattle.arc_ops.specs.declared.stepper.Doing.{Doing}
use Rattle.arc_ops.specs.declared.cell.Cell.{Cell}
use Rattle.arc_ops.specs.declared.stepper.Doing.TheVariants.{Ready, Making, Gaining, Naming, Opening, Closing, Setting, Clearing, Dropping, Dying, Vacating, Ended}
use Rattle.arc_ops.specs.declared.stepper.Move.{Move}
use Rattle.arc_ops.specs.declared.stepper.Move.TheVariants as moves
use Rattle.arc_ops.specs.declared.gain.Gain.{Gain}
use Rattle.arc_ops.specs.declared.gain.Gain.TheVariants as gains
use Rattle.arc_ops.specs.Plans.{op_of, of_hand, list_of}
use Rattle.arc_served.specs.Programs.{GoesForth, KindsFit, CellFits, ops_in_first, kinds_in, kind_of, classes_in}
use Rattle.arc_ops.specs.Thread.{Thread, value}
use Rattle.arc_ops.specs.Steppers.{IsHeld, HeldFits, IsOpeningIn, IsSwappingIn}
use Rattle.arc_spelled.specs.StepperStands.{AreOfKinds}
use Rattle.arc_schedule.specs.Made.{Point, Made}
use Rattle.arc_schedule.specs.Plans.{Plan, Rises, Gives, new_object, up, name_of, begin_access, end_access, swap}
use Rattle.arc_schedule.specs.Operations.{State, Variables, next_name, copy_acts, unown_acts, load_acts, get_acts, IsCell, word_of, hand_of, Drops}
use Rattle.arc_schedule.specs.Operations as operations
use Rattle.arc_schedule.specs.Threads.{point_of, end_point, OpsDone, PhasesDone, ScopeEnds, GlobalsCleared}
use Rattle.arc_schedule.proofs.Newest.{IsHere, Newest, Passed}
use Rattle.arc_cells.specs.Chains.{Frame}
use Rattle.arc_rule.specs.Places.{IsPlace, extent_of}
use Rattle.arc_script.specs.declared.script.OpCell.{OpCell}
use Rattle.arc_served.specs.Served.{IsServedOp, IsServedRef, IsServedClass}
use Rattle.arc_ops.specs.Cells.{place_in}
use Rattle.arc_schedule.proofs.Given.{Waits}
use Rattle.arc_schedule.proofs.Deinits.{ref, IsDropping, IsEnding, IsDying}

-- ---- a thread in one of its phases

pub record Task : Type 0 where
  pub shape : HeapShape
  pub thread : ℕ
  pub decl : ThreadDecl
  pub some_slot : 0 < shape.slots
  pub other : 1 ≤ thread

-- a phase of the thread, whose steps stand behind those of the phases before
pub record Job (k : Task) : Type 0 where
  pub phase : ℕ
  pub ops : List Op
  pub there : slice_get k.decl.phases phase ≡ Some ops
  pub first : State
  pub base : List Made
  pub before : PhasesDone k.shape k.thread k.decl phase first base

-- the kinds and the classes of its variables
abbrev pub kinds_here : Task → List Kind
kinds_here k = kinds_in (Some k.decl)

abbrev pub classes_here : Task → List ℕ
classes_here k = classes_in (Some k.decl)

-- the operations of a phase are served, on variables of their kinds and cells that are there, and its blocks go forth within it; and so are globals
-- and classes, of a few fields each
pub record AreServed (shape : HeapShape) (classes : List ℕ) (kinds : List Kind) (ops : List Op) : Type 0 where
  pub served : All IsServedOp ops
  pub kinds_fit : (i : ℕ) (o : Op) → slice_get ops i ≡ Some o → KindsFit shape classes kinds o
  pub cells_fit : (i : ℕ) (o : Op) → slice_get ops i ≡ Some o → CellFits shape classes o
  pub globals : All IsServedRef shape.globals
  pub classes_served : All IsServedClass shape.classes
  pub few_fields : FieldsFit shape.classes
  pub forth : (i : ℕ) (o : Op) → slice_get ops i ≡ Some o → GoesForth i (length ops) o

-- how many operations stand before it
abbrev pub start_of : (k : Task) → Job k → ℕ
start_of k j = ops_in_first j.phase k.decl.phases

abbrev pub refs : List (Option Held) → Variables
refs vars = map ref vars

abbrev pub state_of : List (Option Held) → (made hands : ℕ) → State
state_of vars made hands = record { vars = refs vars; made = made; hands = hands }

abbrev pub AreDone : (k : Task) → Job k → ℕ → State → List Made → Type 0
AreDone k j i s now = OpsDone k.shape (classes_here k) k.thread j.phase j.ops j.first j.base i s now

abbrev pub here : (k : Task) → Job k → ℕ → Point
here k j i = point_of k.thread j.phase (cond (ltb i (length j.ops)) (numbered (take (i + 1) j.ops)) 0)

-- all operations are done, and the first variables are dropped
pub record IsInScope (k : Task) (j : Job k) (vars : List (Option Held)) (hands : ℕ) (now : List Made) : Type 0 where
  pub last : j.phase + 1 ≡ length k.decl.phases
  pub behind : State
  pub worked : List Made
  pub ops : AreDone k j (length j.ops) behind worked
  pub count : length behind.vars ≡ length vars
  pub below : ℕ
  pub within : below ≤ length vars
  pub ends : ScopeEnds k.shape (point_of k.thread j.phase 0) behind.vars behind.hands worked below hands now
  pub rest : (v : ℕ) → below ≤ v → operations.value behind.vars v ≡ ref (value vars v)
  pub nils : (v : ℕ) → v < below → value vars v ≡ None

abbrev pub IsOverIf : Bool → (k : Task) → Job k → ℕ → List (Option Held) → (made hands : ℕ) → List Made → Type 0
IsOverIf true k j i vars made hands now = AreDone k j (i + 1) (state_of vars made hands) now
IsOverIf false k j i vars made hands now = IsInScope k j vars hands now

abbrev pub IsOver : (k : Task) → Job k → ℕ → List (Option Held) → (made hands : ℕ) → List Made → Type 0
IsOver k j i vars made hands now = IsOverIf (ltb i (length j.ops)) k j i vars made hands now

-- so many objects were made, and so many references came into hands, before the one that is being made, in a slot of the heap
abbrev pub MadeUpTo : (slots before held made hands : ℕ) → Search → Type 0
MadeUpTo slots before held made hands (search.Looking word) = (made ≡ before) × (hands ≡ held)
MadeUpTo slots before held made hands (search.Taking s seen) = (made ≡ before) × (hands ≡ held) × (s < slots)
MadeUpTo slots before held made hands (search.Counting s) = (made ≡ before + 1) × (hands ≡ held + 1) × (s < slots)
MadeUpTo slots before held made hands (search.Naming s) = (made ≡ before + 1) × (hands ≡ held + 1) × (s < slots)
MadeUpTo slots before held made hands _ = ⊥

pub record IsMaking (k : Task) (j : Job k) (i to : ℕ) (name : ObjectName) (plan : Creation) (vars : List (Option Held)) (made hands : ℕ) (asked : Option Step) (now : List Made) : Type 0 where
  pub base : List Made
  pub before : ℕ
  pub held : ℕ
  pub done : AreDone k j i (state_of vars before held) base
  pub there : slice_get j.ops i ≡ Some (op.New to name.class)
  pub named : name ≡ next_name (here k j i) (state_of vars before held) name.class
  pub waits : Waits (new_object (extent_of k.shape) (class_at k.shape name.class).immortal name (held + 1)) (here k j i) base now plan asked
  pub count : MadeUpTo k.shape.slots before held made hands plan.at

-- which events a gain has
abbrev pub rises_of : Gain → (hand next : ℕ) → Rises
rises_of gains.Copy hand next = copy_acts hand next
rises_of gains.Unown hand next = unown_acts hand next
rises_of gains.Load hand next = load_acts hand next

-- the plan of a gain, whose reference comes into the next hand
abbrev pub gain_plan : Task → Gain → Held → (hands : ℕ) → Plan Rise UpAnswer
gain_plan k gain held hands = up (extent_of k.shape) k.shape.caps (list_of gain (of_hand held)) held.place (rises_of gain held.hand (hands + 1))

pub record IsGaining (k : Task) (j : Job k) (i : ℕ) (gain : Gain) (to : ℕ) (held : Held) (plan : Rise) (vars : List (Option Held)) (made hands : ℕ) (asked : Option Step) (now : List Made) : Type 0 where
  pub base : List Made
  pub from : ℕ
  pub done : AreDone k j i (state_of vars made hands) base
  pub there : slice_get j.ops i ≡ Some (op_of gain to from)
  pub source : value vars from ≡ Some held
  pub waits : Waits (gain_plan k gain held hands) (here k j i) base now plan asked
  pub inside : IsHeld k.shape.slots held
  pub bare : plan.entry ≡ None

-- the plan of a copy of the reference in a cell
abbrev pub get_plan : Task → CellName → Kind → (place hands : ℕ) → Plan Rise UpAnswer
get_plan k cell kind place hands = up (extent_of k.shape) k.shape.caps kind place (get_acts cell (hands + 1))

-- the cell that an operation of the task names
abbrev pub IsCellOf : Task → List (Option Held) → OpCell → CellName → Kind → Type 0
IsCellOf k vars c cell kind = IsCell k.shape (classes_here k) (refs vars) c cell kind

-- a copy of a cell's reference during an access
pub record IsGetting (k : Task) (j : Job k) (i : ℕ) (gain : Gain) (to : ℕ) (cell : CellName) (kind : Kind) (place : ℕ) (plan : Rise) (vars : List (Option Held)) (made hands : ℕ) (asked : Option Step) (now : List Made) : Type 0 where
  pub is_copy : gain ≡ gains.Copy
  pub of : OpCell
  pub cell_is : IsCellOf k vars of cell kind
  pub base : List Made
  pub begun : List Made
  pub done : AreDone k j i (state_of vars made hands) base
  pub there : slice_get j.ops i ≡ Some (op.Get to of)
  pub began : Gives (begin_access (extent_of k.shape) cell) (here k j i) base (begins.Held (place + 2)) begun
  pub waits : Waits (get_plan k cell kind place hands) (here k j i) begun now plan asked
  pub place_in : place < k.shape.slots
  pub bare : plan.entry ≡ None
  pub newest : IsHere (here k j i) now

abbrev pub IsGainingFrom : (k : Task) → Job k → ℕ → Gain → ℕ → Origin → Kind → ℕ → Rise → List (Option Held) → (made hands : ℕ) → Option Step → List Made → Type 0
IsGainingFrom k j i gain to (origins.Hand hand) kind place plan vars made hands asked now = IsGaining k j i gain to (record { hand = hand; kind = kind; place = place }) plan vars made hands asked now
IsGainingFrom k j i gain to (origins.Cell cell) kind place plan vars made hands asked now = IsGetting k j i gain to cell kind place plan vars made hands asked now

-- an access to a cell is to begin
pub record IsOpening (k : Task) (j : Job k) (i to : ℕ) (cell : Cell) (plan : Beginning) (vars : List (Option Held)) (made hands : ℕ) (asked : Option Step) (now : List Made) : Type 0 where
  pub of : OpCell
  pub cell_is : IsCellOf k vars of cell.name cell.kind
  pub base : List Made
  pub done : AreDone k j i (state_of vars made hands) base
  pub there : slice_get j.ops i ≡ Some (op.Get to of)
  pub waits : Waits (begin_access (extent_of k.shape) cell.name) (here k j i) base now plan asked
  pub word : IsOpeningIn k.shape.slots plan.at

-- the access ends, and then what the variable held is dropped
pub record IsClosing (k : Task) (j : Job k) (i to : ℕ) (cell : CellName) (held : Held) (plan : AccessEnd) (vars : List (Option Held)) (made hands : ℕ) (asked : Option Step) (now : List Made) : Type 0 where
  pub there : IsPlace (extent_of k.shape) (place_in cell)
  pub base : List Made
  pub ends : (came : ℕ) (ended after : List Made) → Gives (end_access (extent_of k.shape) cell (held.place + 2)) (here k j i) base tt ended →
      Drops k.shape (here k j i) [] (operations.value (refs vars) to) hands ended came after → AreDone k j (i + 1) (state_of (set vars to (Some held)) made came) after
  pub waits : Waits (end_access (extent_of k.shape) cell (held.place + 2)) (here k j i) base now plan asked
  pub inside : IsHeld k.shape.slots held
  pub kind : held.kind ≡ kind_of (kinds_here k) to
  pub within : i < length j.ops
  pub newest : IsHere (here k j i) now

-- the plan of a variable's reference, or nil, that comes into a cell
abbrev pub set_plan : Task → CellName → Option Held → (hands : ℕ) → Plan SwapAttempt SwapAnswer
set_plan k cell put hands = swap (extent_of k.shape) cell (word_of (ref put)) (hand_of (ref put)) (hands + 1)

pub record IsSetting (k : Task) (j : Job k) (i from : ℕ) (cell : Cell) (plan : SwapAttempt) (vars : List (Option Held)) (made hands : ℕ) (asked : Option Step) (now : List Made) : Type 0 where
  pub of : OpCell
  pub cell_is : IsCellOf k vars of cell.name cell.kind
  pub base : List Made
  pub done : AreDone k j i (state_of vars made hands) base
  pub there : slice_get j.ops i ≡ Some (op.Set of from)
  pub waits : Waits (set_plan k cell.name (value vars from) hands) (here k j i) base now plan asked
  pub word : IsSwappingIn k.shape.slots plan.at

-- the name of the object is read, and then what the variable held is dropped
pub record IsNaming (k : Task) (j : Job k) (i to : ℕ) (held : Held) (plan : OneStep) (vars : List (Option Held)) (made hands : ℕ) (asked : Option Step) (now : List Made) : Type 0 where
  pub base : List Made
  pub ends : (name : ObjectName) (came : ℕ) (named after : List Made) → Gives (name_of (extent_of k.shape) held.place) (here k j i) base name named →
      Drops k.shape (here k j i) [] (operations.value (refs vars) to) hands named came after → AreDone k j (i + 1) (state_of (set vars to (Some held)) made came) after
  pub waits : Waits (name_of (extent_of k.shape) held.place) (here k j i) base now plan asked
  pub inside : IsHeld k.shape.slots held
  pub kind : held.kind ≡ kind_of (kinds_here k) to
  pub within : i < length j.ops

-- ---- the stepper

pub record IsWhole (k : Task) (now : List Made) : Type 0 where
  pub job : Job k
  pub last : job.phase + 1 ≡ length k.decl.phases
  pub behind : State
  pub worked : List Made
  pub ops : AreDone k job (length job.ops) behind worked
  pub came : ℕ
  pub scope : ScopeEnds k.shape (point_of k.thread job.phase 0) behind.vars behind.hands worked (length behind.vars) came now

abbrev pub step_in : Move → Option Step
step_in (moves.Step step intent) = Some step
step_in _ = None

abbrev pub UpTo : (k : Task) → List Frame → Job k → ℕ → List (Option Held) → (made hands : ℕ) → Move → List Made → Doing → Type 0
UpTo k chain j i vars made hands asked now Ready = (asked ≡ moves.PhaseEnd) × AreDone k j i (state_of vars made hands) now
UpTo k chain j i vars made hands asked now (Making to name plan) = IsMaking k j i to name plan vars made hands (step_in asked) now
UpTo k chain j i vars made hands asked now (Gaining gain to from plan) = IsGainingFrom k j i gain to from.origin from.kind from.place plan vars made hands (step_in asked) now
UpTo k chain j i vars made hands asked now (Naming to held plan) = IsNaming k j i to held plan vars made hands (step_in asked) now
UpTo k chain j i vars made hands asked now (Opening to cell plan) = IsOpening k j i to cell plan vars made hands (step_in asked) now
UpTo k chain j i vars made hands asked now (Closing to cell held plan) = IsClosing k j i to cell held plan vars made hands (step_in asked) now
UpTo k chain j i vars made hands asked now (Setting from cell plan) = IsSetting k j i from cell plan vars made hands (step_in asked) now
UpTo k chain j i vars made hands asked now (Clearing plan) = ⊥
UpTo k chain j i vars made hands asked now (Dropping held plan) = IsDropping k.shape (here k j i) (IsOver k j i vars made) held plan hands (step_in asked) now
UpTo k chain j i vars made hands asked now (Dying c) = IsDying k.shape (here k j i) (IsOver k j i vars made) chain c hands (step_in asked) now
UpTo k chain j i vars made hands asked now (Vacating slot plan) = IsEnding k.shape (here k j i) (IsOver k j i vars made) slot plan hands (step_in asked) now
UpTo k chain j i vars made hands asked now Ended = (asked ≡ moves.Ended) × IsWhole k now

-- the stepper is the thread's, at operation i of the phase, which is the last of so many that have begun
pub record Works (k : Task) (j : Job k) (i n : ℕ) (layout : Extent) (shape : HeapShape) (thread : ℕ) (phases : List (List Op)) (program : List Op) (classes : List ℕ) (phase index : ℕ) : Type 0 where
  pub layout_is : layout ≡ extent_of k.shape
  pub shape_is : shape ≡ k.shape
  pub thread_is : thread ≡ k.thread
  pub phases_is : phases ≡ k.decl.phases
  pub program_is : program ≡ in_one_list 0 k.decl.phases
  pub classes_are : classes ≡ classes_here k
  pub phase_is : phase ≡ j.phase
  pub index_is : index ≡ start_of k j + i
  pub begun_is : j.phase + 1 ≡ n

abbrev pub WorksAt : (k : Task) → Job k → (i n : ℕ) → Thread → Type 0
WorksAt k j i n t = Works k j i n t.layout t.shape t.thread t.phases t.program t.classes t.phase t.index

-- the operation that is under way has a number, and the scope ends in the last phase
pub record IsAt (k : Task) (j : Job k) (i : ℕ) : Type 0 where
  pub numbered : i < length j.ops → (o : Op) × (slice_get j.ops i ≡ Some o) × (begins_block o ≡ false)
  pub scope : length j.ops ≤ i → j.phase + 1 ≡ length k.decl.phases

-- what the variables hold is served, lies in the heap, and is of their kinds
pub record AreIn (k : Task) (vars : List (Option Held)) : Type 0 where
  pub held : All (HeldFits k.shape.slots) vars
  pub kinds : AreOfKinds (kinds_here k) vars

-- a thread that waits for its next phase is in one that hasn't begun yet
abbrev pub IsIn : (begun phases : ℕ) → Doing → Type 0
IsIn begun phases Ready = phases ≡ begun + 1
IsIn begun phases Ended = ⊤
IsIn begun phases _ = phases ≡ begun

-- where the newest step stands: between phases before the next operation, and else with the operation that is under way
abbrev pub IsPlaced : (k : Task) → Job k → ℕ → (first : Bool) → List Made → Doing → Type 0
IsPlaced k j i first now Ready = Passed j.phase j.ops i now
IsPlaced k j i first now Ended = ⊤
IsPlaced k j i first now _ = IsAt k j i × Newest (here k j i) first now

-- where so many phases have begun, under a chain of deinits that wait where an object dies
pub record Stands (k : Task) (begun : ℕ) (chain : List Frame) (t : Thread) (now : List Made) : Type 0 where
  pub job : Job k
  pub at : ℕ
  pub phases : ℕ
  pub phased : IsIn begun phases t.doing
  pub works : WorksAt k job at phases t
  pub vars_in : AreIn k t.vars
  pub placed : IsPlaced k job at t.first now t.doing
  pub up_to : UpTo k chain job at t.vars t.made t.hands t.asked now t.doing

-- it stands in the phase that has begun last
pub under-way : {n : ℕ} {chain : List Frame} {t : Thread} {now : List Made} (k : Task) (j : Job k) (i : ℕ) → IsIn n n t.doing → WorksAt k j i n t → AreIn k t.vars → IsPlaced k j i t.first now t.doing →
    UpTo k chain j i t.vars t.made t.hands t.asked now t.doing → Stands k n chain t now
under-way {n = n} k j i phased works vars placed up_to = record { job = j; at = i; phases = n; phased = phased; works = works; vars_in = vars; placed = placed; up_to = up_to }

-- ---- thread 0

pub record IsClearing (shape : HeapShape) (cleared hands : ℕ) (plan : SwapAttempt) (asked : Option Step) (now : List Made) : Type 0 where
  pub base : List Made
  pub so_far : GlobalsCleared shape cleared hands base
  pub there : cleared < length shape.globals
  pub waits : Waits (swap (extent_of shape) (cells.Global cleared) 0 None (hands + 1)) end_point base now plan asked
  pub word : IsSwappingIn shape.slots plan.at

abbrev pub FirstUpTo : HeapShape → List Frame → (cleared hands : ℕ) → Move → List Made → Doing → Type 0
FirstUpTo shape chain cleared hands asked now Ready = (asked ≡ moves.PhaseEnd) × (now ≡ []) × GlobalsCleared shape cleared hands now
FirstUpTo shape chain cleared hands asked now (Clearing plan) = IsClearing shape cleared hands plan (step_in asked) now
FirstUpTo shape chain cleared hands asked now (Dropping held plan) = IsDropping shape end_point (GlobalsCleared shape cleared) held plan hands (step_in asked) now
FirstUpTo shape chain cleared hands asked now (Dying c) = IsDying shape end_point (GlobalsCleared shape cleared) chain c hands (step_in asked) now
FirstUpTo shape chain cleared hands asked now (Vacating slot plan) = IsEnding shape end_point (GlobalsCleared shape cleared) slot plan hands (step_in asked) now
FirstUpTo shape chain cleared hands asked now Ended = (asked ≡ moves.Ended) × (length shape.globals ≤ cleared) × GlobalsCleared shape cleared hands now
FirstUpTo shape chain cleared hands asked now _ = ⊥

-- the stepper is thread 0's in this heap, and has neither phases nor variables
pub record WorksFirst (heap : HeapShape) (layout : Extent) (shape : HeapShape) (thread : ℕ) (phases : List (List Op)) (program : List Op) (vars : List (Option Held)) : Type 0 where
  pub layout_is : layout ≡ extent_of heap
  pub shape_is : shape ≡ heap
  pub thread_is : thread ≡ 0
  pub phases_is : phases ≡ []
  pub program_is : program ≡ []
  pub vars_is : vars ≡ []

abbrev pub IsThreadZero : HeapShape → Thread → Type 0
IsThreadZero shape t = WorksFirst shape t.layout t.shape t.thread t.phases t.program t.vars

pub record StandsFirst (shape : HeapShape) (chain : List Frame) (t : Thread) (now : List Made) : Type 0 where
  pub works : IsThreadZero shape t
  pub up_to : FirstUpTo shape chain t.cleared t.hands t.asked now t.doing
