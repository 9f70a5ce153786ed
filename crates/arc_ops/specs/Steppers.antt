-- What holds of each stepper.
use Rattle.std.specs.Prelude.{ℕ, ◌≡◌, ◌≢◌, ◌<◌, ◌≤◌, ◌+◌, ◌-◌, ◌^◌, length, All, Option, Some, None, ⊤}
use Rattle.arc_model.specs.Shapes.{HeapShape}
use Rattle.arc_model.specs.declared.event.ObjectName.{ObjectName}
use Rattle.arc_model.specs.declared.event.Origin.{Origin}
use Rattle.arc_model.specs.declared.event.Origin.TheVariants as origins
use Rattle.arc_rule.specs.Extents.{Extent}
use Rattle.arc_rule.specs.Isa.{IsName}
use Rattle.arc_rule.specs.Places.{IsPlace, extent_of}
use Rattle.arc_rule.specs.declared.attempt.At.{At}
use Rattle.arc_rule.specs.declared.attempt.At.TheVariants as attempt
use Rattle.arc_cells.specs.declared.begin.BeginAnswer.{BeginAnswer}
use Rattle.arc_cells.specs.declared.begin.BeginAnswer.TheVariants as begins
use Rattle.arc_cells.specs.declared.swap.SwapAnswer.{SwapAnswer}
use Rattle.arc_cells.specs.declared.swap.SwapAnswer.TheVariants as swaps
use Rattle.arc_rule.specs.declared.plan.Next.{Next}
use Rattle.arc_rule.specs.declared.plan.Next.TheVariants as nexts
use Rattle.arc_plan.specs.declared.slots.Making.{Making as Search}
use Rattle.arc_plan.specs.declared.slots.Making.TheVariants as search
use Rattle.arc_plan.specs.declared.slots.NewObjectAnswer.{NewObjectAnswer}
use Rattle.arc_plan.specs.declared.slots.NewObjectAnswer.TheVariants.{Slot, NoSlot, Again}
use Rattle.arc_plan.specs.Slots.{InSlots}
use Rattle.arc_side.specs.Inline.{IsCountedInline}
use Rattle.arc_script.specs.OneList.{in_one_list}
use Rattle.arc_ops.specs.Cells.{IsCellWord, place_in}
use Rattle.arc_served.specs.Programs.{VarsFit, ClassFits, CellFits, BlocksFit}
use Rattle.arc_served.specs.Served.{IsServedRef, IsServedClass}
use Rattle.arc_ops.specs.Thread.{Thread}
use Rattle.arc_ops.specs.declared.cell.Cell.{Cell}
use Rattle.arc_ops.specs.declared.gain.Source.{Source}
use Rattle.arc_ops.specs.declared.stepper.Held.{Held}
use Rattle.arc_ops.specs.declared.stepper.Doing.{Doing}
use Rattle.arc_ops.specs.declared.stepper.Doing.TheVariants.{Ready, Making, Gaining, Naming, Opening, Closing, Setting, Clearing, Dropping, Dying}

-- a reference that is served, to a slot of the heap
pub record IsHeld (slots : ℕ) (held : Held) : Type 0 where
  pub place : held.place < slots
  pub kind : IsCountedInline held.kind

abbrev pub HeldFits : ℕ → Option Held → Type 0
HeldFits slots None = ⊤
HeldFits slots (Some held) = IsHeld slots held

-- a cell that is copied is one of the heap
abbrev pub IsReached : Extent → Origin → Type 0
IsReached layout (origins.Hand hand) = ⊤
IsReached layout (origins.Cell cell) = IsPlace layout (place_in cell)

-- what a gain takes from: a reference that is served
pub record IsSource (layout : Extent) (from : Source) : Type 0 where
  pub place : from.place < layout.slots
  pub kind : IsCountedInline from.kind
  pub reached : IsReached layout from.origin

-- a cell of the heap, of references that are served
pub record IsCell (layout : Extent) (cell : Cell) : Type 0 where
  pub place : IsPlace layout (place_in cell.name)
  pub kind : IsCountedInline cell.kind

-- the access begins where the cell has a reference
abbrev pub IsOpeningIn : (slots : ℕ) → At → Type 0
IsOpeningIn slots (attempt.Exchanging seen new) = (2 ≤ seen) × IsCellWord slots seen
IsOpeningIn slots _ = ⊤

-- what is exchanged for another word isn't that of an access
abbrev pub IsSwappingIn : (slots : ℕ) → At → Type 0
IsSwappingIn slots (attempt.Exchanging seen new) = (seen ≢ 1) × IsCellWord slots seen
IsSwappingIn slots _ = ⊤

-- the same of what comes then: an exchange, or its answer
abbrev pub OpeningGoesOn : (slots : ℕ) → At → Next BeginAnswer → Type 0
OpeningGoesOn slots at (nexts.Step step) = IsOpeningIn slots at
OpeningGoesOn slots at (nexts.Done (begins.Held w)) = (2 ≤ w) × IsCellWord slots w
OpeningGoesOn slots at (nexts.Done _) = ⊤

abbrev pub SwappingGoesOn : (slots : ℕ) → At → Next SwapAnswer → Type 0
SwappingGoesOn slots at (nexts.Step step) = IsSwappingIn slots at
SwappingGoesOn slots at (nexts.Done (swaps.Took w)) = (w ≢ 1) × IsCellWord slots w
SwappingGoesOn slots at (nexts.Done _) = ⊤

-- it has asked for a step of the making, on a word or a slot of the heap
abbrev pub IsMakingIn : Extent → Search → Type 0
IsMakingIn l search.Start = ⊥
IsMakingIn l search.Ended = ⊥
IsMakingIn l at = InSlots l at

abbrev pub IsUnderWay : Extent → HeapShape → ℕ → Doing → Type 0
IsUnderWay layout shape vars (Making to name plan) = (to < vars) × (plan.layout ≡ layout) × IsName name × IsMakingIn layout plan.at
IsUnderWay layout shape vars (Gaining gain to from plan) = (to < vars) × IsSource layout from
IsUnderWay layout shape vars (Naming to held plan) = (to < vars) × IsHeld layout.slots held
IsUnderWay layout shape vars (Opening to cell plan) = (to < vars) × IsCell layout cell × IsOpeningIn layout.slots plan.at
IsUnderWay layout shape vars (Closing to cell held plan) = (to < vars) × IsHeld layout.slots held
IsUnderWay layout shape vars (Setting from cell plan) = (from < vars) × IsCell layout cell × IsSwappingIn layout.slots plan.at
IsUnderWay layout shape vars (Clearing plan) = IsSwappingIn layout.slots plan.at
IsUnderWay layout shape vars (Dropping held plan) = IsHeld layout.slots held
IsUnderWay layout shape vars (Dying c) = (c.layout ≡ layout) × (c.shape ≡ shape)
IsUnderWay layout shape vars _ = ⊤

-- what came into its hands and what it made is of the operations before, of the globals that were cleared, and of the fields that it took
-- out of: an operation and a global bring one reference at most, and an operation makes one object at most
abbrev pub FewBefore : Thread → Type 0
FewBefore t = (t.hands ≤ t.index + t.cleared + t.taken) × (t.made ≤ t.index)

-- the object isn't made yet
abbrev pub MadeBefore : Thread → Search → Type 0
MadeBefore t (search.Looking word) = FewBefore t
MadeBefore t (search.Taking slot seen) = FewBefore t
MadeBefore t _ = ⊤

-- where the plan is then: it looks on, takes a slot, has just taken it, or stores the name
abbrev pub StepGoesOn : Thread → Search → Type 0
StepGoesOn t (search.Counting slot) = IsMakingIn t.layout (search.Counting slot) × FewBefore t
StepGoesOn t at = IsMakingIn t.layout at × MadeBefore t at

abbrev pub MakingGoesOn : Thread → ObjectName → Search → Next NewObjectAnswer → Type 0
MakingGoesOn t name at (nexts.Step step) = IsName name × StepGoesOn t at
MakingGoesOn t name at (nexts.Done (Slot place)) = place < t.layout.slots
MakingGoesOn t name at (nexts.Done NoSlot) = ⊤
MakingGoesOn t name at (nexts.Done (Again changed)) = IsName name × FewBefore t

-- an operation of the program is under way, not a drop at the end of the scope
abbrev pub IsInOperation : Thread → Doing → Type 0
IsInOperation t Ready = t.index < length t.program → FewBefore t
IsInOperation t (Making to name plan) = (t.index < length t.program) × MadeBefore t plan.at
IsInOperation t (Gaining gain to from plan) = (t.index < length t.program) × FewBefore t
IsInOperation t (Naming to held plan) = t.index < length t.program
IsInOperation t (Opening to cell plan) = (t.index < length t.program) × FewBefore t
IsInOperation t (Closing to cell held plan) = t.index < length t.program
IsInOperation t (Setting from cell plan) = (t.index < length t.program) × FewBefore t
IsInOperation t (Clearing plan) = t.cleared < t.layout.globals
IsInOperation t _ = ⊤

pub record IsStepper (t : Thread) : Type 0 where
  pub layout : t.layout ≡ extent_of t.shape
  pub slots : t.layout.slots ≤ 4096
  pub globals : t.layout.globals ≤ 64
  pub classes : All IsServedClass t.shape.classes
  pub global_kinds : All IsServedRef t.shape.globals
  pub strong_cap : t.shape.caps.strong ≤ 1073741823
  pub thread : t.thread ≤ 64
  pub vars_are : length t.classes ≡ length t.vars
  pub vars_fit : All (VarsFit (length t.vars)) t.program
  pub classes_fit : All (ClassFits (length t.shape.classes)) t.program
  pub cells_fit : All (CellFits t.shape t.classes) t.program
  pub whole : t.program ≡ in_one_list 0 t.phases
  pub blocks : BlocksFit t.program t.phases
  pub few : length t.program ≤ 100000
  pub held : All (HeldFits t.layout.slots) t.vars
  -- one of its phases, and 0 where it has none
  pub phase : t.phase ≤ length t.phases - 1
  pub index : t.index ≤ length t.program
  -- no more than there are
  pub cleared : t.cleared ≤ t.layout.globals
  -- one more at most than there are hands for
  pub taken : t.taken ≤ 2 ^ 31
  -- each operation before brings a reference and makes an object at most, and so does the one that is under way; each global brings a
  -- reference, and so does each field that it took out of
  pub hands : t.hands ≤ t.index + t.cleared + t.taken + 1
  pub made : t.made ≤ t.index + 1
  pub under_way : IsUnderWay t.layout t.shape (length t.vars) t.doing
  pub in_operation : IsInOperation t t.doing
