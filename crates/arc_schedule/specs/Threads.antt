-- Which steps a thread makes: those of its operations, phase by phase, and those of the end of its scope; and those of the end section.
use Rattle.std.specs.Prelude.{ℕ, ◌≡◌, ◌<◌, ◌+◌, ◌-◌, true, List, [], length, take, slice_get, replicate, Some, None}
use Rattle.arc_model.specs.Shapes.{HeapShape}
use Rattle.arc_script.specs.declared.script.Op.{Op}
use Rattle.arc_script.specs.declared.script.ThreadDecl.{ThreadDecl}
use Rattle.arc_script.specs.declared.script.Script.{Script}
use Rattle.arc_script.specs.OneList.{numbered}
use Rattle.arc_script.specs.Valid.{begins_block}
use Rattle.arc_schedule.specs.Made.{Point, Made}
use Rattle.arc_rule.specs.Places.{extent_of}
use Rattle.arc_cells.specs.declared.swap.SwapAnswer.TheVariants as swaps
use Rattle.arc_served.specs.Programs.{classes_in}
use Rattle.arc_model.specs.declared.event.CellName.TheVariants as cells
use Rattle.arc_schedule.specs.Plans.{Gives, swap}
use Rattle.arc_schedule.specs.Operations.{Variables, State, value, Drops, Does, goes_on, global_kind, taken, hands_with}

abbrev pub point_of : (thread phase operation : ℕ) → Point
point_of thread phase operation = record { thread = thread; phase = phase; operation = operation }

-- The first operations of a phase, on variables for these classes. At the beginning of a block no step is made, and what is passed over is done with it.
pub data OpsDone (shape : HeapShape) (classes : List ℕ) (thread phase : ℕ) (ops : List Op) (first : State) (b : List Made) : (done : ℕ) → State → List Made → Type 0 where
  none : OpsDone shape classes thread phase ops first b 0 first b
  one : {i : ℕ} {o : Op} {state new : State} {ns after : List Made} →
      OpsDone shape classes thread phase ops first b i state ns → slice_get ops i ≡ Some o → Does shape classes (point_of thread phase (numbered (take (i + 1) ops))) o state ns new after →
      OpsDone shape classes thread phase ops first b (i + 1) new after
  block : {i n : ℕ} {o : Op} {state : State} {ns : List Made} →
      OpsDone shape classes thread phase ops first b i state ns → slice_get ops i ≡ Some o → begins_block o ≡ true → n ≡ goes_on state.vars i o → i < n →
      OpsDone shape classes thread phase ops first b n state ns

-- the first phases of a thread, whose variables are nil at first
pub data PhasesDone (shape : HeapShape) (thread : ℕ) (decl : ThreadDecl) : (done : ℕ) → State → List Made → Type 0 where
  none : PhasesDone shape thread decl 0 (record { vars = replicate (length decl.vars) None; made = 0; hands = 0 }) []
  one : {k : ℕ} {ops : List Op} {state new : State} {ns after : List Made} →
      PhasesDone shape thread decl k state ns → slice_get decl.phases k ≡ Some ops → OpsDone shape (classes_in (Some decl)) thread k ops state ns (length ops) new after →
      PhasesDone shape thread decl (k + 1) new after

-- the first variables are dropped, in the order of declaration, and so many references came into the hands
pub data ScopeEnds (shape : HeapShape) (point : Point) (vars : Variables) (hands : ℕ) (b : List Made) : (done came : ℕ) → List Made → Type 0 where
  none : ScopeEnds shape point vars hands b 0 hands b
  one : {v came more : ℕ} {ns after : List Made} → ScopeEnds shape point vars hands b v came ns → Drops shape point [] (value vars v) came ns more after →
      ScopeEnds shape point vars hands b (v + 1) more after

-- all steps of the thread: the end of its scope belongs to its last phase
pub record IsThread (shape : HeapShape) (thread : ℕ) (decl : ThreadDecl) (own : List Made) : Type 0 where
  pub behind : State
  pub worked : List Made
  pub came : ℕ
  pub phases : PhasesDone shape thread decl (length decl.phases) behind worked
  pub scope : ScopeEnds shape (point_of thread (length decl.phases - 1) 0) behind.vars behind.hands worked (length behind.vars) came own

-- ---- the end section, behind all other threads

abbrev pub end_point : Point
end_point = point_of 0 0 0

-- Thread 0 clears the first globals, in the order of declaration, and drops what each had; so many references came into its hands.
pub data GlobalsCleared (shape : HeapShape) : (done hands : ℕ) → List Made → Type 0 where
  none : GlobalsCleared shape 0 0 []
  one : {g hands word came : ℕ} {ns mid after : List Made} → GlobalsCleared shape g hands ns → g < length shape.globals →
      Gives (swap (extent_of shape) (cells.Global g) 0 None (hands + 1)) end_point ns (swaps.Took word) mid →
      Drops shape end_point [] (taken (hands + 1) (global_kind shape g) word) (hands_with hands word) mid came after → GlobalsCleared shape (g + 1) came after

pub record IsEndSection (script : Script) (own : List Made) : Type 0 where
  pub hands : ℕ
  pub cleared : GlobalsCleared script.shape (length script.globals) hands own
