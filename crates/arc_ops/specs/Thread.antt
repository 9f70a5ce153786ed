-- A thread's stepper, as contracts see it.
use Rattle.std.specs.Prelude.{ℕ, Bool, true, false, ◌&&◌, not, nat_lt, if◌then◌else◌, List, [], length, slice_index_or, slice_set, replicate, Option, Some, None}
use Rattle.arc_model.specs.Shapes.{HeapShape}
use Rattle.arc_model.specs.declared.event.Act.{Act}
use Rattle.arc_model.specs.declared.answer.Answer.{Answer}
use Rattle.arc_model.specs.declared.event.Origin.{Origin}
use Rattle.arc_model.specs.declared.event.Origin.TheVariants as origins
use Rattle.arc_rule.specs.Extents.{Extent}
use Rattle.arc_rule.specs.Places.{extent_of}
use Rattle.arc_rule.specs.declared.step.Step.{Step}
use Rattle.arc_rule.specs.declared.step.Intent.{Intent}
use Rattle.arc_script.specs.declared.script.Op.{Op}
use Rattle.arc_script.specs.declared.script.Script.{Script}
use Rattle.arc_served.specs.Kept.{Kept, with_line}
use Rattle.arc_served.specs.Programs.{ordinal, phases_of, program_of, vars_of, classes_of, room_in}
use Rattle.arc_ops.specs.declared.stepper.Held.{Held}
use Rattle.arc_ops.specs.declared.stepper.Doing.{Doing}
use Rattle.arc_ops.specs.declared.stepper.Doing.TheVariants.{Ready, Gaining, Closing, Ended}
use Rattle.arc_ops.specs.declared.stepper.Move.{Move}
use Rattle.arc_ops.specs.declared.stepper.Move.TheVariants as moves

pub record Thread : Type 0 where
  pub layout : Extent
  pub shape : HeapShape
  -- its number
  pub thread : ℕ
  -- the operations of each phase, and all of them, phase by phase
  pub phases : List (List Op)
  pub program : List Op
  pub vars : List (Option Held)
  -- the class that each variable is for
  pub classes : List ℕ
  -- the phase that is under way, or is next
  pub phase : ℕ
  -- the place in the program of the operation that is under way, or is next
  pub index : ℕ
  pub doing : Doing
  -- what it says now
  pub asked : Move
  -- the step that it asks for is the first one of its operation
  pub first : Bool
  -- how many references came into its hands, and how many objects it made
  pub hands : ℕ
  pub made : ℕ
  -- how many globals it has cleared: thread 0 alone does, behind all others
  pub cleared : ℕ
  -- how many references it has taken out of the fields of dying objects
  pub taken : ℕ
  -- the event of the step whose word was given last
  pub event : Option Act
  pub kept : Kept

-- the stepper of a thread of the script, before its first phase
abbrev pub stepper_of : Script → ℕ → Thread
stepper_of script thread = record {
  layout = extent_of script.shape;
  shape = script.shape;
  thread = thread;
  phases = phases_of script thread;
  program = program_of script thread;
  vars = replicate (vars_of script thread) None;
  classes = classes_of script thread;
  phase = 0;
  index = 0;
  doing = Ready;
  asked = moves.PhaseEnd;
  first = false;
  hands = 0;
  made = 0;
  cleared = 0;
  taken = 0;
  event = None;
  kept = record { lines = []; room = room_in script thread };
}

abbrev pub value : List (Option Held) → ℕ → Option Held
value vars v = slice_index_or vars v None

abbrev pub is_held : Option Held → Bool
is_held None = false
is_held (Some held) = true

abbrev pub set_var : ℕ → Option Held → Thread → Thread
set_var v new t = record t { vars = slice_set t.vars v new }

-- the number of the operation that is under way, 0 at the end of the scope
abbrev pub number_of : Thread → ℕ
number_of t = if nat_lt t.index (length t.program) then ordinal t.program t.index else 0

-- a line of the operation that is under way
abbrev pub put : Answer → Thread → Thread
put answer t = record t { kept = with_line (record { operation = number_of t; answer = answer }) t.kept }

abbrev pub asking : Doing → Step → Intent → Thread → Thread
asking doing step intent t = record t { doing = doing; asked = moves.Step step intent }

-- an operation, or a drop at the end of the scope, is under way
abbrev pub is_busy : Doing → Bool
is_busy Ready = false
is_busy Ended = false
is_busy _ = true

-- the operation whose first step it asks for
abbrev pub first_of : Thread → Option ℕ
first_of t = if t.first && nat_lt t.index (length t.program) then Some (number_of t) else None

-- an operation of the program has made its first step, and not its last one
abbrev pub in_operation : Thread → Bool
in_operation t = is_busy t.doing && not t.first && nat_lt t.index (length t.program)

abbrev pub is_cell : Origin → Bool
is_cell (origins.Hand k) = false
is_cell (origins.Cell c) = true

-- an access to a cell has begun, and hasn't ended
abbrev pub is_accessing : Doing → Bool
is_accessing (Gaining gain to from plan) = is_cell from.origin
is_accessing (Closing to cell held plan) = true
is_accessing _ = false

abbrev pub in_access : Thread → Bool
in_access t = is_accessing t.doing
