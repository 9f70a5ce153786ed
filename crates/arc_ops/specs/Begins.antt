-- The next operation that asks for a step, the end of a phase, and the end of the scope.
use Rattle.std.specs.Prelude.{ℕ, Bool, true, false, ◌≡◌, ◌==◌, ◌+◌, ◌&&◌, ◌||◌, nat_lt, if◌then◌else◌, List, [], ◌∷◌, length, take, drop, slice_get, position, Option, Some, None}
use Rattle.arc_model.specs.declared.answer.Answer.{Answer}
use Rattle.arc_model.specs.declared.answer.Answer.TheVariants as answers
use Rattle.arc_script.specs.declared.script.Op.{Op}
use Rattle.arc_script.specs.declared.script.Op.TheVariants as op
use Rattle.arc_script.specs.declared.script.OpCell.{OpCell}
use Rattle.arc_script.specs.declared.script.OpCell.TheVariants as opcell
use Rattle.arc_served.specs.Kept.{with_line}
use Rattle.arc_served.specs.Programs.{ordinal, ops_in_first}
use Rattle.arc_ops.specs.Thread.{Thread, value, is_held, set_var, put}
use Rattle.arc_ops.specs.Cells.{cell_of, open_begun, set_begun, clear_begun}
use Rattle.arc_ops.specs.Plans.{of_hand, make_begun, gain_begun, drop_begun}
use Rattle.arc_ops.specs.declared.cell.Cell.{Cell}
use Rattle.arc_ops.specs.declared.gain.Gain.{Gain}
use Rattle.arc_ops.specs.declared.gain.Gain.TheVariants as gains
use Rattle.arc_ops.specs.declared.stepper.Held.{Held}
use Rattle.arc_ops.specs.declared.stepper.Doing.TheVariants.{Ready, Ended}
use Rattle.arc_ops.specs.declared.stepper.Move.TheVariants as moves

-- an operation that asks for no step is done at once: its line, and the next one
abbrev pub skipped : Answer → Thread → Thread
skipped answer t = record t { index = t.index + 1; kept = with_line (record { operation = ordinal t.program t.index; answer = answer }) t.kept }

-- a nil reference makes the destination nil, and what that held is dropped
abbrev pub begun_nil : ℕ → (old : Option Held) → Thread → (rest : Thread → Thread) → Thread
begun_nil to (Some old) t rest = drop_begun old (set_var to None (put answers.Nil (record t { first = true })))
begun_nil to None t rest = rest (skipped answers.Nil t)

abbrev pub begun_gain : Gain → ℕ → (from old : Option Held) → Thread → (rest : Thread → Thread) → Thread
begun_gain gain to (Some held) old t rest = gain_begun gain to (of_hand held) (record t { first = true })
begun_gain gain to None old t rest = begun_nil to old t rest

-- the destination has the reference, and its variable is nil
abbrev pub moved : (to from : ℕ) → Held → Thread → Thread
moved to from held t = set_var from None (set_var to (Some held) t)

-- a move asks for a step where the destination held a reference, which is dropped
abbrev pub begun_move : (to from : ℕ) → (held old : Option Held) → Thread → (rest : Thread → Thread) → Thread
begun_move to from (Some held) (Some old) t rest = drop_begun old (moved to from held (put answers.Ok (record t { first = true })))
begun_move to from (Some held) None t rest = rest (moved to from held (skipped answers.Ok t))
begun_move to from None old t rest = begun_nil to old t rest

abbrev pub begun_drop : ℕ → Option Held → Thread → (rest : Thread → Thread) → Thread
begun_drop v (Some held) t rest = drop_begun held (set_var v None (put answers.Ok (record t { first = true })))
begun_drop v None t rest = rest (skipped answers.Nil t)

-- a cell is read; through an owner that is nil the destination becomes nil
abbrev pub begun_get : ℕ → Option Cell → (old : Option Held) → Thread → (rest : Thread → Thread) → Thread
begun_get to (Some cell) old t rest = open_begun to cell (record t { first = true })
begun_get to None old t rest = begun_nil to old t rest

-- a cell is written; through an owner that is nil nothing is
abbrev pub begun_set : ℕ → Option Cell → Thread → (rest : Thread → Thread) → Thread
begun_set from (Some cell) t rest = set_begun from cell (record t { first = true })
begun_set from None t rest = rest (skipped answers.Nil t)

-- where the thread goes on that comes to a block at this place: in the block where that is run, else behind it
abbrev pub block_goes_on : List (Option Held) → ℕ → Op → Option ℕ
block_goes_on vars i (op.IfNil v to) = Some (if is_held (value vars v) then to else i + 1)
block_goes_on vars i (op.IfSome v to) = Some (if is_held (value vars v) then i + 1 else to)
block_goes_on vars i _ = None

abbrev pub at_place : Option ℕ → Thread → Thread
at_place None t = t
at_place (Some i) t = record t { index = i }

-- The operation begins. Where it asks for no step it is done at once, and rest goes on from the thread behind it.
abbrev pub begun_op : Op → Thread → (rest : Thread → Thread) → Thread
begun_op (op.New to class) t rest = make_begun to class (record t { first = true })
begun_op (op.Copy to from) t rest = begun_gain gains.Copy to (value t.vars from) (value t.vars to) t rest
begun_op (op.Unown to of) t rest = begun_gain gains.Unown to (value t.vars of) (value t.vars to) t rest
begun_op (op.Load to of) t rest = begun_gain gains.Load to (value t.vars of) (value t.vars to) t rest
begun_op (op.Move to from) t rest = begun_move to from (value t.vars from) (value t.vars to) t rest
begun_op (op.Drop v) t rest = begun_drop v (value t.vars v) t rest
begun_op (op.Get to cell) t rest = begun_get to (cell_of cell t) (value t.vars to) t rest
begun_op (op.Set cell from) t rest = begun_set from (cell_of cell t) t rest
begun_op (op.IfNil v to) t rest = rest (at_place (block_goes_on t.vars t.index (op.IfNil v to)) t)
begun_op (op.IfSome v to) t rest = rest (at_place (block_goes_on t.vars t.index (op.IfSome v to)) t)
begun_op _ t rest = rest (skipped answers.Nil t)

-- a cell is there, but through an owner that is nil
abbrev pub is_there : List (Option Held) → OpCell → Bool
is_there vars (opcell.Global g) = true
is_there vars (opcell.Field owner field) = is_held (value vars owner)

-- the operation asks for a step
abbrev pub asks : List (Option Held) → Op → Bool
asks vars (op.New to class) = true
asks vars (op.Copy to from) = is_held (value vars from) || is_held (value vars to)
asks vars (op.Unown to of) = is_held (value vars of) || is_held (value vars to)
asks vars (op.Load to of) = is_held (value vars of) || is_held (value vars to)
asks vars (op.Move to from) = is_held (value vars to)
asks vars (op.Drop v) = is_held (value vars v)
asks vars (op.Get to cell) = is_there vars cell || is_held (value vars to)
asks vars (op.Set cell from) = is_there vars cell
asks vars _ = false

abbrev pub AsksAt : List Op → List (Option Held) → ℕ → Type 0
AsksAt program vars i = (o : Op) → slice_get program i ≡ Some o → asks vars o ≡ true

-- ---- the ends

abbrev pub scope_drop : ℕ → Option Held → Thread → Thread
scope_drop v None t = t
scope_drop v (Some held) t = drop_begun held (set_var v None t)

-- thread 0 has globals to clear
abbrev pub has_globals : Thread → Bool
has_globals t = t.thread == 0 && nat_lt t.cleared t.layout.globals

-- behind its scope a thread has ended, but that thread 0 clears the globals in their order
abbrev pub scope_over : Thread → Thread
scope_over t = if has_globals t then clear_begun t else record t { doing = Ended; asked = moves.Ended }

-- the end of the scope: the variables that aren't nil are dropped in their order
abbrev pub scope_at : Option ℕ → Thread → Thread
scope_at None t = scope_over t
scope_at (Some v) t = scope_drop v (value t.vars v) t

abbrev pub scope_begun : Thread → Thread
scope_begun t = scope_at (position is_held t.vars) t

-- how many operations there are to the end of the phase
abbrev pub phase_end : Thread → ℕ
phase_end t = ops_in_first (t.phase + 1) t.phases

-- the operations of the phase are done: the next phase is to begin, and behind the last one the scope ends
abbrev pub phase_over : Thread → Thread
phase_over t = if nat_lt (t.phase + 1) (length t.phases) then record t { doing = Ready; asked = moves.PhaseEnd; phase = t.phase + 1 } else scope_begun t

-- Operations from this place on; those that the thread has gone past are passed over.
abbrev pub begun_at : ℕ → List Op → Thread → Thread
begun_at at [] t = phase_over t
begun_at at (o ∷ ops) t = if nat_lt at t.index then begun_at (at + 1) ops t else begun_op o t (λ (behind : Thread). begun_at (at + 1) ops behind)

-- at the first operation of the rest of the phase that asks for a step
abbrev pub begun : Thread → Thread
begun t = begun_at t.index (drop t.index (take (phase_end t) t.program)) t

-- the operation, or a drop at the end of the scope or in the end section, is over
abbrev pub next_op : Thread → Thread
next_op t = begun (record t { doing = Ended; index = if nat_lt t.index (length t.program) then t.index + 1 else t.index })
