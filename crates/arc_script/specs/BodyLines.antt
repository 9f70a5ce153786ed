-- The lines of threads and of the schedule, by what stands behind the first word: each form is a chain of tests in ascending order of
-- reasons.
use Rattle.std.specs.Prelude.{ℕ, ◌+◌, Bool, true, false, not, ◌||◌, ◌&&◌, List, [], ◌∷◌, ◌++◌, length, map, nat_le, nat_lt, ◌==◌, if◌then◌else◌, Option, Some, None, slice_get, slice_set, unwrap_or, Result, Ok, Err}
use Rattle.std.specs.List.{list_all}
use Rattle.std.specs.Option.{option_map_or}
use Rattle.arc_text.specs.Words.{number_in}
use Rattle.arc_text.specs.Chain.{refuse, need}
use Rattle.arc_script.specs.declared.script.VarDecl.{VarDecl}
use Rattle.arc_script.specs.declared.script.Op.{Op}
use Rattle.arc_script.specs.declared.reason.Reason.{Reason}
use Rattle.arc_script.specs.declared.reason.Reason.TheVariants as why
use Rattle.arc_script.specs.declared.keyword.Keyword.{Keyword}
use Rattle.arc_script.specs.Valid.{begins_block, goes_to}
use Rattle.arc_script.specs.Said.{HeadSaid, BodySaid}
use Rattle.arc_script.specs.HeadLines.{decl_of}
use Rattle.arc_script.specs.OpLines.{op_of}

-- the open thread goes to the threads
abbrev pub closed : BodySaid → BodySaid
closed body = record {
  threads = body.threads ++ record { vars = body.vars; phases = body.phases ++ body.ops ∷ [] } ∷ [];
  vars = [];
  phases = [];
  ops = [];
  opened = body.opened;
  count = body.count;
  schedule = body.schedule;
}

abbrev pub has_block : List ℕ → Bool
has_block [] = false
has_block (at ∷ opened) = true

-- thread N: the number of the next thread
abbrev pub thread_line : BodySaid → List ℕ → Result BodySaid Reason
thread_line body number =
    need (number_in 1 4294967295 number) why.Number (λ n.
    refuse (not (n == length body.threads + 1)) why.Number (
    refuse (nat_le 64 (length body.threads)) why.TooMany (
    refuse (has_block body.opened) why.OpenBlock (
    Ok body))))

-- var NAME KIND CLASS
abbrev pub with_var : BodySaid → Result VarDecl Reason → Result BodySaid Reason
with_var body (Ok decl) = Ok (record body { vars = body.vars ++ decl ∷ [] })
with_var body (Err reason) = Err reason

abbrev pub var_line : HeadSaid → BodySaid → List ℕ → List ℕ → List ℕ → Result BodySaid Reason
var_line head body name kind class = with_var body (decl_of 256 body.vars head.classes name kind class)

-- an operation or where a block begins, of which there are at most 100,000 in all; at most 8 blocks are open at a time
abbrev pub opened_by : BodySaid → Op → List ℕ
opened_by body o = if begins_block o then length body.ops ∷ body.opened else body.opened

abbrev pub with_op : BodySaid → Result Op Reason → Result BodySaid Reason
with_op body (Ok o) =
    refuse (nat_le 100000 body.count || (begins_block o && nat_le 8 (length body.opened))) why.TooMany (
    Ok (record body { ops = body.ops ++ o ∷ []; opened = opened_by body o; count = body.count + 1 }))
with_op body (Err reason) = Err reason

abbrev pub op_line : HeadSaid → BodySaid → Keyword → List (List ℕ) → Result BodySaid Reason
op_line head body k words = with_op body (op_of head.classes head.globals body.vars k words)

-- the block that begins at this place ends behind the operations so far
abbrev pub ended_by : List Op → ℕ → Option Op → List Op
ended_by ops at None = ops
ended_by ops at (Some o) = slice_set ops at (goes_to (length ops) o)

-- end: of the inmost block that is open
abbrev pub end_of : BodySaid → List ℕ → Result BodySaid Reason
end_of body [] = Err why.OpenBlock
end_of body (at ∷ opened) = Ok (record body { ops = ended_by body.ops at (slice_get body.ops at); opened = opened })

abbrev pub end_line : BodySaid → Result BodySaid Reason
end_line body = end_of body body.opened

-- phase: a thread has at most 64 phases
abbrev pub phase_line : BodySaid → Result BodySaid Reason
phase_line body =
    refuse (nat_le 63 (length body.phases)) why.TooMany (
    refuse (has_block body.opened) why.OpenBlock (
    Ok (record body { phases = body.phases ++ body.ops ∷ []; ops = [] })))

-- the number of a thread that there is
abbrev pub is_place : ℕ → List ℕ → Bool
is_place threads word = option_map_or (λ n. nat_le n threads) (number_in 1 4294967295 word) false

abbrev pub place_in : List ℕ → ℕ
place_in word = unwrap_or (number_in 1 4294967295 word) 0

-- schedule N ..
abbrev pub schedule_line : BodySaid → List (List ℕ) → Result BodySaid Reason
schedule_line body words =
    refuse (not (list_all (is_place (length body.threads)) words)) why.Number (
    refuse (nat_lt 1000000 (length body.schedule + length words)) why.TooMany (
    refuse (has_block body.opened) why.OpenBlock (
    Ok (record body { schedule = body.schedule ++ map place_in words }))))

-- done
abbrev pub done_line : BodySaid → Result BodySaid Reason
done_line body = refuse (has_block body.opened) why.OpenBlock (Ok body)
