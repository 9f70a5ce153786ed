-- How many lines a thread can have.
use Rattle.std.specs.Prelude.{ℕ, Bool, true, false, ◌==◌, ◌+◌, ◌-◌, ◌≤◌, if◌then◌else◌, List, [], length, flat_map, sum_by, count_by, slice_get, Option, Some, None}
use Rattle.arc_model.specs.History.{History, IsLegal}
use Rattle.arc_spelling.specs.SpellingTies.{Causes}
use Rattle.arc_script.specs.declared.answer.Line.{Line}
use Rattle.arc_script.specs.declared.script.Op.{Op}
use Rattle.arc_script.specs.declared.script.Op.TheVariants as op
use Rattle.arc_script.specs.declared.script.ThreadDecl.{ThreadDecl}
use Rattle.arc_script.specs.declared.script.Script.{Script}
use Rattle.arc_script.specs.Valid.{IsScript}
use Rattle.arc_programs.specs.ProgramsTied.{HasProgram}
use Rattle.arc_quiet.specs.Whole.{AllFinish, NoOtherThread}

abbrev pub is_new : Op → Bool
is_new (op.New to class) = true
is_new _ = false

-- how many objects the threads of the script may make
abbrev pub new_count : Script → ℕ
new_count script = sum_by (λ (decl : ThreadDecl). sum_by (λ (ops : List Op). count_by is_new ops) decl.phases) script.threads

abbrev pub phases_in : Option ThreadDecl → List (List Op)
phases_in None = []
phases_in (Some decl) = decl.phases

-- the operations of thread p, phase by phase; thread 0 has none
abbrev pub operations_of : Script → ℕ → List Op
operations_of script p = flat_map (λ ops. ops) (phases_in (if p == 0 then None else slice_get script.threads (p - 1)))

-- a line for each operation of the thread, and one for the deinit of each object that the script may make
abbrev pub room : Script → ℕ → ℕ
room script p = length (operations_of script p) + new_count script

-- Where all threads of a script have their programs, no thread has more lines than that.
abbrev pub EveryLineFindsRoom : Type 0
EveryLineFindsRoom = (causes : Causes) (script : Script) (h : History) (p : ℕ) (lines : List Line) → IsScript script → IsLegal script.shape h →
    AllFinish causes script h → NoOtherThread script h → p ≤ length script.threads → HasProgram causes script p lines h → length lines ≤ room script p
