-- What a thread has between its operations, and when its program came to its end.
use Rattle.std.specs.Prelude.{ℕ, false, ◌≡◌, ◌-◌, List, length, Some, None, slice_get}
use Rattle.arc_model.specs.Heaps.{Heap}
use Rattle.arc_model.specs.Holders.{is_claimed_by}
use Rattle.arc_model.specs.History.{History, heap_after, IsLegal}
use Rattle.arc_model.specs.Lookup.{duty_of}
use Rattle.arc_model.specs.Others.{IsQuiet}
use Rattle.arc_spelling.specs.Spelling.{Note}
use Rattle.arc_spelling.specs.SpellingTies.{Causes, Ties}
use Rattle.arc_script.specs.declared.answer.Line.{Line}
use Rattle.arc_script.specs.declared.script.Script.{Script}
use Rattle.arc_script.specs.declared.script.ThreadDecl.{ThreadDecl}
use Rattle.arc_script.specs.Valid.{IsScript}
use Rattle.arc_programs.specs.Variables.{Variables}
use Rattle.arc_programs.specs.Programs.{Hands, OpsDone}
use Rattle.arc_programs.specs.ProgramsTied.{operations, HasProgram}

-- thread p owes no duty and has claimed no entry
pub record OwesNothing (p : ℕ) (heap : Heap) : Type 0 where
  pub duties : (i : ℕ) → duty_of p i heap ≡ None
  pub claims : (e : ℕ) → is_claimed_by p e heap ≡ false

-- Where a thread has done the first n operations of its program, and no event since, it owes nothing: an operation ends each deinit
-- that it brings about, frees what it was the last to hold, and leaves no entry claimed.
abbrev pub SettledBetweenOperations : Type 0
SettledBetweenOperations = (causes : Causes) (script : Script) (p n : ℕ) (decl : ThreadDecl) (came : Hands) (vars : Variables) (notes : List Note) (h : History) → IsScript script → IsLegal script.shape h →
    slice_get script.threads (p - 1) ≡ Some decl → OpsDone script.shape p came (operations decl) (length decl.vars) n vars notes → Ties causes script.shape p notes h → OwesNothing p (heap_after h)

-- After a legal history that has the whole program of thread p, p has no hand, no duty and no claim, whatever other threads did.
abbrev pub FinishedIsQuiet : Type 0
FinishedIsQuiet = (causes : Causes) (script : Script) (p : ℕ) (lines : List Line) (h : History) → IsScript script → IsLegal script.shape h →
    HasProgram causes script p lines h → IsQuiet p (heap_after h)
