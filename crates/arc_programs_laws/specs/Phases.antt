-- The order of the phases in a history: each event of a phase stands before each event of a later one.
use Rattle.std.specs.Prelude.{ℕ, ◌≡◌, ◌≤◌, ◌<◌, ◌-◌, List, [], ◌++◌, length, take, flat_map, slice_get, Some}
use Rattle.arc_model.specs.History.{History, share, IsLegal}
use Rattle.arc_spelling.specs.Spelling.{Note}
use Rattle.arc_spelling.specs.SpellingTies.{Ties}
use Rattle.arc_spelling.specs.SpellingTies.Causes.{Judged}
use Rattle.arc_script.specs.declared.script.Op.{Op}
use Rattle.arc_script.specs.declared.script.ThreadDecl.{ThreadDecl}
use Rattle.arc_script.specs.declared.script.Script.{Script}
use Rattle.arc_script.specs.Valid.{IsScript}
use Rattle.arc_programs.specs.Variables.{Variables}
use Rattle.arc_programs.specs.Programs.{OpsDone, IsProgram}
use Rattle.arc_programs.specs.ProgramsTied.{hands_in, operations}
use Rattle.arc_quiet.specs.Whole.{AllFinish, NoOtherThread, StandsLast}

-- how many operations the first k phases have
abbrev pub ops_in_first : ℕ → List (List Op) → ℕ
ops_in_first k phases = length (flat_map (λ ops. ops) (take k phases))

-- What thread p did in the history is what it has in its first k phases, no less and no more. The end of its scope belongs to the last phase.
pub data HasDonePhases (script : Script) (k p : ℕ) (decl : ThreadDecl) (h : History) : Type 0 where
  some : {vars : Variables} {notes : List Note} →
      k < length decl.phases → Ties Judged script.shape p notes h →
      OpsDone script.shape p (hands_in p h) (operations decl) (length decl.vars) (ops_in_first k decl.phases) vars notes → HasDonePhases script k p decl h
  all : {notes : List Note} →
      length decl.phases ≤ k → Ties Judged script.shape p notes h →
      IsProgram script.shape p (hands_in p h) (operations decl) (length decl.vars) notes → HasDonePhases script k p decl h

-- At a point of the history each thread has done its first k phases, and thread 0, which comes behind all phases, nothing.
pub record PhaseEnds (script : Script) (k : ℕ) (h : History) : Type 0 where
  pub later : History
  pub earlier : History
  pub split : h ≡ later ++ earlier
  pub done : (p : ℕ) (decl : ThreadDecl) → 1 ≤ p → slice_get script.threads (p - 1) ≡ Some decl → HasDonePhases script k p decl earlier
  pub none_of_main : share earlier 0 ≡ []

-- There is such a point for each k.
abbrev pub PhasesFollow : Script → History → Type 0
PhasesFollow script h = (k : ℕ) → PhaseEnds script k h

-- the history has the whole of a valid script: its threads' programs, and thread 0's events behind all others
pub record HasWhole (script : Script) (h : History) : Type 0 where
  pub valid : IsScript script
  pub legal : IsLegal script.shape h
  pub finish : AllFinish Judged script h
  pub few : NoOtherThread script h
  pub last : StandsLast 0 h

-- The order of phases is more than that: two histories have the whole of one script, the phases follow in one, and in the other an event
-- of the second phase stands before one of the first.
pub record PhasesAreTold : Type 0 where
  pub script : Script
  pub right : History
  pub wrong : History
  pub right_whole : HasWhole script right
  pub wrong_whole : HasWhole script wrong
  pub follow : PhasesFollow script right
  pub refused : PhasesFollow script wrong → ⊥
