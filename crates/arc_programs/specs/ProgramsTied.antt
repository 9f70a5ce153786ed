-- A history has a thread's program, with these lines.
use Rattle.std.specs.Prelude.{ℕ, Bool, ◌&&◌, ◌≡◌, ◌≤◌, ◌-◌, if◌then◌else◌, List, [], ◌∷◌, length, slice_get, Some, None}
use Rattle.arc_model.specs.declared.event.Event.{Event}
use Rattle.arc_model.specs.Heaps.{Hand}
use Rattle.arc_model.specs.Holders.{is_number}
use Rattle.arc_model.specs.History.{History, heap_after, is_of}
use Rattle.arc_model.specs.Own.{brings_hand}
use Rattle.arc_spelling.specs.Spelling.{Note}
use Rattle.arc_spelling.specs.SpellingTies.{Causes, Ties}
use Rattle.arc_model.specs.References.{reference_of}
use Rattle.arc_spelling.specs.SpellingTies.Causes.{Judged, LeftAside}
use Rattle.arc_script.specs.declared.answer.Line.{Line}
use Rattle.arc_script.specs.declared.script.Op.{Op}
use Rattle.arc_script.specs.declared.script.ThreadDecl.{ThreadDecl}
use Rattle.arc_script.specs.declared.script.Script.{Script}
use Rattle.arc_script.specs.OneList.{in_one_list}
use Rattle.arc_programs.specs.Programs.{Hands, IsProgram, GlobalsCleared}
use Rattle.arc_programs.specs.ProgramsLines.{told}

-- the event brings hand k to thread p
abbrev pub brings_it : ℕ → ℕ → Event → Bool
brings_it p k e = is_of p e && is_number (brings_hand e.act) k

-- what each hand of thread p refers to, right behind the event that brings it
abbrev pub hands_in : ℕ → History → Hands
hands_in p [] k = None
hands_in p (e ∷ h) k = if brings_it p k e then reference_of (Hand p k) (heap_after (e ∷ h)) else hands_in p h k

-- a thread's operations, phase by phase, in one list
abbrev pub operations : ThreadDecl → List Op
operations decl = in_one_list 0 decl.phases

-- The notes spell what the script has thread p do; thread 0 clears the globals.
pub data Spells (script : Script) (came : Hands) : (p : ℕ) (notes : List Note) → Type 0 where
  thread : {p : ℕ} {decl : ThreadDecl} {notes : List Note} →
      1 ≤ p → slice_get script.threads (p - 1) ≡ Some decl → IsProgram script.shape p came (operations decl) (length decl.vars) notes →
      Spells script came p notes
  end : {n : ℕ} {notes : List Note} → GlobalsCleared script.shape came n notes → n ≡ length script.shape.globals → Spells script came 0 notes

-- The history has the program of thread p, with these lines: some notes are the thread's in the history and spell its program. Causes
-- of claims are judged or left aside.
pub record HasProgram (causes : Causes) (script : Script) (p : ℕ) (lines : List Line) (h : History) : Type 0 where
  pub notes : List Note
  pub tied : Ties causes script.shape p notes h
  pub spelled : Spells script (hands_in p h) p notes
  pub lines_are : told notes ≡ lines

-- with the causes of claims
abbrev pub IsSpelledIn : Script → ℕ → List Line → History → Type 0
IsSpelledIn script p lines h = HasProgram Judged script p lines h

-- but for the causes of claims
abbrev pub IsSpelledButCauses : Script → ℕ → List Line → History → Type 0
IsSpelledButCauses script p lines h = HasProgram LeftAside script p lines h
