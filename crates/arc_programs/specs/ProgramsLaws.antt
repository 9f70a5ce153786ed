-- Laws of the lines of a program.
use Rattle.std.specs.Prelude.{ℕ, false, ◌≡◌, ◌≤◌, ◌-◌, List, [], ◌∷◌, ◌++◌, length, map, ⊤}
use Rattle.arc_model.specs.declared.answer.Answer.{Answer}
use Rattle.arc_model.specs.declared.event.ObjectName.{ObjectName}
use Rattle.arc_model.specs.Shapes.{HeapShape}
use Rattle.arc_spelling.specs.Spelling.{Note}
use Rattle.arc_script.specs.declared.answer.Line.{Line}
use Rattle.arc_script.specs.declared.script.Op.{Op}
use Rattle.arc_script.specs.OneList.{numbered, HasNoBlock}
use Rattle.arc_programs.specs.Variables.{Variables}
use Rattle.arc_programs.specs.Programs.{Hands, IsOp, IsProgram, GlobalsCleared}
use Rattle.arc_programs.specs.ProgramsLines.{lines_of, is_deinit, deinit_line, answered, down_from}

-- Operation n told its answer in one line, and then nothing but deinits.
pub record IsTold (n : ℕ) (before after : List Note) : Type 0 where
  pub answer : Answer
  pub deinits : List ObjectName
  pub lines : lines_of after ≡ map (deinit_line n) deinits ++ record { operation = n; answer = answer } ∷ lines_of before
  pub no_deinit : is_deinit answer ≡ false

abbrev pub OperationsHaveLines : Type 0
OperationsHaveLines = (shape : HeapShape) (p : ℕ) (came : Hands) (n : ℕ) (o : Op) (vars vars' : Variables) (before after : List Note) →
    IsOp shape p came n o vars before vars' after → IsTold n before after

-- from n downwards the numbers never rise and are at least 1, the newest line first
abbrev pub NeverRise : ℕ → List Line → Type 0
NeverRise n [] = ⊤
NeverRise n (line ∷ lines) = (1 ≤ line.operation) × (line.operation ≤ n) × NeverRise line.operation lines

-- from n downwards each number is less than the one before and at least 1
abbrev pub Fall : ℕ → List ℕ → Type 0
Fall n [] = ⊤
Fall n (k ∷ ks) = (1 ≤ k) × (k ≤ n) × Fall (k - 1) ks

-- The lines of a program: each operation has one answer at most, in their order, and each has one where there is no block; deinits
-- stand behind the operations that brought them about, and those at the end of the scope, with number 0, behind all.
pub record AreLinesOf (program : List Op) (notes : List Note) : Type 0 where
  pub deinits : List ObjectName
  pub worked : List Line
  pub lines : lines_of notes ≡ map (deinit_line 0) deinits ++ worked
  pub answers : Fall (numbered program) (answered worked)
  pub each : HasNoBlock program → answered worked ≡ down_from (length program)
  pub numbers : NeverRise (numbered program) worked

abbrev pub ProgramsAreNumbered : Type 0
ProgramsAreNumbered = (shape : HeapShape) (p : ℕ) (came : Hands) (program : List Op) (count : ℕ) (notes : List Note) →
    IsProgram shape p came program count notes → AreLinesOf program notes

abbrev pub EndSectionsTellDeinits : Type 0
EndSectionsTellDeinits = (shape : HeapShape) (came : Hands) (n : ℕ) (notes : List Note) → GlobalsCleared shape came n notes →
    (deinits : List ObjectName) × (lines_of notes ≡ map (deinit_line 0) deinits)
