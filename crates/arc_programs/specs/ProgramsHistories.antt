-- What a program's notes say of its history.
use Rattle.std.specs.Prelude.{ℕ, zero, suc, ◌≡◌, ◌<◌, ◌+◌, List, [], ◌∷◌, ◌++◌, option_map, Some, None}
use Rattle.arc_model.specs.declared.event.CellName.{CellName}
use Rattle.arc_model.specs.declared.event.CellName.TheVariants as cells
use Rattle.arc_model.specs.declared.event.Act.{Act}
use Rattle.arc_model.specs.declared.event.Act.TheVariants as acts
use Rattle.arc_model.specs.Shapes.{HeapShape}
use Rattle.arc_model.specs.Holders.{at_slot}
use Rattle.arc_model.specs.History.{History, heap_after, share, IsLegal}
use Rattle.arc_spelling.specs.Spelling.{Note}
use Rattle.arc_spelling.specs.Spelling.Note.{Did}
use Rattle.arc_spelling.specs.SpellingTies.{Causes, Ties}
use Rattle.arc_model.specs.References.{name_of}
use Rattle.arc_script.specs.declared.answer.Line.{Line}
use Rattle.arc_script.specs.declared.script.Op.{Op}
use Rattle.arc_script.specs.declared.script.Script.{Script}
use Rattle.arc_programs.specs.Variables.{value}
use Rattle.arc_programs.specs.Programs.{Hands, made_of, IsProgram, GlobalsCleared}
use Rattle.arc_programs.specs.ProgramsTied.{HasProgram, IsSpelledIn, IsSpelledButCauses}

-- The name that `new` tells is that of the object in the slot that it took.
abbrev pub NamesAreObjects : Type 0
NamesAreObjects = (causes : Causes) (shape : HeapShape) (p k c s : ℕ) (b : List Note) (h : History) → Ties causes shape p b h →
    IsLegal shape (record { thread = p; act = acts.New k c s } ∷ h) →
    option_map name_of (at_slot s (heap_after (record { thread = p; act = acts.New k c s } ∷ h))) ≡ Some (record { class = c; thread = p; number = made_of b + 1 })

-- At the end of the scope every variable is nil.
abbrev pub ScopesEmpty : Type 0
ScopesEmpty = (shape : HeapShape) (p : ℕ) (came : Hands) (program : List Op) (count : ℕ) (notes : List Note) (x : IsProgram shape p came program count notes) (v : ℕ) →
    v < count → value x.left v ≡ None

abbrev pub with_swapped : Act → List CellName → List CellName
with_swapped (acts.Swap c h k) cs = c ∷ cs
with_swapped _ cs = cs

-- the cells that were swapped, the newest first
abbrev pub swapped_in : List Note → List CellName
swapped_in [] = []
swapped_in (Did a ∷ ns) = with_swapped a (swapped_in ns)
swapped_in (_ ∷ ns) = swapped_in ns

-- the globals below n, the last first
abbrev pub globals_below : ℕ → List CellName
globals_below zero = []
globals_below (suc n) = cells.Global n ∷ globals_below n

-- The end section clears each global once, in the order of declaration, and swaps no other cell.
abbrev pub EachGlobalIsCleared : Type 0
EachGlobalIsCleared = (shape : HeapShape) (came : Hands) (n : ℕ) (notes : List Note) → GlobalsCleared shape came n notes → swapped_in notes ≡ globals_below n

-- Events of other threads leave a program as it is.
abbrev pub ProgramsStay : Type 0
ProgramsStay = (causes : Causes) (script : Script) (p : ℕ) (lines : List Line) (h later : History) →
    share later p ≡ [] → HasProgram causes script p lines h → HasProgram causes script p lines (later ++ h)

-- Causes may be left aside.
abbrev pub ProgramsWithoutCauses : Type 0
ProgramsWithoutCauses = (script : Script) (p : ℕ) (lines : List Line) (h : History) → IsSpelledIn script p lines h → IsSpelledButCauses script p lines h
