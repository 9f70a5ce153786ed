-- How many deinit lines the threads of a script have: as many as there are events that empty the strong list of an object.
use Rattle.std.specs.Prelude.{ℕ, Bool, true, false, ◌+◌, ◌≡◌, ◌↔◌, List, [], ◌∷◌, Some, count_by, length, slice_get, sum_by}
use Rattle.arc_model.specs.declared.event.Act.{Act}
use Rattle.arc_model.specs.declared.event.Act.TheVariants as acts
use Rattle.arc_model.specs.declared.event.Event.{Event}
use Rattle.arc_model.specs.Shapes.{HeapShape}
use Rattle.arc_model.specs.Heaps.{Hand, Heap}
use Rattle.arc_model.specs.Holders.{is_in, held_by}
use Rattle.arc_model.specs.Needs.{passes}
use Rattle.arc_model.specs.History.{History, heap_after, IsLegal}
use Rattle.arc_model.specs.Laws.{Empties}
use Rattle.arc_spelling.specs.Spelling.{one_more_if}
use Rattle.arc_spelling.specs.SpellingTies.{Causes}
use Rattle.arc_script.specs.declared.answer.Line.{Line}
use Rattle.arc_script.specs.declared.script.Script.{Script}
use Rattle.arc_script.specs.Valid.{IsScript}
use Rattle.arc_programs.specs.ProgramsLines.{tells_deinit}
use Rattle.arc_programs.specs.ProgramsTied.{HasProgram}
use Rattle.arc_quiet.specs.Whole.{NoOtherThread}

-- how many of the lines tell a deinit
abbrev pub deinit_lines : List Line → ℕ
deinit_lines lines = count_by tells_deinit lines

-- the act of thread p is the drop of a strong reference, the last to its object; none is the last to an immortal one
abbrev pub drops_last_strong : ℕ → Act → Heap → Bool
drops_last_strong p (acts.Drop k true) heap = passes (λ o. is_in (Hand p k) o.strong) (held_by (Hand p k) heap)
drops_last_strong p _ heap = false

-- how many events of the history emptied the strong list of an object
abbrev pub emptied : History → ℕ
emptied [] = 0
emptied (e ∷ h) = one_more_if (drops_last_strong e.thread e.act (heap_after h)) (emptied h)

-- What is counted is that: the object had a strong holder before the event, and has none after it.
abbrev pub LastDropsEmpty : Type 0
LastDropsEmpty = (shape : HeapShape) (before : History) (e : Event) → IsLegal shape (e ∷ before) →
    (drops_last_strong e.thread e.act (heap_after before) ≡ true) ↔ ((i : ℕ) × Empties shape i before e)

-- Where all threads of a script have their programs, with these lines of each thread and of the end section, the lines have as many
-- deinits as there are events that emptied a strong list.
abbrev pub DeinitLinesAreEmptied : Type 0
DeinitLinesAreEmptied = (causes : Causes) (script : Script) (h : History) (each : List (List Line)) (end : List Line) → IsScript script → IsLegal script.shape h →
    length each ≡ length script.threads → ((i : ℕ) (lines : List Line) → slice_get each i ≡ Some lines → HasProgram causes script (i + 1) lines h) → HasProgram causes script 0 end h →
    NoOtherThread script h → sum_by deinit_lines each + deinit_lines end ≡ emptied h
