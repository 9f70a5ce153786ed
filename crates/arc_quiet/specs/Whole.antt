-- Histories that have the whole of a script, and what they leave.
use Rattle.std.specs.Prelude.{ℕ, ◌≤◌, ◌≡◌, List, ◌++◌, length, filter, not}
use Rattle.std.specs.List.{AllByRecursion}
use Rattle.arc_model.specs.declared.event.Event.{Event}
use Rattle.arc_model.specs.History.{History, heap_after, is_of, share, IsLegal}
use Rattle.arc_spelling.specs.SpellingTies.{Causes}
use Rattle.arc_script.specs.declared.answer.Line.{Line}
use Rattle.arc_script.specs.declared.script.Script.{Script}
use Rattle.arc_script.specs.Valid.{IsScript}
use Rattle.arc_programs.specs.ProgramsTied.{HasProgram}
use Rattle.arc_quiet.specs.Quiet.{IsQuietHeap}
use Rattle.arc_quiet.specs.OneWay.{NoClassIsImmortal, StrongFieldsLeadOneWay, CellsKeepClasses, AllDead}

-- every thread's share, thread 0's too, is spelled to its end
abbrev pub AllFinish : Causes → Script → History → Type 0
AllFinish causes script h = (p : ℕ) → p ≤ length script.threads → (lines : List Line) × HasProgram causes script p lines h

-- no event is of a thread that the script doesn't have
abbrev pub NoOtherThread : Script → History → Type 0
NoOtherThread script h = AllByRecursion (λ (e : Event). e.thread ≤ length script.threads) h

-- the history is what the other threads did, and behind it what thread p did
abbrev pub StandsLast : ℕ → History → Type 0
StandsLast p h = h ≡ share h p ++ filter (λ e. not (is_of p e)) h

-- Where all threads have their programs, a cell refers to an object of the class that the script declares for it.
abbrev pub CellsKeepClassesAfter : Type 0
CellsKeepClassesAfter = (causes : Causes) (script : Script) (h : History) → IsScript script → IsLegal script.shape h → AllFinish causes script h → NoOtherThread script h → CellsKeepClasses script.shape (heap_after h)

-- Such a history leaves a quiet heap, if thread 0's events stand last.
abbrev pub WholeIsQuiet : Type 0
WholeIsQuiet = (causes : Causes) (script : Script) (h : History) → IsScript script → IsLegal script.shape h → AllFinish causes script h → StandsLast 0 h → NoOtherThread script h → IsQuietHeap (heap_after h)

-- A script without an immortal class whose strong fields lead one way leaves nothing behind: where every thread's share is spelled to its end, thread 0's events
-- stand last and no event is of another thread, every object is dead.
abbrev pub LeavesNothing : Type 0
LeavesNothing = (causes : Causes) (script : Script) (h : History) → IsScript script → NoClassIsImmortal script.shape → StrongFieldsLeadOneWay script.shape → IsLegal script.shape h → AllFinish causes script h → StandsLast 0 h → NoOtherThread script h →
    AllDead script.shape (heap_after h)
