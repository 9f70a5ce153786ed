-- What a replay's events are: one legal history of the script's threads, with what is promised of it.
use Rattle.std.specs.Prelude.{ℕ, ◌≡◌, ◌+◌, List, [], ◌∷◌, length, map, Some, slice_get, sum_by}
use Rattle.arc_model.specs.History.{History, heap_after, IsLegal}
use Rattle.arc_programs.specs.ProgramsTied.{IsSpelledIn}
use Rattle.arc_quiet.specs.OneWay.{NoClassIsImmortal, StrongFieldsLeadOneWay, AllDead}
use Rattle.arc_quiet.specs.Whole.{NoOtherThread, StandsLast}
use Rattle.arc_programs_laws.specs.Phases.{PhasesFollow}
use Rattle.arc_programs_laws.specs.Deinits.{deinit_lines, emptied}
use Rattle.arc_programs_laws.specs.Claims.{NoEntryIsClaimed}
use Rattle.arc_rule.specs.Shown.{Shows}
use Rattle.arc_view.specs.Rule.{InShape}
use Rattle.arc_script.specs.declared.answer.Line.{Line}
use Rattle.arc_script.specs.declared.script.Script.{Script}
use Rattle.arc_ops.specs.declared.told.Stamped.{Stamped}
use Rattle.arc_ops.specs.declared.told.ThreadLines.{ThreadLines}
use Rattle.arc_ops.specs.Thread.{Thread}
use Rattle.arc_replays.specs.Promises.{DeinitsOnce, LoadsComeBefore, SlotsAreVacated, EntriesAreGivenBack}

-- the events without the numbers of their steps
abbrev pub history_of : List Stamped → History
history_of events = map (λ (s : Stamped). s.event) events

-- the lines of the threads, whose numbers go up from this one
abbrev pub lines_from : ℕ → List Thread → List ThreadLines
lines_from p [] = []
lines_from p (t ∷ ts) = record { thread = p; lines = t.kept.lines } ∷ lines_from (p + 1) ts

abbrev pub first_lines : List Thread → List Line
first_lines [] = []
first_lines (t ∷ ts) = t.kept.lines

-- Each thread of the script has its lines, and its events in the history spell its program together with them.
pub record AreSpelled (script : Script) (threads : List ThreadLines) (h : History) : Type 0 where
  pub each : length threads ≡ length script.threads
  pub spelled : (i : ℕ) (x : ThreadLines) → slice_get threads i ≡ Some x → (x.thread ≡ i + 1) × IsSpelledIn script (i + 1) x.lines h

abbrev pub deinits_printed : List ThreadLines → List Line → ℕ
deinits_printed threads end = sum_by (λ (x : ThreadLines). deinit_lines x.lines) threads + deinit_lines end

-- The events are one legal history, within the script's shape. Each thread's events in it spell its program together with its lines, and so do thread 0's
-- those of the end section; no other thread has any. An event of a phase stands before each event of a later phase, and thread 0's stand last. The words show
-- the heap after it.
pub record IsHistory (script : Script) (threads : List ThreadLines) (end : List Line) (h : History) (words : List ℕ) : Type 0 where
  pub legal : IsLegal script.shape h
  pub in_shape : InShape script.shape h
  pub spelled : AreSpelled script threads h
  pub end_spelled : IsSpelledIn script 0 end h
  pub no_other : NoOtherThread script h
  pub phases : PhasesFollow script h
  pub last : StandsLast 0 h
  pub shows : Shows script.shape (heap_after h) words
  -- each object whose strong list becomes empty is deinited once, and a load gives it only earlier; nothing is given again while a holder remains
  pub once : DeinitsOnce script.shape h
  pub loads : LoadsComeBefore script.shape h
  pub slots : SlotsAreVacated script.shape h
  pub entries : EntriesAreGivenBack h
  -- a deinit line for each event that emptied a strong list, and no entry is claimed in the end
  pub deinits : deinits_printed threads end ≡ emptied h
  pub no_claim : NoEntryIsClaimed (heap_after h)
  -- where no class is immortal and strong fields lead one way, every object is dead
  pub leaves : NoClassIsImmortal script.shape → StrongFieldsLeadOneWay script.shape → AllDead script.shape (heap_after h)
