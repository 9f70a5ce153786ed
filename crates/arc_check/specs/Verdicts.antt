-- Which histories are legal, and the first event that isn't.
use Rattle.std.specs.Prelude.{◌≡◌, ℕ, List, [], ◌∷◌, ◌++◌, length, Option, Some, None, Result, Ok, Err, IsOkAnd}
use Rattle.arc_model.specs.Shapes.{HeapShape}
use Rattle.arc_model.specs.declared.event.Illegal.{Illegal}
use Rattle.arc_model.specs.declared.memory.Memory.{Memory}
use Rattle.arc_model.specs.History.{History, judge, IsLegal}
use Rattle.arc_script.specs.Grammar.{Refusal}
use Rattle.arc_heap_judge.specs.Index.{Index}
use Rattle.arc_heap_judge.specs.Stands.{StandsFor}
use Rattle.arc_check.specs.declared.fault.CheckFault.{CheckFault}
use Rattle.arc_check.specs.declared.line.EventLine.{EventLine}
use Rattle.arc_check.specs.declared.judge.Breach.{Breach}
use Rattle.arc_check.specs.declared.judge.Verdict.{Verdict}
use Rattle.arc_check.specs.declared.judge.Verdict.TheVariants as verdict
use Rattle.arc_check.specs.EventTexts.{HistoryText}
use Rattle.arc_check.specs.Reading.{Refuses}

-- these events in order, behind a history, whose newest event comes first
abbrev pub told_after : History → List EventLine → History
told_after h [] = h
told_after h (e ∷ es) = told_after (e.event ∷ h) es

-- the history that a text tells
abbrev pub history_in : List EventLine → History
history_in events = told_after [] events

-- this event isn't legal, those before it are, and why is the first of its needs that fails
pub record IsFirstIllegal (shape : HeapShape) (events : List EventLine) (line : ℕ) (why : Illegal) : Type 0 where
  pub before : List EventLine
  pub event : EventLine
  pub later : List EventLine
  pub stands : events ≡ before ++ event ∷ later
  pub legal : IsLegal shape (history_in before)
  pub illegal : judge shape (history_in before) event.event ≡ Some why
  pub at_line : line ≡ event.line

-- what the code answers of one event behind a legal history
abbrev pub Judges : History → Index → Index → EventLine → Result (Option Breach) Memory → Type 0
Judges h old new e (Ok None) = (judge old.shape h e.event ≡ None) × StandsFor new (e.event ∷ h)
Judges h old new e (Ok (Some b)) = (judge old.shape h e.event ≡ Some b.why) × (b.line ≡ e.line)
Judges h old new e (Err m) = Unit {0}

abbrev pub verdict_of : Option Breach → ℕ → Verdict
verdict_of None events = verdict.Legal events
verdict_of (Some b) events = verdict.Illegal b.line b.why

-- so many events, all legal
abbrev pub AreLegal : HistoryText → ℕ → Type 0
AreLegal text n = IsLegal text.shape (history_in text.events) × (n ≡ length text.events)

-- Legal: the text holds a history whose events are legal, and that is their number. Illegal: it holds a history of which this is the
-- first event that isn't legal. Else it holds none, unless memory ran out.
abbrev pub Checks : Result Verdict CheckFault → Result HistoryText Refusal → Type 0
Checks (Ok (verdict.Legal n)) said = IsOkAnd said (λ text. AreLegal text n)
Checks (Ok (verdict.Illegal line why)) said = IsOkAnd said (λ text. IsFirstIllegal text.shape text.events line why)
Checks (Err e) said = Refuses e said
