-- What the code answers of a line and of a text.
use Rattle.std.specs.Prelude.{◌≡◌, ℕ, ◌≤◌, List, [], length, drop, Option, Some, None, Result, Ok, Err}
use Rattle.arc_text.specs.Lines.{lines_of}
use Rattle.arc_script.specs.declared.reason.Reason.{Reason}
use Rattle.arc_script.specs.Reasons.{reason_number}
use Rattle.arc_script.specs.Grammar.{Refusal}
use Rattle.arc_check.specs.declared.fault.LineFault.{LineFault}
use Rattle.arc_check.specs.declared.fault.LineFault.TheVariants as fault
use Rattle.arc_check.specs.declared.fault.CheckFault.{CheckFault}
use Rattle.arc_check.specs.declared.fault.CheckFault.TheVariants as check
use Rattle.arc_model.specs.Shapes.{HeapShape}
use Rattle.arc_check.specs.declared.line.EventLine.{EventLine}
use Rattle.arc_check.specs.declared.text.Started.{Started}
use Rattle.arc_check.specs.declared.text.Begun.{Begun}
use Rattle.arc_check.specs.declared.text.Events.{Events}
use Rattle.arc_check.specs.declared.text.Opened.{Opened}
use Rattle.arc_check.specs.Scopes.{Naming}
use Rattle.arc_check.specs.EventTexts.{HistoryStart, HistoryText, opened_from, events_from, with_event, with_shape}

-- the fault of a text whose line with this number has this one
abbrev pub at_line : ℕ → LineFault → CheckFault
at_line n (fault.Refused reason) = check.Refused n (reason_number reason)
at_line n fault.Memory = check.Memory

-- unless memory ran out, the line gave this or was refused as it was to be
abbrev pub Gives : {T : Type 0} → Result T LineFault → Result T Reason → Type 0
Gives (Ok x) said = said ≡ Ok x
Gives (Err fault.Memory) said = Unit {0}
Gives (Err (fault.Refused reason)) said = said ≡ Err reason

-- unless memory ran out, the text is refused as it is to be
abbrev pub Refuses : {X : Type 0} → CheckFault → Result X Refusal → Type 0
Refuses check.Memory said = Unit {0}
Refuses (check.Refused line why) said = said ≡ Err (record { line = line; why = why })

-- where a history text begins, its version, and what stands behind its first line
abbrev pub BeginsAt : List ℕ → Option HistoryStart → Option Started → Type 0
BeginsAt text behind None = behind ≡ None
BeginsAt text behind (Some s) = (behind ≡ Some (record { version = s.version; lines = lines_of (drop s.at s.text.now) })) × (1 ≤ s.at) × (s.at ≤ length s.text.now) × (length s.text.now ≤ length text)

-- the lines were read up to `events`, whatever is to be read behind it
abbrev pub Begins : ℕ → Option ℕ → List ℕ → List ℕ → Result Begun CheckFault → Type 0
Begins n threads old new (Ok b) = (rest : ℕ → ℕ → List (List ℕ) → Result HistoryText Refusal) → opened_from n threads (lines_of old) rest ≡ rest b.threads b.number (lines_of new)
Begins n threads old new (Err e) = (rest : ℕ → ℕ → List (List ℕ) → Result HistoryText Refusal) → Refuses e (opened_from n threads (lines_of old) rest)

-- the events that are left
abbrev pub left : Events → Result (List EventLine) Refusal
left e = events_from e.scope e.number e.ended (lines_of e.lines)

-- one event less is left, or none is, before and after; after a fault as much is left as before
abbrev pub NextIs : Result (Option EventLine) CheckFault → Result (List EventLine) Refusal → Result (List EventLine) Refusal → Type 0
NextIs (Ok (Some e)) old new = old ≡ with_event e new
NextIs (Ok None) old new = (old ≡ Ok []) × (new ≡ Ok [])
NextIs (Err e) old new = Refuses e old × (new ≡ old)

-- what events may name is what the shape has
pub record IsNamedBy (scope : Naming) (shape : HeapShape) (threads : ℕ) : Type 0 where
  pub slots : scope.slots ≡ shape.slots
  pub entries : scope.entries ≡ shape.entries
  pub classes : length scope.classes ≡ length shape.classes
  pub globals : length scope.globals ≡ length shape.globals
  pub threads_said : scope.threads ≡ threads
  pub some_slots : 1 ≤ shape.slots
  pub some_entries : 1 ≤ shape.entries
  pub few_threads : threads ≤ 64

-- the text holds a history of this shape with these events, or is refused
abbrev pub Opens : Result Opened CheckFault → Result HistoryText Refusal → Type 0
Opens (Ok o) said = said ≡ with_shape o.shape o.threads (left o.events)
Opens (Err e) said = Refuses e said
