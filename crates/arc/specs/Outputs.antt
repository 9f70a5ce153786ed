-- What a command writes, and why it has nothing to write.
use Rattle.std.specs.Prelude.{◌≡◌, ℕ, ◌+◌, ◌⊎◌, ◌≤◌, Bool, true, false, List, ◌++◌, length, Option, Some, None, Ok, Err, IsOk, IsErr, ⊤, codes}
use Rattle.std.specs.Fmt.{decimal}
use Rattle.arc_io.specs.Causes.{next_count}
use Rattle.arc_io.specs.Moved.{Took}
use Rattle.std.specs.Io.KnownBytes.{IsAtEnd}
use Rattle.arc_script.specs.declared.script.Script.{Script}
use Rattle.arc_script.specs.Grammar.{script_of}
use Rattle.arc_script.specs.Canonical.{canonical}
use Rattle.arc_storm.specs.Storm.{storm_script}
use Rattle.arc_served.specs.Served.{IsServed}
use Rattle.arc_plain.specs.declared.replay.Replay.{Replay}
use Rattle.arc_plain.specs.Replays.{IsReplay}
use Rattle.arc_report.specs.Report.{report}
use Rattle.arc_report.specs.History.{history}
use Rattle.arc_model.specs.declared.event.Illegal.{Illegal}
use Rattle.arc_model.specs.declared.event.Illegal.TheVariants as illegal
use Rattle.arc_check.specs.EventTexts.{HistoryText, history_of}
use Rattle.arc_check.specs.Verdicts.{AreLegal, IsFirstIllegal}
use Rattle.arc_command.specs.Commands.{limit_of}
use Rattle.arc_command.specs.declared.command.Command.{Command}
use Rattle.arc_command.specs.declared.command.Command.TheVariants as command
use Rattle.arc.specs.declared.output.Fault.{Fault}
use Rattle.arc.specs.declared.output.Fault.TheVariants as fault

-- the bytes are all that were left, where those are told
abbrev pub AreAll : Option (List ℕ) → List ℕ → Type 0
AreAll None bytes = ⊤
AreAll (Some left) bytes = bytes ≡ left

-- ---- what is written

-- the report and then the history text of a replay of the script
pub record TellsReplay (script : Script) (out : List ℕ) : Type 0 where
  pub replay : Replay
  pub of_script : IsReplay script replay
  pub text : out ≡ report script replay.threads.items replay.end.items replay.words.items ++ history script replay.events.items

-- the text stands for a script that is served
pub record IsServedText (text : List ℕ) : Type 0 where
  pub script : Script
  pub stands : script_of text ≡ Ok script
  pub served : IsServed script

-- the text stands for a script that is served, and this tells of its replay
pub record TellsOf (text out : List ℕ) : Type 0 where
  pub served : IsServedText text
  pub tells : TellsReplay served.script out

-- ---- the line of a verdict

abbrev pub illegal_number : Illegal → ℕ
illegal_number illegal.NotHeld = 1
illegal_number illegal.NoSuchObject = 2
illegal_number illegal.Taken = 3
illegal_number illegal.NotTaken = 4
illegal_number illegal.WrongAnswer = 5
illegal_number illegal.Duty = 6

abbrev pub legal_text : ℕ → List ℕ
legal_text events = codes "legal " ++ (decimal events ++ codes "\n")

abbrev pub illegal_text : ℕ → Illegal → List ℕ
illegal_text line why = codes "illegal line " ++ (decimal line ++ (codes " reason " ++ (decimal (illegal_number why) ++ codes "\n")))

-- the text holds a history whose events are legal, and this tells their number
pub record TellsLegal (text out : List ℕ) : Type 0 where
  pub history : HistoryText
  pub holds : history_of text ≡ Ok history
  pub events : ℕ
  pub legal : AreLegal history events
  pub line : out ≡ legal_text events

-- the text holds a history, and this tells the line of its first event that isn't legal, and why
pub record TellsIllegal (text out : List ℕ) : Type 0 where
  pub history : HistoryText
  pub holds : history_of text ≡ Ok history
  pub at : ℕ
  pub why : Illegal
  pub first : IsFirstIllegal history.shape history.events at why
  pub line : out ≡ illegal_text at why

abbrev pub TellsVerdict : List ℕ → Bool → List ℕ → Type 0
TellsVerdict text true out = TellsLegal text out
TellsVerdict text false out = TellsIllegal text out

-- what a command writes, where the source had these bytes. Only `check` may find that something isn't legal
abbrev pub IsOutput : Command → Option (List ℕ) → Bool → List ℕ → Type 0
IsOutput command.Replay left true out = (text : List ℕ) × AreAll left text × TellsOf text out
IsOutput command.Replay left false out = ⊥
IsOutput command.Check left legal out = (text : List ℕ) × AreAll left text × TellsVerdict text legal out
IsOutput (command.Script count start) left true out = out ≡ canonical (storm_script count start)
IsOutput (command.Script count start) left false out = ⊥

-- ---- why nothing is

-- the text stands for a script, but not for one that is served
pub record IsUnserved (text : List ℕ) : Type 0 where
  pub script : Script
  pub stands : script_of text ≡ Ok script
  pub unserved : IsServed script → ⊥

-- the first line with a fault and the least number of its faults, or line 0 and number 0 for a script that isn't served
abbrev pub IsRefused : List ℕ → ℕ → ℕ → Type 0
IsRefused text line why = (script_of text ≡ Err (record { line = line; why = why })) ⊎ (IsUnserved text × (line ≡ 0) × (why ≡ 0))

-- the text that the source had is refused so: it holds no history, or it is no script that is served
abbrev pub IsRefusedBy : Command → List ℕ → ℕ → ℕ → Type 0
IsRefusedBy command.Replay text line why = IsRefused text line why
IsRefusedBy command.Check text line why = history_of text ≡ Err (record { line = line; why = why })
IsRefusedBy (command.Script count start) text line why = ⊥

pub record IsRefusal (c : Command) (left : Option (List ℕ)) (line why : ℕ) : Type 0 where
  pub text : List ℕ
  pub all : AreAll left text
  pub refused : IsRefusedBy c text line why

-- why a text gives no output
abbrev pub RefusesText : Command → Fault → List ℕ → Type 0
RefusesText c fault.Read text = ⊥
RefusesText c fault.TooLong text = ⊥
RefusesText c (fault.Refused line why) text = IsRefusedBy c text line why
RefusesText c fault.Memory text = Unit {0}

-- why a command has no output, by what was read and how often the source had failed
abbrev pub IsCause : Command → Fault → Option (List ℕ) → Option (List ℕ) → ℕ → ℕ → Type 0
IsCause c fault.Read old new before now = now ≡ next_count before
IsCause c fault.TooLong old new before now = Took old new (limit_of (Some c) + 1)
IsCause c (fault.Refused line why) old new before now = IsRefusal c old line why × IsAtEnd new
IsCause c fault.Memory old new before now = Unit {0}

-- ---- input that a command can serve

-- within the limit, from a source that tells its bytes: a script that is served, a text that holds a history; `script` needs no input
abbrev pub IsValidInput : Command → Option (List ℕ) → Type 0
IsValidInput command.Replay None = ⊥
IsValidInput command.Replay (Some text) = (length text ≤ 8388608) × IsServedText text
IsValidInput command.Check None = ⊥
IsValidInput command.Check (Some text) = (length text ≤ 67108864) × IsOk (history_of text)
IsValidInput (command.Script count start) left = Unit {0}

-- a text within the limit that stands for no script that is served, or holds no history, from a source that tells its bytes
abbrev pub IsUnservedInput : Command → Option (List ℕ) → Type 0
IsUnservedInput c None = ⊥
IsUnservedInput command.Replay (Some text) = (length text ≤ 8388608) × (IsServedText text → ⊥)
IsUnservedInput command.Check (Some text) = (length text ≤ 67108864) × IsErr (history_of text)
IsUnservedInput (command.Script count start) (Some text) = ⊥
