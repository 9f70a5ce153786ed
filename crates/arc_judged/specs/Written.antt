-- What a replay writes, and what is said of it.
use Rattle.std.specs.Prelude.{ℕ, List, ◌++◌, length, Result, IsOkAnd}
use Rattle.arc_script.specs.declared.script.Script.{Script}
use Rattle.arc_plain.specs.declared.replay.Replay.{Replay}
use Rattle.arc_report.specs.Report.{report}
use Rattle.arc_report.specs.History.{history}
use Rattle.arc_check.specs.declared.fault.CheckFault.{CheckFault}
use Rattle.arc_check.specs.declared.judge.Verdict.{Verdict}
use Rattle.arc_check.specs.EventTexts.{HistoryText, history_of}
use Rattle.arc_check.specs.Verdicts.{AreLegal, Checks}
use Rattle.arc_judged.specs.Verdicts.{SaysLegal}

-- the report of a replay of the script
abbrev pub report_of : Script → Replay → List ℕ
report_of script replay = report script replay.threads.items replay.end.items replay.words.items

-- the report and then the history text
abbrev pub written : Script → Replay → List ℕ
written script replay = report_of script replay ++ history script replay.events.items

-- the text holds a history of so many events, which are legal
abbrev pub HoldsLegal : List ℕ → ℕ → Type 0
HoldsLegal text n = IsOkAnd (history_of text) (λ (t : HistoryText). AreLegal t n)

-- what was written holds the replay's events, which are legal
abbrev pub IsWrittenLegal : Script → Replay → Type 0
IsWrittenLegal script replay = HoldsLegal (written script replay) (length replay.events.items)

-- whatever `check` may answer of what was written, it says legal, with the number of the replay's events, unless memory ran out
abbrev pub IsCheckedLegal : Script → Replay → Type 0
IsCheckedLegal script replay = (v : Result Verdict CheckFault) → Checks v (history_of (written script replay)) → SaysLegal (length replay.events.items) v
