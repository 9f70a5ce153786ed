use Rattle.std.proofs.Common.{◌≡◌, ◌+◌, ◌≤◌, ℕ, List, length, None, Result}
use Rattle.arc_text.specs.Lines.{lines_of}
use Rattle.arc_script.specs.Grammar.{Refusal}
use Rattle.arc_check.specs.EventTexts.{HistoryText, opened_from}
use Rattle.arc_check.proofs.Openings.{FewThreads}
use Rattle.arc_check.proofs.text.begin.Given as goal

abbrev pub invariant-reading : goal.invariant-reading
invariant-reading l = record {
  said : (rest : ℕ → ℕ → List (List ℕ) → Result HistoryText Refusal) → opened_from l.number l.threads (lines_of l.lines) rest ≡ opened_from l.fn.number None (lines_of l.fn.lines) rest;
  room : l.number + length (lines_of l.lines) ≤ l.fn.number + length (lines_of l.fn.lines);
  few : FewThreads l.threads;
}

abbrev pub decreases-reading : goal.decreases-reading
decreases-reading l = length (lines_of l.lines)
