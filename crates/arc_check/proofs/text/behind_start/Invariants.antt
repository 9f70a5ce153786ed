use Rattle.std.proofs.Common.{◌≡◌, ◌≤◌, length}
use Rattle.arc_text.specs.Lines.{lines_of}
use Rattle.arc_check.specs.EventTexts.{behind_start}
use Rattle.arc_check.proofs.text.behind_start.Given as goal

-- the text begins in the rest where it begins in the whole
abbrev pub invariant-seeking : goal.invariant-seeking
invariant-seeking l = record {
  said : behind_start (lines_of l.lines) ≡ behind_start (lines_of l.fn.text);
  short : length l.lines ≤ length l.fn.text;
}

abbrev pub decreases-seeking : goal.decreases-seeking
decreases-seeking l = length (lines_of l.lines)
