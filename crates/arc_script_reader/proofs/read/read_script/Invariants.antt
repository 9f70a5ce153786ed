use Rattle.std.proofs.Common.{◌≡◌, ◌+◌, ◌≤◌, length}
use Rattle.arc_text.specs.Lines.{lines_of}
use Rattle.arc_script.specs.Grammar.{lines_from, script_of}
use Rattle.arc_script_reader.specs.Fronts.{front}
use Rattle.arc_script_reader.proofs.read.read_script.Given as goal

-- what the rest says to what was understood is what the text says
abbrev pub invariant-reading : goal.invariant-reading
invariant-reading l = record {
  said : lines_from l.number (front l.reader) (lines_of l.lines) ≡ script_of l.text;
  fits : l.number + length (lines_of l.lines) ≤ length l.text + 1;
}

abbrev pub decreases-reading : goal.decreases-reading
decreases-reading l = length (lines_of l.lines)
