use Rattle.std.proofs.Common.{◌≡◌, ◌+◌, ◌-◌, ◌≤◌, length, drop}
use Rattle.arc_text.specs.Lines.{lines_of}
use Rattle.arc_script_reader.specs.Fronts.{front}
use Rattle.arc_script.specs.Grammar.{nothing}
use Rattle.arc_script.specs.declared.keyword.Place.TheVariants as behind
use Rattle.arc_script.specs.HeadingText.{head_from, after_lines}
use Rattle.arc_script_reader.proofs.heading.read_heading.Given as goal

-- what the rest says to what was understood is what the text says
abbrev pub invariant-reading : goal.invariant-reading
invariant-reading l = record {
  said : head_from l.caps l.number l.last (front l.reader) (lines_of l.lines) ≡ head_from l.caps l.line l.line (nothing l.version behind.Version) (lines_of (drop l.at l.text));
  fits : l.number + length (lines_of l.lines) ≤ l.line + length l.text;
  short : length l.lines ≤ length l.text;
  begun : l.line ≤ l.number;
  marked : l.line ≤ l.last;
  rest : l.lines ≡ after_lines (l.number - l.line) (drop l.at l.text);
  ends : l.end ≡ length l.text - length (after_lines (l.last - l.line) (drop l.at l.text));
}

abbrev pub decreases-reading : goal.decreases-reading
decreases-reading l = length (lines_of l.lines)
