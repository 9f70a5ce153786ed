use Rattle.std.proofs.Common.{◌≡◌, ◌+◌, ◌≤◌, length}
use Rattle.arc_text.specs.Lines.{lines_of}
use Rattle.arc_check.specs.EventTexts.{events_from}
use Rattle.arc_check.proofs.text.Events.next_event.Given as goal

abbrev pub invariant-reading : goal.invariant-reading
invariant-reading l = record {
  same : l.lines ≡ l.self.lines;
  said : events_from l.self.scope l.self.number l.self.ended (lines_of l.self.lines) ≡ events_from l.fn.self.scope l.fn.self.number l.fn.self.ended (lines_of l.fn.self.lines);
  scope : l.self.scope ≡ l.fn.self.scope;
  room : l.self.number + length (lines_of l.self.lines) ≤ l.fn.self.number + length (lines_of l.fn.self.lines);
  shorter : length (lines_of l.self.lines) ≤ length (lines_of l.fn.self.lines);
}

abbrev pub decreases-reading : goal.decreases-reading
decreases-reading l = length (lines_of l.self.lines)
