use Rattle.std.proofs.Common.{length}
use Rattle.arc_text.specs.Lines.{lines_of}
use Rattle.arc_check.proofs.Judged.{HasJudged}
use Rattle.arc_check.proofs.judge.check.Given as goal

-- the verdict so far is that of the events so far
abbrev pub invariant-judging : goal.invariant-judging
invariant-judging l = HasJudged l.fn.text l.threads l.breach l.heap l.count l.events

abbrev pub decreases-judging : goal.decreases-judging
decreases-judging l = length (lines_of l.events.lines)
