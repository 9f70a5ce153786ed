use Rattle.std.proofs.Common.{◌≡◌, ◌++◌, length}
use Rattle.arc_script.specs.Canonical.{text_of, schedule_lines}
use Rattle.arc_script_text.proofs.write.put_schedule.Given as goal

abbrev pub invariant-lines : goal.invariant-lines
invariant-lines l = l.out.items ++ text_of (schedule_lines l.rest) ≡ l.fn.out.items ++ text_of (schedule_lines l.places)

abbrev pub decreases-lines : goal.decreases-lines
decreases-lines l = length l.rest
