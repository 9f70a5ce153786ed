use Rattle.std.proofs.Common.{rules}
use Rattle.arc_script_text.proofs.Joined.{line_more, fewer_later}
use Rattle.arc_script_text.proofs.write.put_schedule.Goals as goal

pub lines-preserved : goal.lines-preserved
lines-preserved c = line_more c.lines.out.items c.put_numbers.new.out.items c.lines.rest.now c.line_places.result.0.now c.line_places.result.1.now _ c.line_places.ensures.first c.line_places.ensures.later (search rules) (search rules) c.lines.invariant

pub lines-smaller : goal.lines-smaller
lines-smaller c = fewer_later c.lines.rest.now c.line_places.result.1.now c.line_places.ensures.later (search rules)
