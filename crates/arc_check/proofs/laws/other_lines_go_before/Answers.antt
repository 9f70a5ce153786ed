use Rattle.arc_check.proofs.OtherLines.{line_before, none_before, both_before}
use Rattle.arc_check.proofs.laws.other_lines_go_before.Goals as goal

pub returns : goal.returns
returns c = record { line = line_before; none = none_before; both = both_before }
