use Rattle.arc_programs_laws.proofs.Totals.{deinit_lines_are_emptied}
use Rattle.arc_programs_laws.proofs.deinit_lines_are_emptied.Goals as goal

pub returns : goal.returns
returns c = deinit_lines_are_emptied
