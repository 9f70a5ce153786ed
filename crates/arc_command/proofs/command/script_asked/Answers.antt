use Rattle.std.proofs.Common.{sym}
use Rattle.arc_text.proofs.Numbers.{number_range}
use Rattle.arc_command.proofs.command.script_asked.Goals as goal

pub returns-in-Some-long_number-clause-fits : goal.returns-in-Some-long_number-clause-fits
returns-in-Some-long_number-clause-fits c = number_range 1 100000 c.args.count.now c.in-Some.count (sym c.in-Some.ensures)
