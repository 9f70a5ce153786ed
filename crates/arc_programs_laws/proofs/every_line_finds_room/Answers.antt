use Rattle.arc_programs_laws.proofs.Totals.{every_line_finds_room}
use Rattle.arc_programs_laws.proofs.every_line_finds_room.Goals as goal

pub returns : goal.returns
returns c = every_line_finds_room
