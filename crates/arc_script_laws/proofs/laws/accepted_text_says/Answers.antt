use Rattle.arc_script.proofs.Told.{text_stands}
use Rattle.arc_script_laws.proofs.laws.accepted_text_says.Goals as goal

pub returns : goal.returns
returns c = text_stands
