use Rattle.arc_script_laws.proofs.TextRefused.{text_refused}
use Rattle.arc_script_laws.proofs.laws.refused_text_has.Goals as goal

pub returns : goal.returns
returns c = text_refused
