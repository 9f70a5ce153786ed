use Rattle.arc_script.proofs.Told.{read_is_script}
use Rattle.arc_script_laws.proofs.laws.read_is_valid.Goals as goal

pub returns : goal.returns
returns c = read_is_script
