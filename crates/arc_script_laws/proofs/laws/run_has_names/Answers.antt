use Rattle.arc_script_laws.proofs.RunNames.{run_has, run_names_have}
use Rattle.arc_script_laws.proofs.laws.run_has_names.Goals as goal

pub returns-clause-has : goal.returns-clause-has
returns-clause-has c = run_has

pub returns-clause-names : goal.returns-clause-names
returns-clause-names c version lines name h = run_names_have version name lines h
