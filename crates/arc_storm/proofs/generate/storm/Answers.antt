use Rattle.std.proofs.Common.{rules, subst, sym}
use Rattle.arc_script.specs.Valid.{IsScript}
use Rattle.arc_storm.proofs.StormValid.{storm_is_script}
use Rattle.arc_storm.proofs.generate.storm.Goals as goal

pub returns-clause-script : goal.returns-clause-script
returns-clause-script c = search rules

pub returns-clause-valid : goal.returns-clause-valid
returns-clause-valid c = subst IsScript (sym (returns-clause-script c)) (storm_is_script c.args.count c.args.start c.requires.few)
