use Rattle.arc_script_reader.proofs.NameSteps.{puts}
use Rattle.arc_script_reader.proofs.name_set.add_name.Goals as goal

pub returns-clause-holds : goal.returns-clause-holds
returns-clause-holds c = puts c.args.names.now c.insert.new.self c.args.name c.in_ok-insert.field-0 c.in_ok-insert.ensures.added c.in_ok-insert.ensures.keys
