use Rattle.std.proofs.Common.{false, [], arith}
use Rattle.arc_script_reader.specs.declared.group.GroupName.{GroupName}
use Rattle.arc_script_reader.specs.NameSets.{holds}
use Rattle.arc_script_reader.proofs.GroupSteps.{known_next}
use Rattle.arc_script_reader.proofs.group.set_of.Goals as goal

pub loop-name-preserved : goal.loop-name-preserved
loop-name-preserved c = λ q.
    let nobody : GroupName = record { name = record { ref_ptr = (0, 0); now = [] }; immortal = false } in
    known_next c.args.names.now c.loop-name.name-index nobody q (holds c.add_name.new.names q) (holds c.loop-name.set q) (omega arith) (c.loop-name.invariant q) (c.in_ok-add_name.ensures.holds q)
