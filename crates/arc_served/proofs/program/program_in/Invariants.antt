use Rattle.std.proofs.Common.{◌≡◌, take}
use Rattle.arc_script.specs.OneList.{in_one_list}
use Rattle.arc_served.proofs.program.program_in.Given as goal

abbrev pub invariant-loop-ops : goal.invariant-loop-ops
invariant-loop-ops l = l.program.items ≡ in_one_list 0 (take l.ops-index l.phases)
