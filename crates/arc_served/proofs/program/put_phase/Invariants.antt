use Rattle.std.proofs.Common.{◌≡◌, ◌++◌, length, map, take}
use Rattle.arc_script.specs.OneList.{moved_behind}
use Rattle.arc_served.proofs.program.put_phase.Given as goal

abbrev pub invariant-loop-op : goal.invariant-loop-op
invariant-loop-op l = l.program.items ≡ l.initial.program.items ++ map (moved_behind (length l.initial.program.items)) (take l.op-index l.ops)
