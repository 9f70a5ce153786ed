use Rattle.std.proofs.Common.{◌≡◌, take}
use Rattle.arc_script.specs.Valid.{var_refs}
use Rattle.arc_storm.proofs.declare.global_shapes.Given as goal

abbrev pub invariant-loop-global : goal.invariant-loop-global
invariant-loop-global l = l.shapes.items ≡ var_refs (take l.global-index l.globals)
