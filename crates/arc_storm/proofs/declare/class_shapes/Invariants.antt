use Rattle.std.proofs.Common.{◌≡◌, take}
use Rattle.arc_script.specs.Valid.{class_refs}
use Rattle.arc_storm.proofs.declare.class_shapes.Given as goal

abbrev pub invariant-loop-class : goal.invariant-loop-class
invariant-loop-class l = l.shapes.items ≡ class_refs (take l.class-index l.classes)
