use Rattle.std.proofs.Common.{◌≡◌, take}
use Rattle.arc_model.proofs.shape.Shape.copy.Given as goal

abbrev pub invariant-loop-class : goal.invariant-loop-class
invariant-loop-class l = l.classes.items ≡ take l.class-index l.self-inside.classes.items
