use Rattle.std.proofs.Common.{◌≡◌, take}
use Rattle.arc_script.specs.Valid.{field_refs}
use Rattle.arc_storm.proofs.declare.field_shapes.Given as goal

abbrev pub invariant-loop-field : goal.invariant-loop-field
invariant-loop-field l = l.shapes.items ≡ field_refs (take l.field-index l.fields)
