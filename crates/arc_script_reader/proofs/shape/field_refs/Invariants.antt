use Rattle.std.proofs.Common.{◌≡◌, take}
use Rattle.arc_script.specs.Valid.{field_refs}
use Rattle.arc_script_reader.proofs.shape.field_refs.Given as goal

abbrev pub invariant-loop-field : goal.invariant-loop-field
invariant-loop-field l = l.refs.items ≡ field_refs (take l.field-index l.fields)
