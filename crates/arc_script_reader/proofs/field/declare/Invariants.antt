use Rattle.std.proofs.Common.{◌≡◌, map, take}
use Rattle.arc_script.specs.Group.{group_names}
use Rattle.arc_script.specs.HeadLines.{declared_of}
use Rattle.arc_script_reader.specs.Fields.{seen}
use Rattle.arc_script_reader.proofs.field.declare.Given as goal

abbrev pub invariant-loop-field : goal.invariant-loop-field
invariant-loop-field l = l.all ≡ map (declared_of (group_names l.group)) (map seen (take l.field-index l.fields))
