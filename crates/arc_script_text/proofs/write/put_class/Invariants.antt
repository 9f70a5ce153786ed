use Rattle.std.proofs.Common.{◌≡◌, ◌++◌, take, map}
use Rattle.std.specs.List.{flat_map}
use Rattle.arc_script.specs.Canonical.{spaced, class_word, field_word}
use Rattle.arc_script_text.proofs.write.put_class.Given as goal

abbrev pub invariant-loop-field : goal.invariant-loop-field
invariant-loop-field l = l.out.items ≡ l.fn.out.items ++ (class_word l.class.immortal ++ (spaced l.class.name ++ flat_map spaced (map (field_word l.classes) (take l.field-index l.field-items))))
