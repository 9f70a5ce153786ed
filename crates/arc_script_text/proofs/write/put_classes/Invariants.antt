use Rattle.std.proofs.Common.{◌≡◌, ◌++◌, take, map}
use Rattle.arc_script.specs.Canonical.{text_of, class_line}
use Rattle.arc_script_text.proofs.write.put_classes.Given as goal

abbrev pub invariant-loop-class : goal.invariant-loop-class
invariant-loop-class l = l.out.items ≡ l.fn.out.items ++ text_of (map (class_line l.classes) (take l.class-index l.classes))
