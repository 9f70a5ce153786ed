use Rattle.std.proofs.Common.{◌≡◌, ◌++◌, take}
use Rattle.std.specs.List.{flat_map}
use Rattle.arc_script.specs.Canonical.{text_of, later_phase}
use Rattle.arc_script_text.proofs.write.put_later.Given as goal

abbrev pub invariant-loop-ops : goal.invariant-loop-ops
invariant-loop-ops l = l.out.items ≡ l.fn.out.items ++ text_of (flat_map (later_phase l.classes l.globals l.vars) (take l.ops-index l.phases))
