use Rattle.std.proofs.Common.{◌≡◌, take}
use Rattle.arc_script.proofs.copy.copied_phases.Given as goal

abbrev pub invariant-loop-ops : goal.invariant-loop-ops
invariant-loop-ops l = l.copies ≡ take l.ops-index l.phases
