use Rattle.std.proofs.Common.{◌≡◌, take}
use Rattle.std.specs.List.{sum_by, count_by}
use Rattle.arc_served.specs.Programs.{is_new}
use Rattle.arc_served.proofs.programs.new_count_of.Given as goal

abbrev pub invariant-loop-ops : goal.invariant-loop-ops
invariant-loop-ops l = l.count ≡ sum_by (λ ops. count_by is_new ops) (take l.ops-index l.thread.phases)
