use Rattle.std.proofs.Common.{◌≡◌, take}
use Rattle.std.specs.List.{sum_by}
use Rattle.arc_served.specs.Programs.{new_count_of}
use Rattle.arc_served.proofs.programs.new_count.Given as goal

abbrev pub invariant-loop-thread : goal.invariant-loop-thread
invariant-loop-thread l = l.count ≡ sum_by new_count_of (take l.thread-index l.threads)
