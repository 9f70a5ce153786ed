use Rattle.std.proofs.Common.{◌≡◌, map}
use Rattle.std.specs.List.{range_with_len}
use Rattle.arc_storm.specs.Storm.{storm_thread}
use Rattle.arc_storm.proofs.generate.deal_threads.Given as goal

abbrev pub invariant-loop-i : goal.invariant-loop-i
invariant-loop-i l = l.threads ≡ map (storm_thread l.operations) (range_with_len 0 l.i)
