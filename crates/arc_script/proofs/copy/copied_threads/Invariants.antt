use Rattle.std.proofs.Common.{◌≡◌, take}
use Rattle.arc_script.proofs.copy.copied_threads.Given as goal

abbrev pub invariant-loop-thread : goal.invariant-loop-thread
invariant-loop-thread l = l.copies ≡ take l.thread-index l.threads
