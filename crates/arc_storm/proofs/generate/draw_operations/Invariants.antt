use Rattle.std.proofs.Common.{◌≡◌, ◌*◌, map}
use Rattle.std.specs.List.{range_with_len}
use Rattle.arc_storm.specs.Storm.{after, operation_at}
use Rattle.arc_storm.proofs.generate.draw_operations.Given as goal

abbrev pub invariant-loop-i : goal.invariant-loop-i
invariant-loop-i l = record {
  words : l.rng ≡ after (2 * l.i) l.fn.rng;
  operations : l.operations.items ≡ map (operation_at l.fn.rng) (range_with_len 0 l.i);
}
