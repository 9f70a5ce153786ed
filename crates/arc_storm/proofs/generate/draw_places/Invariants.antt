use Rattle.std.proofs.Common.{◌≡◌}
use Rattle.arc_storm.specs.Storm.{after, places}
use Rattle.arc_storm.proofs.generate.draw_places.Given as goal

abbrev pub invariant-loop-i : goal.invariant-loop-i
invariant-loop-i l = record {
  words : l.rng ≡ after l.i l.fn.rng;
  places : l.places ≡ places l.fn.rng l.i;
}
