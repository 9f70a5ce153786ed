use Rattle.std.proofs.Common.{◌≡◌, ◌++◌, map, take}
use Rattle.arc_script.specs.BodyLines.{place_in}
use Rattle.arc_script_reader.proofs.body.add_places.Given as goal

abbrev pub invariant-loop-word : goal.invariant-loop-word
invariant-loop-word l = l.schedule ≡ l.fn.schedule ++ map place_in (map (λ w. w.now) (take l.word-index l.words))
