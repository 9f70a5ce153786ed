use Rattle.std.proofs.Common.{◌≡◌, ◌++◌, take, map}
use Rattle.std.specs.List.{flat_map}
use Rattle.arc_script.specs.Canonical.{spaced}
use Rattle.arc_script_text.proofs.write.put_line.Given as goal

abbrev pub invariant-loop-word : goal.invariant-loop-word
invariant-loop-word l = l.out.items ≡ l.fn.out.items ++ (l.first ++ flat_map spaced (map (λ w. w.now) (take l.word-index l.words)))
