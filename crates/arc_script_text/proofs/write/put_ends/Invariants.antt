use Rattle.std.proofs.Common.{◌≡◌, ◌++◌, length}
use Rattle.std.specs.Prelude.{reverse}
use Rattle.arc_script.specs.Canonical.{text_of, ends_at, still_open}
use Rattle.arc_script_text.proofs.write.put_ends.Given as goal

abbrev pub invariant-ends : goal.invariant-ends
invariant-ends l = record {
  text : l.out.items ++ text_of (ends_at l.at (reverse l.ends)) ≡ l.fn.out.items ++ text_of (ends_at l.at (reverse l.fn.ends));
  later : still_open l.at (reverse l.ends) ≡ still_open l.at (reverse l.fn.ends);
}

abbrev pub decreases-ends : goal.decreases-ends
decreases-ends l = length l.ends
