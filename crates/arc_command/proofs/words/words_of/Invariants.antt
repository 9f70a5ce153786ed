use Rattle.std.proofs.Common.{◌≡◌, ◌≤◌, ℕ, List, drop, take, map, length}
use Rattle.std.specs.Prelude.{IfSome}
use Rattle.arc_command.specs.Lines.{as_read}
use Rattle.arc_command.proofs.words.words_of.Given as goal

abbrev pub invariant-loop-i : goal.invariant-loop-i
invariant-loop-i g l = record {
  few : length l.words.items ≤ l.i;
  read : IfSome (g.L.Line.words l.line) (λ (words : List (List ℕ)). l.words.items ≡ map as_read (take l.i (drop 1 words)));
}
