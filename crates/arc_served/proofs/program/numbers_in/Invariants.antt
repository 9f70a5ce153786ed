use Rattle.std.proofs.Common.{◌≡◌, ℕ, ◌<◌, length, take}
use Rattle.std.specs.Prelude.{slice_index_or}
use Rattle.arc_script.specs.OneList.{numbered}
use Rattle.arc_served.specs.Programs.{ordinal}
use Rattle.arc_served.proofs.program.numbers_in.Given as goal

abbrev pub invariant-loop-op : goal.invariant-loop-op
invariant-loop-op l = record {
  count : length l.numbers.items ≡ l.op-index;
  number : l.number ≡ numbered (take l.op-index l.program);
  each : (i : ℕ) → i < l.op-index → slice_index_or l.numbers.items i 0 ≡ ordinal l.program i;
}
