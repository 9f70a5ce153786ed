use Rattle.std.proofs.Common.{◌≡◌, ◌++◌, drop}
use Rattle.std.specs.Prelude.{reverse}
use Rattle.arc_script.specs.Canonical.{text_of, ops_from, op_lines}
use Rattle.arc_script_text.proofs.write.put_ops.Given as goal

abbrev pub invariant-loop-op : goal.invariant-loop-op
invariant-loop-op l = record {
  text : l.out.items ++ text_of (ops_from l.classes l.globals l.vars l.at (reverse l.ends) (drop l.op-index l.ops)) ≡ l.fn.out.items ++ text_of (op_lines l.classes l.globals l.vars l.ops);
  place : l.at ≡ l.op-index;
}
