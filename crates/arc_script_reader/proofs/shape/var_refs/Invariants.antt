use Rattle.std.proofs.Common.{◌≡◌, take}
use Rattle.arc_script.specs.Valid.{var_refs}
use Rattle.arc_script_reader.proofs.shape.var_refs.Given as goal

abbrev pub invariant-loop-var : goal.invariant-loop-var
invariant-loop-var l = l.refs.items ≡ var_refs (take l.var-index l.vars)
