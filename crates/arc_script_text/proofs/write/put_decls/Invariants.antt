use Rattle.std.proofs.Common.{◌≡◌, ◌++◌, take, map}
use Rattle.arc_script.specs.Canonical.{text_of, decl_line}
use Rattle.arc_script_text.proofs.write.put_decls.Given as goal

abbrev pub invariant-loop-var : goal.invariant-loop-var
invariant-loop-var l = l.out.items ≡ l.fn.out.items ++ text_of (map (decl_line l.word l.classes) (take l.var-index l.vars))
