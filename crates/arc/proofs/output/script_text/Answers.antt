use Rattle.std.proofs.Common.{◌≡◌, IfOk, subst}
use Rattle.arc_script.specs.declared.script.Script.{Script}
use Rattle.arc_script.specs.Canonical.{canonical}
use Rattle.arc.proofs.output.script_text.Goals as goal

pub returns : goal.returns
returns c = subst (λ (s : Script). IfOk c.write_script.result (λ v. v.items ≡ canonical s)) c.in_ok-script.ensures.script c.write_script.ensures
