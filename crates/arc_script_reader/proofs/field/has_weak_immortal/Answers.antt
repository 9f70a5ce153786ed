use Rattle.std.proofs.Common.{rules, tests}
use Rattle.std.proofs.lemmas.Iterator.{YieldsList-from_slice}
use Rattle.std.proofs.lemmas.Iterator.Search.{any_from_yields_List}
use Rattle.arc_script.specs.declared.script.FieldDecl.{FieldDecl}
use Rattle.arc_script.specs.HeadLines.{is_weak_field}
use Rattle.arc_script_reader.proofs.field.has_weak_immortal.Goals as goal

pub returns : goal.returns
returns c = any_from_yields_List (λ (f : FieldDecl). is_weak_field c.args.group.now f) _ _ c.any.result c.any.ensures.ran (YieldsList-from_slice c.args.fields.now (cc)) (λ x b q k. search (rules, tests))
