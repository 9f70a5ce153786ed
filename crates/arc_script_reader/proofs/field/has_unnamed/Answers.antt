use Rattle.std.proofs.Common.{rules, tests, ◌∙◌, sym, ap}
use Rattle.std.specs.Prelude.{not}
use Rattle.std.proofs.lemmas.Iterator.{YieldsList-from_slice}
use Rattle.std.proofs.lemmas.Iterator.Search.{any_from_yields_List}
use Rattle.arc_script_reader.specs.declared.field.FieldWord.{FieldWord}
use Rattle.arc_script_reader.specs.Fields.{seen}
use Rattle.arc_script.specs.Group.{group_names}
use Rattle.arc_script.specs.HeadLines.{lacks_class}
use Rattle.arc_script_reader.specs.NameSets.{holds}
use Rattle.arc_script_reader.proofs.Any.{list_any-map, list_any_same}
use Rattle.arc_script_reader.proofs.NameSteps.{placed}
use Rattle.arc_script_reader.proofs.field.has_unnamed.Goals as goal

pub returns : goal.returns
returns c =
    any_from_yields_List (λ (x : FieldWord). not (holds c.args.names.now x.class.now)) _ _ c.any.result c.any.ensures.ran (YieldsList-from_slice c.args.fields.now (cc)) (λ x b q k. search (rules, tests))
    ∙ (list_any_same (λ (x : FieldWord). not (holds c.args.names.now x.class.now)) (λ (x : FieldWord). lacks_class (group_names c.args.group.now) (seen x)) c.args.fields.now (λ x. ap not (c.requires x.class.now ∙ sym (placed (group_names c.args.group.now) x.class.now)))
    ∙ list_any-map (lacks_class (group_names c.args.group.now)) seen c.args.fields.now)
