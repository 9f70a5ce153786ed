use Rattle.std.proofs.Common.{rules, tests, ◌∙◌}
use Rattle.std.proofs.lemmas.Iterator.{YieldsList-from_slice}
use Rattle.std.proofs.lemmas.Iterator.Search.{any_from_yields_List}
use Rattle.arc_script_reader.specs.declared.field.FieldWord.{FieldWord}
use Rattle.arc_script_reader.specs.Fields.{seen}
use Rattle.arc_script_reader.proofs.Any.{list_any-map}
use Rattle.arc_script.specs.Group.{group_names}
use Rattle.arc_script.specs.HeadLines.{lacks_class}
use Rattle.arc_script_reader.proofs.field.has_unplaced.Goals as goal

pub returns : goal.returns
returns c =
    any_from_yields_List (λ (x : FieldWord). lacks_class (group_names c.args.group.now) (seen x)) _ _ c.any.result c.any.ensures.ran (YieldsList-from_slice c.args.fields.now (cc)) (λ x b q k. search (rules, tests))
    ∙ list_any-map (lacks_class (group_names c.args.group.now)) seen c.args.fields.now
