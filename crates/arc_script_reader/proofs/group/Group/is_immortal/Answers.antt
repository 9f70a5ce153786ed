use Rattle.std.proofs.Common.{◌≡◌, ◌<◌, false, List, length, sym, ap, subst, ◌∙◌}
use Rattle.std.specs.Prelude.{slice_index_or}
use Rattle.std.proofs.lemmas.Bool.{ltb-true}
use Rattle.arc_script.specs.Said.{Grouped}
use Rattle.arc_script.specs.Group.{group_immortals}
use Rattle.arc_script_reader.specs.declared.group.GroupName.{GroupName}
use Rattle.arc_script_reader.proofs.GroupSteps.{immortal_at}
use Rattle.arc_script_reader.proofs.group.Group.is_immortal.Goals as goal

pub returns-in-Some : goal.returns-in-Some
returns-in-Some c =
    let found = c.in-Some.ensures.lookup in
    let name = c.in-Some.name.now in
    let names = c.self.inside.names.items in
    let within : c.args.place < length names = subst (λ (ns : List GroupName). c.args.place < length ns) c.deref.ensures.value (ltb-true _ _ (sym found.0)) in
    ap (λ (n : GroupName). n.immortal) (found.1 ∙ ap (λ (ns : List GroupName). slice_index_or ns c.args.place name) c.deref.ensures.value)
    ∙ (immortal_at names c.args.place name within ∙ ap (λ (g : List Grouped). slice_index_or (group_immortals g) c.args.place false) c.self.view_is)
