use Rattle.std.proofs.Common.{rules, tests, List, ℕ, ap, sym, ◌∙◌}
use Rattle.std.specs.Prelude.{bytes_eq, position}
use Rattle.std.proofs.lemmas.Iterator.{YieldsList-from_slice}
use Rattle.std.proofs.lemmas.Iterator.Search.{position_from_yields_List}
use Rattle.arc_script.specs.Said.{Grouped}
use Rattle.arc_script.specs.Group.{group_names}
use Rattle.arc_script.specs.Valid.{place_of}
use Rattle.arc_script.proofs.Places.{position-map}
use Rattle.arc_script_reader.specs.declared.group.GroupName.{GroupName}
use Rattle.arc_script_reader.proofs.GroupSteps.{names_seen}
use Rattle.arc_script_reader.proofs.group.Group.place.Goals as goal

pub returns-in-Some : goal.returns-in-Some
returns-in-Some c =
    let found = position_from_yields_List (λ (n : GroupName). bytes_eq n.name.now c.args.name.now) _ _ c.position.result c.position.ensures.ran (YieldsList-from_slice c.deref.result.now (cc)) (λ x b q k. search (rules, tests)) in
    let there = ap (λ (ns : List GroupName). position (λ (n : GroupName). bytes_eq n.name.now c.args.name.now) ns) c.deref.ensures.value in
    let is = position-map (λ (n : List ℕ). bytes_eq n c.args.name.now) (λ (n : GroupName). n.name.now) c.self.inside.names.items in
    sym c.in-Some.is ∙ (found ∙ (there ∙ (sym is ∙ (ap (λ (ns : List (List ℕ)). place_of ns c.args.name.now) (sym (names_seen c.self.inside.names.items)) ∙ ap (λ (g : List Grouped). place_of (group_names g) c.args.name.now) c.self.view_is))))

pub returns-in-None : goal.returns-in-None
returns-in-None c =
    let found = position_from_yields_List (λ (n : GroupName). bytes_eq n.name.now c.args.name.now) _ _ c.position.result c.position.ensures.ran (YieldsList-from_slice c.deref.result.now (cc)) (λ x b q k. search (rules, tests)) in
    let there = ap (λ (ns : List GroupName). position (λ (n : GroupName). bytes_eq n.name.now c.args.name.now) ns) c.deref.ensures.value in
    let is = position-map (λ (n : List ℕ). bytes_eq n c.args.name.now) (λ (n : GroupName). n.name.now) c.self.inside.names.items in
    sym c.in-None.is ∙ (found ∙ (there ∙ (sym is ∙ (ap (λ (ns : List (List ℕ)). place_of ns c.args.name.now) (sym (names_seen c.self.inside.names.items)) ∙ ap (λ (g : List Grouped). place_of (group_names g) c.args.name.now) c.self.view_is))))
