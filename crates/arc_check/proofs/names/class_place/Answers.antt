use Rattle.std.proofs.Common.{rules, tests, List, ℕ, sym, ◌∙◌}
use Rattle.std.specs.Prelude.{bytes_eq}
use Rattle.std.proofs.lemmas.Iterator.{YieldsList-from_slice}
use Rattle.std.proofs.lemmas.Iterator.Search.{position_from_yields_List}
use Rattle.arc_script.specs.declared.script.ClassDecl.{ClassDecl}
use Rattle.arc_script.proofs.Places.{position-map}
use Rattle.arc_check.proofs.names.class_place.Goals as goal

pub returns-in-Some : goal.returns-in-Some
returns-in-Some c =
    let found = position_from_yields_List (λ (x : ClassDecl). bytes_eq x.name c.args.name.now) _ _ c.position.result c.position.ensures.ran (YieldsList-from_slice c.args.classes.now (cc)) (λ x b q k. search (rules, tests)) in
    sym c.in-Some.is ∙ (found ∙ sym (position-map (λ (n : List ℕ). bytes_eq n c.args.name.now) (λ (x : ClassDecl). x.name) c.args.classes.now))

pub returns-in-None : goal.returns-in-None
returns-in-None c =
    let found = position_from_yields_List (λ (x : ClassDecl). bytes_eq x.name c.args.name.now) _ _ c.position.result c.position.ensures.ran (YieldsList-from_slice c.args.classes.now (cc)) (λ x b q k. search (rules, tests)) in
    sym c.in-None.is ∙ (found ∙ sym (position-map (λ (n : List ℕ). bytes_eq n c.args.name.now) (λ (x : ClassDecl). x.name) c.args.classes.now))
