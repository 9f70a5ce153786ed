use Rattle.std.proofs.Common.{rules, tests, ◌∙◌, List, ℕ, Bor}
use Rattle.std.proofs.lemmas.Iterator.{YieldsList-from_slice}
use Rattle.std.proofs.lemmas.Iterator.Search.{all_from_yields_List}
use Rattle.arc_script.specs.BodyLines.{is_place}
use Rattle.arc_script_reader.proofs.Any.{list_all-map}
use Rattle.arc_script_reader.proofs.body.are_places.Goals as goal

pub returns : goal.returns
returns c =
    all_from_yields_List (λ (x : Bor (List ℕ)). is_place c.args.threads x.now) _ _ c.all.result c.all.ensures.ran (YieldsList-from_slice c.args.words.now (cc)) (λ x b q k. search (rules, tests))
    ∙ list_all-map (is_place c.args.threads) (λ (w : Bor (List ℕ)). w.now) c.args.words.now
