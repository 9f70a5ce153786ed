use Rattle.std.proofs.Common.{◌≡◌, ℕ, List, ◌++◌, codes, refl, ◌∙◌, ap, Result, Ok, Err, IfOk}
use Rattle.std.specs.Fmt.{decimal}
use Rattle.arc_model.specs.Shapes.{HeapShape}
use Rattle.arc_script.specs.declared.script.ClassDecl.{ClassDecl}
use Rattle.arc_script.specs.declared.script.VarDecl.{VarDecl}
use Rattle.arc_script.specs.Canonical.{heading_text}
use Rattle.arc_report.proofs.history.history_text.Goals as goal

of_parts : {V E : Type 0} (items : V → List ℕ) (r : Result V E) (version : ℕ) (heading later h l : List ℕ) →
    IfOk r (λ v. items v ≡ codes "history " ++ (decimal version ++ (codes "\n" ++ (heading ++ later)))) → heading ≡ h → later ≡ l →
    IfOk r (λ v. items v ≡ codes "history " ++ (decimal version ++ (codes "\n" ++ (h ++ l))))
of_parts items (Ok v) version heading later h l e f g = rw (e, f, g) refl
of_parts items (Err x) version heading later h l e f g = e

same_heading : (shape : HeapShape) (classes old_classes : List ClassDecl) (globals old_globals : List VarDecl) → classes ≡ old_classes →
    globals ≡ old_globals → heading_text shape classes globals ≡ heading_text shape old_classes old_globals
same_heading shape classes old_classes globals old_globals e f =
    ap (λ cs. heading_text shape cs globals) e ∙ ap (λ gs. heading_text shape old_classes gs) f

pub returns : goal.returns
returns c =
    of_parts (λ v. v.items) c.joined.result _ _ _ _ _ c.joined.ensures
    (c.deref.ensures.value ∙ (c.in_ok-heading.ensures ∙ same_heading c.args.script.now.shape _ _ _ _ c.as_slice-classes.ensures c.as_slice-globals.ensures)) (c.as_bytes.ensures.value ∙ c.in_ok-later.ensures)
