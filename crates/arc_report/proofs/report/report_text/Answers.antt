use Rattle.std.proofs.Common.{◌≡◌, ℕ, List, ◌++◌, ◌∙◌, ap, append_assoc, codes}
use Rattle.std.specs.List.{flat_map}
use Rattle.std.specs.String.{string_bytes}
use Rattle.arc_rule.specs.Extents.{Extent}
use Rattle.arc_rule.specs.Places.{extent_of}
use Rattle.arc_script.specs.declared.script.ClassDecl.{ClassDecl}
use Rattle.arc_script.specs.Valid.{class_names}
use Rattle.arc_report.specs.Lines.{thread_text, end_text, object_total, deinit_total}
use Rattle.arc_report.specs.Report.{totals_text, left_text, left_total}
use Rattle.arc_report.proofs.Counted.{objects_fit, deinits_fit}
use Rattle.arc_report.proofs.report.report_text.Goals as goal

pub object_total-objects-requires : goal.object_total-objects-requires
object_total-objects-requires c = objects_fit _ c.put_threads.new.out _ _ c.in_ok-put_threads.ensures

pub deinit_total-deinits-requires : goal.deinit_total-deinits-requires
deinit_total-deinits-requires c =
    deinits_fit _ _ c.put_end.new.out _ _ _ c.in_ok-put_threads.ensures c.in_ok-put_end.ensures

-- five parts, put down one behind the other
of_parts : (bytes s1 s2 s3 s4 s5 first a b l t : List ℕ) → bytes ≡ s5 → s5 ≡ s4 ++ t → s4 ≡ s3 ++ l → s3 ≡ s2 ++ b → s2 ≡ s1 ++ a → s1 ≡ first → bytes ≡ first ++ (a ++ (b ++ (l ++ t)))
of_parts bytes s1 s2 s3 s4 s5 first a b l t whole e5 e4 e3 e2 e1 =
    whole ∙ e5 ∙ ap (λ x. x ++ t) (e4 ∙ ap (λ x. x ++ l) (e3 ∙ ap (λ x. x ++ b) (e2 ∙ ap (λ x. x ++ a) e1)))
    ∙ append_assoc ((first ++ a) ++ b) l t ∙ append_assoc (first ++ a) b (l ++ t) ∙ append_assoc first a (b ++ (l ++ t))

pub returns : goal.returns
returns c =
    let texts : List ClassDecl → Extent → List ℕ = λ cs l.
    codes "report 1\n" ++ (flat_map (thread_text (class_names cs)) c.args.threads.now ++ (end_text (class_names cs) c.args.end.now ++ (left_text cs l c.args.words.now
    ++ totals_text c.object_total-objects.result c.deinit_total-deinits.result c.in_ok-leaks.leaks))) in
    let first : string_bytes c.writeln.new.self ≡ codes "report 1\n" = c.in_ok-writeln.ensures.bytes ∙ ap (λ xs. xs ++ codes "report 1\n") c.new-out.ensures.bytes in
    let all : c.into_bytes.result.items ≡ texts c.as_slice-classes.result.now c.of-layout.result =
    of_parts _ _ _ _ _ _ _ _ _ _ _ (ap (λ v. v.items) c.into_bytes.ensures.value) c.in_ok-put_totals.ensures c.in_ok-leaks.ensures.text c.in_ok-put_end.ensures c.in_ok-put_threads.ensures first in
    let totals : (objects deinits leaks : ℕ) → List ℕ = λ objects deinits leaks.
    codes "report 1\n" ++ (flat_map (thread_text (class_names c.args.script.now.classes)) c.args.threads.now ++ (end_text (class_names c.args.script.now.classes) c.args.end.now
    ++ (left_text c.args.script.now.classes (extent_of c.args.script.now.shape) c.args.words.now ++ totals_text objects deinits leaks))) in
    let lost : c.in_ok-leaks.leaks ≡ left_total c.args.script.now.classes (extent_of c.args.script.now.shape) c.args.words.now =
    c.in_ok-leaks.ensures.total
    ∙ ap (λ (cs : List ClassDecl). left_total cs c.of-layout.result c.args.words.now) c.as_slice-classes.ensures
    ∙ ap (λ (l : Extent). left_total c.args.script.now.classes l c.args.words.now) c.of-layout.ensures.extent in
    all
    ∙ ap (λ (cs : List ClassDecl). texts cs c.of-layout.result) c.as_slice-classes.ensures
    ∙ ap (λ (l : Extent). texts c.args.script.now.classes l) c.of-layout.ensures.extent
    ∙ ap (λ n. totals n c.deinit_total-deinits.result c.in_ok-leaks.leaks) c.object_total-objects.ensures
    ∙ ap (λ n. totals (object_total c.args.threads.now) n c.in_ok-leaks.leaks) c.deinit_total-deinits.ensures
    ∙ ap (λ n. totals (object_total c.args.threads.now) (deinit_total c.args.threads.now c.args.end.now) n) lost
