use Rattle.std.proofs.Common.{◌≡◌, true, ap, sym, ◌∙◌, arith}
use Rattle.std.specs.Prelude.{not, is_some}
use Rattle.arc_heap_index.specs.Counting.{place_at}
use Rattle.arc_heap_judge.specs.Index.{Index, hold}
use Rattle.arc_heap_index.proofs.Fronts.{each_below-false}
use Rattle.arc_heap_judge.proofs.heap_index.HeapIndex.are_nil.Goals as goal

pub returns-then-is_some : goal.returns-then-is_some
returns-then-is_some c =
    let a : is_some (hold c.args.self.now c.at.result) ≡ true = ap is_some (sym c.hold.ensures) ∙ sym c.if-is_some.ensures in
    let cells = ap (λ (ix : Index). place_at c.args.slot c.loop-field.field ix.cells) c.self.view_is in
    let b : is_some (hold c.args.self.now (place_at c.args.slot c.loop-field.field c.args.self.now.cells)) ≡ true = ap (λ w. is_some (hold c.args.self.now w)) (sym (c.at.ensures ∙ cells)) ∙ a in
    sym (each_below-false c.args.end (λ f. not (is_some (hold c.args.self.now (place_at c.args.slot f c.args.self.now.cells)))) c.loop-field.field (omega arith) (ap not b))
