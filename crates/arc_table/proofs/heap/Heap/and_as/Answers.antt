use Rattle.std.proofs.Common.{◌<◌, sym, subst}
use Rattle.std.specs.Prelude.{bit_and}
use Rattle.atomic_table.specs.Table.{Allows}
use Rattle.arc_model.specs.Shapes.{HeapShape}
use Rattle.arc_rule.specs.declared.step.Step.TheVariants.{And}
use Rattle.arc_rule.specs.Places.{extent_of, word_count}
use Rattle.arc_view.specs.Rule.{IsKept}
use Rattle.arc_view.specs.Steps.{Tells}
use Rattle.arc_view.proofs.Words.{number_below}
use Rattle.arc_view.proofs.Bridge.{allows}
use Rattle.arc_view.proofs.Moves.{ands}
use Rattle.arc_table.proofs.heap.Heap.and_as.Goals as goal

pub fetch_and-requires : goal.fetch_and-requires
fetch_and-requires g c =
    let a = c.args in
    let heap = a.self.now in
    let seat = a.part.now.seat in
    let kind = c.requires.kind in (
      c.requires.own,
      subst (λ n. a.place < n) (sym heap.wide) (subst (λ n. n < word_count (extent_of heap.shape)) (sym kind.1) (number_below (extent_of heap.shape) kind.0 kind.2)),
      subst (λ (t : HeapShape × HeapShape). Allows (IsKept t.0) heap.table.shared.table_id.slots seat.id seat.me a.place (λ x. bit_and x a.bits) (Tells t.1 g.J.Asks.intent (And a.place a.bits) seat.me)) (λ i. (sym heap.keyed i, sym c.requires.asks i))
          (allows heap.shape heap.table.shared.table_id.slots seat.id seat.me g.J.Asks.intent (And a.place a.bits) (λ x. bit_and x a.bits) (ands heap.shape seat.id seat.me g.J.Asks.intent a.place a.bits a.part.now.live kind)),
    )
