use Rattle.std.proofs.Common.{◌<◌, sym, subst}
use Rattle.atomic_table.specs.Table.{Allows}
use Rattle.arc_model.specs.Shapes.{HeapShape}
use Rattle.arc_rule.specs.declared.step.Step.TheVariants.{Store}
use Rattle.arc_rule.specs.Places.{extent_of, word_count}
use Rattle.arc_view.specs.Rule.{IsKept}
use Rattle.arc_view.specs.Steps.{Tells}
use Rattle.arc_view.proofs.Words.{number_below}
use Rattle.arc_view.proofs.Bridge.{allows}
use Rattle.arc_view.proofs.Moves.{stores}
use Rattle.arc_table.proofs.heap.Heap.store_as.Goals as goal

pub store-requires : goal.store-requires
store-requires g c =
    let a = c.args in
    let heap = a.self.now in
    let seat = a.part.now.seat in
    let kind = c.requires.kind in (
      c.requires.own,
      subst (λ n. a.place < n) (sym heap.wide) (subst (λ n. n < word_count (extent_of heap.shape)) (sym kind.1) (number_below (extent_of heap.shape) kind.0 kind.2)),
      subst (λ (t : HeapShape × HeapShape). Allows (IsKept t.0) heap.table.shared.table_id.slots seat.id seat.me a.place (λ _. a.new) (Tells t.1 g.J.Asks.intent (Store a.place a.new) seat.me)) (λ i. (sym heap.keyed i, sym c.requires.asks i))
          (allows heap.shape heap.table.shared.table_id.slots seat.id seat.me g.J.Asks.intent (Store a.place a.new) (λ _. a.new) (stores heap.shape seat.id seat.me g.J.Asks.intent a.place a.new a.part.now.live kind)),
    )
