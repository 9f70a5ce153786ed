use Rattle.std.proofs.Common.{sym, subst, arith}
use Rattle.atomic_table.specs.Table.{Splits}
use Rattle.arc_view.specs.Rule.{IsKept}
use Rattle.arc_view.specs.Passes.{glanced, noted}
use Rattle.arc_view.proofs.Seats.{splits_note}
use Rattle.arc_table.proofs.heap.Heap.note.Goals as goal

pub split_seat-seat-requires : goal.split_seat-seat-requires
split_seat-seat-requires c =
    let heap = c.args.self.now in
    let seat = c.args.pass.now.part.seat in
    (c.requires.own, omega (arith, heap.wide), subst (λ k. Splits (IsKept k) seat.id seat.me.0 (glanced seat.me.0) (noted seat.me.0)) (sym heap.keyed) (splits_note heap.shape seat.id seat.me.0 c.args.pass.now.part.live))
