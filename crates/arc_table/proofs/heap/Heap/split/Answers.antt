use Rattle.std.proofs.Common.{◌≡◌, sym, ap, ◌∙◌, subst, arith}
use Rattle.atomic_table.specs.Table.{Me}
use Rattle.arc_view.specs.declared.view.View.{View}
use Rattle.arc_table.specs.Seats.{view_of}
use Rattle.arc_view_laws.specs.Strangers.{SeesNoStranger}
use Rattle.arc_view_laws.proofs.Counted.{newcomer_made}
use Rattle.arc_view.specs.Rule.{news}
use Rattle.atomic_table.specs.Table.{Splits}
use Rattle.arc_view.specs.Rule.{IsKept}
use Rattle.arc_view.specs.Passes.{parted, newcomer}
use Rattle.arc_view.proofs.Seats.{splits_pass}
use Rattle.arc_table.proofs.heap.Heap.split.Goals as goal

pub split_seat-seat-requires : goal.split_seat-seat-requires
split_seat-seat-requires c =
    let heap = c.args.self.now in
    let seat = c.args.pass.now.part.seat in
    (c.requires.own, omega (arith, heap.wide), subst (λ k. Splits (IsKept k) seat.id seat.me.0 (parted seat.me.0) (newcomer seat.me.0)) (sym heap.keyed) (splits_pass heap.shape seat.id seat.me.0 c.requires.first c.requires.room))

pub invariant_of-result : goal.invariant_of-result
invariant_of-result c =
    let p = c.args.pass.now in
    let v = view_of p in
    let room = c.requires.room in
    let splits = p.parted in
    let is : c.split_seat-seat.result.me.0 ≡ newcomer v = ap (λ (m : Me (Unit {0}) View). m.0) c.split_seat-seat.ensures.4 in record {
      numbered = (let e = ap (λ (x : View). x.number) is in omega (arith, e, splits), omega (arith, room, splits));
      counted = ap (λ (x : View). news x.number x.seen) is ∙ newcomer_made v p.alone c.requires.first.1;
      parted = ap (λ (x : View). x.splits) is;
      alone = subst SeesNoStranger (sym is) (λ z. absurd (omega (arith, z)));
    }
