use Rattle.std.proofs.Common.{sym, ap, ◌∙◌, subst, arith}
use Rattle.atomic_table.specs.Table.{Me, Joins}
use Rattle.arc_rule.specs.declared.step.Intent.TheVariants.{Look}
use Rattle.arc_rule.specs.declared.step.Step.TheVariants.{Load}
use Rattle.arc_view.specs.declared.view.View.{View}
use Rattle.arc_view.specs.Views.{spent_view}
use Rattle.arc_view.specs.Rule.{IsKept}
use Rattle.arc_view.specs.Steps.{Told}
use Rattle.arc_view.specs.Passes.{joined}
use Rattle.arc_view.proofs.Ends.{takes_in}
use Rattle.arc_table.specs.Seats.{shape_of, part_view}
use Rattle.arc_view_laws.proofs.Counted.{told_alone}
use Rattle.arc_view_laws.proofs.Growing.{look_allowed, joined_took}
use Rattle.arc_table.proofs.heap.Heap.join_part.Goals as goal

pub join_seat-requires : goal.join_seat-requires
join_seat-requires c =
    let a = c.args in
    let heap = a.self.now in
    let seat = a.part.now.seat in
    let other = a.taken.seat in
    (c.requires.own.0, c.requires.own.1, a.taken.bare, omega (arith, heap.wide), subst (λ k. Joins (IsKept k) seat.id seat.me.0 other.id other.me.0 (joined seat.me.0 other.me.0) spent_view) (sym heap.keyed) (takes_in (Unit {0}) heap.shape seat.id seat.me.0 other.id other.me.0 c.requires.first a.taken.live c.requires.nothing))

pub load_for-requires-clause-kind : goal.load_for-requires-clause-kind
load_for-requires-clause-kind c = look_allowed (shape_of c.args.self.now) c.join_seat.new.seat.me.0 (ap (λ (m : Me (Unit {0}) View). m.0.working.owes) c.join_seat.ensures.2 ∙ c.requires.free)

pub returns : goal.returns
returns c =
    let shape = shape_of c.args.self.now in
    let v = part_view c.args.part.now in
    let u = c.args.taken.seat.me.0 in
    let w = part_view c.load_for.new.part in
    let told = subst (λ (a : View). Told shape Look (Load 0) a c.load_for.result w) (ap (λ (m : Me (Unit {0}) View). m.0) c.join_seat.ensures.2) c.load_for.ensures.told in
    let took = joined_took shape v u c.load_for.result w told in
    record { took = record { same = c.load_for.ensures.same ∙ c.join_seat.ensures.0; took = took.0; working = took.1; alone = told_alone shape Look (Load 0) (joined v u) c.load_for.result w told } }
