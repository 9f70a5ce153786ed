use Rattle.std.proofs.Common.{[], ◌≡◌, sym, ap, ◌∙◌, subst, arith}
use Rattle.atomic_table.specs.Table.{Me, Joins}
use Rattle.arc_rule.specs.declared.step.Intent.TheVariants.{Look}
use Rattle.arc_rule.specs.declared.step.Step.TheVariants.{Load}
use Rattle.arc_view.specs.declared.view.View.{View}
use Rattle.arc_view.specs.Views.{StartsWith, spent_view}
use Rattle.arc_view.specs.Rule.{IsKept}
use Rattle.arc_view.specs.Steps.{Told}
use Rattle.arc_view.specs.Passes.{met}
use Rattle.arc_view.specs.Calls.{Called}
use Rattle.arc_view.proofs.Ends.{meets}
use Rattle.arc_table.specs.Seats.{shape_of, part_view, seen_of}
use Rattle.arc_view_laws.proofs.Counted.{told_alone}
use Rattle.arc_view_laws.proofs.Growing.{look_allowed, met_called}
use Rattle.arc_table.proofs.heap.Heap.meet_part.Goals as goal

pub join_seat-requires : goal.join_seat-requires
join_seat-requires c =
    let a = c.args in
    let heap = a.self.now in
    let seat = a.part.now.seat in
    let other = a.note.seat in
    (c.requires.own.0, c.requires.own.1, a.note.bare, omega (arith, heap.wide), subst (λ k. Joins (IsKept k) seat.id seat.me.0 other.id other.me.0 (met seat.me.0 other.me.0) spent_view) (sym heap.keyed) (meets (Unit {0}) heap.shape seat.id seat.me.0 other.id other.me.0 a.part.now.live a.note.copied))

pub load_for-requires-clause-kind : goal.load_for-requires-clause-kind
load_for-requires-clause-kind c = look_allowed (shape_of c.args.self.now) c.join_seat.new.seat.me.0 (ap (λ (m : Me (Unit {0}) View). m.0.working.owes) c.join_seat.ensures.2 ∙ c.requires.free)

all : (c : goal.After-load_for) → Called (shape_of c.args.self.now) [] 2 (part_view c.args.part.now) (part_view c.load_for.new.part) × StartsWith (part_view c.load_for.new.part).seen (seen_of c.args.note) × ((part_view c.load_for.new.part).working ≡ (part_view c.args.part.now).working)
all c = let v = part_view c.args.part.now in let u = c.args.note.seat.me.0 in let w = part_view c.load_for.new.part in
    met_called (shape_of c.args.self.now) v u c.load_for.result w (subst (λ (a : View). Told (shape_of c.args.self.now) Look (Load 0) a c.load_for.result w) (ap (λ (m : Me (Unit {0}) View). m.0) c.join_seat.ensures.2) c.load_for.ensures.told)

pub returns-clause-called : goal.returns-clause-called
returns-clause-called c = let v = part_view c.args.part.now in let u = c.args.note.seat.me.0 in let w = part_view c.load_for.new.part in (
  c.load_for.ensures.same ∙ c.join_seat.ensures.0,
  record {
    called = (all c).0;
    working = (all c).2;
    alone = told_alone (shape_of c.args.self.now) Look (Load 0) (met v u) c.load_for.result w (subst (λ (a : View). Told (shape_of c.args.self.now) Look (Load 0) a c.load_for.result w) (ap (λ (m : Me (Unit {0}) View). m.0) c.join_seat.ensures.2) c.load_for.ensures.told);
  },
)

pub returns-clause-met : goal.returns-clause-met
returns-clause-met c = (all c).1
