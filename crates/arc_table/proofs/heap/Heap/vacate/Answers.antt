use Rattle.std.proofs.Common.{Some, refl, ◌∙◌}
use Rattle.arc_model.specs.declared.event.Act.TheVariants.{Vacate}
use Rattle.arc_table.specs.Seats.{shape_of, view_of, part_view}
use Rattle.arc_table.proofs.Possessing.{still_has}
use Rattle.arc_table.proofs.StrongCalls.{same_call}
use Rattle.arc_table.proofs.heap.Heap.vacate.Goals as goal

pub invariant_of-pass : goal.invariant_of-pass
invariant_of-pass c =
    let p = c.args.pass.now in
    let call = c.vacate_slot.ensures.called.1 in
    let same = same_call (shape_of c.args.self.now) (Some (Vacate c.args.freed.slot)) 1 (view_of p) (part_view c.vacate_slot.new.part) refl call in record {
      numbered = (same.number ∙ p.numbered.0, p.numbered.1);
      counted = same.made ∙ p.counted;
      parted = same.splits ∙ p.parted;
      alone = call.alone;
    }

pub returns-in_err-entry-clause-has : goal.returns-in_err-entry-clause-has
returns-in_err-entry-clause-has c = still_has (shape_of c.args.self.now) (Some (Vacate c.args.freed.slot)) 1 (view_of c.args.pass.now) (part_view c.vacate_slot.new.part) c.args.self.now.sized c.vacate_slot.ensures.called.1.called

pub returns-clause-has : goal.returns-clause-has
returns-clause-has c = still_has (shape_of c.args.self.now) (Some (Vacate c.args.freed.slot)) 1 (view_of c.args.pass.now) (part_view c.vacate_slot.new.part) c.args.self.now.sized c.vacate_slot.ensures.called.1.called
