use Rattle.std.proofs.Common.{None, refl, ◌∙◌}
use Rattle.arc_table.specs.Seats.{shape_of, view_of, part_view}
use Rattle.arc_table.proofs.Possessing.{still_has}
use Rattle.arc_table.proofs.StrongCalls.{same_call}
use Rattle.arc_table.proofs.heap.Heap.name_of.Goals as goal

pub invariant_of-pass : goal.invariant_of-pass
invariant_of-pass c =
    let p = c.args.pass.now in
    let call = c.load_name.ensures.called.1 in
    let same = same_call (shape_of c.args.self.now) None 1 (view_of p) (part_view c.load_name.new.part) refl call in record {
      numbered = (same.number ∙ p.numbered.0, p.numbered.1);
      counted = same.made ∙ p.counted;
      parted = same.splits ∙ p.parted;
      alone = call.alone;
    }

pub returns-clause-has : goal.returns-clause-has
returns-clause-has c = still_has (shape_of c.args.self.now) None 1 (view_of c.args.pass.now) (part_view c.load_name.new.part) c.args.self.now.sized c.load_name.ensures.called.1.called
