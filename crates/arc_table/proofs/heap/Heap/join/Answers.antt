use Rattle.std.proofs.Common.{ap, ◌∙◌}
use Rattle.arc_view.specs.Rule.{is_new, news}
use Rattle.arc_table.specs.Seats.{shape_of, view_of, part_view}
use Rattle.arc_view_laws.proofs.Counted.{counted_same}
use Rattle.arc_table.proofs.Possessing.{took_has}
use Rattle.arc_table.proofs.heap.Heap.join.Goals as goal

pub invariant_of-pass : goal.invariant_of-pass
invariant_of-pass c =
    let k = c.join_part.ensures.took.took in
    let p = c.args.pass.now in
    let w = part_view c.join_part.new.part in record {
      numbered = (k.number ∙ p.numbered.0, p.numbered.1);
      counted = ap (λ q. news q w.seen) k.number ∙ (counted_same is_new (view_of p).number w.seen (view_of p).seen k.own ∙ p.counted);
      parted = k.splits ∙ p.parted;
      alone = c.join_part.ensures.took.alone;
    }

pub returns-clause-has : goal.returns-clause-has
returns-clause-has c = took_has (shape_of c.args.self.now) (view_of c.args.pass.now) (part_view c.args.taken.part) (part_view c.join_part.new.part) c.args.self.now.sized c.join_part.ensures.took.took
