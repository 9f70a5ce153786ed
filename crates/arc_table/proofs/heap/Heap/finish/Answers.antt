use Rattle.std.proofs.Common.{true, false, None, Some, ◌∙◌}
use Rattle.arc_model.specs.declared.event.Act.TheVariants.{Finish}
use Rattle.arc_table.specs.Ends.{ended_act}
use Rattle.arc_table.specs.Seats.{shape_of, view_of, part_view}
use Rattle.arc_table.proofs.EndCalls.{ended_old}
use Rattle.arc_table.proofs.Possessing.{still_has}
use Rattle.arc_table.proofs.StrongCalls.{same_call}
use Rattle.arc_table.proofs.heap.Heap.finish.Goals as goal

pub invariant_of-pass : goal.invariant_of-pass
invariant_of-pass c =
    let p = c.args.pass.now in
    let call = c.end_deinit.ensures.called.1 in
    let same = same_call (shape_of c.args.self.now) (ended_act c.args.dying.slot c.end_deinit.result) 3 (view_of p) (part_view c.end_deinit.new.part) (ended_old c.args.dying.slot c.end_deinit.result) call in record {
      numbered = (same.number ∙ p.numbered.0, p.numbered.1);
      counted = same.made ∙ p.counted;
      parted = same.splits ∙ p.parted;
      alone = call.alone;
    }

pub returns-in-More-clause-has : goal.returns-in-More-clause-has
returns-in-More-clause-has c = still_has (shape_of c.args.self.now) (Some (Finish c.args.dying.slot false)) 3 (view_of c.args.pass.now) (part_view c.end_deinit.new.part) c.args.self.now.sized c.in-More.ensures.called.1.called

pub returns-in-Last-clause-has : goal.returns-in-Last-clause-has
returns-in-Last-clause-has c = still_has (shape_of c.args.self.now) (Some (Finish c.args.dying.slot true)) 3 (view_of c.args.pass.now) (part_view c.end_deinit.new.part) c.args.self.now.sized c.in-Last.ensures.called.1.called

pub returns-in-Again-clause-has : goal.returns-in-Again-clause-has
returns-in-Again-clause-has c = still_has (shape_of c.args.self.now) None 3 (view_of c.args.pass.now) (part_view c.end_deinit.new.part) c.args.self.now.sized c.in-Again.ensures.called.1.called
