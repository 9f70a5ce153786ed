use Rattle.std.proofs.Common.{true, false, None, Some, refl, ◌∙◌}
use Rattle.arc_model.specs.declared.event.Act.TheVariants.{Drop}
use Rattle.arc_table.specs.Seats.{shape_of, view_of, part_view}
use Rattle.arc_table.specs.Tokens.{hand_of, lowered_act}
use Rattle.arc_view_laws.proofs.Deinits.{dies}
use Rattle.arc_table.proofs.Possessing.{still_has}
use Rattle.arc_table.proofs.StrongCalls.{same_call, lowered_old}
use Rattle.arc_table.proofs.heap.Heap.release.Goals as goal

pub invariant_of-pass : goal.invariant_of-pass
invariant_of-pass c =
    let p = c.args.pass.now in
    let call = c.lower.ensures.called.1 in
    let same = same_call (shape_of c.args.self.now) (lowered_act (hand_of c.args.held) c.lower.result) 3 (view_of p) (part_view c.lower.new.part) (lowered_old (hand_of c.args.held) c.lower.result) call in record {
      numbered = (same.number ∙ p.numbered.0, p.numbered.1);
      counted = same.made ∙ p.counted;
      parted = same.splits ∙ p.parted;
      alone = call.alone;
    }

pub returns-in-More-clause-has : goal.returns-in-More-clause-has
returns-in-More-clause-has c = still_has (shape_of c.args.self.now) (Some (Drop (hand_of c.args.held) false)) 3 (view_of c.args.pass.now) (part_view c.lower.new.part) c.args.self.now.sized c.in-More.ensures.called.1.called

pub returns-in-Last-clause-released : goal.returns-in-Last-clause-released
returns-in-Last-clause-released c = (refl, λ class strong. dies (shape_of c.args.self.now) (hand_of c.args.held) 3 (view_of c.args.pass.now) (part_view c.lower.new.part) c.args.held.slot class c.in-Last.ensures.called.1.called strong, c.in-Last.ensures.lowered)

pub returns-in-Last-clause-has : goal.returns-in-Last-clause-has
returns-in-Last-clause-has c = still_has (shape_of c.args.self.now) (Some (Drop (hand_of c.args.held) true)) 3 (view_of c.args.pass.now) (part_view c.lower.new.part) c.args.self.now.sized c.in-Last.ensures.called.1.called

pub returns-in-Again-clause-has : goal.returns-in-Again-clause-has
returns-in-Again-clause-has c = still_has (shape_of c.args.self.now) None 3 (view_of c.args.pass.now) (part_view c.lower.new.part) c.args.self.now.sized c.in-Again.ensures.called.1.called
