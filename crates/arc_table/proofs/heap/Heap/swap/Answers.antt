use Rattle.std.proofs.Common.{None, ◌∙◌}
use Rattle.arc_table.specs.declared.tokens.Swapped.TheVariants.{Ok}
use Rattle.arc_table.specs.Seats.{shape_of, view_of, part_view}
use Rattle.arc_table.specs.Cells.{hand_in, exchanged_act, swap_act}
use Rattle.arc_table.proofs.Possessing.{still_has}
use Rattle.arc_table.proofs.StrongCalls.{same_call}
use Rattle.arc_table.proofs.SwapCalls.{exchanged_old, swapped_ok}
use Rattle.arc_table.proofs.heap.Heap.swap.Goals as goal

pub invariant_of-pass : goal.invariant_of-pass
invariant_of-pass c =
    let p = c.args.pass.now in
    let call = c.exchange_global.ensures.called.1 in
    let same = same_call (shape_of c.args.self.now) (exchanged_act c.args.global (hand_in c.args.put) (view_of p) c.exchange_global.result) 2 (view_of p) (part_view c.exchange_global.new.part) (exchanged_old c.args.global (hand_in c.args.put) (view_of p) c.exchange_global.result) call in record {
      numbered = (same.number ∙ p.numbered.0, p.numbered.1);
      counted = same.made ∙ p.counted;
      parted = same.splits ∙ p.parted;
      alone = call.alone;
    }

pub returns-in-Took-clause-called : goal.returns-in-Took-clause-called
returns-in-Took-clause-called c = (swapped_ok (shape_of c.args.self.now) c.args.global c.args.put c.token_of.result c.args.pass.now.part c.exchange_global.new.part c.in-Took.word c.in-Took.ensures.called c.in-Took.ensures.exchanged c.token_of.ensures).0

pub returns-in-Took-clause-swapped : goal.returns-in-Took-clause-swapped
returns-in-Took-clause-swapped c = (swapped_ok (shape_of c.args.self.now) c.args.global c.args.put c.token_of.result c.args.pass.now.part c.exchange_global.new.part c.in-Took.word c.in-Took.ensures.called c.in-Took.ensures.exchanged c.token_of.ensures).1

pub returns-in-Took-clause-has : goal.returns-in-Took-clause-has
returns-in-Took-clause-has c =
    let call = swapped_ok (shape_of c.args.self.now) c.args.global c.args.put c.token_of.result c.args.pass.now.part c.exchange_global.new.part c.in-Took.word c.in-Took.ensures.called c.in-Took.ensures.exchanged c.token_of.ensures in
    still_has (shape_of c.args.self.now) (swap_act c.args.global c.args.put (Ok c.token_of.result)) 2 (view_of c.args.pass.now) (part_view c.exchange_global.new.part) c.args.self.now.sized call.0.1.called

pub returns-in-Busy-clause-has : goal.returns-in-Busy-clause-has
returns-in-Busy-clause-has c = still_has (shape_of c.args.self.now) None 2 (view_of c.args.pass.now) (part_view c.exchange_global.new.part) c.args.self.now.sized c.in-Busy.ensures.called.1.called

pub returns-in-Again-clause-has : goal.returns-in-Again-clause-has
returns-in-Again-clause-has c = still_has (shape_of c.args.self.now) None 2 (view_of c.args.pass.now) (part_view c.exchange_global.new.part) c.args.self.now.sized c.in-Again.ensures.called.1.called
