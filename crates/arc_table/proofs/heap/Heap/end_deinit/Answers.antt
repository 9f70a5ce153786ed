use Rattle.std.proofs.Common.{true, false, None, Some, arith}
use Rattle.arc_model.specs.declared.event.Act.TheVariants.{Finish}
use Rattle.arc_table.specs.Seats.{shape_of, part_view}
use Rattle.arc_table.proofs.EndCalls.{changed_in_entry}
use Rattle.arc_table.proofs.TwoParts.{call_most, call_two}
use Rattle.arc_table.proofs.heap.Heap.end_deinit.Goals as goal

pub returns-in-More-clause-called : goal.returns-in-More-clause-called
returns-in-More-clause-called g c = call_most (shape_of c.args.self.now) (Some (Finish c.args.slot false)) 2 3 c.args.part.now c.finish_inline.new.part (omega arith) c.in-More.ensures.called

pub returns-in-Last-clause-called : goal.returns-in-Last-clause-called
returns-in-Last-clause-called g c = call_most (shape_of c.args.self.now) (Some (Finish c.args.slot true)) 2 3 c.args.part.now c.finish_inline.new.part (omega arith) c.in-Last.ensures.called

pub returns-in-Again-clause-called : goal.returns-in-Again-clause-called
returns-in-Again-clause-called g c = call_most (shape_of c.args.self.now) None 2 3 c.args.part.now c.finish_inline.new.part (omega arith) c.in-Again.ensures.called

pub returns-in-More-finish_in_entry-clause-called : goal.returns-in-More-finish_in_entry-clause-called
returns-in-More-finish_in_entry-clause-called g c = call_two (shape_of c.args.self.now) (Some (Finish c.args.slot false)) 1 2 c.args.part.now c.finish_inline.new.part c.finish_in_entry.new.part c.in-Slow.ensures.called c.in-More-finish_in_entry.ensures.called

pub returns-in-Last-finish_in_entry-clause-called : goal.returns-in-Last-finish_in_entry-clause-called
returns-in-Last-finish_in_entry-clause-called g c = call_two (shape_of c.args.self.now) (Some (Finish c.args.slot true)) 1 2 c.args.part.now c.finish_inline.new.part c.finish_in_entry.new.part c.in-Slow.ensures.called c.in-Last-finish_in_entry.ensures.called

pub returns-in-Again-finish_in_entry-clause-called : goal.returns-in-Again-finish_in_entry-clause-called
returns-in-Again-finish_in_entry-clause-called g c = call_two (shape_of c.args.self.now) None 1 2 c.args.part.now c.finish_inline.new.part c.finish_in_entry.new.part c.in-Slow.ensures.called c.in-Again-finish_in_entry.ensures.called

pub returns-in-Again-finish_in_entry-clause-ended : goal.returns-in-Again-finish_in_entry-clause-ended
returns-in-Again-finish_in_entry-clause-ended g c =
    changed_in_entry (shape_of c.args.self.now) c.args.slot c.in-Slow.entry c.in-Again-finish_in_entry.changed (part_view c.args.part.now) (part_view c.finish_inline.new.part) (part_view c.finish_in_entry.new.part) c.finish_inline.ensures.walked c.in-Again-finish_in_entry.ensures.finished
