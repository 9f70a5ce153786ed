use Rattle.std.proofs.Common.{None, Some, arith}
use Rattle.arc_model.specs.declared.event.Act.TheVariants.{CountFull}
use Rattle.arc_model.specs.declared.event.Origin.TheVariants.{Hand}
use Rattle.arc_model.specs.declared.shape.Kind.TheVariants.{Strong}
use Rattle.arc_table.specs.declared.strong.Raised.TheVariants.{Up}
use Rattle.arc_table.specs.Seats.{shape_of, part_view}
use Rattle.arc_table.specs.Tokens.{hand_of, raised_act}
use Rattle.arc_table.proofs.TwoParts.{held_on, call_most, call_two, copied_call, copied_stands, full_on, changed_on, not_immortal}
use Rattle.arc_table.proofs.heap.Heap.raise.Goals as goal

pub raise_in_entry-requires-clause-held : goal.raise_in_entry-requires-clause-held
raise_in_entry-requires-clause-held g c = held_on (shape_of c.args.self.now) (part_view c.args.part.now) (part_view c.raise_inline.new.part) c.args.of.now c.in-Slow.ensures.raised.0 c.requires.held

pub returns-in-Up-clause-called : goal.returns-in-Up-clause-called
returns-in-Up-clause-called g c = call_most (shape_of c.args.self.now) (raised_act (hand_of c.args.of.now) (part_view c.args.part.now) Up) 2 3 c.args.part.now c.raise_inline.new.part (omega arith) c.in-Up.ensures.called

pub returns-in-AtCap-clause-called : goal.returns-in-AtCap-clause-called
returns-in-AtCap-clause-called g c = call_most (shape_of c.args.self.now) None 1 3 c.args.part.now c.raise_inline.new.part (omega arith) c.in-AtCap.ensures.called

pub returns-in-Again-clause-called : goal.returns-in-Again-clause-called
returns-in-Again-clause-called g c = call_most (shape_of c.args.self.now) None 2 3 c.args.part.now c.raise_inline.new.part (omega arith) c.in-Again.ensures.called

pub returns-in-Up-raise_in_entry-clause-called : goal.returns-in-Up-raise_in_entry-clause-called
returns-in-Up-raise_in_entry-clause-called g c = copied_call (shape_of c.args.self.now) (hand_of c.args.of.now) c.args.part.now c.raise_inline.new.part c.raise_in_entry.new.part c.in-Slow.ensures.called c.in-Up-raise_in_entry.ensures.called

pub returns-in-Up-raise_in_entry-clause-raised : goal.returns-in-Up-raise_in_entry-clause-raised
returns-in-Up-raise_in_entry-clause-raised g c =
    copied_stands (hand_of c.args.of.now) 1 (part_view c.args.part.now) (part_view c.raise_inline.new.part) (part_view c.raise_in_entry.new.part) c.in-Slow.ensures.called.1.called.grew c.in-Slow.ensures.raised.0 c.in-Up-raise_in_entry.ensures.raised

pub returns-in-CountFull-clause-called : goal.returns-in-CountFull-clause-called
returns-in-CountFull-clause-called g c =
    let act = Some (CountFull Strong (Hand (hand_of c.args.of.now))) in
    call_most (shape_of c.args.self.now) act 2 3 c.args.part.now c.raise_in_entry.new.part (omega arith) (call_two (shape_of c.args.self.now) act 1 1 c.args.part.now c.raise_inline.new.part c.raise_in_entry.new.part c.in-Slow.ensures.called c.in-CountFull.ensures.called)

pub returns-in-CountFull-clause-raised : goal.returns-in-CountFull-clause-raised
returns-in-CountFull-clause-raised g c =
    full_on (shape_of c.args.self.now) (hand_of c.args.of.now) c.args.of.now.slot c.in-Slow.entry (part_view c.args.part.now) (part_view c.raise_inline.new.part) (part_view c.raise_in_entry.new.part) c.raise_inline.ensures.walked c.in-CountFull.ensures.raised

pub returns-in-Again-raise_in_entry-clause-called : goal.returns-in-Again-raise_in_entry-clause-called
returns-in-Again-raise_in_entry-clause-called g c = call_two (shape_of c.args.self.now) None 1 2 c.args.part.now c.raise_inline.new.part c.raise_in_entry.new.part c.in-Slow.ensures.called c.in-Again-raise_in_entry.ensures.called

pub returns-in-Again-raise_in_entry-clause-raised : goal.returns-in-Again-raise_in_entry-clause-raised
returns-in-Again-raise_in_entry-clause-raised g c =
    changed_on (shape_of c.args.self.now) (hand_of c.args.of.now) c.args.of.now.slot c.in-Slow.entry (part_view c.args.part.now) (part_view c.raise_inline.new.part) (part_view c.raise_in_entry.new.part) c.raise_inline.ensures.walked c.in-Again-raise_in_entry.changed c.in-Again-raise_in_entry.ensures.raised

pub returns-in-Up-raise_in_entry-clause-immortal : goal.returns-in-Up-raise_in_entry-clause-immortal
returns-in-Up-raise_in_entry-clause-immortal g c = not_immortal (shape_of c.args.self.now) (hand_of c.args.of.now) c.args.of.now.slot (part_view c.args.part.now) (part_view c.raise_in_entry.new.part) c.in-Slow.ensures.raised.3

pub returns-in-CountFull-clause-immortal : goal.returns-in-CountFull-clause-immortal
returns-in-CountFull-clause-immortal g c = not_immortal (shape_of c.args.self.now) (hand_of c.args.of.now) c.args.of.now.slot (part_view c.args.part.now) (part_view c.raise_in_entry.new.part) c.in-Slow.ensures.raised.3

pub returns-in-Again-raise_in_entry-clause-immortal : goal.returns-in-Again-raise_in_entry-clause-immortal
returns-in-Again-raise_in_entry-clause-immortal g c = not_immortal (shape_of c.args.self.now) (hand_of c.args.of.now) c.args.of.now.slot (part_view c.args.part.now) (part_view c.raise_in_entry.new.part) c.in-Slow.ensures.raised.3
