use Rattle.std.proofs.Common.{true, false, None, Some, ap, ◌∙◌, arith}
use Rattle.arc_model.specs.declared.event.Act.TheVariants.{Drop}
use Rattle.arc_view.specs.declared.view.Working.{Working}
use Rattle.arc_table.specs.Seats.{shape_of, part_view}
use Rattle.arc_table.specs.Tokens.{hand_of}
use Rattle.arc_table.proofs.TwoParts.{held_on, call_most, call_two, changed_on, not_immortal}
use Rattle.arc_table.proofs.heap.Heap.lower.Goals as goal

pub lower_in_entry-requires-clause-held : goal.lower_in_entry-requires-clause-held
lower_in_entry-requires-clause-held g c = held_on (shape_of c.args.self.now) (part_view c.args.part.now) (part_view c.lower_inline.new.part) c.args.held.now c.in-Slow.ensures.lowered.0 c.requires.held

pub lower_in_entry-requires-clause-free : goal.lower_in_entry-requires-clause-free
lower_in_entry-requires-clause-free g c = let works = c.in-Slow.ensures.called.1.working in record { owes = ap (λ (w : Working). w.owes) works ∙ c.requires.free.owes; access = ap (λ (w : Working). w.access) works ∙ c.requires.free.access }

pub returns-in-More-clause-called : goal.returns-in-More-clause-called
returns-in-More-clause-called g c = call_most (shape_of c.args.self.now) (Some (Drop (hand_of c.args.held.now) false)) 2 3 c.args.part.now c.lower_inline.new.part (omega arith) c.in-More.ensures.called

pub returns-in-Last-clause-called : goal.returns-in-Last-clause-called
returns-in-Last-clause-called g c = call_most (shape_of c.args.self.now) (Some (Drop (hand_of c.args.held.now) true)) 2 3 c.args.part.now c.lower_inline.new.part (omega arith) c.in-Last.ensures.called

pub returns-in-Again-clause-called : goal.returns-in-Again-clause-called
returns-in-Again-clause-called g c = call_most (shape_of c.args.self.now) None 2 3 c.args.part.now c.lower_inline.new.part (omega arith) c.in-Again.ensures.called

pub returns-in-More-lower_in_entry-clause-called : goal.returns-in-More-lower_in_entry-clause-called
returns-in-More-lower_in_entry-clause-called g c = call_two (shape_of c.args.self.now) (Some (Drop (hand_of c.args.held.now) false)) 1 2 c.args.part.now c.lower_inline.new.part c.lower_in_entry.new.part c.in-Slow.ensures.called c.in-More-lower_in_entry.ensures.called

pub returns-in-Last-lower_in_entry-clause-called : goal.returns-in-Last-lower_in_entry-clause-called
returns-in-Last-lower_in_entry-clause-called g c = call_two (shape_of c.args.self.now) (Some (Drop (hand_of c.args.held.now) true)) 1 2 c.args.part.now c.lower_inline.new.part c.lower_in_entry.new.part c.in-Slow.ensures.called c.in-Last-lower_in_entry.ensures.called

pub returns-in-Again-lower_in_entry-clause-called : goal.returns-in-Again-lower_in_entry-clause-called
returns-in-Again-lower_in_entry-clause-called g c = call_two (shape_of c.args.self.now) None 1 2 c.args.part.now c.lower_inline.new.part c.lower_in_entry.new.part c.in-Slow.ensures.called c.in-Again-lower_in_entry.ensures.called

pub returns-in-Again-lower_in_entry-clause-lowered : goal.returns-in-Again-lower_in_entry-clause-lowered
returns-in-Again-lower_in_entry-clause-lowered g c =
    changed_on (shape_of c.args.self.now) (hand_of c.args.held.now) c.args.held.now.slot c.in-Slow.entry (part_view c.args.part.now) (part_view c.lower_inline.new.part) (part_view c.lower_in_entry.new.part) c.lower_inline.ensures.walked c.in-Again-lower_in_entry.changed c.in-Again-lower_in_entry.ensures.lowered

pub returns-in-More-lower_in_entry-clause-immortal : goal.returns-in-More-lower_in_entry-clause-immortal
returns-in-More-lower_in_entry-clause-immortal g c = not_immortal (shape_of c.args.self.now) (hand_of c.args.held.now) c.args.held.now.slot (part_view c.args.part.now) (part_view c.lower_in_entry.new.part) c.in-Slow.ensures.lowered.3

pub returns-in-Last-lower_in_entry-clause-immortal : goal.returns-in-Last-lower_in_entry-clause-immortal
returns-in-Last-lower_in_entry-clause-immortal g c = not_immortal (shape_of c.args.self.now) (hand_of c.args.held.now) c.args.held.now.slot (part_view c.args.part.now) (part_view c.lower_in_entry.new.part) c.in-Slow.ensures.lowered.3

pub returns-in-Again-lower_in_entry-clause-immortal : goal.returns-in-Again-lower_in_entry-clause-immortal
returns-in-Again-lower_in_entry-clause-immortal g c = not_immortal (shape_of c.args.self.now) (hand_of c.args.held.now) c.args.held.now.slot (part_view c.args.part.now) (part_view c.lower_in_entry.new.part) c.in-Slow.ensures.lowered.3

pub returns-in-Last-lower_in_entry-clause-lowered : goal.returns-in-Last-lower_in_entry-clause-lowered
returns-in-Last-lower_in_entry-clause-lowered g c = c.in-Slow.ensures.lowered.3
