use Rattle.std.proofs.Common.{ap, ◌∙◌}
use Rattle.arc_model.specs.Shapes.{CapNumbers}
use Rattle.arc_table.specs.Seats.{shape_of, part_view}
use Rattle.arc_table.specs.Tokens.{hand_of}
use Rattle.arc_table.proofs.Upping.{may_raise, has_raised}
use Rattle.arc_table.proofs.heap.Heap.raise_inline.Goals as goal

pub run_as-requires-clause-may : goal.run_as-requires-clause-may
run_as-requires-clause-may g c =
    let heap = c.args.self.now in
    let t = c.args.of.now in
    let cap_is = c.strong.ensures ∙ ap (λ (n : CapNumbers). n.strong) c.caps.ensures in
    may_raise (shape_of heap) (hand_of t) t.slot (part_view c.args.part.now) heap.sized heap.laid cap_is c.requires.asks.0 c.start-plan.ensures c.requires.held c.requires.free

pub returns-clause-called : goal.returns-clause-called
returns-clause-called g c =
    let heap = c.args.self.now in
    let t = c.args.of.now in
    let cap_is = c.strong.ensures ∙ ap (λ (n : CapNumbers). n.strong) c.caps.ensures in
    (c.run_as.ensures.same, (has_raised (shape_of heap) (hand_of t) t.slot (part_view c.args.part.now) heap.sized heap.laid cap_is c.requires.asks.0 c.start-plan.ensures c.requires.held c.requires.free c.run_as.result (part_view c.run_as.new.part) c.run_as.ensures.ran).1)

pub returns-clause-raised : goal.returns-clause-raised
returns-clause-raised g c =
    let heap = c.args.self.now in
    let t = c.args.of.now in
    let cap_is = c.strong.ensures ∙ ap (λ (n : CapNumbers). n.strong) c.caps.ensures in
    (has_raised (shape_of heap) (hand_of t) t.slot (part_view c.args.part.now) heap.sized heap.laid cap_is c.requires.asks.0 c.start-plan.ensures c.requires.held c.requires.free c.run_as.result (part_view c.run_as.new.part) c.run_as.ensures.ran).0

pub returns-clause-immortal : goal.returns-clause-immortal
returns-clause-immortal g c =
    let heap = c.args.self.now in
    let t = c.args.of.now in
    let cap_is = c.strong.ensures ∙ ap (λ (n : CapNumbers). n.strong) c.caps.ensures in
    (has_raised (shape_of heap) (hand_of t) t.slot (part_view c.args.part.now) heap.sized heap.laid cap_is c.requires.asks.0 c.start-plan.ensures c.requires.held c.requires.free c.run_as.result (part_view c.run_as.new.part) c.run_as.ensures.ran).2
