use Rattle.arc_table.specs.Seats.{shape_of, part_view}
use Rattle.arc_table.specs.Tokens.{hand_of}
use Rattle.arc_table.proofs.EntryDowning.{may_lower, has_lowered}
use Rattle.arc_table.proofs.heap.Heap.lower_in_entry.Goals as goal

pub run_as-requires-clause-may : goal.run_as-requires-clause-may
run_as-requires-clause-may g c =
    let heap = c.args.self.now in
    may_lower (shape_of heap) (hand_of c.args.held.now) c.args.entry (part_view c.args.part.now) heap.laid c.requires.asks.0 c.start-plan.ensures c.requires.within c.requires.free c.requires.entry

pub returns-clause-called : goal.returns-clause-called
returns-clause-called g c =
    let heap = c.args.self.now in
    (c.run_as.ensures.same, (has_lowered (shape_of heap) (hand_of c.args.held.now) c.args.entry (part_view c.args.part.now) heap.laid c.requires.asks.0 c.start-plan.ensures c.requires.within c.requires.free c.requires.entry c.run_as.result (part_view c.run_as.new.part) c.run_as.ensures.ran).1)

pub returns-clause-lowered : goal.returns-clause-lowered
returns-clause-lowered g c =
    let heap = c.args.self.now in
    (has_lowered (shape_of heap) (hand_of c.args.held.now) c.args.entry (part_view c.args.part.now) heap.laid c.requires.asks.0 c.start-plan.ensures c.requires.within c.requires.free c.requires.entry c.run_as.result (part_view c.run_as.new.part) c.run_as.ensures.ran).0
