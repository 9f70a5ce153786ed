use Rattle.arc_table.specs.Seats.{shape_of, part_view}
use Rattle.arc_table.proofs.Ending.{may_end_in_entry, has_ended_in_entry}
use Rattle.arc_table.proofs.heap.Heap.finish_in_entry.Goals as goal

pub run_as-requires-clause-may : goal.run_as-requires-clause-may
run_as-requires-clause-may g c =
    let heap = c.args.self.now in
    may_end_in_entry (shape_of heap) c.args.slot c.args.entry (part_view c.args.part.now) c.requires.free c.requires.dying c.requires.within heap.laid c.requires.asks.0 c.start-plan.ensures

pub returns-clause-called : goal.returns-clause-called
returns-clause-called g c =
    let heap = c.args.self.now in
    (c.run_as.ensures.same, (has_ended_in_entry (shape_of heap) c.args.slot c.args.entry (part_view c.args.part.now) c.requires.free c.requires.dying c.requires.within heap.laid c.requires.asks.0 c.start-plan.ensures c.run_as.result (part_view c.run_as.new.part) c.run_as.ensures.ran).1)

pub returns-clause-finished : goal.returns-clause-finished
returns-clause-finished g c =
    let heap = c.args.self.now in
    (has_ended_in_entry (shape_of heap) c.args.slot c.args.entry (part_view c.args.part.now) c.requires.free c.requires.dying c.requires.within heap.laid c.requires.asks.0 c.start-plan.ensures c.run_as.result (part_view c.run_as.new.part) c.run_as.ensures.ran).0
