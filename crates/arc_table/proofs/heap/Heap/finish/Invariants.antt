use Rattle.arc_rule.specs.declared.step.Intent.TheVariants.{Deinit}
use Rattle.arc_table.proofs.heap.Heap.finish.Given as goal

abbrev pub ghosts-end_deinit : goal.ghosts-end_deinit
ghosts-end_deinit a = record { intent = Deinit a.slot; shape = a.self.now.shape }
