use Rattle.arc_rule.specs.declared.step.Intent.TheVariants.{Vacate}
use Rattle.arc_table.proofs.heap.Heap.vacate.Given as goal

abbrev pub ghosts-vacate_slot : goal.ghosts-vacate_slot
ghosts-vacate_slot a = record { intent = Vacate; shape = a.self.now.shape }
