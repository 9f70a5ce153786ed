use Rattle.arc_model.specs.declared.event.CellName.TheVariants.{Global}
use Rattle.arc_rule.specs.declared.step.Intent.TheVariants.{Swap}
use Rattle.arc_table.specs.Cells.{hand_in}
use Rattle.arc_table.proofs.heap.Heap.swap.Given as goal

abbrev pub ghosts-exchange_global : goal.ghosts-exchange_global
ghosts-exchange_global a = record { intent = Swap (Global a.global) (hand_in a.put.now); shape = a.self.now.shape }
