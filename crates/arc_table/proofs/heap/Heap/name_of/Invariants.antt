use Rattle.arc_rule.specs.declared.step.Intent.TheVariants.{Look}
use Rattle.arc_table.proofs.heap.Heap.name_of.Given as goal

abbrev pub ghosts-load_name : goal.ghosts-load_name
ghosts-load_name a = record { intent = Look; shape = a.self.now.shape }
