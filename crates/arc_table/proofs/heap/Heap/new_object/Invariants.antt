use Rattle.arc_rule.specs.declared.step.Intent.TheVariants.{New}
use Rattle.arc_table.proofs.heap.Heap.new_object.Given as goal

abbrev pub ghosts-create : goal.ghosts-create
ghosts-create a = record { intent = New a.name.class; shape = a.self.now.shape }
