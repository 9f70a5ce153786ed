use Rattle.arc_model.specs.declared.event.Origin.TheVariants.{Hand}
use Rattle.arc_rule.specs.declared.step.Intent.TheVariants.{Copy}
use Rattle.arc_table.specs.Tokens.{hand_of}
use Rattle.arc_table.proofs.heap.Heap.retain.Given as goal

abbrev pub ghosts-raise : goal.ghosts-raise
ghosts-raise a = record { intent = Copy (Hand (hand_of a.of.now)); shape = a.self.now.shape }
