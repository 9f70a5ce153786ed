use Rattle.arc_rule.specs.declared.step.Intent.TheVariants.{Drop}
use Rattle.arc_table.specs.Tokens.{hand_of}
use Rattle.arc_table.proofs.heap.Heap.release.Given as goal

abbrev pub ghosts-lower : goal.ghosts-lower
ghosts-lower a = record { intent = Drop (hand_of a.held.now); shape = a.self.now.shape }
