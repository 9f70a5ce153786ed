use Rattle.arc_table.proofs.heap.Heap.meet_part.Given as goal

abbrev pub ghosts-load_for : goal.ghosts-load_for
ghosts-load_for a = record { intent = a._intent; shape = a.self.now.shape }
