use Rattle.arc_table.proofs.heap.Heap.step_for.Given as goal

abbrev pub ghosts-load_for : goal.ghosts-load_for
ghosts-load_for a = record { intent = a._intent; shape = a.self.now.shape }

abbrev pub ghosts-exchange_for : goal.ghosts-exchange_for
ghosts-exchange_for a = record { intent = a._intent; shape = a.self.now.shape }

abbrev pub ghosts-store_for : goal.ghosts-store_for
ghosts-store_for a = record { intent = a._intent; shape = a.self.now.shape }

abbrev pub ghosts-or_for : goal.ghosts-or_for
ghosts-or_for a = record { intent = a._intent; shape = a.self.now.shape }

abbrev pub ghosts-and_for : goal.ghosts-and_for
ghosts-and_for a = record { intent = a._intent; shape = a.self.now.shape }
