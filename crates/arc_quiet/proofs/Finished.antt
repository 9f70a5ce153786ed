-- Between its operations a thread owes nothing, and one whose program came to its end has nothing.
use Rattle.std.proofs.Common.{arith}
use Rattle.arc_model.specs.History.{heap_after}
use Rattle.arc_quiet.specs.Finished.{SettledBetweenOperations, FinishedIsQuiet}
use Rattle.arc_programs.specs.ProgramsTied.{hands_in}
use Rattle.arc_quiet.proofs.Tied.{hands_bound, debts_bound, settled_if_none, quiet_if_none}
use Rattle.arc_quiet.proofs.ProgramsCounted.{ops_balanced, spelled_balanced}

pub settled_between_operations : SettledBetweenOperations
settled_between_operations causes script p n decl came vars notes h is legal at done tied =
    let b = ops_balanced script p n decl came vars notes is at done in
    let d = debts_bound causes script.shape p notes h is.heading.caps.unowned_fits.0 tied legal in
    settled_if_none p (heap_after h) (omega arith)

pub finished_is_quiet : FinishedIsQuiet
finished_is_quiet causes script p lines h is legal x =
    let b = spelled_balanced script (hands_in p h) p x.notes is x.spelled in let bh = b.hands in let bd = b.debts in
    let a = hands_bound causes script.shape p x.notes h x.tied legal in
    let d = debts_bound causes script.shape p x.notes h is.heading.caps.unowned_fits.0 x.tied legal in
    quiet_if_none script.shape p h legal (omega arith) (omega arith)
