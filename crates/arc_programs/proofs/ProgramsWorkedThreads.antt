-- A worked program of two threads and the end section, tied to one legal history.
use Rattle.std.proofs.Common.{◌≡◌, List, [], ◌∷◌, Some, None, refl, true, false, arith}
use Rattle.arc_model.specs.declared.answer.Answer.TheVariants as answers
use Rattle.arc_model.specs.declared.event.Origin.TheVariants as origins
use Rattle.arc_model.specs.declared.event.Got.TheVariants as gots
use Rattle.arc_model.specs.declared.event.CellName.TheVariants as cells
use Rattle.arc_model.specs.declared.event.Act.TheVariants as acts
use Rattle.arc_model.specs.declared.shape.Kind.TheVariants.{Strong, Weak}
use Rattle.arc_model.specs.Shapes.{HeapShape}
use Rattle.arc_model.specs.History.{History, IsLegal}
use Rattle.arc_spelling.specs.Spelling.{Note}
use Rattle.arc_spelling.specs.Spelling.Note.{Did, Line, Operation, Name, Entry, NeedsEntry, Refers}
use Rattle.arc_spelling.specs.Spelling.IsEnd.{gone_more}
use Rattle.arc_spelling.specs.Spelling.FieldsDone.{named}
use Rattle.arc_spelling.specs.Spelling.IsDrop.{more, last_strong, last_weak}
use Rattle.arc_spelling.specs.Spelling.IsCascade.{finish_last}
use Rattle.arc_spelling.specs.SpellingGains.Spare.{Unclaimed, Published}
use Rattle.arc_spelling.specs.SpellingGains.IsReady.{start as ready, claimed, published}
use Rattle.arc_spelling.specs.SpellingGains.IsSettled.{unclaimed, published as stays_published}
use Rattle.arc_spelling.specs.SpellingTies.{Ties}
use Rattle.arc_spelling.specs.SpellingTies.Causes.{Judged}
use Rattle.arc_spelling.specs.SpellingTies.Ties.{start}
use Rattle.arc_spelling.proofs.SpellSteps.{Step, history_by, notes_by, tied_by}
use Rattle.arc_spelling.proofs.SpellSteps.Step.{Mine, Other, Note as Noted}
use Rattle.arc_script.specs.declared.script.Op.TheVariants as op
use Rattle.arc_script.specs.declared.script.OpCell.TheVariants as opcell
use Rattle.arc_script.specs.declared.script.ThreadDecl.{ThreadDecl}
use Rattle.arc_script.specs.declared.script.Script.{Script}
use Rattle.arc_programs.specs.Programs.{IsOp}
use Rattle.arc_programs.specs.Programs.IsDropped.{nothing, dropped}
use Rattle.arc_programs.specs.Programs.IsAnswered.{made, weak_formed, weakly_loaded, got, put_in_nil, given_up}
use Rattle.arc_programs.specs.Programs.OpsDone.{none, one}
use Rattle.arc_programs.specs.Programs.ScopeEnds.{begins, nil, dropped as var_dropped}
use Rattle.arc_programs.specs.Programs.GlobalsCleared.{begins as end_begins, cleared}
use Rattle.arc_programs.specs.ProgramsTied.{hands_in, IsSpelledIn}
use Rattle.arc_programs.specs.ProgramsTied.Spells.{thread, end}
use Rattle.arc_programs.proofs.ProgramsWorked.{held, by, variable, plain, object, node}

-- A weak load of one thread beside the drop of another: the loader drops the last strong reference, and the end section the
-- weak one in the global.

abbrev weak_global : HeapShape
weak_global = record plain { globals = record { kind = Weak; class = 0 } ∷ [] }

abbrev first_thread : ThreadDecl
first_thread = record { vars = variable 97 Strong 0 ∷ variable 119 Weak 0 ∷ []; phases = (op.New 0 0 ∷ op.Weak 1 0 ∷ op.Set (opcell.Global 0) 1 ∷ []) ∷ [] ∷ (op.Drop 0 ∷ []) ∷ [] }

abbrev second_thread : ThreadDecl
second_thread = record { vars = variable 120 Weak 0 ∷ variable 98 Strong 0 ∷ []; phases = [] ∷ (op.Get 0 (opcell.Global 0) ∷ []) ∷ (op.Load 1 0 ∷ []) ∷ [] }

abbrev race_script : Script
race_script = record { version = 1; shape = weak_global; classes = object ∷ []; globals = variable 103 Weak 0 ∷ []; threads = first_thread ∷ second_thread ∷ []; schedule = [] }

-- the events of all threads

abbrev race : History
race =
    by 0 (acts.Back 0) ∷
    by 0 (acts.Drop 1 true) ∷
    by 0 (acts.Swap (cells.Global 0) None (Some 1)) ∷
    by 2 (acts.Gone 0 false) ∷
    by 2 (acts.Vacate 0) ∷
    by 2 (acts.Finish 0 true) ∷
    by 2 (acts.Drop 2 true) ∷
    by 2 (acts.Drop 1 false) ∷
    by 1 (acts.Drop 1 false) ∷
    by 2 (acts.Load 1 (gots.Hand 2)) ∷
    by 2 (acts.Copy (origins.Cell (cells.Global 0)) 1) ∷
    by 1 (acts.Swap (cells.Global 0) (Some 2) None) ∷
    by 1 (acts.WeakOf 1 2) ∷
    by 1 (acts.Side 0 0 Weak) ∷
    by 1 (acts.Claim 0) ∷
    by 1 (acts.New 1 0 0) ∷
    []

race_legal : IsLegal weak_global race
race_legal = (refl, (refl, (refl, (refl, (refl, (refl, (refl, (refl, (refl, (refl, (refl, (refl, (refl, (refl, (refl, (refl, tt))))))))))))))))

-- the first thread

abbrev race_first_one_steps : List Step
race_first_one_steps =
    Noted (Operation 1) ∷
    Mine (acts.New 1 0 0) ∷
    Noted (Line (answers.New (node 1))) ∷
    []

abbrev race_first_one_history : History
race_first_one_history = history_by 1 race_first_one_steps []

abbrev race_first_one : List Note
race_first_one = notes_by race_first_one_steps []

race_first_one_tied : Ties Judged weak_global 1 race_first_one race_first_one_history
race_first_one_tied = tied_by weak_global 1 race_first_one_steps (tt, (tt, tt)) start

abbrev race_first_two_steps : List Step
race_first_two_steps =
    Noted (Operation 2) ∷
    Noted (NeedsEntry 0 Weak) ∷
    Mine (acts.Claim 0) ∷
    Mine (acts.Side 0 0 Weak) ∷
    Mine (acts.WeakOf 1 2) ∷
    Noted (Entry 0 (Some 0)) ∷
    Noted (Line answers.Ok) ∷
    []

abbrev race_first_two_history : History
race_first_two_history = history_by 1 race_first_two_steps race_first_one_history

abbrev race_first_two : List Note
race_first_two = notes_by race_first_two_steps race_first_one

race_first_two_tied : Ties Judged weak_global 1 race_first_two race_first_two_history
race_first_two_tied = tied_by weak_global 1 race_first_two_steps (tt, (refl, (refl, (tt, tt)))) race_first_one_tied

abbrev race_first_three_steps : List Step
race_first_three_steps =
    Noted (Operation 3) ∷
    Mine (acts.Swap (cells.Global 0) (Some 2) None) ∷
    Noted (Line answers.Ok) ∷
    []

abbrev race_first_three_history : History
race_first_three_history = history_by 1 race_first_three_steps race_first_two_history

abbrev race_first_three : List Note
race_first_three = notes_by race_first_three_steps race_first_two

race_first_three_tied : Ties Judged weak_global 1 race_first_three race_first_three_history
race_first_three_tied = tied_by weak_global 1 race_first_three_steps (tt, (tt, tt)) race_first_two_tied

abbrev race_first_four_steps : List Step
race_first_four_steps =
    Other (by 2 (acts.Copy (origins.Cell (cells.Global 0)) 1)) ∷
    Other (by 2 (acts.Load 1 (gots.Hand 2))) ∷
    Noted (Operation 4) ∷
    Noted (Line answers.Ok) ∷
    Mine (acts.Drop 1 false) ∷
    []

abbrev race_first_four_history : History
race_first_four_history = history_by 1 race_first_four_steps race_first_three_history

abbrev race_first_four : List Note
race_first_four = notes_by race_first_four_steps race_first_three

race_first_four_tied : Ties Judged weak_global 1 race_first_four race_first_four_history
race_first_four_tied = tied_by weak_global 1 race_first_four_steps (refl, (refl, (tt, (tt, tt)))) race_first_three_tied

abbrev race_first_end_steps : List Step
race_first_end_steps =
    Noted (Operation 0) ∷
    Other (by 2 (acts.Drop 1 false)) ∷
    Other (by 2 (acts.Drop 2 true)) ∷
    Other (by 2 (acts.Finish 0 true)) ∷
    Other (by 2 (acts.Vacate 0)) ∷
    Other (by 2 (acts.Gone 0 false)) ∷
    Other (by 0 (acts.Swap (cells.Global 0) None (Some 1))) ∷
    Other (by 0 (acts.Drop 1 true)) ∷
    Other (by 0 (acts.Back 0)) ∷
    []

abbrev race_first_history : History
race_first_history = history_by 1 race_first_end_steps race_first_four_history

abbrev race_first_notes : List Note
race_first_notes = notes_by race_first_end_steps race_first_four

race_first_tied : Ties Judged weak_global 1 race_first_notes race_first_history
race_first_tied = tied_by weak_global 1 race_first_end_steps (tt, (refl, (refl, (refl, (refl, (refl, (refl, (refl, (refl, tt))))))))) race_first_four_tied

race_first_does_one : IsOp weak_global 1 (hands_in 1 race_first_history) 1 (op.New 0 0) (None ∷ None ∷ []) [] (Some (held 1 Strong 0) ∷ None ∷ []) race_first_one
race_first_does_one = record { answer = answers.New (node 1); last = None; answered = Did (acts.New 1 0 0) ∷ Operation 1 ∷ []; does = made refl refl (record { replaced = refl; old = refl }); ends = nothing }

race_first_does_two : IsOp weak_global 1 (hands_in 1 race_first_history) 2 (op.Weak 1 0) (Some (held 1 Strong 0) ∷ None ∷ []) race_first_one (Some (held 1 Strong 0) ∷ Some (held 2 Weak 0) ∷ []) race_first_two
race_first_does_two = record { answer = answers.Ok; last = None; answered = Entry 0 (Some 0) ∷ Did (acts.WeakOf 1 2) ∷ Did (acts.Side 0 0 Weak) ∷ Did (acts.Claim 0) ∷ NeedsEntry 0 Weak ∷ Operation 2 ∷ race_first_one; does = weak_formed refl refl (record { spare = Published; decided = Did (acts.Side 0 0 Weak) ∷ Did (acts.Claim 0) ∷ NeedsEntry 0 Weak ∷ Operation 2 ∷ race_first_one; ready = published (claimed ready refl); settled = stays_published }) (record { replaced = refl; old = refl }); ends = nothing }

race_first_does_three : IsOp weak_global 1 (hands_in 1 race_first_history) 3 (op.Set (opcell.Global 0) 1) (Some (held 1 Strong 0) ∷ Some (held 2 Weak 0) ∷ []) race_first_two (Some (held 1 Strong 0) ∷ None ∷ []) race_first_three
race_first_does_three = record { answer = answers.Ok; last = None; answered = Did (acts.Swap (cells.Global 0) (Some 2) None) ∷ Operation 3 ∷ race_first_two; does = put_in_nil refl refl refl; ends = nothing }

race_first_does_four : IsOp weak_global 1 (hands_in 1 race_first_history) 4 (op.Drop 0) (Some (held 1 Strong 0) ∷ None ∷ []) race_first_three (None ∷ None ∷ []) race_first_four
race_first_does_four = record { answer = answers.Ok; last = Some (held 1 Strong 0); answered = Operation 4 ∷ race_first_three; does = given_up refl (record { replaced = refl; old = refl }) refl; ends = dropped more }

pub race_first : IsSpelledIn race_script 1
    (record { operation = 1; answer = answers.New (node 1) } ∷ record { operation = 2; answer = answers.Ok } ∷ record { operation = 3; answer = answers.Ok } ∷ record { operation = 4; answer = answers.Ok } ∷ [])
    race_first_history
race_first =
    record {
      notes = race_first_notes;
      tied = race_first_tied;
      spelled = thread (omega arith) refl (record { vars = None ∷ None ∷ []; worked = race_first_four; ops = one (one (one (one (none refl) refl refl race_first_does_one) refl refl race_first_does_two) refl refl race_first_does_three) refl refl race_first_does_four; left = None ∷ None ∷ []; scope = nil (nil begins (omega arith) refl refl) (omega arith) refl refl });
      lines_are = refl;
    }

-- the second thread

abbrev race_second_one_steps : List Step
race_second_one_steps =
    Other (by 1 (acts.New 1 0 0)) ∷
    Other (by 1 (acts.Claim 0)) ∷
    Other (by 1 (acts.Side 0 0 Weak)) ∷
    Other (by 1 (acts.WeakOf 1 2)) ∷
    Other (by 1 (acts.Swap (cells.Global 0) (Some 2) None)) ∷
    Noted (Operation 1) ∷
    Noted (Refers (cells.Global 0) Weak 0) ∷
    Mine (acts.Copy (origins.Cell (cells.Global 0)) 1) ∷
    Noted (Line answers.Ok) ∷
    []

abbrev race_second_one_history : History
race_second_one_history = history_by 2 race_second_one_steps []

abbrev race_second_one : List Note
race_second_one = notes_by race_second_one_steps []

race_second_one_tied : Ties Judged weak_global 2 race_second_one race_second_one_history
race_second_one_tied = tied_by weak_global 2 race_second_one_steps (refl, (refl, (refl, (refl, (refl, (tt, (refl, (tt, tt)))))))) start

abbrev race_second_two_steps : List Step
race_second_two_steps =
    Noted (Operation 2) ∷
    Mine (acts.Load 1 (gots.Hand 2)) ∷
    Noted (Entry 0 (Some 0)) ∷
    Noted (Name 0 (node 1)) ∷
    Noted (Line (answers.Got (node 1))) ∷
    []

abbrev race_second_two_history : History
race_second_two_history = history_by 2 race_second_two_steps race_second_one_history

abbrev race_second_two : List Note
race_second_two = notes_by race_second_two_steps race_second_one

race_second_two_tied : Ties Judged weak_global 2 race_second_two race_second_two_history
race_second_two_tied = tied_by weak_global 2 race_second_two_steps (tt, (refl, (refl, (tt, tt)))) race_second_one_tied

abbrev race_second_end_steps : List Step
race_second_end_steps =
    Noted (Operation 0) ∷
    Other (by 1 (acts.Drop 1 false)) ∷
    Mine (acts.Drop 1 false) ∷
    Mine (acts.Drop 2 true) ∷
    Noted (Name 0 (node 1)) ∷
    Noted (Line (answers.Deinit (node 1))) ∷
    Mine (acts.Finish 0 true) ∷
    Noted (Entry 0 (Some 0)) ∷
    Mine (acts.Vacate 0) ∷
    Mine (acts.Gone 0 false) ∷
    Other (by 0 (acts.Swap (cells.Global 0) None (Some 1))) ∷
    Other (by 0 (acts.Drop 1 true)) ∷
    Other (by 0 (acts.Back 0)) ∷
    []

abbrev race_second_history : History
race_second_history = history_by 2 race_second_end_steps race_second_two_history

abbrev race_second_notes : List Note
race_second_notes = notes_by race_second_end_steps race_second_two

race_second_tied : Ties Judged weak_global 2 race_second_notes race_second_history
race_second_tied = tied_by weak_global 2 race_second_end_steps (tt, (refl, (refl, (tt, (refl, (refl, (refl, (refl, tt)))))))) race_second_two_tied

race_second_does_one : IsOp weak_global 2 (hands_in 2 race_second_history) 1 (op.Get 0 (opcell.Global 0)) (None ∷ None ∷ []) [] (Some (held 1 Weak 0) ∷ None ∷ []) race_second_one
race_second_does_one = record { answer = answers.Ok; last = None; answered = Did (acts.Copy (origins.Cell (cells.Global 0)) 1) ∷ Refers (cells.Global 0) Weak 0 ∷ Operation 1 ∷ []; does = got refl refl refl (record { spare = Unclaimed; decided = Refers (cells.Global 0) Weak 0 ∷ Operation 1 ∷ []; ready = ready; settled = unclaimed }) (record { replaced = refl; old = refl }); ends = nothing }

race_second_does_two : IsOp weak_global 2 (hands_in 2 race_second_history) 2 (op.Load 1 0) (Some (held 1 Weak 0) ∷ None ∷ []) race_second_one (Some (held 1 Weak 0) ∷ Some (held 2 Strong 0) ∷ []) race_second_two
race_second_does_two = record { answer = answers.Got (node 1); last = None; answered = Name 0 (node 1) ∷ Entry 0 (Some 0) ∷ Did (acts.Load 1 (gots.Hand 2)) ∷ Operation 2 ∷ race_second_one; does = weakly_loaded refl refl refl (record { spare = Unclaimed; decided = Operation 2 ∷ race_second_one; ready = ready; settled = unclaimed }) (record { replaced = refl; old = refl }); ends = nothing }

pub race_second : IsSpelledIn race_script 2
    (record { operation = 1; answer = answers.Ok } ∷ record { operation = 2; answer = answers.Got (node 1) } ∷ record { operation = 0; answer = answers.Deinit (node 1) } ∷ [])
    race_second_history
race_second =
    record {
      notes = race_second_notes;
      tied = race_second_tied;
      spelled = thread (omega arith) refl (record { vars = Some (held 1 Weak 0) ∷ Some (held 2 Strong 0) ∷ []; worked = race_second_two; ops = one (one (none refl) refl refl race_second_does_one) refl refl race_second_does_two; left = None ∷ None ∷ []; scope = var_dropped (var_dropped begins (omega arith) refl refl refl more) (omega arith) refl refl refl (last_strong (finish_last named refl gone_more)) });
      lines_are = refl;
    }

-- the end section

abbrev race_end_steps : List Step
race_end_steps =
    Noted (Operation 0) ∷
    Other (by 1 (acts.New 1 0 0)) ∷
    Other (by 1 (acts.Claim 0)) ∷
    Other (by 1 (acts.Side 0 0 Weak)) ∷
    Other (by 1 (acts.WeakOf 1 2)) ∷
    Other (by 1 (acts.Swap (cells.Global 0) (Some 2) None)) ∷
    Other (by 2 (acts.Copy (origins.Cell (cells.Global 0)) 1)) ∷
    Other (by 2 (acts.Load 1 (gots.Hand 2))) ∷
    Other (by 1 (acts.Drop 1 false)) ∷
    Other (by 2 (acts.Drop 1 false)) ∷
    Other (by 2 (acts.Drop 2 true)) ∷
    Other (by 2 (acts.Finish 0 true)) ∷
    Other (by 2 (acts.Vacate 0)) ∷
    Other (by 2 (acts.Gone 0 false)) ∷
    Mine (acts.Swap (cells.Global 0) None (Some 1)) ∷
    Mine (acts.Drop 1 true) ∷
    Mine (acts.Back 0) ∷
    []

abbrev race_end_history : History
race_end_history = history_by 0 race_end_steps []

abbrev race_end_notes : List Note
race_end_notes = notes_by race_end_steps []

race_end_tied : Ties Judged weak_global 0 race_end_notes race_end_history
race_end_tied = tied_by weak_global 0 race_end_steps (tt, (refl, (refl, (refl, (refl, (refl, (refl, (refl, (refl, (refl, (refl, (refl, (refl, (refl, tt)))))))))))))) start

pub race_end : IsSpelledIn race_script 0 ([]) race_end_history
race_end = record { notes = race_end_notes; tied = race_end_tied; spelled = end (cleared end_begins (omega arith) refl refl refl last_weak) refl; lines_are = refl }

-- all three are of the one history

histories_agree : (race_first_history ≡ race) × (race_second_history ≡ race) × (race_end_history ≡ race)
histories_agree = (refl, refl, refl)
