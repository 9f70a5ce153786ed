-- A worked program of old values and nil, tied to a legal history.
use Rattle.std.proofs.Common.{◌≡◌, List, [], ◌∷◌, Some, None, refl, true, false, arith}
use Rattle.arc_model.specs.declared.answer.Answer.TheVariants as answers
use Rattle.arc_model.specs.declared.event.Origin.TheVariants as origins
use Rattle.arc_model.specs.declared.event.CellName.TheVariants as cells
use Rattle.arc_model.specs.declared.event.Act.TheVariants as acts
use Rattle.arc_model.specs.declared.shape.Kind.TheVariants.{Strong}
use Rattle.arc_model.specs.Shapes.{HeapShape}
use Rattle.arc_model.specs.History.{History, IsLegal}
use Rattle.arc_spelling.specs.Spelling.{Note}
use Rattle.arc_spelling.specs.Spelling.Note.{Did, Line, Operation, Name, Entry}
use Rattle.arc_spelling.specs.Spelling.IsEnd.{inline}
use Rattle.arc_spelling.specs.Spelling.FieldsDone.{named}
use Rattle.arc_spelling.specs.Spelling.IsDrop.{more, last_strong}
use Rattle.arc_spelling.specs.Spelling.IsCascade.{finish_last}
use Rattle.arc_spelling.specs.SpellingGains.Spare.{Unclaimed}
use Rattle.arc_spelling.specs.SpellingGains.IsReady.{start as ready}
use Rattle.arc_spelling.specs.SpellingGains.IsSettled.{unclaimed}
use Rattle.arc_spelling.specs.SpellingTies.{Ties}
use Rattle.arc_spelling.specs.SpellingTies.Causes.{Judged}
use Rattle.arc_spelling.specs.SpellingTies.Ties.{start}
use Rattle.arc_spelling.proofs.SpellSteps.{Step, history_by, notes_by, tied_by}
use Rattle.arc_spelling.proofs.SpellSteps.Step.{Mine, Other, Note as Noted}
use Rattle.arc_script.specs.declared.script.Op.{Op}
use Rattle.arc_script.specs.declared.script.Op.TheVariants as op
use Rattle.arc_script.specs.declared.script.OpCell.TheVariants as opcell
use Rattle.arc_script.specs.declared.script.Script.{Script}
use Rattle.arc_programs.specs.Programs.{IsOp}
use Rattle.arc_programs.specs.Programs.IsFromNil.{copy as copy_from_nil}
use Rattle.arc_programs.specs.Programs.IsDropped.{nothing, dropped}
use Rattle.arc_programs.specs.Programs.IsAnswered.{made, copied, looked, put_in_nil, swapped, from_nil}
use Rattle.arc_programs.specs.Programs.OpsDone.{none, one}
use Rattle.arc_programs.specs.Programs.ScopeEnds.{begins, nil}
use Rattle.arc_programs.specs.Programs.GlobalsCleared.{begins as end_begins, nil as global_nil}
use Rattle.arc_programs.specs.ProgramsTied.{hands_in, IsSpelledIn}
use Rattle.arc_programs.specs.ProgramsTied.Spells.{thread, end}
use Rattle.arc_programs.proofs.ProgramsWorked.{held, by, variable, plain, object, node}

-- Old values and nil: what a destination held, and what a cell held, is dropped last, behind the line of the operation.

abbrev one_global : HeapShape
one_global = record plain { slots = 2; globals = record { kind = Strong; class = 0 } ∷ [] }

abbrev changes : List Op
changes =
    op.New 0 0 ∷
    op.New 1 0 ∷
    op.Copy 1 0 ∷
    op.Set (opcell.Global 0) 0 ∷
    op.Set (opcell.Global 0) 1 ∷
    op.Copy 0 1 ∷
    op.Set (opcell.Global 0) 0 ∷
    op.Get 1 (opcell.Global 0) ∷
    []

abbrev renewed_script : Script
renewed_script = record { version = 1; shape = one_global; classes = object ∷ []; globals = variable 103 Strong 0 ∷ []; threads = record { vars = variable 97 Strong 0 ∷ variable 98 Strong 0 ∷ []; phases = changes ∷ [] } ∷ []; schedule = [] }

abbrev renewed_one_steps : List Step
renewed_one_steps =
    Noted (Operation 1) ∷
    Mine (acts.New 1 0 0) ∷
    Noted (Line (answers.New (node 1))) ∷
    []

abbrev renewed_one_history : History
renewed_one_history = history_by 1 renewed_one_steps []

abbrev renewed_one : List Note
renewed_one = notes_by renewed_one_steps []

renewed_one_tied : Ties Judged one_global 1 renewed_one renewed_one_history
renewed_one_tied = tied_by one_global 1 renewed_one_steps (tt, (tt, tt)) start

abbrev renewed_two_steps : List Step
renewed_two_steps =
    Noted (Operation 2) ∷
    Mine (acts.New 2 0 1) ∷
    Noted (Line (answers.New (node 2))) ∷
    []

abbrev renewed_two_history : History
renewed_two_history = history_by 1 renewed_two_steps renewed_one_history

abbrev renewed_two : List Note
renewed_two = notes_by renewed_two_steps renewed_one

renewed_two_tied : Ties Judged one_global 1 renewed_two renewed_two_history
renewed_two_tied = tied_by one_global 1 renewed_two_steps (tt, (tt, tt)) renewed_one_tied

abbrev renewed_three_steps : List Step
renewed_three_steps =
    Noted (Operation 3) ∷
    Mine (acts.Copy (origins.Hand 1) 3) ∷
    Noted (Line answers.Ok) ∷
    Mine (acts.Drop 2 true) ∷
    Noted (Name 1 (node 2)) ∷
    Noted (Line (answers.Deinit (node 2))) ∷
    Mine (acts.Finish 1 true) ∷
    Noted (Entry 1 None) ∷
    Mine (acts.Vacate 1) ∷
    []

abbrev renewed_three_history : History
renewed_three_history = history_by 1 renewed_three_steps renewed_two_history

abbrev renewed_three : List Note
renewed_three = notes_by renewed_three_steps renewed_two

renewed_three_tied : Ties Judged one_global 1 renewed_three renewed_three_history
renewed_three_tied = tied_by one_global 1 renewed_three_steps (tt, (tt, (refl, (tt, (refl, tt))))) renewed_two_tied

abbrev renewed_four_steps : List Step
renewed_four_steps =
    Noted (Operation 4) ∷
    Mine (acts.Swap (cells.Global 0) (Some 1) None) ∷
    Noted (Line answers.Ok) ∷
    []

abbrev renewed_four_history : History
renewed_four_history = history_by 1 renewed_four_steps renewed_three_history

abbrev renewed_four : List Note
renewed_four = notes_by renewed_four_steps renewed_three

renewed_four_tied : Ties Judged one_global 1 renewed_four renewed_four_history
renewed_four_tied = tied_by one_global 1 renewed_four_steps (tt, (tt, tt)) renewed_three_tied

abbrev renewed_five_steps : List Step
renewed_five_steps =
    Noted (Operation 5) ∷
    Mine (acts.Swap (cells.Global 0) (Some 3) (Some 4)) ∷
    Noted (Line answers.Ok) ∷
    Mine (acts.Drop 4 false) ∷
    []

abbrev renewed_five_history : History
renewed_five_history = history_by 1 renewed_five_steps renewed_four_history

abbrev renewed_five : List Note
renewed_five = notes_by renewed_five_steps renewed_four

renewed_five_tied : Ties Judged one_global 1 renewed_five renewed_five_history
renewed_five_tied = tied_by one_global 1 renewed_five_steps (tt, (tt, tt)) renewed_four_tied

abbrev renewed_six_steps : List Step
renewed_six_steps = Noted (Operation 6) ∷ Noted (Line answers.Nil) ∷ []

abbrev renewed_six_history : History
renewed_six_history = history_by 1 renewed_six_steps renewed_five_history

abbrev renewed_six : List Note
renewed_six = notes_by renewed_six_steps renewed_five

renewed_six_tied : Ties Judged one_global 1 renewed_six renewed_six_history
renewed_six_tied = tied_by one_global 1 renewed_six_steps (tt, (tt, tt)) renewed_five_tied

abbrev renewed_seven_steps : List Step
renewed_seven_steps =
    Noted (Operation 7) ∷
    Mine (acts.Swap (cells.Global 0) None (Some 5)) ∷
    Noted (Line answers.Ok) ∷
    Mine (acts.Drop 5 true) ∷
    Noted (Name 0 (node 1)) ∷
    Noted (Line (answers.Deinit (node 1))) ∷
    Mine (acts.Finish 0 true) ∷
    Noted (Entry 0 None) ∷
    Mine (acts.Vacate 0) ∷
    []

abbrev renewed_seven_history : History
renewed_seven_history = history_by 1 renewed_seven_steps renewed_six_history

abbrev renewed_seven : List Note
renewed_seven = notes_by renewed_seven_steps renewed_six

renewed_seven_tied : Ties Judged one_global 1 renewed_seven renewed_seven_history
renewed_seven_tied = tied_by one_global 1 renewed_seven_steps (tt, (tt, (refl, (tt, (refl, tt))))) renewed_six_tied

abbrev renewed_eight_steps : List Step
renewed_eight_steps =
    Noted (Operation 8) ∷
    Mine (acts.Look (cells.Global 0)) ∷
    Noted (Line answers.Nil) ∷
    []

abbrev renewed_eight_history : History
renewed_eight_history = history_by 1 renewed_eight_steps renewed_seven_history

abbrev renewed_eight : List Note
renewed_eight = notes_by renewed_eight_steps renewed_seven

renewed_eight_tied : Ties Judged one_global 1 renewed_eight renewed_eight_history
renewed_eight_tied = tied_by one_global 1 renewed_eight_steps (tt, (tt, tt)) renewed_seven_tied

abbrev renewed_end_steps : List Step
renewed_end_steps = Noted (Operation 0) ∷ Other (by 0 (acts.Swap (cells.Global 0) None None)) ∷ []

abbrev renewed_history : History
renewed_history = history_by 1 renewed_end_steps renewed_eight_history

abbrev renewed_notes : List Note
renewed_notes = notes_by renewed_end_steps renewed_eight

renewed_tied : Ties Judged one_global 1 renewed_notes renewed_history
renewed_tied = tied_by one_global 1 renewed_end_steps (tt, (refl, tt)) renewed_eight_tied

renewed_does_one : IsOp one_global 1 (hands_in 1 renewed_history) 1 (op.New 0 0) (None ∷ None ∷ []) [] (Some (held 1 Strong 0) ∷ None ∷ []) renewed_one
renewed_does_one = record { answer = answers.New (node 1); last = None; answered = Did (acts.New 1 0 0) ∷ Operation 1 ∷ []; does = made refl refl (record { replaced = refl; old = refl }); ends = nothing }

renewed_does_two : IsOp one_global 1 (hands_in 1 renewed_history) 2 (op.New 1 0) (Some (held 1 Strong 0) ∷ None ∷ []) renewed_one (Some (held 1 Strong 0) ∷ Some (held 2 Strong 1) ∷ []) renewed_two
renewed_does_two = record { answer = answers.New (node 2); last = None; answered = Did (acts.New 2 0 1) ∷ Operation 2 ∷ renewed_one; does = made refl refl (record { replaced = refl; old = refl }); ends = nothing }

renewed_does_three : IsOp one_global 1 (hands_in 1 renewed_history) 3 (op.Copy 1 0) (Some (held 1 Strong 0) ∷ Some (held 2 Strong 1) ∷ []) renewed_two (Some (held 1 Strong 0) ∷ Some (held 3 Strong 0) ∷ []) renewed_three
renewed_does_three = record { answer = answers.Ok; last = Some (held 2 Strong 1); answered = Did (acts.Copy (origins.Hand 1) 3) ∷ Operation 3 ∷ renewed_two; does = copied refl refl (record { spare = Unclaimed; decided = Operation 3 ∷ renewed_two; ready = ready; settled = unclaimed }) (record { replaced = refl; old = refl }); ends = dropped (last_strong (finish_last named refl inline)) }

renewed_does_four : IsOp one_global 1 (hands_in 1 renewed_history) 4 (op.Set (opcell.Global 0) 0) (Some (held 1 Strong 0) ∷ Some (held 3 Strong 0) ∷ []) renewed_three (None ∷ Some (held 3 Strong 0) ∷ []) renewed_four
renewed_does_four = record { answer = answers.Ok; last = None; answered = Did (acts.Swap (cells.Global 0) (Some 1) None) ∷ Operation 4 ∷ renewed_three; does = put_in_nil refl refl refl; ends = nothing }

renewed_does_five : IsOp one_global 1 (hands_in 1 renewed_history) 5 (op.Set (opcell.Global 0) 1) (None ∷ Some (held 3 Strong 0) ∷ []) renewed_four (None ∷ None ∷ []) renewed_five
renewed_does_five = record { answer = answers.Ok; last = Some (held 4 Strong 0); answered = Did (acts.Swap (cells.Global 0) (Some 3) (Some 4)) ∷ Operation 5 ∷ renewed_four; does = swapped refl refl refl refl refl refl; ends = dropped more }

renewed_does_six : IsOp one_global 1 (hands_in 1 renewed_history) 6 (op.Copy 0 1) (None ∷ None ∷ []) renewed_five (None ∷ None ∷ []) renewed_six
renewed_does_six = record { answer = answers.Nil; last = None; answered = Operation 6 ∷ renewed_five; does = from_nil (copy_from_nil refl) (record { replaced = refl; old = refl }) refl; ends = nothing }

renewed_does_seven : IsOp one_global 1 (hands_in 1 renewed_history) 7 (op.Set (opcell.Global 0) 0) (None ∷ None ∷ []) renewed_six (None ∷ None ∷ []) renewed_seven
renewed_does_seven = record { answer = answers.Ok; last = Some (held 5 Strong 0); answered = Did (acts.Swap (cells.Global 0) None (Some 5)) ∷ Operation 7 ∷ renewed_six; does = swapped refl refl refl refl refl refl; ends = dropped (last_strong (finish_last named refl inline)) }

renewed_does_eight : IsOp one_global 1 (hands_in 1 renewed_history) 8 (op.Get 1 (opcell.Global 0)) (None ∷ None ∷ []) renewed_seven (None ∷ None ∷ []) renewed_eight
renewed_does_eight = record { answer = answers.Nil; last = None; answered = Did (acts.Look (cells.Global 0)) ∷ Operation 8 ∷ renewed_seven; does = looked refl (record { replaced = refl; old = refl }); ends = nothing }

pub renewed : IsSpelledIn renewed_script 1
    (record { operation = 1; answer = answers.New (node 1) } ∷ record { operation = 2; answer = answers.New (node 2) } ∷ record { operation = 3; answer = answers.Ok } ∷ record { operation = 3; answer = answers.Deinit (node 2) } ∷ record { operation = 4; answer = answers.Ok } ∷ record { operation = 5; answer = answers.Ok } ∷ record { operation = 6; answer = answers.Nil } ∷ record { operation = 7; answer = answers.Ok } ∷ record { operation = 7; answer = answers.Deinit (node 1) } ∷ record { operation = 8; answer = answers.Nil } ∷ [])
    renewed_history
renewed =
    record {
      notes = renewed_notes;
      tied = renewed_tied;
      spelled = thread (omega arith) refl (record { vars = None ∷ None ∷ []; worked = renewed_eight; ops = one (one (one (one (one (one (one (one (none refl) refl refl renewed_does_one) refl refl renewed_does_two) refl refl renewed_does_three) refl refl renewed_does_four) refl refl renewed_does_five) refl refl renewed_does_six) refl refl renewed_does_seven) refl refl renewed_does_eight; left = None ∷ None ∷ []; scope = nil (nil begins (omega arith) refl refl) (omega arith) refl refl });
      lines_are = refl;
    }

renewed_legal : IsLegal one_global renewed_history
renewed_legal = (refl, (refl, (refl, (refl, (refl, (refl, (refl, (refl, (refl, (refl, (refl, (refl, (refl, (refl, (refl, tt)))))))))))))))

-- the end section

abbrev cleared_end_steps : List Step
cleared_end_steps =
    Noted (Operation 0) ∷
    Other (by 1 (acts.New 1 0 0)) ∷
    Other (by 1 (acts.New 2 0 1)) ∷
    Other (by 1 (acts.Copy (origins.Hand 1) 3)) ∷
    Other (by 1 (acts.Drop 2 true)) ∷
    Other (by 1 (acts.Finish 1 true)) ∷
    Other (by 1 (acts.Vacate 1)) ∷
    Other (by 1 (acts.Swap (cells.Global 0) (Some 1) None)) ∷
    Other (by 1 (acts.Swap (cells.Global 0) (Some 3) (Some 4))) ∷
    Other (by 1 (acts.Drop 4 false)) ∷
    Other (by 1 (acts.Swap (cells.Global 0) None (Some 5))) ∷
    Other (by 1 (acts.Drop 5 true)) ∷
    Other (by 1 (acts.Finish 0 true)) ∷
    Other (by 1 (acts.Vacate 0)) ∷
    Other (by 1 (acts.Look (cells.Global 0))) ∷
    Mine (acts.Swap (cells.Global 0) None None) ∷
    []

abbrev cleared_end_history : History
cleared_end_history = history_by 0 cleared_end_steps []

abbrev cleared_end_notes : List Note
cleared_end_notes = notes_by cleared_end_steps []

cleared_end_tied : Ties Judged one_global 0 cleared_end_notes cleared_end_history
cleared_end_tied = tied_by one_global 0 cleared_end_steps (tt, (refl, (refl, (refl, (refl, (refl, (refl, (refl, (refl, (refl, (refl, (refl, (refl, (refl, (refl, tt))))))))))))))) start

pub cleared_end : IsSpelledIn renewed_script 0 ([]) cleared_end_history
cleared_end = record { notes = cleared_end_notes; tied = cleared_end_tied; spelled = end (global_nil end_begins (omega arith) refl) refl; lines_are = refl }

end_is_of_it : cleared_end_history ≡ renewed_history
end_is_of_it = refl
