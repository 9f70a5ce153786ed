-- Worked programs of unowned and weak references, each tied to a legal history.
use Rattle.std.proofs.Common.{List, [], ◌∷◌, Some, None, refl, true, false, arith}
use Rattle.arc_model.specs.declared.answer.Answer.TheVariants as answers
use Rattle.arc_model.specs.declared.event.Origin.TheVariants as origins
use Rattle.arc_model.specs.declared.event.Got.TheVariants as gots
use Rattle.arc_model.specs.declared.event.Act.TheVariants as acts
use Rattle.arc_model.specs.declared.shape.Kind.TheVariants.{Strong, Unowned, Weak}
use Rattle.arc_model.specs.Shapes.{HeapShape}
use Rattle.arc_model.specs.History.{History, IsLegal}
use Rattle.arc_spelling.specs.Spelling.{Note}
use Rattle.arc_spelling.specs.Spelling.Note.{Did, Line, Operation, Name, Entry, NeedsEntry}
use Rattle.arc_spelling.specs.Spelling.IsEnd.{gone_more, gone_last}
use Rattle.arc_spelling.specs.Spelling.FieldsDone.{named}
use Rattle.arc_spelling.specs.Spelling.IsDrop.{more, last_strong, last_unowned, last_weak}
use Rattle.arc_spelling.specs.Spelling.IsCascade.{finish_more, finish_last}
use Rattle.arc_spelling.specs.SpellingGains.Spare.{Unclaimed, Published}
use Rattle.arc_spelling.specs.SpellingGains.IsReady.{start as ready, claimed, published}
use Rattle.arc_spelling.specs.SpellingGains.IsSettled.{unclaimed, published as stays_published}
use Rattle.arc_spelling.specs.SpellingTies.{Ties}
use Rattle.arc_spelling.specs.SpellingTies.Causes.{Judged}
use Rattle.arc_spelling.specs.SpellingTies.Ties.{start}
use Rattle.arc_spelling.proofs.SpellSteps.{Step, history_by, notes_by, tied_by}
use Rattle.arc_spelling.proofs.SpellSteps.Step.{Mine, Note as Noted}
use Rattle.arc_script.specs.declared.script.Op.TheVariants as op
use Rattle.arc_script.specs.declared.script.Script.{Script}
use Rattle.arc_programs.specs.Programs.{IsOp}
use Rattle.arc_programs.specs.Programs.IsDropped.{nothing, dropped}
use Rattle.arc_programs.specs.Programs.IsAnswered.{made, copied, unowned_formed, weak_formed, found_nil, given_up}
use Rattle.arc_programs.specs.Programs.OpsDone.{none, one}
use Rattle.arc_programs.specs.Programs.ScopeEnds.{begins, nil, dropped as var_dropped}
use Rattle.arc_programs.specs.ProgramsTied.{hands_in, IsSpelledIn}
use Rattle.arc_programs.specs.ProgramsTied.Spells.{thread}
use Rattle.arc_programs.proofs.ProgramsWorked.{held, variable, plain, node, alone}

-- An unowned cap of 2: after the deinit a second copy of the unowned reference moves the object to an entry.

abbrev unowned_cap_two : HeapShape
unowned_cap_two = record plain { caps = record { strong = 10; unowned = 2; wide = 11 } }

abbrev dangling_script : Script
dangling_script = alone unowned_cap_two (variable 97 Strong 0 ∷ variable 117 Unowned 0 ∷ variable 118 Unowned 0 ∷ variable 116 Unowned 0 ∷ []) (op.New 0 0 ∷ op.Unown 1 0 ∷ op.Drop 0 ∷ op.Copy 2 1 ∷ op.Copy 3 1 ∷ [])

abbrev dangling_one_steps : List Step
dangling_one_steps =
    Noted (Operation 1) ∷
    Mine (acts.New 1 0 0) ∷
    Noted (Line (answers.New (node 1))) ∷
    []

abbrev dangling_one_history : History
dangling_one_history = history_by 1 dangling_one_steps []

abbrev dangling_one : List Note
dangling_one = notes_by dangling_one_steps []

dangling_one_tied : Ties Judged unowned_cap_two 1 dangling_one dangling_one_history
dangling_one_tied = tied_by unowned_cap_two 1 dangling_one_steps (tt, (tt, tt)) start

abbrev dangling_two_steps : List Step
dangling_two_steps =
    Noted (Operation 2) ∷
    Mine (acts.UnownedOf 1 2) ∷
    Noted (Line answers.Ok) ∷
    []

abbrev dangling_two_history : History
dangling_two_history = history_by 1 dangling_two_steps dangling_one_history

abbrev dangling_two : List Note
dangling_two = notes_by dangling_two_steps dangling_one

dangling_two_tied : Ties Judged unowned_cap_two 1 dangling_two dangling_two_history
dangling_two_tied = tied_by unowned_cap_two 1 dangling_two_steps (tt, (tt, tt)) dangling_one_tied

abbrev dangling_three_steps : List Step
dangling_three_steps =
    Noted (Operation 3) ∷
    Noted (Line answers.Ok) ∷
    Mine (acts.Drop 1 true) ∷
    Noted (Name 0 (node 1)) ∷
    Noted (Line (answers.Deinit (node 1))) ∷
    Mine (acts.Finish 0 false) ∷
    []

abbrev dangling_three_history : History
dangling_three_history = history_by 1 dangling_three_steps dangling_two_history

abbrev dangling_three : List Note
dangling_three = notes_by dangling_three_steps dangling_two

dangling_three_tied : Ties Judged unowned_cap_two 1 dangling_three dangling_three_history
dangling_three_tied = tied_by unowned_cap_two 1 dangling_three_steps (tt, (tt, (refl, (tt, tt)))) dangling_two_tied

abbrev dangling_four_steps : List Step
dangling_four_steps =
    Noted (Operation 4) ∷
    Mine (acts.Copy (origins.Hand 2) 3) ∷
    Noted (Line answers.Ok) ∷
    []

abbrev dangling_four_history : History
dangling_four_history = history_by 1 dangling_four_steps dangling_three_history

abbrev dangling_four : List Note
dangling_four = notes_by dangling_four_steps dangling_three

dangling_four_tied : Ties Judged unowned_cap_two 1 dangling_four dangling_four_history
dangling_four_tied = tied_by unowned_cap_two 1 dangling_four_steps (tt, (tt, tt)) dangling_three_tied

abbrev dangling_five_steps : List Step
dangling_five_steps =
    Noted (Operation 5) ∷
    Noted (NeedsEntry 0 Unowned) ∷
    Mine (acts.Claim 0) ∷
    Mine (acts.Side 0 0 Unowned) ∷
    Mine (acts.Copy (origins.Hand 2) 4) ∷
    Noted (Line answers.Ok) ∷
    []

abbrev dangling_five_history : History
dangling_five_history = history_by 1 dangling_five_steps dangling_four_history

abbrev dangling_five : List Note
dangling_five = notes_by dangling_five_steps dangling_four

dangling_five_tied : Ties Judged unowned_cap_two 1 dangling_five dangling_five_history
dangling_five_tied = tied_by unowned_cap_two 1 dangling_five_steps (tt, (refl, (tt, tt))) dangling_four_tied

abbrev dangling_end_steps : List Step
dangling_end_steps =
    Noted (Operation 0) ∷
    Mine (acts.Drop 2 false) ∷
    Mine (acts.Drop 3 false) ∷
    Mine (acts.Drop 4 true) ∷
    Noted (Entry 0 (Some 0)) ∷
    Mine (acts.Vacate 0) ∷
    Mine (acts.Gone 0 true) ∷
    Mine (acts.Back 0) ∷
    []

abbrev dangling_history : History
dangling_history = history_by 1 dangling_end_steps dangling_five_history

abbrev dangling_notes : List Note
dangling_notes = notes_by dangling_end_steps dangling_five

dangling_tied : Ties Judged unowned_cap_two 1 dangling_notes dangling_history
dangling_tied = tied_by unowned_cap_two 1 dangling_end_steps (tt, (refl, tt)) dangling_five_tied

dangling_does_one : IsOp unowned_cap_two 1 (hands_in 1 dangling_history) 1 (op.New 0 0) (None ∷ None ∷ None ∷ None ∷ []) [] (Some (held 1 Strong 0) ∷ None ∷ None ∷ None ∷ []) dangling_one
dangling_does_one = record { answer = answers.New (node 1); last = None; answered = Did (acts.New 1 0 0) ∷ Operation 1 ∷ []; does = made refl refl (record { replaced = refl; old = refl }); ends = nothing }

dangling_does_two : IsOp unowned_cap_two 1 (hands_in 1 dangling_history) 2 (op.Unown 1 0) (Some (held 1 Strong 0) ∷ None ∷ None ∷ None ∷ []) dangling_one (Some (held 1 Strong 0) ∷ Some (held 2 Unowned 0) ∷ None ∷ None ∷ []) dangling_two
dangling_does_two = record { answer = answers.Ok; last = None; answered = Did (acts.UnownedOf 1 2) ∷ Operation 2 ∷ dangling_one; does = unowned_formed refl refl (record { spare = Unclaimed; decided = Operation 2 ∷ dangling_one; ready = ready; settled = unclaimed }) (record { replaced = refl; old = refl }); ends = nothing }

dangling_does_three : IsOp unowned_cap_two 1 (hands_in 1 dangling_history) 3 (op.Drop 0) (Some (held 1 Strong 0) ∷ Some (held 2 Unowned 0) ∷ None ∷ None ∷ []) dangling_two (None ∷ Some (held 2 Unowned 0) ∷ None ∷ None ∷ []) dangling_three
dangling_does_three = record { answer = answers.Ok; last = Some (held 1 Strong 0); answered = Operation 3 ∷ dangling_two; does = given_up refl (record { replaced = refl; old = refl }) refl; ends = dropped (last_strong (finish_more named refl)) }

dangling_does_four : IsOp unowned_cap_two 1 (hands_in 1 dangling_history) 4 (op.Copy 2 1) (None ∷ Some (held 2 Unowned 0) ∷ None ∷ None ∷ []) dangling_three (None ∷ Some (held 2 Unowned 0) ∷ Some (held 3 Unowned 0) ∷ None ∷ []) dangling_four
dangling_does_four = record { answer = answers.Ok; last = None; answered = Did (acts.Copy (origins.Hand 2) 3) ∷ Operation 4 ∷ dangling_three; does = copied refl refl (record { spare = Unclaimed; decided = Operation 4 ∷ dangling_three; ready = ready; settled = unclaimed }) (record { replaced = refl; old = refl }); ends = nothing }

dangling_does_five : IsOp unowned_cap_two 1 (hands_in 1 dangling_history) 5 (op.Copy 3 1) (None ∷ Some (held 2 Unowned 0) ∷ Some (held 3 Unowned 0) ∷ None ∷ []) dangling_four (None ∷ Some (held 2 Unowned 0) ∷ Some (held 3 Unowned 0) ∷ Some (held 4 Unowned 0) ∷ []) dangling_five
dangling_does_five = record { answer = answers.Ok; last = None; answered = Did (acts.Copy (origins.Hand 2) 4) ∷ Did (acts.Side 0 0 Unowned) ∷ Did (acts.Claim 0) ∷ NeedsEntry 0 Unowned ∷ Operation 5 ∷ dangling_four; does = copied refl refl (record { spare = Published; decided = Did (acts.Side 0 0 Unowned) ∷ Did (acts.Claim 0) ∷ NeedsEntry 0 Unowned ∷ Operation 5 ∷ dangling_four; ready = published (claimed ready refl); settled = stays_published }) (record { replaced = refl; old = refl }); ends = nothing }

pub dangling : IsSpelledIn dangling_script 1
    (record { operation = 1; answer = answers.New (node 1) } ∷ record { operation = 2; answer = answers.Ok } ∷ record { operation = 3; answer = answers.Ok } ∷ record { operation = 3; answer = answers.Deinit (node 1) } ∷ record { operation = 4; answer = answers.Ok } ∷ record { operation = 5; answer = answers.Ok } ∷ [])
    dangling_history
dangling =
    record {
      notes = dangling_notes;
      tied = dangling_tied;
      spelled = thread (omega arith) refl (record { vars = None ∷ Some (held 2 Unowned 0) ∷ Some (held 3 Unowned 0) ∷ Some (held 4 Unowned 0) ∷ []; worked = dangling_five; ops = one (one (one (one (one (none refl) refl refl dangling_does_one) refl refl dangling_does_two) refl refl dangling_does_three) refl refl dangling_does_four) refl refl dangling_does_five; left = None ∷ None ∷ None ∷ None ∷ []; scope = var_dropped (var_dropped (var_dropped (nil begins (omega arith) refl refl) (omega arith) refl refl refl more) (omega arith) refl refl refl more) (omega arith) refl refl refl (last_unowned gone_last) });
      lines_are = refl;
    }

dangling_legal : IsLegal unowned_cap_two dangling_history
dangling_legal = (refl, (refl, (refl, (refl, (refl, (refl, (refl, (refl, (refl, (refl, (refl, (refl, (refl, (refl, tt))))))))))))))

-- A weak load after the last drop: it gives nil, and the end of the scope gives the entry back.

abbrev late_script : Script
late_script = alone plain (variable 97 Strong 0 ∷ variable 98 Strong 0 ∷ variable 119 Weak 0 ∷ []) (op.New 0 0 ∷ op.Weak 2 0 ∷ op.Drop 0 ∷ op.Load 1 2 ∷ [])

abbrev late_one_steps : List Step
late_one_steps =
    Noted (Operation 1) ∷
    Mine (acts.New 1 0 0) ∷
    Noted (Line (answers.New (node 1))) ∷
    []

abbrev late_one_history : History
late_one_history = history_by 1 late_one_steps []

abbrev late_one : List Note
late_one = notes_by late_one_steps []

late_one_tied : Ties Judged plain 1 late_one late_one_history
late_one_tied = tied_by plain 1 late_one_steps (tt, (tt, tt)) start

abbrev late_two_steps : List Step
late_two_steps =
    Noted (Operation 2) ∷
    Noted (NeedsEntry 0 Weak) ∷
    Mine (acts.Claim 0) ∷
    Mine (acts.Side 0 0 Weak) ∷
    Mine (acts.WeakOf 1 2) ∷
    Noted (Entry 0 (Some 0)) ∷
    Noted (Line answers.Ok) ∷
    []

abbrev late_two_history : History
late_two_history = history_by 1 late_two_steps late_one_history

abbrev late_two : List Note
late_two = notes_by late_two_steps late_one

late_two_tied : Ties Judged plain 1 late_two late_two_history
late_two_tied = tied_by plain 1 late_two_steps (tt, (refl, (refl, (tt, tt)))) late_one_tied

abbrev late_three_steps : List Step
late_three_steps =
    Noted (Operation 3) ∷
    Noted (Line answers.Ok) ∷
    Mine (acts.Drop 1 true) ∷
    Noted (Name 0 (node 1)) ∷
    Noted (Line (answers.Deinit (node 1))) ∷
    Mine (acts.Finish 0 true) ∷
    Noted (Entry 0 (Some 0)) ∷
    Mine (acts.Vacate 0) ∷
    Mine (acts.Gone 0 false) ∷
    []

abbrev late_three_history : History
late_three_history = history_by 1 late_three_steps late_two_history

abbrev late_three : List Note
late_three = notes_by late_three_steps late_two

late_three_tied : Ties Judged plain 1 late_three late_three_history
late_three_tied = tied_by plain 1 late_three_steps (tt, (tt, (refl, (tt, (refl, tt))))) late_two_tied

abbrev late_four_steps : List Step
late_four_steps =
    Noted (Operation 4) ∷
    Mine (acts.Load 2 gots.Nil) ∷
    Noted (Line answers.Nil) ∷
    []

abbrev late_four_history : History
late_four_history = history_by 1 late_four_steps late_three_history

abbrev late_four : List Note
late_four = notes_by late_four_steps late_three

late_four_tied : Ties Judged plain 1 late_four late_four_history
late_four_tied = tied_by plain 1 late_four_steps (tt, (tt, tt)) late_three_tied

abbrev late_end_steps : List Step
late_end_steps =
    Noted (Operation 0) ∷
    Mine (acts.Drop 2 true) ∷
    Mine (acts.Back 0) ∷
    []

abbrev late_history : History
late_history = history_by 1 late_end_steps late_four_history

abbrev late_notes : List Note
late_notes = notes_by late_end_steps late_four

late_tied : Ties Judged plain 1 late_notes late_history
late_tied = tied_by plain 1 late_end_steps (tt, tt) late_four_tied

late_does_one : IsOp plain 1 (hands_in 1 late_history) 1 (op.New 0 0) (None ∷ None ∷ None ∷ []) [] (Some (held 1 Strong 0) ∷ None ∷ None ∷ []) late_one
late_does_one = record { answer = answers.New (node 1); last = None; answered = Did (acts.New 1 0 0) ∷ Operation 1 ∷ []; does = made refl refl (record { replaced = refl; old = refl }); ends = nothing }

late_does_two : IsOp plain 1 (hands_in 1 late_history) 2 (op.Weak 2 0) (Some (held 1 Strong 0) ∷ None ∷ None ∷ []) late_one (Some (held 1 Strong 0) ∷ None ∷ Some (held 2 Weak 0) ∷ []) late_two
late_does_two = record { answer = answers.Ok; last = None; answered = Entry 0 (Some 0) ∷ Did (acts.WeakOf 1 2) ∷ Did (acts.Side 0 0 Weak) ∷ Did (acts.Claim 0) ∷ NeedsEntry 0 Weak ∷ Operation 2 ∷ late_one; does = weak_formed refl refl (record { spare = Published; decided = Did (acts.Side 0 0 Weak) ∷ Did (acts.Claim 0) ∷ NeedsEntry 0 Weak ∷ Operation 2 ∷ late_one; ready = published (claimed ready refl); settled = stays_published }) (record { replaced = refl; old = refl }); ends = nothing }

late_does_three : IsOp plain 1 (hands_in 1 late_history) 3 (op.Drop 0) (Some (held 1 Strong 0) ∷ None ∷ Some (held 2 Weak 0) ∷ []) late_two (None ∷ None ∷ Some (held 2 Weak 0) ∷ []) late_three
late_does_three = record { answer = answers.Ok; last = Some (held 1 Strong 0); answered = Operation 3 ∷ late_two; does = given_up refl (record { replaced = refl; old = refl }) refl; ends = dropped (last_strong (finish_last named refl gone_more)) }

late_does_four : IsOp plain 1 (hands_in 1 late_history) 4 (op.Load 1 2) (None ∷ None ∷ Some (held 2 Weak 0) ∷ []) late_three (None ∷ None ∷ Some (held 2 Weak 0) ∷ []) late_four
late_does_four = record { answer = answers.Nil; last = None; answered = Did (acts.Load 2 gots.Nil) ∷ Operation 4 ∷ late_three; does = found_nil refl refl (record { spare = Unclaimed; decided = Operation 4 ∷ late_three; ready = ready; settled = unclaimed }) (record { replaced = refl; old = refl }); ends = nothing }

pub late : IsSpelledIn late_script 1
    (record { operation = 1; answer = answers.New (node 1) } ∷ record { operation = 2; answer = answers.Ok } ∷ record { operation = 3; answer = answers.Ok } ∷ record { operation = 3; answer = answers.Deinit (node 1) } ∷ record { operation = 4; answer = answers.Nil } ∷ [])
    late_history
late =
    record {
      notes = late_notes;
      tied = late_tied;
      spelled = thread (omega arith) refl (record { vars = None ∷ None ∷ Some (held 2 Weak 0) ∷ []; worked = late_four; ops = one (one (one (one (none refl) refl refl late_does_one) refl refl late_does_two) refl refl late_does_three) refl refl late_does_four; left = None ∷ None ∷ None ∷ []; scope = var_dropped (nil (nil begins (omega arith) refl refl) (omega arith) refl refl) (omega arith) refl refl refl last_weak });
      lines_are = refl;
    }

late_legal : IsLegal plain late_history
late_legal = (refl, (refl, (refl, (refl, (refl, (refl, (refl, (refl, (refl, (refl, (refl, tt)))))))))))
