-- Worked programs with refused gains, each tied to a legal history.
use Rattle.std.proofs.Common.{List, [], ◌∷◌, Some, None, refl, true, false, arith}
use Rattle.arc_model.specs.declared.answer.Answer.TheVariants as answers
use Rattle.arc_model.specs.declared.event.Origin.TheVariants as origins
use Rattle.arc_model.specs.declared.event.Act.TheVariants as acts
use Rattle.arc_model.specs.declared.shape.Kind.TheVariants.{Strong, Unowned, Weak}
use Rattle.arc_model.specs.Shapes.{HeapShape}
use Rattle.arc_model.specs.History.{History, IsLegal}
use Rattle.arc_spelling.specs.Spelling.{Note}
use Rattle.arc_spelling.specs.Spelling.Note.{Did, Line, Operation, Name, Entry, NeedsEntry}
use Rattle.arc_spelling.specs.Spelling.IsEnd.{inline, gone_more, gone_last}
use Rattle.arc_spelling.specs.Spelling.FieldsDone.{named}
use Rattle.arc_spelling.specs.Spelling.IsDrop.{last_strong, last_weak}
use Rattle.arc_spelling.specs.Spelling.IsCascade.{finish_last}
use Rattle.arc_spelling.specs.SpellingGains.Spare.{Unclaimed, Published}
use Rattle.arc_spelling.specs.SpellingGains.IsReady.{start as ready, claimed, published}
use Rattle.arc_spelling.specs.SpellingGains.IsSettled.{unclaimed, published as stays_published}
use Rattle.arc_spelling.specs.SpellingGains.IsRefused.{no_entry as entry_refused}
use Rattle.arc_spelling.specs.SpellingTies.{Ties}
use Rattle.arc_spelling.specs.SpellingTies.Causes.{Judged}
use Rattle.arc_spelling.specs.SpellingTies.Ties.{start}
use Rattle.arc_spelling.proofs.SpellSteps.{Step, history_by, notes_by, tied_by}
use Rattle.arc_spelling.proofs.SpellSteps.Step.{Mine, Note as Noted}
use Rattle.arc_script.specs.declared.script.Op.TheVariants as op
use Rattle.arc_script.specs.declared.script.Script.{Script}
use Rattle.arc_programs.specs.Programs.{IsOp}
use Rattle.arc_programs.specs.Programs.HasSource.{copy, unown, weak}
use Rattle.arc_programs.specs.Programs.IsDropped.{nothing}
use Rattle.arc_programs.specs.Programs.IsAnswered.{made, weak_formed, count_full, no_entry}
use Rattle.arc_programs.specs.Programs.OpsDone.{none, one}
use Rattle.arc_programs.specs.Programs.ScopeEnds.{begins, nil, dropped as var_dropped}
use Rattle.arc_programs.specs.ProgramsTied.{hands_in, IsSpelledIn}
use Rattle.arc_programs.specs.ProgramsTied.Spells.{thread}
use Rattle.arc_programs.proofs.ProgramsWorked.{held, variable, plain, node, alone}

-- Counts of one: each gain is refused, and the destination keeps its value.

abbrev counts_of_one : HeapShape
counts_of_one = record plain { caps = record { strong = 0; unowned = 1; wide = 1 } }

abbrev full_script : Script
full_script = alone counts_of_one (variable 97 Strong 0 ∷ variable 98 Strong 0 ∷ variable 119 Weak 0 ∷ variable 117 Unowned 0 ∷ []) (op.New 0 0 ∷ op.Copy 1 0 ∷ op.Weak 2 0 ∷ op.Unown 3 0 ∷ [])

abbrev full_one_steps : List Step
full_one_steps =
    Noted (Operation 1) ∷
    Mine (acts.New 1 0 0) ∷
    Noted (Line (answers.New (node 1))) ∷
    []

abbrev full_one_history : History
full_one_history = history_by 1 full_one_steps []

abbrev full_one : List Note
full_one = notes_by full_one_steps []

full_one_tied : Ties Judged counts_of_one 1 full_one full_one_history
full_one_tied = tied_by counts_of_one 1 full_one_steps (tt, (tt, tt)) start

abbrev full_two_steps : List Step
full_two_steps =
    Noted (Operation 2) ∷
    Noted (NeedsEntry 0 Strong) ∷
    Mine (acts.Claim 0) ∷
    Mine (acts.Side 0 0 Strong) ∷
    Mine (acts.CountFull Strong (origins.Hand 1)) ∷
    Noted (Line answers.CountFull) ∷
    []

abbrev full_two_history : History
full_two_history = history_by 1 full_two_steps full_one_history

abbrev full_two : List Note
full_two = notes_by full_two_steps full_one

full_two_tied : Ties Judged counts_of_one 1 full_two full_two_history
full_two_tied = tied_by counts_of_one 1 full_two_steps (tt, (refl, (tt, tt))) full_one_tied

abbrev full_three_steps : List Step
full_three_steps =
    Noted (Operation 3) ∷
    Mine (acts.CountFull Weak (origins.Hand 1)) ∷
    Noted (Line answers.CountFull) ∷
    []

abbrev full_three_history : History
full_three_history = history_by 1 full_three_steps full_two_history

abbrev full_three : List Note
full_three = notes_by full_three_steps full_two

full_three_tied : Ties Judged counts_of_one 1 full_three full_three_history
full_three_tied = tied_by counts_of_one 1 full_three_steps (tt, (tt, tt)) full_two_tied

abbrev full_four_steps : List Step
full_four_steps =
    Noted (Operation 4) ∷
    Mine (acts.CountFull Unowned (origins.Hand 1)) ∷
    Noted (Line answers.CountFull) ∷
    []

abbrev full_four_history : History
full_four_history = history_by 1 full_four_steps full_three_history

abbrev full_four : List Note
full_four = notes_by full_four_steps full_three

full_four_tied : Ties Judged counts_of_one 1 full_four full_four_history
full_four_tied = tied_by counts_of_one 1 full_four_steps (tt, (tt, tt)) full_three_tied

abbrev full_end_steps : List Step
full_end_steps =
    Noted (Operation 0) ∷
    Mine (acts.Drop 1 true) ∷
    Noted (Name 0 (node 1)) ∷
    Noted (Line (answers.Deinit (node 1))) ∷
    Mine (acts.Finish 0 true) ∷
    Noted (Entry 0 (Some 0)) ∷
    Mine (acts.Vacate 0) ∷
    Mine (acts.Gone 0 true) ∷
    Mine (acts.Back 0) ∷
    []

abbrev full_history : History
full_history = history_by 1 full_end_steps full_four_history

abbrev full_notes : List Note
full_notes = notes_by full_end_steps full_four

full_tied : Ties Judged counts_of_one 1 full_notes full_history
full_tied = tied_by counts_of_one 1 full_end_steps (tt, (refl, (tt, (refl, tt)))) full_four_tied

full_does_one : IsOp counts_of_one 1 (hands_in 1 full_history) 1 (op.New 0 0) (None ∷ None ∷ None ∷ None ∷ []) [] (Some (held 1 Strong 0) ∷ None ∷ None ∷ None ∷ []) full_one
full_does_one = record { answer = answers.New (node 1); last = None; answered = Did (acts.New 1 0 0) ∷ Operation 1 ∷ []; does = made refl refl (record { replaced = refl; old = refl }); ends = nothing }

full_does_two : IsOp counts_of_one 1 (hands_in 1 full_history) 2 (op.Copy 1 0) (Some (held 1 Strong 0) ∷ None ∷ None ∷ None ∷ []) full_one (Some (held 1 Strong 0) ∷ None ∷ None ∷ None ∷ []) full_two
full_does_two = record { answer = answers.CountFull; last = None; answered = Did (acts.CountFull Strong (origins.Hand 1)) ∷ Did (acts.Side 0 0 Strong) ∷ Did (acts.Claim 0) ∷ NeedsEntry 0 Strong ∷ Operation 2 ∷ full_one; does = count_full (copy refl refl) (record { spare = Published; decided = Did (acts.Side 0 0 Strong) ∷ Did (acts.Claim 0) ∷ NeedsEntry 0 Strong ∷ Operation 2 ∷ full_one; ready = published (claimed ready refl); settled = stays_published }) refl; ends = nothing }

full_does_three : IsOp counts_of_one 1 (hands_in 1 full_history) 3 (op.Weak 2 0) (Some (held 1 Strong 0) ∷ None ∷ None ∷ None ∷ []) full_two (Some (held 1 Strong 0) ∷ None ∷ None ∷ None ∷ []) full_three
full_does_three = record { answer = answers.CountFull; last = None; answered = Did (acts.CountFull Weak (origins.Hand 1)) ∷ Operation 3 ∷ full_two; does = count_full (weak refl refl) (record { spare = Unclaimed; decided = Operation 3 ∷ full_two; ready = ready; settled = unclaimed }) refl; ends = nothing }

full_does_four : IsOp counts_of_one 1 (hands_in 1 full_history) 4 (op.Unown 3 0) (Some (held 1 Strong 0) ∷ None ∷ None ∷ None ∷ []) full_three (Some (held 1 Strong 0) ∷ None ∷ None ∷ None ∷ []) full_four
full_does_four = record { answer = answers.CountFull; last = None; answered = Did (acts.CountFull Unowned (origins.Hand 1)) ∷ Operation 4 ∷ full_three; does = count_full (unown refl refl) (record { spare = Unclaimed; decided = Operation 4 ∷ full_three; ready = ready; settled = unclaimed }) refl; ends = nothing }

pub full : IsSpelledIn full_script 1
    (record { operation = 1; answer = answers.New (node 1) } ∷ record { operation = 2; answer = answers.CountFull } ∷ record { operation = 3; answer = answers.CountFull } ∷ record { operation = 4; answer = answers.CountFull } ∷ record { operation = 0; answer = answers.Deinit (node 1) } ∷ [])
    full_history
full =
    record {
      notes = full_notes;
      tied = full_tied;
      spelled = thread (omega arith) refl (record { vars = Some (held 1 Strong 0) ∷ None ∷ None ∷ None ∷ []; worked = full_four; ops = one (one (one (one (none refl) refl refl full_does_one) refl refl full_does_two) refl refl full_does_three) refl refl full_does_four; left = None ∷ None ∷ None ∷ None ∷ []; scope = nil (nil (nil (var_dropped begins (omega arith) refl refl refl (last_strong (finish_last named refl gone_last))) (omega arith) refl refl) (omega arith) refl refl) (omega arith) refl refl });
      lines_are = refl;
    }

full_legal : IsLegal counts_of_one full_history
full_legal = (refl, (refl, (refl, (refl, (refl, (refl, (refl, (refl, (refl, (refl, (refl, tt)))))))))))

-- One entry for two objects: the second weak reference is refused.

abbrev two_slots : HeapShape
two_slots = record plain { slots = 2 }

abbrev refused_script : Script
refused_script = alone two_slots (variable 97 Strong 0 ∷ variable 98 Strong 0 ∷ variable 119 Weak 0 ∷ variable 120 Weak 0 ∷ []) (op.New 0 0 ∷ op.New 1 0 ∷ op.Weak 2 0 ∷ op.Weak 3 1 ∷ [])

abbrev refused_one_steps : List Step
refused_one_steps =
    Noted (Operation 1) ∷
    Mine (acts.New 1 0 0) ∷
    Noted (Line (answers.New (node 1))) ∷
    []

abbrev refused_one_history : History
refused_one_history = history_by 1 refused_one_steps []

abbrev refused_one : List Note
refused_one = notes_by refused_one_steps []

refused_one_tied : Ties Judged two_slots 1 refused_one refused_one_history
refused_one_tied = tied_by two_slots 1 refused_one_steps (tt, (tt, tt)) start

abbrev refused_two_steps : List Step
refused_two_steps =
    Noted (Operation 2) ∷
    Mine (acts.New 2 0 1) ∷
    Noted (Line (answers.New (node 2))) ∷
    []

abbrev refused_two_history : History
refused_two_history = history_by 1 refused_two_steps refused_one_history

abbrev refused_two : List Note
refused_two = notes_by refused_two_steps refused_one

refused_two_tied : Ties Judged two_slots 1 refused_two refused_two_history
refused_two_tied = tied_by two_slots 1 refused_two_steps (tt, (tt, tt)) refused_one_tied

abbrev refused_three_steps : List Step
refused_three_steps =
    Noted (Operation 3) ∷
    Noted (NeedsEntry 0 Weak) ∷
    Mine (acts.Claim 0) ∷
    Mine (acts.Side 0 0 Weak) ∷
    Mine (acts.WeakOf 1 3) ∷
    Noted (Entry 0 (Some 0)) ∷
    Noted (Line answers.Ok) ∷
    []

abbrev refused_three_history : History
refused_three_history = history_by 1 refused_three_steps refused_two_history

abbrev refused_three : List Note
refused_three = notes_by refused_three_steps refused_two

refused_three_tied : Ties Judged two_slots 1 refused_three refused_three_history
refused_three_tied = tied_by two_slots 1 refused_three_steps (tt, (refl, (refl, (tt, tt)))) refused_two_tied

abbrev refused_four_steps : List Step
refused_four_steps =
    Noted (Operation 4) ∷
    Noted (NeedsEntry 1 Weak) ∷
    Mine acts.NoEntry ∷
    Noted (Line answers.NoEntry) ∷
    []

abbrev refused_four_history : History
refused_four_history = history_by 1 refused_four_steps refused_three_history

abbrev refused_four : List Note
refused_four = notes_by refused_four_steps refused_three

refused_four_tied : Ties Judged two_slots 1 refused_four refused_four_history
refused_four_tied = tied_by two_slots 1 refused_four_steps (tt, (refl, (tt, tt))) refused_three_tied

abbrev refused_end_steps : List Step
refused_end_steps =
    Noted (Operation 0) ∷
    Mine (acts.Drop 1 true) ∷
    Noted (Name 0 (node 1)) ∷
    Noted (Line (answers.Deinit (node 1))) ∷
    Mine (acts.Finish 0 true) ∷
    Noted (Entry 0 (Some 0)) ∷
    Mine (acts.Vacate 0) ∷
    Mine (acts.Gone 0 false) ∷
    Mine (acts.Drop 2 true) ∷
    Noted (Name 1 (node 2)) ∷
    Noted (Line (answers.Deinit (node 2))) ∷
    Mine (acts.Finish 1 true) ∷
    Noted (Entry 1 None) ∷
    Mine (acts.Vacate 1) ∷
    Mine (acts.Drop 3 true) ∷
    Mine (acts.Back 0) ∷
    []

abbrev refused_history : History
refused_history = history_by 1 refused_end_steps refused_four_history

abbrev refused_notes : List Note
refused_notes = notes_by refused_end_steps refused_four

refused_tied : Ties Judged two_slots 1 refused_notes refused_history
refused_tied = tied_by two_slots 1 refused_end_steps (tt, (refl, (tt, (refl, (refl, (tt, (refl, tt))))))) refused_four_tied

refused_does_one : IsOp two_slots 1 (hands_in 1 refused_history) 1 (op.New 0 0) (None ∷ None ∷ None ∷ None ∷ []) [] (Some (held 1 Strong 0) ∷ None ∷ None ∷ None ∷ []) refused_one
refused_does_one = record { answer = answers.New (node 1); last = None; answered = Did (acts.New 1 0 0) ∷ Operation 1 ∷ []; does = made refl refl (record { replaced = refl; old = refl }); ends = nothing }

refused_does_two : IsOp two_slots 1 (hands_in 1 refused_history) 2 (op.New 1 0) (Some (held 1 Strong 0) ∷ None ∷ None ∷ None ∷ []) refused_one (Some (held 1 Strong 0) ∷ Some (held 2 Strong 1) ∷ None ∷ None ∷ []) refused_two
refused_does_two = record { answer = answers.New (node 2); last = None; answered = Did (acts.New 2 0 1) ∷ Operation 2 ∷ refused_one; does = made refl refl (record { replaced = refl; old = refl }); ends = nothing }

refused_does_three : IsOp two_slots 1 (hands_in 1 refused_history) 3 (op.Weak 2 0) (Some (held 1 Strong 0) ∷ Some (held 2 Strong 1) ∷ None ∷ None ∷ []) refused_two (Some (held 1 Strong 0) ∷ Some (held 2 Strong 1) ∷ Some (held 3 Weak 0) ∷ None ∷ []) refused_three
refused_does_three = record { answer = answers.Ok; last = None; answered = Entry 0 (Some 0) ∷ Did (acts.WeakOf 1 3) ∷ Did (acts.Side 0 0 Weak) ∷ Did (acts.Claim 0) ∷ NeedsEntry 0 Weak ∷ Operation 3 ∷ refused_two; does = weak_formed refl refl (record { spare = Published; decided = Did (acts.Side 0 0 Weak) ∷ Did (acts.Claim 0) ∷ NeedsEntry 0 Weak ∷ Operation 3 ∷ refused_two; ready = published (claimed ready refl); settled = stays_published }) (record { replaced = refl; old = refl }); ends = nothing }

refused_does_four : IsOp two_slots 1 (hands_in 1 refused_history) 4 (op.Weak 3 1) (Some (held 1 Strong 0) ∷ Some (held 2 Strong 1) ∷ Some (held 3 Weak 0) ∷ None ∷ []) refused_three (Some (held 1 Strong 0) ∷ Some (held 2 Strong 1) ∷ Some (held 3 Weak 0) ∷ None ∷ []) refused_four
refused_does_four = record { answer = answers.NoEntry; last = None; answered = Did acts.NoEntry ∷ NeedsEntry 1 Weak ∷ Operation 4 ∷ refused_three; does = no_entry (weak refl refl) (entry_refused ready refl) refl; ends = nothing }

pub refused : IsSpelledIn refused_script 1
    (record { operation = 1; answer = answers.New (node 1) } ∷ record { operation = 2; answer = answers.New (node 2) } ∷ record { operation = 3; answer = answers.Ok } ∷ record { operation = 4; answer = answers.NoEntry } ∷ record { operation = 0; answer = answers.Deinit (node 1) } ∷ record { operation = 0; answer = answers.Deinit (node 2) } ∷ [])
    refused_history
refused =
    record {
      notes = refused_notes;
      tied = refused_tied;
      spelled = thread (omega arith) refl (record { vars = Some (held 1 Strong 0) ∷ Some (held 2 Strong 1) ∷ Some (held 3 Weak 0) ∷ None ∷ []; worked = refused_four; ops = one (one (one (one (none refl) refl refl refused_does_one) refl refl refused_does_two) refl refl refused_does_three) refl refl refused_does_four; left = None ∷ None ∷ None ∷ None ∷ []; scope = nil (var_dropped (var_dropped (var_dropped begins (omega arith) refl refl refl (last_strong (finish_last named refl gone_more))) (omega arith) refl refl refl (last_strong (finish_last named refl inline))) (omega arith) refl refl refl last_weak) (omega arith) refl refl });
      lines_are = refl;
    }

refused_legal : IsLegal two_slots refused_history
refused_legal = (refl, (refl, (refl, (refl, (refl, (refl, (refl, (refl, (refl, (refl, (refl, (refl, (refl, (refl, (refl, tt)))))))))))))))
