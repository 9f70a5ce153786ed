-- A worked program of fields, tied to a legal history.
use Rattle.std.proofs.Common.{List, [], ◌∷◌, Some, None, refl, true, false, arith}
use Rattle.arc_model.specs.declared.answer.Answer.TheVariants as answers
use Rattle.arc_model.specs.declared.event.ObjectName.{ObjectName}
use Rattle.arc_model.specs.declared.event.Origin.TheVariants as origins
use Rattle.arc_model.specs.declared.event.Got.TheVariants as gots
use Rattle.arc_model.specs.declared.event.CellName.TheVariants as cells
use Rattle.arc_model.specs.declared.event.Act.TheVariants as acts
use Rattle.arc_model.specs.declared.shape.Kind.TheVariants.{Strong, Weak}
use Rattle.arc_model.specs.Shapes.{HeapShape}
use Rattle.arc_model.specs.History.{History, IsLegal}
use Rattle.arc_spelling.specs.Spelling.{Note}
use Rattle.arc_spelling.specs.Spelling.Note.{Did, Line, Operation, Name, Entry, NeedsEntry, Refers}
use Rattle.arc_spelling.specs.Spelling.IsEnd.{inline, gone_more}
use Rattle.arc_spelling.specs.Spelling.FieldsDone.{named, taken}
use Rattle.arc_spelling.specs.Spelling.IsDrop.{more, last_strong, last_weak}
use Rattle.arc_spelling.specs.Spelling.IsCascade.{finish_last}
use Rattle.arc_spelling.specs.SpellingGains.Spare.{Unclaimed, Published}
use Rattle.arc_spelling.specs.SpellingGains.IsReady.{start as ready, claimed, published}
use Rattle.arc_spelling.specs.SpellingGains.IsSettled.{unclaimed, published as stays_published}
use Rattle.arc_spelling.specs.SpellingTies.{Ties}
use Rattle.arc_spelling.specs.SpellingTies.Causes.{Judged}
use Rattle.arc_spelling.specs.SpellingTies.Ties.{start}
use Rattle.arc_spelling.proofs.SpellSteps.{Step, history_by, notes_by, tied_by}
use Rattle.arc_spelling.proofs.SpellSteps.Step.{Mine, Note as Noted}
use Rattle.arc_script.specs.declared.script.ClassDecl.{ClassDecl}
use Rattle.arc_script.specs.declared.script.VarDecl.{VarDecl}
use Rattle.arc_script.specs.declared.script.Op.{Op}
use Rattle.arc_script.specs.declared.script.Op.TheVariants as op
use Rattle.arc_script.specs.declared.script.OpCell.TheVariants as opcell
use Rattle.arc_script.specs.declared.script.Script.{Script}
use Rattle.arc_programs.specs.Programs.{IsOp}
use Rattle.arc_programs.specs.Programs.IsDropped.{nothing, dropped}
use Rattle.arc_programs.specs.Programs.IsAnswered.{made, copied, weak_formed, found_nil, got, put_in_nil, given_up}
use Rattle.arc_programs.specs.Programs.OpsDone.{none, one}
use Rattle.arc_programs.specs.Programs.ScopeEnds.{begins, nil, dropped as var_dropped}
use Rattle.arc_programs.specs.ProgramsTied.{hands_in, IsSpelledIn}
use Rattle.arc_programs.specs.ProgramsTied.Spells.{thread}
use Rattle.arc_programs.proofs.ProgramsWorked.{held, letters, variable, plain}

-- A person's strong field refers to an apartment, whose weak field refers back.

abbrev tenancy : HeapShape
tenancy = record plain { slots = 8; entries = 8; classes = record { fields = record { kind = Strong; class = 1 } ∷ []; immortal = false } ∷ record { fields = record { kind = Weak; class = 0 } ∷ []; immortal = false } ∷ [] }

abbrev person_class : ClassDecl
person_class = record { name = letters 80; immortal = false; fields = record { name = letters 97; kind = Strong; class = 1 } ∷ [] }

abbrev apartment_class : ClassDecl
apartment_class = record { name = letters 65; immortal = false; fields = record { name = letters 116; kind = Weak; class = 0 } ∷ [] }

abbrev person : ObjectName
person = record { class = 0; thread = 1; number = 1 }

abbrev apartment : ObjectName
apartment = record { class = 1; thread = 1; number = 2 }

-- john, unit, flat, seen and who

abbrev tenants : List VarDecl
tenants = variable 106 Strong 0 ∷ variable 117 Strong 1 ∷ variable 102 Strong 1 ∷ variable 115 Weak 0 ∷ variable 119 Strong 0 ∷ []

abbrev moves : List Op
moves =
    op.New 0 0 ∷
    op.New 1 1 ∷
    op.Copy 2 1 ∷
    op.Set (opcell.Field 0 0) 2 ∷
    op.Weak 3 0 ∷
    op.Set (opcell.Field 1 0) 3 ∷
    op.Drop 0 ∷
    op.Get 3 (opcell.Field 1 0) ∷
    op.Load 4 3 ∷
    []

abbrev tenancy_script : Script
tenancy_script = record { version = 1; shape = tenancy; classes = person_class ∷ apartment_class ∷ []; globals = []; threads = record { vars = tenants; phases = moves ∷ [] } ∷ []; schedule = [] }

abbrev moved_in_one_steps : List Step
moved_in_one_steps =
    Noted (Operation 1) ∷
    Mine (acts.New 1 0 0) ∷
    Noted (Line (answers.New person)) ∷
    []

abbrev moved_in_one_history : History
moved_in_one_history = history_by 1 moved_in_one_steps []

abbrev moved_in_one : List Note
moved_in_one = notes_by moved_in_one_steps []

moved_in_one_tied : Ties Judged tenancy 1 moved_in_one moved_in_one_history
moved_in_one_tied = tied_by tenancy 1 moved_in_one_steps (tt, (tt, tt)) start

abbrev moved_in_two_steps : List Step
moved_in_two_steps =
    Noted (Operation 2) ∷
    Mine (acts.New 2 1 1) ∷
    Noted (Line (answers.New apartment)) ∷
    []

abbrev moved_in_two_history : History
moved_in_two_history = history_by 1 moved_in_two_steps moved_in_one_history

abbrev moved_in_two : List Note
moved_in_two = notes_by moved_in_two_steps moved_in_one

moved_in_two_tied : Ties Judged tenancy 1 moved_in_two moved_in_two_history
moved_in_two_tied = tied_by tenancy 1 moved_in_two_steps (tt, (tt, tt)) moved_in_one_tied

abbrev moved_in_three_steps : List Step
moved_in_three_steps =
    Noted (Operation 3) ∷
    Mine (acts.Copy (origins.Hand 2) 3) ∷
    Noted (Line answers.Ok) ∷
    []

abbrev moved_in_three_history : History
moved_in_three_history = history_by 1 moved_in_three_steps moved_in_two_history

abbrev moved_in_three : List Note
moved_in_three = notes_by moved_in_three_steps moved_in_two

moved_in_three_tied : Ties Judged tenancy 1 moved_in_three moved_in_three_history
moved_in_three_tied = tied_by tenancy 1 moved_in_three_steps (tt, (tt, tt)) moved_in_two_tied

abbrev moved_in_four_steps : List Step
moved_in_four_steps =
    Noted (Operation 4) ∷
    Mine (acts.Swap (cells.Field 0 0) (Some 3) None) ∷
    Noted (Line answers.Ok) ∷
    []

abbrev moved_in_four_history : History
moved_in_four_history = history_by 1 moved_in_four_steps moved_in_three_history

abbrev moved_in_four : List Note
moved_in_four = notes_by moved_in_four_steps moved_in_three

moved_in_four_tied : Ties Judged tenancy 1 moved_in_four moved_in_four_history
moved_in_four_tied = tied_by tenancy 1 moved_in_four_steps (tt, (tt, tt)) moved_in_three_tied

abbrev moved_in_five_steps : List Step
moved_in_five_steps =
    Noted (Operation 5) ∷
    Noted (NeedsEntry 0 Weak) ∷
    Mine (acts.Claim 0) ∷
    Mine (acts.Side 0 0 Weak) ∷
    Mine (acts.WeakOf 1 4) ∷
    Noted (Entry 0 (Some 0)) ∷
    Noted (Line answers.Ok) ∷
    []

abbrev moved_in_five_history : History
moved_in_five_history = history_by 1 moved_in_five_steps moved_in_four_history

abbrev moved_in_five : List Note
moved_in_five = notes_by moved_in_five_steps moved_in_four

moved_in_five_tied : Ties Judged tenancy 1 moved_in_five moved_in_five_history
moved_in_five_tied = tied_by tenancy 1 moved_in_five_steps (tt, (refl, (refl, (tt, tt)))) moved_in_four_tied

abbrev moved_in_six_steps : List Step
moved_in_six_steps =
    Noted (Operation 6) ∷
    Mine (acts.Swap (cells.Field 1 0) (Some 4) None) ∷
    Noted (Line answers.Ok) ∷
    []

abbrev moved_in_six_history : History
moved_in_six_history = history_by 1 moved_in_six_steps moved_in_five_history

abbrev moved_in_six : List Note
moved_in_six = notes_by moved_in_six_steps moved_in_five

moved_in_six_tied : Ties Judged tenancy 1 moved_in_six moved_in_six_history
moved_in_six_tied = tied_by tenancy 1 moved_in_six_steps (tt, (tt, tt)) moved_in_five_tied

abbrev moved_in_seven_steps : List Step
moved_in_seven_steps =
    Noted (Operation 7) ∷
    Noted (Line answers.Ok) ∷
    Mine (acts.Drop 1 true) ∷
    Noted (Name 0 person) ∷
    Noted (Line (answers.Deinit person)) ∷
    Noted (Refers (cells.Field 0 0) Strong 1) ∷
    Mine (acts.Take 0 0 5) ∷
    Mine (acts.Drop 5 false) ∷
    Mine (acts.Finish 0 true) ∷
    Noted (Entry 0 (Some 0)) ∷
    Mine (acts.Vacate 0) ∷
    Mine (acts.Gone 0 false) ∷
    []

abbrev moved_in_seven_history : History
moved_in_seven_history = history_by 1 moved_in_seven_steps moved_in_six_history

abbrev moved_in_seven : List Note
moved_in_seven = notes_by moved_in_seven_steps moved_in_six

moved_in_seven_tied : Ties Judged tenancy 1 moved_in_seven moved_in_seven_history
moved_in_seven_tied = tied_by tenancy 1 moved_in_seven_steps (tt, (tt, (refl, (tt, (refl, (refl, tt)))))) moved_in_six_tied

abbrev moved_in_eight_steps : List Step
moved_in_eight_steps =
    Noted (Operation 8) ∷
    Noted (Refers (cells.Field 1 0) Weak 0) ∷
    Mine (acts.Copy (origins.Cell (cells.Field 1 0)) 6) ∷
    Noted (Line answers.Ok) ∷
    []

abbrev moved_in_eight_history : History
moved_in_eight_history = history_by 1 moved_in_eight_steps moved_in_seven_history

abbrev moved_in_eight : List Note
moved_in_eight = notes_by moved_in_eight_steps moved_in_seven

moved_in_eight_tied : Ties Judged tenancy 1 moved_in_eight moved_in_eight_history
moved_in_eight_tied = tied_by tenancy 1 moved_in_eight_steps (tt, (refl, (tt, tt))) moved_in_seven_tied

abbrev moved_in_nine_steps : List Step
moved_in_nine_steps =
    Noted (Operation 9) ∷
    Mine (acts.Load 6 gots.Nil) ∷
    Noted (Line answers.Nil) ∷
    []

abbrev moved_in_nine_history : History
moved_in_nine_history = history_by 1 moved_in_nine_steps moved_in_eight_history

abbrev moved_in_nine : List Note
moved_in_nine = notes_by moved_in_nine_steps moved_in_eight

moved_in_nine_tied : Ties Judged tenancy 1 moved_in_nine moved_in_nine_history
moved_in_nine_tied = tied_by tenancy 1 moved_in_nine_steps (tt, (tt, tt)) moved_in_eight_tied

abbrev moved_in_end_steps : List Step
moved_in_end_steps =
    Noted (Operation 0) ∷
    Mine (acts.Drop 2 true) ∷
    Noted (Name 1 apartment) ∷
    Noted (Line (answers.Deinit apartment)) ∷
    Noted (Refers (cells.Field 1 0) Weak 0) ∷
    Mine (acts.Take 1 0 7) ∷
    Mine (acts.Drop 7 false) ∷
    Mine (acts.Finish 1 true) ∷
    Noted (Entry 1 None) ∷
    Mine (acts.Vacate 1) ∷
    Mine (acts.Drop 6 true) ∷
    Mine (acts.Back 0) ∷
    []

abbrev moved_in_history : History
moved_in_history = history_by 1 moved_in_end_steps moved_in_nine_history

abbrev moved_in_notes : List Note
moved_in_notes = notes_by moved_in_end_steps moved_in_nine

moved_in_tied : Ties Judged tenancy 1 moved_in_notes moved_in_history
moved_in_tied = tied_by tenancy 1 moved_in_end_steps (tt, (refl, (tt, (refl, (refl, tt))))) moved_in_nine_tied

moved_in_does_one : IsOp tenancy 1 (hands_in 1 moved_in_history) 1 (op.New 0 0) (None ∷ None ∷ None ∷ None ∷ None ∷ []) [] (Some (held 1 Strong 0) ∷ None ∷ None ∷ None ∷ None ∷ []) moved_in_one
moved_in_does_one = record { answer = answers.New person; last = None; answered = Did (acts.New 1 0 0) ∷ Operation 1 ∷ []; does = made refl refl (record { replaced = refl; old = refl }); ends = nothing }

moved_in_does_two : IsOp tenancy 1 (hands_in 1 moved_in_history) 2 (op.New 1 1) (Some (held 1 Strong 0) ∷ None ∷ None ∷ None ∷ None ∷ []) moved_in_one (Some (held 1 Strong 0) ∷ Some (held 2 Strong 1) ∷ None ∷ None ∷ None ∷ []) moved_in_two
moved_in_does_two = record { answer = answers.New apartment; last = None; answered = Did (acts.New 2 1 1) ∷ Operation 2 ∷ moved_in_one; does = made refl refl (record { replaced = refl; old = refl }); ends = nothing }

moved_in_does_three : IsOp tenancy 1 (hands_in 1 moved_in_history) 3 (op.Copy 2 1) (Some (held 1 Strong 0) ∷ Some (held 2 Strong 1) ∷ None ∷ None ∷ None ∷ []) moved_in_two (Some (held 1 Strong 0) ∷ Some (held 2 Strong 1) ∷ Some (held 3 Strong 1) ∷ None ∷ None ∷ []) moved_in_three
moved_in_does_three = record { answer = answers.Ok; last = None; answered = Did (acts.Copy (origins.Hand 2) 3) ∷ Operation 3 ∷ moved_in_two; does = copied refl refl (record { spare = Unclaimed; decided = Operation 3 ∷ moved_in_two; ready = ready; settled = unclaimed }) (record { replaced = refl; old = refl }); ends = nothing }

moved_in_does_four : IsOp tenancy 1 (hands_in 1 moved_in_history) 4 (op.Set (opcell.Field 0 0) 2) (Some (held 1 Strong 0) ∷ Some (held 2 Strong 1) ∷ Some (held 3 Strong 1) ∷ None ∷ None ∷ []) moved_in_three (Some (held 1 Strong 0) ∷ Some (held 2 Strong 1) ∷ None ∷ None ∷ None ∷ []) moved_in_four
moved_in_does_four = record { answer = answers.Ok; last = None; answered = Did (acts.Swap (cells.Field 0 0) (Some 3) None) ∷ Operation 4 ∷ moved_in_three; does = put_in_nil refl refl refl; ends = nothing }

moved_in_does_five : IsOp tenancy 1 (hands_in 1 moved_in_history) 5 (op.Weak 3 0) (Some (held 1 Strong 0) ∷ Some (held 2 Strong 1) ∷ None ∷ None ∷ None ∷ []) moved_in_four (Some (held 1 Strong 0) ∷ Some (held 2 Strong 1) ∷ None ∷ Some (held 4 Weak 0) ∷ None ∷ []) moved_in_five
moved_in_does_five = record { answer = answers.Ok; last = None; answered = Entry 0 (Some 0) ∷ Did (acts.WeakOf 1 4) ∷ Did (acts.Side 0 0 Weak) ∷ Did (acts.Claim 0) ∷ NeedsEntry 0 Weak ∷ Operation 5 ∷ moved_in_four; does = weak_formed refl refl (record { spare = Published; decided = Did (acts.Side 0 0 Weak) ∷ Did (acts.Claim 0) ∷ NeedsEntry 0 Weak ∷ Operation 5 ∷ moved_in_four; ready = published (claimed ready refl); settled = stays_published }) (record { replaced = refl; old = refl }); ends = nothing }

moved_in_does_six : IsOp tenancy 1 (hands_in 1 moved_in_history) 6 (op.Set (opcell.Field 1 0) 3) (Some (held 1 Strong 0) ∷ Some (held 2 Strong 1) ∷ None ∷ Some (held 4 Weak 0) ∷ None ∷ []) moved_in_five (Some (held 1 Strong 0) ∷ Some (held 2 Strong 1) ∷ None ∷ None ∷ None ∷ []) moved_in_six
moved_in_does_six = record { answer = answers.Ok; last = None; answered = Did (acts.Swap (cells.Field 1 0) (Some 4) None) ∷ Operation 6 ∷ moved_in_five; does = put_in_nil refl refl refl; ends = nothing }

moved_in_does_seven : IsOp tenancy 1 (hands_in 1 moved_in_history) 7 (op.Drop 0) (Some (held 1 Strong 0) ∷ Some (held 2 Strong 1) ∷ None ∷ None ∷ None ∷ []) moved_in_six (None ∷ Some (held 2 Strong 1) ∷ None ∷ None ∷ None ∷ []) moved_in_seven
moved_in_does_seven = record { answer = answers.Ok; last = Some (held 1 Strong 0); answered = Operation 7 ∷ moved_in_six; does = given_up refl (record { replaced = refl; old = refl }) refl; ends = dropped (last_strong (finish_last (taken named (omega arith) refl refl more) refl gone_more)) }

moved_in_does_eight : IsOp tenancy 1 (hands_in 1 moved_in_history) 8 (op.Get 3 (opcell.Field 1 0)) (None ∷ Some (held 2 Strong 1) ∷ None ∷ None ∷ None ∷ []) moved_in_seven (None ∷ Some (held 2 Strong 1) ∷ None ∷ Some (held 6 Weak 0) ∷ None ∷ []) moved_in_eight
moved_in_does_eight = record { answer = answers.Ok; last = None; answered = Did (acts.Copy (origins.Cell (cells.Field 1 0)) 6) ∷ Refers (cells.Field 1 0) Weak 0 ∷ Operation 8 ∷ moved_in_seven; does = got refl refl refl (record { spare = Unclaimed; decided = Refers (cells.Field 1 0) Weak 0 ∷ Operation 8 ∷ moved_in_seven; ready = ready; settled = unclaimed }) (record { replaced = refl; old = refl }); ends = nothing }

moved_in_does_nine : IsOp tenancy 1 (hands_in 1 moved_in_history) 9 (op.Load 4 3) (None ∷ Some (held 2 Strong 1) ∷ None ∷ Some (held 6 Weak 0) ∷ None ∷ []) moved_in_eight (None ∷ Some (held 2 Strong 1) ∷ None ∷ Some (held 6 Weak 0) ∷ None ∷ []) moved_in_nine
moved_in_does_nine = record { answer = answers.Nil; last = None; answered = Did (acts.Load 6 gots.Nil) ∷ Operation 9 ∷ moved_in_eight; does = found_nil refl refl (record { spare = Unclaimed; decided = Operation 9 ∷ moved_in_eight; ready = ready; settled = unclaimed }) (record { replaced = refl; old = refl }); ends = nothing }

pub moved_in : IsSpelledIn tenancy_script 1
    (record { operation = 1; answer = answers.New person } ∷ record { operation = 2; answer = answers.New apartment } ∷ record { operation = 3; answer = answers.Ok } ∷ record { operation = 4; answer = answers.Ok } ∷ record { operation = 5; answer = answers.Ok } ∷ record { operation = 6; answer = answers.Ok } ∷ record { operation = 7; answer = answers.Ok } ∷ record { operation = 7; answer = answers.Deinit person } ∷ record { operation = 8; answer = answers.Ok } ∷ record { operation = 9; answer = answers.Nil } ∷ record { operation = 0; answer = answers.Deinit apartment } ∷ [])
    moved_in_history
moved_in =
    record {
      notes = moved_in_notes;
      tied = moved_in_tied;
      spelled = thread (omega arith) refl (record { vars = None ∷ Some (held 2 Strong 1) ∷ None ∷ Some (held 6 Weak 0) ∷ None ∷ []; worked = moved_in_nine; ops = one (one (one (one (one (one (one (one (one (none refl) refl refl moved_in_does_one) refl refl moved_in_does_two) refl refl moved_in_does_three) refl refl moved_in_does_four) refl refl moved_in_does_five) refl refl moved_in_does_six) refl refl moved_in_does_seven) refl refl moved_in_does_eight) refl refl moved_in_does_nine; left = None ∷ None ∷ None ∷ None ∷ None ∷ []; scope = nil (var_dropped (nil (var_dropped (nil begins (omega arith) refl refl) (omega arith) refl refl refl (last_strong (finish_last (taken named (omega arith) refl refl more) refl inline))) (omega arith) refl refl) (omega arith) refl refl refl last_weak) (omega arith) refl refl });
      lines_are = refl;
    }

moved_in_legal : IsLegal tenancy moved_in_history
moved_in_legal = (refl, (refl, (refl, (refl, (refl, (refl, (refl, (refl, (refl, (refl, (refl, (refl, (refl, (refl, (refl, (refl, (refl, (refl, (refl, (refl, (refl, (refl, (refl, tt)))))))))))))))))))))))
