-- Worked programs of strong references, each tied to a legal history.
use Rattle.std.proofs.Common.{ℕ, List, [], ◌∷◌, Some, None, refl, true, false, arith}
use Rattle.arc_model.specs.declared.answer.Answer.TheVariants as answers
use Rattle.arc_model.specs.declared.event.ObjectName.{ObjectName}
use Rattle.arc_model.specs.declared.event.Origin.TheVariants as origins
use Rattle.arc_model.specs.declared.event.Act.{Act}
use Rattle.arc_model.specs.declared.event.Act.TheVariants as acts
use Rattle.arc_model.specs.declared.event.Event.{Event}
use Rattle.arc_model.specs.declared.shape.Kind.{Kind}
use Rattle.arc_model.specs.declared.shape.Kind.TheVariants.{Strong}
use Rattle.arc_model.specs.Shapes.{HeapShape}
use Rattle.arc_model.specs.History.{History, IsLegal}
use Rattle.arc_spelling.specs.Spelling.{Note}
use Rattle.arc_spelling.specs.Spelling.Note.{Did, Line, Operation, Name, Entry, NeedsEntry}
use Rattle.arc_spelling.specs.Spelling.IsEnd.{inline, gone_last}
use Rattle.arc_spelling.specs.Spelling.FieldsDone.{named}
use Rattle.arc_spelling.specs.Spelling.IsDrop.{more, last_strong}
use Rattle.arc_spelling.specs.Spelling.IsCascade.{finish_last}
use Rattle.arc_spelling.specs.SpellingGains.Spare.{Unclaimed, Published}
use Rattle.arc_spelling.specs.SpellingGains.IsReady.{start as ready, claimed, published}
use Rattle.arc_spelling.specs.SpellingGains.IsSettled.{unclaimed, published as stays_published}
use Rattle.arc_spelling.specs.SpellingTies.{Ties}
use Rattle.arc_spelling.specs.SpellingTies.Causes.{Judged}
use Rattle.arc_spelling.specs.SpellingTies.Ties.{start}
use Rattle.arc_spelling.proofs.SpellSteps.{Step, history_by, notes_by, tied_by}
use Rattle.arc_spelling.proofs.SpellSteps.Step.{Mine, Note as Noted}
use Rattle.arc_script.specs.declared.script.ClassDecl.{ClassDecl}
use Rattle.arc_script.specs.declared.script.VarDecl.{VarDecl}
use Rattle.arc_script.specs.declared.script.Op.{Op}
use Rattle.arc_script.specs.declared.script.Op.TheVariants as op
use Rattle.arc_script.specs.declared.script.Script.{Script}
use Rattle.arc_programs.specs.Variables.{Held}
use Rattle.arc_programs.specs.Programs.{IsOp}
use Rattle.arc_programs.specs.Programs.IsDropped.{nothing, dropped}
use Rattle.arc_programs.specs.Programs.IsAnswered.{made, copied, given_up}
use Rattle.arc_programs.specs.Programs.OpsDone.{none, one}
use Rattle.arc_programs.specs.Programs.ScopeEnds.{begins, nil, dropped as var_dropped}
use Rattle.arc_programs.specs.ProgramsTied.{hands_in, IsSpelledIn}
use Rattle.arc_programs.specs.ProgramsTied.Spells.{thread}

abbrev pub held : ℕ → Kind → ℕ → Held
held hand kind place = record { hand = hand; kind = kind; place = place }

abbrev pub by : ℕ → Act → Event
by p a = record { thread = p; act = a }

abbrev pub letters : ℕ → List ℕ
letters n = n ∷ []

abbrev pub variable : ℕ → Kind → ℕ → VarDecl
variable letter kind class = record { name = letters letter; kind = kind; class = class }

-- one slot, one entry, one class without fields; the greatest caps
abbrev pub plain : HeapShape
plain = record { slots = 1; entries = 1; caps = record { strong = 1073741823; unowned = 2147483647; wide = 4294967295 }; classes = record { fields = []; immortal = false } ∷ []; globals = [] }

abbrev pub object : ClassDecl
object = record { name = letters 78; immortal = false; fields = [] }

abbrev pub node : ℕ → ObjectName
node n = record { class = 0; thread = 1; number = n }

-- a script of one thread with one phase, whose class has no fields
abbrev pub alone : HeapShape → List VarDecl → List Op → Script
alone shape vars ops = record { version = 1; shape = shape; classes = object ∷ []; globals = []; threads = record { vars = vars; phases = ops ∷ [] } ∷ []; schedule = [] }

-- One object, made and dropped.

abbrev life_script : Script
life_script = alone plain (variable 97 Strong 0 ∷ []) (op.New 0 0 ∷ op.Drop 0 ∷ [])

abbrev life_one_steps : List Step
life_one_steps =
    Noted (Operation 1) ∷
    Mine (acts.New 1 0 0) ∷
    Noted (Line (answers.New (node 1))) ∷
    []

abbrev life_one_history : History
life_one_history = history_by 1 life_one_steps []

abbrev life_one : List Note
life_one = notes_by life_one_steps []

life_one_tied : Ties Judged plain 1 life_one life_one_history
life_one_tied = tied_by plain 1 life_one_steps (tt, (tt, tt)) start

abbrev life_two_steps : List Step
life_two_steps =
    Noted (Operation 2) ∷
    Noted (Line answers.Ok) ∷
    Mine (acts.Drop 1 true) ∷
    Noted (Name 0 (node 1)) ∷
    Noted (Line (answers.Deinit (node 1))) ∷
    Mine (acts.Finish 0 true) ∷
    Noted (Entry 0 None) ∷
    Mine (acts.Vacate 0) ∷
    []

abbrev life_two_history : History
life_two_history = history_by 1 life_two_steps life_one_history

abbrev life_two : List Note
life_two = notes_by life_two_steps life_one

life_two_tied : Ties Judged plain 1 life_two life_two_history
life_two_tied = tied_by plain 1 life_two_steps (tt, (tt, (refl, (tt, (refl, tt))))) life_one_tied

abbrev life_end_steps : List Step
life_end_steps = Noted (Operation 0) ∷ []

abbrev life_history : History
life_history = history_by 1 life_end_steps life_two_history

abbrev life_notes : List Note
life_notes = notes_by life_end_steps life_two

life_tied : Ties Judged plain 1 life_notes life_history
life_tied = tied_by plain 1 life_end_steps (tt, tt) life_two_tied

life_does_one : IsOp plain 1 (hands_in 1 life_history) 1 (op.New 0 0) (None ∷ []) [] (Some (held 1 Strong 0) ∷ []) life_one
life_does_one = record { answer = answers.New (node 1); last = None; answered = Did (acts.New 1 0 0) ∷ Operation 1 ∷ []; does = made refl refl (record { replaced = refl; old = refl }); ends = nothing }

life_does_two : IsOp plain 1 (hands_in 1 life_history) 2 (op.Drop 0) (Some (held 1 Strong 0) ∷ []) life_one (None ∷ []) life_two
life_does_two = record { answer = answers.Ok; last = Some (held 1 Strong 0); answered = Operation 2 ∷ life_one; does = given_up refl (record { replaced = refl; old = refl }) refl; ends = dropped (last_strong (finish_last named refl inline)) }

pub life : IsSpelledIn life_script 1
    (record { operation = 1; answer = answers.New (node 1) } ∷ record { operation = 2; answer = answers.Ok } ∷ record { operation = 2; answer = answers.Deinit (node 1) } ∷ [])
    life_history
life =
    record {
      notes = life_notes;
      tied = life_tied;
      spelled = thread (omega arith) refl (record { vars = None ∷ []; worked = life_two; ops = one (one (none refl) refl refl life_does_one) refl refl life_does_two; left = None ∷ []; scope = nil begins (omega arith) refl refl });
      lines_are = refl;
    }

life_legal : IsLegal plain life_history
life_legal = (refl, (refl, (refl, (refl, tt))))

-- Two references to one object: the second drop is the last.

abbrev pair_script : Script
pair_script = alone plain (variable 97 Strong 0 ∷ variable 98 Strong 0 ∷ []) (op.New 0 0 ∷ op.Copy 1 0 ∷ op.Drop 0 ∷ op.Drop 1 ∷ [])

abbrev pair_one_steps : List Step
pair_one_steps =
    Noted (Operation 1) ∷
    Mine (acts.New 1 0 0) ∷
    Noted (Line (answers.New (node 1))) ∷
    []

abbrev pair_one_history : History
pair_one_history = history_by 1 pair_one_steps []

abbrev pair_one : List Note
pair_one = notes_by pair_one_steps []

pair_one_tied : Ties Judged plain 1 pair_one pair_one_history
pair_one_tied = tied_by plain 1 pair_one_steps (tt, (tt, tt)) start

abbrev pair_two_steps : List Step
pair_two_steps =
    Noted (Operation 2) ∷
    Mine (acts.Copy (origins.Hand 1) 2) ∷
    Noted (Line answers.Ok) ∷
    []

abbrev pair_two_history : History
pair_two_history = history_by 1 pair_two_steps pair_one_history

abbrev pair_two : List Note
pair_two = notes_by pair_two_steps pair_one

pair_two_tied : Ties Judged plain 1 pair_two pair_two_history
pair_two_tied = tied_by plain 1 pair_two_steps (tt, (tt, tt)) pair_one_tied

abbrev pair_three_steps : List Step
pair_three_steps =
    Noted (Operation 3) ∷
    Noted (Line answers.Ok) ∷
    Mine (acts.Drop 1 false) ∷
    []

abbrev pair_three_history : History
pair_three_history = history_by 1 pair_three_steps pair_two_history

abbrev pair_three : List Note
pair_three = notes_by pair_three_steps pair_two

pair_three_tied : Ties Judged plain 1 pair_three pair_three_history
pair_three_tied = tied_by plain 1 pair_three_steps (tt, (tt, tt)) pair_two_tied

abbrev pair_four_steps : List Step
pair_four_steps =
    Noted (Operation 4) ∷
    Noted (Line answers.Ok) ∷
    Mine (acts.Drop 2 true) ∷
    Noted (Name 0 (node 1)) ∷
    Noted (Line (answers.Deinit (node 1))) ∷
    Mine (acts.Finish 0 true) ∷
    Noted (Entry 0 None) ∷
    Mine (acts.Vacate 0) ∷
    []

abbrev pair_four_history : History
pair_four_history = history_by 1 pair_four_steps pair_three_history

abbrev pair_four : List Note
pair_four = notes_by pair_four_steps pair_three

pair_four_tied : Ties Judged plain 1 pair_four pair_four_history
pair_four_tied = tied_by plain 1 pair_four_steps (tt, (tt, (refl, (tt, (refl, tt))))) pair_three_tied

abbrev pair_end_steps : List Step
pair_end_steps = Noted (Operation 0) ∷ []

abbrev pair_history : History
pair_history = history_by 1 pair_end_steps pair_four_history

abbrev pair_notes : List Note
pair_notes = notes_by pair_end_steps pair_four

pair_tied : Ties Judged plain 1 pair_notes pair_history
pair_tied = tied_by plain 1 pair_end_steps (tt, tt) pair_four_tied

pair_does_one : IsOp plain 1 (hands_in 1 pair_history) 1 (op.New 0 0) (None ∷ None ∷ []) [] (Some (held 1 Strong 0) ∷ None ∷ []) pair_one
pair_does_one = record { answer = answers.New (node 1); last = None; answered = Did (acts.New 1 0 0) ∷ Operation 1 ∷ []; does = made refl refl (record { replaced = refl; old = refl }); ends = nothing }

pair_does_two : IsOp plain 1 (hands_in 1 pair_history) 2 (op.Copy 1 0) (Some (held 1 Strong 0) ∷ None ∷ []) pair_one (Some (held 1 Strong 0) ∷ Some (held 2 Strong 0) ∷ []) pair_two
pair_does_two = record { answer = answers.Ok; last = None; answered = Did (acts.Copy (origins.Hand 1) 2) ∷ Operation 2 ∷ pair_one; does = copied refl refl (record { spare = Unclaimed; decided = Operation 2 ∷ pair_one; ready = ready; settled = unclaimed }) (record { replaced = refl; old = refl }); ends = nothing }

pair_does_three : IsOp plain 1 (hands_in 1 pair_history) 3 (op.Drop 0) (Some (held 1 Strong 0) ∷ Some (held 2 Strong 0) ∷ []) pair_two (None ∷ Some (held 2 Strong 0) ∷ []) pair_three
pair_does_three = record { answer = answers.Ok; last = Some (held 1 Strong 0); answered = Operation 3 ∷ pair_two; does = given_up refl (record { replaced = refl; old = refl }) refl; ends = dropped more }

pair_does_four : IsOp plain 1 (hands_in 1 pair_history) 4 (op.Drop 1) (None ∷ Some (held 2 Strong 0) ∷ []) pair_three (None ∷ None ∷ []) pair_four
pair_does_four = record { answer = answers.Ok; last = Some (held 2 Strong 0); answered = Operation 4 ∷ pair_three; does = given_up refl (record { replaced = refl; old = refl }) refl; ends = dropped (last_strong (finish_last named refl inline)) }

pub pair : IsSpelledIn pair_script 1
    (record { operation = 1; answer = answers.New (node 1) } ∷ record { operation = 2; answer = answers.Ok } ∷ record { operation = 3; answer = answers.Ok } ∷ record { operation = 4; answer = answers.Ok } ∷ record { operation = 4; answer = answers.Deinit (node 1) } ∷ [])
    pair_history
pair =
    record {
      notes = pair_notes;
      tied = pair_tied;
      spelled = thread (omega arith) refl (record { vars = None ∷ None ∷ []; worked = pair_four; ops = one (one (one (one (none refl) refl refl pair_does_one) refl refl pair_does_two) refl refl pair_does_three) refl refl pair_does_four; left = None ∷ None ∷ []; scope = nil (nil begins (omega arith) refl refl) (omega arith) refl refl });
      lines_are = refl;
    }

pair_legal : IsLegal plain pair_history
pair_legal = (refl, (refl, (refl, (refl, (refl, (refl, tt))))))

-- A strong cap of 1: the second copy moves the object to an entry, and the end of the scope ends the slot and the entry.

abbrev strong_cap_one : HeapShape
strong_cap_one = record plain { caps = record { strong = 1; unowned = 10; wide = 10 } }

abbrev three_script : Script
three_script = alone strong_cap_one (variable 97 Strong 0 ∷ variable 98 Strong 0 ∷ variable 99 Strong 0 ∷ []) (op.New 0 0 ∷ op.Copy 1 0 ∷ op.Copy 2 0 ∷ [])

abbrev three_one_steps : List Step
three_one_steps =
    Noted (Operation 1) ∷
    Mine (acts.New 1 0 0) ∷
    Noted (Line (answers.New (node 1))) ∷
    []

abbrev three_one_history : History
three_one_history = history_by 1 three_one_steps []

abbrev three_one : List Note
three_one = notes_by three_one_steps []

three_one_tied : Ties Judged strong_cap_one 1 three_one three_one_history
three_one_tied = tied_by strong_cap_one 1 three_one_steps (tt, (tt, tt)) start

abbrev three_two_steps : List Step
three_two_steps =
    Noted (Operation 2) ∷
    Mine (acts.Copy (origins.Hand 1) 2) ∷
    Noted (Line answers.Ok) ∷
    []

abbrev three_two_history : History
three_two_history = history_by 1 three_two_steps three_one_history

abbrev three_two : List Note
three_two = notes_by three_two_steps three_one

three_two_tied : Ties Judged strong_cap_one 1 three_two three_two_history
three_two_tied = tied_by strong_cap_one 1 three_two_steps (tt, (tt, tt)) three_one_tied

abbrev three_three_steps : List Step
three_three_steps =
    Noted (Operation 3) ∷
    Noted (NeedsEntry 0 Strong) ∷
    Mine (acts.Claim 0) ∷
    Mine (acts.Side 0 0 Strong) ∷
    Mine (acts.Copy (origins.Hand 1) 3) ∷
    Noted (Line answers.Ok) ∷
    []

abbrev three_three_history : History
three_three_history = history_by 1 three_three_steps three_two_history

abbrev three_three : List Note
three_three = notes_by three_three_steps three_two

three_three_tied : Ties Judged strong_cap_one 1 three_three three_three_history
three_three_tied = tied_by strong_cap_one 1 three_three_steps (tt, (refl, (tt, tt))) three_two_tied

abbrev three_end_steps : List Step
three_end_steps =
    Noted (Operation 0) ∷
    Mine (acts.Drop 1 false) ∷
    Mine (acts.Drop 2 false) ∷
    Mine (acts.Drop 3 true) ∷
    Noted (Name 0 (node 1)) ∷
    Noted (Line (answers.Deinit (node 1))) ∷
    Mine (acts.Finish 0 true) ∷
    Noted (Entry 0 (Some 0)) ∷
    Mine (acts.Vacate 0) ∷
    Mine (acts.Gone 0 true) ∷
    Mine (acts.Back 0) ∷
    []

abbrev three_history : History
three_history = history_by 1 three_end_steps three_three_history

abbrev three_notes : List Note
three_notes = notes_by three_end_steps three_three

three_tied : Ties Judged strong_cap_one 1 three_notes three_history
three_tied = tied_by strong_cap_one 1 three_end_steps (tt, (refl, (tt, (refl, tt)))) three_three_tied

three_does_one : IsOp strong_cap_one 1 (hands_in 1 three_history) 1 (op.New 0 0) (None ∷ None ∷ None ∷ []) [] (Some (held 1 Strong 0) ∷ None ∷ None ∷ []) three_one
three_does_one = record { answer = answers.New (node 1); last = None; answered = Did (acts.New 1 0 0) ∷ Operation 1 ∷ []; does = made refl refl (record { replaced = refl; old = refl }); ends = nothing }

three_does_two : IsOp strong_cap_one 1 (hands_in 1 three_history) 2 (op.Copy 1 0) (Some (held 1 Strong 0) ∷ None ∷ None ∷ []) three_one (Some (held 1 Strong 0) ∷ Some (held 2 Strong 0) ∷ None ∷ []) three_two
three_does_two = record { answer = answers.Ok; last = None; answered = Did (acts.Copy (origins.Hand 1) 2) ∷ Operation 2 ∷ three_one; does = copied refl refl (record { spare = Unclaimed; decided = Operation 2 ∷ three_one; ready = ready; settled = unclaimed }) (record { replaced = refl; old = refl }); ends = nothing }

three_does_three : IsOp strong_cap_one 1 (hands_in 1 three_history) 3 (op.Copy 2 0) (Some (held 1 Strong 0) ∷ Some (held 2 Strong 0) ∷ None ∷ []) three_two (Some (held 1 Strong 0) ∷ Some (held 2 Strong 0) ∷ Some (held 3 Strong 0) ∷ []) three_three
three_does_three = record { answer = answers.Ok; last = None; answered = Did (acts.Copy (origins.Hand 1) 3) ∷ Did (acts.Side 0 0 Strong) ∷ Did (acts.Claim 0) ∷ NeedsEntry 0 Strong ∷ Operation 3 ∷ three_two; does = copied refl refl (record { spare = Published; decided = Did (acts.Side 0 0 Strong) ∷ Did (acts.Claim 0) ∷ NeedsEntry 0 Strong ∷ Operation 3 ∷ three_two; ready = published (claimed ready refl); settled = stays_published }) (record { replaced = refl; old = refl }); ends = nothing }

pub three : IsSpelledIn three_script 1
    (record { operation = 1; answer = answers.New (node 1) } ∷ record { operation = 2; answer = answers.Ok } ∷ record { operation = 3; answer = answers.Ok } ∷ record { operation = 0; answer = answers.Deinit (node 1) } ∷ [])
    three_history
three =
    record {
      notes = three_notes;
      tied = three_tied;
      spelled = thread (omega arith) refl (record { vars = Some (held 1 Strong 0) ∷ Some (held 2 Strong 0) ∷ Some (held 3 Strong 0) ∷ []; worked = three_three; ops = one (one (one (none refl) refl refl three_does_one) refl refl three_does_two) refl refl three_does_three; left = None ∷ None ∷ None ∷ []; scope = var_dropped (var_dropped (var_dropped begins (omega arith) refl refl refl more) (omega arith) refl refl refl more) (omega arith) refl refl refl (last_strong (finish_last named refl gone_last)) });
      lines_are = refl;
    }

three_legal : IsLegal strong_cap_one three_history
three_legal = (refl, (refl, (refl, (refl, (refl, (refl, (refl, (refl, (refl, (refl, (refl, (refl, tt))))))))))))
