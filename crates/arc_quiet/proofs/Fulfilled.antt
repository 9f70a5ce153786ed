-- A history of which all premises hold: an object dies, and with it the one that its strong field had.
use Rattle.std.proofs.Common.{◌≡◌, ◌≤◌, ℕ, zero, suc, true, List, [], ◌∷◌, Some, None, refl, arith, lit≤}
use Rattle.arc_model.specs.declared.answer.Answer.TheVariants as answers
use Rattle.arc_model.specs.declared.event.CellName.TheVariants as cells
use Rattle.arc_model.specs.declared.event.Act.TheVariants as acts
use Rattle.arc_model.specs.declared.shape.Kind.TheVariants.{Strong}
use Rattle.arc_model.specs.History.{History}
use Rattle.arc_spelling.specs.Spelling.{Note}
use Rattle.arc_spelling.specs.Spelling.Note.{Did, Line, Operation, Name, Entry, Refers}
use Rattle.arc_spelling.specs.Spelling.IsEnd.{inline}
use Rattle.arc_spelling.specs.Spelling.FieldsDone.{named, taken}
use Rattle.arc_spelling.specs.Spelling.IsDrop.{last_strong}
use Rattle.arc_spelling.specs.Spelling.IsCascade.{finish_last}
use Rattle.arc_spelling.specs.SpellingTies.Causes.{Judged}
use Rattle.arc_spelling.specs.SpellingTies.Ties.{start}
use Rattle.arc_spelling.proofs.SpellSteps.{Step, notes_by, tied_by}
use Rattle.arc_spelling.proofs.SpellSteps.Step.{Mine, Other, Note as Noted}
use Rattle.arc_script.specs.declared.answer.Line.{Line as ThreadLine}
use Rattle.arc_script.specs.declared.script.Op.TheVariants as op
use Rattle.arc_script.specs.declared.script.OpCell.TheVariants as opcell
use Rattle.arc_script.specs.declared.script.Script.{Script}
use Rattle.arc_script.specs.Valid as valid
use Rattle.arc_programs.specs.Programs.{IsOp}
use Rattle.arc_programs.specs.Programs.IsDropped.{nothing}
use Rattle.arc_programs.specs.Programs.IsAnswered.{made, put_in_nil}
use Rattle.arc_programs.specs.Programs.OpsDone.{none as no_ops, one as next_op}
use Rattle.arc_programs.specs.Programs.ScopeEnds.{begins, nil as var_nil, dropped as var_dropped}
use Rattle.arc_programs.specs.Programs.GlobalsCleared.{begins as end_begins}
use Rattle.arc_programs.specs.ProgramsTied.{hands_in, HasProgram}
use Rattle.arc_programs.specs.ProgramsTied.Spells.{thread, end}
use Rattle.arc_programs.specs.ProgramsLines.{told}
use Rattle.arc_quiet.specs.Premises.{CanBeMet}
use Rattle.arc_quiet.specs.Premises.Premise.{Finished}
use Rattle.arc_quiet.proofs.Small.{by, held, strong, bare_class, chain_class, script_of, runs, node, heading, pair-classes, no-vars, two-vars, of-first, no-blocks, pair-mortal, pair-ways}

abbrev pair_script : Script
pair_script = script_of (chain_class 65 1 ∷ bare_class ∷ []) [] (runs (strong 97 0 ∷ strong 98 1 ∷ []) (op.New 0 0 ∷ op.New 1 1 ∷ op.Set (opcell.Field 0 0) 1 ∷ []) ∷ [])

pair_valid : valid.IsScript pair_script
pair_valid = record {
  version = (lit≤ tt, lit≤ tt);
  classes_of_version = (of-first, (of-first, tt));
  threads_of_version = (((of-first, (of-first, (of-first, tt))), tt), tt);
  heading = heading (chain_class 65 1 ∷ bare_class ∷ []) [] pair-classes (no-vars 64 2) ((refl, tt), (tt, tt)) tt;
  few_threads = lit≤ tt;
  threads = (
    record {
      vars = two-vars 256 0 1 2 (lit≤ tt) (lit≤ tt) (lit≤ tt);
      vars_allowed = (refl, (refl, tt));
      nested = (no-blocks 8 0 _ (refl, (refl, (refl, tt))), tt);
      some_phase = lit≤ tt;
      few_phases = lit≤ tt;
      ops = (((lit≤ tt, lit≤ tt, refl), ((lit≤ tt, lit≤ tt, refl), ((lit≤ tt, (lit≤ tt, refl, lit≤ tt), refl, λ e. omega (arith, e)), tt))), tt);
    },
    tt,
  );
  few_ops = lit≤ tt;
  few_places = lit≤ tt;
  places = tt;
}

abbrev pair_history : History
pair_history =
    by 1 (acts.Vacate 0) ∷
    by 1 (acts.Finish 0 true) ∷
    by 1 (acts.Vacate 1) ∷
    by 1 (acts.Finish 1 true) ∷
    by 1 (acts.Drop 3 true) ∷
    by 1 (acts.Take 0 0 3) ∷
    by 1 (acts.Drop 1 true) ∷
    by 1 (acts.Swap (cells.Field 0 0) (Some 2) None) ∷
    by 1 (acts.New 2 1 1) ∷
    by 1 (acts.New 1 0 0) ∷
    []

abbrev pair_steps : List Step
pair_steps =
    Noted (Operation 1) ∷ Mine (acts.New 1 0 0) ∷ Noted (Line (answers.New (node 0 1))) ∷
    Noted (Operation 2) ∷ Mine (acts.New 2 1 1) ∷ Noted (Line (answers.New (node 1 2))) ∷
    Noted (Operation 3) ∷ Mine (acts.Swap (cells.Field 0 0) (Some 2) None) ∷ Noted (Line answers.Ok) ∷
    Noted (Operation 0) ∷ Mine (acts.Drop 1 true) ∷ Noted (Name 0 (node 0 1)) ∷ Noted (Line (answers.Deinit (node 0 1))) ∷
    Noted (Refers (cells.Field 0 0) Strong 1) ∷ Mine (acts.Take 0 0 3) ∷ Mine (acts.Drop 3 true) ∷ Noted (Name 1 (node 1 2)) ∷ Noted (Line (answers.Deinit (node 1 2))) ∷
    Mine (acts.Finish 1 true) ∷ Noted (Entry 1 None) ∷ Mine (acts.Vacate 1) ∷
    Mine (acts.Finish 0 true) ∷ Noted (Entry 0 None) ∷ Mine (acts.Vacate 0) ∷ []

abbrev pair_one : List Note
pair_one = Line (answers.New (node 0 1)) ∷ Did (acts.New 1 0 0) ∷ Operation 1 ∷ []

abbrev pair_two : List Note
pair_two = Line (answers.New (node 1 2)) ∷ Did (acts.New 2 1 1) ∷ Operation 2 ∷ pair_one

abbrev pair_three : List Note
pair_three = Line answers.Ok ∷ Did (acts.Swap (cells.Field 0 0) (Some 2) None) ∷ Operation 3 ∷ pair_two

pair_does_one : IsOp pair_script.shape 1 (hands_in 1 pair_history) 1 (op.New 0 0) (None ∷ None ∷ []) [] (Some (held 1 0) ∷ None ∷ []) pair_one
pair_does_one = record { answer = answers.New (node 0 1); last = None; answered = Did (acts.New 1 0 0) ∷ Operation 1 ∷ []; does = made refl refl (record { replaced = refl; old = refl }); ends = nothing }

pair_does_two : IsOp pair_script.shape 1 (hands_in 1 pair_history) 2 (op.New 1 1) (Some (held 1 0) ∷ None ∷ []) pair_one (Some (held 1 0) ∷ Some (held 2 1) ∷ []) pair_two
pair_does_two = record { answer = answers.New (node 1 2); last = None; answered = Did (acts.New 2 1 1) ∷ Operation 2 ∷ pair_one; does = made refl refl (record { replaced = refl; old = refl }); ends = nothing }

pair_does_three : IsOp pair_script.shape 1 (hands_in 1 pair_history) 3 (op.Set (opcell.Field 0 0) 1) (Some (held 1 0) ∷ Some (held 2 1) ∷ []) pair_two (Some (held 1 0) ∷ None ∷ []) pair_three
pair_does_three = record { answer = answers.Ok; last = None; answered = Did (acts.Swap (cells.Field 0 0) (Some 2) None) ∷ Operation 3 ∷ pair_two; does = put_in_nil refl refl refl; ends = nothing }

abbrev pair_zero_steps : List Step
pair_zero_steps =
    Other (by 1 (acts.New 1 0 0)) ∷
    Other (by 1 (acts.New 2 1 1)) ∷
    Other (by 1 (acts.Swap (cells.Field 0 0) (Some 2) None)) ∷
    Other (by 1 (acts.Drop 1 true)) ∷
    Other (by 1 (acts.Take 0 0 3)) ∷
    Other (by 1 (acts.Drop 3 true)) ∷
    Other (by 1 (acts.Finish 1 true)) ∷
    Other (by 1 (acts.Vacate 1)) ∷
    Other (by 1 (acts.Finish 0 true)) ∷
    Other (by 1 (acts.Vacate 0)) ∷
    Noted (Operation 0) ∷
    []

pub can_be_met : CanBeMet
can_be_met = (
  pair_script,
  pair_history,
  record {
    valid = λ x. pair_valid;
    mortal = λ x. pair-mortal [];
    one_way = λ x. pair-ways [];
    legal = λ x. (refl, (refl, (refl, (refl, (refl, (refl, (refl, (refl, (refl, (refl, tt))))))))));
    finished = finishes;
    last = λ x. refl;
    no_other = λ x. (lit≤ tt, (lit≤ tt, (lit≤ tt, (lit≤ tt, (lit≤ tt, (lit≤ tt, (lit≤ tt, (lit≤ tt, (lit≤ tt, (lit≤ tt, tt))))))))));
  },
  _,
  refl,
  refl,
)
  where
    finishes : (p : ℕ) → p ≤ 1 → (None ≡ Some (Finished p) → ⊥) → (lines : List ThreadLine) × HasProgram Judged pair_script p lines pair_history
    finishes zero l x = ([], record { notes = notes_by pair_zero_steps []; tied = tied_by pair_script.shape 0 pair_zero_steps (refl, (refl, (refl, (refl, (refl, (refl, (refl, (refl, (refl, (refl, (tt, tt))))))))))) start; spelled = end end_begins refl; lines_are = refl })
    finishes (suc zero) l x = (
      told (notes_by pair_steps []),
      record {
        notes = notes_by pair_steps [];
        tied = tied_by pair_script.shape 1 pair_steps (tt, (tt, (tt, (tt, (tt, (tt, (tt, (refl, (tt, (refl, (refl, (tt, (refl, (refl, tt)))))))))))))) start;
        spelled = thread (omega arith) refl (record {
          vars = Some (held 1 0) ∷ None ∷ [];
          worked = pair_three;
          ops = next_op (next_op (next_op (no_ops refl) refl refl pair_does_one) refl refl pair_does_two) refl refl pair_does_three;
          left = None ∷ None ∷ [];
          scope = var_nil (var_dropped begins (omega arith) refl refl refl (last_strong (finish_last (taken named (omega arith) refl refl (last_strong (finish_last named refl inline))) refl inline))) (omega arith) refl refl;
        });
        lines_are = refl;
      },
    )
    finishes (suc (suc p)) l x = absurd (omega (arith, l))
