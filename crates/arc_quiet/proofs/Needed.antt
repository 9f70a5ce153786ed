-- Small histories: each leaves an object where one premise fails and all others hold, and one in which all hold.
use Rattle.std.proofs.Common.{◌≡◌, ◌≤◌, ℕ, zero, suc, false, List, [], ◌∷◌, Some, None, refl, arith, lit≤}
use Rattle.arc_model.specs.declared.answer.Answer.TheVariants as answers
use Rattle.arc_model.specs.declared.event.Origin.TheVariants as origins
use Rattle.arc_model.specs.declared.event.CellName.TheVariants as cells
use Rattle.arc_model.specs.declared.event.Act.TheVariants as acts
use Rattle.arc_model.specs.History.{History}
use Rattle.arc_spelling.specs.Spelling.{Note}
use Rattle.arc_spelling.specs.Spelling.Note.{Did, Line, Operation}
use Rattle.arc_spelling.specs.Spelling.IsDrop.{more as drop_more}
use Rattle.arc_spelling.specs.SpellingGains.Spare.{Unclaimed}
use Rattle.arc_spelling.specs.SpellingGains.IsReady.{start as ready}
use Rattle.arc_spelling.specs.SpellingGains.IsSettled.{unclaimed}
use Rattle.arc_spelling.specs.SpellingTies.Causes.{Judged}
use Rattle.arc_spelling.specs.SpellingTies.Ties.{start}
use Rattle.arc_spelling.proofs.SpellSteps.{Step, notes_by, tied_by}
use Rattle.arc_spelling.proofs.SpellSteps.Step.{Mine, Other, Note as Noted}
use Rattle.arc_script.specs.declared.answer.Line.{Line as ThreadLine}
use Rattle.arc_script.specs.declared.script.Op.TheVariants as op
use Rattle.arc_script.specs.declared.script.OpCell.TheVariants as opcell
use Rattle.arc_script.specs.declared.script.Script.{Script}
use Rattle.arc_script.specs.Valid as valid
use Rattle.arc_programs.specs.Programs.{IsOp}
use Rattle.arc_programs.specs.Programs.IsDropped.{nothing}
use Rattle.arc_programs.specs.Programs.IsAnswered.{made, copied, put_in_nil}
use Rattle.arc_programs.specs.Programs.OpsDone.{none as no_ops, one as next_op}
use Rattle.arc_programs.specs.Programs.ScopeEnds.{begins, nil as var_nil, dropped as var_dropped}
use Rattle.arc_programs.specs.Programs.GlobalsCleared.{begins as end_begins, nil as global_nil}
use Rattle.arc_programs.specs.ProgramsTied.{hands_in, HasProgram, IsSpelledIn}
use Rattle.arc_programs.specs.ProgramsTied.Spells.{thread, end}
use Rattle.arc_programs.specs.ProgramsLines.{told}
use Rattle.arc_quiet.specs.Premises.{IsNeeded, EachIsNeeded}
use Rattle.arc_quiet.specs.Premises.Premise.{Valid, Mortal, OneWay, Legal, Finished, Last, NoOther}
use Rattle.arc_quiet.proofs.Small.{by, held, strong, bare_class, chain_class, script_of, runs, node, heading, bare-classes, ring-classes, no-vars, one-var, two-vars, of-first, no-blocks, bare-mortal, ring-mortal, bare-ways, immortal_class, immortal-classes, immortal-ways}

-- ---- a thread that makes an object and goes on to its end, or doesn't

abbrev one_script : Script
one_script = script_of (bare_class ∷ []) [] (runs (strong 97 0 ∷ []) (op.New 0 0 ∷ []) ∷ [])

one_valid : valid.IsScript one_script
one_valid = record {
  version = (lit≤ tt, lit≤ tt);
  classes_of_version = (of-first, tt);
  threads_of_version = (((of-first, tt), tt), tt);
  heading = heading (bare_class ∷ []) [] bare-classes (no-vars 64 1) (tt, tt) tt;
  few_threads = lit≤ tt;
  threads = (record { vars = one-var 256 0 1 (lit≤ tt) (lit≤ tt); vars_allowed = (refl, tt); nested = (no-blocks 8 0 _ (refl, tt), tt); some_phase = lit≤ tt; few_phases = lit≤ tt; ops = (((lit≤ tt, lit≤ tt, refl), tt), tt) }, tt);
  few_ops = lit≤ tt;
  few_places = lit≤ tt;
  places = tt;
}

abbrev made_history : History
made_history = by 1 (acts.New 1 0 0) ∷ []

abbrev made_zero_steps : List Step
made_zero_steps = Other (by 1 (acts.New 1 0 0)) ∷ Noted (Operation 0) ∷ []

made_zero : IsSpelledIn one_script 0 [] made_history
made_zero = record { notes = notes_by made_zero_steps []; tied = tied_by one_script.shape 0 made_zero_steps (refl, (tt, tt)) start; spelled = end end_begins refl; lines_are = refl }

stops : IsNeeded (Finished 1)
stops = (
  one_script,
  made_history,
  record {
    valid = λ x. one_valid;
    mortal = λ x. bare-mortal [];
    one_way = λ x. bare-ways [];
    legal = λ x. (refl, tt);
    finished = finishes;
    last = λ x. refl;
    no_other = λ x. (lit≤ tt, tt);
  },
  _,
  refl,
  λ e. cc,
)
  where
    finishes : (p : ℕ) → p ≤ 1 → (Some (Finished 1) ≡ Some (Finished p) → ⊥) → (lines : List ThreadLine) × HasProgram Judged one_script p lines made_history
    finishes zero l x = ([], made_zero)
    finishes (suc zero) l x = absurd (x refl)
    finishes (suc (suc p)) l x = absurd (omega (arith, l))

-- a release that says that it isn't the last one, though it is

abbrev wrong_history : History
wrong_history = by 1 (acts.Drop 1 false) ∷ by 1 (acts.New 1 0 0) ∷ []

abbrev wrong_one_steps : List Step
wrong_one_steps = Noted (Operation 1) ∷ Mine (acts.New 1 0 0) ∷ Noted (Line (answers.New (node 0 1))) ∷ Noted (Operation 0) ∷ Mine (acts.Drop 1 false) ∷ []

abbrev made_notes : List Note
made_notes = Line (answers.New (node 0 1)) ∷ Did (acts.New 1 0 0) ∷ Operation 1 ∷ []

wrong_does : IsOp one_script.shape 1 (hands_in 1 wrong_history) 1 (op.New 0 0) (None ∷ []) [] (Some (held 1 0) ∷ []) made_notes
wrong_does = record { answer = answers.New (node 0 1); last = None; answered = Did (acts.New 1 0 0) ∷ Operation 1 ∷ []; does = made refl refl (record { replaced = refl; old = refl }); ends = nothing }

wrong_one : HasProgram Judged one_script 1 (told (notes_by wrong_one_steps [])) wrong_history
wrong_one = record {
  notes = notes_by wrong_one_steps [];
  tied = tied_by one_script.shape 1 wrong_one_steps (tt, (tt, (tt, tt))) start;
  spelled = thread (omega arith) refl (record { vars = Some (held 1 0) ∷ []; worked = made_notes; ops = next_op (no_ops refl) refl refl wrong_does; left = None ∷ []; scope = var_dropped begins (omega arith) refl refl refl drop_more });
  lines_are = refl;
}

abbrev wrong_zero_steps : List Step
wrong_zero_steps = Other (by 1 (acts.New 1 0 0)) ∷ Other (by 1 (acts.Drop 1 false)) ∷ Noted (Operation 0) ∷ []

wrong : IsNeeded Legal
wrong = (
  one_script,
  wrong_history,
  record {
    valid = λ x. one_valid;
    mortal = λ x. bare-mortal [];
    one_way = λ x. bare-ways [];
    legal = λ x. absurd (x refl);
    finished = finishes;
    last = λ x. refl;
    no_other = λ x. (lit≤ tt, (lit≤ tt, tt));
  },
  _,
  refl,
  λ e. cc,
)
  where
    finishes : (p : ℕ) → p ≤ 1 → (Some Legal ≡ Some (Finished p) → ⊥) → (lines : List ThreadLine) × HasProgram Judged one_script p lines wrong_history
    finishes zero l x = ([], record { notes = notes_by wrong_zero_steps []; tied = tied_by one_script.shape 0 wrong_zero_steps (refl, (refl, (tt, tt))) start; spelled = end end_begins refl; lines_are = refl })
    finishes (suc zero) l x = (told (notes_by wrong_one_steps []), wrong_one)
    finishes (suc (suc p)) l x = absurd (omega (arith, l))

-- ---- an object of an immortal class is released, and lives on

abbrev undying_script : Script
undying_script = script_of (immortal_class ∷ []) [] (runs (strong 97 0 ∷ []) (op.New 0 0 ∷ []) ∷ [])

undying_valid : valid.IsScript undying_script
undying_valid = record {
  version = (lit≤ tt, lit≤ tt);
  classes_of_version = (λ e. refl, tt);
  threads_of_version = (((of-first, tt), tt), tt);
  heading = heading (immortal_class ∷ []) [] immortal-classes (no-vars 64 1) (tt, tt) tt;
  few_threads = lit≤ tt;
  threads = (record { vars = one-var 256 0 1 (lit≤ tt) (lit≤ tt); vars_allowed = (refl, tt); nested = (no-blocks 8 0 _ (refl, tt), tt); some_phase = lit≤ tt; few_phases = lit≤ tt; ops = (((lit≤ tt, lit≤ tt, refl), tt), tt) }, tt);
  few_ops = lit≤ tt;
  few_places = lit≤ tt;
  places = tt;
}

undying_does : IsOp undying_script.shape 1 (hands_in 1 wrong_history) 1 (op.New 0 0) (None ∷ []) [] (Some (held 1 0) ∷ []) made_notes
undying_does = record { answer = answers.New (node 0 1); last = None; answered = Did (acts.New 1 0 0) ∷ Operation 1 ∷ []; does = made refl refl (record { replaced = refl; old = refl }); ends = nothing }

undying : IsNeeded Mortal
undying = (
  undying_script,
  wrong_history,
  record {
    valid = λ x. undying_valid;
    mortal = λ x. absurd (x refl);
    one_way = λ x. immortal-ways [];
    legal = λ x. (refl, (refl, tt));
    finished = finishes;
    last = λ x. refl;
    no_other = λ x. (lit≤ tt, (lit≤ tt, tt));
  },
  _,
  refl,
  λ e. cc,
)
  where
    finishes : (p : ℕ) → p ≤ 1 → (Some Mortal ≡ Some (Finished p) → ⊥) → (lines : List ThreadLine) × HasProgram Judged undying_script p lines wrong_history
    finishes zero l x = ([], record { notes = notes_by wrong_zero_steps []; tied = tied_by undying_script.shape 0 wrong_zero_steps (refl, (refl, (tt, tt))) start; spelled = end end_begins refl; lines_are = refl })
    finishes (suc zero) l x = (
      told (notes_by wrong_one_steps []),
      record {
        notes = notes_by wrong_one_steps [];
        tied = tied_by undying_script.shape 1 wrong_one_steps (tt, (tt, (tt, tt))) start;
        spelled = thread (omega arith) refl (record { vars = Some (held 1 0) ∷ []; worked = made_notes; ops = next_op (no_ops refl) refl refl undying_does; left = None ∷ []; scope = var_dropped begins (omega arith) refl refl refl drop_more });
        lines_are = refl;
      },
    )
    finishes (suc (suc p)) l x = absurd (omega (arith, l))

-- ---- an operation without a variable to take what it makes

abbrev lost_script : Script
lost_script = script_of (bare_class ∷ []) [] (runs [] (op.New 0 0 ∷ []) ∷ [])

abbrev lost_steps : List Step
lost_steps = Noted (Operation 1) ∷ Mine (acts.New 1 0 0) ∷ Noted (Line (answers.New (node 0 1))) ∷ Noted (Operation 0) ∷ []

lost_does : IsOp lost_script.shape 1 (hands_in 1 made_history) 1 (op.New 0 0) [] [] [] made_notes
lost_does = record { answer = answers.New (node 0 1); last = None; answered = Did (acts.New 1 0 0) ∷ Operation 1 ∷ []; does = made refl refl (record { replaced = refl; old = refl }); ends = nothing }

lost : IsNeeded Valid
lost = (
  lost_script,
  made_history,
  record {
    valid = λ x. absurd (x refl);
    mortal = λ x. bare-mortal [];
    one_way = λ x. bare-ways [];
    legal = λ x. (refl, tt);
    finished = finishes;
    last = λ x. refl;
    no_other = λ x. (lit≤ tt, tt);
  },
  _,
  refl,
  λ e. cc,
)
  where
    finishes : (p : ℕ) → p ≤ 1 → (Some Valid ≡ Some (Finished p) → ⊥) → (lines : List ThreadLine) × HasProgram Judged lost_script p lines made_history
    finishes zero l x = ([], record { notes = notes_by made_zero_steps []; tied = tied_by lost_script.shape 0 made_zero_steps (refl, (tt, tt)) start; spelled = end end_begins refl; lines_are = refl })
    finishes (suc zero) l x = (
      told (notes_by lost_steps []),
      record {
        notes = notes_by lost_steps [];
        tied = tied_by lost_script.shape 1 lost_steps (tt, (tt, (tt, tt))) start;
        spelled = thread (omega arith) refl (record { vars = []; worked = made_notes; ops = next_op (no_ops refl) refl refl lost_does; left = []; scope = begins });
        lines_are = refl;
      },
    )
    finishes (suc (suc p)) l x = absurd (omega (arith, l))

-- ---- an event of a thread that the script doesn't have

abbrev no_script : Script
no_script = script_of (bare_class ∷ []) [] []

abbrev stranger_history : History
stranger_history = by 5 (acts.New 1 0 0) ∷ []

abbrev stranger_steps : List Step
stranger_steps = Other (by 5 (acts.New 1 0 0)) ∷ Noted (Operation 0) ∷ []

stranger : IsNeeded NoOther
stranger = (
  no_script,
  stranger_history,
  record {
    valid = λ x. record { version = (lit≤ tt, lit≤ tt); classes_of_version = (of-first, tt); threads_of_version = tt; heading = heading (bare_class ∷ []) [] bare-classes (no-vars 64 1) (tt, tt) tt; few_threads = lit≤ tt; threads = tt; few_ops = lit≤ tt; few_places = lit≤ tt; places = tt };
    mortal = λ x. bare-mortal [];
    one_way = λ x. bare-ways [];
    legal = λ x. (refl, tt);
    finished = finishes;
    last = λ x. refl;
    no_other = λ x. absurd (x refl);
  },
  _,
  refl,
  λ e. cc,
)
  where
    finishes : (p : ℕ) → p ≤ 0 → (Some NoOther ≡ Some (Finished p) → ⊥) → (lines : List ThreadLine) × HasProgram Judged no_script p lines stranger_history
    finishes zero l x = ([], record { notes = notes_by stranger_steps []; tied = tied_by no_script.shape 0 stranger_steps (refl, (tt, tt)) start; spelled = end end_begins refl; lines_are = refl })
    finishes (suc p) l x = absurd (omega (arith, l))

-- ---- an object in a global

abbrev global_script : Script
global_script = script_of (bare_class ∷ []) (strong 97 0 ∷ []) (runs (strong 97 0 ∷ []) (op.New 0 0 ∷ op.Set (opcell.Global 0) 0 ∷ []) ∷ [])

global_valid : valid.IsScript global_script
global_valid = record {
  version = (lit≤ tt, lit≤ tt);
  classes_of_version = (of-first, tt);
  threads_of_version = (((of-first, (of-first, tt)), tt), tt);
  heading = heading (bare_class ∷ []) (strong 97 0 ∷ []) bare-classes (one-var 64 0 1 (lit≤ tt) (lit≤ tt)) (tt, tt) (refl, tt);
  few_threads = lit≤ tt;
  threads = (record { vars = one-var 256 0 1 (lit≤ tt) (lit≤ tt); vars_allowed = (refl, tt); nested = (no-blocks 8 0 _ (refl, (refl, tt)), tt); some_phase = lit≤ tt; few_phases = lit≤ tt; ops = (((lit≤ tt, lit≤ tt, refl), ((lit≤ tt, lit≤ tt, refl, tt), tt)), tt) }, tt);
  few_ops = lit≤ tt;
  few_places = lit≤ tt;
  places = tt;
}

abbrev put_notes : List Note
put_notes = Line answers.Ok ∷ Did (acts.Swap (cells.Global 0) (Some 1) None) ∷ Operation 2 ∷ made_notes

-- the end section doesn't run

abbrev kept_history : History
kept_history = by 1 (acts.Swap (cells.Global 0) (Some 1) None) ∷ by 1 (acts.New 1 0 0) ∷ []

abbrev kept_steps : List Step
kept_steps =
    Noted (Operation 1) ∷ Mine (acts.New 1 0 0) ∷ Noted (Line (answers.New (node 0 1))) ∷ Noted (Operation 2) ∷ Mine (acts.Swap (cells.Global 0) (Some 1) None) ∷ Noted (Line answers.Ok) ∷ Noted (Operation 0) ∷ []

kept_makes : IsOp global_script.shape 1 (hands_in 1 kept_history) 1 (op.New 0 0) (None ∷ []) [] (Some (held 1 0) ∷ []) made_notes
kept_makes = record { answer = answers.New (node 0 1); last = None; answered = Did (acts.New 1 0 0) ∷ Operation 1 ∷ []; does = made refl refl (record { replaced = refl; old = refl }); ends = nothing }

kept_puts : IsOp global_script.shape 1 (hands_in 1 kept_history) 2 (op.Set (opcell.Global 0) 0) (Some (held 1 0) ∷ []) made_notes (None ∷ []) put_notes
kept_puts = record { answer = answers.Ok; last = None; answered = Did (acts.Swap (cells.Global 0) (Some 1) None) ∷ Operation 2 ∷ made_notes; does = put_in_nil refl refl refl; ends = nothing }

kept : IsNeeded (Finished 0)
kept = (
  global_script,
  kept_history,
  record {
    valid = λ x. global_valid;
    mortal = λ x. bare-mortal (strong 97 0 ∷ []);
    one_way = λ x. bare-ways (strong 97 0 ∷ []);
    legal = λ x. (refl, (refl, tt));
    finished = finishes;
    last = λ x. refl;
    no_other = λ x. (lit≤ tt, (lit≤ tt, tt));
  },
  _,
  refl,
  λ e. cc,
)
  where
    finishes : (p : ℕ) → p ≤ 1 → (Some (Finished 0) ≡ Some (Finished p) → ⊥) → (lines : List ThreadLine) × HasProgram Judged global_script p lines kept_history
    finishes zero l x = absurd (x refl)
    finishes (suc zero) l x = (
      told (notes_by kept_steps []),
      record {
        notes = notes_by kept_steps [];
        tied = tied_by global_script.shape 1 kept_steps (tt, (tt, (tt, (tt, (tt, tt))))) start;
        spelled = thread (omega arith) refl (record { vars = None ∷ []; worked = put_notes; ops = next_op (next_op (no_ops refl) refl refl kept_makes) refl refl kept_puts; left = None ∷ []; scope = var_nil begins (omega arith) refl refl });
        lines_are = refl;
      },
    )
    finishes (suc (suc p)) l x = absurd (omega (arith, l))

-- the end section runs first

abbrev early_history : History
early_history = by 1 (acts.Swap (cells.Global 0) (Some 1) None) ∷ by 1 (acts.New 1 0 0) ∷ by 0 (acts.Swap (cells.Global 0) None None) ∷ []

abbrev early_steps : List Step
early_steps = Other (by 0 (acts.Swap (cells.Global 0) None None)) ∷ kept_steps

abbrev early_zero_steps : List Step
early_zero_steps = Noted (Operation 0) ∷ Mine (acts.Swap (cells.Global 0) None None) ∷ Other (by 1 (acts.New 1 0 0)) ∷ Other (by 1 (acts.Swap (cells.Global 0) (Some 1) None)) ∷ []

early_makes : IsOp global_script.shape 1 (hands_in 1 early_history) 1 (op.New 0 0) (None ∷ []) [] (Some (held 1 0) ∷ []) made_notes
early_makes = record { answer = answers.New (node 0 1); last = None; answered = Did (acts.New 1 0 0) ∷ Operation 1 ∷ []; does = made refl refl (record { replaced = refl; old = refl }); ends = nothing }

early_puts : IsOp global_script.shape 1 (hands_in 1 early_history) 2 (op.Set (opcell.Global 0) 0) (Some (held 1 0) ∷ []) made_notes (None ∷ []) put_notes
early_puts = record { answer = answers.Ok; last = None; answered = Did (acts.Swap (cells.Global 0) (Some 1) None) ∷ Operation 2 ∷ made_notes; does = put_in_nil refl refl refl; ends = nothing }

early : IsNeeded Last
early = (
  global_script,
  early_history,
  record {
    valid = λ x. global_valid;
    mortal = λ x. bare-mortal (strong 97 0 ∷ []);
    one_way = λ x. bare-ways (strong 97 0 ∷ []);
    legal = λ x. (refl, (refl, (refl, tt)));
    finished = finishes;
    last = λ x. absurd (x refl);
    no_other = λ x. (lit≤ tt, (lit≤ tt, (lit≤ tt, tt)));
  },
  _,
  refl,
  λ e. cc,
)
  where
    finishes : (p : ℕ) → p ≤ 1 → (Some Last ≡ Some (Finished p) → ⊥) → (lines : List ThreadLine) × HasProgram Judged global_script p lines early_history
    finishes zero l x = ([], record { notes = notes_by early_zero_steps []; tied = tied_by global_script.shape 0 early_zero_steps (tt, (refl, (refl, tt))) start; spelled = end (global_nil end_begins (omega arith) refl) refl; lines_are = refl })
    finishes (suc zero) l x = (
      told (notes_by early_steps []),
      record {
        notes = notes_by early_steps [];
        tied = tied_by global_script.shape 1 early_steps (refl, (tt, (tt, (tt, (tt, (tt, tt)))))) start;
        spelled = thread (omega arith) refl (record { vars = None ∷ []; worked = put_notes; ops = next_op (next_op (no_ops refl) refl refl early_makes) refl refl early_puts; left = None ∷ []; scope = var_nil begins (omega arith) refl refl });
        lines_are = refl;
      },
    )
    finishes (suc (suc p)) l x = absurd (omega (arith, l))

-- ---- a cycle: an object whose strong field refers to itself

abbrev ring_script : Script
ring_script = script_of (chain_class 78 0 ∷ []) [] (runs (strong 97 0 ∷ strong 98 0 ∷ []) (op.New 0 0 ∷ op.Copy 1 0 ∷ op.Set (opcell.Field 0 0) 1 ∷ []) ∷ [])

ring_valid : valid.IsScript ring_script
ring_valid = record {
  version = (lit≤ tt, lit≤ tt);
  classes_of_version = (of-first, tt);
  threads_of_version = (((of-first, (of-first, (of-first, tt))), tt), tt);
  heading = heading (chain_class 78 0 ∷ []) [] ring-classes (no-vars 64 1) ((refl, tt), tt) tt;
  few_threads = lit≤ tt;
  threads = (
    record {
      vars = two-vars 256 0 0 1 (lit≤ tt) (lit≤ tt) (lit≤ tt);
      vars_allowed = (refl, (refl, tt));
      nested = (no-blocks 8 0 _ (refl, (refl, (refl, tt))), tt);
      some_phase = lit≤ tt;
      few_phases = lit≤ tt;
      ops = (((lit≤ tt, lit≤ tt, refl), ((record { to_there = lit≤ tt; of_there = lit≤ tt; kind_of_to = refl; kind_of_of = refl; one_class = refl }, λ e. omega (arith, e)), ((lit≤ tt, (lit≤ tt, refl, lit≤ tt), refl, λ e. omega (arith, e)), tt))), tt);
    },
    tt,
  );
  few_ops = lit≤ tt;
  few_places = lit≤ tt;
  places = tt;
}

abbrev ring_history : History
ring_history = by 1 (acts.Drop 1 false) ∷ by 1 (acts.Swap (cells.Field 0 0) (Some 2) None) ∷ by 1 (acts.Copy (origins.Hand 1) 2) ∷ by 1 (acts.New 1 0 0) ∷ []

abbrev ring_steps : List Step
ring_steps =
    Noted (Operation 1) ∷ Mine (acts.New 1 0 0) ∷ Noted (Line (answers.New (node 0 1))) ∷ Noted (Operation 2) ∷ Mine (acts.Copy (origins.Hand 1) 2) ∷ Noted (Line answers.Ok) ∷
    Noted (Operation 3) ∷ Mine (acts.Swap (cells.Field 0 0) (Some 2) None) ∷ Noted (Line answers.Ok) ∷ Noted (Operation 0) ∷ Mine (acts.Drop 1 false) ∷ []

abbrev ring_copied : List Note
ring_copied = Line answers.Ok ∷ Did (acts.Copy (origins.Hand 1) 2) ∷ Operation 2 ∷ made_notes

abbrev ring_put : List Note
ring_put = Line answers.Ok ∷ Did (acts.Swap (cells.Field 0 0) (Some 2) None) ∷ Operation 3 ∷ ring_copied

ring_does_one : IsOp ring_script.shape 1 (hands_in 1 ring_history) 1 (op.New 0 0) (None ∷ None ∷ []) [] (Some (held 1 0) ∷ None ∷ []) made_notes
ring_does_one = record { answer = answers.New (node 0 1); last = None; answered = Did (acts.New 1 0 0) ∷ Operation 1 ∷ []; does = made refl refl (record { replaced = refl; old = refl }); ends = nothing }

ring_does_two : IsOp ring_script.shape 1 (hands_in 1 ring_history) 2 (op.Copy 1 0) (Some (held 1 0) ∷ None ∷ []) made_notes (Some (held 1 0) ∷ Some (held 2 0) ∷ []) ring_copied
ring_does_two = record { answer = answers.Ok; last = None; answered = Did (acts.Copy (origins.Hand 1) 2) ∷ Operation 2 ∷ made_notes; does = copied refl refl (record { spare = Unclaimed; decided = Operation 2 ∷ made_notes; ready = ready; settled = unclaimed }) (record { replaced = refl; old = refl }); ends = nothing }

ring_does_three : IsOp ring_script.shape 1 (hands_in 1 ring_history) 3 (op.Set (opcell.Field 0 0) 1) (Some (held 1 0) ∷ Some (held 2 0) ∷ []) ring_copied (Some (held 1 0) ∷ None ∷ []) ring_put
ring_does_three = record { answer = answers.Ok; last = None; answered = Did (acts.Swap (cells.Field 0 0) (Some 2) None) ∷ Operation 3 ∷ ring_copied; does = put_in_nil refl refl refl; ends = nothing }

abbrev ring_zero_steps : List Step
ring_zero_steps = Other (by 1 (acts.New 1 0 0)) ∷ Other (by 1 (acts.Copy (origins.Hand 1) 2)) ∷ Other (by 1 (acts.Swap (cells.Field 0 0) (Some 2) None)) ∷ Other (by 1 (acts.Drop 1 false)) ∷ Noted (Operation 0) ∷ []

ring : IsNeeded OneWay
ring = (
  ring_script,
  ring_history,
  record {
    valid = λ x. ring_valid;
    mortal = λ x. ring-mortal [];
    one_way = λ x. absurd (x refl);
    legal = λ x. (refl, (refl, (refl, (refl, tt))));
    finished = finishes;
    last = λ x. refl;
    no_other = λ x. (lit≤ tt, (lit≤ tt, (lit≤ tt, (lit≤ tt, tt))));
  },
  _,
  refl,
  λ e. cc,
)
  where
    finishes : (p : ℕ) → p ≤ 1 → (Some OneWay ≡ Some (Finished p) → ⊥) → (lines : List ThreadLine) × HasProgram Judged ring_script p lines ring_history
    finishes zero l x = ([], record { notes = notes_by ring_zero_steps []; tied = tied_by ring_script.shape 0 ring_zero_steps (refl, (refl, (refl, (refl, (tt, tt))))) start; spelled = end end_begins refl; lines_are = refl })
    finishes (suc zero) l x = (
      told (notes_by ring_steps []),
      record {
        notes = notes_by ring_steps [];
        tied = tied_by ring_script.shape 1 ring_steps (tt, (tt, (tt, (tt, (tt, (tt, (tt, tt))))))) start;
        spelled = thread (omega arith) refl (record {
          vars = Some (held 1 0) ∷ None ∷ [];
          worked = ring_put;
          ops = next_op (next_op (next_op (no_ops refl) refl refl ring_does_one) refl refl ring_does_two) refl refl ring_does_three;
          left = None ∷ None ∷ [];
          scope = var_nil (var_dropped begins (omega arith) refl refl refl drop_more) (omega arith) refl refl;
        });
        lines_are = refl;
      },
    )
    finishes (suc (suc p)) l x = absurd (omega (arith, l))

pub each_is_needed : EachIsNeeded
each_is_needed = record { valid = lost; mortal = undying; one_way = ring; legal = wrong; end_section = kept; threads = stops; last = early; no_other = stranger }
