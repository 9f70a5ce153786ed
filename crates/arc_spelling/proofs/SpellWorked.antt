-- Worked spellings of strong references and counts: each drop and each gain as it is spelled, tied to a legal history.
use Rattle.std.proofs.Common.{List, [], ◌∷◌, Some, None, refl, true, false}
use Rattle.arc_model.specs.declared.answer.Answer.TheVariants as answers
use Rattle.arc_model.specs.declared.event.ObjectName.{ObjectName}
use Rattle.arc_model.specs.declared.event.Origin.TheVariants as origins
use Rattle.arc_model.specs.declared.event.Act.TheVariants as acts
use Rattle.arc_model.specs.declared.shape.Kind.TheVariants.{Strong, Weak}
use Rattle.arc_model.proofs.Judged.{mortal, undying}
use Rattle.arc_model.specs.Shapes.{HeapShape}
use Rattle.arc_model.specs.History.{History, IsLegal}
use Rattle.arc_spelling.specs.Spelling.{Note}
use Rattle.arc_spelling.specs.Spelling.Note.{Line, Name, Entry, NeedsEntry}
use Rattle.arc_spelling.specs.Spelling.IsEnd.{inline, gone_last}
use Rattle.arc_spelling.specs.Spelling.FieldsDone.{named}
use Rattle.arc_spelling.specs.Spelling.IsDrop.{more, last_strong}
use Rattle.arc_spelling.specs.Spelling.IsCascade.{finish_last}
use Rattle.arc_spelling.specs.SpellingGains.{IsGain, IsRefused}
use Rattle.arc_spelling.specs.SpellingGains.Spare.{Unclaimed, Published}
use Rattle.arc_spelling.specs.SpellingGains.IsReady.{start as ready, claimed, published}
use Rattle.arc_spelling.specs.SpellingGains.IsSettled.{unclaimed, published as stays_published}
use Rattle.arc_spelling.specs.SpellingGains.IsRefused.{no_entry}
use Rattle.arc_spelling.specs.SpellingTies.{Ties, IsDropIn}
use Rattle.arc_spelling.specs.SpellingTies.Causes.{Judged}
use Rattle.arc_spelling.specs.SpellingTies.Ties.{start}
use Rattle.arc_spelling.proofs.SpellSteps.{Step, history_by, notes_by, tied_by}
use Rattle.arc_spelling.proofs.SpellSteps.Step.{Mine, Note as Noted}

-- one slot, one entry, one class without fields; the greatest caps
abbrev pub plain : HeapShape
plain = record { slots = 1; entries = 1; caps = record { strong = 1073741823; unowned = 2147483647; wide = 4294967295 }; classes = mortal [] ∷ []; globals = [] }

abbrev pub node : ObjectName
node = record { class = 0; thread = 1; number = 1 }

-- One object, made and dropped.

abbrev made_steps : List Step
made_steps = Mine (acts.New 1 0 0) ∷ []

abbrev made : History
made = history_by 1 made_steps []

abbrev made_notes : List Note
made_notes = notes_by made_steps []

made_tied : Ties Judged plain 1 made_notes made
made_tied = tied_by plain 1 made_steps tt start

abbrev dead_steps : List Step
dead_steps =
    Mine (acts.Drop 1 true) ∷
    Noted (Name 0 node) ∷
    Noted (Line (answers.Deinit node)) ∷
    Mine (acts.Finish 0 true) ∷
    Noted (Entry 0 None) ∷
    Mine (acts.Vacate 0) ∷
    []

abbrev dead : History
dead = history_by 1 dead_steps made

abbrev dead_notes : List Note
dead_notes = notes_by dead_steps made_notes

dead_tied : Ties Judged plain 1 dead_notes dead
dead_tied = tied_by plain 1 dead_steps (refl, (tt, (refl, tt))) made_tied

smallest_life : IsDropIn plain 1 1 made dead (node ∷ [])
smallest_life =
    record {
      reference = record { kind = Strong; place = 0 };
      refers = refl;
      earlier = made_notes;
      notes = dead_notes;
      tied_before = made_tied;
      tied = dead_tied;
      spelled = last_strong (finish_last named refl inline);
      told = refl;
    }

dead_legal : IsLegal plain dead
dead_legal = (refl, (refl, (refl, (refl, tt))))

-- Two strong references: the first drop leaves one, the second is the last.

abbrev copied_steps : List Step
copied_steps = Mine (acts.Copy (origins.Hand 1) 2) ∷ []

abbrev copied : History
copied = history_by 1 copied_steps made

abbrev copied_notes : List Note
copied_notes = notes_by copied_steps made_notes

copied_tied : Ties Judged plain 1 copied_notes copied
copied_tied = tied_by plain 1 copied_steps tt made_tied

strong_copy : IsGain Strong 0 Strong (acts.Copy (origins.Hand 1) 2) [] made_notes copied_notes
strong_copy = record { spare = Unclaimed; decided = made_notes; ready = ready; settled = unclaimed }

abbrev first_dropped_steps : List Step
first_dropped_steps = Mine (acts.Drop 1 false) ∷ []

abbrev first_dropped : History
first_dropped = history_by 1 first_dropped_steps copied

abbrev first_dropped_notes : List Note
first_dropped_notes = notes_by first_dropped_steps copied_notes

first_dropped_tied : Ties Judged plain 1 first_dropped_notes first_dropped
first_dropped_tied = tied_by plain 1 first_dropped_steps tt copied_tied

first_of_two : IsDropIn plain 1 1 copied first_dropped []
first_of_two =
    record {
      reference = record { kind = Strong; place = 0 };
      refers = refl;
      earlier = copied_notes;
      notes = first_dropped_notes;
      tied_before = copied_tied;
      tied = first_dropped_tied;
      spelled = more;
      told = refl;
    }

abbrev both_dropped_steps : List Step
both_dropped_steps =
    Mine (acts.Drop 2 true) ∷
    Noted (Name 0 node) ∷
    Noted (Line (answers.Deinit node)) ∷
    Mine (acts.Finish 0 true) ∷
    Noted (Entry 0 None) ∷
    Mine (acts.Vacate 0) ∷
    []

abbrev both_dropped : History
both_dropped = history_by 1 both_dropped_steps first_dropped

abbrev both_dropped_notes : List Note
both_dropped_notes = notes_by both_dropped_steps first_dropped_notes

both_dropped_tied : Ties Judged plain 1 both_dropped_notes both_dropped
both_dropped_tied = tied_by plain 1 both_dropped_steps (refl, (tt, (refl, tt))) first_dropped_tied

last_of_two : IsDropIn plain 1 2 first_dropped both_dropped (node ∷ [])
last_of_two =
    record {
      reference = record { kind = Strong; place = 0 };
      refers = refl;
      earlier = first_dropped_notes;
      notes = both_dropped_notes;
      tied_before = first_dropped_tied;
      tied = both_dropped_tied;
      spelled = last_strong (finish_last named refl inline);
      told = refl;
    }

both_dropped_legal : IsLegal plain both_dropped
both_dropped_legal = (refl, (refl, (refl, (refl, (refl, (refl, tt))))))

-- A strong cap of 1: the second copy moves the object to an entry, and the last drop ends the slot and the entry.

abbrev strong_cap_one : HeapShape
strong_cap_one = record { slots = 1; entries = 1; caps = record { strong = 1; unowned = 10; wide = 10 }; classes = mortal [] ∷ []; globals = [] }

abbrev two_strong_steps : List Step
two_strong_steps = Mine (acts.New 1 0 0) ∷ Mine (acts.Copy (origins.Hand 1) 2) ∷ []

abbrev two_strong : History
two_strong = history_by 1 two_strong_steps []

abbrev two_strong_notes : List Note
two_strong_notes = notes_by two_strong_steps []

two_strong_tied : Ties Judged strong_cap_one 1 two_strong_notes two_strong
two_strong_tied = tied_by strong_cap_one 1 two_strong_steps tt start

abbrev strong_in_entry_steps : List Step
strong_in_entry_steps = Noted (NeedsEntry 0 Strong) ∷ Mine (acts.Claim 0) ∷ Mine (acts.Side 0 0 Strong) ∷ []

abbrev strong_in_entry : History
strong_in_entry = history_by 1 strong_in_entry_steps two_strong

abbrev strong_in_entry_notes : List Note
strong_in_entry_notes = notes_by strong_in_entry_steps two_strong_notes

strong_in_entry_tied : Ties Judged strong_cap_one 1 strong_in_entry_notes strong_in_entry
strong_in_entry_tied = tied_by strong_cap_one 1 strong_in_entry_steps (refl, tt) two_strong_tied

abbrev three_strong_steps : List Step
three_strong_steps = Mine (acts.Copy (origins.Hand 1) 3) ∷ []

abbrev three_strong : History
three_strong = history_by 1 three_strong_steps strong_in_entry

abbrev three_strong_notes : List Note
three_strong_notes = notes_by three_strong_steps strong_in_entry_notes

three_strong_tied : Ties Judged strong_cap_one 1 three_strong_notes three_strong
three_strong_tied = tied_by strong_cap_one 1 three_strong_steps tt strong_in_entry_tied

strong_copy_with_entry : IsGain Strong 0 Strong (acts.Copy (origins.Hand 1) 3) [] two_strong_notes three_strong_notes
strong_copy_with_entry = record { spare = Published; decided = strong_in_entry_notes; ready = published (claimed ready refl); settled = stays_published }

abbrev one_strong_steps : List Step
one_strong_steps = Mine (acts.Drop 1 false) ∷ Mine (acts.Drop 2 false) ∷ []

abbrev one_strong : History
one_strong = history_by 1 one_strong_steps three_strong

abbrev one_strong_notes : List Note
one_strong_notes = notes_by one_strong_steps three_strong_notes

one_strong_tied : Ties Judged strong_cap_one 1 one_strong_notes one_strong
one_strong_tied = tied_by strong_cap_one 1 one_strong_steps tt three_strong_tied

abbrev none_strong_steps : List Step
none_strong_steps =
    Mine (acts.Drop 3 true) ∷
    Noted (Name 0 node) ∷
    Noted (Line (answers.Deinit node)) ∷
    Mine (acts.Finish 0 true) ∷
    Noted (Entry 0 (Some 0)) ∷
    Mine (acts.Vacate 0) ∷
    Mine (acts.Gone 0 true) ∷
    Mine (acts.Back 0) ∷
    []

abbrev none_strong : History
none_strong = history_by 1 none_strong_steps one_strong

abbrev none_strong_notes : List Note
none_strong_notes = notes_by none_strong_steps one_strong_notes

none_strong_tied : Ties Judged strong_cap_one 1 none_strong_notes none_strong
none_strong_tied = tied_by strong_cap_one 1 none_strong_steps (refl, (tt, (refl, tt))) one_strong_tied

last_in_entry : IsDropIn strong_cap_one 1 3 one_strong none_strong (node ∷ [])
last_in_entry =
    record {
      reference = record { kind = Strong; place = 0 };
      refers = refl;
      earlier = one_strong_notes;
      notes = none_strong_notes;
      tied_before = one_strong_tied;
      tied = none_strong_tied;
      spelled = last_strong (finish_last named refl gone_last);
      told = refl;
    }

none_strong_legal : IsLegal strong_cap_one none_strong
none_strong_legal = (refl, (refl, (refl, (refl, (refl, (refl, (refl, (refl, (refl, (refl, (refl, (refl, tt))))))))))))

-- Counts of one: the copy's claim is published and the count is full all the same; the weak reference needs no claim.

abbrev counts_of_one : HeapShape
counts_of_one = record { slots = 1; entries = 1; caps = record { strong = 0; unowned = 1; wide = 1 }; classes = mortal [] ∷ []; globals = [] }

abbrev only_one_steps : List Step
only_one_steps = Mine (acts.New 1 0 0) ∷ []

abbrev only_one : History
only_one = history_by 1 only_one_steps []

abbrev only_one_notes : List Note
only_one_notes = notes_by only_one_steps []

only_one_tied : Ties Judged counts_of_one 1 only_one_notes only_one
only_one_tied = tied_by counts_of_one 1 only_one_steps tt start

abbrev only_one_in_entry_steps : List Step
only_one_in_entry_steps = Noted (NeedsEntry 0 Strong) ∷ Mine (acts.Claim 0) ∷ Mine (acts.Side 0 0 Strong) ∷ []

abbrev only_one_in_entry : History
only_one_in_entry = history_by 1 only_one_in_entry_steps only_one

abbrev only_one_in_entry_notes : List Note
only_one_in_entry_notes = notes_by only_one_in_entry_steps only_one_notes

only_one_in_entry_tied : Ties Judged counts_of_one 1 only_one_in_entry_notes only_one_in_entry
only_one_in_entry_tied = tied_by counts_of_one 1 only_one_in_entry_steps (refl, tt) only_one_tied

abbrev strong_full_steps : List Step
strong_full_steps = Mine (acts.CountFull Strong (origins.Hand 1)) ∷ []

abbrev strong_full : History
strong_full = history_by 1 strong_full_steps only_one_in_entry

abbrev strong_full_notes : List Note
strong_full_notes = notes_by strong_full_steps only_one_in_entry_notes

strong_full_tied : Ties Judged counts_of_one 1 strong_full_notes strong_full
strong_full_tied = tied_by counts_of_one 1 strong_full_steps tt only_one_in_entry_tied

copy_of_full : IsGain Strong 0 Strong (acts.CountFull Strong (origins.Hand 1)) [] only_one_notes strong_full_notes
copy_of_full = record { spare = Published; decided = only_one_in_entry_notes; ready = published (claimed ready refl); settled = stays_published }

abbrev weak_full_steps : List Step
weak_full_steps = Mine (acts.CountFull Weak (origins.Hand 1)) ∷ []

abbrev weak_full : History
weak_full = history_by 1 weak_full_steps strong_full

abbrev weak_full_notes : List Note
weak_full_notes = notes_by weak_full_steps strong_full_notes

weak_full_tied : Ties Judged counts_of_one 1 weak_full_notes weak_full
weak_full_tied = tied_by counts_of_one 1 weak_full_steps tt strong_full_tied

weak_of_full : IsGain Strong 0 Weak (acts.CountFull Weak (origins.Hand 1)) [] strong_full_notes weak_full_notes
weak_of_full = record { spare = Unclaimed; decided = strong_full_notes; ready = ready; settled = unclaimed }

weak_full_legal : IsLegal counts_of_one weak_full
weak_full_legal = (refl, (refl, (refl, (refl, (refl, tt)))))

-- One entry for two objects: the second weak reference is refused.

abbrev one_entry : HeapShape
one_entry = record { slots = 2; entries = 1; caps = record { strong = 10; unowned = 10; wide = 11 }; classes = mortal [] ∷ []; globals = [] }

abbrev entry_taken_steps : List Step
entry_taken_steps =
    Mine (acts.New 1 0 0) ∷
    Mine (acts.New 2 0 1) ∷
    Noted (NeedsEntry 0 Weak) ∷
    Mine (acts.Claim 0) ∷
    Mine (acts.Side 0 0 Weak) ∷
    Mine (acts.WeakOf 1 3) ∷
    []

abbrev entry_taken : History
entry_taken = history_by 1 entry_taken_steps []

abbrev entry_taken_notes : List Note
entry_taken_notes = notes_by entry_taken_steps []

entry_taken_tied : Ties Judged one_entry 1 entry_taken_notes entry_taken
entry_taken_tied = tied_by one_entry 1 entry_taken_steps (refl, tt) start

abbrev weak_refused_steps : List Step
weak_refused_steps = Noted (NeedsEntry 1 Weak) ∷ Mine acts.NoEntry ∷ []

abbrev weak_refused : History
weak_refused = history_by 1 weak_refused_steps entry_taken

abbrev weak_refused_notes : List Note
weak_refused_notes = notes_by weak_refused_steps entry_taken_notes

weak_refused_tied : Ties Judged one_entry 1 weak_refused_notes weak_refused
weak_refused_tied = tied_by one_entry 1 weak_refused_steps (refl, tt) entry_taken_tied

no_entry_left : IsRefused Strong 1 Weak entry_taken_notes weak_refused_notes
no_entry_left = no_entry ready refl

weak_refused_legal : IsLegal one_entry weak_refused
weak_refused_legal = (refl, (refl, (refl, (refl, (refl, (refl, tt))))))

-- An immortal object: past the caps a copy claims nothing, and its references are dropped without a deinit line.

abbrev immortal : HeapShape
immortal = record { slots = 1; entries = 1; caps = record { strong = 0; unowned = 1; wide = 1 }; classes = undying ∷ []; globals = [] }

immortal_made_tied : Ties Judged immortal 1 made_notes made
immortal_made_tied = tied_by immortal 1 made_steps tt start

immortal_copied_tied : Ties Judged immortal 1 copied_notes copied
immortal_copied_tied = tied_by immortal 1 copied_steps tt immortal_made_tied

immortal_first_tied : Ties Judged immortal 1 first_dropped_notes first_dropped
immortal_first_tied = tied_by immortal 1 first_dropped_steps tt immortal_copied_tied

abbrev immortal_left_steps : List Step
immortal_left_steps = Mine (acts.Drop 2 false) ∷ []

abbrev immortal_left : History
immortal_left = history_by 1 immortal_left_steps first_dropped

abbrev immortal_left_notes : List Note
immortal_left_notes = notes_by immortal_left_steps first_dropped_notes

immortal_left_tied : Ties Judged immortal 1 immortal_left_notes immortal_left
immortal_left_tied = tied_by immortal 1 immortal_left_steps tt immortal_first_tied

immortal_drop : IsDropIn immortal 1 2 first_dropped immortal_left []
immortal_drop =
    record {
      reference = record { kind = Strong; place = 0 };
      refers = refl;
      earlier = first_dropped_notes;
      notes = immortal_left_notes;
      tied_before = immortal_first_tied;
      tied = immortal_left_tied;
      spelled = more;
      told = refl;
    }

immortal_left_legal : IsLegal immortal immortal_left
immortal_left_legal = (refl, (refl, (refl, (refl, tt))))
