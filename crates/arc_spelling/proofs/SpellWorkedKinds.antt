-- Worked spellings of unowned and weak references: each drop and each gain as it is spelled, tied to a legal history.
use Rattle.std.proofs.Common.{List, [], ◌∷◌, Some, refl, true, false}
use Rattle.arc_model.specs.declared.answer.Answer.TheVariants as answers
use Rattle.arc_model.specs.declared.event.Origin.TheVariants as origins
use Rattle.arc_model.specs.declared.event.Got.TheVariants as got
use Rattle.arc_model.specs.declared.event.Act.TheVariants as acts
use Rattle.arc_model.specs.declared.shape.Kind.TheVariants.{Strong, Unowned, Weak}
use Rattle.arc_model.proofs.Judged.{mortal}
use Rattle.arc_model.specs.Shapes.{HeapShape}
use Rattle.arc_model.specs.History.{History, IsLegal}
use Rattle.arc_spelling.specs.Spelling.{Note}
use Rattle.arc_spelling.specs.Spelling.Note.{Line, Name, Entry, NeedsEntry}
use Rattle.arc_spelling.specs.Spelling.IsEnd.{gone_more, gone_last}
use Rattle.arc_spelling.specs.Spelling.FieldsDone.{named}
use Rattle.arc_spelling.specs.Spelling.IsDrop.{more, last_strong, last_unowned, last_weak}
use Rattle.arc_spelling.specs.Spelling.IsCascade.{finish_more, finish_last}
use Rattle.arc_spelling.specs.SpellingGains.{IsGain}
use Rattle.arc_spelling.specs.SpellingGains.Spare.{Unclaimed, Published}
use Rattle.arc_spelling.specs.SpellingGains.IsReady.{start as ready, claimed, published}
use Rattle.arc_spelling.specs.SpellingGains.IsSettled.{unclaimed, published as stays_published}
use Rattle.arc_spelling.specs.SpellingTies.{Ties, IsDropIn}
use Rattle.arc_spelling.specs.SpellingTies.Causes.{Judged}
use Rattle.arc_spelling.specs.SpellingTies.Ties.{start}
use Rattle.arc_spelling.proofs.SpellSteps.{Step, history_by, notes_by, tied_by}
use Rattle.arc_spelling.proofs.SpellSteps.Step.{Mine, Note as Noted}
use Rattle.arc_spelling.proofs.SpellWorked.{plain, node}

-- Unowned references outlive the deinit. The second copy moves the object's counts to an entry, and the last drop ends the slot
-- and the entry.

abbrev unowned_cap_two : HeapShape
unowned_cap_two = record { slots = 1; entries = 1; caps = record { strong = 10; unowned = 2; wide = 11 }; classes = mortal [] ∷ []; globals = [] }

abbrev unowned_formed_steps : List Step
unowned_formed_steps = Mine (acts.New 1 0 0) ∷ Mine (acts.UnownedOf 1 2) ∷ []

abbrev unowned_formed : History
unowned_formed = history_by 1 unowned_formed_steps []

abbrev unowned_formed_notes : List Note
unowned_formed_notes = notes_by unowned_formed_steps []

unowned_formed_tied : Ties Judged unowned_cap_two 1 unowned_formed_notes unowned_formed
unowned_formed_tied = tied_by unowned_cap_two 1 unowned_formed_steps tt start

abbrev deinited_steps : List Step
deinited_steps =
    Mine (acts.Drop 1 true) ∷
    Noted (Name 0 node) ∷
    Noted (Line (answers.Deinit node)) ∷
    Mine (acts.Finish 0 false) ∷
    []

abbrev deinited : History
deinited = history_by 1 deinited_steps unowned_formed

abbrev deinited_notes : List Note
deinited_notes = notes_by deinited_steps unowned_formed_notes

deinited_tied : Ties Judged unowned_cap_two 1 deinited_notes deinited
deinited_tied = tied_by unowned_cap_two 1 deinited_steps (refl, (tt, tt)) unowned_formed_tied

deinit_with_unowned_left : IsDropIn unowned_cap_two 1 1 unowned_formed deinited (node ∷ [])
deinit_with_unowned_left =
    record {
      reference = record { kind = Strong; place = 0 };
      refers = refl;
      earlier = unowned_formed_notes;
      notes = deinited_notes;
      tied_before = unowned_formed_tied;
      tied = deinited_tied;
      spelled = last_strong (finish_more named refl);
      told = refl;
    }

abbrev unowned_copied_steps : List Step
unowned_copied_steps = Mine (acts.Copy (origins.Hand 2) 3) ∷ []

abbrev unowned_copied : History
unowned_copied = history_by 1 unowned_copied_steps deinited

abbrev unowned_copied_notes : List Note
unowned_copied_notes = notes_by unowned_copied_steps deinited_notes

unowned_copied_tied : Ties Judged unowned_cap_two 1 unowned_copied_notes unowned_copied
unowned_copied_tied = tied_by unowned_cap_two 1 unowned_copied_steps tt deinited_tied

unowned_copy : IsGain Unowned 0 Unowned (acts.Copy (origins.Hand 2) 3) [] deinited_notes unowned_copied_notes
unowned_copy = record { spare = Unclaimed; decided = deinited_notes; ready = ready; settled = unclaimed }

abbrev moved_to_entry_steps : List Step
moved_to_entry_steps = Noted (NeedsEntry 0 Unowned) ∷ Mine (acts.Claim 0) ∷ Mine (acts.Side 0 0 Unowned) ∷ []

abbrev moved_to_entry : History
moved_to_entry = history_by 1 moved_to_entry_steps unowned_copied

abbrev moved_to_entry_notes : List Note
moved_to_entry_notes = notes_by moved_to_entry_steps unowned_copied_notes

moved_to_entry_tied : Ties Judged unowned_cap_two 1 moved_to_entry_notes moved_to_entry
moved_to_entry_tied = tied_by unowned_cap_two 1 moved_to_entry_steps (refl, tt) unowned_copied_tied

abbrev copied_in_entry_steps : List Step
copied_in_entry_steps = Mine (acts.Copy (origins.Hand 2) 4) ∷ []

abbrev copied_in_entry : History
copied_in_entry = history_by 1 copied_in_entry_steps moved_to_entry

abbrev copied_in_entry_notes : List Note
copied_in_entry_notes = notes_by copied_in_entry_steps moved_to_entry_notes

copied_in_entry_tied : Ties Judged unowned_cap_two 1 copied_in_entry_notes copied_in_entry
copied_in_entry_tied = tied_by unowned_cap_two 1 copied_in_entry_steps tt moved_to_entry_tied

copy_with_entry : IsGain Unowned 0 Unowned (acts.Copy (origins.Hand 2) 4) [] unowned_copied_notes copied_in_entry_notes
copy_with_entry = record { spare = Published; decided = moved_to_entry_notes; ready = published (claimed ready refl); settled = stays_published }

abbrev one_dropped_steps : List Step
one_dropped_steps = Mine (acts.Drop 2 false) ∷ []

abbrev one_dropped : History
one_dropped = history_by 1 one_dropped_steps copied_in_entry

abbrev one_dropped_notes : List Note
one_dropped_notes = notes_by one_dropped_steps copied_in_entry_notes

one_dropped_tied : Ties Judged unowned_cap_two 1 one_dropped_notes one_dropped
one_dropped_tied = tied_by unowned_cap_two 1 one_dropped_steps tt copied_in_entry_tied

abbrev two_dropped_steps : List Step
two_dropped_steps = Mine (acts.Drop 3 false) ∷ []

abbrev two_dropped : History
two_dropped = history_by 1 two_dropped_steps one_dropped

abbrev two_dropped_notes : List Note
two_dropped_notes = notes_by two_dropped_steps one_dropped_notes

two_dropped_tied : Ties Judged unowned_cap_two 1 two_dropped_notes two_dropped
two_dropped_tied = tied_by unowned_cap_two 1 two_dropped_steps tt one_dropped_tied

unowned_drop_more : IsDropIn unowned_cap_two 1 2 copied_in_entry one_dropped []
unowned_drop_more =
    record {
      reference = record { kind = Unowned; place = 0 };
      refers = refl;
      earlier = copied_in_entry_notes;
      notes = one_dropped_notes;
      tied_before = copied_in_entry_tied;
      tied = one_dropped_tied;
      spelled = more;
      told = refl;
    }

unowned_drop_again_more : IsDropIn unowned_cap_two 1 3 one_dropped two_dropped []
unowned_drop_again_more =
    record {
      reference = record { kind = Unowned; place = 0 };
      refers = refl;
      earlier = one_dropped_notes;
      notes = two_dropped_notes;
      tied_before = one_dropped_tied;
      tied = two_dropped_tied;
      spelled = more;
      told = refl;
    }

abbrev slot_ended_steps : List Step
slot_ended_steps =
    Mine (acts.Drop 4 true) ∷
    Noted (Entry 0 (Some 0)) ∷
    Mine (acts.Vacate 0) ∷
    Mine (acts.Gone 0 true) ∷
    Mine (acts.Back 0) ∷
    []

abbrev slot_ended : History
slot_ended = history_by 1 slot_ended_steps two_dropped

abbrev slot_ended_notes : List Note
slot_ended_notes = notes_by slot_ended_steps two_dropped_notes

slot_ended_tied : Ties Judged unowned_cap_two 1 slot_ended_notes slot_ended
slot_ended_tied = tied_by unowned_cap_two 1 slot_ended_steps (refl, tt) two_dropped_tied

unowned_drop_last : IsDropIn unowned_cap_two 1 4 two_dropped slot_ended []
unowned_drop_last =
    record {
      reference = record { kind = Unowned; place = 0 };
      refers = refl;
      earlier = two_dropped_notes;
      notes = slot_ended_notes;
      tied_before = two_dropped_tied;
      tied = slot_ended_tied;
      spelled = last_unowned gone_last;
      told = refl;
    }

slot_ended_legal : IsLegal unowned_cap_two slot_ended
slot_ended_legal = (refl, (refl, (refl, (refl, (refl, (refl, (refl, (refl, (refl, (refl, (refl, (refl, (refl, (refl, tt))))))))))))))

-- A weak reference outlives the object: its entry stays after the slot has ended, a load gives nil, and the last drop gives the
-- entry back.

abbrev object_made_steps : List Step
object_made_steps = Mine (acts.New 1 0 0) ∷ []

abbrev object_made : History
object_made = history_by 1 object_made_steps []

abbrev object_made_notes : List Note
object_made_notes = notes_by object_made_steps []

object_made_tied : Ties Judged plain 1 object_made_notes object_made
object_made_tied = tied_by plain 1 object_made_steps tt start

abbrev weak_ready_steps : List Step
weak_ready_steps = Noted (NeedsEntry 0 Weak) ∷ Mine (acts.Claim 0) ∷ Mine (acts.Side 0 0 Weak) ∷ []

abbrev weak_ready : History
weak_ready = history_by 1 weak_ready_steps object_made

abbrev weak_ready_notes : List Note
weak_ready_notes = notes_by weak_ready_steps object_made_notes

weak_ready_tied : Ties Judged plain 1 weak_ready_notes weak_ready
weak_ready_tied = tied_by plain 1 weak_ready_steps (refl, tt) object_made_tied

abbrev weak_formed_steps : List Step
weak_formed_steps = Mine (acts.WeakOf 1 2) ∷ []

abbrev weak_formed : History
weak_formed = history_by 1 weak_formed_steps weak_ready

abbrev weak_formed_notes : List Note
weak_formed_notes = notes_by weak_formed_steps weak_ready_notes

weak_formed_tied : Ties Judged plain 1 weak_formed_notes weak_formed
weak_formed_tied = tied_by plain 1 weak_formed_steps tt weak_ready_tied

weak_gained : IsGain Strong 0 Weak (acts.WeakOf 1 2) [] object_made_notes weak_formed_notes
weak_gained = record { spare = Published; decided = weak_ready_notes; ready = published (claimed ready refl); settled = stays_published }

abbrev freed_steps : List Step
freed_steps =
    Mine (acts.Drop 1 true) ∷
    Noted (Name 0 node) ∷
    Noted (Line (answers.Deinit node)) ∷
    Mine (acts.Finish 0 true) ∷
    Noted (Entry 0 (Some 0)) ∷
    Mine (acts.Vacate 0) ∷
    Mine (acts.Gone 0 false) ∷
    []

abbrev freed : History
freed = history_by 1 freed_steps weak_formed

abbrev freed_notes : List Note
freed_notes = notes_by freed_steps weak_formed_notes

freed_tied : Ties Judged plain 1 freed_notes freed
freed_tied = tied_by plain 1 freed_steps (refl, (tt, (refl, tt))) weak_formed_tied

drop_with_weak_left : IsDropIn plain 1 1 weak_formed freed (node ∷ [])
drop_with_weak_left =
    record {
      reference = record { kind = Strong; place = 0 };
      refers = refl;
      earlier = weak_formed_notes;
      notes = freed_notes;
      tied_before = weak_formed_tied;
      tied = freed_tied;
      spelled = last_strong (finish_last named refl gone_more);
      told = refl;
    }

abbrev loaded_nil_steps : List Step
loaded_nil_steps = Mine (acts.Load 2 got.Nil) ∷ []

abbrev loaded_nil : History
loaded_nil = history_by 1 loaded_nil_steps freed

abbrev loaded_nil_notes : List Note
loaded_nil_notes = notes_by loaded_nil_steps freed_notes

loaded_nil_tied : Ties Judged plain 1 loaded_nil_notes loaded_nil
loaded_nil_tied = tied_by plain 1 loaded_nil_steps tt freed_tied

load_of_nil : IsGain Weak 0 Strong (acts.Load 2 got.Nil) [] freed_notes loaded_nil_notes
load_of_nil = record { spare = Unclaimed; decided = freed_notes; ready = ready; settled = unclaimed }

abbrev weak_dropped_steps : List Step
weak_dropped_steps = Mine (acts.Drop 2 true) ∷ Mine (acts.Back 0) ∷ []

abbrev weak_dropped : History
weak_dropped = history_by 1 weak_dropped_steps loaded_nil

abbrev weak_dropped_notes : List Note
weak_dropped_notes = notes_by weak_dropped_steps loaded_nil_notes

weak_dropped_tied : Ties Judged plain 1 weak_dropped_notes weak_dropped
weak_dropped_tied = tied_by plain 1 weak_dropped_steps tt loaded_nil_tied

weak_drop_last : IsDropIn plain 1 2 loaded_nil weak_dropped []
weak_drop_last =
    record {
      reference = record { kind = Weak; place = 0 };
      refers = refl;
      earlier = loaded_nil_notes;
      notes = weak_dropped_notes;
      tied_before = loaded_nil_tied;
      tied = weak_dropped_tied;
      spelled = last_weak;
      told = refl;
    }

weak_dropped_legal : IsLegal plain weak_dropped
weak_dropped_legal = (refl, (refl, (refl, (refl, (refl, (refl, (refl, (refl, (refl, (refl, (refl, tt)))))))))))
