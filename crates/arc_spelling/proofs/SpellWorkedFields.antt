-- Worked spellings of several threads and of fields: each drop and each gain as it is spelled, tied to a legal history.
use Rattle.std.proofs.Common.{ℕ, List, [], ◌∷◌, Some, None, refl, true, false, arith}
use Rattle.arc_model.specs.declared.answer.Answer.TheVariants as answers
use Rattle.arc_model.specs.declared.event.ObjectName.{ObjectName}
use Rattle.arc_model.specs.declared.event.CellName.TheVariants as cells
use Rattle.arc_model.specs.declared.event.Origin.TheVariants as origins
use Rattle.arc_model.specs.declared.event.Got.TheVariants as got
use Rattle.arc_model.specs.declared.event.Act.TheVariants as acts
use Rattle.arc_model.specs.declared.shape.Kind.TheVariants.{Strong, Weak}
use Rattle.arc_model.specs.Shapes.{HeapShape}
use Rattle.arc_model.specs.History.{History, IsLegal}
use Rattle.arc_spelling.specs.Spelling.{Note}
use Rattle.arc_spelling.specs.Spelling.Note.{Line, Name, Entry, NeedsEntry, Nil, Refers}
use Rattle.arc_spelling.specs.Spelling.IsEnd.{inline, gone_more}
use Rattle.arc_spelling.specs.Spelling.FieldsDone.{named, nil, taken, noted as read_again}
use Rattle.arc_spelling.specs.Spelling.IsDrop.{more, last_strong, last_weak}
use Rattle.arc_spelling.specs.Spelling.IsCascade.{finish_last}
use Rattle.arc_spelling.specs.SpellingGains.{IsGain}
use Rattle.arc_spelling.specs.SpellingGains.Spare.{Unclaimed, Claimed, Published}
use Rattle.arc_spelling.specs.SpellingGains.IsReady.{start as ready, claimed, published}
use Rattle.arc_spelling.specs.SpellingGains.IsSettled.{unclaimed, published as stays_published, given_back}
use Rattle.arc_spelling.specs.SpellingTies.{Ties, IsDropIn}
use Rattle.arc_spelling.specs.SpellingTies.Causes.{Judged}
use Rattle.arc_spelling.specs.SpellingTies.Ties.{start}
use Rattle.arc_model.proofs.Judged.{mortal, by_one, by_two}
use Rattle.arc_spelling.proofs.SpellSteps.{Step, history_by, notes_by, tied_by}
use Rattle.arc_spelling.proofs.SpellSteps.Step.{Mine, Other, Note as Noted}
use Rattle.arc_spelling.proofs.SpellWorked.{node}

-- A weak load of one thread beside the drop of another: the loader drops the last strong reference.

abbrev weak_global : HeapShape
weak_global = record { slots = 1; entries = 1; caps = record { strong = 1073741823; unowned = 2147483647; wide = 4294967295 }; classes = mortal [] ∷ []; globals = record { kind = Weak; class = 0 } ∷ [] }

abbrev weak_in_global_steps : List Step
weak_in_global_steps =
    Other (by_one (acts.New 1 0 0)) ∷
    Other (by_one (acts.Claim 0)) ∷
    Other (by_one (acts.Side 0 0 Weak)) ∷
    Other (by_one (acts.WeakOf 1 2)) ∷
    Other (by_one (acts.Swap (cells.Global 0) (Some 2) None)) ∷
    []

abbrev weak_in_global : History
weak_in_global = history_by 2 weak_in_global_steps []

abbrev weak_in_global_notes : List Note
weak_in_global_notes = notes_by weak_in_global_steps []

weak_in_global_tied : Ties Judged weak_global 2 weak_in_global_notes weak_in_global
weak_in_global_tied = tied_by weak_global 2 weak_in_global_steps (refl, (refl, (refl, (refl, (refl, tt))))) start

abbrev weak_copied_steps : List Step
weak_copied_steps =
    Noted (Refers (cells.Global 0) Weak 0) ∷
    Mine (acts.Copy (origins.Cell (cells.Global 0)) 1) ∷
    []

abbrev weak_copied : History
weak_copied = history_by 2 weak_copied_steps weak_in_global

abbrev weak_copied_notes : List Note
weak_copied_notes = notes_by weak_copied_steps weak_in_global_notes

weak_copied_tied : Ties Judged weak_global 2 weak_copied_notes weak_copied
weak_copied_tied = tied_by weak_global 2 weak_copied_steps (refl, tt) weak_in_global_tied

abbrev strong_loaded_steps : List Step
strong_loaded_steps = Mine (acts.Load 1 (got.Hand 2)) ∷ Noted (Entry 0 (Some 0)) ∷ Noted (Name 0 node) ∷ []

abbrev strong_loaded : History
strong_loaded = history_by 2 strong_loaded_steps weak_copied

abbrev strong_loaded_notes : List Note
strong_loaded_notes = notes_by strong_loaded_steps weak_copied_notes

strong_loaded_tied : Ties Judged weak_global 2 strong_loaded_notes strong_loaded
strong_loaded_tied = tied_by weak_global 2 strong_loaded_steps (refl, (refl, tt)) weak_copied_tied

weak_load : IsGain Weak 0 Strong (acts.Load 1 (got.Hand 2)) (Name 0 node ∷ Entry 0 (Some 0) ∷ []) weak_copied_notes strong_loaded_notes
weak_load = record { spare = Unclaimed; decided = weak_copied_notes; ready = ready; settled = unclaimed }

abbrev weak_given_up_steps : List Step
weak_given_up_steps = Other (by_one (acts.Drop 1 false)) ∷ Mine (acts.Drop 1 false) ∷ []

abbrev weak_given_up : History
weak_given_up = history_by 2 weak_given_up_steps strong_loaded

abbrev weak_given_up_notes : List Note
weak_given_up_notes = notes_by weak_given_up_steps strong_loaded_notes

weak_given_up_tied : Ties Judged weak_global 2 weak_given_up_notes weak_given_up
weak_given_up_tied = tied_by weak_global 2 weak_given_up_steps (refl, tt) strong_loaded_tied

weak_drop_more : IsDropIn weak_global 2 1 strong_loaded weak_given_up []
weak_drop_more =
    record {
      reference = record { kind = Weak; place = 0 };
      refers = refl;
      earlier = strong_loaded_notes;
      notes = weak_given_up_notes;
      tied_before = strong_loaded_tied;
      tied = weak_given_up_tied;
      spelled = more;
      told = refl;
    }

abbrev loader_dropped_steps : List Step
loader_dropped_steps =
    Mine (acts.Drop 2 true) ∷
    Noted (Name 0 node) ∷
    Noted (Line (answers.Deinit node)) ∷
    Mine (acts.Finish 0 true) ∷
    Noted (Entry 0 (Some 0)) ∷
    Mine (acts.Vacate 0) ∷
    Mine (acts.Gone 0 false) ∷
    []

abbrev loader_dropped : History
loader_dropped = history_by 2 loader_dropped_steps weak_given_up

abbrev loader_dropped_notes : List Note
loader_dropped_notes = notes_by loader_dropped_steps weak_given_up_notes

loader_dropped_tied : Ties Judged weak_global 2 loader_dropped_notes loader_dropped
loader_dropped_tied = tied_by weak_global 2 loader_dropped_steps (refl, (tt, (refl, tt))) weak_given_up_tied

loader_drops_last : IsDropIn weak_global 2 2 weak_given_up loader_dropped (node ∷ [])
loader_drops_last =
    record {
      reference = record { kind = Strong; place = 0 };
      refers = refl;
      earlier = weak_given_up_notes;
      notes = loader_dropped_notes;
      tied_before = weak_given_up_tied;
      tied = loader_dropped_tied;
      spelled = last_strong (finish_last named refl gone_more);
      told = refl;
    }

loader_dropped_legal : IsLegal weak_global loader_dropped
loader_dropped_legal = (refl, (refl, (refl, (refl, (refl, (refl, (refl, (refl, (refl, (refl, (refl, (refl, (refl, tt)))))))))))))

-- A person's strong field refers to an apartment, whose weak field refers back. The person's deinit drops a strong field that is
-- still referred to; the apartment's drops a weak one.

abbrev tenancy : HeapShape
tenancy = record { slots = 8; entries = 8; caps = record { strong = 1073741823; unowned = 2147483647; wide = 4294967295 }; classes = mortal (record { kind = Strong; class = 1 } ∷ []) ∷ mortal (record { kind = Weak; class = 0 } ∷ []) ∷ []; globals = [] }

abbrev person : ObjectName
person = record { class = 0; thread = 1; number = 1 }

abbrev apartment : ObjectName
apartment = record { class = 1; thread = 1; number = 2 }

abbrev moved_in_steps : List Step
moved_in_steps =
    Mine (acts.New 1 0 0) ∷
    Mine (acts.New 2 1 1) ∷
    Mine (acts.Copy (origins.Hand 2) 3) ∷
    Mine (acts.Swap (cells.Field 0 0) (Some 3) None) ∷
    []

abbrev moved_in : History
moved_in = history_by 1 moved_in_steps []

abbrev moved_in_notes : List Note
moved_in_notes = notes_by moved_in_steps []

moved_in_tied : Ties Judged tenancy 1 moved_in_notes moved_in
moved_in_tied = tied_by tenancy 1 moved_in_steps tt start

abbrev person_in_entry_steps : List Step
person_in_entry_steps = Noted (NeedsEntry 0 Weak) ∷ Mine (acts.Claim 0) ∷ Mine (acts.Side 0 0 Weak) ∷ []

abbrev person_in_entry : History
person_in_entry = history_by 1 person_in_entry_steps moved_in

abbrev person_in_entry_notes : List Note
person_in_entry_notes = notes_by person_in_entry_steps moved_in_notes

person_in_entry_tied : Ties Judged tenancy 1 person_in_entry_notes person_in_entry
person_in_entry_tied = tied_by tenancy 1 person_in_entry_steps (refl, tt) moved_in_tied

abbrev tenant_seen_steps : List Step
tenant_seen_steps = Mine (acts.WeakOf 1 4) ∷ []

abbrev tenant_seen : History
tenant_seen = history_by 1 tenant_seen_steps person_in_entry

abbrev tenant_seen_notes : List Note
tenant_seen_notes = notes_by tenant_seen_steps person_in_entry_notes

tenant_seen_tied : Ties Judged tenancy 1 tenant_seen_notes tenant_seen
tenant_seen_tied = tied_by tenancy 1 tenant_seen_steps tt person_in_entry_tied

weak_of_person : IsGain Strong 0 Weak (acts.WeakOf 1 4) [] moved_in_notes tenant_seen_notes
weak_of_person = record { spare = Published; decided = person_in_entry_notes; ready = published (claimed ready refl); settled = stays_published }

abbrev tenant_set_steps : List Step
tenant_set_steps = Mine (acts.Swap (cells.Field 1 0) (Some 4) None) ∷ []

abbrev tenant_set : History
tenant_set = history_by 1 tenant_set_steps tenant_seen

abbrev tenant_set_notes : List Note
tenant_set_notes = notes_by tenant_set_steps tenant_seen_notes

tenant_set_tied : Ties Judged tenancy 1 tenant_set_notes tenant_set
tenant_set_tied = tied_by tenancy 1 tenant_set_steps tt tenant_seen_tied

abbrev person_gone_steps : List Step
person_gone_steps =
    Mine (acts.Drop 1 true) ∷
    Noted (Name 0 person) ∷
    Noted (Line (answers.Deinit person)) ∷
    Noted (Refers (cells.Field 0 0) Strong 1) ∷
    Mine (acts.Take 0 0 5) ∷
    Mine (acts.Drop 5 false) ∷
    Mine (acts.Finish 0 true) ∷
    Noted (Entry 0 (Some 0)) ∷
    Mine (acts.Vacate 0) ∷
    Mine (acts.Gone 0 false) ∷
    []

abbrev person_gone : History
person_gone = history_by 1 person_gone_steps tenant_set

abbrev person_gone_notes : List Note
person_gone_notes = notes_by person_gone_steps tenant_set_notes

person_gone_tied : Ties Judged tenancy 1 person_gone_notes person_gone
person_gone_tied = tied_by tenancy 1 person_gone_steps (refl, (tt, (refl, (refl, tt)))) tenant_set_tied

person_dropped : IsDropIn tenancy 1 1 tenant_set person_gone (person ∷ [])
person_dropped =
    record {
      reference = record { kind = Strong; place = 0 };
      refers = refl;
      earlier = tenant_set_notes;
      notes = person_gone_notes;
      tied_before = tenant_set_tied;
      tied = person_gone_tied;
      spelled = last_strong (finish_last (taken named (omega arith) refl refl more) refl gone_more);
      told = refl;
    }

abbrev tenant_got_steps : List Step
tenant_got_steps =
    Noted (Refers (cells.Field 1 0) Weak 0) ∷
    Mine (acts.Copy (origins.Cell (cells.Field 1 0)) 6) ∷
    []

abbrev tenant_got : History
tenant_got = history_by 1 tenant_got_steps person_gone

abbrev tenant_got_notes : List Note
tenant_got_notes = notes_by tenant_got_steps person_gone_notes

tenant_got_tied : Ties Judged tenancy 1 tenant_got_notes tenant_got
tenant_got_tied = tied_by tenancy 1 tenant_got_steps (refl, tt) person_gone_tied

abbrev tenant_nil_steps : List Step
tenant_nil_steps = Mine (acts.Load 6 got.Nil) ∷ []

abbrev tenant_nil : History
tenant_nil = history_by 1 tenant_nil_steps tenant_got

abbrev tenant_nil_notes : List Note
tenant_nil_notes = notes_by tenant_nil_steps tenant_got_notes

tenant_nil_tied : Ties Judged tenancy 1 tenant_nil_notes tenant_nil
tenant_nil_tied = tied_by tenancy 1 tenant_nil_steps tt tenant_got_tied

abbrev apartment_gone_steps : List Step
apartment_gone_steps =
    Mine (acts.Drop 2 true) ∷
    Noted (Name 1 apartment) ∷
    Noted (Line (answers.Deinit apartment)) ∷
    Noted (Refers (cells.Field 1 0) Weak 0) ∷
    Mine (acts.Take 1 0 7) ∷
    Mine (acts.Drop 7 false) ∷
    Mine (acts.Finish 1 true) ∷
    Noted (Entry 1 None) ∷
    Mine (acts.Vacate 1) ∷
    []

abbrev apartment_gone : History
apartment_gone = history_by 1 apartment_gone_steps tenant_nil

abbrev apartment_gone_notes : List Note
apartment_gone_notes = notes_by apartment_gone_steps tenant_nil_notes

apartment_gone_tied : Ties Judged tenancy 1 apartment_gone_notes apartment_gone
apartment_gone_tied = tied_by tenancy 1 apartment_gone_steps (refl, (tt, (refl, (refl, tt)))) tenant_nil_tied

apartment_dropped : IsDropIn tenancy 1 2 tenant_nil apartment_gone (apartment ∷ [])
apartment_dropped =
    record {
      reference = record { kind = Strong; place = 1 };
      refers = refl;
      earlier = tenant_nil_notes;
      notes = apartment_gone_notes;
      tied_before = tenant_nil_tied;
      tied = apartment_gone_tied;
      spelled = last_strong (finish_last (taken named (omega arith) refl refl more) refl inline);
      told = refl;
    }

abbrev entry_given_back_steps : List Step
entry_given_back_steps = Mine (acts.Drop 6 true) ∷ Mine (acts.Back 0) ∷ []

abbrev entry_given_back : History
entry_given_back = history_by 1 entry_given_back_steps apartment_gone

abbrev entry_given_back_notes : List Note
entry_given_back_notes = notes_by entry_given_back_steps apartment_gone_notes

entry_given_back_tied : Ties Judged tenancy 1 entry_given_back_notes entry_given_back
entry_given_back_tied = tied_by tenancy 1 entry_given_back_steps tt apartment_gone_tied

tenant_dropped : IsDropIn tenancy 1 6 apartment_gone entry_given_back []
tenant_dropped =
    record {
      reference = record { kind = Weak; place = 0 };
      refers = refl;
      earlier = apartment_gone_notes;
      notes = entry_given_back_notes;
      tied_before = apartment_gone_tied;
      tied = entry_given_back_tied;
      spelled = last_weak;
      told = refl;
    }

entry_given_back_legal : IsLegal tenancy entry_given_back
entry_given_back_legal = (refl, (refl, (refl, (refl, (refl, (refl, (refl, (refl, (refl, (refl, (refl, (refl, (refl, (refl, (refl, (refl, (refl, (refl, (refl, (refl, (refl, (refl, (refl, tt)))))))))))))))))))))))

-- Two threads claim an entry for one object: the one whose claim isn't published gives it back behind its deciding event.

abbrev two_entries : HeapShape
two_entries = record { slots = 1; entries = 2; caps = record { strong = 1073741823; unowned = 2147483647; wide = 4294967295 }; classes = mortal [] ∷ []; globals = record { kind = Strong; class = 0 } ∷ [] }

abbrev shared_steps : List Step
shared_steps =
    Mine (acts.New 1 0 0) ∷
    Mine (acts.Copy (origins.Hand 1) 2) ∷
    Mine (acts.Swap (cells.Global 0) (Some 2) None) ∷
    Other (by_two (acts.Copy (origins.Cell (cells.Global 0)) 1)) ∷
    []

abbrev shared : History
shared = history_by 1 shared_steps []

abbrev shared_notes : List Note
shared_notes = notes_by shared_steps []

shared_tied : Ties Judged two_entries 1 shared_notes shared
shared_tied = tied_by two_entries 1 shared_steps (refl, tt) start

abbrev both_claim_steps : List Step
both_claim_steps =
    Noted (NeedsEntry 0 Weak) ∷
    Mine (acts.Claim 0) ∷
    Other (by_two (acts.Claim 1)) ∷
    Other (by_two (acts.Side 0 1 Weak)) ∷
    []

abbrev both_claim : History
both_claim = history_by 1 both_claim_steps shared

abbrev both_claim_notes : List Note
both_claim_notes = notes_by both_claim_steps shared_notes

both_claim_tied : Ties Judged two_entries 1 both_claim_notes both_claim
both_claim_tied = tied_by two_entries 1 both_claim_steps (refl, (refl, (refl, tt))) shared_tied

abbrev claim_given_back_steps : List Step
claim_given_back_steps = Mine (acts.WeakOf 1 3) ∷ Mine (acts.Back 0) ∷ []

abbrev claim_given_back : History
claim_given_back = history_by 1 claim_given_back_steps both_claim

abbrev claim_given_back_notes : List Note
claim_given_back_notes = notes_by claim_given_back_steps both_claim_notes

claim_given_back_tied : Ties Judged two_entries 1 claim_given_back_notes claim_given_back
claim_given_back_tied = tied_by two_entries 1 claim_given_back_steps tt both_claim_tied

gain_with_claim_lost : IsGain Strong 0 Weak (acts.WeakOf 1 3) [] shared_notes claim_given_back_notes
gain_with_claim_lost = record { spare = Claimed 0; decided = both_claim_notes; ready = claimed ready refl; settled = given_back }

claim_given_back_legal : IsLegal two_entries claim_given_back
claim_given_back_legal = (refl, (refl, (refl, (refl, (refl, (refl, (refl, (refl, (refl, tt)))))))))

-- A chain of three with nil fields between: the deinits follow one another down, and each is told once.

abbrev chain : HeapShape
chain = record { slots = 3; entries = 1; caps = record { strong = 1073741823; unowned = 2147483647; wide = 4294967295 }; classes = mortal (record { kind = Strong; class = 0 } ∷ record { kind = Strong; class = 0 } ∷ []) ∷ []; globals = [] }

abbrev link : ℕ → ObjectName
link n = record { class = 0; thread = 1; number = n }

abbrev chained_steps : List Step
chained_steps =
    Mine (acts.New 1 0 0) ∷
    Mine (acts.New 2 0 1) ∷
    Mine (acts.Swap (cells.Field 1 1) (Some 1) None) ∷
    Mine (acts.New 3 0 2) ∷
    Mine (acts.Swap (cells.Field 2 0) (Some 2) None) ∷
    []

abbrev chained : History
chained = history_by 1 chained_steps []

abbrev chained_notes : List Note
chained_notes = notes_by chained_steps []

chained_tied : Ties Judged chain 1 chained_notes chained
chained_tied = tied_by chain 1 chained_steps tt start

abbrev chain_gone_steps : List Step
chain_gone_steps =
    Mine (acts.Drop 3 true) ∷
    Noted (Name 2 (link 3)) ∷
    Noted (Line (answers.Deinit (link 3))) ∷
    Noted (Refers (cells.Field 2 0) Strong 1) ∷
    Mine (acts.Take 2 0 4) ∷
    Mine (acts.Drop 4 true) ∷
    Noted (Name 1 (link 2)) ∷
    Noted (Line (answers.Deinit (link 2))) ∷
    Noted (Nil (cells.Field 1 0)) ∷
    Noted (Refers (cells.Field 1 1) Strong 0) ∷
    Mine (acts.Take 1 1 5) ∷
    Mine (acts.Drop 5 true) ∷
    Noted (Name 0 (link 1)) ∷
    Noted (Line (answers.Deinit (link 1))) ∷
    Noted (Nil (cells.Field 0 0)) ∷
    Noted (Nil (cells.Field 0 1)) ∷
    Mine (acts.Finish 0 true) ∷
    Noted (Entry 0 None) ∷
    Mine (acts.Vacate 0) ∷
    Mine (acts.Finish 1 true) ∷
    Noted (Entry 1 None) ∷
    Mine (acts.Vacate 1) ∷
    Noted (Name 2 (link 3)) ∷
    Noted (Nil (cells.Field 2 1)) ∷
    Mine (acts.Finish 2 true) ∷
    Noted (Entry 2 None) ∷
    Mine (acts.Vacate 2) ∷
    []

abbrev chain_gone : History
chain_gone = history_by 1 chain_gone_steps chained

abbrev chain_gone_notes : List Note
chain_gone_notes = notes_by chain_gone_steps chained_notes

chain_gone_tied : Ties Judged chain 1 chain_gone_notes chain_gone
chain_gone_tied = tied_by chain 1 chain_gone_steps (refl, (tt, (refl, (refl, (tt, (refl, (refl, (refl, (tt, (refl, (refl, (refl, (refl, (refl, (refl, (refl, tt)))))))))))))))) chained_tied

chain_dropped : IsDropIn chain 1 3 chained chain_gone (link 1 ∷ link 2 ∷ link 3 ∷ [])
chain_dropped =
    record {
      reference = record { kind = Strong; place = 2 };
      refers = refl;
      earlier = chained_notes;
      notes = chain_gone_notes;
      tied_before = chained_tied;
      tied = chain_gone_tied;
      spelled = last_strong (finish_last (nil (read_again (taken named (omega arith) refl refl (last_strong (finish_last (taken (nil named (omega arith) refl) (omega arith) refl refl (last_strong (finish_last (nil (nil named (omega arith) refl) (omega arith) refl) refl inline))) refl inline))) refl) (omega arith) refl) refl inline);
      told = refl;
    }

chain_gone_legal : IsLegal chain chain_gone
chain_gone_legal = (refl, (refl, (refl, (refl, (refl, (refl, (refl, (refl, (refl, (refl, (refl, (refl, (refl, (refl, (refl, (refl, tt))))))))))))))))
