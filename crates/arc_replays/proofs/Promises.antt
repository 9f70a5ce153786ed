-- A legal history keeps its promises.
use Rattle.std.proofs.Common.{◌≡◌, [], ◌∷◌, ◌++◌, subst, ap, ◌∙◌}
use Rattle.arc_model.specs.Shapes.{HeapShape}
use Rattle.arc_model.specs.History.{History, heap_after, IsLegal}
use Rattle.arc_model.specs.Laws.{strong_list}
use Rattle.arc_model.proofs.Ends.{ends_once, loads_before_end}
use Rattle.arc_model.proofs.Slots.{vacated_between}
use Rattle.arc_model.proofs.GivenBack.{given_back}
use Rattle.arc_replays.specs.Promises.{DeinitsOnce, LoadsComeBefore, SlotsAreVacated, EntriesAreGivenBack}

legal_before : (shape : HeapShape) (before after : History) → IsLegal shape (after ++ before) → IsLegal shape before
legal_before shape before [] legal = legal
legal_before shape before (e ∷ after) legal = legal_before shape before after legal.1

module _ (shape : HeapShape) (h : History) (legal : IsLegal shape h) where
  within : (later before : History) → h ≡ later ++ before → IsLegal shape before
  within later before is = legal_before shape before later (subst (λ (x : History). IsLegal shape x) is legal)

  pub deinits_once : DeinitsOnce shape h
  deinits_once = record {
    once = λ i later between before e f is. (ends_once shape).once i before between e f (within later (f ∷ between ++ e ∷ before) is);
    by_drop = λ i later before e is. (ends_once shape).by_drop i before e (within later (e ∷ before) is);
    stays = λ i later before e is empties.
        ap (λ (x : History). strong_list shape i (heap_after x)) is ∙ (ends_once shape).stays i before later e (subst (λ (x : History). IsLegal shape x) is legal) empties;
  }

  pub loads_come_before : LoadsComeBefore shape h
  loads_come_before = λ i hand took later after before e f is. loads_before_end shape i hand took before after e f (within later (f ∷ after ++ e ∷ before) is)

  pub slots_are_vacated : SlotsAreVacated shape h
  slots_are_vacated = λ slot later between before e f is. vacated_between shape slot before between e f (within later (f ∷ between ++ e ∷ before) is)

  pub entries_are_given_back : EntriesAreGivenBack h
  entries_are_given_back = λ entry later between before e f is. given_back shape entry before between e f (within later (f ∷ between ++ e ∷ before) is)
