-- An object of an immortal class is live in its slot after each event.
use Rattle.std.proofs.Common.{◌≡◌, ℕ, true, not, [], ◌∷◌, ◌++◌, Some, inl, inr, refl, ap, ◌∙◌}
use Rattle.std.specs.Prelude.{slice_get}
use Rattle.arc_model.specs.Shapes.{HeapShape, class_at}
use Rattle.arc_model.specs.Heaps.{Object}
use Rattle.arc_model.specs.Holders.{is_empty}
use Rattle.arc_model.specs.Cells.{is_immortal, strong_holders}
use Rattle.arc_model.specs.History.{History, heap_after, IsLegal}
use Rattle.arc_model.specs.Laws.{ImmortalsLiveOn}
use Rattle.arc_model.proofs.Tally.{clash}
use Rattle.arc_model.proofs.Stages.{live-facts, immortal-live}
use Rattle.arc_model.proofs.Steps.{step_after}
use Rattle.arc_model.proofs.Courses.{well_formed}

stays_immortal : (shape : HeapShape) (i : ℕ) (o : Object) (before after : History) → IsLegal shape (after ++ before) → slice_get (heap_after before).objects i ≡ Some o → is_immortal shape o ≡ true →
    (q : Object) × (slice_get (heap_after (after ++ before)).objects i ≡ Some q) × (is_immortal shape q ≡ true) × (q.slot ≡ o.slot)
stays_immortal shape i o before [] legal here forever = (o, here, forever, refl)
stays_immortal shape i o before (e ∷ after) legal here forever =
    let a = stays_immortal shape i o before after legal.1 here forever in
    let s = step_after shape e (after ++ before) legal i a.0 a.1 in (
      s.q,
      s.here,
      ap (λ c. (class_at shape c).immortal) s.class ∙ a.2,
      elim s.place [
        | inl same ↦ same ∙ a.3
        | inr leaves ↦ clash (is_empty (strong_holders shape a.0)) leaves.3 (immortal-live shape a.0 a.2)
      ],
    )

pub immortals_live_on : ImmortalsLiveOn
immortals_live_on shape i o before after legal here forever =
    let a = stays_immortal shape i o before after legal here forever in
    let wf = well_formed shape (after ++ before) legal in
    let live = immortal-live shape a.0 a.2 in record {
      object = a.0;
      here = a.1;
      live = ap not live;
      slot_is = a.3;
      no_entry = (wf.immortal i a.0 a.1 a.2).1;
      not_owed = (live-facts a.0 (wf.whole i a.0 a.1) live).owed;
    }
