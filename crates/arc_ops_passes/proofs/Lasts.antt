-- What a pass owes once it has given up a reference, while objects die: what it owed, and behind the last one of its list what that leaves.
use Rattle.std.proofs.Common.{◌≡◌, ◌≢◌, ℕ, true, List, [], ◌∷◌, ◌++◌, Some, refl, sym, ap, ◌∙◌}
use Rattle.std.specs.Prelude.{false, ⊤}
use Rattle.arc_model.specs.declared.event.Act.{Act}
use Rattle.arc_model.specs.declared.event.Act.TheVariants as acts
use Rattle.arc_model.specs.declared.event.Event.{Event}
use Rattle.arc_model.specs.declared.shape.Kind.{Kind}
use Rattle.arc_model.specs.declared.shape.Kind.TheVariants.{Strong, Unowned, Weak}
use Rattle.arc_model.specs.Shapes.{HeapShape}
use Rattle.arc_model.specs.Heaps.{Hand, Deinit, Vacating, Object}
use Rattle.arc_model.specs.Holders.{is_in, is_empty, list_of}
use Rattle.arc_model.specs.Cells.{strong_holders}
use Rattle.arc_model.specs.History.{History, heap_after}
use Rattle.arc_model.specs.Lookup.{spot, duty_of}
use Rattle.arc_model.specs.Own.{owed_next}
use Rattle.arc_model.proofs.Basics.{true≢false, in-strong}
use Rattle.arc_model.proofs.Courses.{well_formed}
use Rattle.arc_model.proofs.Duties.{own_duties}
use Rattle.arc_model.proofs.Others.{others_leave}
use Rattle.arc_model.proofs.Stages.{dying-facts}
use Rattle.arc_side.specs.Inline.{IsCountedInline}
use Rattle.arc_cells.specs.Chains.{Frame}
use Rattle.arc_view.specs.declared.view.View.{View}
use Rattle.arc_view.specs.Views.{Each, within}
use Rattle.arc_view.specs.Holding.{At, HasHand, heap_of}
use Rattle.arc_view.proofs.Entering.{one_place}
use Rattle.arc_view.proofs.Held.{hand_listed, hand_object}
use Rattle.arc_view.proofs.Own.{duty_own}
use Rattle.arc_view.proofs.Owed.{duty_parts}
use Rattle.arc_view_laws.proofs.Moving.{legal_tail}
use Rattle.arc_ops_passes.specs.Drives.{Due, IsDue, OwesJust, OwesAll, slots_of, waits}
use Rattle.arc_ops_passes.proofs.Chain.{none_within}
use Rattle.arc_ops_passes.proofs.Dues.{due_on, just_on}
use Rattle.arc_ops_passes.proofs.DuesOn.{Acted}
use Rattle.arc_ops_passes.proofs.FallEnds.{duty_after, spot_duty, its_duty, other_duty}
use Rattle.arc_ops_passes.proofs.Owed.{slot_is}

-- an object that dies
abbrev pub Dies : Due → Type 0
Dies d = d.duty ≡ Deinit

pub all_die : (fs : List Frame) → Each Dies (waits fs)
all_die [] = tt
all_die (p ∷ fs) = (refl, all_die fs)

-- an event that changes no duty leaves them
pub owes_kept : (shape : HeapShape) (v w : View) (a : Act) (ds : List Due) → Acted shape v w a → ((i : ℕ) (h : History) → owed_next v.number a i (heap_after h) ≡ duty_of v.number i (heap_after h)) → Each Dies ds → OwesAll shape v ds → OwesAll shape w ds
owes_kept shape v w a ds x leaves dies o =
    let h = x.between ++ v.seen in
    let e : Event = record { thread = v.number; act = a } in record {
      apart = o.apart;
      just = just_on shape v w Dies ds (λ i. ⊤) (λ i. ⊤) dies (λ d is q. due_on shape d e x.between v w is x.number x.seen x.legal x.others q (own_duties shape h e q.place x.legal ∙ leaves q.place h))
          (λ i r none. (λ k. duty_of (x.number k) i (heap_after (x.seen k))) ∙ (own_duties shape h e i x.legal ∙ (leaves i h ∙ ((others_leave shape v.number v.seen x.between x.legal.1 x.others).duties i ∙ none r)))) o.just;
    }

-- ---- the last one of its list goes

module _ (shape : HeapShape) (v w : View) (hand i : ℕ) (kind : Kind) (x : Acted shape v w (acts.Drop hand true)) (counted : IsCountedInline kind) (has : HasHand v hand kind i) where
  abbrev h : History
  h = x.between ++ v.seen

  abbrev event : Event
  event = record { thread = v.number; act = acts.Drop hand true }

  now : spot (Hand v.number hand) (heap_after h) ≡ Some (record { place = i; kind = kind })
  now = (others_leave shape v.number v.seen x.between x.legal.1 x.others).hands hand ∙ has

  before : (j : ℕ) → duty_of v.number j (heap_after h) ≡ duty_of v.number j (heap_of v)
  before j = (others_leave shape v.number v.seen x.between x.legal.1 x.others).duties j

  then : (j : ℕ) → duty_of v.number j (heap_after (event ∷ h)) ≡ spot_duty j (Some (record { place = i; kind = kind })) (duty_of v.number j (heap_after h))
  then j = own_duties shape h event j x.legal ∙ (λ k. spot_duty j (now k) (duty_of v.number j (heap_after h)))

  stays : (j : ℕ) → j ≢ i → duty_of v.number j (heap_after (event ∷ h)) ≡ duty_of v.number j (heap_after h)
  stays j ne = then j ∙ other_duty kind i j (duty_of v.number j (heap_after h)) (λ e. ne (sym e))

  its_then : duty_of v.number i (heap_after (event ∷ h)) ≡ Some (duty_after kind)
  its_then = then i ∙ its_duty kind i (duty_of v.number i (heap_after h)) counted

  since : (j : ℕ) → duty_of w.number j (heap_of w) ≡ duty_of v.number j (heap_after (event ∷ h))
  since j k = duty_of (x.number k) j (heap_after (x.seen k))

  pub owes_its : duty_of w.number i (heap_of w) ≡ Some (duty_after kind)
  owes_its = since i ∙ its_then

  there : (o : Object) × At (heap_after h) i o
  there = hand_object shape h v.number hand i kind x.legal.1 now

  abbrev q : Object
  q = there.0

  -- the object isn't one that was dying
  was_not_dying : duty_of v.number i (heap_after h) ≡ Some Deinit → ⊥
  was_not_dying duty = by kind counted (hand_listed shape h v.number hand i kind q x.legal.1 now there.1) (sym (duty_own shape event h v.number i x.legal refl duty) ∙ its_then)
    where
      apart : Some Deinit ≡ Some Vacating → ⊥
      apart e = cc

      by : (list : Kind) → IsCountedInline list → is_in (Hand v.number hand) (list_of list q) ≡ true → Some Deinit ≡ Some (duty_after list) → ⊥
      by Strong in_line listed same =
          let dead : is_empty (strong_holders shape q) ≡ true = (dying-facts q ((well_formed shape h x.legal.1).whole i q there.1) (duty_parts h v.number i Deinit q there.1 duty).1).strong in
          true≢false (sym dead ∙ in-strong shape (Hand v.number hand) q listed)
      by Unowned in_line listed same = apart same
      by Weak in_line listed same = in_line

  elsewhere : (d : Due) → Dies d → (o : IsDue shape v d) → o.place ≢ i
  elsewhere d dies o same = was_not_dying (ap (λ j. duty_of v.number j (heap_after h)) (sym same) ∙ (before o.place ∙ (o.owes ∙ ap Some dies)))

  outside : (s : ℕ) (o : Object) → At (heap_of v) i o → o.slot ≡ Some s → (ds : List Due) → Each Dies ds → (left : ℕ → Type 0) → OwesJust shape v ds left → within s (slots_of ds) ≡ false
  outside s o here slot [] dies left owes = refl
  outside s o here slot (d ∷ ds) dies left owes =
      let q = owes.0 in
      none_within s d.slot (slots_of ds)
      (λ e. elsewhere d dies.0 q (one_place s (heap_of v).objects q.place i q.object o ((well_formed shape v.seen (legal_tail shape x.between v.seen x.legal.1)).slots s) q.here here (slot_is q.object s (q.slot ∙ ap Some (sym e))) (slot_is o s slot)))
      (outside s o here slot ds dies.1 (λ j. left j × (j ≢ q.place)) owes.1)

  -- what is owed to the object is a duty more, before the others
  pub owes_more : (ds : List Due) → Each Dies ds → (new : Due) (q : IsDue shape w new) → q.place ≡ i → (o : Object) → At (heap_of v) i o → o.slot ≡ Some new.slot → OwesAll shape v ds → OwesAll shape w (new ∷ ds)
  owes_more ds dies new q place o here slot owes = record {
    apart = (outside new.slot o here slot ds dies (λ j. ⊤) owes.just, owes.apart);
    just = (
      q,
      just_on shape v w Dies ds (λ j. ⊤) (λ j. ⊤ × (j ≢ q.place)) dies (λ d is r. due_on shape d event x.between v w is x.number x.seen x.legal x.others r (stays r.place (elsewhere d is r)))
          (λ j r none. since j ∙ (stays j (λ e. r.1 (e ∙ sym place)) ∙ (before j ∙ none tt))) owes.just,
    );
  }
