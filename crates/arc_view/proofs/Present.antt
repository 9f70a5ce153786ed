-- What a view was seen to have, now.
use Rattle.std.proofs.Common.{◌≡◌, ℕ, zero, suc, true, ◌++◌, length, Some, refl, sym, ap, ◌∙◌, subst}
use Rattle.std.proofs.lemmas.Bool.{and_parts}
use Rattle.arc_model.specs.declared.event.Origin.{Origin}
use Rattle.arc_model.specs.declared.event.Origin.TheVariants as origins
use Rattle.arc_model.specs.declared.shape.Kind.{Kind}
use Rattle.arc_model.specs.Shapes.{HeapShape, class_at}
use Rattle.arc_model.specs.Heaps.{Hand, Field as field_holder, Duty, Deinit, Object}
use Rattle.arc_model.specs.Holders.{is_claimed_by}
use Rattle.arc_model.specs.Cells.{origin, is_nil, fields_of, are_all_nil, each_below}
use Rattle.arc_model.specs.History.{History, heap_after, IsLegal}
use Rattle.arc_model.specs.Lookup.{spot, duty_of}
use Rattle.arc_model.proofs.Tally.{both}
use Rattle.arc_model.proofs.Fields.{nil_fields_stay}
use Rattle.arc_model.proofs.Others.{others_leave}
use Rattle.arc_view.specs.declared.view.View.{View}
use Rattle.arc_view.specs.Holding.{At, HasHand, IsSource, HasDuty, HasClaim, heap_of}
use Rattle.arc_view.specs.Views.{StartsWith}
use Rattle.arc_view.proofs.Lists.{starts_self}
use Rattle.arc_view.proofs.Held.{Held, held_stays}
use Rattle.arc_view.proofs.Keeps.{legal_left}
use Rattle.arc_view.proofs.Owed.{OwedLater, owed_stays}
use Rattle.arc_view.proofs.Known.{cell_held, refers_still}
use Rattle.arc_view.proofs.Bridge.{Before, dying_dead}

module _ (shape : HeapShape) (v : View) (h : History) (b : Before shape v h) where
  since : IsLegal shape (b.rest ++ v.seen)
  since = subst (IsLegal shape) b.is b.legal

  -- a hand
  pub hand_now : (k i : ℕ) (kind : Kind) (o : Object) → HasHand v k kind i → At (heap_of v) i o → (spot (Hand v.number k) (heap_after h) ≡ Some (record { place = i; kind = kind })) × Held kind i o (heap_after h)
  hand_now k i kind o at here = subst (λ l. (spot (Hand v.number k) (heap_after l) ≡ Some (record { place = i; kind = kind })) × Held kind i o (heap_after l)) (sym b.is)
      ((others_leave shape v.number v.seen b.rest since b.others).hands k ∙ at, held_stays shape v.number k i kind o v.seen b.rest since b.others at here)

  -- a hand, or a cell that the view accesses
  pub source_now : (from : Origin) (i : ℕ) (kind : Kind) (o : Object) → IsSource v from kind i → At (heap_of v) i o → (spot (origin (heap_after h) v.number from) (heap_after h) ≡ Some (record { place = i; kind = kind })) × Held kind i o (heap_after h)
  source_now (origins.Hand k) i kind o source here = hand_now k i kind o source.0 here
  source_now (origins.Cell c) i kind o source here =
      let refers = refers_still h v c i kind b.stays source in
      (refers h (starts_self h) (b.rest, b.is), subst (λ l. Held kind i o (heap_after l)) (sym b.is) (cell_held shape c i kind o v.seen b.rest since here (λ point t. refers point (subst (λ l. StartsWith l point) (sym b.is) t))))

  -- an entry that it claimed
  pub claim_now : (e : ℕ) → HasClaim v e → is_claimed_by v.number e (heap_after h) ≡ true
  claim_now e claim = ap (λ l. is_claimed_by v.number e (heap_after l)) b.is ∙ (others_leave shape v.number v.seen b.rest since b.others).claims e ∙ claim

  -- an object to which something is owed
  pub owed_now : (d : Duty) (i : ℕ) (o : Object) → At (heap_of v) i o → HasDuty v d i → OwedLater i o h × (duty_of v.number i (heap_after h) ≡ Some d)
  owed_now d i o here duty = subst (λ l. OwedLater i o l × (duty_of v.number i (heap_after l) ≡ Some d)) (sym b.is)
      (owed_stays shape v.number i d o v.seen b.rest since b.others here duty, (others_leave shape v.number v.seen b.rest since b.others).duties i ∙ duty)

  -- a nil field of an object whose deinit is owed
  pub nil_now : (i : ℕ) (o : Object) → At (heap_of v) i o → HasDuty v Deinit i → (l : OwedLater i o h) (f : ℕ) → is_nil (heap_of v) (field_holder o.id f) ≡ true → is_nil (heap_after h) (field_holder l.q.id f) ≡ true
  nil_now i o here duty l f e = ap (λ d. is_nil (heap_after h) (field_holder d f)) l.id
      ∙ (ap (λ k. is_nil (heap_after k) (field_holder o.id f)) b.is
      ∙ nil_fields_stay shape v.seen b.rest i o f since here (dying_dead shape v.seen v.number i o (legal_left shape b.rest v.seen since) here duty) e)

  -- its fields are nil still
  pub nils_now : (i : ℕ) (o : Object) → At (heap_of v) i o → HasDuty v Deinit i → are_all_nil shape (heap_of v) o ≡ true → (l : OwedLater i o h) → are_all_nil shape (heap_after h) l.q ≡ true
  nils_now i o here duty nil l = ap (λ c. each_below (length (class_at shape c).fields) (λ f. is_nil (heap_after h) (field_holder l.q.id f))) l.class ∙ nils (length (fields_of shape o)) nil
    where
      nils : (n : ℕ) → each_below n (λ f. is_nil (heap_of v) (field_holder o.id f)) ≡ true → each_below n (λ f. is_nil (heap_after h) (field_holder l.q.id f)) ≡ true
      nils zero e = refl
      nils (suc n) e =
          let all = and_parts (is_nil (heap_of v) (field_holder o.id n)) (each_below n (λ f. is_nil (heap_of v) (field_holder o.id f))) e in
          both (is_nil (heap_after h) (field_holder l.q.id n)) (each_below n (λ f. is_nil (heap_after h) (field_holder l.q.id f))) (nil_now i o here duty l n all.0) (nils n all.1)
