-- One holder more in a list of an object of which the view has a hand: references made from a strong hand, and loads.
use Rattle.std.proofs.Common.{◌≡◌, ℕ, ◌==◌, Bool, true, false, ◌∷◌, Some, None, refl, ap, ◌∙◌, subst}
use Rattle.std.specs.Prelude.{find, is_some, not, ◌||◌, ◌&&◌}
use Rattle.arc_model.specs.declared.event.Act.{Act}
use Rattle.arc_model.specs.declared.event.Act.TheVariants as acts
use Rattle.arc_model.specs.declared.event.Got.TheVariants as got
use Rattle.arc_model.specs.declared.event.Origin.TheVariants as origins
use Rattle.arc_model.specs.declared.shape.Kind.{Kind}
use Rattle.arc_model.specs.declared.shape.Kind.TheVariants as kinds
use Rattle.arc_model.specs.Shapes.{HeapShape}
use Rattle.arc_model.specs.Heaps.{Holder, Hand, Object, Heap}
use Rattle.arc_model.specs.Holders.{is_in, with_last, with_list, holds, kind_in, list_of}
use Rattle.arc_model.specs.Cells.{is_live}
use Rattle.arc_model.specs.Needs.{needs, passes, has_room}
use Rattle.arc_model.specs.History.{History, heap_after, next_hand, sight, IsLegal}
use Rattle.arc_model.specs.Own.{ends_hand}
use Rattle.arc_model.specs.Lookup.{spot}
use Rattle.arc_model.proofs.Tally.{both}
use Rattle.arc_model.proofs.Turns.{IsPut, put-found}
use Rattle.arc_view.specs.declared.view.View.{View}
use Rattle.arc_view.specs.Holding.{At}
use Rattle.arc_view.proofs.Bridge.{Before}
use Rattle.arc_view.proofs.Strongs.{none_fails}
use Rattle.arc_view.proofs.Relist.{IsRelisted}
use Rattle.arc_view.proofs.Turned.{event_of, Turned}
use Rattle.arc_view.proofs.Gaining as gaining
use Rattle.arc_view.proofs.Gaining.{same_kind, grown_relisted, IsMild}
pub use Rattle.arc_view.proofs.Gaining.{grown, grown_length, other_length}

-- a hand of the view in a list of the object
module _ (shape : HeapShape) (v : View) (h : History) (b : Before shape v h) (k i : ℕ) (kind : Kind) (o : Object) (at : spot (Hand v.number k) (heap_after h) ≡ Some (record { place = i; kind = kind })) (here : At (heap_after h) i o) (owes : v.working.owes ≡ None) where
  abbrev heap : Heap
  heap = heap_after h

  abbrev z : Holder
  z = Hand v.number k

  abbrev pub n : ℕ
  n = next_hand v.number v.seen

  abbrev pub y : Holder
  y = Hand v.number n

  pub listed : is_in z (list_of kind o) ≡ true
  listed = gaining.listed shape v h b (origins.Hand k) i kind o at here owes

  pub found : find (holds z) heap.objects ≡ Some o
  found = gaining.found shape v h b (origins.Hand k) i kind o at here owes

  pub kind_is : kind_in z o ≡ kind
  kind_is = gaining.kind_is shape v h b (origins.Hand k) i kind o at here owes

  turned_of : (act : Act) (q : Object) → IsMild act → ((m : ℕ) → ends_hand m act ≡ true → ⊥) → IsLegal shape (event_of v act ∷ h) → IsPut heap.objects (heap_after (event_of v act ∷ h)).objects o q
      → (heap_after (event_of v act ∷ h)).claims ≡ heap.claims → IsRelisted o q → q.slot ≡ o.slot → Turned shape v h act o q
  turned_of = gaining.turned_of shape v h b (origins.Hand k) i kind o at here owes

  is_next : (n == next_hand v.number h) ≡ true
  is_next = gaining.is_next shape v h b (origins.Hand k) i kind o at here owes

  unchanged : (act : Act) → IsMild act → ((m : ℕ) → ends_hand m act ≡ true → ⊥) → IsLegal shape (event_of v act ∷ h) → heap_after (event_of v act ∷ h) ≡ heap → Turned shape v h act o o
  unchanged = gaining.unchanged shape v h b (origins.Hand k) i kind o at here owes

  -- a reference that is made from a strong hand
  pub unowned_made : kind ≡ kinds.Strong → has_room shape o o.unowned ≡ true → Turned shape v h (acts.UnownedOf k n) o (grown kinds.Unowned y o)
  unowned_made strong room = turned_of (acts.UnownedOf k n) (grown kinds.Unowned y o) (record { makes = refl; swaps = refl; claims = refl; ends_duty = refl }) (λ m e. cc) (
    none_fails (needs shape (sight v.number h) v.number (acts.UnownedOf k n)) (
      ap (passes (λ r. is_in z r.strong)) found ∙ subst (λ t. is_in z (list_of t o) ≡ true) strong listed,
      (is_next, (ap (passes (λ r. has_room shape r r.unowned)) found ∙ room, tt)),
    ),
    b.legal,
  )
      (put-found (holds z) (with_list kinds.Unowned (with_last y)) heap.objects o found) refl (grown_relisted kinds.Unowned v.number n o) refl

  pub weak_made : kind ≡ kinds.Strong → is_some o.entry ≡ true → has_room shape o o.weak ≡ true → Turned shape v h (acts.WeakOf k n) o (grown kinds.Weak y o)
  weak_made strong entry room = turned_of (acts.WeakOf k n) (grown kinds.Weak y o) (record { makes = refl; swaps = refl; claims = refl; ends_duty = refl }) (λ m e. cc) (
    none_fails (needs shape (sight v.number h) v.number (acts.WeakOf k n)) (
      ap (passes (λ r. is_in z r.strong)) found ∙ subst (λ t. is_in z (list_of t o) ≡ true) strong listed,
      (ap (passes (λ r. is_some r.entry)) found ∙ entry, (is_next, (ap (passes (λ r. has_room shape r r.weak)) found ∙ room, tt))),
    ),
    b.legal,
  )
      (put-found (holds z) (with_list kinds.Weak (with_last y)) heap.objects o found) refl (grown_relisted kinds.Weak v.number n o) refl

  -- the hand isn't strong, so that it may be loaded
  may_load : (kind ≡ kinds.Strong → ⊥) → (is_in z o.unowned || is_in z o.weak) ≡ true
  may_load ne = by kind listed ne
    where
      or_true : (s : Bool) → (s || true) ≡ true
      or_true true = refl
      or_true false = refl

      by : (t : Kind) → is_in z (list_of t o) ≡ true → (t ≡ kinds.Strong → ⊥) → (is_in z o.unowned || is_in z o.weak) ≡ true
      by kinds.Strong h ne = same_kind kinds.Strong ne
      by kinds.Unowned h ne = ap (λ s. s || is_in z o.weak) h
      by kinds.Weak h ne = ap (λ s. is_in z o.unowned || s) h ∙ or_true (is_in z o.unowned)

  pub loaded : (kind ≡ kinds.Strong → ⊥) → is_live shape o ≡ true → has_room shape o o.strong ≡ true → Turned shape v h (acts.Load k (got.Hand n)) o (grown kinds.Strong y o)
  loaded ne live room = turned_of (acts.Load k (got.Hand n)) (grown kinds.Strong y o) (record { makes = refl; swaps = refl; claims = refl; ends_duty = refl }) (λ m e. cc) (
    none_fails (needs shape (sight v.number h) v.number (acts.Load k (got.Hand n))) (
      ap (passes (λ r. is_in z r.unowned || is_in z r.weak)) found ∙ may_load ne,
      (is_next, (ap (passes (λ r. is_live shape r && has_room shape r r.strong)) found ∙ both (is_live shape o) (has_room shape o o.strong) live room, tt)),
    ),
    b.legal,
  )
      (put-found (holds z) (with_list kinds.Strong (with_last y)) heap.objects o found) refl (grown_relisted kinds.Strong v.number n o) refl

  -- the object of an unowned hand, or of a weak one, has no strong holder
  pub refused_dead : kind ≡ kinds.Unowned → is_live shape o ≡ false → Turned shape v h (acts.Load k got.Dead) o o
  refused_dead unowned dead = unchanged (acts.Load k got.Dead) (record { makes = refl; swaps = refl; claims = refl; ends_duty = refl }) (λ m e. cc) (
    none_fails (needs shape (sight v.number h) v.number (acts.Load k got.Dead)) (
      ap (passes (λ r. is_in z r.unowned)) found ∙ subst (λ t. is_in z (list_of t o) ≡ true) unowned listed,
      (ap (passes (λ r. not (is_live shape r))) found ∙ ap (λ t. not t) dead, tt),
    ),
    b.legal,
  ) refl

  pub refused_nil : kind ≡ kinds.Weak → is_live shape o ≡ false → Turned shape v h (acts.Load k got.Nil) o o
  refused_nil weak dead = unchanged (acts.Load k got.Nil) (record { makes = refl; swaps = refl; claims = refl; ends_duty = refl }) (λ m e. cc) (
    none_fails (needs shape (sight v.number h) v.number (acts.Load k got.Nil)) (
      ap (passes (λ r. is_in z r.weak)) found ∙ subst (λ t. is_in z (list_of t o) ≡ true) weak listed,
      (ap (passes (λ r. not (is_live shape r))) found ∙ ap (λ t. not t) dead, tt),
    ),
    b.legal,
  ) refl
