-- One holder more in a list of the object that a hand of the view, or a cell, leads to: what a copy makes of it, and what changes nothing.
use Rattle.std.proofs.Common.{◌≡◌, inr, ℕ, suc, ◌≤◌, ◌==◌, true, false, cond, List, [], ◌∷◌, ◌++◌, length, Some, None, refl, sym, ap, ◌∙◌, subst, arith, eq-eqb, length-append, le_trans}
use Rattle.std.specs.Prelude.{find, not, ◌&&◌}
use Rattle.arc_model.specs.declared.event.Act.{Act}
use Rattle.arc_model.specs.declared.event.Act.TheVariants as acts
use Rattle.arc_model.specs.declared.event.Origin.{Origin}
use Rattle.arc_model.specs.declared.event.Origin.TheVariants as origins
use Rattle.arc_model.specs.declared.event.CellName.TheVariants as cells
use Rattle.arc_model.specs.declared.shape.Kind.{Kind}
use Rattle.arc_model.specs.declared.shape.Kind.TheVariants as kinds
use Rattle.arc_model.specs.Shapes.{HeapShape}
use Rattle.arc_model.specs.Heaps.{Holder, Hand, Object, Heap}
use Rattle.arc_model.specs.Holders.{is_in, gains, lists, with_last, with_list, holds, kind_in, list_of, list_with, is_claimed_by}
use Rattle.arc_model.specs.Cells.{origin, is_immortal}
use Rattle.arc_model.specs.Needs.{Need, needs, has, passes, has_room}
use Rattle.arc_model.specs.WellFormed.{held, is_own}
use Rattle.arc_model.specs.History.{History, heap_after, next_hand, sight, IsLegal}
use Rattle.arc_model.specs.Own.{ends, ends_hand}
use Rattle.arc_model.specs.Heaps.{Deinit}
use Rattle.arc_model.specs.Lookup.{spot, is_cell}
use Rattle.arc_model.proofs.Basics.{AreMet, Some-inj}
use Rattle.arc_model.proofs.Tally.{both, in-tally, tally-out, gains-present, gains-absent}
use Rattle.arc_model.proofs.Turns.{IsPut, put-found}
use Rattle.arc_model.proofs.Builds.{total-holds}
use Rattle.arc_model.proofs.Courses.{well_formed}
use Rattle.arc_model.proofs.Others.{lookup_after}
use Rattle.arc_view.specs.declared.view.View.{View}
use Rattle.arc_view.specs.Holding.{At}
use Rattle.arc_view.specs.Rule.{is_new}
use Rattle.arc_view.proofs.Bridge.{Before, next_same}
use Rattle.arc_view.proofs.Within.{is_claim}
use Rattle.arc_view.proofs.Classes.{is_swap, in_shape_stays}
use Rattle.arc_view.proofs.Own.{work_own}
use Rattle.arc_view.proofs.Put.{place_same}
use Rattle.arc_view.proofs.Strongs.{none_fails, no_hand, in_push}
use Rattle.arc_view.proofs.Relist.{IsRelisted}
use Rattle.arc_view.proofs.Turned.{event_of, Turned}

abbrev pub grown : Kind → Holder → Object → Object
grown kind y o = with_list kind (with_last y) o

pub same_kind : {A : Type 0} (k : Kind) → (k ≡ k → ⊥) → A
same_kind k ne = absurd (ne refl)

-- cells stand where they stood
in_grown : (kind k : Kind) (p n : ℕ) (o : Object) (z : Holder) → is_cell z ≡ true → is_in z (list_of k (grown kind (Hand p n) o)) ≡ is_in z (list_of k o)
in_grown kinds.Strong kinds.Strong p n o z c = in_push z (Hand p n) o.strong (no_hand z p n c)
in_grown kinds.Strong kinds.Unowned p n o z c = refl
in_grown kinds.Strong kinds.Weak p n o z c = refl
in_grown kinds.Unowned kinds.Strong p n o z c = refl
in_grown kinds.Unowned kinds.Unowned p n o z c = in_push z (Hand p n) o.unowned (no_hand z p n c)
in_grown kinds.Unowned kinds.Weak p n o z c = refl
in_grown kinds.Weak kinds.Strong p n o z c = refl
in_grown kinds.Weak kinds.Unowned p n o z c = refl
in_grown kinds.Weak kinds.Weak p n o z c = in_push z (Hand p n) o.weak (no_hand z p n c)

pub grown_relisted : (kind : Kind) (p n : ℕ) (o : Object) → IsRelisted o (grown kind (Hand p n) o)
grown_relisted kind p n o = by kind
  where
    by : (kind : Kind) → IsRelisted o (grown kind (Hand p n) o)
    by kinds.Strong = record { id = refl; class = refl; entry = refl; slot = λ s e. e; cells = λ k z c. in_grown kinds.Strong k p n o z c; leads = λ z c _. place_same (kind_in z o) o (grown kinds.Strong (Hand p n) o) refl refl }
    by kinds.Unowned = record { id = refl; class = refl; entry = refl; slot = λ s e. e; cells = λ k z c. in_grown kinds.Unowned k p n o z c; leads = λ z c _. place_same (kind_in z o) o (grown kinds.Unowned (Hand p n) o) refl refl }
    by kinds.Weak = record { id = refl; class = refl; entry = refl; slot = λ s e. e; cells = λ k z c. in_grown kinds.Weak k p n o z c; leads = λ z c _. place_same (kind_in z o) o (grown kinds.Weak (Hand p n) o) refl refl }

pub grown_slot : (kind : Kind) (y : Holder) (o : Object) → (grown kind y o).slot ≡ o.slot
grown_slot kinds.Strong y o = refl
grown_slot kinds.Unowned y o = refl
grown_slot kinds.Weak y o = refl

-- one list grows by one, and the others stay
pub grown_length : (kind : Kind) (y : Holder) (o : Object) → length (list_of kind (grown kind y o)) ≡ suc (length (list_of kind o))
grown_length kinds.Strong y o = omega (arith, length-append o.strong (y ∷ []))
grown_length kinds.Unowned y o = omega (arith, length-append o.unowned (y ∷ []))
grown_length kinds.Weak y o = omega (arith, length-append o.weak (y ∷ []))

pub other_length : (kind k : Kind) (y : Holder) (o : Object) → (k ≡ kind → ⊥) → length (list_of k (grown kind y o)) ≡ length (list_of k o)
other_length kinds.Strong kinds.Strong y o ne = same_kind kinds.Strong ne
other_length kinds.Strong kinds.Unowned y o ne = refl
other_length kinds.Strong kinds.Weak y o ne = refl
other_length kinds.Unowned kinds.Strong y o ne = refl
other_length kinds.Unowned kinds.Unowned y o ne = same_kind kinds.Unowned ne
other_length kinds.Unowned kinds.Weak y o ne = refl
other_length kinds.Weak kinds.Strong y o ne = refl
other_length kinds.Weak kinds.Unowned y o ne = refl
other_length kinds.Weak kinds.Weak y o ne = same_kind kinds.Weak ne

same_relisted : (o : Object) → IsRelisted o o
same_relisted o = record { id = refl; class = refl; entry = refl; slot = λ s e. e; cells = λ k z c. refl; leads = λ z c _. refl }

-- what an act must be that changes nothing else of what the pass has
pub record IsMild (act : Act) : Type 0 where
  pub makes : is_new act ≡ false
  pub swaps : is_swap act ≡ false
  pub claims : is_claim act ≡ false
  pub ends_duty : ends Deinit act ≡ false

-- what is needed of where a reference is taken from is met
abbrev pub IsHad : HeapShape → Heap → ℕ → Origin → Type 0
IsHad shape heap p from = (more : List Need) → AreMet more → AreMet (has shape heap p from ++ more)

pub origin_own : (heap : Heap) (p : ℕ) (from : Origin) → is_own (origin heap p from) ≡ true
origin_own heap p (origins.Hand k) = refl
origin_own heap p (origins.Cell (cells.Field s f)) = refl
origin_own heap p (origins.Cell (cells.Global g)) = refl

-- where a reference is taken from: a hand of the view, or a cell, which stands in a list of the object
module _ (shape : HeapShape) (v : View) (h : History) (b : Before shape v h) (from : Origin) (i : ℕ) (kind : Kind) (o : Object) (at : spot (origin (heap_after h) v.number from) (heap_after h) ≡ Some (record { place = i; kind = kind })) (here : At (heap_after h) i o)
    (owes : v.working.owes ≡ None) where
  abbrev heap : Heap
  heap = heap_after h

  abbrev z : Holder
  z = origin heap v.number from

  abbrev pub n : ℕ
  n = next_hand v.number v.seen

  abbrev pub y : Holder
  y = Hand v.number n

  own : is_own z ≡ true
  own = origin_own heap v.number from

  pub listed : is_in z (list_of kind o) ≡ true
  listed = let l = (lookup_after shape h z b.legal own).there (record { place = i; kind = kind }) at in subst (λ (r : Object). is_in z (list_of kind r) ≡ true) (Some-inj (sym l.1 ∙ here)) l.3

  pub found : find (holds z) heap.objects ≡ Some o
  found = let l = (lookup_after shape h z b.legal own).there (record { place = i; kind = kind }) at in l.2 ∙ (sym l.1 ∙ here)

  once : held z o ≤ 1
  once = le_trans (total-holds (held z) heap.objects _ o o (put-found (holds z) (λ r. r) heap.objects o found)) ((well_formed shape h b.legal).once z own)

  -- it is in no other list
  apart : (j : Kind) → (j ≡ kind → ⊥) → is_in z (list_of j o) ≡ false
  apart j ne = by kind j listed ne
    where
      by : (kind j : Kind) → is_in z (list_of kind o) ≡ true → (j ≡ kind → ⊥) → is_in z (list_of j o) ≡ false
      by kinds.Strong kinds.Strong h ne = same_kind kinds.Strong ne
      by kinds.Strong kinds.Unowned h ne = let t = in-tally z o.strong h in tally-out z o.unowned (omega (arith, t, once))
      by kinds.Strong kinds.Weak h ne = let t = in-tally z o.strong h in tally-out z o.weak (omega (arith, t, once))
      by kinds.Unowned kinds.Strong h ne = let t = in-tally z o.unowned h in tally-out z o.strong (omega (arith, t, once))
      by kinds.Unowned kinds.Unowned h ne = same_kind kinds.Unowned ne
      by kinds.Unowned kinds.Weak h ne = let t = in-tally z o.unowned h in tally-out z o.weak (omega (arith, t, once))
      by kinds.Weak kinds.Strong h ne = let t = in-tally z o.weak h in tally-out z o.strong (omega (arith, t, once))
      by kinds.Weak kinds.Unowned h ne = let t = in-tally z o.weak h in tally-out z o.unowned (omega (arith, t, once))
      by kinds.Weak kinds.Weak h ne = same_kind kinds.Weak ne

  pub kind_is : kind_in z o ≡ kind
  kind_is = by kind listed (λ j ne. apart j ne)
    where
      by : (t : Kind) → is_in z (list_of t o) ≡ true → ((j : Kind) → (j ≡ t → ⊥) → is_in z (list_of j o) ≡ false) → kind_in z o ≡ t
      by kinds.Strong h none = ap (λ t. cond t kinds.Strong (cond (is_in z o.unowned) kinds.Unowned kinds.Weak)) h
      by kinds.Unowned h none = ap (λ t. cond t kinds.Strong (cond (is_in z o.unowned) kinds.Unowned kinds.Weak)) (none kinds.Strong (λ e. cc)) ∙ ap (λ t. cond t kinds.Unowned kinds.Weak) h
      by kinds.Weak h none = ap (λ t. cond t kinds.Strong (cond (is_in z o.unowned) kinds.Unowned kinds.Weak)) (none kinds.Strong (λ e. cc)) ∙ ap (λ t. cond t kinds.Unowned kinds.Weak) (none kinds.Unowned (λ e. cc))

  -- what a copy makes of the object
  gained : lists (gains z y) o ≡ grown kind y o
  gained = by kind listed (λ j ne. apart j ne)
    where
      by : (t : Kind) → is_in z (list_of t o) ≡ true → ((j : Kind) → (j ≡ t → ⊥) → is_in z (list_of j o) ≡ false) → lists (gains z y) o ≡ grown t y o
      by kinds.Strong h none = λ j. record o {
        strong = gains-present z y o.strong h j;
        unowned = gains-absent z y o.unowned (none kinds.Unowned (λ e. cc)) j;
        weak = gains-absent z y o.weak (none kinds.Weak (λ e. cc)) j;
      }
      by kinds.Unowned h none = λ j. record o {
        strong = gains-absent z y o.strong (none kinds.Strong (λ e. cc)) j;
        unowned = gains-present z y o.unowned h j;
        weak = gains-absent z y o.weak (none kinds.Weak (λ e. cc)) j;
      }
      by kinds.Weak h none = λ j. record o {
        strong = gains-absent z y o.strong (none kinds.Strong (λ e. cc)) j;
        unowned = gains-absent z y o.unowned (none kinds.Unowned (λ e. cc)) j;
        weak = gains-present z y o.weak h j;
      }

  pub turned_of : (act : Act) (q : Object) → IsMild act → ((m : ℕ) → ends_hand m act ≡ true → ⊥) → IsLegal shape (event_of v act ∷ h) → IsPut heap.objects (heap_after (event_of v act ∷ h)).objects o q
      → (heap_after (event_of v act ∷ h)).claims ≡ heap.claims → IsRelisted o q → q.slot ≡ o.slot → Turned shape v h act o q
  turned_of act q mild hands legal put claims relisted slot = record {
    legal = legal;
    in_shape = in_shape_stays shape (event_of v act) h legal mild.makes mild.swaps mild.claims b.in_shape;
    put = put;
    claims = claims;
    relisted = relisted;
    slot = slot;
    work = work_own shape (event_of v act) h v.working legal mild.ends_duty (λ m claim. ap (λ cs. is_claimed_by v.number m (record heap { claims = cs })) claims ∙ claim) (inr hands) owes b.work;
  }

  pub is_next : (n == next_hand v.number h) ≡ true
  is_next = eq-eqb n (next_hand v.number h) (next_same shape v h b)

  -- a copy
  pub copied : IsHad shape heap v.number from → has_room shape o (list_of kind o) ≡ true → Turned shape v h (acts.Copy from n) o (grown kind y o)
  copied had room = turned_of (acts.Copy from n) (grown kind y o) (record { makes = refl; swaps = refl; claims = refl; ends_duty = refl }) (λ m e. cc) (
    none_fails (needs shape (sight v.number h) v.number (acts.Copy from n))
        (had _ (is_next, (ap (passes (λ r. has_room shape r (list_with z r))) found ∙ (ap (λ t. has_room shape o (list_of t o)) kind_is ∙ room), tt))),
    b.legal,
  )
      (subst (IsPut heap.objects (heap_after (event_of v (acts.Copy from n) ∷ h)).objects o) gained (put-found (holds z) (lists (gains z y)) heap.objects o found)) refl (grown_relisted kind v.number n o) (grown_slot kind y o)

  -- an act that changes nothing
  pub unchanged : (act : Act) → IsMild act → ((m : ℕ) → ends_hand m act ≡ true → ⊥) → IsLegal shape (event_of v act ∷ h) → heap_after (event_of v act ∷ h) ≡ heap → Turned shape v h act o o
  unchanged act mild hands legal same =
      let g = put-found (holds z) (λ r. r) heap.objects o found in
      turned_of act o mild hands legal (record { before = g.before; after = g.after; old = g.old; new = ap (λ (m : Heap). m.objects) same ∙ g.old }) (ap (λ (m : Heap). m.claims) same) (same_relisted o) refl

  -- a count stands at its greatest
  pub full : IsHad shape heap v.number from → (list : Kind) → is_immortal shape o ≡ false → length (list_of list o) ≡ shape.caps.wide → Turned shape v h (acts.CountFull list from) o o
  full had list mortal long = unchanged (acts.CountFull list from) (record { makes = refl; swaps = refl; claims = refl; ends_duty = refl }) (λ m e. cc) (
    none_fails (needs shape (sight v.number h) v.number (acts.CountFull list from)) (had _ (
      ap (passes (λ r. not (is_immortal shape r) && length (list_of list r) == shape.caps.wide)) found
          ∙ both (not (is_immortal shape o)) (length (list_of list o) == shape.caps.wide) (ap (λ t. not t) mortal) (eq-eqb (length (list_of list o)) shape.caps.wide long),
      tt,
    )),
    b.legal,
  ) refl
