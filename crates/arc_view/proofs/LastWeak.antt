-- The last weak holder, which is no cell, leaves an object that has no slot: its entry is the thread's then.
use Rattle.std.proofs.Common.{◌≡◌, ◌≢◌, ◌⊎◌, inr, ⊎_elim, ℕ, ◌<◌, ◌==◌, ◌||◌, ◌&&◌, Bool, true, false, [], ◌∷◌, ◌++◌, Option, Some, None, refl, sym, ap, ◌∙◌, subst, eq-eqb, ne_eqb}
use Rattle.std.specs.Prelude.{find, is_some}
use Rattle.std.specs.List.{list_any}
use Rattle.std.proofs.lemmas.List.Folds.{list_any-append}
use mathlib.Core.Logic.{dite}
use native.Mathlib.Decide.{ℕ_discrete}
use Rattle.arc_model.specs.declared.event.Act.{Act}
use Rattle.arc_model.specs.declared.event.CellName.{CellName}
use Rattle.arc_model.specs.declared.event.CellName.TheVariants as cells
use Rattle.arc_model.specs.declared.shape.Kind.{Kind}
use Rattle.arc_model.specs.declared.shape.Kind.TheVariants as kinds
use Rattle.arc_model.specs.Shapes.{HeapShape}
use Rattle.arc_model.specs.Heaps.{Holder, Claimed, Object, Heap}
use Rattle.arc_model.specs.Holders.{same_holder, is_in, list_of, is_number, in_slot, has_entry, at_slot, at_entry, claims_it, is_slot_taken, is_entry_taken, is_claimed_by}
use Rattle.arc_model.specs.History.{History, heap_after, IsLegal}
use Rattle.arc_model.specs.Lookup.{is_cell}
use Rattle.arc_model.specs.Own.{ends, ends_hand}
use Rattle.arc_model.specs.Heaps.{Deinit}
use Rattle.arc_model.proofs.Basics.{true≢false}
use Rattle.arc_model.proofs.Turns.{IsPut}
use Rattle.arc_model.proofs.Builds.{find-passes}
use Rattle.arc_rule.specs.declared.layout.Place.{Place}
use Rattle.arc_rule.specs.declared.layout.Place.TheVariants as places
use Rattle.arc_rule.specs.Places.{extent_of, number}
use Rattle.arc_rule.specs.Shown.{Says, ShowsCounts, ShowsLink, ShowsHolders}
use Rattle.arc_view.specs.declared.view.View.{View}
use Rattle.arc_view.specs.Views.{cell_place, Excepts}
use Rattle.arc_view.specs.Holding.{At}
use Rattle.arc_view.specs.Rule.{InShape}
use Rattle.arc_view.proofs.Words.{find_put, word_changes}
use Rattle.arc_view.proofs.Advance.{CellKept, Good}
use Rattle.arc_view.proofs.Bridge.{Before}
use Rattle.arc_view.proofs.Lasting.{bits_last}
use Rattle.arc_view.proofs.Own.{work_own}
use Rattle.arc_view.proofs.Plain.{IsPlain, plain_good}
use Rattle.arc_view.proofs.Strongs.{entry_found, entry_unclaimed}
use Rattle.arc_view.proofs.Claims.{claimed_free}
use Rattle.arc_view.proofs.Referring.{KeepsCells, global_says, isa_says, field_same, field_kept, global_kept}
use Rattle.arc_view.proofs.Turned.{event_of}

-- an object that has no holder but a weak one, which is no cell, and loses it
pub none_left : (z : Holder) (o q : Object) → ((y : Holder) → is_cell y ≡ true → same_holder y z ≡ false) → o.strong ≡ [] → o.unowned ≡ [] → o.weak ≡ z ∷ [] → q.id ≡ o.id → q.class ≡ o.class → q.strong ≡ o.strong → q.unowned ≡ o.unowned → q.weak ≡ [] → KeepsCells o q
none_left z o q apart strong unowned weak id class strong_same unowned_same none = record {
  id = id;
  class = class;
  cells = in_lists;
  leads = λ y c held. absurd (true≢false (sym held ∙ (ap (λ xs. is_in y xs || is_in y o.unowned || is_in y o.weak) strong ∙ (ap (λ xs. is_in y xs || is_in y o.weak) unowned ∙ not_weak y c))));
}
  where
    not_weak : (y : Holder) → is_cell y ≡ true → is_in y o.weak ≡ false
    not_weak y c = ap (is_in y) weak ∙ ap (λ t. t || false) (apart y c)

    in_lists : (k : Kind) (y : Holder) → is_cell y ≡ true → is_in y (list_of k q) ≡ is_in y (list_of k o)
    in_lists kinds.Strong y c = ap (is_in y) strong_same
    in_lists kinds.Unowned y c = ap (is_in y) unowned_same
    in_lists kinds.Weak y c = ap (is_in y) none ∙ sym (not_weak y c)

-- the act of the pass makes q of o, whose entry it claims
pub record IsFreed (shape : HeapShape) (v : View) (h : History) (act : Act) (e : ℕ) (o q : Object) : Type 0 where
  pub legal : IsLegal shape (event_of v act ∷ h)
  pub in_shape : InShape shape (event_of v act ∷ h)
  pub put : IsPut (heap_after h).objects (heap_after (event_of v act ∷ h)).objects o q
  pub claims : (heap_after (event_of v act ∷ h)).claims ≡ (heap_after h).claims ++ record { thread = v.number; entry = e } ∷ []
  pub entry : o.entry ≡ Some e
  pub left : q.entry ≡ None
  pub was_slotless : o.slot ≡ None
  pub slotless : q.slot ≡ None
  pub keeps : KeepsCells o q
  pub ends_duty : ends Deinit act ≡ false
  pub hands : (v.working.access ≡ None) ⊎ ((k : ℕ) → ends_hand k act ≡ true → ⊥)

module _ (shape : HeapShape) (v : View) (h : History) (b : Before shape v h) (act : Act) (e i : ℕ) (o q : Object) (here : At (heap_after h) i o) (f : IsFreed shape v h act e o q) where
  abbrev heap : Heap
  heap = heap_after h

  abbrev new : Heap
  new = heap_after (event_of v act ∷ h)

  abbrev mine : Claimed
  mine = record { thread = v.number; entry = e }

  -- a search that o doesn't pass, nor q, finds what it found
  found_same : (test : Object → Bool) → test o ≡ false → test q ≡ false → find test new.objects ≡ find test heap.objects
  found_same test was is = ⊎_elim
      (λ (t : (find test heap.objects ≡ Some o) × (find test new.objects ≡ Some q)). absurd (true≢false (sym (find-passes test heap.objects o t.0) ∙ was)))
      (λ same. same)
      (find_put test heap.objects new.objects o q f.put (is ∙ sym was))

  slot_same : (t : ℕ) → at_slot t new ≡ at_slot t heap
  slot_same t = found_same (in_slot t) (ap (λ m. is_number m t) f.was_slotless) (ap (λ m. is_number m t) f.slotless)

  other_entry : (n : ℕ) → n ≢ e → at_entry n new ≡ at_entry n heap
  other_entry n ne = found_same (has_entry n) (ap (λ m. is_number m n) f.entry ∙ ne_eqb e n (λ is. ne (sym is))) (ap (λ m. is_number m n) f.left)

  claimed_or : (test : Claimed → Bool) → list_any test new.claims ≡ (list_any test heap.claims || (test mine || false))
  claimed_or test = ap (list_any test) f.claims ∙ list_any-append test heap.claims (mine ∷ [])

  claimed_now : is_claimed_by v.number e new ≡ true
  claimed_now = claimed_or (λ (c : Claimed). c.thread == v.number && c.entry == e) ∙ (ap (λ t. is_claimed_by v.number e heap || ((t && e == e) || false)) (eq-eqb v.number v.number refl)
      ∙ (ap (λ t. is_claimed_by v.number e heap || (t || false)) (eq-eqb e e refl) ∙ or_true (is_claimed_by v.number e heap)))
    where
      or_true : (t : Bool) → t || true ≡ true
      or_true true = refl
      or_true false = refl

  entry_none : at_entry e new ≡ None
  entry_none = claimed_free shape (event_of v act ∷ h) v.number e f.legal claimed_now

  -- what is shown of an entry, of which nothing is shown once it is no object's
  entry_shown : (P : Option Object → Type 0) → P None → (n : ℕ) → P (at_entry n heap) → P (at_entry n new)
  entry_shown P nothing n says = dite (ℕ_discrete n e)
      (λ is. subst P (sym (ap (λ m. at_entry m new) is ∙ entry_none)) nothing)
      (λ ne. subst P (sym (other_entry n ne)) says)

  taken_same : (n : ℕ) → is_entry_taken n new ≡ is_entry_taken n heap
  taken_same n = ap (λ t. t || is_some (at_entry n new)) (claimed_or (claims_it n)) ∙ dite (ℕ_discrete n e)
      (λ is. ap (λ t. (list_any (claims_it n) heap.claims || (t || false)) || is_some (at_entry n new)) (eq-eqb e n (sym is))
      ∙ (all_true (list_any (claims_it n) heap.claims) (is_some (at_entry n new)) ∙ sym (ap (λ m. list_any (claims_it n) heap.claims || is_some m) (ap (λ m. at_entry m heap) is ∙ entry_found shape h i e o b.legal here f.entry) ∙ or_true (list_any (claims_it n) heap.claims))))
      (λ ne. ap (λ t. (list_any (claims_it n) heap.claims || (t || false)) || is_some (at_entry n new)) (ne_eqb e n (λ is. ne (sym is)))
      ∙ (ap (λ m. (list_any (claims_it n) heap.claims || false) || is_some m) (other_entry n ne) ∙ none_more (list_any (claims_it n) heap.claims) (is_some (at_entry n heap))))
    where
      or_true : (t : Bool) → t || true ≡ true
      or_true true = refl
      or_true false = refl

      all_true : (t u : Bool) → (t || true) || u ≡ true
      all_true true u = refl
      all_true false u = refl

      none_more : (t u : Bool) → (t || false) || u ≡ t || u
      none_more true u = refl
      none_more false u = refl

  -- what the heap says of every word stays, or it says nothing
  freed_says : (pl : Place) (w : ℕ) → Says shape heap pl w → Says shape new pl w
  freed_says places.Zero w says = says
  freed_says (places.Global g) w says = global_says shape heap new o q f.put f.keeps g w says
  freed_says (places.Count t) w says = subst (λ m. ShowsCounts shape m w) (sym (slot_same t)) says
  freed_says (places.Isa t) w says = isa_says shape heap new o q f.put f.keeps t w (inr (slot_same t)) says
  freed_says (places.Next t) w says = tt
  freed_says (places.Field t g) w says = says ∙ sym (field_same shape heap new o q f.put f.keeps t g (inr (slot_same t)))
  freed_says (places.Link n) w says = entry_shown (λ m. ShowsLink shape m w) tt n says
  freed_says (places.Strong n) w says = entry_shown (λ m. ShowsHolders shape kinds.Strong m w) tt n says
  freed_says (places.Unowned n) w says = entry_shown (λ m. ShowsHolders shape kinds.Unowned m w) tt n says
  freed_says (places.Weak n) w says = entry_shown (λ m. ShowsHolders shape kinds.Weak m w) tt n says
  freed_says (places.SlotBits k) w says = bits_last shape.slots k (λ s. is_slot_taken s heap) (λ s. is_slot_taken s new) w (λ s _. ap is_some (slot_same s)) says
  freed_says (places.EntryBits k) w says = bits_last shape.entries k (λ n. is_entry_taken n heap) (λ n. is_entry_taken n new) w (λ n _. taken_same n) says

  kept : (c : CellName) → CellKept shape heap new c
  kept (cells.Field s g) = field_kept shape heap new o q f.put f.keeps s g (inr (slot_same s))
  kept (cells.Global g) = global_kept shape heap new o q f.put f.keeps g

  plain : IsPlain heap (places.Weak e)
  plain = record { unowned = λ p claim. entry_unclaimed shape h i e p o b.legal here f.entry claim; cell = no_cell }
    where
      no_cell : (c : CellName) → cell_place c ≡ places.Weak e → ⊥
      no_cell (cells.Field t g) is = cc
      no_cell (cells.Global g) is = cc

  stays_claimed : (n : ℕ) → is_claimed_by v.number n heap ≡ true → is_claimed_by v.number n new ≡ true
  stays_claimed n claim = claimed_or (λ (c : Claimed). c.thread == v.number && c.entry == n) ∙ ap (λ t. t || ((v.number == v.number && e == n) || false)) claim

  pub freed_good : e < shape.entries → v.working.owes ≡ None → (x w : ℕ) → Good shape v h (number (extent_of shape) (places.Weak e)) x w (Some act) v.working
  freed_good lt owes x w = plain_good shape v h b (places.Weak e) plain lt x w (Some act) v.working refl owes refl f.legal f.in_shape (λ c there. kept c)
      (work_own shape (event_of v act) h v.working f.legal f.ends_duty stays_claimed f.hands owes b.work)
      (λ Others ws shown. word_changes shape (λ u. Excepts v.working u ⊎ Others u) (λ u. Excepts v.working u ⊎ Others u) heap new ws (places.Weak e) w lt shown
      (λ _. subst (λ m. ShowsHolders shape kinds.Weak m w) (sym entry_none) tt) (λ u ne notE x. notE x) (λ u iu ne _ m says. freed_says u m says))
