-- A weak hand is dropped: the weak count of the entry goes down, and the last one leaves the entry to the thread.
use Rattle.std.proofs.Common.{◌≡◌, inl, ℕ, suc, ◌<◌, ◌==◌, Bool, true, false, cond, List, [], ◌∷◌, length, Some, None, refl, sym, ap, ◌∙◌, subst, arith}
use Rattle.std.specs.Prelude.{find, is_some, ◌||◌}
use Rattle.arc_model.specs.declared.event.Act.{Act}
use Rattle.arc_model.specs.declared.event.Act.TheVariants as acts
use Rattle.arc_model.specs.declared.shape.Kind.{Kind}
use Rattle.arc_model.specs.declared.shape.Kind.TheVariants as kinds
use Rattle.arc_model.specs.Shapes.{HeapShape}
use Rattle.arc_model.specs.Heaps.{Holder, Hand, Unowneds, Object, Heap}
use Rattle.arc_model.specs.Holders.{same_holder, is_in, is_alone, without, holds, kind_in, list_of, with_list, is_claimed_by, change}
use Rattle.arc_model.specs.Cells.{holders_of, holders_with}
use Rattle.arc_model.specs.Effects.{ended_if, given_up, entry_left, entry_of_last, entry_to}
use Rattle.arc_model.specs.Needs.{needs, passes, same_bool}
use Rattle.arc_model.specs.WellFormed.{tally, IsWhole, live, deiniting, deinited, vacating, going, freed, dead}
use Rattle.arc_model.specs.History.{History, heap_after, sight, IsLegal}
use Rattle.arc_model.specs.Lookup.{spot, is_cell}
use Rattle.arc_model.proofs.Basics.{true≢false, empty-is, none-strong}
use Rattle.arc_model.proofs.Tally.{same-eq}
use Rattle.arc_model.proofs.Turns.{IsPut, put-found}
use Rattle.arc_model.proofs.Courses.{well_formed}
use Rattle.arc_rule.specs.declared.layout.Place.TheVariants as places
use Rattle.arc_rule.specs.Places.{extent_of, number}
use Rattle.arc_rule.specs.Shown.{Says}
use Rattle.arc_view.specs.declared.view.View.{View}
use Rattle.arc_view.specs.Holding.{At}
use Rattle.arc_view.proofs.Advance.{Good}
use Rattle.arc_view.proofs.Bridge.{Before}
use Rattle.arc_view.proofs.Classes.{in_shape_stays}
use Rattle.arc_view.proofs.Own.{work_own}
use Rattle.arc_view.proofs.Put.{place_same}
use Rattle.arc_view.proofs.Strongs.{none_fails, no_hand, in_without, length_without, same_true, alone_one}
use Rattle.arc_view.proofs.Relist.{IsRelisted}
use Rattle.arc_view.proofs.Turned.{event_of, Turned, entry_good}
use Rattle.arc_view.proofs.Growing.{listed, found, kind_is}
use Rattle.arc_view.proofs.Rising.{entry_now}
use Rattle.arc_view.proofs.LastWeak.{IsFreed, none_left, freed_good}

-- the one holder of a list
pub alone_is : (z : Holder) (xs : List Holder) → is_in z xs ≡ true → is_alone xs ≡ true → xs ≡ z ∷ []
alone_is z [] in_it alone = absurd (true≢false (sym alone))
alone_is z (x ∷ []) in_it alone = ap (λ y. y ∷ []) (sym (same-eq z x (or_none (same_holder z x) in_it)))
  where
    or_none : (t : Bool) → (t || false) ≡ true → t ≡ true
    or_none true e = refl
    or_none false e = e
alone_is z (x ∷ y ∷ xs) in_it alone = absurd (true≢false (sym alone))

pub without_alone : (z : Holder) (xs : List Holder) → is_in z xs ≡ true → is_alone xs ≡ true → without z xs ≡ []
without_alone z [] in_it alone = refl
without_alone z (x ∷ []) in_it alone = by (same_holder z x) in_it
  where
    by : (t : Bool) → (t || false) ≡ true → cond t [] (x ∷ []) ≡ []
    by true e = refl
    by false e = absurd (true≢false (sym e))
without_alone z (x ∷ y ∷ xs) in_it alone = absurd (true≢false (sym alone))

-- no list but the weak one has a holder, and the object has no slot
pub record IsBare (o : Object) : Type 0 where
  pub strong : o.strong ≡ []
  pub unowned : o.unowned ≡ []
  pub slot : o.slot ≡ None

-- an object whose one weak holder is a hand
hand_alone : (shape : HeapShape) (p k : ℕ) (o : Object) → IsWhole shape o → o.weak ≡ Hand p k ∷ [] → IsBare o
hand_alone shape p k o whole alone = by whole
  where
    one : {A : Type 0} → tally Unowneds o.weak ≡ 1 → A
    one is = absurd (let none : tally Unowneds o.weak ≡ 0 = ap (tally Unowneds) alone in omega (arith, is, none))

    by : IsWhole shape o → IsBare o
    by (live s d l a b p) = one b
    by (deiniting s d l a b p) = one b
    by (deinited s d l a u b p) = one b
    by (vacating s d l u b p) = one b
    by (going s d l u b e) = one b
    by (freed s d l u b w e) = record { strong = (none-strong shape o s).0; unowned = empty-is o.unowned u; slot = l }
    by (dead s d l u w e) = record { strong = (none-strong shape o s).0; unowned = empty-is o.unowned u; slot = l }

-- a weak hand of the view
module _ (shape : HeapShape) (v : View) (h : History) (b : Before shape v h) (k i : ℕ) (o : Object) (at : spot (Hand v.number k) (heap_after h) ≡ Some (record { place = i; kind = kinds.Weak })) (here : At (heap_after h) i o)
    (owes : v.working.owes ≡ None) (no_access : v.working.access ≡ None) where
  abbrev heap : Heap
  heap = heap_after h

  abbrev z : Holder
  z = Hand v.number k

  in_list : is_in z o.weak ≡ true
  in_list = listed shape v h b k i kinds.Weak o at here owes

  found_here : find (holds z) heap.objects ≡ Some o
  found_here = found shape v h b k i kinds.Weak o at here owes

  weak_is : kind_in z o ≡ kinds.Weak
  weak_is = kind_is shape v h b k i kinds.Weak o at here owes

  module _ (last : Bool) (last_is : last ≡ is_alone o.weak) where
    abbrev act : Act
    act = acts.Drop k last

    abbrev fewer : Heap
    fewer = change (holds z) (given_up v.number z last) heap

    abbrev q : Object
    q = ended_if last v.number kinds.Weak (record o { weak = without z o.weak })

    heap_is : entry_to v.number (entry_of_last last kinds.Weak o) fewer ≡ heap_after (event_of v act ∷ h)
    heap_is = ap (λ m. entry_to v.number m fewer) (sym (ap (entry_left z last) found_here ∙ ap (λ kk. entry_of_last last kk o) weak_is))

    put : IsPut heap.objects fewer.objects o q
    put = subst (IsPut heap.objects fewer.objects o) (ap (λ kk. ended_if last v.number kk (with_list kk (without z) o)) weak_is) (put-found (holds z) (given_up v.number z last) heap.objects o found_here)

    legal : IsLegal shape (event_of v act ∷ h)
    legal = (
      none_fails (needs shape (sight v.number h) v.number act) (
        ap is_some found_here,
        (ap (passes (λ r. same_bool last (is_alone (holders_with shape z r)))) found_here ∙ (ap (λ kk. same_bool last (is_alone (holders_of shape kk o))) weak_is ∙ (ap (same_bool last) (sym last_is) ∙ same_true last)), tt),
      ),
      b.legal,
    )

  -- others are left
  module _ (more : false ≡ is_alone o.weak) where
    abbrev less : Object
    less = record o { weak = without z o.weak }

    relisted : IsRelisted o less
    relisted = record { id = refl; class = refl; entry = refl; slot = λ s e. e; cells = in_lists; leads = λ y c _. place_same (kind_in y o) o less refl refl }
      where
        in_lists : (j : Kind) (y : Holder) → is_cell y ≡ true → is_in y (list_of j less) ≡ is_in y (list_of j o)
        in_lists kinds.Strong y c = refl
        in_lists kinds.Unowned y c = refl
        in_lists kinds.Weak y c = in_without y z o.weak (no_hand y v.number k c)

    turned : Turned shape v h (acts.Drop k false) o less
    turned = record {
      legal = legal false more;
      in_shape = in_shape_stays shape (event_of v (acts.Drop k false)) h (legal false more) refl refl refl b.in_shape;
      put = subst (λ (g : Heap). IsPut heap.objects g.objects o less) (heap_is false more) (put false more);
      claims = ap (λ (g : Heap). g.claims) (sym (heap_is false more));
      relisted = relisted;
      slot = refl;
      work = work_own shape (event_of v (acts.Drop k false)) h v.working (legal false more) refl (λ m claim. ap (is_claimed_by v.number m) (sym (heap_is false more)) ∙ claim) (inl no_access) owes b.work;
    }

    other_lists : (j : Kind) → (j ≡ kinds.Weak → ⊥) → length (list_of j less) ≡ length (list_of j o)
    other_lists kinds.Strong ne = refl
    other_lists kinds.Unowned ne = refl
    other_lists kinds.Weak ne = absurd (ne refl)

    fewer_good : (e x w : ℕ) → o.entry ≡ Some e → e < shape.entries → Says shape heap (places.Weak e) x → x ≡ suc w → Good shape v h (number (extent_of shape) (places.Weak e)) x w (Some (acts.Drop k false)) v.working
    fewer_good e x w entry lt says one_more =
        let now = entry_now shape v h b i o here kinds.Weak e x entry says in
        entry_good shape v h b (acts.Drop k false) i o less here turned owes kinds.Weak e entry lt other_lists x w
        (let long = now.0 in let shorter = length_without z o.weak in_list in omega (arith, long, one_more, shorter)) (let cap = now.1 in omega (arith, cap, one_more))

  -- none is left
  module _ (alone : true ≡ is_alone o.weak) (e : ℕ) (entry : o.entry ≡ Some e) where
    abbrev none : Object
    none = record o { weak = without z o.weak; entry = None }

    bare : IsBare o
    bare = hand_alone shape v.number k o ((well_formed shape h b.legal).whole i o here) (alone_is z o.weak in_list (sym alone))

    claimed_is : entry_to v.number (Some e) (fewer true alone) ≡ heap_after (event_of v (acts.Drop k true) ∷ h)
    claimed_is = ap (λ m. entry_to v.number m (fewer true alone)) (sym entry) ∙ heap_is true alone

    is_freed : IsFreed shape v h (acts.Drop k true) e o none
    is_freed = record {
      legal = legal true alone;
      in_shape = in_shape_stays shape (event_of v (acts.Drop k true)) h (legal true alone) refl refl refl b.in_shape;
      put = subst (λ (g : Heap). IsPut heap.objects g.objects o none) claimed_is (put true alone);
      claims = ap (λ (g : Heap). g.claims) (sym claimed_is);
      entry = entry;
      left = refl;
      was_slotless = bare.slot;
      slotless = bare.slot;
      keeps = none_left z o none (λ y c. no_hand y v.number k c) bare.strong bare.unowned (alone_is z o.weak in_list (sym alone)) refl refl refl refl (without_alone z o.weak in_list (sym alone));
      ends_duty = refl;
      hands = inl no_access;
    }

  pub weak_drop_good : (e x w : ℕ) → o.entry ≡ Some e → e < shape.entries → Says shape heap (places.Weak e) x → x ≡ suc w → Good shape v h (number (extent_of shape) (places.Weak e)) x w (Some (acts.Drop k (x == 1))) v.working
  weak_drop_good e x w entry lt says one_more = by (x == 1) (ap (λ n. n == 1) (entry_now shape v h b i o here kinds.Weak e x entry says).0 ∙ sym (alone_one o.weak))
    where
      by : (last : Bool) → last ≡ is_alone o.weak → Good shape v h (number (extent_of shape) (places.Weak e)) x w (Some (acts.Drop k last)) v.working
      by true alone = freed_good shape v h b (acts.Drop k true) e i o (none alone e entry) here (is_freed alone e entry) lt owes x w
      by false more = fewer_good more e x w entry lt says one_more
