-- An unowned hand is dropped, on an inline word or in an entry.
use Rattle.std.proofs.Common.{◌≡◌, inl, ℕ, suc, ◌+◌, ◌-◌, ◌<◌, ◌≤◌, Bool, true, false, List, [], ◌∷◌, length, Some, None, refl, sym, ap, ◌∙◌, subst, arith}
use Rattle.std.specs.Prelude.{find, is_some, ◌||◌}
use Rattle.arc_bits.specs.declared.packing.Inline.{Inline}
use Rattle.arc_bits.specs.declared.packing.Word.TheVariants.{Counts}
use Rattle.arc_bits.specs.Words.{counts_word, IsWordOf}
use Rattle.arc_bits.specs.Moves.{unowned_less}
use Rattle.arc_model.specs.declared.event.Act.{Act}
use Rattle.arc_model.specs.declared.event.Act.TheVariants as acts
use Rattle.arc_model.specs.declared.shape.Kind.{Kind}
use Rattle.arc_model.specs.declared.shape.Kind.TheVariants as kinds
use Rattle.arc_model.specs.Shapes.{HeapShape}
use Rattle.arc_model.specs.Heaps.{Holder, Hand, Strongs, Object, Heap}
use Rattle.arc_model.specs.Holders.{same_holder, is_in, is_empty, is_alone, without, holds, kind_in, list_of, with_list, is_claimed_by, change}
use Rattle.arc_model.specs.Cells.{is_immortal, holders_of, holders_with}
use Rattle.arc_model.specs.Effects.{ended_if, given_up, entry_left, entry_of_last, entry_to}
use Rattle.arc_model.specs.Needs.{needs, passes, same_bool}
use Rattle.arc_model.specs.History.{History, heap_after, sight, IsLegal}
use Rattle.arc_model.specs.Lookup.{spot, is_cell}
use Rattle.arc_model.proofs.Basics.{true≢false}
use Rattle.arc_model.proofs.Tally.{same-eq, tally-in}
use Rattle.arc_model.proofs.Turns.{IsPut, put-found}
use Rattle.arc_model.proofs.Courses.{well_formed}
use Rattle.arc_model.proofs.Stages.{live-facts, immortal-live}
use Rattle.arc_rule.specs.declared.layout.Place.TheVariants as places
use Rattle.arc_rule.specs.declared.layout.Place.TheVariants.{Count}
use Rattle.arc_rule.specs.Places.{extent_of, number}
use Rattle.arc_rule.specs.Shown.{Says, IsHeader, counts_in}
use Rattle.arc_view.specs.declared.view.View.{View}
use Rattle.arc_view.specs.Holding.{At}
use Rattle.arc_view.proofs.Advance.{Good}
use Rattle.arc_view.proofs.Bridge.{Before}
use Rattle.arc_view.proofs.Classes.{in_shape_stays}
use Rattle.arc_view.proofs.Own.{work_own}
use Rattle.arc_view.proofs.Put.{place_same}
use Rattle.arc_view.proofs.Lasting.{immortal_same, header_inline}
use Rattle.arc_view.proofs.Counting.{Counted, counts_mortal}
use Rattle.arc_view.proofs.Strongs.{none_fails, no_hand, in_without, length_without, same_true}
use Rattle.arc_view.proofs.Relist.{IsRelisted}
use Rattle.arc_view.proofs.Turned.{event_of, Turned, inline_good, entry_good}
use Rattle.arc_view.proofs.Growing.{listed, found, kind_is}
use Rattle.arc_view.proofs.Rising.{inline_now, counted_now, entry_now, forever_good}

-- the object after the drop of an unowned holder
abbrev pub shrunk : ℕ → Holder → Bool → Object → Object
shrunk p z last o = ended_if last p kinds.Unowned (record o { unowned = without z o.unowned })

record Shrunk (p k : ℕ) (o q : Object) : Type 0 where
  pub slot : q.slot ≡ o.slot
  pub strong : q.strong ≡ o.strong
  pub unowned : q.unowned ≡ without (Hand p k) o.unowned
  pub weak : q.weak ≡ o.weak
  pub relisted : IsRelisted o q

shrunk_is : (p k : ℕ) (last : Bool) (o : Object) → Shrunk p k o (shrunk p (Hand p k) last o)
shrunk_is p k last o = by last
  where
    in_list : (q : Object) → q.strong ≡ o.strong → q.unowned ≡ without (Hand p k) o.unowned → q.weak ≡ o.weak → (j : Kind) (z : Holder) → is_cell z ≡ true → is_in z (list_of j q) ≡ is_in z (list_of j o)
    in_list q s u w kinds.Strong z c = ap (is_in z) s
    in_list q s u w kinds.Unowned z c = ap (is_in z) u ∙ in_without z (Hand p k) o.unowned (no_hand z p k c)
    in_list q s u w kinds.Weak z c = ap (is_in z) w

    by : (last : Bool) → Shrunk p k o (shrunk p (Hand p k) last o)
    by true = record {
      slot = refl;
      strong = refl;
      unowned = refl;
      weak = refl;
      relisted = record { id = refl; class = refl; entry = refl; slot = λ s e. e; cells = in_list (shrunk p (Hand p k) true o) refl refl refl; leads = λ z c _. place_same (kind_in z o) o (shrunk p (Hand p k) true o) refl refl };
    }
    by false = record {
      slot = refl;
      strong = refl;
      unowned = refl;
      weak = refl;
      relisted = record { id = refl; class = refl; entry = refl; slot = λ s e. e; cells = in_list (shrunk p (Hand p k) false o) refl refl refl; leads = λ z c _. place_same (kind_in z o) o (shrunk p (Hand p k) false o) refl refl };
    }

left_none : (last : Bool) (o : Object) → entry_of_last last kinds.Unowned o ≡ None
left_none true o = refl
left_none false o = refl

-- a list with a hand and Strongs isn't of one holder
two_holders : (p k : ℕ) (xs : List Holder) → is_in (Hand p k) xs ≡ true → is_in Strongs xs ≡ true → is_alone xs ≡ false
two_holders p k [] mine strongs = absurd (true≢false (sym mine))
two_holders p k (x ∷ []) mine strongs = absurd (no_hand_is (same-eq (Hand p k) x (one (Hand p k) mine) ∙ sym (same-eq Strongs x (one Strongs strongs))))
  where
    one : (z : Holder) → is_in z (x ∷ []) ≡ true → same_holder z x ≡ true
    one z h = by (same_holder z x) h
      where
        by : (t : Bool) → (t || false) ≡ true → t ≡ true
        by true h = refl
        by false h = h

    no_hand_is : Hand p k ≡ Strongs → ⊥
    no_hand_is e = cc
two_holders p k (x ∷ w ∷ xs) mine strongs = refl

-- an unowned hand of the view
module _ (shape : HeapShape) (v : View) (h : History) (b : Before shape v h) (k i : ℕ) (o : Object) (at : spot (Hand v.number k) (heap_after h) ≡ Some (record { place = i; kind = kinds.Unowned })) (here : At (heap_after h) i o)
    (owes : v.working.owes ≡ None) (no_access : v.working.access ≡ None) (last : Bool) (last_is : last ≡ is_alone o.unowned) where
  abbrev heap : Heap
  heap = heap_after h

  abbrev z : Holder
  z = Hand v.number k

  abbrev act : Act
  act = acts.Drop k last

  abbrev q : Object
  q = shrunk v.number z last o

  is : Shrunk v.number k o q
  is = shrunk_is v.number k last o

  in_list : is_in z o.unowned ≡ true
  in_list = listed shape v h b k i kinds.Unowned o at here owes

  found_here : find (holds z) heap.objects ≡ Some o
  found_here = found shape v h b k i kinds.Unowned o at here owes

  unowned_is : kind_in z o ≡ kinds.Unowned
  unowned_is = kind_is shape v h b k i kinds.Unowned o at here owes

  abbrev fewer : Heap
  fewer = change (holds z) (given_up v.number z last) heap

  heap_is : fewer ≡ heap_after (event_of v act ∷ h)
  heap_is = ap (λ m. entry_to v.number m fewer) (sym (ap (entry_left z last) found_here ∙ (ap (λ kk. entry_of_last last kk o) unowned_is ∙ left_none last o)))

  put : IsPut heap.objects fewer.objects o q
  put = subst (IsPut heap.objects fewer.objects o) (ap (λ kk. ended_if last v.number kk (with_list kk (without z) o)) unowned_is) (put-found (holds z) (given_up v.number z last) heap.objects o found_here)

  legal : IsLegal shape (event_of v act ∷ h)
  legal = (
    none_fails (needs shape (sight v.number h) v.number act) (
      ap is_some found_here,
      (ap (passes (λ r. same_bool last (is_alone (holders_with shape z r)))) found_here ∙ (ap (λ kk. same_bool last (is_alone (holders_of shape kk o))) unowned_is ∙ (ap (same_bool last) (sym last_is) ∙ same_true last)), tt),
    ),
    b.legal,
  )

  turned : Turned shape v h act o q
  turned = record {
    legal = legal;
    in_shape = in_shape_stays shape (event_of v act) h legal refl refl refl b.in_shape;
    put = subst (λ (g : Heap). IsPut heap.objects g.objects o q) heap_is put;
    claims = ap (λ (g : Heap). g.claims) (sym heap_is);
    relisted = is.relisted;
    slot = is.slot;
    work = work_own shape (event_of v act) h v.working legal refl (λ m claim. ap (is_claimed_by v.number m) (sym heap_is) ∙ claim) (inl no_access) owes b.work;
  }

  shorter : suc (length q.unowned) ≡ length o.unowned
  shorter = ap (λ xs. suc (length xs)) is.unowned ∙ length_without z o.unowned in_list

  other_lists : (j : Kind) → (j ≡ kinds.Unowned → ⊥) → length (list_of j q) ≡ length (list_of j o)
  other_lists kinds.Strong ne = ap length is.strong
  other_lists kinds.Unowned ne = absurd (ne refl)
  other_lists kinds.Weak ne = ap length is.weak

  pub unowned_entry_good : (e x w : ℕ) → o.entry ≡ Some e → e < shape.entries → Says shape heap (places.Unowned e) x → x ≡ suc w → Good shape v h (number (extent_of shape) (places.Unowned e)) x w (Some act) v.working
  unowned_entry_good e x w entry lt says one_more =
      let now = entry_now shape v h b i o here kinds.Unowned e x entry says in
      entry_good shape v h b act i o q here turned owes kinds.Unowned e entry lt other_lists x w (let long = now.0 in omega (arith, long, one_more, shorter)) (let cap = now.1 in omega (arith, cap, one_more))

  pub unowned_forever_good : (s x : ℕ) → o.slot ≡ Some s → s < shape.slots → x ≡ 1 → is_immortal shape o ≡ true → Good shape v h (number (extent_of shape) (Count s)) x x (Some act) v.working
  unowned_forever_good s x slot lt one forever = forever_good shape v h b i o here act owes q turned s x slot lt one forever

  -- the object has no entry, and its inline word shows these counts
  pub unowned_down_good : (s x : ℕ) (c : Inline) → o.slot ≡ Some s → s < shape.slots → IsWordOf (Counts c) x → Says shape heap (Count s) x → Good shape v h (number (extent_of shape) (Count s)) x (counts_word (unowned_less c)) (Some act) v.working
  unowned_down_good s x c slot lt word says = inline_good shape v h b act i o q here turned owes s slot lt counted.entry x (counts_word (unowned_less c))
      (header_inline shape q (counts_word (unowned_less c)) mortal (subst (λ m. IsHeader shape q m (counts_word (unowned_less c))) (sym (is.relisted.entry ∙ counted.entry)) header))
    where
      counted : Counted shape o c
      counted = counted_now shape v h b i o here s x c slot says word

      mortal : is_immortal shape q ≡ false
      mortal = immortal_same shape o q is.relisted.class ∙ counts_mortal shape o c x (inline_now shape v h b i o here s x slot says) word

      counts : counts_in q ≡ unowned_less c
      counts = λ j. record {
        strong_extra = (ap (λ xs. length xs - 1) is.strong ∙ ap (λ (d : Inline). d.strong_extra) counted.counts) j;
        unowned = (let long = ap (λ (d : Inline). d.unowned) counted.counts in let e : length q.unowned ≡ c.unowned - 1 = omega (arith, shorter, long) in e) j;
        deiniting = (ap is_empty is.strong ∙ ap (λ (d : Inline). d.deiniting) counted.counts) j;
      }

      header : IsHeader shape q None (counts_word (unowned_less c))
      header = (ap counts_word (sym counts), subst (λ xs. length xs ≤ shape.caps.strong + 1) (sym is.strong) counted.strong_cap, (let cap = counted.unowned_cap in omega (arith, shorter, cap)))

-- an immortal object has another unowned holder than a hand
pub forever_two : (shape : HeapShape) (v : View) (h : History) (b : Before shape v h) (k i : ℕ) (o : Object) → spot (Hand v.number k) (heap_after h) ≡ Some (record { place = i; kind = kinds.Unowned }) → At (heap_after h) i o
    → v.working.owes ≡ None → is_immortal shape o ≡ true → is_alone o.unowned ≡ false
forever_two shape v h b k i o at here owes forever =
    let f = live-facts o ((well_formed shape h b.legal).whole i o here) (immortal-live shape o forever) in
    two_holders v.number k o.unowned (listed shape v h b k i kinds.Unowned o at here owes) (tally-in Strongs o.unowned (let one = f.strongs in omega (arith, one)))
