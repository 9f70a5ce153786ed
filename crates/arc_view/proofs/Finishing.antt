-- The end of a deinit: the unowned reference that the strong ones held together is taken down, on an inline word or in an entry.
use Rattle.std.proofs.Common.{◌≡◌, ◌≢◌, ◌⊎◌, inl, inr, ⊎_elim, ℕ, suc, ◌+◌, ◌-◌, ◌<◌, ◌≤◌, ◌==◌, Bool, true, false, cond, List, [], ◌∷◌, ◌++◌, map, length, Some, None, refl, sym, ap, ◌∙◌, subst, arith, ne_eqb, eq-eqb}
use Rattle.std.specs.Prelude.{is_some, ◌&&◌}
use Rattle.arc_bits.specs.declared.packing.Inline.{Inline}
use Rattle.arc_bits.specs.declared.packing.Word.TheVariants.{Counts}
use Rattle.arc_bits.specs.Words.{counts_word, IsWordOf}
use Rattle.arc_bits.specs.Moves.{unowned_less}
use Rattle.arc_model.specs.declared.event.Act.TheVariants as acts
use Rattle.arc_model.specs.declared.event.CellName.{CellName}
use Rattle.arc_model.specs.declared.event.CellName.TheVariants as cells
use Rattle.arc_model.specs.declared.event.Event.{Event}
use Rattle.arc_model.specs.declared.shape.Kind.{Kind}
use Rattle.arc_model.specs.declared.shape.Kind.TheVariants as kinds
use Rattle.arc_model.specs.Shapes.{HeapShape}
use Rattle.arc_model.specs.Heaps.{Holder, Hand, Strongs, Deinit, Vacating, Object, Heap}
use Rattle.arc_model.specs.Heaps as holders
use Rattle.arc_model.specs.Holders.{same_holder, is_in, is_empty, is_alone, is_number, without, kind_in, list_of, in_slot, at_slot, at_entry, owes_to}
use Rattle.arc_model.specs.Cells.{is_immortal, are_all_nil}
use Rattle.arc_model.specs.Effects.{finished}
use Rattle.arc_model.specs.Needs.{needs, passes, same_bool}
use Rattle.arc_model.specs.History.{History, heap_after, sight, IsLegal}
use Rattle.arc_model.specs.Lookup.{duty_of, is_cell}
use Rattle.arc_model.proofs.Basics.{None≢Some, Some-inj, true≢false}
use Rattle.arc_model.proofs.Tally.{both, tally-in}
use Rattle.arc_model.proofs.Turns.{IsPut, put-found}
use Rattle.arc_model.proofs.Courses.{well_formed}
use Rattle.arc_model.proofs.Stages.{dying-facts}
use Rattle.arc_model.proofs.Duties.{own_duties}
use Rattle.arc_rule.specs.declared.layout.Place.{Place}
use Rattle.arc_rule.specs.declared.layout.Place.TheVariants as places
use Rattle.arc_rule.specs.declared.layout.Place.TheVariants.{Count, Next}
use Rattle.arc_rule.specs.Places.{IsPlace, extent_of, number}
use Rattle.arc_rule.specs.Shown.{Says, IsHeader, IsInline, ShowsCounts, ShowsHolders, counts_in}
use Rattle.arc_view.specs.declared.view.Stored.{Stored}
use Rattle.arc_view.specs.declared.view.Entered.{Entered}
use Rattle.arc_view.specs.declared.view.Working.{Working}
use Rattle.arc_view.specs.declared.view.View.{View}
use Rattle.arc_view.specs.Views.{Each, kept_next, cell_place, Excepts}
use Rattle.arc_view.specs.Holding.{At}
use Rattle.arc_view.specs.Rule.{IsMine, EnteredFits, WorkFits}
use Rattle.arc_view.specs.Kinds.{but_at, without_slot, without_next}
use Rattle.arc_view.proofs.Lists.{each_cut, each_join}
use Rattle.arc_view.proofs.Words.{find_put, word_changes}
use Rattle.arc_view.proofs.Advance.{IsThere, CellKept, Good}
use Rattle.arc_view.proofs.Bridge.{Before}
use Rattle.arc_view.proofs.Classes.{in_shape_stays}
use Rattle.arc_view.proofs.Own.{entered_after, owner_after, reach_own}
use Rattle.arc_view.proofs.Lasting.{immortal_same, header_inline}
use Rattle.arc_view.proofs.Counting.{Counted, counts_mortal, inline_counts}
use Rattle.arc_view.proofs.Plain.{IsPlain, plain_count, plain_fewer}
use Rattle.arc_view.proofs.Put.{is_number_some, place_same}
use Rattle.arc_view.proofs.Strongs.{none_fails, slot_found, entry_found, entry_unclaimed, put_there, in_without, length_without, same_true, alone_one}
use Rattle.arc_view.proofs.Owed.{duty_parts, owes_it}
use Rattle.arc_view.proofs.Relist.{IsRelisted, SlotStays, Lasts, all_found, relist_says, field_kept, global_kept}

-- the words that stay private: all but the next word of the slot
module _ (at : Place → ℕ) (s : ℕ) (P Q : Stored → Type 0) (keep : (k : Stored) → k.place ≢ Next s → P k → Q k) where
  kept_stored : (ks : List Stored) → Each P ks → Each Q (but_at at (at (Next s)) ks)
  kept_stored [] h = tt
  kept_stored (k ∷ ks) h = go (at k.place == at (Next s)) refl (kept_stored ks h.1)
    where
      go : (b : Bool) → (at k.place == at (Next s)) ≡ b → Each Q (but_at at (at (Next s)) ks) → Each Q (cond b (but_at at (at (Next s)) ks) (k ∷ but_at at (at (Next s)) ks))
      go true is ih = ih
      go false is ih = (keep k (λ same. true≢false (sym (eq-eqb (at k.place) (at (Next s)) (ap at same)) ∙ is)) h.0, ih)

  kept_entered : (es : List Entered) → Each P (map kept_next es) → Each Q (map kept_next (without_slot s es))
  kept_entered [] h = tt
  kept_entered (e ∷ es) h = go (e.slot == s) refl (kept_entered es h.1)
    where
      slot_same : (t u : ℕ) → Next t ≡ Next u → t ≡ u
      slot_same t u e = cc

      go : (b : Bool) → (e.slot == s) ≡ b → Each Q (map kept_next (without_slot s es)) → Each Q (map kept_next (cond b (without_slot s es) (e ∷ without_slot s es)))
      go true is ih = ih
      go false is ih = (keep (kept_next e) (λ same. true≢false (sym (eq-eqb e.slot s (slot_same e.slot s same)) ∙ is)) h.0, ih)

  kept_both : (ks : List Stored) (es : List Entered) → Each P (ks ++ map kept_next es) → Each Q (but_at at (at (Next s)) ks ++ map kept_next (without_slot s es))
  kept_both ks es h = let t = each_cut P ks (map kept_next es) h in each_join Q (but_at at (at (Next s)) ks) (map kept_next (without_slot s es)) (kept_stored ks t.0) (kept_entered es t.1)

-- the deinits that stay entered: those of other slots
kept_deinits : (s : ℕ) (P Q : Entered → Type 0) → ((e : Entered) → e.slot ≢ s → P e → Q e) → (es : List Entered) → Each P es → Each Q (without_slot s es)
kept_deinits s P Q keep [] h = tt
kept_deinits s P Q keep (e ∷ es) h = go (e.slot == s) refl (kept_deinits s P Q keep es h.1)
  where
    go : (b : Bool) → (e.slot == s) ≡ b → Each Q (without_slot s es) → Each Q (cond b (without_slot s es) (e ∷ without_slot s es))
    go true is ih = ih
    go false is ih = (keep e (λ same. true≢false (sym (eq-eqb e.slot s same) ∙ is)) h.0, ih)

-- no exception ends
kept_exceptions : (at : Place → ℕ) (s : ℕ) (w : Working) (pl : Place) → Excepts w pl → Excepts (without_next at s w) pl
kept_exceptions at s w places.Zero e = e
kept_exceptions at s w (places.Global g) e = e
kept_exceptions at s w (Count t) e = e
kept_exceptions at s w (places.Isa t) e = e
kept_exceptions at s w (Next t) e = e
kept_exceptions at s w (places.Field t f) e = e
kept_exceptions at s w (places.Link n) e = e
kept_exceptions at s w (places.Strong n) e = e
kept_exceptions at s w (places.Unowned n) e = e
kept_exceptions at s w (places.Weak n) e = e
kept_exceptions at s w (places.SlotBits n) e = e
kept_exceptions at s w (places.EntryBits n) e = e

-- the object after the finish
no_strongs : (z : Holder) → is_cell z ≡ true → same_holder z Strongs ≡ false
no_strongs (Hand p k) c = refl
no_strongs (holders.Field id f) c = refl
no_strongs (holders.Global g) c = refl
no_strongs Strongs c = absurd (true≢false (sym c))
no_strongs holders.Unowneds c = refl
no_strongs holders.Forever c = refl

record Finished (o q : Object) : Type 0 where
  pub slot : q.slot ≡ o.slot
  pub entry : q.entry ≡ o.entry
  pub strong : q.strong ≡ o.strong
  pub unowned : q.unowned ≡ without Strongs o.unowned
  pub weak : q.weak ≡ o.weak
  pub relisted : IsRelisted o q

finished_is : (p : ℕ) (last : Bool) (o : Object) → Finished o (finished p last o)
finished_is p last o = by last
  where
    in_list : (q : Object) → q.strong ≡ o.strong → q.unowned ≡ without Strongs o.unowned → q.weak ≡ o.weak → (k : Kind) (z : Holder) → is_cell z ≡ true → is_in z (list_of k q) ≡ is_in z (list_of k o)
    in_list q s u w kinds.Strong z c = ap (is_in z) s
    in_list q s u w kinds.Unowned z c = ap (is_in z) u ∙ in_without z Strongs o.unowned (no_strongs z c)
    in_list q s u w kinds.Weak z c = ap (is_in z) w

    by : (last : Bool) → Finished o (finished p last o)
    by true = record {
      slot = refl;
      entry = refl;
      strong = refl;
      unowned = refl;
      weak = refl;
      relisted = record { id = refl; class = refl; entry = refl; slot = λ s e. e; cells = in_list (finished p true o) refl refl refl; leads = λ z c _. place_same (kind_in z o) o (finished p true o) refl refl };
    }
    by false = record {
      slot = refl;
      entry = refl;
      strong = refl;
      unowned = refl;
      weak = refl;
      relisted = record { id = refl; class = refl; entry = refl; slot = λ s e. e; cells = in_list (finished p false o) refl refl refl; leads = λ z c _. place_same (kind_in z o) o (finished p false o) refl refl };
    }

-- The deinit of the object is owed, and its fields are nil.
module _ (shape : HeapShape) (v : View) (h : History) (b : Before shape v h) (i s : ℕ) (o : Object) (here : At (heap_after h) i o) (slot : o.slot ≡ Some s) (duty : duty_of v.number i (heap_after h) ≡ Some Deinit) (nil : are_all_nil shape (heap_after h) o ≡ true) (last : Bool) where
  abbrev heap : Heap
  heap = heap_after h

  abbrev event : Event
  event = record { thread = v.number; act = acts.Finish s last }

  abbrev new : Heap
  new = heap_after (event ∷ h)

  abbrev q : Object
  q = finished v.number last o

  is : Finished o q
  is = finished_is v.number last o

  found : at_slot s heap ≡ Some o
  found = slot_found shape h i s o b.legal here slot

  put : IsPut heap.objects new.objects o q
  put = put-found (in_slot s) (finished v.number last) heap.objects o found

  listed : is_in Strongs o.unowned ≡ true
  listed = let f = dying-facts o ((well_formed shape h b.legal).whole i o here) (duty_parts h v.number i Deinit o here duty).1 in tally-in Strongs o.unowned (let one = f.strongs in omega (arith, one))

  shorter : suc (length q.unowned) ≡ length o.unowned
  shorter = ap (λ xs. suc (length xs)) is.unowned ∙ length_without Strongs o.unowned listed

  legal : last ≡ is_alone o.unowned → IsLegal shape (event ∷ h)
  legal last_is = (
    none_fails (needs shape (sight v.number h) v.number event.act) (
      ap is_some found,
      (
        ap (passes (λ r. owes_to v.number Deinit r && are_all_nil shape heap r)) found ∙ both (owes_to v.number Deinit o) (are_all_nil shape heap o) (owes_it h v.number i Deinit o here duty) nil,
        (ap (passes (λ r. same_bool last (is_alone r.unowned))) found ∙ (ap (same_bool last) (sym last_is) ∙ same_true last), tt),
      ),
    ),
    b.legal,
  )

  slot_put : (t : ℕ) → SlotStays shape heap new o q put refl is.relisted t
  slot_put t = find_put (in_slot t) heap.objects new.objects o q put (ap (λ m. is_number m t) is.slot)

  kept : (c : CellName) → IsThere heap c → CellKept shape heap new c
  kept (cells.Field t f) there = field_kept shape heap new o q put refl is.relisted t f (slot_put t)
  kept (cells.Global g) there = global_kept shape heap new o q put refl is.relisted g

  -- the deinits of other objects are owed still
  other_duty : last ≡ is_alone o.unowned → (j : ℕ) (r : Object) (t : ℕ) → t ≢ s → At heap j r → r.slot ≡ Some t → duty_of v.number j heap ≡ Some Deinit → duty_of v.number j new ≡ Some Deinit
  other_duty last_is j r t ne at in_it owed =
      own_duties shape h event j (legal last_is)
      ∙ (ap (λ (p : Bool). cond p (cond last (Some Vacating) None) (duty_of v.number j heap)) (ap (passes (in_slot s)) at ∙ (ap (λ m. is_number m s) in_it ∙ ne_eqb t s ne)) ∙ owed)

  abbrev work : Working
  work = without_next (number (extent_of shape)) s v.working

  still_mine : last ≡ is_alone o.unowned → (k : Stored) → k.place ≢ Next s → IsMine shape heap v.number k → IsMine shape new v.number k
  still_mine last_is k ne m = (
    m.0,
    owner_after shape event h v.number k.place (legal last_is)
        (λ t j r is_next at in_it owed. other_duty last_is j r t (λ same. ne (is_next ∙ ap Next same)) at (is_number_some r.slot t in_it) owed)
        (λ n claim. claim) m.1,
  )

  finish_fits : last ≡ is_alone o.unowned → v.working.owes ≡ None → WorkFits shape v.number (event ∷ h) work
  finish_fits last_is owes = record {
    owing = λ t owed. absurd (None≢Some t (sym owes ∙ owed));
    reaches = λ a begun. let r = b.work.reaches a begun in (r.0, reach_own shape event h a.cell (legal last_is) (λ k e. true≢false (sym e)) r.1);
    private = kept_both (number (extent_of shape)) s (IsMine shape heap v.number) (IsMine shape new v.number) (still_mine last_is) v.working.stored v.working.entered b.work.private;
    entered = kept_deinits s (EnteredFits shape v.number h) (EnteredFits shape v.number (event ∷ h))
        (λ z ne f. entered_after shape event h v.number z (legal last_is) f (other_duty last_is f.place f.object z.slot ne f.here f.slot f.duty))
        v.working.entered b.work.entered;
  }

  -- on whatever word counts the list
  finish_at : (pl : Place) (x w : ℕ) → IsPlain heap pl → IsPlace (extent_of shape) pl → last ≡ is_alone o.unowned → v.working.owes ≡ None
      → ((u : Place) → u ≢ pl → Lasts shape heap new o q put refl is.relisted u) → Says shape new pl w
      → Good shape v h (number (extent_of shape) pl) x w (Some (acts.Finish s last)) work
  finish_at pl x w plain inside last_is owes elsewhere says = plain_fewer shape v h b pl plain inside x w (Some (acts.Finish s last)) work refl owes
      (λ P. kept_both (number (extent_of shape)) s P P (λ k ne p. p) v.working.stored v.working.entered)
      (legal last_is)
      (in_shape_stays shape event h (legal last_is) refl refl refl b.in_shape)
      kept
      (finish_fits last_is owes)
      (λ Others ws shown. word_changes shape (λ u. Excepts v.working u ⊎ Others u) (λ u. Excepts work u ⊎ Others u) heap new ws pl w inside shown (λ _. says)
      (λ u ne notF. ⊎_elim (λ e. notF (inl (kept_exceptions (number (extent_of shape)) s v.working u e))) (λ e. notF (inr e)))
      (λ u iu ne _ m t. relist_says shape heap new o q put refl is.relisted u (all_found shape heap new o q put refl is.relisted slot_put u) (elsewhere u ne) m t))

  -- the object has no entry, and its inline word shows these counts
  module _ (c : Inline) (x : ℕ) (lt : s < shape.slots) (word : IsWordOf (Counts c) x) (says : Says shape (heap_after h) (Count s) x) (is_last : last ≡ (c.unowned == 1)) where
    inline : IsInline (is_immortal shape o) shape o x
    inline = subst (λ m. ShowsCounts shape m x) found says

    mortal : is_immortal shape q ≡ false
    mortal = immortal_same shape o q is.relisted.class ∙ counts_mortal shape o c x inline word

    counted : Counted shape o c
    counted = inline_counts shape o c x b.sized inline word

    unowned_is : length o.unowned ≡ c.unowned
    unowned_is = ap (λ (d : Inline). d.unowned) counted.counts

    last_is : last ≡ is_alone o.unowned
    last_is = is_last ∙ (ap (λ n. n == 1) (sym unowned_is) ∙ sym (alone_one o.unowned))

    elsewhere : (u : Place) → u ≢ Count s → Lasts shape heap new o q put refl is.relisted u
    elsewhere places.Zero ne = tt
    elsewhere (places.Global g) ne = tt
    elsewhere (Count t) ne = λ in_it. absurd (ne (ap Count (Some-inj (sym in_it ∙ slot))))
    elsewhere (places.Isa t) ne = tt
    elsewhere (Next t) ne = tt
    elsewhere (places.Field t f) ne = tt
    elsewhere (places.Link n) ne = inl is.slot
    elsewhere (places.Strong n) ne = λ has. absurd (None≢Some n (sym counted.entry ∙ has))
    elsewhere (places.Unowned n) ne = λ has. absurd (None≢Some n (sym counted.entry ∙ has))
    elsewhere (places.Weak n) ne = λ has. absurd (None≢Some n (sym counted.entry ∙ has))
    elsewhere (places.SlotBits n) ne = tt
    elsewhere (places.EntryBits n) ne = tt

    counts_after : counts_in q ≡ unowned_less c
    counts_after = λ j. record {
      strong_extra = (ap (λ xs. length xs - 1) is.strong ∙ ap (λ (d : Inline). d.strong_extra) counted.counts) j;
      unowned = (let e : length q.unowned ≡ c.unowned - 1 = omega (arith, shorter, unowned_is) in e) j;
      deiniting = (ap is_empty is.strong ∙ ap (λ (d : Inline). d.deiniting) counted.counts) j;
    }

    header_after : IsHeader shape q None (counts_word (unowned_less c))
    header_after = (
      ap counts_word (sym counts_after),
      subst (λ xs. length xs ≤ shape.caps.strong + 1) (sym is.strong) counted.strong_cap,
      (let cap = counted.unowned_cap in omega (arith, shorter, cap)),
    )

    pub finish_good : v.working.owes ≡ None → Good shape v h (number (extent_of shape) (Count s)) x (counts_word (unowned_less c)) (Some (acts.Finish s last)) work
    finish_good owes =
        let t = put_there heap.objects new.objects o q put in
        let there : at_slot s new ≡ Some q = slot_found shape (event ∷ h) t.0 s q (legal last_is) t.1 (is.slot ∙ slot) in
        finish_at (Count s) x (counts_word (unowned_less c)) (plain_count heap s) lt last_is owes elsewhere
        (subst (λ m. ShowsCounts shape m (counts_word (unowned_less c))) (sym there) (header_inline shape q (counts_word (unowned_less c)) mortal (subst (λ m. IsHeader shape q m (counts_word (unowned_less c))) (sym (is.entry ∙ counted.entry)) header_after)))

  -- the object has an entry, whose unowned word counts the list
  module _ (e x : ℕ) (entry : o.entry ≡ Some e) (lt : e < shape.entries) (says : Says shape (heap_after h) (places.Unowned e) x) (is_last : last ≡ (x == 1)) where
    entry_says : (x ≡ length o.unowned) × (x ≤ shape.caps.wide)
    entry_says = subst (λ m. ShowsHolders shape kinds.Unowned m x) (entry_found shape h i e o b.legal here entry) says

    last_in_entry : last ≡ is_alone o.unowned
    last_in_entry = is_last ∙ (ap (λ n. n == 1) entry_says.0 ∙ sym (alone_one o.unowned))

    elsewhere_entry : (u : Place) → u ≢ places.Unowned e → Lasts shape heap new o q put refl is.relisted u
    elsewhere_entry places.Zero ne = tt
    elsewhere_entry (places.Global g) ne = tt
    elsewhere_entry (Count t) ne = λ in_it. inl (e, entry)
    elsewhere_entry (places.Isa t) ne = tt
    elsewhere_entry (Next t) ne = tt
    elsewhere_entry (places.Field t f) ne = tt
    elsewhere_entry (places.Link n) ne = inl is.slot
    elsewhere_entry (places.Strong n) ne = λ has. ap length is.strong
    elsewhere_entry (places.Unowned n) ne = λ has. absurd (ne (ap places.Unowned (Some-inj (sym has ∙ entry))))
    elsewhere_entry (places.Weak n) ne = λ has. ap length is.weak
    elsewhere_entry (places.SlotBits n) ne = tt
    elsewhere_entry (places.EntryBits n) ne = tt

    plain_entry : IsPlain heap (places.Unowned e)
    plain_entry = record { unowned = λ r claim. entry_unclaimed shape h i e r o b.legal here entry claim; cell = no_cell }
      where
        no_cell : (c : CellName) → cell_place c ≡ places.Unowned e → ⊥
        no_cell (cells.Field t f) e = cc
        no_cell (cells.Global g) e = cc

    pub finish_entry_good : (w : ℕ) → x ≡ suc w → v.working.owes ≡ None → Good shape v h (number (extent_of shape) (places.Unowned e)) x w (Some (acts.Finish s last)) work
    finish_entry_good w one_more owes =
        let t = put_there heap.objects new.objects o q put in
        let there : at_entry e new ≡ Some q = entry_found shape (event ∷ h) t.0 e q (legal last_in_entry) t.1 (is.entry ∙ entry) in
        finish_at (places.Unowned e) x w plain_entry lt last_in_entry owes elsewhere_entry
        (subst (λ m. ShowsHolders shape kinds.Unowned m w) (sym there) ((let long = entry_says.0 in omega (arith, long, one_more, shorter)), (let cap = entry_says.1 in omega (arith, cap, one_more))))
