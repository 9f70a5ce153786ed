-- An object gets the entry that the view claimed and filled for it: from then on its inline word names the entry, and the entry's words count its lists.
use Rattle.std.proofs.Common.{◌≡◌, ◌≢◌, ◌⊎◌, inl, inr, ⊎_elim, ℕ, suc, ◌+◌, ◌<◌, ◌≤◌, ◌==◌, ◌||◌, ◌&&◌, Bool, true, false, cond, not, List, [], ◌∷◌, map, length, Some, None, refl, sym, ap, ◌∙◌, subst, arith, eq-eqb, ne_eqb}
use Rattle.std.specs.Prelude.{is_some, slice_index}
use Rattle.std.specs.List.{list_any}
use Rattle.std.proofs.lemmas.Bool.{eqb-true}
use mathlib.Core.Logic.{dite}
use native.Mathlib.Decide.{ℕ_discrete}
use Rattle.arc_bits.specs.declared.packing.Inline.{Inline}
use Rattle.arc_bits.specs.declared.packing.Word.TheVariants.{Counts, Slow}
use Rattle.arc_bits.specs.Words.{IsWordOf, packed}
use Rattle.arc_model.specs.declared.event.Act.TheVariants as acts
use Rattle.arc_model.specs.declared.event.CellName.{CellName}
use Rattle.arc_model.specs.declared.event.CellName.TheVariants as cells
use Rattle.arc_model.specs.declared.event.Event.{Event}
use Rattle.arc_model.specs.declared.shape.Kind.{Kind}
use Rattle.arc_model.specs.declared.shape.Kind.TheVariants as kinds
use Rattle.arc_model.specs.Shapes.{HeapShape}
use Rattle.arc_model.specs.Heaps.{Holder, Unowneds, Claimed, Object, Heap}
use Rattle.arc_model.specs.Holders.{is_in, is_empty, is_number, in_slot, has_entry, list_of, at_slot, at_entry, is_slot_taken, is_entry_taken, is_claimed_by, claims_it}
use Rattle.arc_model.specs.Cells.{is_immortal, is_live}
use Rattle.arc_model.specs.Needs.{needs, passes, is_at_cap}
use Rattle.arc_model.specs.History.{History, heap_after, sight, IsLegal}
use Rattle.arc_model.specs.Lookup.{is_cell}
use Rattle.arc_model.specs.References.{place_of}
use Rattle.arc_model.specs.WellFormed.{IsWhole, live, deiniting, deinited, vacating, going, freed, dead}
use Rattle.arc_model.proofs.Basics.{None≢Some, Some-inj, true≢false}
use Rattle.arc_model.proofs.Tally.{both}
use Rattle.arc_model.proofs.Turns.{IsPut, put-found}
use Rattle.arc_model.proofs.Builds.{find-passes}
use Rattle.arc_model.proofs.Courses.{well_formed}
use Rattle.arc_rule.specs.declared.layout.Place.{Place}
use Rattle.arc_rule.specs.declared.layout.Place.TheVariants as places
use Rattle.arc_rule.specs.declared.layout.Place.TheVariants.{Count, Link}
use Rattle.arc_rule.specs.Places.{extent_of, number}
use Rattle.arc_rule.specs.Shown.{Says, ShowsCounts, IsLink, ShowsLink, ShowsHolders, word_at}
use Rattle.arc_view.specs.declared.view.Stored.{Stored}
use Rattle.arc_view.specs.declared.view.Working.{Working}
use Rattle.arc_view.specs.declared.view.View.{View}
use Rattle.arc_view.specs.Views.{Each, kept_next, Excepts}
use Rattle.arc_view.specs.Holding.{At, Owns, word_in}
use Rattle.arc_view.specs.Admission.{IsWhy, strong_in, HasFilled}
use Rattle.arc_view.specs.Rule.{IsWithin, Lies, Lying}
use Rattle.arc_view.proofs.Lists.{each_cut}
use Rattle.arc_view.proofs.Words.{find_put, word_changes_so, slot_found}
use Rattle.arc_view.proofs.Within.{each_at}
use Rattle.arc_view.proofs.Advance.{IsThere, CellKept, Good}
use Rattle.arc_view.proofs.Bridge.{Before}
use Rattle.arc_view.proofs.Classes.{in_shape_stays}
use Rattle.arc_view.proofs.Own.{duty_own, next_after, work_kept}
use Rattle.arc_view.proofs.Lasting.{bits_last, header_inline}
use Rattle.arc_view.proofs.Counting.{Counted, counts_mortal}
use Rattle.arc_view.proofs.Plain.{plain_count, plain_named}
use Rattle.arc_view.proofs.Put.{is_number_some}
use Rattle.arc_view.proofs.Vacating.{no_unowneds}
use Rattle.arc_view.proofs.Strongs.{none_fails, entry_found, put_there, empty_length}
use Rattle.arc_view.proofs.Referring.{KeepsCells, Found, some_found, global_says, isa_says, field_same, field_kept, global_kept}
use Rattle.arc_view.proofs.Turned.{count_place}
use Rattle.arc_view.proofs.Rising.{some_strong, inline_now, counted_now, counted_live}
use Rattle.arc_view.proofs.Claims.{stored_exceptions}
use Rattle.arc_view.proofs.Unclaiming.{less, fewer, less_fits, claimed_same, mine_still}

-- a word that is kept private lies at its place
pub word_lies : (shape : HeapShape) (ws : List ℕ) (j w : ℕ) (ks : List Stored) → word_in (number (extent_of shape)) j ks ≡ Some w → Each (Lies shape ws) ks → slice_index ws j ≡ w
word_lies shape ws j w [] kept lies = absurd (None≢Some w kept)
word_lies shape ws j w (k ∷ ks) kept lies = dite (ℕ_discrete (number (extent_of shape) k.place) j)
    (λ is. let here = eq-eqb (number (extent_of shape) k.place) j is in let word : Some k.word ≡ Some w = rw here at kept in ap (slice_index ws) (sym is) ∙ (lies.0 ∙ Some-inj word))
    (λ ne. let other = ne_eqb (number (extent_of shape) k.place) j ne in let later : word_in (number (extent_of shape)) j ks ≡ Some w = rw other at kept in word_lies shape ws j w ks later lies.1)

-- a claim of one thread is a claim
claimed_any : (p e : ℕ) (cs : List Claimed) → list_any (λ (c : Claimed). c.thread == p && c.entry == e) cs ≡ true → list_any (claims_it e) cs ≡ true
claimed_any p e [] claim = claim
claimed_any p e (c ∷ cs) claim = go (c.thread == p) (c.entry == e) claim (claimed_any p e cs)
  where
    go : (a t : Bool) → (a && t) || list_any (λ (c : Claimed). c.thread == p && c.entry == e) cs ≡ true → (list_any (λ (c : Claimed). c.thread == p && c.entry == e) cs ≡ true → list_any (claims_it e) cs ≡ true) → t || list_any (claims_it e) cs ≡ true
    go a true claim ih = refl
    go true false claim ih = ih claim
    go false false claim ih = ih claim

-- an object in a slot that has no entry has one weak holder, the one for all its other holders together
unentered_weak : (shape : HeapShape) (s : ℕ) (o : Object) → IsWhole shape o → o.slot ≡ Some s → o.entry ≡ None → o.weak ≡ Unowneds ∷ []
unentered_weak shape s o whole slot none = by whole
  where
    entered : {A : Type 0} → is_some o.entry ≡ true → A
    entered some = absurd (true≢false (sym some ∙ ap is_some none))

    by : IsWhole shape o → o.weak ≡ Unowneds ∷ []
    by (live l d t a u w) = w none
    by (deiniting l d t a u w) = w none
    by (deinited l d t a n u w) = w none
    by (vacating l d t n u w) = w none
    by (going l d t n u some) = entered some
    by (freed l d t n u m some) = entered some
    by (dead l d t n m none) = absurd (None≢Some s (sym t ∙ slot))

-- The object is in the slot, its inline word shows counts, and the view has claimed the entry.
module _ (shape : HeapShape) (v : View) (h : History) (b : Before shape v h) (i s e x : ℕ) (o : Object) (c : Inline) (why : Kind) (here : At (heap_after h) i o) (slot : o.slot ≡ Some s) (claim : is_claimed_by v.number e (heap_after h) ≡ true)
    (word : IsWordOf (Counts c) x) (says : Says shape (heap_after h) (Count s) x) (shows : IsWhy shape why c) (owes : v.working.owes ≡ None) where
  abbrev heap : Heap
  heap = heap_after h

  abbrev event : Event
  event = record { thread = v.number; act = acts.Side s e why }

  abbrev new : Heap
  new = heap_after (event ∷ h)

  abbrev q : Object
  q = record o { entry = Some e }

  counted : Counted shape o c
  counted = counted_now shape v h b i o here s x c slot says word

  mortal : is_immortal shape o ≡ false
  mortal = counts_mortal shape o c x (inline_now shape v h b i o here s x slot says) word

  inside : s < shape.slots
  inside = (each_at (IsWithin shape) heap.objects i o b.in_shape.within here).0 s slot

  found : at_slot s heap ≡ Some o
  found = slot_found shape h i s o b.legal here slot

  put : IsPut heap.objects new.objects o q
  put = put-found (in_slot s) (λ (r : Object). record r { entry = Some e }) heap.objects o found

  weak_one : o.weak ≡ Unowneds ∷ []
  weak_one = unentered_weak shape s o ((well_formed shape h b.legal).whole i o here) slot counted.entry

  -- the counts are those of its lists
  strong_long : length o.strong ≡ strong_in c
  strong_long = by c.deiniting refl
    where
      empty : is_empty o.strong ≡ c.deiniting
      empty = ap (λ (d : Inline). d.deiniting) counted.counts

      by : (t : Bool) → c.deiniting ≡ t → length o.strong ≡ cond t 0 (suc c.strong_extra)
      by true is = eqb-true (length o.strong) 0 (sym (empty_length o.strong) ∙ (empty ∙ is))
      by false is = let some = some_strong o.strong (empty ∙ is) in let long = ap (λ (d : Inline). d.strong_extra) counted.counts in omega (arith, some, long)

  at_cap : (k : Kind) → IsWhy shape k c → is_at_cap shape k o ≡ true
  at_cap kinds.Strong is = both (is_live shape o) (length o.strong == shape.caps.strong + 1) (counted_live shape v h b i o here c counted is.0)
      (eq-eqb (length o.strong) (shape.caps.strong + 1) (let some = some_strong o.strong (ap (λ (d : Inline). d.deiniting) counted.counts ∙ is.0) in let long = ap (λ (d : Inline). d.strong_extra) counted.counts ∙ is.1 in omega (arith, some, long)))
  at_cap kinds.Unowned is = eq-eqb (length o.unowned) shape.caps.unowned (ap (λ (d : Inline). d.unowned) counted.counts ∙ is)
  at_cap kinds.Weak is = counted_live shape v h b i o here c counted is

  legal : IsLegal shape (event ∷ h)
  legal = (
    none_fails (needs shape (sight v.number h) v.number event.act) (
      ap (passes (λ r. not (is_immortal shape r))) found ∙ ap (λ t. not t) mortal,
      (
        claim,
        (
          ap (passes (λ (r : Object). not (is_some r.entry))) found ∙ ap (λ (m : _). not (is_some m)) counted.entry,
          (ap (passes (is_at_cap shape why)) found ∙ at_cap why shows, tt),
        ),
      ),
    ),
    b.legal,
  )

  -- no cell refers to the object weakly
  cells_kept : KeepsCells o q
  cells_kept = record { id = refl; class = refl; cells = same; leads = λ z cell held. leads z cell (is_in z o.strong) (is_in z o.unowned) held }
    where
      same : (k : Kind) (z : Holder) → is_cell z ≡ true → is_in z (list_of k q) ≡ is_in z (list_of k o)
      same kinds.Strong z cell = refl
      same kinds.Unowned z cell = refl
      same kinds.Weak z cell = refl

      weakly : (z : Holder) → is_cell z ≡ true → is_in z o.weak ≡ false
      weakly z cell = ap (is_in z) weak_one ∙ ap (λ t. t || false) (no_unowneds z cell)

      leads : (z : Holder) → is_cell z ≡ true → (a d : Bool) → a || d || is_in z o.weak ≡ true → place_of (cond a kinds.Strong (cond d kinds.Unowned kinds.Weak)) q ≡ place_of (cond a kinds.Strong (cond d kinds.Unowned kinds.Weak)) o
      leads z cell true d held = refl
      leads z cell false true held = refl
      leads z cell false false held = absurd (true≢false (sym held ∙ weakly z cell))

  there : (j : ℕ) × At new j q
  there = put_there heap.objects new.objects o q put

  slot_put : (t : ℕ) → Found o q (at_slot t heap) (at_slot t new)
  slot_put t = find_put (in_slot t) heap.objects new.objects o q put refl

  -- the entry is the object's, and every other is whose it was
  entry_is : at_entry e new ≡ Some q
  entry_is = entry_found shape (event ∷ h) there.0 e q legal there.1 refl

  entry_same : (n : ℕ) → n ≢ e → at_entry n new ≡ at_entry n heap
  entry_same n ne = ⊎_elim
      (λ (f : (at_entry n heap ≡ Some o) × (at_entry n new ≡ Some q)). absurd (None≢Some n (sym counted.entry ∙ is_number_some o.entry n (find-passes (has_entry n) heap.objects o f.0))))
      (λ same. same)
      (find_put (has_entry n) heap.objects new.objects o q put (ne_eqb e n (λ is. ne (sym is)) ∙ sym (ap (λ m. is_number m n) counted.entry)))

  next : (t : ℕ) → Owns heap v.number (places.Next t) → Owns new v.number (places.Next t)
  next t owned = next_after shape event h v.number t legal (λ j r at in_it duty. duty_own shape event h v.number j legal refl duty) owned

  taken_same : (n : ℕ) → is_entry_taken n new ≡ is_entry_taken n heap
  taken_same n = dite (ℕ_discrete n e)
      (λ is. ap (λ m. is_entry_taken m new) is
      ∙ (ap (λ m. list_any (claims_it e) new.claims || is_some m) entry_is ∙ or_true (list_any (claims_it e) new.claims)
      ∙ sym (ap (λ m. is_entry_taken m heap) is ∙ ap (λ t. t || is_some (at_entry e heap)) (claimed_any v.number e heap.claims claim))))
      (λ ne. ap (λ m. list_any (claims_it n) new.claims || is_some m) (entry_same n ne) ∙ ap (λ t. t || is_some (at_entry n heap)) (claimed_same shape v h b e new refl next n ne))
    where
      or_true : (t : Bool) → t || true ≡ true
      or_true true = refl
      or_true false = refl

  -- the words of the entry are those of the object
  record IsFilled (ws : List ℕ) : Type 0 where
    link : word_at shape ws (Link e) ≡ suc s
    counts : (k : Kind) → word_at shape ws (count_place k e) ≡ length (list_of k o)

  capped : (k : Kind) → length (list_of k o) ≤ shape.caps.wide
  capped kinds.Strong = let cap = b.sized.caps_fit.wide_fits.0 in let le = counted.strong_cap in omega (arith, cap, le)
  capped kinds.Unowned = let cap = b.sized.caps_fit.wide_fits.1 in let le = counted.unowned_cap in omega (arith, cap, le)
  capped kinds.Weak = let cap = b.sized.caps_fit.wide_fits.0 in let one = ap length weak_one in omega (arith, cap, one)

  same_list : (k : Kind) → length (list_of k q) ≡ length (list_of k o)
  same_list kinds.Strong = refl
  same_list kinds.Unowned = refl
  same_list kinds.Weak = refl

  count_says : (k : Kind) (n w : ℕ) → (n ≡ e → w ≡ length (list_of k o)) → ShowsHolders shape k (at_entry n heap) w → ShowsHolders shape k (at_entry n new) w
  count_says k n w its says = dite (ℕ_discrete n e)
      (λ is. subst (λ m. ShowsHolders shape k m w) (sym (ap (λ t. at_entry t new) is ∙ entry_is)) (its is ∙ sym (same_list k), subst (λ t. t ≤ shape.caps.wide) (sym (its is)) (capped k)))
      (λ ne. subst (λ m. ShowsHolders shape k m w) (sym (entry_same n ne)) says)

  link_says : (n w : ℕ) → (n ≡ e → w ≡ suc s) → ShowsLink shape (at_entry n heap) w → ShowsLink shape (at_entry n new) w
  link_says n w its says = dite (ℕ_discrete n e)
      (λ is. subst (λ m. ShowsLink shape m w) (sym (ap (λ t. at_entry t new) is ∙ entry_is)) (subst (λ m. IsLink shape m w) (sym slot) (let t = its is in omega (arith, t))))
      (λ ne. subst (λ m. ShowsLink shape m w) (sym (entry_same n ne)) says)

  -- what every other word shows
  publish_says : (ws : List ℕ) → IsFilled ws → (u : Place) → u ≢ Count s → Says shape heap u (word_at shape ws u) → Says shape new u (word_at shape ws u)
  publish_says ws f places.Zero ne says = says
  publish_says ws f (places.Global g) ne says = global_says shape heap new o q put cells_kept g (word_at shape ws (places.Global g)) says
  publish_says ws f (Count t) ne says = ⊎_elim
      (λ (g : (at_slot t heap ≡ Some o) × (at_slot t new ≡ Some q)). absurd (ne (ap Count (Some-inj (sym (is_number_some o.slot t (find-passes (in_slot t) heap.objects o g.0)) ∙ slot)))))
      (λ same. subst (λ m. ShowsCounts shape m (word_at shape ws (Count t))) (sym same) says)
      (slot_put t)
  publish_says ws f (places.Isa t) ne says = isa_says shape heap new o q put cells_kept t (word_at shape ws (places.Isa t)) (slot_put t) says
  publish_says ws f (places.Next t) ne says = tt
  publish_says ws f (places.Field t g) ne says = says ∙ sym (field_same shape heap new o q put cells_kept t g (slot_put t))
  publish_says ws f (Link n) ne says = link_says n (word_at shape ws (Link n)) (λ is. ap (λ t. word_at shape ws (Link t)) is ∙ f.link) says
  publish_says ws f (places.Strong n) ne says = count_says kinds.Strong n (word_at shape ws (places.Strong n)) (λ is. ap (λ t. word_at shape ws (places.Strong t)) is ∙ f.counts kinds.Strong) says
  publish_says ws f (places.Unowned n) ne says = count_says kinds.Unowned n (word_at shape ws (places.Unowned n)) (λ is. ap (λ t. word_at shape ws (places.Unowned t)) is ∙ f.counts kinds.Unowned) says
  publish_says ws f (places.Weak n) ne says = count_says kinds.Weak n (word_at shape ws (places.Weak n)) (λ is. ap (λ t. word_at shape ws (places.Weak t)) is ∙ f.counts kinds.Weak) says
  publish_says ws f (places.SlotBits k) ne says =
      bits_last shape.slots k (λ t. is_slot_taken t heap) (λ t. is_slot_taken t new) (word_at shape ws (places.SlotBits k)) (λ t _. some_found o q (at_slot t heap) (at_slot t new) (slot_put t)) says
  publish_says ws f (places.EntryBits k) ne says = bits_last shape.entries k (λ n. is_entry_taken n heap) (λ n. is_entry_taken n new) (word_at shape ws (places.EntryBits k)) (λ n _. taken_same n) says

  kept : (z : CellName) → IsThere heap z → CellKept shape heap new z
  kept (cells.Field t f) _ = field_kept shape heap new o q put cells_kept t f (slot_put t)
  kept (cells.Global g) _ = global_kept shape heap new o q put cells_kept g

  -- the words that the view has stored are in place
  filled : HasFilled shape v e s c → (ws : List ℕ) → Lying shape h v.seen ws v.working → IsFilled ws
  filled f ws lie = record { link = word_lies shape ws (number (extent_of shape) (Link e)) (suc s) v.working.stored f.link stored; counts = by }
    where
      stored : Each (Lies shape ws) v.working.stored
      stored = (each_cut (Lies shape ws) v.working.stored (map kept_next v.working.entered) lie.private).0

      by : (k : Kind) → word_at shape ws (count_place k e) ≡ length (list_of k o)
      by kinds.Strong = word_lies shape ws (number (extent_of shape) (places.Strong e)) (strong_in c) v.working.stored f.strong stored ∙ sym strong_long
      by kinds.Unowned = word_lies shape ws (number (extent_of shape) (places.Unowned e)) c.unowned v.working.stored f.unowned stored ∙ sym (ap (λ (d : Inline). d.unowned) counted.counts)
      by kinds.Weak = word_lies shape ws (number (extent_of shape) (places.Weak e)) 1 v.working.stored f.weak stored ∙ sym (ap length weak_one)

  abbrev work : Working
  work = less shape v h b e

  pub publish_good : HasFilled shape v e s c → Good shape v h (number (extent_of shape) (Count s)) x (packed (Slow e)) (Some (acts.Side s e why)) work
  publish_good f = plain_named shape v h b (Count s) (plain_count heap s) inside x (packed (Slow e)) (Some (acts.Side s e why)) work refl
      (λ t owed. absurd (None≢Some (record { slot = t; counted = false }) (sym owes ∙ owed)))
      (fewer shape v h b e) legal
      (in_shape_stays shape event h legal refl refl refl b.in_shape)
      kept
      (work_kept shape event h work legal refl (inr (λ m ends. true≢false (sym ends))) owes (mine_still shape v h b e new refl next) (less_fits shape v h b e))
      (λ Others ws shown lie. word_changes_so shape (λ u. Excepts v.working u ⊎ Others u) (λ u. Excepts work u ⊎ Others u) heap new ws (Count s) (packed (Slow e)) inside shown
      (λ _. subst (λ m. ShowsCounts shape m (packed (Slow e))) (sym (slot_found shape (event ∷ h) there.0 s q legal there.1 slot)) (header_inline shape q (packed (Slow e)) mortal refl))
      (λ u ne notF. ⊎_elim (λ a. notF (inl (stored_exceptions v.working work.stored u a))) (λ a. notF (inr a)))
      (λ u iu ne _ t. publish_says ws (filled f ws lie) u ne t))
