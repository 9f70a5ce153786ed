-- The end of a slot: its bit is cleared, and the object that was in it keeps its entry.
use Rattle.std.proofs.Common.{◌≡◌, ◌≢◌, ◌⊎◌, inr, ℕ, zero, ◌<◌, Bool, true, false, cond, not, List, ◌∷◌, length, Option, Some, None, refl, sym, ap, ◌∙◌, subst, arith, eq-eqb, ne_eqb}
use Rattle.std.specs.Prelude.{is_some, ◌||◌, ◌&&◌, ◌/◌, bit_and, ◌==◌}
use mathlib.Core.Logic.{dite}
use native.Mathlib.Decide.{ℕ_discrete}
use Rattle.arc_model.specs.declared.event.Act.TheVariants as acts
use Rattle.arc_model.specs.declared.event.CellName.{CellName}
use Rattle.arc_model.specs.declared.event.CellName.TheVariants as cells
use Rattle.arc_model.specs.declared.event.Event.{Event}
use Rattle.arc_model.specs.declared.shape.Kind.{Kind}
use Rattle.arc_model.specs.declared.shape.Kind.TheVariants as kinds
use Rattle.arc_model.specs.Shapes.{HeapShape}
use Rattle.arc_model.specs.Heaps.{Holder, Hand, Unowneds, Deinit, Vacating, Object, Heap}
use Rattle.arc_model.specs.Heaps as holders
use Rattle.arc_model.specs.Holders.{same_holder, is_in, is_empty, is_duty, is_number, kind_in, list_of, in_slot, at_slot, held_by, owes_to, is_slot_taken}
use Rattle.arc_model.specs.Cells.{has_field}
use Rattle.arc_model.specs.Effects.{vacated, left_slot, owing_none}
use Rattle.arc_model.specs.Needs.{needs, passes}
use Rattle.arc_model.specs.WellFormed.{more, in_slot_times, keeps_fields}
use Rattle.arc_model.specs.History.{History, heap_after, next_hand, sight, IsLegal}
use Rattle.arc_model.specs.Lookup.{duty_of, is_cell}
use Rattle.arc_model.specs.References.{reference_in, reference_of, place_of}
use Rattle.arc_model.proofs.Basics.{None≢Some, Some-inj, true≢false, empty-is, none-strong}
use Rattle.arc_model.proofs.Tally.{clash}
use Rattle.arc_model.proofs.Turns.{IsPut, put-found, place-put, total-put}
use Rattle.arc_model.proofs.Builds.{find-passes}
use Rattle.arc_model.proofs.Courses.{held-is, well_formed}
use Rattle.arc_model.proofs.Fields.{names-once, one-name}
use Rattle.arc_model.proofs.Others.{none-is}
use Rattle.arc_model.proofs.Stages.{VacatingFacts, duty-apart, vacating-facts}
use Rattle.arc_rule.specs.declared.layout.Place.{Place}
use Rattle.arc_rule.specs.declared.layout.Place.TheVariants as places
use Rattle.arc_rule.specs.declared.layout.Place.TheVariants.{SlotBits}
use Rattle.arc_rule.specs.Bits.{but_bit_of}
use Rattle.arc_rule.proofs.Bits.{shows_and}
use Rattle.arc_rule.specs.Places.{extent_of, number}
use Rattle.arc_rule.specs.Shown.{Says, ShowsCounts, ShowsName, cell_word, field_word, field_word_if}
use Rattle.arc_view.specs.declared.view.View.{View}
use Rattle.arc_view.specs.Views.{Excepts}
use Rattle.arc_view.specs.Holding.{At}
use Rattle.arc_view.proofs.Words.{find_put, word_changes}
use Rattle.arc_view.proofs.Advance.{IsThere, CellKept, Good, slot_is}
use Rattle.arc_view.proofs.Bridge.{Before}
use Rattle.arc_view.proofs.Classes.{in_shape_stays}
use Rattle.arc_view.proofs.Own.{work_own}
use Rattle.arc_view.specs.Rule.{IsWithin}
use Rattle.arc_view.proofs.Within.{each_at}
use Rattle.arc_view.proofs.Plain.{plain_bits, plain_good}
use Rattle.arc_view.proofs.Strongs.{none_fails, slot_found, some_total, in_without}
use Rattle.arc_view.proofs.Owed.{duty_parts, owes_it}
use Rattle.arc_view.proofs.Relist.{IsRelisted, SlotStays, relist_says, slot_taken_same, field_kept, global_kept}

-- the object after the vacating
pub no_unowneds : (z : Holder) → is_cell z ≡ true → same_holder z Unowneds ≡ false
no_unowneds (Hand p k) c = refl
no_unowneds (holders.Field id f) c = refl
no_unowneds (holders.Global g) c = refl
no_unowneds holders.Strongs c = refl
no_unowneds Unowneds c = absurd (true≢false (sym c))
no_unowneds holders.Forever c = absurd (true≢false (sym c))

record Vacated (o q : Object) : Type 0 where
  pub slot : q.slot ≡ None
  pub lengths : (e : ℕ) → o.entry ≡ Some e → (k : Kind) → length (list_of k q) ≡ length (list_of k o)
  pub relisted : IsRelisted o q

-- it has neither a strong nor an unowned holder, so that what refers to it does so by its entry
vacated_is : (p : ℕ) (o : Object) → is_empty o.strong ≡ true → is_empty o.unowned ≡ true → Vacated o (vacated p o)
vacated_is p o strong unowned = by o.entry refl
  where
    none_in : (z : Holder) (xs : List Holder) → is_empty xs ≡ true → is_in z xs ≡ false
    none_in z xs e = ap (is_in z) (empty-is xs e)

    is_weak : (z : Holder) → kind_in z o ≡ kinds.Weak
    is_weak z = ap (λ t. cond t kinds.Strong (cond (is_in z o.unowned) kinds.Unowned kinds.Weak)) (none_in z o.strong strong) ∙ ap (λ t. cond t kinds.Unowned kinds.Weak) (none_in z o.unowned unowned)

    by_entry : (q : Object) → q.entry ≡ o.entry → (z : Holder) → place_of (kind_in z o) q ≡ place_of (kind_in z o) o
    by_entry q e z = ap (λ k. place_of k q) (is_weak z) ∙ (e ∙ sym (ap (λ k. place_of k o) (is_weak z)))

    in_list : (q : Object) → q.strong ≡ o.strong → q.unowned ≡ o.unowned → ((z : Holder) → is_cell z ≡ true → is_in z q.weak ≡ is_in z o.weak) → (k : Kind) (z : Holder) → is_cell z ≡ true → is_in z (list_of k q) ≡ is_in z (list_of k o)
    in_list q s u w kinds.Strong z c = ap (is_in z) s
    in_list q s u w kinds.Unowned z c = ap (is_in z) u
    in_list q s u w kinds.Weak z c = w z c

    same_length : (k : Kind) → length (list_of k (left_slot p (Some 0) (owing_none (record o { slot = None })))) ≡ length (list_of k o)
    same_length kinds.Strong = refl
    same_length kinds.Unowned = refl
    same_length kinds.Weak = refl

    by : (m : Option ℕ) → o.entry ≡ m → Vacated o (left_slot p m (owing_none (record o { slot = None })))
    by None none = record {
      slot = refl;
      lengths = λ e some k. absurd (None≢Some e (sym none ∙ some));
      relisted = record {
        id = refl;
        class = refl;
        entry = refl;
        slot = λ s e. absurd (None≢Some s e);
        cells = in_list (left_slot p None (owing_none (record o { slot = None }))) refl refl (λ z c. in_without z Unowneds o.weak (no_unowneds z c));
        leads = λ z c _. by_entry (left_slot p None (owing_none (record o { slot = None }))) refl z;
      };
    }
    by (Some n) some = record {
      slot = refl;
      lengths = λ e _. same_length;
      relisted = record {
        id = refl;
        class = refl;
        entry = refl;
        slot = λ s e. absurd (None≢Some s e);
        cells = in_list (left_slot p (Some n) (owing_none (record o { slot = None }))) refl refl (λ z c. refl);
        leads = λ z c _. by_entry (left_slot p (Some n) (owing_none (record o { slot = None }))) refl z;
      };
    }

-- a field of an object that neither is live nor has its deinit owed is nil
field_nil : (shape : HeapShape) (h : History) (i : ℕ) (o : Object) (f : ℕ) → IsLegal shape h → At (heap_after h) i o → keeps_fields shape o ≡ false → reference_of (holders.Field o.id f) (heap_after h) ≡ None
field_nil shape h i o f legal here gone = ap (reference_in (holders.Field o.id f)) (none-is (held_by (holders.Field o.id f) (heap_after h)) (by (is_some (held_by (holders.Field o.id f) (heap_after h))) refl))
  where
    by : (b : Bool) → is_some (held_by (holders.Field o.id f) (heap_after h)) ≡ b → b ≡ false
    by true e =
        let wf = well_formed shape h legal in
        let has = wf.owned o.id f (held-is (holders.Field o.id f) (heap_after h).objects e) in
        let same = one-name o.id (heap_after h).objects has.place i has.object o (names-once (λ p. next_hand p h) (heap_after h) wf o.id) has.here has.named here refl in
        clash (keeps_fields shape o) (ap (keeps_fields shape) (sym same) ∙ has.passing) gone
    by false e = refl

-- a slot that is vacated is in no object
pub slot_left : (shape : HeapShape) (h : History) (p i s : ℕ) (o : Object) → IsLegal shape h → At (heap_after h) i o → o.slot ≡ Some s → duty_of p i (heap_after h) ≡ Some Vacating → at_slot s (heap_after (record { thread = p; act = acts.Vacate s } ∷ h)) ≡ None
slot_left shape h p i s o legal here slot duty = by (at_slot s new) refl
  where
    new : Heap
    new = heap_after (record { thread = p; act = acts.Vacate s } ∷ h)

    by : (m : Option Object) → at_slot s new ≡ m → at_slot s new ≡ None
    by None e = e
    by (Some r) e =
        let facts = vacating-facts o ((well_formed shape h legal).whole i o here) (duty_parts h p i Vacating o here duty).1 in
        let is = vacated_is p o (ap is_empty (none-strong shape o facts.strong).0) facts.unowned in
        let put = put-found (in_slot s) (vacated p) (heap_after h).objects o (slot_found shape h i s o legal here slot) in
        let t = place-put new.objects _ r r (put-found (in_slot s) (λ x. x) new.objects r e) in
        let some = some_total (in_slot_times s) new.objects t.0 r t.1 (ap (λ p. more p zero) (find-passes (in_slot s) new.objects r e)) in
        let once = (well_formed shape h legal).slots s in
        let was : in_slot_times s o ≡ 1 = ap (λ p. more p zero) (slot_is o.slot s slot) in
        let gone : in_slot_times s (vacated p o) ≡ 0 = ap (λ m. more (is_number m s) zero) is.slot in
        absurd (omega (arith, total-put (in_slot_times s) (heap_after h).objects new.objects o (vacated p o) put, some, once, was, gone))

-- The view owes the vacating of the object in the slot.
module _ (shape : HeapShape) (v : View) (h : History) (b : Before shape v h) (i s : ℕ) (o : Object) (here : At (heap_after h) i o) (slot : o.slot ≡ Some s) (duty : duty_of v.number i (heap_after h) ≡ Some Vacating) where
  abbrev heap : Heap
  heap = heap_after h

  abbrev event : Event
  event = record { thread = v.number; act = acts.Vacate s }

  abbrev new : Heap
  new = heap_after (event ∷ h)

  abbrev q : Object
  q = vacated v.number o

  facts : VacatingFacts shape o
  facts = vacating-facts o ((well_formed shape h b.legal).whole i o here) (duty_parts h v.number i Vacating o here duty).1

  no_strong : is_empty o.strong ≡ true
  no_strong = ap is_empty (none-strong shape o facts.strong).0

  is : Vacated o q
  is = vacated_is v.number o no_strong facts.unowned

  inside : s < shape.slots
  inside = (each_at (IsWithin shape) heap.objects i o b.in_shape.within here).0 s slot

  found : at_slot s heap ≡ Some o
  found = slot_found shape h i s o b.legal here slot

  put : IsPut heap.objects new.objects o q
  put = put-found (in_slot s) (vacated v.number) heap.objects o found

  legal : IsLegal shape (event ∷ h)
  legal = (
    none_fails (needs shape (sight v.number h) v.number event.act) (ap is_some found, (ap (passes (owes_to v.number Vacating)) found ∙ owes_it h v.number i Vacating o here duty, tt)),
    b.legal,
  )

  free : at_slot s new ≡ None
  free = slot_left shape h v.number i s o b.legal here slot duty

  -- every other slot is in the object that it was in
  other_slot : (t : ℕ) → t ≢ s → SlotStays shape heap new o q put refl is.relisted t
  other_slot t ne = find_put (in_slot t) heap.objects new.objects o q put (ap (λ m. is_number m t) is.slot ∙ sym (ap (λ m. is_number m t) slot ∙ ne_eqb s t (λ e. ne (sym e))))

  no_deinit : is_duty Deinit o.owed ≡ false
  no_deinit = by (is_duty Deinit o.owed) refl
    where
      by : (t : Bool) → is_duty Deinit o.owed ≡ t → t ≡ false
      by true e = absurd (true≢false (sym (duty-apart Deinit Vacating o.owed e (duty_parts h v.number i Vacating o here duty).1)))
      by false e = refl

  nil_word : (f : ℕ) → field_word shape heap f (Some o) ≡ 0
  nil_word f = by (has_field shape f o)
    where
      by : (t : Bool) → field_word_if t shape heap f o ≡ 0
      by true = ap cell_word (field_nil shape h i o f b.legal here (ap (λ t. not t || is_duty Deinit o.owed) facts.strong ∙ no_deinit))
      by false = refl

  -- the words of the slot show nothing now, and those of the others what they showed
  vacate_says : (pl : Place) → pl ≢ SlotBits (s / 64) → (w : ℕ) → Says shape heap pl w → Says shape new pl w
  vacate_says places.Zero ne w says = relist_says shape heap new o q put refl is.relisted places.Zero tt tt w says
  vacate_says (places.Global g) ne w says = relist_says shape heap new o q put refl is.relisted (places.Global g) tt tt w says
  vacate_says (places.Count t) ne w says = dite (ℕ_discrete t s)
      (λ e. subst (λ m. ShowsCounts shape m w) (sym (ap (λ n. at_slot n new) e ∙ free)) tt)
      (λ other. relist_says shape heap new o q put refl is.relisted (places.Count t) (other_slot t other) (λ in_it. absurd (other (Some-inj (sym in_it ∙ slot)))) w says)
  vacate_says (places.Isa t) ne w says = dite (ℕ_discrete t s)
      (λ e. subst (λ m. ShowsName m w) (sym (ap (λ n. at_slot n new) e ∙ free)) tt)
      (λ other. relist_says shape heap new o q put refl is.relisted (places.Isa t) (other_slot t other) tt w says)
  vacate_says (places.Next t) ne w says = tt
  vacate_says (places.Field t f) ne w says = dite (ℕ_discrete t s)
      (λ e. says ∙ (ap (λ n. field_word shape heap f (at_slot n heap)) e ∙ (ap (field_word shape heap f) found ∙ (nil_word f ∙ sym (ap (λ n. field_word shape new f (at_slot n new)) e ∙ ap (field_word shape new f) free)))))
      (λ other. relist_says shape heap new o q put refl is.relisted (places.Field t f) (other_slot t other) tt w says)
  vacate_says (places.Link n) ne w says = relist_says shape heap new o q put refl is.relisted (places.Link n) tt (inr (λ t in_it. subst (λ m. m < shape.slots) (Some-inj (sym slot ∙ in_it)) inside)) w says
  vacate_says (places.Strong n) ne w says = relist_says shape heap new o q put refl is.relisted (places.Strong n) tt (λ has. is.lengths n has kinds.Strong) w says
  vacate_says (places.Unowned n) ne w says = relist_says shape heap new o q put refl is.relisted (places.Unowned n) tt (λ has. is.lengths n has kinds.Unowned) w says
  vacate_says (places.Weak n) ne w says = relist_says shape heap new o q put refl is.relisted (places.Weak n) tt (λ has. is.lengths n has kinds.Weak) w says
  vacate_says (SlotBits n) ne w says = relist_says shape heap new o q put refl is.relisted (SlotBits n) (λ t at. other_slot t (λ e. ne (ap SlotBits (sym at ∙ ap (λ m. m / 64) e)))) tt w says
  vacate_says (places.EntryBits n) ne w says = relist_says shape heap new o q put refl is.relisted (places.EntryBits n) tt tt w says

  -- its bit is clear now, and no other changes
  taken_now : (t : ℕ) → is_slot_taken t new ≡ is_slot_taken t heap && not (t == s)
  taken_now t = dite (ℕ_discrete t s)
      (λ e. ap (λ n. is_some (at_slot n new)) e ∙ ap is_some free ∙ sym (ap (λ c. is_slot_taken t heap && not c) (eq-eqb t s e) ∙ and_false (is_slot_taken t heap)))
      (λ other. slot_taken_same shape heap new o q put refl is.relisted t (other_slot t other) ∙ sym (ap (λ c. is_slot_taken t heap && not c) (ne_eqb t s other) ∙ and_true (is_slot_taken t heap)))
    where
      and_false : (c : Bool) → c && false ≡ false
      and_false true = refl
      and_false false = refl

      and_true : (c : Bool) → c && true ≡ c
      and_true true = refl
      and_true false = refl

  -- a cell of a live object isn't one of the object that leaves
  kept : (c : CellName) → IsThere heap c → CellKept shape heap new c
  kept (cells.Field t f) (j, r, at, in_it, live) = field_kept shape heap new o q put refl is.relisted t f (other_slot t
      (λ e. let same : o ≡ r = Some-inj (sym found ∙ (ap (λ n. at_slot n heap) (sym e) ∙ slot_found shape h j t r b.legal at in_it)) in
      true≢false (sym no_strong ∙ (ap (λ (x : Object). is_empty x.strong) same ∙ live))))
  kept (cells.Global g) there = global_kept shape heap new o q put refl is.relisted g

  pub vacate_good : (x : ℕ) → v.working.owes ≡ None → Says shape heap (SlotBits (s / 64)) x → Good shape v h (number (extent_of shape) (SlotBits (s / 64))) x (bit_and x (but_bit_of s)) (Some (acts.Vacate s)) v.working
  vacate_good x owes says = plain_good shape v h b (SlotBits (s / 64)) (plain_bits heap (s / 64)) (omega (arith, inside)) x (bit_and x (but_bit_of s)) (Some (acts.Vacate s)) v.working refl owes refl legal
      (in_shape_stays shape event h legal refl refl refl b.in_shape)
      kept
      (work_own shape event h v.working legal refl (λ m claim. claim) (inr (λ m e. true≢false (sym e))) owes b.work)
      (λ Others ws shown. word_changes shape (λ u. Excepts v.working u ⊎ Others u) (λ u. Excepts v.working u ⊎ Others u) heap new ws (SlotBits (s / 64)) (bit_and x (but_bit_of s)) (omega (arith, inside)) shown
      (λ _. shows_and shape.slots (s / 64) (λ t. is_slot_taken t heap) (λ t. is_slot_taken t new) x s refl taken_now says)
      (λ u ne notF e. notF e)
      (λ u iu ne _ w t. vacate_says u ne w t))
