-- An object is made in a free slot, and its words are stored.
use Rattle.arc_view.specs.Rule.{IsWithin}
use Rattle.arc_view.proofs.Within.{each_end}
use Rattle.std.proofs.Common.{◌≡◌, ◌≢◌, ◌⊎◌, inl, inr, ⊎_elim, ℕ, zero, suc, ◌+◌, ◌^◌, ◌<◌, ◌≤◌, ◌==◌, Bool, true, false, cond, not, List, [], ◌∷◌, ◌++◌, length, Option, Some, None, refl, sym, ap, ◌∙◌, subst, arith, eq-eqb, ne_eqb, le_refl}
use Rattle.std.specs.Prelude.{slice_get, find, is_some, ◌||◌, ◌&&◌, ◌/◌, bit_and, bit_or, if◌then◌else◌}
use Rattle.std.specs.List.{list_any}
use Rattle.std.proofs.lemmas.Bool.{eqb-true}
use mathlib.Core.Logic.{dite}
use native.Mathlib.Decide.{ℕ_discrete}
use Rattle.arc_model.specs.declared.event.Act.{Act}
use Rattle.arc_model.specs.declared.event.Act.TheVariants as acts
use Rattle.arc_model.specs.declared.event.CellName.{CellName}
use Rattle.arc_model.specs.declared.event.CellName.TheVariants as cells
use Rattle.arc_model.specs.declared.event.Event.{Event}
use Rattle.arc_model.specs.declared.shape.Kind.TheVariants as kinds
use Rattle.arc_model.specs.declared.shape.RefShape.{RefShape}
use Rattle.arc_model.specs.Shapes.{HeapShape}
use Rattle.arc_model.specs.Heaps.{Holder, Hand, Strongs, Object, Heap}
use Rattle.arc_model.specs.Heaps as holders
use Rattle.arc_model.specs.Holders.{same_id, is_in, holds, in_slot, has_entry, at_slot, at_entry, made_by, is_slot_taken, is_entry_taken, claims_it}
use Rattle.arc_model.specs.Cells.{cell, id_of, has_field, is_immortal, field_shape}
use Rattle.arc_model.specs.Needs.{needs}
use Rattle.arc_model.specs.Effects.{made}
use Rattle.arc_model.specs.WellFormed.{more, total, named_times}
use Rattle.arc_model.specs.History.{History, heap_after, next_hand, sight, share, is_of, IsLegal}
use Rattle.arc_model.specs.Lookup.{Spot, spot, is_cell}
use Rattle.arc_model.specs.References.{reference_in, reference_of, name_of}
use Rattle.arc_model.proofs.Basics.{None≢Some, Some-inj, true≢false}
use Rattle.arc_model.proofs.Tally.{id-refl, same-refl}
use Rattle.arc_model.proofs.Turns.{put-found, place-put}
use Rattle.arc_model.proofs.Keeps.{end-at}
use Rattle.arc_model.proofs.Courses.{well_formed}
use Rattle.arc_model.proofs.Others.{spot-end, made-apart, spot-held, spot-find, none-is, not-among, lookup_after}
use Rattle.arc_rule.specs.Isa.{isa_word_of}
use Rattle.arc_rule.specs.declared.layout.Place.{Place}
use Rattle.arc_rule.specs.declared.layout.Place.TheVariants.{Count, Isa, SlotBits}
use Rattle.arc_rule.specs.declared.layout.Place.TheVariants as places
use Rattle.arc_rule.specs.declared.step.Intent.TheVariants as intents
use Rattle.arc_rule.specs.Places.{extent_of, number}
use Rattle.arc_rule.specs.Bits.{bit_of, is_set}
use Rattle.arc_rule.proofs.Bits.{bit_shown, shows_same, shows_or, or_again, clear_at, thing_of_bit}
use Rattle.arc_rule.specs.Shown.{Says, IsInline, ShowsCounts, ShowsName, ShowsLink, ShowsHolders, cell_word, field_word, field_word_if}
use Rattle.arc_view.specs.declared.view.Naming.{Naming}
use Rattle.arc_view.specs.declared.view.Working.{Working}
use Rattle.arc_view.specs.declared.view.View.{View}
use Rattle.arc_view.specs.Views.{first_word, Excepts}
use Rattle.arc_view.specs.Rule.{IsNew, IsFirst, WorkFits, FitsCell, InShape, is_new, news}
use Rattle.arc_view.specs.Kinds.{or_act, working_or}
use Rattle.arc_view.proofs.Words.{word_changes, find_end, find_new}
use Rattle.arc_view.proofs.Held.{Held, held_stays, strong≢weak}
use Rattle.arc_view.proofs.Keeps.{legal_left}
use Rattle.arc_model.specs.declared.event.ObjectId.{ObjectId}
use Rattle.arc_view.proofs.Advance.{IsThere, CellKept, Good, there_taken, first_same}
use Rattle.arc_view.proofs.Bridge.{Before, next_same, silent_good}
use Rattle.arc_view.proofs.Classes.{made_named, news_named, news_of}
use Rattle.arc_view.proofs.Own.{work_own}
use Rattle.arc_view.proofs.Plain.{plain_count, plain_isa, plain_bits, plain_named, plain_good}
use Rattle.arc_view.proofs.Strongs.{none_fails, slot_found}

-- an object is found at a place
found_at : (test : Object → Bool) (os : List Object) (o : Object) → find test os ≡ Some o → (i : ℕ) × (slice_get os i ≡ Some o)
found_at test os o e = place-put os _ o o (put-found test (λ r. r) os o e)

end_cases : (os : List Object) (n o : Object) (i : ℕ) → slice_get (os ++ n ∷ []) i ≡ Some o → (slice_get os i ≡ Some o) ⊎ (n ≡ o)
end_cases [] n o zero e = inr (Some-inj e)
end_cases [] n o (suc i) e = absurd (None≢Some o e)
end_cases (r ∷ os) n o zero e = inl e
end_cases (r ∷ os) n o (suc i) e = end_cases os n o i e

end_there : (os : List Object) (n : Object) → slice_get (os ++ n ∷ []) (length os) ≡ Some n
end_there [] n = refl
end_there (r ∷ os) n = end_there os n

-- others make no object of p
news_rest : (p : ℕ) (rest seen : History) → share rest p ≡ [] → news p (rest ++ seen) ≡ news p seen
news_rest p [] seen none = refl
news_rest p (e ∷ rest) seen none =
    let apart = not-among p e rest none in
    let none : cond (is_of p e && is_new e.act) 1 0 ≡ zero = ap (λ b. cond (b && is_new e.act) 1 zero) (ne_eqb e.thread p apart.0) in
    let ih = news_rest p rest seen apart.1 in
    let step = news_of p e (rest ++ seen) in omega (arith, none, ih, step)

total_some : (w : Object → ℕ) (os : List Object) (i : ℕ) (o : Object) → slice_get os i ≡ Some o → 1 ≤ w o → 1 ≤ total w os
total_some w [] i o at le = absurd (None≢Some o at)
total_some w (r ∷ os) zero o at le = let e : w r ≡ w o = ap w (Some-inj at) in omega (arith, e, le)
total_some w (r ∷ os) (suc i) o at le = let ih = total_some w os i o at le in omega (arith, ih)

-- a view that owes nothing makes no exception but those of the new object
excepts_owed : (w : Working) (n : Naming) → w.owes ≡ None → (pl : Place) → Excepts w pl → Excepts (record w { owes = Some n }) pl
excepts_owed w n free places.Zero e = e
excepts_owed w n free (places.Global g) e = e
excepts_owed w n free (Count t) e = absurd (None≢Some (record { slot = t; counted = false }) (sym free ∙ e))
excepts_owed w n free (Isa t) e = absurd (None≢Some e.0 (sym free ∙ e.1))
excepts_owed w n free (places.Next t) e = e
excepts_owed w n free (places.Field t f) e = e
excepts_owed w n free (places.Link m) e = e
excepts_owed w n free (places.Strong m) e = e
excepts_owed w n free (places.Unowned m) e = e
excepts_owed w n free (places.Weak m) e = e
excepts_owed w n free (SlotBits m) e = e
excepts_owed w n free (places.EntryBits m) e = e

module _ (shape : HeapShape) (v : View) (h : History) (b : Before shape v h) (s class : ℕ) (lt : s < shape.slots) (owes : v.working.owes ≡ None) where
  abbrev heap : Heap
  heap = heap_after h

  abbrev os : List Object
  os = heap.objects

  module _ (is_class : class < length shape.classes) (room : news v.number v.seen < 100000) (free : at_slot s heap ≡ None) where
    abbrev k : ℕ
    k = next_hand v.number v.seen

    abbrev act : Act
    act = acts.New k class s

    abbrev event : Event
    event = record { thread = v.number; act = act }

    abbrev n : Object
    n = made v.number k class s os

    abbrev new : Heap
    new = heap_after (event ∷ h)

    new_legal : IsLegal shape (event ∷ h)
    new_legal = (
      none_fails (needs shape (sight v.number h) v.number act) (eq-eqb k (next_hand v.number h) (next_same shape v h b), (ap (λ m. not (is_some m)) free, tt)),
      b.legal,
    )

    news_now : news v.number h ≡ news v.number v.seen
    news_now = ap (news v.number) b.is ∙ news_rest v.number b.rest v.seen b.others

    number_is : made_by v.number os ≡ news v.number h
    number_is = made_named v.number os ∙ news_named v.number h

    -- cells stand where they stood
    apart : (z : Holder) → is_cell z ≡ true → holds z n ≡ false
    apart (Hand q m) c = absurd (true≢false (sym c))
    apart (holders.Field o f) c = made-apart (holders.Field o f) v.number k class s os refl refl
    apart (holders.Global g) c = made-apart (holders.Global g) v.number k class s os refl refl
    apart holders.Strongs c = absurd (true≢false (sym c))
    apart holders.Unowneds c = absurd (true≢false (sym c))
    apart holders.Forever c = absurd (true≢false (sym c))

    spot_now : (z : Holder) → is_cell z ≡ true → spot z new ≡ spot z heap
    spot_now z c = spot-end z os n (apart z c)

    reference_now : (z : Holder) → is_cell z ≡ true → reference_of z new ≡ reference_of z heap
    reference_now z c = ap (reference_in z) (find_end (holds z) os n (apart z c))

    -- no cell is a field of the new object
    no_field : (f : ℕ) (b : Bool) → is_some (spot (holders.Field n.id f) heap) ≡ b → b ≡ false
    no_field f false is = refl
    no_field f true is =
        let wf = well_formed shape h b.legal in
        let one = spot-held (holders.Field n.id f) heap is in
        let has = wf.owned n.id f one in
        let none = wf.no_other v.number (made_by v.number os) (le_refl (made_by v.number os)) in
        let at : suc (made_by v.number os) ≡ made_by v.number os + 1 = omega arith in
        let named : same_id (record { thread = v.number; number = suc (made_by v.number os) }) has.object.id ≡ true = ap (λ m. same_id (record { thread = v.number; number = m }) has.object.id) at ∙ (ap (same_id n.id) has.named ∙ id-refl n.id) in
        let some = total_some (named_times (record { thread = v.number; number = suc (made_by v.number os) })) os has.place has.object has.here (let e : more (same_id (record { thread = v.number; number = suc (made_by v.number os) }) has.object.id) zero ≡ 1 = ap (λ t. more t zero) named in omega (arith, e)) in
        absurd (omega (arith, some, none))

    field_nil : (f : ℕ) → spot (holders.Field n.id f) heap ≡ None
    field_nil f = none-is (spot (holders.Field n.id f) heap) (no_field f (is_some (spot (holders.Field n.id f) heap)) refl)

    fits_end : (at : Option Spot) (named : Option RefShape) → FitsCell heap at named → FitsCell new at named
    fits_end None named f = tt
    fits_end (Some at) named (o, r, here, is, same) = (o, r, end-at os n at.place o here, is, same)

    new_in_shape : InShape shape (event ∷ h)
    new_in_shape = record {
      within = each_end (IsWithin shape) os n b.in_shape.within ((λ t is. subst (λ m. m < shape.slots) (Some-inj is) lt), λ e is. absurd (None≢Some e is));
      claims = b.in_shape.claims;
      classes = λ i o at. ⊎_elim
          (λ old. b.in_shape.classes i o old)
          (λ same. subst (λ (r : Object). (r.class < length shape.classes) × (r.id.number < 2 ^ 32)) same (is_class, (let a = number_is in let c = news_now in omega (arith, a, c, room))))
          (end_cases os n o i at);
      fields = λ i o f at. ⊎_elim
          (λ old. subst (λ m. FitsCell new m (field_shape shape f (Some o))) (sym (spot_now (holders.Field o.id f) refl)) (fits_end (spot (holders.Field o.id f) heap) (field_shape shape f (Some o)) (b.in_shape.fields i o f old)))
          (λ same. subst (λ (r : Object). FitsCell new (spot (holders.Field r.id f) new) (field_shape shape f (Some r))) same
          (subst (λ m. FitsCell new m (field_shape shape f (Some n))) (sym (spot_now (holders.Field n.id f) refl ∙ field_nil f)) tt))
          (end_cases os n o i at);
      globals = λ g. subst (λ m. FitsCell new m (slice_get shape.globals g)) (sym (spot_now (holders.Global g) refl)) (fits_end (spot (holders.Global g) heap) (slice_get shape.globals g) (b.in_shape.globals g));
      makers = λ p high.
          let none : cond ((v.number == p) && true) 1 0 ≡ zero = ap (λ t. cond (t && true) 1 zero) (ne_eqb v.number p (λ e. let few = b.few in omega (arith, e, few, high))) in
          let all = news_of p event h in
          let before = b.in_shape.makers p high in omega (arith, none, all, before);
      made = λ p. subst (λ m. m ≤ 100000) (sym (news_of p event h)) (count p (v.number == p) refl);
    }
      where
        count : (p : ℕ) (t : Bool) → (v.number == p) ≡ t → cond ((v.number == p) && true) 1 0 + news p h ≤ 100000
        count p true is =
            let same = eqb-true v.number p is in
            let one : cond ((v.number == p) && true) 1 0 ≡ suc zero = ap (λ t. cond (t && true) (suc zero) 0) is in
            let few : news p h < 100000 = subst (λ q. news q h < 100000) same (subst (λ m. m < 100000) (sym news_now) room) in omega (arith, one, few)
        count p false is =
            let none : cond ((v.number == p) && true) 1 0 ≡ zero = ap (λ t. cond (t && true) 1 zero) is in
            let few = b.in_shape.made p in omega (arith, none, few)

    slot_other : (t : ℕ) → t ≢ s → at_slot t new ≡ at_slot t heap
    slot_other t ne = find_end (in_slot t) os n (ne_eqb s t (λ e. ne (sym e)))

    entry_now : (e : ℕ) → at_entry e new ≡ at_entry e heap
    entry_now e = find_end (has_entry e) os n refl

    slot_new : at_slot s new ≡ Some n
    slot_new = find_new (in_slot s) os n (eq-eqb s s refl) free

    field_if : (t : Bool) (f : ℕ) (o : Object) → field_word_if t shape new f o ≡ field_word_if t shape heap f o
    field_if true f o = ap cell_word (reference_now (holders.Field o.id f) refl)
    field_if false f o = refl

    field_in : (f : ℕ) (m : Option Object) → field_word shape new f m ≡ field_word shape heap f m
    field_in f None = refl
    field_in f (Some o) = field_if (has_field shape f o) f o

    field_here : (t : Bool) (f : ℕ) → field_word_if t shape new f n ≡ 0
    field_here true f = ap cell_word (reference_now (holders.Field n.id f) refl ∙ none_refers)
      where
        none_refers : reference_of (holders.Field n.id f) heap ≡ None
        none_refers = ap (reference_in (holders.Field n.id f)) (none-is (find (holds (holders.Field n.id f)) os) (sym (spot-find (holders.Field n.id f) os) ∙ ap is_some (field_nil f)))
    field_here false f = refl

    fields_say : (t f w : ℕ) → w ≡ field_word shape heap f (at_slot t heap) → w ≡ field_word shape new f (at_slot t new)
    fields_say t f w says = dite (ℕ_discrete t s)
        (λ is. says ∙ (ap (λ m. field_word shape heap f (at_slot m heap)) is ∙ (ap (field_word shape heap f) free ∙ sym (ap (λ m. field_word shape new f (at_slot m new)) is ∙ (ap (field_word shape new f) slot_new ∙ field_here (has_field shape f n) f)))))
        (λ ne. says ∙ sym (ap (field_word shape new f) (slot_other t ne) ∙ field_in f (at_slot t heap)))

    entry_taken : (e : ℕ) → is_entry_taken e new ≡ is_entry_taken e heap
    entry_taken e = ap (λ m. list_any (claims_it e) heap.claims || is_some m) (entry_now e)

    -- its slot is taken now, and no other changes
    slot_taken : (t : ℕ) → is_slot_taken t new ≡ is_slot_taken t heap || t == s
    slot_taken t = dite (ℕ_discrete t s)
        (λ is. ap (λ m. is_some (at_slot m new)) is ∙ ap is_some slot_new ∙ sym (ap (λ c. is_slot_taken t heap || c) (eq-eqb t s is) ∙ or_true (is_slot_taken t heap)))
        (λ ne. ap is_some (slot_other t ne) ∙ sym (ap (λ c. is_slot_taken t heap || c) (ne_eqb t s ne) ∙ or_false (is_slot_taken t heap)))
      where
        or_true : (c : Bool) → c || true ≡ true
        or_true true = refl
        or_true false = refl

        or_false : (c : Bool) → c || false ≡ c
        or_false true = refl
        or_false false = refl

    new_says : (pl : Place) → pl ≢ SlotBits (s / 64) → pl ≢ Count s → pl ≢ Isa s → (w : ℕ) → Says shape heap pl w → Says shape new pl w
    new_says places.Zero nb nc ni w says = says
    new_says (places.Global g) nb nc ni w says = says ∙ sym (ap cell_word (reference_now (holders.Global g) refl))
    new_says (Count t) nb nc ni w says = subst (λ m. ShowsCounts shape m w) (sym (slot_other t (λ e. nc (ap Count e)))) says
    new_says (Isa t) nb nc ni w says = subst (λ m. ShowsName m w) (sym (slot_other t (λ e. ni (ap Isa e)))) says
    new_says (places.Next t) nb nc ni w says = tt
    new_says (places.Field t f) nb nc ni w says = fields_say t f w says
    new_says (places.Link e) nb nc ni w says = subst (λ m. ShowsLink shape m w) (sym (entry_now e)) says
    new_says (places.Strong e) nb nc ni w says = subst (λ m. ShowsHolders shape kinds.Strong m w) (sym (entry_now e)) says
    new_says (places.Unowned e) nb nc ni w says = subst (λ m. ShowsHolders shape kinds.Unowned m w) (sym (entry_now e)) says
    new_says (places.Weak e) nb nc ni w says = subst (λ m. ShowsHolders shape kinds.Weak m w) (sym (entry_now e)) says
    new_says (SlotBits j) nb nc ni w says = shows_same shape.slots j (λ t. is_slot_taken t heap) (λ t. is_slot_taken t new) w (λ t at _. ap is_some (slot_other t (λ e. nb (ap SlotBits (sym at ∙ ap (λ m. m / 64) e))))) says
    new_says (places.EntryBits j) nb nc ni w says = shows_same shape.entries j (λ e. is_entry_taken e heap) (λ e. is_entry_taken e new) w (λ e _ _. entry_taken e) says

    new_cells : (c : CellName) → IsThere heap c → CellKept shape heap new c
    new_cells (cells.Field t f) there =
        let ne : t ≢ s = λ e. true≢false (sym (there_taken heap t f there) ∙ (ap (λ m. is_some (at_slot m heap)) e ∙ ap is_some free)) in
        let owner = ap (λ m. holders.Field (id_of m) f) (slot_other t ne) in record {
          says = λ w says. fields_say t f w says;
          owner = owner;
          refers = ap (λ z. spot z new) owner ∙ spot_now (cell heap (cells.Field t f)) refl;
        }
    new_cells (cells.Global g) there = record {
      says = λ w says. says ∙ sym (ap cell_word (reference_now (holders.Global g) refl));
      owner = refl;
      refers = spot_now (holders.Global g) refl;
    }

    abbrev work : Working
    work = record v.working { owes = Some (record { slot = s; counted = false }) }

    new_work : WorkFits shape v.number (event ∷ h) work
    new_work = let w = work_own shape event h v.working new_legal refl (λ m claim. claim) (inr (λ m e. true≢false (sym e))) owes b.work in record {
      owing = λ t is. subst (λ (m : Naming). (m.slot < shape.slots) × IsNew new v.number m.slot) (Some-inj is) (lt, (length os, n, k, end_there os n, refl, record { strong = refl; unowned = refl; weak = refl }));
      reaches = w.reaches;
      private = w.private;
      entered = w.entered;
    }

    -- its first inline word
    first_says : (t : Bool) → IsInline t shape n (cond t 1 2)
    first_says true = refl
    first_says false = (refl, omega arith, b.sized.caps_fit.unowned_fits.0)

    is_first : IsFirst shape new s
    is_first = (n, slot_new, subst (λ m. ShowsCounts shape m (first_word shape n)) (sym slot_new) (first_says (is_immortal shape n)))

    pub new_good : (x : ℕ) → Says shape heap (SlotBits (s / 64)) x → Good shape v h (number (extent_of shape) (SlotBits (s / 64))) x (bit_or x (bit_of s)) (Some act) work
    new_good x says = plain_named shape v h b (SlotBits (s / 64)) (plain_bits heap (s / 64)) (omega (arith, lt)) x (bit_or x (bit_of s)) (Some act) work refl
        (λ t owed. subst (IsFirst shape new) (ap (λ (m : Naming). m.slot) (Some-inj owed)) is_first) (λ P e. e) new_legal new_in_shape new_cells new_work
        (λ Others ws shown l. word_changes shape (λ q. Excepts v.working q ⊎ Others q) (λ q. Excepts work q ⊎ Others q) heap new ws (SlotBits (s / 64)) (bit_or x (bit_of s)) (omega (arith, lt)) shown
        (λ _. shows_or shape.slots (s / 64) (λ t. is_slot_taken t heap) (λ t. is_slot_taken t new) x s refl lt slot_taken says)
        (λ q ne notF. ⊎_elim (λ e. notF (inl (excepts_owed v.working (record { slot = s; counted = false }) owes q e))) (λ o. notF (inr o)))
        (λ q iq ne notF w says. new_says q ne (λ is. notF (inl (subst (λ (r : Place). Excepts work r) (sym is) refl))) (λ is. notF (inl (subst (λ (r : Place). Excepts work r) (sym is) (record { slot = s; counted = false }, refl, refl)))) w says))

  -- an Or with the bit of the slot: it takes the slot where it finds the bit clear
  pub take_good : (x : ℕ) → class < length shape.classes → news v.number v.seen < 100000 → Says shape heap (SlotBits (s / 64)) x
      → Good shape v h (number (extent_of shape) (SlotBits (s / 64))) x (bit_or x (bit_of s)) (if bit_and x (bit_of s) == 0 then or_act v (SlotBits (s / 64)) (bit_of s) (intents.New class) else None)
      (if bit_and x (bit_of s) == 0 then working_or v.working (SlotBits (s / 64)) (bit_of s) (intents.New class) else v.working)
  take_good x is_class room says = by (bit_and x (bit_of s) == 0) refl
    where
      place : ℕ
      place = number (extent_of shape) (SlotBits (s / 64))

      shown : is_set s x ≡ is_slot_taken s heap
      shown = bit_shown shape.slots (s / 64) (λ t. is_slot_taken t heap) x says s refl lt

      opposite : (c d : Bool) → not c ≡ d → c ≡ not d
      opposite true d e = ap (λ t. not t) e
      opposite false d e = ap (λ t. not t) e

      by : (t : Bool) → bit_and x (bit_of s) == 0 ≡ t → Good shape v h place x (bit_or x (bit_of s)) (if t then or_act v (SlotBits (s / 64)) (bit_of s) (intents.New class) else None)
          (if t then working_or v.working (SlotBits (s / 64)) (bit_of s) (intents.New class) else v.working)
      by true clear =
          let free : at_slot s heap ≡ None = none-is (at_slot s heap) (sym shown ∙ opposite (is_set s x) true (sym (clear_at s x) ∙ clear)) in
          subst (λ t. Good shape v h place x (bit_or x (bit_of s)) (Some (acts.New (next_hand v.number v.seen) class t)) (record v.working { owes = Some (record { slot = t; counted = false }) })) (sym (thing_of_bit s))
          (new_good is_class room free x says)
      by false set =
          subst (λ y. Good shape v h place x y None v.working) (sym (or_again s x says.below (opposite (is_set s x) false (sym (clear_at s x) ∙ set)))) (silent_good shape v h b place x)

-- The object whose words the view has still to store, now.
record NamedNow (shape : HeapShape) (h : History) (s : ℕ) (o : Object) : Type 0 where
  inside : s < shape.slots
  q : Object
  found : at_slot s (heap_after h) ≡ Some q
  class : q.class ≡ o.class
  name : name_of q ≡ name_of o

named_now : (shape : HeapShape) (v : View) (h : History) (b : Before shape v h) (n : Naming) (o : Object) → v.working.owes ≡ Some n → at_slot n.slot (heap_after v.seen) ≡ Some o → NamedNow shape h n.slot o
named_now shape v h b n o owed at = record {
  inside = owing.0;
  q = held.q;
  found = ap (λ l. at_slot n.slot (heap_after l)) b.is ∙ slot_found shape (b.rest ++ v.seen) new.0 n.slot held.q since held.here (held.slot strong≢weak ∙ new.4);
  class = held.class ∙ ap (λ (r : Object). r.class) same_object;
  name = (λ j. record { class = held.class j; thread = ap (λ (d : ObjectId). d.thread) held.id j; number = ap (λ (d : ObjectId). d.number) held.id j }) ∙ ap name_of same_object;
}
  where
    owing : (n.slot < shape.slots) × IsNew (heap_after v.seen) v.number n.slot
    owing = b.seen_work.owing n owed

    new : IsNew (heap_after v.seen) v.number n.slot
    new = owing.1

    since : IsLegal shape (b.rest ++ v.seen)
    since = subst (IsLegal shape) b.is b.legal

    was : IsLegal shape v.seen
    was = legal_left shape b.rest v.seen since

    mine : is_in (Hand v.number new.2) new.1.strong ≡ true
    mine = ap (is_in (Hand v.number new.2)) new.5.strong ∙ ap (λ t. t || false) (same-refl (Hand v.number new.2))

    held : Held kinds.Strong new.0 new.1 (heap_after (b.rest ++ v.seen))
    held = held_stays shape v.number new.2 new.0 kinds.Strong new.1 v.seen b.rest since b.others ((lookup_after shape v.seen (Hand v.number new.2) was refl).only new.0 new.1 kinds.Strong new.3 mine) new.3

    same_object : new.1 ≡ o
    same_object = Some-inj (sym (slot_found shape v.seen new.0 n.slot new.1 was new.3 new.4) ∙ at)

-- the view's exceptions once the inline word is stored
excepts_counted : (w : Working) (n : Naming) → w.owes ≡ Some n → (pl : Place) → pl ≢ Count n.slot → Excepts w pl → Excepts (record w { owes = Some (record { slot = n.slot; counted = true }) }) pl
excepts_counted w n owed places.Zero ne e = e
excepts_counted w n owed (places.Global g) ne e = e
excepts_counted w n owed (Count t) ne e = absurd (ne (ap (λ (m : Naming). Count m.slot) (Some-inj (sym e ∙ owed))))
excepts_counted w n owed (Isa t) ne e = (record { slot = n.slot; counted = true }, refl, ap (λ (m : Naming). m.slot) (Some-inj (sym owed ∙ e.1)) ∙ e.2)
excepts_counted w n owed (places.Next t) ne e = e
excepts_counted w n owed (places.Field t f) ne e = e
excepts_counted w n owed (places.Link m) ne e = e
excepts_counted w n owed (places.Strong m) ne e = e
excepts_counted w n owed (places.Unowned m) ne e = e
excepts_counted w n owed (places.Weak m) ne e = e
excepts_counted w n owed (SlotBits m) ne e = e
excepts_counted w n owed (places.EntryBits m) ne e = e

-- and once the isa word is, too
excepts_named : (w : Working) (n : Naming) → w.owes ≡ Some n → n.counted ≡ true → (pl : Place) → pl ≢ Isa n.slot → Excepts w pl → Excepts (record w { owes = None }) pl
excepts_named w n owed counted places.Zero ne e = e
excepts_named w n owed counted (places.Global g) ne e = e
excepts_named w n owed counted (Count t) ne e = absurd (true≢false (sym counted ∙ ap (λ (m : Naming). m.counted) (Some-inj (sym owed ∙ e))))
excepts_named w n owed counted (Isa t) ne e = absurd (ne (ap Isa (sym (ap (λ (m : Naming). m.slot) (Some-inj (sym owed ∙ e.1)) ∙ e.2))))
excepts_named w n owed counted (places.Next t) ne e = e
excepts_named w n owed counted (places.Field t f) ne e = e
excepts_named w n owed counted (places.Link m) ne e = e
excepts_named w n owed counted (places.Strong m) ne e = e
excepts_named w n owed counted (places.Unowned m) ne e = e
excepts_named w n owed counted (places.Weak m) ne e = e
excepts_named w n owed counted (SlotBits m) ne e = e
excepts_named w n owed counted (places.EntryBits m) ne e = e

-- the inline word of a new object is written
pub first_good : (shape : HeapShape) (v : View) (h : History) (b : Before shape v h) (n : Naming) (x : ℕ) (o : Object) → v.working.owes ≡ Some n → n.counted ≡ false → at_slot n.slot (heap_after v.seen) ≡ Some o
    → Good shape v h (number (extent_of shape) (Count n.slot)) x (first_word shape o) None (record v.working { owes = Some (record { slot = n.slot; counted = true }) })
first_good shape v h b n x o owed counted at =
    let now = named_now shape v h b n o owed at in
    let work : Working = record v.working { owes = Some (record { slot = n.slot; counted = true }) } in
    plain_named shape v h b (Count n.slot) (plain_count (heap_after h) n.slot) now.inside x (first_word shape o) None work refl
    (λ t e. absurd (true≢false (ap (λ (m : Naming). m.counted) (Some-inj e)))) (λ P e. e) b.legal b.in_shape
    (λ c there. record { says = λ w t. t; owner = refl; refers = refl })
    (record { owing = λ t is. subst (λ (m : Naming). (m.slot < shape.slots) × IsNew (heap_after h) v.number m.slot) (Some-inj is) (b.work.owing n owed); reaches = b.work.reaches; private = b.work.private; entered = b.work.entered })
    (λ Others ws shown l. word_changes shape (λ q. Excepts v.working q ⊎ Others q) (λ q. Excepts work q ⊎ Others q) (heap_after h) (heap_after h) ws (Count n.slot) (first_word shape o) now.inside shown
    (λ _. let first = l.naming n.slot (owed ∙ ap Some (λ j. record { slot = n.slot; counted = counted j })) in
    subst (Says shape (heap_after h) (Count n.slot)) (ap (first_word shape) (Some-inj (sym first.1 ∙ now.found)) ∙ first_same shape o now.q now.class) first.2)
    (λ q ne notF. ⊎_elim (λ e. notF (inl (excepts_counted v.working n owed q ne e))) (λ e. notF (inr e)))
    (λ q iq _ _ w t. t))

-- the isa word of a new object is written
pub name_good : (shape : HeapShape) (v : View) (h : History) (b : Before shape v h) (n : Naming) (x : ℕ) (o : Object) → v.working.owes ≡ Some n → n.counted ≡ true → at_slot n.slot (heap_after v.seen) ≡ Some o
    → Good shape v h (number (extent_of shape) (Isa n.slot)) x (isa_word_of (name_of o)) None (record v.working { owes = None })
name_good shape v h b n x o owed counted at =
    let now = named_now shape v h b n o owed at in
    plain_good shape v h b (Isa n.slot) (plain_isa (heap_after h) n.slot) now.inside x (isa_word_of (name_of o)) None (record v.working { owes = None }) refl refl refl b.legal b.in_shape
    (λ c there. record { says = λ w t. t; owner = refl; refers = refl })
    (record { owing = λ t is. absurd (None≢Some t is); reaches = b.work.reaches; private = b.work.private; entered = b.work.entered })
    (λ Others ws shown. word_changes shape (λ q. Excepts v.working q ⊎ Others q) (λ q. Excepts (record v.working { owes = None }) q ⊎ Others q) (heap_after h) (heap_after h) ws (Isa n.slot) (isa_word_of (name_of o)) now.inside shown
    (λ _. subst (λ m. ShowsName m (isa_word_of (name_of o))) (sym now.found) (ap isa_word_of (sym now.name)))
    (λ q ne notF. ⊎_elim (λ e. notF (inl (excepts_named v.working n owed counted q ne e))) (λ e. notF (inr e)))
    (λ q iq _ _ w t. t))
