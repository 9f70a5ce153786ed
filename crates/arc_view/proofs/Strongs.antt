-- What a drop of a strong hand does, on an inline word or in an entry; and lemmas of lists and needs that all counts share.
use Rattle.arc_rule.specs.Places.{IsPlace}
use Rattle.arc_view.proofs.Plain.{IsPlain}
use Rattle.arc_view.specs.Views.{cell_place}
use Rattle.arc_model.specs.declared.event.CellName.TheVariants as cells
use Rattle.arc_model.specs.declared.event.CellName.{CellName}
use Rattle.arc_rule.specs.Shown.{ShowsHolders}
use Rattle.arc_model.specs.WellFormed.{has_entry_times}
use Rattle.arc_model.specs.Holders.{has_entry, at_entry}
use Rattle.arc_model.proofs.Courses.{claim-counts}
use Rattle.std.proofs.Common.{◌≡◌, ◌≢◌, ◌⊎◌, inl, ℕ, zero, suc, ◌-◌, ◌<◌, ◌≤◌, ◌==◌, Bool, true, false, cond, List, [], ◌∷◌, ◌++◌, length, Some, None, refl, sym, ap, ◌∙◌, subst, arith, ne_eqb, set}
use Rattle.std.specs.Prelude.{slice_get, find, is_some, nat_lt, ◌||◌}
use Rattle.std.proofs.lemmas.Bool.{lt-ltb}
use Rattle.arc_bits.specs.declared.packing.Inline.{Inline}
use Rattle.arc_bits.specs.declared.packing.Word.TheVariants.{Counts}
use Rattle.arc_bits.specs.Words.{counts_word, IsWordOf}
use Rattle.arc_bits.specs.Moves.{strong_less}
use Rattle.arc_model.specs.declared.event.Act.TheVariants as acts
use Rattle.arc_model.specs.declared.event.Event.{Event}
use Rattle.arc_model.specs.declared.shape.Kind.TheVariants as kinds
use Rattle.arc_model.specs.Shapes.{HeapShape}
use Rattle.arc_model.specs.Heaps.{Holder, Hand, Object, Heap}
use Rattle.arc_model.specs.Holders.{same_holder, is_in, is_empty, is_alone, without, holds, kind_in, list_of, list_with, at_slot, is_claimed_by, change, with_list}
use Rattle.arc_model.specs.Cells.{forever_if, is_immortal, strong_holders, holders_of, holders_with}
use Rattle.arc_model.specs.Needs.{Need, first_failing, needs, passes, has_room, same_bool}
use Rattle.arc_model.specs.Effects.{ended_if, given_up, entry_left, entry_of_last, entry_to}
use Rattle.arc_model.specs.WellFormed.{more, total}
use Rattle.arc_model.specs.History.{History, heap_after, sight, IsLegal}
use Rattle.arc_model.specs.Lookup.{spot, is_cell}
use Rattle.arc_model.specs.Heaps as holders
use Rattle.arc_rule.specs.declared.layout.Place.TheVariants as places
use Rattle.arc_view.proofs.Held.{hand_listed}
use Rattle.arc_model.proofs.Basics.{AreMet, None≢Some, Some-inj, true≢false}
use Rattle.arc_model.proofs.Tally.{same-eq}
use Rattle.arc_model.proofs.Turns.{IsPut, put-found, place-put}
use Rattle.arc_model.proofs.Courses.{well_formed}
use Rattle.arc_model.proofs.Others.{lookup_after}
use Rattle.arc_rule.specs.declared.layout.Place.{Place}
use Rattle.arc_rule.specs.declared.layout.Place.TheVariants.{Count}
use Rattle.arc_rule.specs.Places.{extent_of, number}
use Rattle.arc_rule.specs.Shown.{Says, ShowsBut, IsHeader, IsInline, ShowsCounts, counts_in}
use Rattle.arc_view.specs.declared.view.View.{View}
use Rattle.arc_view.specs.Views.{Excepts}
use Rattle.arc_view.specs.Holding.{At}
use Rattle.arc_view.proofs.Advance.{CellKept, Good, slot_is}
pub use Rattle.arc_view.proofs.Words.{unique_found, slot_found}
use Rattle.arc_view.proofs.Words.{word_changes}
use Rattle.arc_view.proofs.Bridge.{Before}
use Rattle.arc_view.proofs.Classes.{in_shape_stays}
use Rattle.arc_view.proofs.Own.{work_own}
use Rattle.arc_view.proofs.Lasting.{immortal_same, header_inline}
use Rattle.arc_view.proofs.Counting.{Counted, counts_mortal, inline_counts, strong_mortal}
use Rattle.arc_view.proofs.Plain.{plain_count, plain_good}
use Rattle.arc_view.proofs.Recount.{IsRecount, Leaves, recount_says, recount_cells}

-- where each need holds, none fails
pub none_fails : (ns : List Need) → AreMet ns → first_failing ns ≡ None
none_fails [] m = refl
none_fails (n ∷ ns) m = ap (λ c. cond c (first_failing ns) (Some n.1)) m.0 ∙ none_fails ns m.1

pub entry_found : (shape : HeapShape) (h : History) (i e : ℕ) (o : Object) → IsLegal shape h → At (heap_after h) i o → o.entry ≡ Some e → at_entry e (heap_after h) ≡ Some o
entry_found shape h i e o legal at entry = unique_found (has_entry e) (heap_after h).objects i o (let once = (well_formed shape h legal).entries e in omega (arith, once)) at (slot_is o.entry e entry)

pub some_total : (w : Object → ℕ) (os : List Object) (i : ℕ) (o : Object) → slice_get os i ≡ Some o → w o ≡ 1 → 1 ≤ total w os
some_total w [] i o at is = absurd (None≢Some o at)
some_total w (r ∷ os) zero o at is = let e : w r ≡ w o = ap w (Some-inj at) in omega (arith, e, is)
some_total w (r ∷ os) (suc i) o at is = let ih = some_total w os i o at is in omega (arith, ih)

-- an object's entry is claimed by nobody
pub entry_unclaimed : (shape : HeapShape) (h : History) (i e q : ℕ) (o : Object) → IsLegal shape h → At (heap_after h) i o → o.entry ≡ Some e → is_claimed_by q e (heap_after h) ≡ true → ⊥
entry_unclaimed shape h i e q o legal at entry claim =
    let once = (well_formed shape h legal).entries e in
    let claimed = claim-counts q e (heap_after h).claims claim in
    let has : has_entry_times e o ≡ 1 = ap (λ t. more t zero) (slot_is o.entry e entry) in
    let some = some_total (has_entry_times e) (heap_after h).objects i o at has in omega (arith, once, claimed, some)

one_left : (x m : ℕ) → x ≡ m → 1 ≤ m → (x == 1) ≡ (m - 1 == 0)
one_left x zero is le = absurd (omega (arith, le))
one_left x (suc zero) is le = ap (λ n. n == 1) is
one_left x (suc (suc m)) is le = ne_eqb x 1 (λ e. omega (arith, e, is)) ∙ sym (ne_eqb (suc (suc m) - 1) 0 (λ e. omega (arith, e)))

pub put_there : (os rest : List Object) (o q : Object) → IsPut os rest o q → (j : ℕ) × (slice_get rest j ≡ Some q)
put_there os rest o q put = place-put rest os q o (record { before = put.before; after = put.after; old = put.new; new = put.old })

-- holders that are no cells come and go
pub no_hand : (z : Holder) (p k : ℕ) → is_cell z ≡ true → same_holder z (Hand p k) ≡ false
no_hand (Hand q n) p k h = absurd (true≢false (sym h))
no_hand (holders.Field o f) p k h = refl
no_hand (holders.Global g) p k h = refl
no_hand holders.Strongs p k h = refl
no_hand holders.Unowneds p k h = refl
no_hand holders.Forever p k h = refl

pub in_push : (z y : Holder) (xs : List Holder) → same_holder z y ≡ false → is_in z (xs ++ y ∷ []) ≡ is_in z xs
in_push z y [] h = ap (λ b. b || false) h
in_push z y (x ∷ xs) h = ap (λ b. same_holder z x || b) (in_push z y xs h)

pub in_without : (z x : Holder) (xs : List Holder) → same_holder z x ≡ false → is_in z (without x xs) ≡ is_in z xs
in_without z x [] h = refl
in_without z x (w ∷ ws) h = go (same_holder x w) refl (in_without z x ws h)
  where
    go : (b : Bool) → same_holder x w ≡ b → is_in z (without x ws) ≡ is_in z ws → is_in z (cond b ws (w ∷ without x ws)) ≡ (same_holder z w || is_in z ws)
    go true is ih = sym (ap (λ b. b || is_in z ws) (subst (λ y. same_holder z y ≡ false) (same-eq x w is) h))
    go false is ih = ap (λ b. same_holder z w || b) ih

pub length_without : (x : Holder) (xs : List Holder) → is_in x xs ≡ true → suc (length (without x xs)) ≡ length xs
length_without x [] h = absurd (true≢false (sym h))
length_without x (w ∷ ws) h = go (same_holder x w) h (length_without x ws)
  where
    go : (b : Bool) → (b || is_in x ws) ≡ true → (is_in x ws ≡ true → suc (length (without x ws)) ≡ length ws) → suc (length (cond b ws (w ∷ without x ws))) ≡ suc (length ws)
    go true h ih = refl
    go false h ih = ap suc (ih h)

pub some_length : (x : Holder) (xs : List Holder) → is_in x xs ≡ true → 1 ≤ length xs
some_length x [] h = absurd (true≢false (sym h))
some_length x (w ∷ ws) h = omega arith

pub empty_length : (xs : List Holder) → is_empty xs ≡ (length xs == 0)
empty_length [] = refl
empty_length (x ∷ xs) = sym (ne_eqb (suc (length xs)) 0 (λ e. omega (arith, e)))

alone_length : (xs : List Holder) → 1 ≤ length xs → is_alone xs ≡ (length xs - 1 == 0)
alone_length [] h = absurd (omega (arith, h))
alone_length (x ∷ []) h = refl
alone_length (x ∷ y ∷ ys) h = sym (ne_eqb (suc (suc (length ys)) - 1) 0 (λ e. omega (arith, e)))

pub alone_one : (xs : List Holder) → is_alone xs ≡ (length xs == 1)
alone_one [] = refl
alone_one (x ∷ []) = refl
alone_one (x ∷ y ∷ ys) = sym (ne_eqb (suc (suc (length ys))) 1 (λ e. omega (arith, e)))

many_alone : (xs : List Holder) → 1 ≤ length xs → is_alone (xs ++ holders.Forever ∷ []) ≡ false
many_alone [] h = absurd (omega (arith, h))
many_alone (x ∷ []) h = refl
many_alone (x ∷ y ∷ ys) h = refl

pub room_below : (shape : HeapShape) (o : Object) (xs : List Holder) → length xs < shape.caps.wide → has_room shape o xs ≡ true
room_below shape o xs lt = ap (λ b. b || is_immortal shape o) (lt-ltb (length xs) shape.caps.wide lt)

pub room_forever : (shape : HeapShape) (o : Object) (xs : List Holder) → is_immortal shape o ≡ true → has_room shape o xs ≡ true
room_forever shape o xs forever = ap (λ b. nat_lt (length xs) shape.caps.wide || b) forever ∙ either_true (nat_lt (length xs) shape.caps.wide)
  where
    either_true : (b : Bool) → (b || true) ≡ true
    either_true true = refl
    either_true false = refl

pub same_true : (b : Bool) → same_bool b b ≡ true
same_true true = refl
same_true false = refl

left_none : (last : Bool) (o : Object) → entry_of_last last kinds.Strong o ≡ None
left_none true o = refl
left_none false o = refl

-- the object after a strong drop
abbrev dropped : ℕ → Holder → Bool → Object → Object
dropped p z last o = ended_if last p kinds.Strong (record o { strong = without z o.strong })

drop_recount : (p k : ℕ) (last : Bool) (o : Object) → IsRecount o (dropped p (Hand p k) last o)
drop_recount p k true o = record { id = refl; class = refl; slot = refl; entry = refl; unowned = refl; weak = refl; strong = λ z c. in_without z (Hand p k) o.strong (no_hand z p k c) }
drop_recount p k false o = record { id = refl; class = refl; slot = refl; entry = refl; unowned = refl; weak = refl; strong = λ z c. in_without z (Hand p k) o.strong (no_hand z p k c) }

drop_strong : (p : ℕ) (z : Holder) (last : Bool) (o : Object) → (dropped p z last o).strong ≡ without z o.strong
drop_strong p z true o = refl
drop_strong p z false o = refl

-- a hand of the view in the strong list of an object
module _ (shape : HeapShape) (v : View) (h : History) (b : Before shape v h) (k i : ℕ) (o : Object) (at : spot (Hand v.number k) (heap_after h) ≡ Some (record { place = i; kind = kinds.Strong })) (here : At (heap_after h) i o) where
  abbrev heap : Heap
  heap = heap_after h

  abbrev z : Holder
  z = Hand v.number k

  listed : is_in z o.strong ≡ true
  listed = hand_listed shape h v.number k i kinds.Strong o b.legal at here

  found : find (holds z) heap.objects ≡ Some o
  found = let l = (lookup_after shape h z b.legal refl).there (record { place = i; kind = kinds.Strong }) at in l.2 ∙ (sym l.1 ∙ here)

  some : 1 ≤ length o.strong
  some = some_length z o.strong listed

  kind_is : kind_in z o ≡ kinds.Strong
  kind_is = ap (λ t. cond t kinds.Strong (cond (is_in z o.unowned) kinds.Unowned kinds.Weak)) listed

  list_is : list_with z o ≡ o.strong
  list_is = ap (λ kk. list_of kk o) kind_is

  -- strong down
  module _ (last : Bool) where
    abbrev given : Event
    given = record { thread = v.number; act = acts.Drop k last }

    abbrev down : Object
    down = dropped v.number z last o

    -- the heap after the drop, whose last holder leaves no entry to the thread
    abbrev fewer : Heap
    fewer = change (holds z) (given_up v.number z last) heap

    heap_is : fewer ≡ heap_after (given ∷ h)
    heap_is = ap (λ m. entry_to v.number m fewer) (sym (ap (entry_left z last) found ∙ (ap (λ kk. entry_of_last last kk o) kind_is ∙ left_none last o)))

    down_put : IsPut heap.objects fewer.objects o down
    down_put = subst (IsPut heap.objects fewer.objects o) (ap (λ kk. ended_if last v.number kk (with_list kk (without z) o)) kind_is) (put-found (holds z) (given_up v.number z last) heap.objects o found)

    down_recount : IsRecount o down
    down_recount = drop_recount v.number k last o

    shorter : suc (length down.strong) ≡ length o.strong
    shorter = ap (λ xs. suc (length xs)) (drop_strong v.number z last o) ∙ length_without z o.strong listed

    down_legal : last ≡ is_alone (strong_holders shape o) → IsLegal shape (given ∷ h)
    down_legal last_is = (
      none_fails (needs shape (sight v.number h) v.number given.act) (
        ap is_some found,
        (ap (passes (λ r. same_bool last (is_alone (holders_with shape z r)))) found ∙ (ap (λ kk. same_bool last (is_alone (holders_of shape kk o))) kind_is ∙ (ap (same_bool last) (sym last_is) ∙ same_true last)), tt),
      ),
      b.legal,
    )

    drop_at : (pl : Place) (x w : ℕ) → IsPlain heap pl → IsPlace (extent_of shape) pl → last ≡ is_alone (strong_holders shape o) → v.working.owes ≡ None → v.working.access ≡ None
        → ((q : Place) → q ≢ pl → Leaves shape heap fewer o down down_put refl down_recount q) → Says shape fewer pl w
        → Good shape v h (number (extent_of shape) pl) x w (Some (acts.Drop k last)) v.working
    drop_at pl x w plain inside last_is owes no_access elsewhere says = plain_good shape v h b pl plain inside x w (Some (acts.Drop k last)) v.working refl owes refl (down_legal last_is)
        (in_shape_stays shape given h (down_legal last_is) refl refl refl b.in_shape)
        (λ cell there. subst (λ g. CellKept shape heap g cell) heap_is (recount_cells shape heap fewer o down down_put refl down_recount cell))
        (work_own shape given h v.working (down_legal last_is) refl (λ m claim. ap (is_claimed_by v.number m) (sym heap_is) ∙ claim) (inl no_access) owes b.work)
        (λ Others ws shown. subst (λ g. ShowsBut (λ q. Excepts v.working q ⊎ Others q) shape g (set ws (number (extent_of shape) pl) w)) heap_is
        (word_changes shape (λ q. Excepts v.working q ⊎ Others q) (λ q. Excepts v.working q ⊎ Others q) heap fewer ws pl w inside shown (λ _. says) (λ q ne notE e. notE e)
        (λ q iq ne _ u t. recount_says shape heap fewer o down down_put refl down_recount q (elsewhere q ne) u t)))

  -- the object has no entry: its inline word alone depends on the list
  module _ (s : ℕ) (slot : o.slot ≡ Some s) (unentered : o.entry ≡ None) where
    elsewhere : (pl : Place) → pl ≢ Count s → (new : Heap) (q : Object) (put : IsPut heap.objects new.objects o q) (claims : new.claims ≡ heap.claims) (r : IsRecount o q) → Leaves shape heap new o q put claims r pl
    elsewhere places.Zero ne new q put claims r = tt
    elsewhere (places.Global g) ne new q put claims r = tt
    elsewhere (Count t) ne new q put claims r = λ is. absurd (ne (ap Count (Some-inj (sym is ∙ slot))))
    elsewhere (places.Isa t) ne new q put claims r = tt
    elsewhere (places.Next t) ne new q put claims r = tt
    elsewhere (places.Field t f) ne new q put claims r = tt
    elsewhere (places.Link e) ne new q put claims r = tt
    elsewhere (places.Strong e) ne new q put claims r = λ is. None≢Some e (sym unentered ∙ is)
    elsewhere (places.Unowned e) ne new q put claims r = tt
    elsewhere (places.Weak e) ne new q put claims r = tt
    elsewhere (places.SlotBits e) ne new q put claims r = tt
    elsewhere (places.EntryBits e) ne new q put claims r = tt

    down_slot : (last : Bool) → IsLegal shape (given last ∷ h) → at_slot s (fewer last) ≡ Some (down last)
    down_slot last legal = let t = put_there heap.objects (fewer last).objects o (down last) (down_put last) in
        ap (at_slot s) (heap_is last) ∙ slot_found shape (given last ∷ h) t.0 s (down last) legal (ap (λ (g : Heap). slice_get g.objects t.0) (sym (heap_is last)) ∙ t.1) ((down_recount last).slot ∙ slot)

  -- an immortal object: its inline word says so, and stays
  module _ (s x : ℕ) (slot : o.slot ≡ Some s) (lt : s < shape.slots) (one : x ≡ 1) (forever : is_immortal shape o ≡ true) (owes : v.working.owes ≡ None) where
    immortal_none : o.entry ≡ None
    immortal_none = ((well_formed shape h b.legal).immortal i o here forever).1

    forever_says : (new : Heap) (q : Object) → IsRecount o q → at_slot s new ≡ Some q → Says shape new (Count s) x
    forever_says new q r in_it = subst (λ m. ShowsCounts shape m x) (sym in_it) (subst (λ b. IsInline b shape q x) (sym (immortal_same shape o q r.class ∙ forever)) one)

    pub drop_forever_good : v.working.access ≡ None → Good shape v h (number (extent_of shape) (Count s)) x x (Some (acts.Drop k false)) v.working
    drop_forever_good no_access =
        let last_is : false ≡ is_alone (strong_holders shape o) = sym (ap (λ b. is_alone (o.strong ++ forever_if b)) forever ∙ many_alone o.strong some) in
        drop_at false (Count s) x x (plain_count heap s) lt last_is owes no_access (λ q ne. elsewhere s slot immortal_none q ne (fewer false) (down false) (down_put false) refl (down_recount false))
        (forever_says (fewer false) (down false) (down_recount false) (down_slot s slot immortal_none false (down_legal false last_is)))

  -- the object has no entry, and its inline word shows these counts
  module _ (s : ℕ) (c : Inline) (x : ℕ) (slot : o.slot ≡ Some s) (lt : s < shape.slots) (word : IsWordOf (Counts c) x) (live : c.deiniting ≡ false) (says : Says shape (heap_after h) (Count s) x) where
    inline : IsInline (is_immortal shape o) shape o x
    inline = subst (λ m. ShowsCounts shape m x) (slot_found shape h i s o b.legal here slot) says

    mortal : is_immortal shape o ≡ false
    mortal = counts_mortal shape o c x inline word

    counted : Counted shape o c
    counted = inline_counts shape o c x b.sized inline word

    extra : length o.strong - 1 ≡ c.strong_extra
    extra = ap (λ (d : Inline). d.strong_extra) counted.counts

    counts_say : (new : Heap) (q : Object) (w : ℕ) → IsRecount o q → at_slot s new ≡ Some q → IsHeader shape q None w → Says shape new (Count s) w
    counts_say new q w r in_it header = subst (λ m. ShowsCounts shape m w) (sym in_it)
        (header_inline shape q w (immortal_same shape o q r.class ∙ mortal) (subst (λ m. IsHeader shape q m w) (sym (r.entry ∙ counted.entry)) header))

    module _ (last : Bool) (is_last : last ≡ (c.strong_extra == 0)) (owes : v.working.owes ≡ None) (no_access : v.working.access ≡ None) where
      last_is : last ≡ is_alone (strong_holders shape o)
      last_is = is_last ∙ (ap (λ e. e == 0) (sym extra) ∙ (sym (alone_length o.strong some) ∙ sym (ap is_alone (strong_mortal shape o mortal))))

      down_counts : counts_in (down last) ≡ strong_less c
      down_counts = by c.strong_extra refl
        where
          unowned_is : length (down last).unowned ≡ c.unowned
          unowned_is = ap length (down_recount last).unowned ∙ ap (λ (d : Inline). d.unowned) counted.counts

          by : (e : ℕ) → c.strong_extra ≡ e → counts_in (down last) ≡ strong_less c
          by zero is =
              let none : length (down last).strong ≡ 0 = omega (arith, shorter last, extra, some, is) in
              (λ j. record {
                strong_extra = (let e : length (down last).strong - 1 ≡ c.strong_extra = omega (arith, none, is) in e) j;
                unowned = unowned_is j;
                deiniting = (empty_length (down last).strong ∙ ap (λ m. m == 0) none) j;
              }) ∙ sym (ap (λ t. cond t (record c { deiniting = true }) (record c { strong_extra = c.strong_extra - 1 })) (ap (λ m. m == 0) is))
          by (suc e) is =
              let more : length (down last).strong ≡ suc e = omega (arith, shorter last, extra, some, is) in
              (λ j. record {
                strong_extra = (let e : length (down last).strong - 1 ≡ c.strong_extra - 1 = omega (arith, more, is) in e) j;
                unowned = unowned_is j;
                deiniting = (empty_length (down last).strong ∙ (ne_eqb (length (down last).strong) 0 (λ z. omega (arith, more, z)) ∙ sym live)) j;
              }) ∙ sym (ap (λ t. cond t (record c { deiniting = true }) (record c { strong_extra = c.strong_extra - 1 })) (ne_eqb c.strong_extra 0 (λ z. omega (arith, is, z))))

      down_header : IsHeader shape (down last) None (counts_word (strong_less c))
      down_header = (ap counts_word (sym down_counts), (let cap = counted.strong_cap in omega (arith, shorter last, cap)), subst (λ xs. length xs ≤ shape.caps.unowned) (sym (down_recount last).unowned) counted.unowned_cap)

      pub drop_good : Good shape v h (number (extent_of shape) (Count s)) x (counts_word (strong_less c)) (Some (acts.Drop k last)) v.working
      drop_good = drop_at last (Count s) x (counts_word (strong_less c)) (plain_count heap s) lt last_is owes no_access (λ q ne. elsewhere s slot counted.entry q ne (fewer last) (down last) (down_put last) refl (down_recount last))
          (counts_say (fewer last) (down last) (counts_word (strong_less c)) (down_recount last) (down_slot s slot counted.entry last (down_legal last last_is)) down_header)

  -- the object has an entry, whose strong word counts the list
  module _ (e x : ℕ) (entry : o.entry ≡ Some e) (lt : e < shape.entries) (says : Says shape (heap_after h) (places.Strong e) x) where
    entry_says : (x ≡ length o.strong) × (x ≤ shape.caps.wide)
    entry_says = subst (λ m. ShowsHolders shape kinds.Strong m x) (entry_found shape h i e o b.legal here entry) says

    elsewhere_entry : (pl : Place) → pl ≢ places.Strong e → (new : Heap) (q : Object) (put : IsPut heap.objects new.objects o q) (claims : new.claims ≡ heap.claims) (r : IsRecount o q) → Leaves shape heap new o q put claims r pl
    elsewhere_entry places.Zero ne new q put claims r = tt
    elsewhere_entry (places.Global g) ne new q put claims r = tt
    elsewhere_entry (Count t) ne new q put claims r = λ is. inl (e, entry)
    elsewhere_entry (places.Isa t) ne new q put claims r = tt
    elsewhere_entry (places.Next t) ne new q put claims r = tt
    elsewhere_entry (places.Field t f) ne new q put claims r = tt
    elsewhere_entry (places.Link f) ne new q put claims r = tt
    elsewhere_entry (places.Strong f) ne new q put claims r = λ is. ne (ap places.Strong (Some-inj (sym is ∙ entry)))
    elsewhere_entry (places.Unowned f) ne new q put claims r = tt
    elsewhere_entry (places.Weak f) ne new q put claims r = tt
    elsewhere_entry (places.SlotBits f) ne new q put claims r = tt
    elsewhere_entry (places.EntryBits f) ne new q put claims r = tt

    -- an immortal object has no entry
    entry_mortal : is_immortal shape o ≡ false
    entry_mortal = by (is_immortal shape o) refl
      where
        by : (b : Bool) → is_immortal shape o ≡ b → b ≡ false
        by true is = absurd (None≢Some e (sym ((well_formed shape h b.legal).immortal i o here is).1 ∙ entry))
        by false is = refl

    plain_entry : IsPlain heap (places.Strong e)
    plain_entry = record { unowned = λ q claim. entry_unclaimed shape h i e q o b.legal here entry claim; cell = no_cell }
      where
        no_cell : (c : CellName) → cell_place c ≡ places.Strong e → ⊥
        no_cell (cells.Field t f) e = cc
        no_cell (cells.Global g) e = cc

    pub drop_entry_good : (w : ℕ) → x ≡ suc w → v.working.owes ≡ None → v.working.access ≡ None → Good shape v h (number (extent_of shape) (places.Strong e)) x w (Some (acts.Drop k (x == 1))) v.working
    drop_entry_good w is owes no_access =
        let last : Bool = x == 1 in
        let last_is : last ≡ is_alone (strong_holders shape o) = one_left x (length o.strong) entry_says.0 some ∙ (sym (alone_length o.strong some) ∙ sym (ap is_alone (strong_mortal shape o entry_mortal))) in
        let t = put_there heap.objects (fewer last).objects o (down last) (down_put last) in
        let there = ap (at_entry e) (heap_is last) ∙ entry_found shape (given last ∷ h) t.0 e (down last) (down_legal last last_is) (ap (λ (g : Heap). slice_get g.objects t.0) (sym (heap_is last)) ∙ t.1) ((down_recount last).entry ∙ entry) in
        drop_at last (places.Strong e) x w plain_entry lt last_is owes no_access (λ q ne. elsewhere_entry q ne (fewer last) (down last) (down_put last) refl (down_recount last))
        (subst (λ m. ShowsHolders shape kinds.Strong m w) (sym there) ((let long = entry_says.0 in omega (arith, long, is, shorter last)), (let cap = entry_says.1 in omega (arith, cap, is))))
