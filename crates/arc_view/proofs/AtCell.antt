-- An event of a pass that changes one cell: what it owes, and where the cells of the heap after it stand.
use Rattle.std.proofs.Common.{◌≡◌, ◌≢◌, ◌⊎◌, inl, inr, ⊎_elim, ℕ, zero, suc, ◌+◌, ◌≤◌, Bool, true, false, cond, List, [], ◌∷◌, ◌++◌, map, set, Option, Some, None, refl, sym, ap, ◌∙◌, subst, arith, eq-eqb, get_or-set_other}
use Rattle.std.specs.Prelude.{slice_get, find, is_some, ◌||◌}
use Rattle.std.specs.List.{list_any}
use Rattle.arc_model.specs.declared.event.Act.{Act}
use Rattle.arc_model.specs.declared.event.CellName.{CellName}
use Rattle.arc_model.specs.declared.event.CellName.TheVariants as cells
use Rattle.arc_model.specs.declared.shape.Kind.{Kind}
use Rattle.arc_model.specs.declared.shape.Kind.TheVariants as kinds
use Rattle.arc_model.specs.Shapes.{HeapShape}
use Rattle.arc_model.specs.Heaps.{Holder, Hand, Object, Heap}
use Rattle.arc_model.specs.Heaps as holders
use Rattle.arc_model.specs.Holders.{same_holder, is_hand_of, is_in, is_empty, holds, kind_in, list_of, held_by, at_slot}
use Rattle.arc_model.specs.Cells.{cell, id_of, has_field, field_shape, cell_shape}
use Rattle.arc_model.specs.Needs.{Need, reachable, passes}
use Rattle.arc_model.specs.History.{History, heap_after, next_hand, IsLegal}
use Rattle.arc_model.specs.Lookup.{Spot, spot, spot_in, further, is_cell}
use Rattle.arc_model.specs.References.{reference_in, reference_of, reference_to, place_of}
use Rattle.arc_model.specs.WellFormed.{is_own, IsWhole, live, deiniting, deinited, vacating, going, freed, dead}
use Rattle.arc_model.proofs.Basics.{AreMet, None≢Some, Some-inj, in-strong, in-not_empty}
use Rattle.arc_model.proofs.Tally.{no, clash, same-eq}
use Rattle.arc_model.proofs.Stages.{live-facts}
use Rattle.arc_model.proofs.Courses.{well_formed, or-right}
use Rattle.arc_model.proofs.Fields.{names-once, one-name}
use Rattle.arc_model.proofs.Others.{lookup_after}
use Rattle.arc_rule.specs.declared.layout.Place.{Place}
use Rattle.arc_rule.specs.declared.layout.Place.TheVariants as places
use Rattle.arc_rule.specs.Places.{IsPlace, extent_of, number}
use Rattle.arc_rule.specs.Shown.{Says, cell_word, field_word, field_word_if}
use Rattle.arc_view.specs.declared.view.Begun.{Begun}
use Rattle.arc_view.specs.declared.view.Entered.{Entered}
use Rattle.arc_view.specs.declared.view.Working.{Working}
use Rattle.arc_view.specs.declared.view.View.{View}
use Rattle.arc_view.specs.Views.{Each, cell_place, kept_next, private_words, Excepts}
use Rattle.arc_view.specs.Holding.{At, CanReach, Owns}
use Rattle.arc_view.specs.Rule.{WorkFits, Lies, InShape}
use Rattle.arc_view.proofs.Words.{number_same, word_changes, slot_found}
use Rattle.arc_view.proofs.Held.{hand_listed}
use Rattle.arc_view.proofs.Keeps.{stays_self}
use Rattle.arc_view.proofs.Advance.{Good, reach_there, lies_stay}
use Rattle.arc_view.proofs.Bridge.{Before}
use Rattle.arc_view.proofs.Alike.{AreLike, this_side, HasCell, field_parts, cell_word_apart, slot_like, like_says, like_cells}

pub cell_is : (heap : Heap) (c : CellName) → is_cell (cell heap c) ≡ true
cell_is heap (cells.Field s f) = refl
cell_is heap (cells.Global g) = refl

pub cell_own : (heap : Heap) (c : CellName) → is_own (cell heap c) ≡ true
cell_own heap (cells.Field s f) = refl
cell_own heap (cells.Global g) = refl

-- a cell that is reached is there
pub reach_has : (shape : HeapShape) (heap : Heap) (p : ℕ) (c : CellName) → CanReach shape heap p c → HasCell shape heap c
reach_has shape heap p (cells.Global g) r = tt
reach_has shape heap p (cells.Field s f) (k, i, o, at, here, slot, has) = (i, o, here, slot, has)

any_hand : (p k : ℕ) (xs : List Holder) → is_in (Hand p k) xs ≡ true → list_any (is_hand_of p) xs ≡ true
any_hand p k [] e = no e
any_hand p k (z ∷ zs) e = go (same_holder (Hand p k) z) refl (any_hand p k zs) e
  where
    go : (b : Bool) → same_holder (Hand p k) z ≡ b → (is_in (Hand p k) zs ≡ true → list_any (is_hand_of p) zs ≡ true) → (b || is_in (Hand p k) zs) ≡ true → (is_hand_of p z || list_any (is_hand_of p) zs) ≡ true
    go true is ih e = ap (λ y. is_hand_of p y || list_any (is_hand_of p) zs) (sym (same-eq (Hand p k) z is)) ∙ ap (λ b. b || list_any (is_hand_of p) zs) (eq-eqb p p refl)
    go false is ih e = or-right (is_hand_of p z) (list_any (is_hand_of p) zs) (ih e)

-- what is needed to reach a cell
pub reach_met : (shape : HeapShape) (h : History) (p : ℕ) (c : CellName) (more : List Need) → IsLegal shape h → CanReach shape (heap_after h) p c → AreMet more → AreMet (reachable shape (heap_after h) p c ++ more)
reach_met shape h p (cells.Global g) more legal r met = met
reach_met shape h p (cells.Field s f) more legal (k, i, o, at, here, slot, has) met =
    let found = slot_found shape h i s o legal here slot in (
      ap is_some found,
      (ap (passes (has_field shape f)) found ∙ has, (ap (passes (λ q. list_any (is_hand_of p) q.strong)) found ∙ any_hand p k o.strong (hand_listed shape h p k i kinds.Strong o legal at here), met)),
    )

-- the object at the spot of a holder, and its list
further_is : (m : Option Spot) (s : Spot) → further m ≡ Some s → (t : Spot) × (m ≡ Some t) × (record { place = suc t.place; kind = t.kind } ≡ s)
further_is None s e = absurd (None≢Some s e)
further_is (Some t) s e = (t, refl, Some-inj e)

pub record Stood (z : Holder) (os : List Object) (s : Spot) : Type 0 where
  pub object : Object
  pub here : slice_get os s.place ≡ Some object
  pub found : find (holds z) os ≡ Some object
  pub kind : kind_in z object ≡ s.kind

pub stands_at : (z : Holder) (os : List Object) (s : Spot) → spot_in z os ≡ Some s → Stood z os s
stands_at z [] s e = absurd (None≢Some s e)
stands_at z (o ∷ os) s e = go (holds z o) refl (stands_at z os) e
  where
    go : (b : Bool) → holds z o ≡ b → ((t : Spot) → spot_in z os ≡ Some t → Stood z os t) → cond b (Some (record { place = zero; kind = kind_in z o })) (further (spot_in z os)) ≡ Some s → Stood z (o ∷ os) s
    go true is ih e = subst (Stood z (o ∷ os)) (Some-inj e) (record { object = o; here = refl; found = ap (λ b. cond b (Some o) (find (holds z) os)) is; kind = refl })
    go false is ih e =
        let t = further_is (spot_in z os) s e in
        let l = ih t.0 t.1 in
        subst (Stood z (o ∷ os)) t.2 (record { object = l.object; here = l.here; found = ap (λ b. cond b (Some o) (find (holds z) os)) is ∙ l.found; kind = l.kind })

some_is : {X : Type 0} (m : Option X) → is_some m ≡ true → (x : X) × (m ≡ Some x)
some_is None e = no e
some_is (Some x) e = (x, refl)

slot_there : {shape : HeapShape} (o : Object) → IsWhole shape o → is_empty o.unowned ≡ false → is_some o.slot ≡ true
slot_there o (live s d l a b p) busy = l
slot_there o (deiniting s d l a b p) busy = l
slot_there o (deinited s d l a u b p) busy = l
slot_there o (vacating s d l u b p) busy = l
slot_there o (going s d l u b e) busy = clash (is_empty o.unowned) u busy
slot_there o (freed s d l u b w e) busy = clash (is_empty o.unowned) u busy
slot_there o (dead s d l u w e) busy = clash (is_empty o.unowned) u busy

not_unowneds : (z : Holder) → is_own z ≡ true → is_in z (holders.Unowneds ∷ []) ≡ false
not_unowneds (Hand p k) own = refl
not_unowneds (holders.Field o f) own = refl
not_unowneds (holders.Global g) own = refl
not_unowneds holders.Strongs own = no own
not_unowneds holders.Unowneds own = no own
not_unowneds holders.Forever own = no own

-- an object with a weak holder of its own has an entry
entry_there : {shape : HeapShape} (z : Holder) (o : Object) → is_own z ≡ true → IsWhole shape o → is_in z o.weak ≡ true → is_some o.entry ≡ true
entry_there z o own whole listed = by whole
  where
    plain : (o.entry ≡ None → o.weak ≡ holders.Unowneds ∷ []) → is_some o.entry ≡ true
    plain alone = go o.entry alone
      where
        go : (m : Option ℕ) → (m ≡ None → o.weak ≡ holders.Unowneds ∷ []) → is_some m ≡ true
        go (Some e) alone = refl
        go None alone = clash (is_in z o.weak) listed (ap (is_in z) (alone refl) ∙ not_unowneds z own)

    by : {shape : HeapShape} → IsWhole shape o → is_some o.entry ≡ true
    by (live s d l a b p) = plain p
    by (deiniting s d l a b p) = plain p
    by (deinited s d l a u b p) = plain p
    by (vacating s d l u b p) = plain p
    by (going s d l u b e) = e
    by (freed s d l u b w e) = e
    by (dead s d l u w e) = clash (is_empty o.weak) w (in-not_empty z o.weak listed)

-- a reference leads to a slot or an entry
leads : (shape : HeapShape) (z : Holder) (kind : Kind) (o : Object) → is_own z ≡ true → IsWhole shape o → is_in z (list_of kind o) ≡ true → (m : ℕ) × (place_of kind o ≡ Some m)
leads shape z kinds.Strong o own whole listed = some_is o.slot (live-facts o whole (in-strong shape z o listed)).slot
leads shape z kinds.Unowned o own whole listed = some_is o.slot (slot_there o whole (in-not_empty z o.unowned listed))
leads shape z kinds.Weak o own whole listed = some_is o.entry (entry_there z o own whole listed)

-- the word of a reference of this kind to the object
pub word_is : (z : Holder) (heap : Heap) (kind : Kind) (o : Object) (m : ℕ) → held_by z heap ≡ Some o → kind_in z o ≡ kind → place_of kind o ≡ Some m → cell_word (reference_of z heap) ≡ m + 2
word_is z heap kind o m found is place = ap (λ r. cell_word (reference_in z r)) found ∙ (ap (λ k. cell_word (reference_to k (place_of k o))) is ∙ ap (λ r. cell_word (reference_to kind r)) place)

-- what the word of a cell shows
pub cell_shows : (shape : HeapShape) (h : History) (c : CellName) (x : ℕ) → IsLegal shape h → x ≡ cell_word (reference_of (cell (heap_after h) c) (heap_after h))
    → ((x ≡ 0) × (held_by (cell (heap_after h) c) (heap_after h) ≡ None)) ⊎ ((o : Object) × (held_by (cell (heap_after h) c) (heap_after h) ≡ Some o) × (2 ≤ x))
cell_shows shape h c x legal says = by (spot (cell (heap_after h) c) (heap_after h)) refl
  where
    z : Holder
    z = cell (heap_after h) c

    by : (m : Option Spot) → spot (cell (heap_after h) c) (heap_after h) ≡ m
        → ((x ≡ 0) × (held_by (cell (heap_after h) c) (heap_after h) ≡ None)) ⊎ ((o : Object) × (held_by (cell (heap_after h) c) (heap_after h) ≡ Some o) × (2 ≤ x))
    by None at = let none = (lookup_after shape h (cell (heap_after h) c) legal (cell_own (heap_after h) c)).nowhere at in inl (says ∙ ap (λ m. cell_word (reference_in (cell (heap_after h) c) m)) none, none)
    by (Some s) at =
        let t = stands_at (cell (heap_after h) c) (heap_after h).objects s at in
        let l = (lookup_after shape h (cell (heap_after h) c) legal (cell_own (heap_after h) c)).there s at in
        let same : l.0 ≡ t.object = Some-inj (sym l.2 ∙ t.found) in
        let listed : is_in (cell (heap_after h) c) (list_of s.kind t.object) ≡ true = subst (λ (o : Object). is_in (cell (heap_after h) c) (list_of s.kind o) ≡ true) same l.3 in
        let m = leads shape (cell (heap_after h) c) s.kind t.object (cell_own (heap_after h) c) ((well_formed shape h legal).whole s.place t.object t.here) listed in
        inr (t.object, t.found, (let w = says ∙ word_is (cell (heap_after h) c) (heap_after h) s.kind t.object m.0 t.found t.kind m.1 in omega (arith, w)))

-- the word of a cell is that of what it refers to
pub says_cell : (shape : HeapShape) (h : History) (c : CellName) (x : ℕ) → IsLegal shape h → HasCell shape (heap_after h) c → Says shape (heap_after h) (cell_place c) x → x ≡ cell_word (reference_of (cell (heap_after h) c) (heap_after h))
says_cell shape h (cells.Global g) x legal has says = says
says_cell shape h (cells.Field s f) x legal (i, o, here, slot, has) says =
    let found = slot_found shape h i s o legal here slot in
    says ∙ (ap (field_word shape (heap_after h) f) found ∙ (ap (λ b. field_word_if b shape (heap_after h) f o) has ∙ sym (ap (λ m. cell_word (reference_of (holders.Field (id_of m) f) (heap_after h))) found)))

-- the shape of a cell is that of the holder
pub field_shape_is : (shape : HeapShape) (h : History) (c : CellName) (i f : ℕ) (r : Object) → IsLegal shape h → HasCell shape (heap_after h) c → At (heap_after h) i r → same_holder (holders.Field r.id f) (cell (heap_after h) c) ≡ true
    → field_shape shape f (Some r) ≡ cell_shape shape (heap_after h) c
field_shape_is shape h (cells.Global g) i f r legal has here same = no same
field_shape_is shape h (cells.Field s n) i f r legal (j, q, at, slot, has) here same =
    let found = slot_found shape h j s q legal at slot in
    let parts = field_parts r.id (id_of (at_slot s (heap_after h))) f n (same-eq (holders.Field r.id f) (cell (heap_after h) (cells.Field s n)) same) in
    let one : r ≡ q = one-name q.id (heap_after h).objects i j r q (names-once (λ p. next_hand p h) (heap_after h) (well_formed shape h legal) q.id) here (parts.0 ∙ ap id_of found) at refl in
    ap (λ m. field_shape shape m (Some r)) parts.1 ∙ (ap (λ o. field_shape shape n (Some o)) one ∙ sym (ap (field_shape shape n) found))

pub global_shape_is : (shape : HeapShape) (heap : Heap) (c : CellName) (m : ℕ) → same_holder (holders.Global m) (cell heap c) ≡ true → slice_get shape.globals m ≡ cell_shape shape heap c
global_shape_is shape heap (cells.Global g) m same = let is : holders.Global m ≡ holders.Global g = same-eq (holders.Global m) (holders.Global g) same in let number_is : m ≡ g = cc in ap (slice_get shape.globals) number_is
global_shape_is shape heap (cells.Field s f) m same = no same

-- another such cell at the place of a cell
pub not_owned : (heap : Heap) (c : CellName) (q : ℕ) → Owns heap q (cell_place c) → ⊥
not_owned heap (cells.Field s f) q own = own
not_owned heap (cells.Global g) q own = own

-- what is excepted is so by what is owed and accessed
pub excepts_same : (w u : Working) → w.owes ≡ u.owes → w.access ≡ u.access → (pl : Place) → Excepts w pl → Excepts u pl
excepts_same w u owes access places.Zero e = absurd (e)
excepts_same w u owes access (places.Global g) (a, begun, is) = (a, sym access ∙ begun, is)
excepts_same w u owes access (places.Count s) e = sym owes ∙ e
excepts_same w u owes access (places.Isa s) (n, owed, is) = (n, sym owes ∙ owed, is)
excepts_same w u owes access (places.Next s) e = absurd (e)
excepts_same w u owes access (places.Field s f) (a, begun, is) = (a, sym access ∙ begun, is)
excepts_same w u owes access (places.Link e) x = absurd (x)
excepts_same w u owes access (places.Strong e) x = absurd (x)
excepts_same w u owes access (places.Unowned e) x = absurd (x)
excepts_same w u owes access (places.Weak e) x = absurd (x)
excepts_same w u owes access (places.SlotBits k) x = absurd (x)
excepts_same w u owes access (places.EntryBits k) x = absurd (x)

-- An event that changes a cell, whose word was settled. Of what is under way it may change at which field an entered deinit goes on.
module _ (shape : HeapShape) (v : View) (h : History) (b : Before shape v h) (c : CellName) (act : Act) (x w : ℕ) (es : List Entered) (inside : IsPlace (extent_of shape) (cell_place c)) (has : HasCell shape (heap_after h) c)
    (owes : v.working.owes ≡ None) (free : x ≢ 1) (may : IsLegal shape (record { thread = v.number; act = act } ∷ h)) (in_shape : InShape shape (record { thread = v.number; act = act } ∷ h))
    (like : AreLike (cell (heap_after h) c) (heap_after h).objects (heap_after (record { thread = v.number; act = act } ∷ h)).objects) (claims : (heap_after (record { thread = v.number; act = act } ∷ h)).claims ≡ (heap_after h).claims)
    (shows : w ≡ cell_word (reference_of (cell (heap_after h) c) (heap_after (record { thread = v.number; act = act } ∷ h)))) (kept : map kept_next es ≡ map kept_next v.working.entered)
    (fits : WorkFits shape v.number (record { thread = v.number; act = act } ∷ h) (record v.working { entered = es })) (accessed : (a : Begun) → v.working.access ≡ Some a → cell_place a.cell ≢ cell_place c) where
  abbrev after : History
  after = record { thread = v.number; act = act } ∷ h

  abbrev z : Holder
  z = cell (heap_after h) c

  abbrev at : ℕ
  at = number (extent_of shape) (cell_place c)

  abbrev work : Working
  work = record v.working { entered = es }

  apart_says : (pl : Place) → pl ≢ cell_place c → (u : ℕ) → Says shape (heap_after h) pl u → Says shape (heap_after after) pl u
  apart_says = like_says shape h b.legal z (cell_place c) (heap_after after) (cell_word_apart shape h c b.legal has) like claims

  new_word : (d : CellName) → HasCell shape (heap_after h) d → d ≡ c → Says shape (heap_after after) (cell_place d) w
  new_word (cells.Global g) has is = shows ∙ ap (λ e. cell_word (reference_of (cell (heap_after h) e) (heap_after after))) (sym is)
  new_word (cells.Field s f) (i, o, here, slot, has_it) is =
      let found = slot_found shape h i s o b.legal here slot in
      let q = this_side z (at_slot s (heap_after h)) (at_slot s (heap_after after)) o (slot_like shape h b.legal z (cell_place c) (heap_after after) (cell_word_apart shape h c b.legal has) like claims s) found in
      let id : q.0.id ≡ id_of (at_slot s (heap_after h)) = q.2.id ∙ sym (ap id_of found) in
      let field : has_field shape f q.0 ≡ true = ap (λ k. has_field shape f (record o { class = k })) q.2.class ∙ has_it in
      shows ∙ (ap (λ e. cell_word (reference_of (cell (heap_after h) e) (heap_after after))) (sym is)
      ∙ sym (ap (field_word shape (heap_after after) f) q.1 ∙ (ap (λ b. field_word_if b shape (heap_after after) f q.0) field ∙ ap (λ d. cell_word (reference_of (holders.Field d f) (heap_after after))) id)))

  unowned : (pl : Place) → IsPlace (extent_of shape) pl → number (extent_of shape) pl ≡ at → (q : ℕ) → Owns (heap_after h) q pl → ⊥
  unowned pl in_it is q own = not_owned (heap_after h) c q (subst (λ r. Owns (heap_after h) q r) (number_same (extent_of shape) pl (cell_place c) in_it inside is) own)

  pub cell_good : Good shape v h (number (extent_of shape) (cell_place c)) x w (Some act) (record v.working { entered = es })
  cell_good = record {
    may = may;
    in_shape = in_shape;
    safe = inr (λ pl in_it is q own. absurd (unowned pl in_it is q own));
    calm = inr (λ d in_it is one. absurd (free one));
    cells = λ d in_it there ne. like_cells shape h b.legal z (cell_place c) (heap_after after) (cell_word_apart shape h c b.legal has) like claims d there (λ e. ne (ap (number (extent_of shape)) e));
    begins = λ a e. inl e;
    words = λ Others ws shown l e. word_changes shape (λ q. Excepts v.working q ⊎ Others q) (λ q. Excepts work q ⊎ Others q) (heap_after h) (heap_after after) ws (cell_place c) w inside shown
        (λ _. new_word c has refl) (λ q ne notF e. notF (⊎_elim (λ mine. inl (excepts_same v.working work refl refl q mine)) (λ others. inr others) e)) (λ q iq ne _ u t. apart_says q ne u t);
    fits = fits;
    lying = λ Others ws shown l e. record {
      private = subst (λ ks. Each (Lies shape (set ws at w)) (v.working.stored ++ ks)) (sym kept) (lies_stay shape (heap_after h) ws at w v.number (private_words v.working) b.work.private l.private (inr (λ pl in_it is own. unowned pl in_it is v.number own)));
      access = λ a begun.
          let f = l.access a begun in
          let r = b.work.reaches a begun in
          let k = like_cells shape h b.legal z (cell_place c) (heap_after after) (cell_word_apart shape h c b.legal has) like claims a.cell (reach_there shape h v.number a.cell b.legal r.1) (accessed a begun) in record {
            busy = get_or-set_other ws at (number (extent_of shape) (cell_place a.cell)) w 0 (λ e. accessed a begun (number_same (extent_of shape) (cell_place a.cell) (cell_place c) r.0 inside e)) ∙ f.busy;
            value = k.says a.value f.value;
            stays = stays_self after a.cell;
          };
      naming = λ s owed. absurd (None≢Some (record { slot = s; counted = false }) (sym owes ∙ owed));
    };
  }
