-- Two heaps that are alike but for what one cell and hands refer to: they say the same of the other words, and of the other cells.
use Rattle.std.proofs.Common.{◌≡◌, ◌≢◌, ℕ, zero, suc, ◌+◌, ◌-◌, ◌≤◌, ◌==◌, not, Bool, true, false, cond, List, [], ◌∷◌, length, Option, Some, None, refl, sym, ap, ◌∙◌, subst}
use Rattle.std.specs.Prelude.{slice_get, find, is_some, ◌||◌, ◌&&◌, ⊤}
use Rattle.std.specs.List.{list_any}
use Rattle.std.proofs.lemmas.Bool.{and_parts}
use Rattle.arc_bits.specs.declared.packing.Word.TheVariants.{Counts}
use Rattle.arc_bits.specs.Words.{packed}
use Rattle.arc_model.specs.declared.event.CellName.{CellName}
use Rattle.arc_model.specs.declared.event.CellName.TheVariants as cells
use Rattle.arc_model.specs.declared.event.ObjectId.{ObjectId}
use Rattle.arc_model.specs.declared.shape.Kind.{Kind}
use Rattle.arc_model.specs.declared.shape.Kind.TheVariants as kinds
use Rattle.arc_model.specs.Shapes.{HeapShape}
use Rattle.arc_model.specs.Heaps.{Holder, Hand, Object, Heap}
use Rattle.arc_model.specs.Heaps as holders
use Rattle.arc_model.specs.Holders.{same_holder, is_in, is_empty, is_number, lists, renamed, holds, kind_in, list_of, in_slot, has_entry, held_by, at_slot, at_entry, at_first, claims_it, is_slot_taken, is_entry_taken}
use Rattle.arc_model.specs.Cells.{cell, id_of, is_immortal, has_field}
use Rattle.arc_model.specs.Effects.{put_in, taken_out}
use Rattle.arc_model.specs.History.{History, heap_after, next_hand, IsLegal}
use Rattle.arc_model.specs.Lookup.{spot, spot_in, further, is_cell}
use Rattle.arc_model.specs.References.{reference_in, reference_of, reference_to, place_of, name_of}
use Rattle.arc_model.proofs.Basics.{None≢Some, Some-inj, opposite}
use Rattle.arc_model.proofs.Tally.{no, same-eq}
use Rattle.arc_model.proofs.Courses.{well_formed}
use Rattle.arc_model.proofs.Fields.{names-once, one-name}
use Rattle.arc_model.proofs.Others.{false-if}
use Rattle.arc_rule.specs.Isa.{isa_word_of}
use Rattle.arc_rule.specs.declared.layout.Place.{Place}
use Rattle.arc_rule.specs.declared.layout.Place.TheVariants as places
use Rattle.arc_rule.specs.Shown.{Says, IsHeader, IsInline, ShowsCounts, ShowsName, IsLink, ShowsLink, ShowsHolders, cell_word, counts_in, field_word, field_word_if}
use Rattle.arc_view.specs.Views.{cell_place}
use Rattle.arc_view.specs.Holding.{At}
use Rattle.arc_view.proofs.Lasting.{immortal_same, bits_last}
use Rattle.arc_view.proofs.Words.{slot_found}
use Rattle.arc_view.proofs.Put.{is_number_some}
use Rattle.arc_view.proofs.Advance.{CellKept, IsThere}
use Rattle.arc_view.proofs.Strongs.{empty_length}

-- a cell that isn't this one
abbrev pub is_other : Holder → Holder → Bool
is_other g z = is_cell z && not (same_holder z g)

-- z is in the same lists
abbrev pub SameIn : Holder → Object → Object → Type 0
SameIn z o q = (is_in z q.strong ≡ is_in z o.strong) × (is_in z q.unowned ≡ is_in z o.unowned) × (is_in z q.weak ≡ is_in z o.weak)

-- o, where hands and the one cell hold it by other names
pub record IsLike (g : Holder) (o q : Object) : Type 0 where
  pub id : q.id ≡ o.id
  pub class : q.class ≡ o.class
  pub slot : q.slot ≡ o.slot
  pub entry : q.entry ≡ o.entry
  pub strong : length q.strong ≡ length o.strong
  pub unowned : length q.unowned ≡ length o.unowned
  pub weak : length q.weak ≡ length o.weak
  pub inside : (z : Holder) → is_other g z ≡ true → SameIn z o q

like_self : (g : Holder) (o : Object) → IsLike g o o
like_self g o = record { id = refl; class = refl; slot = refl; entry = refl; strong = refl; unowned = refl; weak = refl; inside = λ z c. (refl, refl, refl) }

like_both : (g : Holder) (o m q : Object) → IsLike g o m → IsLike g m q → IsLike g o q
like_both g o m q a b = record {
  id = b.id ∙ a.id;
  class = b.class ∙ a.class;
  slot = b.slot ∙ a.slot;
  entry = b.entry ∙ a.entry;
  strong = b.strong ∙ a.strong;
  unowned = b.unowned ∙ a.unowned;
  weak = b.weak ∙ a.weak;
  inside = λ z c. let s = a.inside z c in let t = b.inside z c in (t.0 ∙ s.0, t.1 ∙ s.1, t.2 ∙ s.2);
}

renamed_length : (x y : Holder) (xs : List Holder) → length (renamed x y xs) ≡ length xs
renamed_length x y [] = refl
renamed_length x y (w ∷ ws) = go (same_holder x w) (renamed_length x y ws)
  where
    go : (b : Bool) → length (renamed x y ws) ≡ length ws → length (cond b (y ∷ ws) (w ∷ renamed x y ws)) ≡ suc (length ws)
    go true ih = refl
    go false ih = ap suc ih

in_renamed : (z x y : Holder) (xs : List Holder) → same_holder z x ≡ false → same_holder z y ≡ false → is_in z (renamed x y xs) ≡ is_in z xs
in_renamed z x y [] h k = refl
in_renamed z x y (w ∷ ws) h k = go (same_holder x w) refl (in_renamed z x y ws h k)
  where
    go : (b : Bool) → same_holder x w ≡ b → is_in z (renamed x y ws) ≡ is_in z ws → is_in z (cond b (y ∷ ws) (w ∷ renamed x y ws)) ≡ (same_holder z w || is_in z ws)
    go true e ih = ap (λ b. b || is_in z ws) (k ∙ sym (ap (same_holder z) (sym (same-eq x w e)) ∙ h))
    go false e ih = ap (λ b. same_holder z w || b) ih

-- such a cell is neither a hand nor the one cell
other_hand : (g z : Holder) (p k : ℕ) → is_other g z ≡ true → same_holder z (Hand p k) ≡ false
other_hand g (Hand q n) p k c = no c
other_hand g (holders.Field o f) p k c = refl
other_hand g (holders.Global n) p k c = refl
other_hand g holders.Strongs p k c = refl
other_hand g holders.Unowneds p k c = refl
other_hand g holders.Forever p k c = refl

other_cell : (g z : Holder) → is_other g z ≡ true → same_holder z g ≡ false
other_cell g z c = opposite (same_holder z g) (and_parts (is_cell z) (not (same_holder z g)) c).1

-- neither x nor y is such a cell
abbrev pub Apart : Holder → Holder → Holder → Type 0
Apart g x y = (z : Holder) → is_other g z ≡ true → (same_holder z x ≡ false) × (same_holder z y ≡ false)

renamed_like : (g : Holder) (x y : Holder) → Apart g x y → (o : Object) → IsLike g o (lists (renamed x y) o)
renamed_like g x y apart o = record {
  id = refl;
  class = refl;
  slot = refl;
  entry = refl;
  strong = renamed_length x y o.strong;
  unowned = renamed_length x y o.unowned;
  weak = renamed_length x y o.weak;
  inside = λ z c. let a = apart z c in (in_renamed z x y o.strong a.0 a.1, in_renamed z x y o.unowned a.0 a.1, in_renamed z x y o.weak a.0 a.1);
}

-- the same of each object of two lists, and of an object that may be there
abbrev pub AreLike : Holder → List Object → List Object → Type 0
AreLike g [] [] = ⊤
AreLike g (o ∷ os) (q ∷ qs) = IsLike g o q × AreLike g os qs
AreLike g _ _ = ⊥

abbrev pub MayBeLike : Holder → Option Object → Option Object → Type 0
MayBeLike g None None = ⊤
MayBeLike g (Some o) (Some q) = IsLike g o q
MayBeLike g _ _ = ⊥

likes_self : (g : Holder) (os : List Object) → AreLike g os os
likes_self g [] = tt
likes_self g (o ∷ os) = (like_self g o, likes_self g os)

pub likes_both : (g : Holder) (os ms qs : List Object) → AreLike g os ms → AreLike g ms qs → AreLike g os qs
likes_both g [] [] [] a b = tt
likes_both g (o ∷ os) (m ∷ ms) (q ∷ qs) a b = (like_both g o m q a.0 b.0, likes_both g os ms qs a.1 b.1)
likes_both g [] [] (q ∷ qs) a b = absurd (b)
likes_both g [] (m ∷ ms) qs a b = absurd (a)
likes_both g (o ∷ os) [] qs a b = absurd (a)
likes_both g (o ∷ os) (m ∷ ms) [] a b = absurd (b)

likes_change : (g : Holder) (test : Object → Bool) (f : Object → Object) (os : List Object) → ((o : Object) → IsLike g o (f o)) → AreLike g os (at_first test f os)
likes_change g test f [] like = tt
likes_change g test f (o ∷ os) like = go (test o) (likes_change g test f os like)
  where
    go : (b : Bool) → AreLike g os (at_first test f os) → AreLike g (o ∷ os) (cond b (f o ∷ os) (o ∷ at_first test f os))
    go true ih = (like o, likes_self g os)
    go false ih = (like_self g o, ih)

find_like : (g : Holder) (test : Object → Bool) → ((o q : Object) → IsLike g o q → test q ≡ test o) → (os qs : List Object) → AreLike g os qs → MayBeLike g (find test os) (find test qs)
find_like g test same [] [] l = tt
find_like g test same (o ∷ os) (q ∷ qs) l = go (test o) (test q) (same o q l.0) (find_like g test same os qs l.1)
  where
    go : (a b : Bool) → b ≡ a → MayBeLike g (find test os) (find test qs) → MayBeLike g (cond a (Some o) (find test os)) (cond b (Some q) (find test qs))
    go true true e ih = l.0
    go true false e ih = no e
    go false true e ih = no (sym e)
    go false false e ih = ih
find_like g test same [] (q ∷ qs) l = absurd (l)
find_like g test same (o ∷ os) [] l = absurd (l)

pub get_like : (g : Holder) (os qs : List Object) (i : ℕ) → AreLike g os qs → MayBeLike g (slice_get os i) (slice_get qs i)
get_like g [] [] i l = tt
get_like g (o ∷ os) (q ∷ qs) zero l = l.0
get_like g (o ∷ os) (q ∷ qs) (suc i) l = get_like g os qs i l.1
get_like g [] (q ∷ qs) i l = absurd (l)
get_like g (o ∷ os) [] i l = absurd (l)

holds_like : (g : Holder) (z : Holder) → is_other g z ≡ true → (o q : Object) → IsLike g o q → holds z q ≡ holds z o
holds_like g z c o q l = let m = l.inside z c in
    ap (λ s. s || is_in z q.unowned || is_in z q.weak) m.0 ∙ ap (λ u. is_in z o.strong || u || is_in z q.weak) m.1 ∙ ap (λ w. is_in z o.strong || is_in z o.unowned || w) m.2

kind_like : (g : Holder) (z : Holder) → is_other g z ≡ true → (o q : Object) → IsLike g o q → kind_in z q ≡ kind_in z o
kind_like g z c o q l = let m = l.inside z c in
    ap (λ s. cond s kinds.Strong (cond (is_in z q.unowned) kinds.Unowned kinds.Weak)) m.0 ∙ ap (λ u. cond (is_in z o.strong) kinds.Strong (cond u kinds.Unowned kinds.Weak)) m.1

spot_like : (g : Holder) (z : Holder) → is_other g z ≡ true → (os qs : List Object) → AreLike g os qs → spot_in z qs ≡ spot_in z os
spot_like g z c [] [] l = refl
spot_like g z c (o ∷ os) (q ∷ qs) l =
    ap (λ b. cond b (Some (record { place = zero; kind = kind_in z q })) (further (spot_in z qs))) (holds_like g z c o q l.0)
    ∙ ap (λ k. cond (holds z o) (Some (record { place = zero; kind = k })) (further (spot_in z qs))) (kind_like g z c o q l.0)
    ∙ ap (λ s. cond (holds z o) (Some (record { place = zero; kind = kind_in z o })) (further s)) (spot_like g z c os qs l.1)
spot_like g z c [] (q ∷ qs) l = absurd (l)
spot_like g z c (o ∷ os) [] l = absurd (l)

pub place_like : (g : Holder) (k : Kind) (o q : Object) → IsLike g o q → place_of k q ≡ place_of k o
place_like g kinds.Strong o q l = l.slot
place_like g kinds.Unowned o q l = l.slot
place_like g kinds.Weak o q l = l.entry

reference_like : (g : Holder) (z : Holder) → is_other g z ≡ true → (m n : Option Object) → MayBeLike g m n → reference_in z n ≡ reference_in z m
reference_like g z c None None l = refl
reference_like g z c (Some o) (Some q) l =
    ap (λ k. reference_to k (place_of k q)) (kind_like g z c o q l) ∙ ap (reference_to (kind_in z o)) (place_like g (kind_in z o) o q l)
reference_like g z c None (Some q) l = absurd (l)
reference_like g z c (Some o) None l = absurd (l)

empty_like : (xs ys : List Holder) → length ys ≡ length xs → is_empty ys ≡ is_empty xs
empty_like xs ys e = empty_length ys ∙ (ap (λ n. n == 0) e ∙ sym (empty_length xs))

counts_like : (g : Holder) (o q : Object) → IsLike g o q → counts_in q ≡ counts_in o
counts_like g o q l = λ j. record {
  strong_extra = ap (λ n. n - 1) l.strong j;
  unowned = l.unowned j;
  deiniting = empty_like o.strong q.strong l.strong j;
}

header_like : (shape : HeapShape) (g : Holder) (o q : Object) → IsLike g o q → (e : Option ℕ) (w : ℕ) → IsHeader shape o e w → IsHeader shape q e w
header_like shape g o q l None w (is, strong, unowned) = (
  is ∙ ap (λ c. packed (Counts c)) (sym (counts_like g o q l)),
  subst (λ n. n ≤ shape.caps.strong + 1) (sym l.strong) strong,
  subst (λ n. n ≤ shape.caps.unowned) (sym l.unowned) unowned,
)
header_like shape g o q l (Some e) w is = is

inline_like : (shape : HeapShape) (g : Holder) (o q : Object) (w : ℕ) → IsLike g o q → IsInline (is_immortal shape o) shape o w → IsInline (is_immortal shape q) shape q w
inline_like shape g o q w l says = subst (λ b. IsInline b shape q w) (sym (immortal_same shape o q l.class)) (go (is_immortal shape o) says)
  where
    go : (b : Bool) → IsInline b shape o w → IsInline b shape q w
    go true says = says
    go false says = subst (λ e. IsHeader shape q e w) (sym l.entry) (header_like shape g o q l o.entry w says)

counts_show : (shape : HeapShape) (g : Holder) (m n : Option Object) (w : ℕ) → MayBeLike g m n → ShowsCounts shape m w → ShowsCounts shape n w
counts_show shape g None None w l says = says
counts_show shape g (Some o) (Some q) w l says = inline_like shape g o q w l says
counts_show shape g None (Some q) w l says = absurd (l)
counts_show shape g (Some o) None w l says = absurd (l)

name_like : (g : Holder) (o q : Object) → IsLike g o q → name_of q ≡ name_of o
name_like g o q l = λ j. record { class = l.class j; thread = ap (λ (d : ObjectId). d.thread) l.id j; number = ap (λ (d : ObjectId). d.number) l.id j }

name_shows : (g : Holder) (m n : Option Object) (w : ℕ) → MayBeLike g m n → ShowsName m w → ShowsName n w
name_shows g None None w l says = says
name_shows g (Some o) (Some q) w l says = says ∙ ap isa_word_of (sym (name_like g o q l))
name_shows g None (Some q) w l says = absurd (l)
name_shows g (Some o) None w l says = absurd (l)

list_like : (g : Holder) (k : Kind) (o q : Object) → IsLike g o q → length (list_of k q) ≡ length (list_of k o)
list_like g kinds.Strong o q l = l.strong
list_like g kinds.Unowned o q l = l.unowned
list_like g kinds.Weak o q l = l.weak

holders_show : (shape : HeapShape) (g : Holder) (k : Kind) (m n : Option Object) (w : ℕ) → MayBeLike g m n → ShowsHolders shape k m w → ShowsHolders shape k n w
holders_show shape g k None None w l says = says
holders_show shape g k (Some o) (Some q) w l says = (says.0 ∙ sym (list_like g k o q l), says.1)
holders_show shape g k None (Some q) w l says = absurd (l)
holders_show shape g k (Some o) None w l says = absurd (l)

link_show : (shape : HeapShape) (g : Holder) (m n : Option Object) (w : ℕ) → MayBeLike g m n → ShowsLink shape m w → ShowsLink shape n w
link_show shape g None None w l says = says
link_show shape g (Some o) (Some q) w l says = subst (λ s. IsLink shape s w) (sym l.slot) says
link_show shape g None (Some q) w l says = absurd (l)
link_show shape g (Some o) None w l says = absurd (l)

some_like : (g : Holder) (m n : Option Object) → MayBeLike g m n → is_some n ≡ is_some m
some_like g None None l = refl
some_like g (Some o) (Some q) l = refl
some_like g None (Some q) l = absurd (l)
some_like g (Some o) None l = absurd (l)

id_like : (g : Holder) (m n : Option Object) → MayBeLike g m n → id_of n ≡ id_of m
id_like g None None l = refl
id_like g (Some o) (Some q) l = l.id
id_like g None (Some q) l = absurd (l)
id_like g (Some o) None l = absurd (l)

-- what is found on either side
other_side : (g : Holder) (m n : Option Object) (q : Object) → MayBeLike g m n → n ≡ Some q → (o : Object) × (m ≡ Some o) × IsLike g o q
other_side g None None q l e = absurd (None≢Some q e)
other_side g (Some o) (Some r) q l e = (o, refl, subst (IsLike g o) (Some-inj e) l)
other_side g None (Some r) q l e = absurd (l)
other_side g (Some o) None q l e = absurd (l)

pub this_side : (g : Holder) (m n : Option Object) (o : Object) → MayBeLike g m n → m ≡ Some o → (q : Object) × (n ≡ Some q) × IsLike g o q
this_side g None None o l e = absurd (None≢Some o e)
this_side g (Some r) (Some q) o l e = (q, refl, subst (λ s. IsLike g s q) (Some-inj e) l)
this_side g None (Some r) o l e = absurd (l)
this_side g (Some r) None o l e = absurd (l)

found_there : (test : Object → Bool) (os : List Object) (o : Object) → find test os ≡ Some o → (i : ℕ) × (slice_get os i ≡ Some o) × (test o ≡ true)
found_there test [] o e = absurd (None≢Some o e)
found_there test (r ∷ os) o e = go (test r) refl (found_there test os o) e
  where
    go : (b : Bool) → test r ≡ b → (find test os ≡ Some o → (i : ℕ) × (slice_get os i ≡ Some o) × (test o ≡ true)) → cond b (Some r) (find test os) ≡ Some o → (i : ℕ) × (slice_get (r ∷ os) i ≡ Some o) × (test o ≡ true)
    go true is ih e = (zero, e, ap test (sym (Some-inj e)) ∙ is)
    go false is ih e = let l = ih e in (suc l.0, l.1, l.2)

-- the cell is there: a global, or a field of the class of the object in the slot
abbrev pub HasCell : HeapShape → Heap → CellName → Type 0
HasCell shape heap (cells.Global g) = ⊤
HasCell shape heap (cells.Field s f) = (i : ℕ) × (o : Object) × At heap i o × (o.slot ≡ Some s) × (has_field shape f o ≡ true)

-- a cell as a holder, and its word: another word of a cell is that of another holder
pub record IsWordOfCell (heap : Heap) (z : Holder) (pl : Place) : Type 0 where
  pub fields : (t f i : ℕ) (o : Object) → At heap i o → o.slot ≡ Some t → places.Field t f ≢ pl → is_other z (holders.Field o.id f) ≡ true
  pub globals : (n : ℕ) → places.Global n ≢ pl → is_other z (holders.Global n) ≡ true

pub field_parts : (a b : ObjectId) (f n : ℕ) → holders.Field a f ≡ holders.Field b n → (a ≡ b) × (f ≡ n)
field_parts a b f n e = (cc, cc)

not_same : (b : Bool) → (b ≡ true → ⊥) → not b ≡ true
not_same b never = ap (λ t. not t) (false-if b never)

pub cell_word_apart : (shape : HeapShape) (h : History) (c : CellName) → IsLegal shape h → HasCell shape (heap_after h) c → IsWordOfCell (heap_after h) (cell (heap_after h) c) (cell_place c)
cell_word_apart shape h (cells.Global g) legal has = record {
  fields = λ t f i o here slot ne. refl;
  globals = λ n ne. not_same (same_holder (holders.Global n) (holders.Global g)) (λ e. ne (ap places.Global (let same : holders.Global n ≡ holders.Global g = same-eq (holders.Global n) (holders.Global g) e in cc)));
}
cell_word_apart shape h (cells.Field s n) legal (j, q, at, in_it, has) = record {
  fields = λ t f i o here slot ne. not_same (same_holder (holders.Field o.id f) (cell (heap_after h) (cells.Field s n))) (λ e.
      let same = field_parts o.id (id_of (at_slot s (heap_after h))) f n (same-eq (holders.Field o.id f) (cell (heap_after h) (cells.Field s n)) e) in
      let id : o.id ≡ q.id = same.0 ∙ ap id_of (slot_found shape h j s q legal at in_it) in
      let one = one-name q.id (heap_after h).objects i j o q (names-once (λ p. next_hand p h) (heap_after h) (well_formed shape h legal) q.id) here id at refl in
      let slots : t ≡ s = Some-inj (sym slot ∙ (ap (λ (r : Object). r.slot) one ∙ in_it)) in
      ne (λ i. places.Field (slots i) (same.1 i)));
  globals = λ m ne. refl;
}

-- What two such heaps say of every word but the cell's.
module _ (shape : HeapShape) (h : History) (legal : IsLegal shape h) (g : Holder) (place : Place) (new : Heap) (apart : IsWordOfCell (heap_after h) g place) (like : AreLike g (heap_after h).objects new.objects) (claims : new.claims ≡ (heap_after h).claims) where
  abbrev old : Heap
  old = heap_after h

  pub slot_like : (t : ℕ) → MayBeLike g (at_slot t old) (at_slot t new)
  slot_like t = find_like g (in_slot t) (λ o q l. ap (λ m. is_number m t) l.slot) old.objects new.objects like

  entry_like : (e : ℕ) → MayBeLike g (at_entry e old) (at_entry e new)
  entry_like e = find_like g (has_entry e) (λ o q l. ap (λ m. is_number m e) l.entry) old.objects new.objects like

  refers_like : (z : Holder) → is_other g z ≡ true → reference_of z new ≡ reference_of z old
  refers_like z c = reference_like g z c (held_by z old) (held_by z new) (find_like g (holds z) (holds_like g z c) old.objects new.objects like)

  field_if : (b : Bool) (f : ℕ) (o q : Object) → q.id ≡ o.id → is_other g (holders.Field o.id f) ≡ true → field_word_if b shape new f q ≡ field_word_if b shape old f o
  field_if true f o q id other = ap cell_word (ap (λ d. reference_of (holders.Field d f) new) id ∙ refers_like (holders.Field o.id f) other)
  field_if false f o q id other = refl

  -- a field of the object in a slot is another cell where its word is
  field_other : (t f : ℕ) (o : Object) → at_slot t old ≡ Some o → places.Field t f ≢ place → is_other g (holders.Field o.id f) ≡ true
  field_other t f o at ne = let l = found_there (in_slot t) old.objects o at in apart.fields t f l.0 o l.1 (is_number_some o.slot t l.2) ne

  fields_like : (t f : ℕ) (m n : Option Object) → at_slot t old ≡ m → places.Field t f ≢ place → MayBeLike g m n → field_word shape new f n ≡ field_word shape old f m
  fields_like t f None None at ne l = refl
  fields_like t f (Some o) (Some q) at ne l = ap (λ c. field_word_if (has_field shape f (record q { class = c })) shape new f q) l.class ∙ field_if (has_field shape f o) f o q l.id (field_other t f o at ne)
  fields_like t f None (Some q) at ne l = absurd (l)
  fields_like t f (Some o) None at ne l = absurd (l)

  taken_like : (e : ℕ) → is_entry_taken e new ≡ is_entry_taken e old
  taken_like e = ap (λ cs. list_any (claims_it e) cs || is_some (at_entry e new)) claims ∙ ap (λ b. list_any (claims_it e) old.claims || b) (some_like g (at_entry e old) (at_entry e new) (entry_like e))

  -- the heap says the same of every other word
  pub like_says : (pl : Place) → pl ≢ place → (w : ℕ) → Says shape old pl w → Says shape new pl w
  like_says places.Zero ne w says = says
  like_says (places.Global n) ne w says = says ∙ sym (ap cell_word (refers_like (holders.Global n) (apart.globals n ne)))
  like_says (places.Count t) ne w says = counts_show shape g (at_slot t old) (at_slot t new) w (slot_like t) says
  like_says (places.Isa t) ne w says = name_shows g (at_slot t old) (at_slot t new) w (slot_like t) says
  like_says (places.Next t) ne w says = tt
  like_says (places.Field t f) ne w says = says ∙ sym (fields_like t f (at_slot t old) (at_slot t new) refl ne (slot_like t))
  like_says (places.Link e) ne w says = link_show shape g (at_entry e old) (at_entry e new) w (entry_like e) says
  like_says (places.Strong e) ne w says = holders_show shape g kinds.Strong (at_entry e old) (at_entry e new) w (entry_like e) says
  like_says (places.Unowned e) ne w says = holders_show shape g kinds.Unowned (at_entry e old) (at_entry e new) w (entry_like e) says
  like_says (places.Weak e) ne w says = holders_show shape g kinds.Weak (at_entry e old) (at_entry e new) w (entry_like e) says
  like_says (places.SlotBits k) ne w says = bits_last shape.slots k (λ s. is_slot_taken s old) (λ s. is_slot_taken s new) w (λ s _. some_like g (at_slot s old) (at_slot s new) (slot_like s)) says
  like_says (places.EntryBits k) ne w says = bits_last shape.entries k (λ e. is_entry_taken e old) (λ e. is_entry_taken e new) w (λ e _. taken_like e) says

  -- a cell is that of the same object
  pub owner_like : (c : CellName) → cell new c ≡ cell old c
  owner_like (cells.Field s f) = ap (λ d. holders.Field d f) (id_like g (at_slot s old) (at_slot s new) (slot_like s))
  owner_like (cells.Global n) = refl

  -- and every other cell stays
  pub like_cells : (c : CellName) → IsThere old c → cell_place c ≢ place → CellKept shape old new c
  like_cells (cells.Field s f) (i, o, here, slot, live) ne = record {
    says = λ w says. like_says (places.Field s f) ne w says;
    owner = owner_like (cells.Field s f);
    refers = ap (λ z. spot z new) (owner_like (cells.Field s f))
        ∙ spot_like g (cell old (cells.Field s f)) (ap (λ m. is_other g (holders.Field (id_of m) f)) (slot_found shape h i s o legal here slot) ∙ apart.fields s f i o here slot ne) old.objects new.objects like;
  }
  like_cells (cells.Global n) there ne = record {
    says = λ w says. like_says (places.Global n) ne w says;
    owner = refl;
    refers = spot_like g (holders.Global n) (apart.globals n ne) old.objects new.objects like;
  }

-- the two renamings of a swap
pub likes_taken : (g : Holder) (p : ℕ) (k : Option ℕ) (heap : Heap) → AreLike g heap.objects (taken_out g p k heap).objects
likes_taken g p None heap = likes_self g heap.objects
likes_taken g p (Some k) heap = likes_change g (holds g) (lists (renamed g (Hand p k))) heap.objects (renamed_like g g (Hand p k) (λ z c. (other_cell g z c, other_hand g z p k c)))

pub likes_put : (g : Holder) (p : ℕ) (k : Option ℕ) (heap : Heap) → AreLike g heap.objects (put_in g p k heap).objects
likes_put g p None heap = likes_self g heap.objects
likes_put g p (Some k) heap = likes_change g (holds (Hand p k)) (lists (renamed (Hand p k) g)) heap.objects (renamed_like g (Hand p k) g (λ z c. (other_hand g z p k c, other_cell g z c)))

pub claims_taken : (g : Holder) (p : ℕ) (k : Option ℕ) (heap : Heap) → (taken_out g p k heap).claims ≡ heap.claims
claims_taken g p None heap = refl
claims_taken g p (Some k) heap = refl

pub claims_put : (g : Holder) (p : ℕ) (k : Option ℕ) (heap : Heap) → (put_in g p k heap).claims ≡ heap.claims
claims_put g p None heap = refl
claims_put g p (Some k) heap = refl
