-- Of a slot whose object a view keeps no other thread owes the words: a new object has no holder but its maker's hand.
use Rattle.std.proofs.Common.{◌≡◌, ◌⊎◌, inl, inr, ℕ, Bool, true, false, [], ◌∷◌, ◌++◌, Some, refl, sym, ap, ◌∙◌, subst}
use Rattle.arc_model.specs.declared.event.Origin.TheVariants as origins
use Rattle.std.specs.Prelude.{◌||◌}
use Rattle.arc_model.specs.declared.event.CellName.{CellName}
use Rattle.arc_model.specs.declared.event.CellName.TheVariants as cells
use Rattle.arc_model.specs.declared.shape.Kind.{Kind}
use Rattle.arc_model.specs.declared.shape.Kind.TheVariants.{Strong, Unowned, Weak}
use Rattle.arc_model.specs.Shapes.{HeapShape}
use Rattle.arc_model.specs.Heaps.{Holder, Hand, Strongs, Unowneds, Duty, Deinit, Vacating, Gone, Object, Heap}
use Rattle.arc_model.specs.Holders.{same_holder, is_in, is_empty, list_of, is_duty}
use Rattle.arc_model.specs.Cells.{cell, strong_holders}
use Rattle.arc_model.specs.WellFormed.{IsWhole, is_own}
use Rattle.arc_model.specs.Lookup.{spot, duty_of}
use Rattle.arc_model.specs.History.{History, heap_after, share, IsLegal}
use Rattle.arc_model.specs.Others.{IsUnshared}
use Rattle.arc_model.proofs.Basics.{Some-inj, true≢false, some-strong}
use Rattle.arc_model.proofs.Tally.{clash, same-eq}
use Rattle.arc_model.proofs.Courses.{well_formed}
use Rattle.arc_model.proofs.Stages.{dying-facts, vacating-facts, gone-facts}
use Rattle.arc_model.proofs.Others.{others_leave, lookup_after}
use Rattle.arc_rule.specs.declared.layout.Place.{Place}
use Rattle.arc_rule.specs.declared.layout.Place.TheVariants.{Count, Isa}
use Rattle.arc_view.specs.declared.view.Begun.{Begun}
use Rattle.arc_view.specs.declared.view.Naming.{Naming}
use Rattle.arc_view.specs.declared.view.View.{View}
use Rattle.arc_view.specs.Views.{StartsWith}
use Rattle.arc_view.specs.Holding.{At, IsSource}
use Rattle.arc_view.specs.Rule.{IsNew, CellStays}
use Rattle.arc_view.specs.Admission.{KeepsObject, KnowsSlot}
use Rattle.arc_view.proofs.Held.{Held, held_stays, hand_listed, listed_busy, listed_weak, stays_after}
use Rattle.arc_view.proofs.Owed.{owed_stays, duty_parts}
use Rattle.arc_view.proofs.Words.{slot_found}

-- The words of the slot that a step may be at: its object is kept, or the view itself owes them.
abbrev pub IsKnown : View → ℕ → Type 0
IsKnown v s = KnowsSlot v s ⊎ ((n : Naming) × (v.working.owes ≡ Some n) × (n.slot ≡ s))

abbrev pub Settles : View → Place → Type 0
Settles v (Count s) = IsKnown v s
Settles v (Isa s) = IsKnown v s
Settles v _ = Unit {0}

-- a holder of a new object that comes and goes is the maker's hand, in its strong list
pub sole_holder : (q k : ℕ) (z : Holder) (kind : Kind) (o : Object) → is_own z ≡ true → IsUnshared q k o → is_in z (list_of kind o) ≡ true → z ≡ Hand q k
sole_holder q k z kind o own u held = go kind held
  where
    one : (x : Holder) → is_in z (x ∷ []) ≡ true → same_holder z x ≡ true
    one x h = by (same_holder z x) h
      where
        by : (b : Bool) → (b || false) ≡ true → b ≡ true
        by true h = refl
        by false h = h

    go : (kind : Kind) → is_in z (list_of kind o) ≡ true → z ≡ Hand q k
    go Strong h = same-eq z (Hand q k) (one (Hand q k) (ap (is_in z) (sym u.strong) ∙ h))
    go Unowned h = let is : z ≡ Strongs = same-eq z Strongs (one Strongs (ap (is_in z) (sym u.unowned) ∙ h)) in absurd (true≢false (sym own ∙ ap is_own is))
    go Weak h = let is : z ≡ Unowneds = same-eq z Unowneds (one Unowneds (ap (is_in z) (sym u.weak) ∙ h)) in absurd (true≢false (sym own ∙ ap is_own is))

-- an object to which something is owed has no strong holder
owed_no_strong : (shape : HeapShape) (d : Duty) (o : Object) → IsWhole shape o → is_duty d o.owed ≡ true → is_empty (strong_holders shape o) ≡ true
owed_no_strong shape Deinit o whole duty = (dying-facts o whole duty).strong
owed_no_strong shape Vacating o whole duty = (vacating-facts o whole duty).strong
owed_no_strong shape Gone o whole duty = (gone-facts o whole duty).strong

-- so it isn't new
owed_not_new : (shape : HeapShape) (h : History) (p q k i : ℕ) (d : Duty) (o : Object) → IsLegal shape h → At (heap_after h) i o → duty_of p i (heap_after h) ≡ Some d → IsUnshared q k o → ⊥
owed_not_new shape h p q k i d o legal here duty u =
    clash (is_empty (strong_holders shape o))
    (owed_no_strong shape d o ((well_formed shape h legal).whole i o here) (duty_parts h p i d o here duty).1)
    (some-strong shape o (ap is_empty u.strong))

cell_own : (heap : Heap) (c : CellName) → is_own (cell heap c) ≡ true
cell_own heap (cells.Field s f) = refl
cell_own heap (cells.Global g) = refl

cell_no_hand : (heap : Heap) (c : CellName) (q k : ℕ) → cell heap c ≡ Hand q k → ⊥
cell_no_hand heap (cells.Field s f) q k e = cc
cell_no_hand heap (cells.Global g) q k e = cc

-- the cell stands in this list of object i
abbrev pub Refers : History → CellName → ℕ → Kind → Type 0
Refers h c i kind = spot (cell (heap_after h) c) (heap_after h) ≡ Some (record { place = i; kind = kind })

cell_listed : (shape : HeapShape) (h : History) (c : CellName) (i : ℕ) (kind : Kind) (o : Object) → IsLegal shape h → Refers h c i kind → At (heap_after h) i o → is_in (cell (heap_after h) c) (list_of kind o) ≡ true
cell_listed shape h c i kind o legal at here =
    let l = (lookup_after shape h (cell (heap_after h) c) legal (cell_own (heap_after h) c)).there (record { place = i; kind = kind }) at in
    subst (λ (r : Object). is_in (cell (heap_after h) c) (list_of kind r) ≡ true) (Some-inj (sym l.1 ∙ here)) l.3

-- what stays of an object while the cell refers to it
pub cell_held : (shape : HeapShape) (c : CellName) (i : ℕ) (kind : Kind) (o : Object) (before after : History) → IsLegal shape (after ++ before) → At (heap_after before) i o
    → ((point : History) → StartsWith (after ++ before) point → StartsWith point before → Refers point c i kind) → Held kind i o (heap_after (after ++ before))
cell_held shape c i kind o before [] legal here refers = record { q = o; here = here; id = refl; class = refl; slot = λ _. refl; entry = λ n e. e }
cell_held shape c i kind o before (e ∷ after) legal here refers =
    let ih = cell_held shape c i kind o before after legal.1 here (λ point t u. refers point (e ∷ t.0, ap (λ l. e ∷ l) t.1) u) in
    let mid : Refers (after ++ before) c i kind = refers (after ++ before) (e ∷ [], refl) (after, refl) in
    let end : Refers (e ∷ after ++ before) c i kind = refers (e ∷ after ++ before) ([], refl) (e ∷ after, refl) in
    let s = stays_after shape e (after ++ before) legal i ih.q ih.here in
    let was = cell_listed shape (after ++ before) c i kind ih.q legal.1 mid ih.here in
    let is = cell_listed shape (e ∷ after ++ before) c i kind s.q legal end s.here in
    let whole = (well_formed shape (e ∷ after ++ before) legal).whole i s.q s.here in record {
      q = s.q;
      here = s.here;
      id = s.id ∙ ih.id;
      class = s.class ∙ ih.class;
      slot = λ ne. s.slot (listed_busy kind (cell (heap_after (after ++ before)) c) ih.q was ne) ∙ ih.slot ne;
      entry = λ n t. s.entry n (listed_weak shape kind (cell (heap_after (e ∷ after ++ before)) c) s.q whole is) (ih.entry n t);
    }

-- no event since what the view saw has changed the cell of its access
abbrev pub AccessStays : History → View → Type 0
AccessStays h v = (a : Begun) → v.working.access ≡ Some a → CellStays h v.seen a.cell

-- so that a cell that it accesses refers to what it did
pub refers_still : (h : History) (v : View) (c : CellName) (i : ℕ) (kind : Kind) → AccessStays h v → IsSource v (origins.Cell c) kind i → (point : History) → StartsWith h point → StartsWith point v.seen → Refers point c i kind
refers_still h v c i kind stays (at, (a, begun, same)) point t u = subst (λ (d : CellName). Refers point d i kind) same ((stays a begun).refers point t u ∙ subst (λ (d : CellName). Refers v.seen d i kind) (sym same) at)

pub known_apart : (shape : HeapShape) (h : History) (v : View) (s : ℕ) (rest : History) → h ≡ rest ++ v.seen → IsLegal shape h → share rest v.number ≡ [] → AccessStays h v → KnowsSlot v s → (q : ℕ) → IsNew (heap_after h) q s → q ≡ v.number
known_apart shape h v s rest is legal none stays (i, o, here, slot, keeps) q (j, u, k, there, in_it, unshared) = by keeps
  where
    since : IsLegal shape (rest ++ v.seen)
    since = subst (IsLegal shape) is legal

    new_there : At (heap_after (rest ++ v.seen)) j u
    new_there = subst (λ l. At (heap_after l) j u) is there

    -- what is in the slot is the new object
    unshared_in : (r : Object) → At (heap_after (rest ++ v.seen)) i r → r.slot ≡ o.slot → IsUnshared q k r
    unshared_in r at same = subst (IsUnshared q k) (Some-inj (sym (slot_found shape (rest ++ v.seen) j s u since new_there in_it) ∙ slot_found shape (rest ++ v.seen) i s r since at (same ∙ slot))) unshared

    hand_same : (p a : ℕ) → Hand p a ≡ Hand q k → q ≡ p
    hand_same p a e = cc

    by : KeepsObject v i → q ≡ v.number
    by (inl (a, kind, hand, ne)) =
        let held = held_stays shape v.number a i kind o v.seen rest since none hand here in
        let at = (others_leave shape v.number v.seen rest since none).hands a ∙ hand in
        let listed = hand_listed shape (rest ++ v.seen) v.number a i kind held.q since at held.here in
        hand_same v.number a (sole_holder q k (Hand v.number a) kind held.q refl (unshared_in held.q held.here (held.slot ne)) listed)
    by (inr (inl (d, duty))) =
        let owed = owed_stays shape v.number i d o v.seen rest since none here duty in
        absurd (owed_not_new shape (rest ++ v.seen) v.number q k i d owed.q since owed.here ((others_leave shape v.number v.seen rest since none).duties i ∙ duty) (unshared_in owed.q owed.here owed.slot))
    by (inr (inr (c, kind, source, ne))) =
        let refers : (point : History) → StartsWith (rest ++ v.seen) point → StartsWith point v.seen → Refers point c i kind = λ point t. refers_still h v c i kind stays source point (subst (λ l. StartsWith l point) (sym is) t) in
        let held = cell_held shape c i kind o v.seen rest since here refers in
        let listed = cell_listed shape (rest ++ v.seen) c i kind held.q since (refers (rest ++ v.seen) ([], refl) (rest, refl)) held.here in
        absurd (cell_no_hand (heap_after (rest ++ v.seen)) c q k (sole_holder q k (cell (heap_after (rest ++ v.seen)) c) kind held.q (cell_own (heap_after (rest ++ v.seen)) c) (unshared_in held.q held.here (held.slot ne)) listed))
