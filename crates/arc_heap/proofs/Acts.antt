-- What acts do to an index: acts that change nothing, claims, and references that come.
use Rattle.std.proofs.Common.{◌≡◌, ℕ, ◌+◌, ◌-◌, ◌<◌, Bool, true, false, cond, eqb, List, [], ◌∷◌, ◌++◌, length, length-append, Option, Some, None, inl, inr, refl, sym, ap, ◌∙◌, arith}
use Rattle.std.specs.Prelude.{slice_get, is_some, ◌&&◌, ◌||◌, nat_lt, slice_index_or}
use Rattle.std.proofs.lemmas.Bool.{cases_eq, eq-eqb, ne_eqb}
use Rattle.arc_model.specs.declared.event.Act.{Act}
use Rattle.arc_model.specs.declared.event.Act.TheVariants as acts
use Rattle.arc_model.specs.declared.event.CellName.{CellName}
use Rattle.arc_model.specs.declared.event.CellName.TheVariants as cells
use Rattle.arc_model.specs.declared.shape.Kind.{Kind}
use Rattle.arc_model.specs.declared.shape.Kind.TheVariants.{Strong, Unowned, Weak}
use Rattle.arc_model.specs.Heaps.{Holder, Hand, Object, Heap}
use Rattle.arc_model.specs.Holders.{is_hand_of, is_in, list_of, with_list, with_last, gains, lists, holds, change, at_slot, held_by, in_slot as in_the_slot, has_entry}
use Rattle.arc_model.specs.Cells.{cell, id_of, same_kind}
use Rattle.arc_model.specs.Effects.{effect}
use Rattle.arc_model.specs.Lookup.{spot}
use Rattle.arc_model.specs.CellLaws.{cell_next}
use Rattle.arc_model.specs.Own.{ends_hand, brings_hand, brought}
use Rattle.arc_model.specs.History.{History, heap_after, brings, IsLegal}
use Rattle.arc_model.proofs.CellSpots.{cells_after}
use Rattle.arc_heap_index.specs.declared.counted.Place.{Place}
use Rattle.arc_heap_index.specs.declared.counted.Counted.{Counted}
use Rattle.arc_heap_index.specs.declared.counted.Held.{Held}
use Rattle.arc_heap_index.specs.declared.slots.Owner.{Owner}
use Rattle.arc_heap_index.specs.declared.slots.Owner.TheVariants.{Claim}
use Rattle.arc_heap_index.specs.Counting.{at_place, placed, row_of, pushed, count_in, raised, most, with_one_more}
use Rattle.arc_heap_index.specs.Freeing.{Freed, owner_at, taken, freed}
use Rattle.arc_heap_judge.specs.Index.{Index, cell_at, next_of}
use Rattle.arc_heap.specs.Moving.{reach_more, reach_less, joins, after_act}
use Rattle.arc_heap_judge.specs.Stands.{IsCounted, is_so, is_object, claimants, claimant, hands_of, spot_of, IsCellInRange, Tells, StandsFor}
use Rattle.arc_heap_index.proofs.Places.{length-at_place}
use Rattle.arc_heap_index.proofs.Rows.{row-same, row-other, row-length}
use Rattle.arc_heap_judge.proofs.Told.{true≢false, LikeHeld}
use Rattle.arc_heap.proofs.Holders.{count-push, hands-length, raised-up}
use Rattle.arc_heap.proofs.Spots.{ids-placed}
use Rattle.arc_heap.proofs.Tellings.{Reaches, Idles, tells-lists, reach-more-ok}
use Rattle.arc_heap.proofs.Owners.{taken-here, taken-other, taken-steps, freed-here, freed-other, freed-steps, owner-within, claimants-end, claimants-gone, claimants-kept}
use Rattle.arc_heap.proofs.Standing.{HandsAfter, hands-none, hands-push, SlotSteps, no-steps, Steps}

-- no hand came, or one of p
pub came-none : (p q n : ℕ) → n ≡ n + cond (eqb p q && false) 1 0
came-none p q n = go (eqb p q)
  where
    go : (b : Bool) → n ≡ n + cond (b && false) 1 0
    go true = omega arith
    go false = omega arith

pub came-one : (p q : ℕ) (place : Option Place) (hands : List (List (Option Place))) → p < length hands → length (row_of q (pushed p place hands)) ≡ length (row_of q hands) + cond (eqb p q && true) 1 0
came-one p q place hands within = elim (cases_eq p q) [
  | inl same ↦ rw (← same, eq-eqb p p refl) (ap length (row-same p (λ row. row ++ place ∷ []) hands within) ∙ length-append (row_of p hands) (place ∷ []))
  | inr ne ↦ rw (ne_eqb p q ne) (ap length (row-other p q (λ row. row ++ place ∷ []) hands ne) ∙ (let e : length (row_of q hands) ≡ length (row_of q hands) + 0 = omega arith in e))
]

-- the tables keep their rows
pub reach_more-length : (p : ℕ) (k : Kind) (slot : Option ℕ) (reach : List (List ℕ)) → length (reach_more p k slot reach) ≡ length reach
reach_more-length p Strong (Some s) reach = length-at_place p (at_place s (raised most)) reach
reach_more-length p Strong None reach = refl
reach_more-length p Unowned slot reach = refl
reach_more-length p Weak slot reach = refl

pub reach_more-rows : (p : ℕ) (k : Kind) (slot : Option ℕ) (reach : List (List ℕ)) (q : ℕ) → length (row_of q (reach_more p k slot reach)) ≡ length (row_of q reach)
reach_more-rows p Strong (Some s) reach q = row-length p q (at_place s (raised most)) reach (λ row. length-at_place s (raised most) row)
reach_more-rows p Strong None reach q = refl
reach_more-rows p Unowned slot reach q = refl
reach_more-rows p Weak slot reach q = refl

pub reach_less-length : (p : ℕ) (k : Kind) (slot : Option ℕ) (reach : List (List ℕ)) → length (reach_less p k slot reach) ≡ length reach
reach_less-length p Strong (Some s) reach = length-at_place p (at_place s (λ n. n - 1)) reach
reach_less-length p Strong None reach = refl
reach_less-length p Unowned slot reach = refl
reach_less-length p Weak slot reach = refl

pub reach_less-rows : (p : ℕ) (k : Kind) (slot : Option ℕ) (reach : List (List ℕ)) (q : ℕ) → length (row_of q (reach_less p k slot reach)) ≡ length (row_of q reach)
reach_less-rows p Strong (Some s) reach q = row-length p q (at_place s (λ n. n - 1)) reach (λ row. length-at_place s (λ n. n - 1) row)
reach_less-rows p Strong None reach q = refl
reach_less-rows p Unowned slot reach q = refl
reach_less-rows p Weak slot reach q = refl

-- an act that leaves the marks
pub build : (ix : Index) (h : History) (p : ℕ) (act : Act) → StandsFor ix h → (hands cells : List (List (Option Place))) (reach : List (List ℕ)) (objects : List Counted) (slots entries : Freed) (after : Heap) →
    Tells (record { shape = ix.shape; hands = hands; cells = cells; reach = reach; objects = objects; marks = ix.marks; slots = slots; entries = entries }) after →
    HandsAfter ix p act (heap_after h) hands →
    ((c : CellName) → IsCellInRange ix.shape c → spot_of (cell_at (record { shape = ix.shape; hands = hands; cells = cells; reach = reach; objects = objects; marks = ix.marks; slots = slots; entries = entries }) c) ≡ spot (cell after c) after) →
    length hands ≡ length ix.hands → length reach ≡ length ix.reach → ((q : ℕ) → length (row_of q reach) ≡ length (row_of q ix.reach)) → length cells ≡ length ix.cells → ((s : ℕ) → length (row_of s cells) ≡ length (row_of s ix.cells)) →
    ((q : ℕ) → q < length ix.marks → length (row_of q hands) ≡ length (row_of q ix.hands) + cond (eqb p q && brings act) 1 0) →
    SlotSteps ix.slots slots → SlotSteps ix.entries entries →
    Steps ix (record { shape = ix.shape; hands = hands; cells = cells; reach = reach; objects = objects; marks = ix.marks; slots = slots; entries = entries }) p act (heap_after h) after
build ix h p act st hands cells reach objects slots entries after tells hands_ok cells_ok lh lr rr lc rc came slots_ok entries_ok = record {
  tells = tells;
  hands = hands_ok;
  cells = cells_ok;
  shape = refl;
  sized = record {
    hands = lh ∙ st.sized.hands;
    reach = lr ∙ st.sized.reach;
    reach_rows = λ q l. rr q ∙ st.sized.reach_rows q l;
    cells = lc ∙ st.sized.cells;
    fields = λ s l. rc s ∙ st.sized.fields s l;
    globals = rc ix.shape.slots ∙ st.sized.globals;
    few = st.sized.few;
  };
  came = came;
  marks = refl;
  since_slots = λ q. refl;
  since_entries = λ q. refl;
  fewer = λ q l. let a = came q l in let b = st.fewer q l in omega arith;
  slots = slots_ok;
  entries = entries_ok;
}

-- cells stay where the objects' names and slots do
pub cells-kept : (ix : Index) (h : History) (p : ℕ) (act : Act) → StandsFor ix h → IsLegal ix.shape (record { thread = p; act = act } ∷ h) → ((z : Holder) → cell_next p act z (heap_after h) ≡ spot z (heap_after h)) → ((s : ℕ) → id_of (at_slot s (effect p act (heap_after h))) ≡ id_of (at_slot s (heap_after h))) →
    (c : CellName) → IsCellInRange ix.shape c → spot_of (cell_at ix c) ≡ spot (cell (effect p act (heap_after h)) c) (effect p act (heap_after h))
cells-kept ix h p act st legal next ids (cells.Field s f) range =
    st.points.cells (cells.Field s f) range
    ∙ sym (ap (λ i. spot (Rattle.arc_model.specs.Heaps.Field i f) (effect p act (heap_after h))) (ids s)
    ∙ cells_after ix.shape h (record { thread = p; act = act }) (cell (heap_after h) (cells.Field s f)) legal refl
    ∙ next (cell (heap_after h) (cells.Field s f)))
cells-kept ix h p act st legal next ids (cells.Global g) range =
    st.points.cells (cells.Global g) range
    ∙ sym (cells_after ix.shape h (record { thread = p; act = act }) (cell (heap_after h) (cells.Global g)) legal refl
    ∙ next (cell (heap_after h) (cells.Global g)))

-- an act that changes nothing
pub steps_still : (ix : Index) (h : History) (p : ℕ) (act : Act) → StandsFor ix h → effect p act (heap_after h) ≡ heap_after h → brings_hand act ≡ None → brings act ≡ false → ((k : ℕ) → ends_hand k act ≡ false) → Steps ix ix p act (heap_after h) (effect p act (heap_after h))
steps_still ix h p act st same none brings_none ends =
    rw same (build ix h p act st ix.hands ix.cells ix.reach ix.objects ix.slots ix.entries (heap_after h) st.tells (hands-none ix p act (heap_after h) none ends) (λ c range. st.points.cells c range)
    refl refl (λ q. refl) refl (λ s. refl) (λ q l. came-none p q (length (row_of q ix.hands)) ∙ ap (λ b. length (row_of q ix.hands) + cond (eqb p q && b) 1 0) (sym brings_none)) (no-steps ix.slots) (no-steps ix.entries))

-- an entry is claimed
pub steps_claim : (ix : Index) (h : History) (p e : ℕ) → StandsFor ix h → IsLegal ix.shape (record { thread = p; act = acts.Claim e } ∷ h) → e < ix.shape.entries → owner_at e ix.entries ≡ None → Steps ix (after_act ix p (acts.Claim e)) p (acts.Claim e) (heap_after h) (effect p (acts.Claim e) (heap_after h))
steps_claim ix h p e st legal range free =
    build ix h p (acts.Claim e) st ix.hands ix.cells ix.reach ix.objects ix.slots (taken e (Claim p) ix.entries) (effect p (acts.Claim e) (heap_after h))
    (record {
      counted = t.counted;
      slots = t.slots;
      entries = λ u i. t.entries u i ∙ elim (cases_eq e u) [
        | inl same ↦ rw (← same, free, taken-here ix.entries e (Claim p) within) refl
        | inr ne ↦ ap (is_object i) (sym (taken-other ix.entries e u (Claim p) ne))
      ];
      claims = λ u. claimants-end u p e (heap_after h).claims ∙ elim (cases_eq e u) [
        | inl same ↦ rw (← same, t.claims e, free, eq-eqb e e refl, taken-here ix.entries e (Claim p) within) refl
        | inr ne ↦ rw (ne_eqb e u ne) (append-nil (claimants u (heap_after h).claims) ∙ t.claims u ∙ ap claimant (sym (taken-other ix.entries e u (Claim p) ne)))
      ];
      unclaimed = t.unclaimed;
      made = t.made;
      reach = t.reach;
      idle = t.idle;
    })
    (hands-none ix p (acts.Claim e) (heap_after h) refl (λ k. refl)) (cells-kept ix h p (acts.Claim e) st legal (λ z. refl) (λ s. refl))
    refl refl (λ q. refl) refl (λ s. refl) (λ q l. came-none p q (length (row_of q ix.hands))) (no-steps ix.slots) (taken-steps ix.entries e (Claim p))
  where
    t : Tells ix (heap_after h)
    t = st.tells

    within : e < length ix.entries.states
    within = let c = st.entries.count in omega arith

    append-nil : (xs : List ℕ) → xs ++ [] ≡ xs
    append-nil [] = refl
    append-nil (x ∷ xs) = ap (λ ys. x ∷ ys) (append-nil xs)

-- an entry is given back
pub steps_back : (ix : Index) (h : History) (p e : ℕ) → StandsFor ix h → IsLegal ix.shape (record { thread = p; act = acts.Back e } ∷ h) → owner_at e ix.entries ≡ Some (Claim p) → Steps ix (after_act ix p (acts.Back e)) p (acts.Back e) (heap_after h) (effect p (acts.Back e) (heap_after h))
steps_back ix h p e st legal mine =
    build ix h p (acts.Back e) st ix.hands ix.cells ix.reach ix.objects ix.slots (freed e ix.entries) (effect p (acts.Back e) (heap_after h))
    (record {
      counted = t.counted;
      slots = t.slots;
      entries = λ u i. t.entries u i ∙ elim (cases_eq e u) [
        | inl same ↦ rw (← same) (ap (is_object i) mine ∙ sym (ap (is_object i) (freed-here ix.entries e (Claim p) mine)))
        | inr ne ↦ ap (is_object i) (sym (freed-other ix.entries e u (Claim p) mine ne))
      ];
      claims = λ u. elim (cases_eq e u) [
        | inl same ↦ rw (← same, freed-here ix.entries e (Claim p) mine) (claimants-gone e (heap_after h).claims)
        | inr ne ↦ claimants-kept e u (heap_after h).claims ne ∙ t.claims u ∙ ap claimant (sym (freed-other ix.entries e u (Claim p) mine ne))
      ];
      unclaimed = t.unclaimed;
      made = t.made;
      reach = t.reach;
      idle = t.idle;
    })
    (hands-none ix p (acts.Back e) (heap_after h) refl (λ k. refl)) (cells-kept ix h p (acts.Back e) st legal (λ z. refl) (λ s. refl))
    refl refl (λ q. refl) refl (λ s. refl) (λ q l. came-none p q (length (row_of q ix.hands))) (no-steps ix.slots) (freed-steps ix.entries e (Claim p) mine)
  where
    t : Tells ix (heap_after h)
    t = st.tells

-- the slot of an object is one of the slots
pub slot-range : (ix : Index) (h : History) → StandsFor ix h → (i : ℕ) (o : Object) → slice_get (heap_after h).objects i ≡ Some o → (s : ℕ) → o.slot ≡ Some s → s < ix.shape.slots
slot-range ix h st i o here s slot = go (owner_at s ix.slots) refl (sym (st.tells.slots s i) ∙ ap (is_so (in_the_slot s)) here ∙ ap (λ m. Rattle.arc_model.specs.Holders.is_number m s) slot ∙ eq-eqb s s refl)
  where
    go : (owner : Option Owner) → owner_at s ix.slots ≡ owner → is_object i (owner_at s ix.slots) ≡ true → s < ix.shape.slots
    go None e h = true≢false (sym (rw e at h))
    go (Some x) e h = let l = owner-within ix.slots s x e in let c = st.slots.count in omega arith

-- a reference joins a list
joined-count : (k : Kind) (y : Holder) (c : Counted) (o : Object) → count_in k c < most → IsCounted c o → IsCounted (with_one_more k c) (with_list k (with_last y) o)
joined-count Strong y c o room l = record { id = l.id; class = l.class; slot = l.slot; entry = l.entry; owed = l.owed; strong = raised-up most c.strong room ∙ ap (λ n. n + 1) l.strong ∙ sym (length-append o.strong (y ∷ [])); unowned = l.unowned; weak = l.weak; within = rw (raised-up most c.strong room) (omega arith) }
joined-count Unowned y c o room l = record { id = l.id; class = l.class; slot = l.slot; entry = l.entry; owed = l.owed; strong = l.strong; unowned = raised-up most c.unowned room ∙ ap (λ n. n + 1) l.unowned ∙ sym (length-append o.unowned (y ∷ [])); weak = l.weak; within = l.within }
joined-count Weak y c o room l = record { id = l.id; class = l.class; slot = l.slot; entry = l.entry; owed = l.owed; strong = l.strong; unowned = l.unowned; weak = raised-up most c.weak room ∙ ap (λ n. n + 1) l.weak ∙ sym (length-append o.weak (y ∷ [])); within = l.within }

pub list-id : (k : Kind) (f : List Holder → List Holder) (o : Object) → (with_list k f o).id ≡ o.id
list-id Strong f o = refl
list-id Unowned f o = refl
list-id Weak f o = refl

pub list-slot : (k : Kind) (f : List Holder → List Holder) (o : Object) → (with_list k f o).slot ≡ o.slot
list-slot Strong f o = refl
list-slot Unowned f o = refl
list-slot Weak f o = refl

pub list-entry : (k : Kind) (f : List Holder → List Holder) (o : Object) → (with_list k f o).entry ≡ o.entry
list-entry Strong f o = refl
list-entry Unowned f o = refl
list-entry Weak f o = refl

joined-hands : (k : Kind) (p n r : ℕ) (o : Object) → hands_of r (with_list k (with_last (Hand p n)) o).strong ≡ hands_of r o.strong + cond (same_kind k Strong && eqb p r) 1 0
joined-hands Strong p n r o = count-push r (Hand p n) o.strong
joined-hands Unowned p n r o = let e : hands_of r o.strong ≡ hands_of r o.strong + 0 = omega arith in e
joined-hands Weak p n r o = let e : hands_of r o.strong ≡ hands_of r o.strong + 0 = omega arith in e

strong-room : (k : Kind) (p : ℕ) (c : Counted) (o : Object) → IsCounted c o → count_in k c < most → same_kind k Strong ≡ true → hands_of p o.strong < most
strong-room Strong p c o l room e = let a = hands-length p o.strong in let b = l.strong in omega arith
strong-room Unowned p c o l room e = true≢false (sym e)
strong-room Weak p c o l room e = true≢false (sym e)

pub steps_join : (ix : Index) (h : History) (p n : ℕ) (act : Act) (k : Kind) (z : Holder) (w : Held) (o : Object) → p < length ix.marks → StandsFor ix h → IsLegal ix.shape (record { thread = p; act = act } ∷ h) → LikeHeld z ix (heap_after h) w o → count_in k w.counted < most →
    brings_hand act ≡ Some n → brings act ≡ true → ((m : ℕ) → ends_hand m act ≡ false) → n ≡ next_of ix p → ((x : Holder) → cell_next p act x (heap_after h) ≡ spot x (heap_after h)) →
    spot_of (Some (record { object = w.place.object; kind = k })) ≡ brought (heap_after h) p act →
    (effect p act (heap_after h)).objects ≡ placed w.place.object (with_list k (with_last (Hand p n)) o) (heap_after h).objects → (effect p act (heap_after h)).claims ≡ (heap_after h).claims →
    Steps ix (joins p k (Some w) ix) p act (heap_after h) (effect p act (heap_after h))
steps_join ix h p n act k z w o within st legal like room some comes ends next still from objs claims =
    build ix h p act st (pushed p (Some (record { object = w.place.object; kind = k })) ix.hands) ix.cells (reach_more p k w.counted.slot ix.reach) (placed w.place.object (with_one_more k w.counted) ix.objects) ix.slots ix.entries (effect p act (heap_after h))
    (tells-lists ix (heap_after h) st.tells w.place.object w.counted (with_one_more k w.counted) o q like.like (joined-count k (Hand p n) w.counted o room like.like.alike)
    (list-id k (with_last (Hand p n)) o) (list-slot k (with_last (Hand p n)) o) (list-entry k (with_last (Hand p n)) o)
    (pushed p (Some (record { object = w.place.object; kind = k })) ix.hands) ix.cells (reach_more p k w.counted.slot ix.reach) (effect p act (heap_after h)) objs claims reach.0 reach.1)
    (hands-push ix p act (heap_after h) n (Some (record { object = w.place.object; kind = k })) hands some ends next from)
    (cells-kept ix h p act st legal still (λ s. ap (λ os. id_of (Rattle.std.specs.Prelude.find (in_the_slot s) os)) objs ∙ ids-placed s (heap_after h).objects w.place.object o q like.like.in_heap (list-id k (with_last (Hand p n)) o) (list-slot k (with_last (Hand p n)) o)))
    (length-at_place p (λ row. row ++ Some (record { object = w.place.object; kind = k }) ∷ []) ix.hands)
    (reach_more-length p k w.counted.slot ix.reach) (λ r. reach_more-rows p k w.counted.slot ix.reach r) refl (λ s. refl)
    (λ r l. came-one p r (Some (record { object = w.place.object; kind = k })) ix.hands hands ∙ ap (λ b. length (row_of r ix.hands) + cond (eqb p r && b) 1 0) (sym comes))
    (no-steps ix.slots) (no-steps ix.entries)
  where
    q : Object
    q = with_list k (with_last (Hand p n)) o

    hands : p < length ix.hands
    hands = let e = st.sized.hands in omega arith

    reach : Reaches ix ix.slots (placed w.place.object (with_list k (with_last (Hand p n)) o) (heap_after h).objects) (reach_more p k w.counted.slot ix.reach) × Idles ix ix.slots (reach_more p k w.counted.slot ix.reach)
    reach = reach-more-ok ix (heap_after h) st.tells st.sized p k w.place.object w.counted o (with_list k (with_last (Hand p n)) o) like.like within (slot-range ix h st w.place.object o like.like.in_heap) (λ r. joined-hands k p n r o) (strong-room k p w.counted o like.like.alike room)
