-- What a swap does to an index, and what deinit does when it takes a reference out of a field.
use Rattle.std.proofs.Common.{◌≡◌, ℕ, zero, suc, ◌+◌, ◌<◌, Bool, true, false, cond, eqb, List, [], ◌∷◌, length, Option, Some, None, inl, inr, refl, sym, ap, ◌∙◌, subst, arith}
use Rattle.std.specs.Prelude.{slice_get, is_some, find, ◌&&◌}
use Rattle.std.proofs.lemmas.Bool.{cases_eq, eq-eqb, ne_eqb, eqb-true}
use Rattle.std.proofs.lemmas.Option.{slice_get_within}
use Rattle.arc_model.specs.declared.event.Act.{Act}
use Rattle.arc_model.specs.declared.event.CellName.{CellName}
use Rattle.arc_model.specs.declared.event.CellName.TheVariants as cells
use Rattle.arc_model.specs.Heaps.{Holder, Hand, Field, Object, Heap}
use Rattle.arc_model.specs.Holders.{same_holder, same_id, is_hand_of, lists, renamed, holds, at_first, in_slot as in_the_slot, at_slot, is_number}
use Rattle.arc_model.specs.Cells.{cell, id_of}
use Rattle.arc_model.specs.Effects.{effect, becomes, put_in, taken_out}
use Rattle.arc_model.specs.Lookup.{Spot, spot, hand_spot}
use Rattle.arc_model.specs.CellLaws.{cell_next}
use Rattle.arc_model.specs.Own.{ends_hand, brings_hand, brought}
use Rattle.arc_model.specs.History.{History, heap_after, brings, next_hand, IsLegal}
use Rattle.arc_model.proofs.CellSpots.{cells_after}
use Rattle.arc_model.proofs.Courses.{well_formed}
use Rattle.arc_model.proofs.Fields.{names-once, one-name}
use Rattle.arc_model.proofs.Tally.{same-id, same-refl}
use Rattle.arc_heap_index.specs.declared.counted.Place.{Place}
use Rattle.arc_heap_index.specs.declared.counted.Counted.{Counted}
use Rattle.arc_heap_index.specs.Counting.{at_place, placed, row_of, place_at, put_at, pushed, raised, most}
use Rattle.arc_heap_judge.specs.Index.{Index, hand_at, cell_at, hold, next_of}
use Rattle.arc_heap.specs.Moving.{cell_becomes, put_hand}
use Rattle.arc_heap_judge.specs.Stands.{spot_of, IsCellInRange, Tells, StandsFor}
use Rattle.arc_heap_index.proofs.Places.{length-at_place}
use Rattle.arc_heap_index.proofs.Rows.{put-same, put-row, put-other, row-length}
use Rattle.arc_heap_judge.proofs.Told.{true≢false, counted_at}
use Rattle.arc_heap.proofs.Acts.{build}
use Rattle.arc_heap.proofs.Slotted.{named-counts}
use Rattle.arc_heap.proofs.Swaps.{stands_at, some-inj}
use Rattle.arc_heap.proofs.Standing.{HandsAfter, no-steps, Steps}

-- the object in a slot has its name, whatever its lists become
ids-lists : (u : ℕ) (x : Holder) (g : List Holder → List Holder) (os : List Object) → id_of (find (in_the_slot u) (at_first (holds x) (lists g) os)) ≡ id_of (find (in_the_slot u) os)
ids-lists u x g [] = refl
ids-lists u x g (o ∷ os) = go (holds x o) (in_the_slot u o) (ids-lists u x g os)
  where
    go : (a b : Bool) → id_of (find (in_the_slot u) (at_first (holds x) (lists g) os)) ≡ id_of (find (in_the_slot u) os) → id_of (find (in_the_slot u) (cond a (lists g o ∷ os) (o ∷ at_first (holds x) (lists g) os))) ≡ id_of (find (in_the_slot u) (o ∷ os))
    go true b ih = keeps (in_the_slot u o)
      where
        keeps : (b : Bool) → id_of (cond b (Some (lists g o)) (find (in_the_slot u) os)) ≡ id_of (cond b (Some o) (find (in_the_slot u) os))
        keeps true = refl
        keeps false = refl
    go false b ih = below (in_the_slot u o) ih
      where
        below : (b : Bool) → id_of (find (in_the_slot u) (at_first (holds x) (lists g) os)) ≡ id_of (find (in_the_slot u) os) → id_of (cond b (Some o) (find (in_the_slot u) (at_first (holds x) (lists g) os))) ≡ id_of (cond b (Some o) (find (in_the_slot u) os))
        below true h = refl
        below false h = h

abbrev pub exchanged : Heap → CellName → ℕ → Option ℕ → Option ℕ → Heap
exchanged heap c p put took = put_in (cell heap c) p put (taken_out (cell heap c) p took heap)

ids-exchanged : (heap : Heap) (c : CellName) (p : ℕ) (put took : Option ℕ) (u : ℕ) → id_of (at_slot u (exchanged heap c p put took)) ≡ id_of (at_slot u heap)
ids-exchanged heap c p None None u = refl
ids-exchanged heap c p None (Some k) u = ids-lists u (cell heap c) (renamed (cell heap c) (Hand p k)) heap.objects
ids-exchanged heap c p (Some n) None u = ids-lists u (Hand p n) (renamed (Hand p n) (cell heap c)) heap.objects
ids-exchanged heap c p (Some n) (Some k) u =
    ids-lists u (Hand p n) (renamed (Hand p n) (cell heap c)) (becomes (cell heap c) (Hand p k) heap).objects ∙ ids-lists u (cell heap c) (renamed (cell heap c) (Hand p k)) heap.objects

-- objects in two slots have two names
find-at : (test : Object → Bool) (os : List Object) (o : Object) → find test os ≡ Some o → (i : ℕ) × (slice_get os i ≡ Some o) × (test o ≡ true)
find-at test [] o e = absurd (cc)
find-at test (x ∷ xs) o e = go (test x) refl e (find-at test xs o)
  where
    go : (b : Bool) → test x ≡ b → cond b (Some x) (find test xs) ≡ Some o → (find test xs ≡ Some o → (i : ℕ) × (slice_get xs i ≡ Some o) × (test o ≡ true)) → (i : ℕ) × (slice_get (x ∷ xs) i ≡ Some o) × (test o ≡ true)
    go true h e ih = let same : x ≡ o = some-inj e in (zero, e, ap test (sym same) ∙ h)
    go false h e ih = let r = ih e in (suc r.0, r.1, r.2)

in-slot-is : (s : ℕ) (o : Object) → in_the_slot s o ≡ true → o.slot ≡ Some s
in-slot-is s o h = go o.slot h
  where
    go : (m : Option ℕ) → is_number m s ≡ true → m ≡ Some s
    go None e = true≢false (sym e)
    go (Some n) e = ap Some (eqb-true n s e)

two-names : (ix : Index) (h : History) → StandsFor ix h → (s u : ℕ) → is_some (at_slot s (heap_after h)) ≡ true → (s ≡ u → ⊥) → same_id (id_of (at_slot u (heap_after h))) (id_of (at_slot s (heap_after h))) ≡ false
two-names ix h st s u there ne = go (same_id (id_of (at_slot u (heap_after h))) (id_of (at_slot s (heap_after h)))) refl (at_slot s (heap_after h)) (at_slot u (heap_after h)) refl refl there
  where
    go : (b : Bool) → same_id (id_of (at_slot u (heap_after h))) (id_of (at_slot s (heap_after h))) ≡ b → (a c : Option Object) → at_slot s (heap_after h) ≡ a → at_slot u (heap_after h) ≡ c → is_some (at_slot s (heap_after h)) ≡ true → b ≡ false
    go false e a c ea ec some = refl
    go true e None c ea ec some = true≢false (sym some ∙ ap is_some ea)
    go true e (Some o) None ea ec some =
        let f = find-at (in_the_slot s) (heap_after h).objects o ea in
        let id : record { thread = 0; number = 0 } ≡ o.id = sym (ap id_of ec) ∙ same-id (id_of (at_slot u (heap_after h))) (id_of (at_slot s (heap_after h))) e ∙ ap id_of ea in
        let a = named-counts (record { thread = 0; number = 0 }) (heap_after h).objects f.0 o f.1 (sym id) in
        let z = (well_formed ix.shape h st.legal).no_zero 0 in absurd (omega arith)
    go true e (Some o) (Some q) ea ec some =
        let f = find-at (in_the_slot s) (heap_after h).objects o ea in
        let g = find-at (in_the_slot u) (heap_after h).objects q ec in
        let id : q.id ≡ o.id = sym (ap id_of ec) ∙ same-id (id_of (at_slot u (heap_after h))) (id_of (at_slot s (heap_after h))) e ∙ ap id_of ea in
        let same = one-name o.id (heap_after h).objects f.0 g.0 o q (names-once (λ r. next_hand r h) (heap_after h) (well_formed ix.shape h st.legal) o.id) f.1 refl g.1 id in
        let slots : Some s ≡ Some u = sym (in-slot-is s o f.2) ∙ ap (λ (r : Object). r.slot) same ∙ in-slot-is u q g.2 in
        absurd (ne (some-inj slots))

-- the cells after a swap
abbrev pub cells_put : Index → CellName → Option Place → List (List (Option Place))
cells_put ix (cells.Field s f) place = put_at s f place ix.cells
cells_put ix (cells.Global g) place = put_at ix.shape.slots g place ix.cells

and-false : (b : Bool) → (b && false) ≡ false
and-false true = refl
and-false false = refl

false-and : {a : Bool} (b : Bool) → a ≡ false → (a && b) ≡ false
false-and b e = rw e refl

put-spot : (ix : Index) (h : History) → StandsFor ix h → (p : ℕ) (put : Option ℕ) → p < length ix.marks → spot_of (put_hand p put ix) ≡ hand_spot p put (heap_after h)
put-spot ix h st p None l = refl
put-spot ix h st p (Some n) l = st.points.hands p n l

cells-swapped : (ix : Index) (h : History) (p : ℕ) (act : Act) (c : CellName) (put took : Option ℕ) → p < length ix.marks → StandsFor ix h → IsLegal ix.shape (record { thread = p; act = act } ∷ h) → IsCellInRange ix.shape c → ((s f : ℕ) → c ≡ cells.Field s f → is_some (at_slot s (heap_after h)) ≡ true) →
    effect p act (heap_after h) ≡ exchanged (heap_after h) c p put took → ((z : Holder) → cell_next p act z (heap_after h) ≡ cond (same_holder z (cell (heap_after h) c)) (hand_spot p put (heap_after h)) (spot z (heap_after h))) →
    (d : CellName) → IsCellInRange ix.shape d → spot_of (cell_at (record ix { cells = cells_put ix c (put_hand p put ix) }) d) ≡ spot (cell (effect p act (heap_after h)) d) (effect p act (heap_after h))
cells-swapped ix h p act c put took within st legal range there eff next d range' = place c d range range' there ∙ sym (after d)
  where
    heap : Heap
    heap = heap_after h

    new : Heap
    new = effect p act (heap_after h)

    y : Option Place
    y = put_hand p put ix

    after : (d : CellName) → spot (cell (effect p act (heap_after h)) d) (effect p act (heap_after h)) ≡ cond (same_holder (cell (heap_after h) d) (cell (heap_after h) c)) (hand_spot p put (heap_after h)) (spot (cell (heap_after h) d) (heap_after h))
    after (cells.Field u g) =
        ap (λ i. spot (Field i g) (effect p act (heap_after h))) (ap (λ os. id_of (at_slot u os)) eff ∙ ids-exchanged (heap_after h) c p put took u)
        ∙ cells_after ix.shape h (record { thread = p; act = act }) (cell (heap_after h) (cells.Field u g)) legal refl ∙ next (cell (heap_after h) (cells.Field u g))
    after (cells.Global g) = cells_after ix.shape h (record { thread = p; act = act }) (cell (heap_after h) (cells.Global g)) legal refl ∙ next (cell (heap_after h) (cells.Global g))

    slots : {n : ℕ} → n < ix.shape.slots → n < length ix.cells
    slots l = let e = st.sized.cells in omega arith

    last : ix.shape.slots < length ix.cells
    last = let e = st.sized.cells in omega arith

    mine : {b : Bool} (s : Option Spot) → b ≡ true → spot_of (put_hand p put ix) ≡ cond b (hand_spot p put (heap_after h)) s
    mine s e = rw e (put-spot ix h st p put within)

    others : {b : Bool} (d : CellName) → IsCellInRange ix.shape d → b ≡ false → spot_of (cell_at ix d) ≡ cond b (hand_spot p put (heap_after h)) (spot (cell (heap_after h) d) (heap_after h))
    others d r e = rw e (st.points.cells d r)

    place : (c d : CellName) → IsCellInRange ix.shape c → IsCellInRange ix.shape d → ((s f : ℕ) → c ≡ cells.Field s f → is_some (at_slot s (heap_after h)) ≡ true) → spot_of (cell_at (record ix { cells = cells_put ix c (put_hand p put ix) }) d) ≡ cond (same_holder (cell (heap_after h) d) (cell (heap_after h) c)) (hand_spot p put (heap_after h)) (spot (cell (heap_after h) d) (heap_after h))
    place (cells.Field s f) (cells.Field u g) r r' there = elim (cases_eq s u) [
      | inr ne ↦ ap spot_of (put-row s u f g y ix.cells ne) ∙ others (cells.Field u g) r' (false-and (eqb g f) (two-names ix h st s u (there s f refl) ne))
      | inl same ↦ elim (cases_eq f g) [
        | inr ne ↦ rw (← same) (ap spot_of (put-other s f g y ix.cells (slots r.0) ne) ∙ others (cells.Field s g) (r.0, r'.1) (ap (λ b. same_id (id_of (at_slot s (heap_after h))) (id_of (at_slot s (heap_after h))) && b) (ne_eqb g f (λ e. ne (sym e))) ∙ and-false (same_id (id_of (at_slot s (heap_after h))) (id_of (at_slot s (heap_after h))))))
        | inl field ↦ rw (← same, ← field) (ap spot_of (put-same s f y ix.cells (slots r.0) (let e = st.sized.fields s r.0 in let l = r.1 in omega arith)) ∙ mine _ (same-refl (cell (heap_after h) (cells.Field s f))))
      ]
    ]
    place (cells.Field s f) (cells.Global g) r r' there = ap spot_of (put-row s ix.shape.slots f g y ix.cells (λ e. let l = r.0 in omega arith)) ∙ others (cells.Global g) r' refl
    place (cells.Global g) (cells.Field u f) r r' there = ap spot_of (put-row ix.shape.slots u g f y ix.cells (λ e. let l = r'.0 in omega arith)) ∙ others (cells.Field u f) r' refl
    place (cells.Global g) (cells.Global n) r r' there = elim (cases_eq g n) [
      | inr ne ↦ ap spot_of (put-other ix.shape.slots g n y ix.cells last ne) ∙ others (cells.Global n) r' (ne_eqb n g (λ e. ne (sym e)))
      | inl same ↦ rw (← same) (ap spot_of (put-same ix.shape.slots g y ix.cells last (let e = st.sized.globals in omega arith)) ∙ mine _ (eq-eqb g g refl))
    ]

-- the index after a swap, by its hands and reach
abbrev pub swapped_to : Index → CellName → Option Place → List (List (Option Place)) → List (List ℕ) → Index
swapped_to ix c place hands reach = record { shape = ix.shape; hands = hands; cells = cells_put ix c place; reach = reach; objects = ix.objects; marks = ix.marks; slots = ix.slots; entries = ix.entries }

becomes-is : (ix : Index) (c : CellName) (place : Option Place) (hands : List (List (Option Place))) (reach : List (List ℕ)) → cell_becomes c place (record { shape = ix.shape; hands = hands; cells = ix.cells; reach = reach; objects = ix.objects; marks = ix.marks; slots = ix.slots; entries = ix.entries }) ≡ swapped_to ix c place hands reach
becomes-is ix (cells.Field s f) place hands reach = refl
becomes-is ix (cells.Global g) place hands reach = refl

cells_put-length : (ix : Index) (c : CellName) (place : Option Place) → length (cells_put ix c place) ≡ length ix.cells
cells_put-length ix (cells.Field s f) place = length-at_place s (placed f place) ix.cells
cells_put-length ix (cells.Global g) place = length-at_place ix.shape.slots (placed g place) ix.cells

cells_put-rows : (ix : Index) (c : CellName) (place : Option Place) (u : ℕ) → length (row_of u (cells_put ix c place)) ≡ length (row_of u ix.cells)
cells_put-rows ix (cells.Field s f) place u = row-length s u (placed f place) ix.cells (λ row. length-at_place f (λ _. place) row)
cells_put-rows ix (cells.Global g) place u = row-length ix.shape.slots u (placed g place) ix.cells (λ row. length-at_place g (λ _. place) row)

-- what is known of an act that swaps
pub record Swaps (ix : Index) (h : History) (p : ℕ) (act : Act) (c : CellName) (put took : Option ℕ) : Type 0 where
  pub within : p < length ix.marks
  pub stands : StandsFor ix h
  pub legal : IsLegal ix.shape (record { thread = p; act = act } ∷ h)
  pub range : IsCellInRange ix.shape c
  pub there : (s f : ℕ) → c ≡ cells.Field s f → is_some (at_slot s (heap_after h)) ≡ true
  pub eff : effect p act (heap_after h) ≡ exchanged (heap_after h) c p put took
  pub next : (z : Holder) → cell_next p act z (heap_after h) ≡ cond (same_holder z (cell (heap_after h) c)) (hand_spot p put (heap_after h)) (spot z (heap_after h))
  pub comes : (k : ℕ) → took ≡ Some k → k ≡ next_of ix p
  pub full : is_some (spot (cell (heap_after h) c) (heap_after h)) ≡ is_some took
  pub given : (n : ℕ) → put ≡ Some n → is_some (spot (Hand p n) (heap_after h)) ≡ true
  pub brings_is : brings_hand act ≡ took
  pub brought_is : brought (heap_after h) p act ≡ spot (cell (heap_after h) c) (heap_after h)
  pub brings_one : brings act ≡ is_some took
  pub ends_is : (m : ℕ) → ends_hand m act ≡ is_number put m

pub swap_build : (ix : Index) (h : History) (p : ℕ) (act : Act) (c : CellName) (put took : Option ℕ) → Swaps ix h p act c put took → (hands : List (List (Option Place))) (reach : List (List ℕ)) →
    Tells (swapped_to ix c (put_hand p put ix) hands reach) (effect p act (heap_after h)) → HandsAfter ix p act (heap_after h) hands →
    length hands ≡ length ix.hands → length reach ≡ length ix.reach → ((q : ℕ) → length (row_of q reach) ≡ length (row_of q ix.reach)) →
    ((q : ℕ) → q < length ix.marks → length (row_of q hands) ≡ length (row_of q ix.hands) + cond (eqb p q && brings act) 1 0) →
    Steps ix (cell_becomes c (put_hand p put ix) (record { shape = ix.shape; hands = hands; cells = ix.cells; reach = reach; objects = ix.objects; marks = ix.marks; slots = ix.slots; entries = ix.entries })) p act (heap_after h) (effect p act (heap_after h))
swap_build ix h p act c put took w hands reach tells hands_ok lh lr rr came =
    subst (λ (new : Index). Steps ix new p act (heap_after h) (effect p act (heap_after h))) (sym (becomes-is ix c (put_hand p put ix) hands reach))
    (build ix h p act w.stands hands (cells_put ix c (put_hand p put ix)) reach ix.objects ix.slots ix.entries (effect p act (heap_after h)) tells hands_ok
    (cells-swapped ix h p act c put took w.within w.stands w.legal w.range w.there w.eff w.next)
    lh lr rr (cells_put-length ix c (put_hand p put ix)) (cells_put-rows ix c (put_hand p put ix)) came (no-steps ix.slots) (no-steps ix.entries))

-- where a place counts
pub record HeldAt (ix : Index) (heap : Heap) (z : Holder) (place : Option Place) : Type 0 where
  pub at : Place
  pub place_is : place ≡ Some at
  pub spot_is : spot z heap ≡ Some (record { place = at.object; kind = at.kind })
  pub counted : Counted
  pub in_index : slice_get ix.objects at.object ≡ Some counted

pub held-at : (ix : Index) (heap : Heap) → Tells ix heap → (z : Holder) (place : Option Place) → spot_of place ≡ spot z heap → is_some (spot z heap) ≡ true → HeldAt ix heap z place
held-at ix heap t z None e some = true≢false (sym some ∙ sym (ap is_some e))
held-at ix heap t z (Some w) e some =
    let d = stands_at z heap.objects (record { place = w.object; kind = w.kind }) (sym e) in
    let f = counted_at ix heap t w.object d.object d.here in
    record { at = w; place_is = refl; spot_is = sym e; counted = f.0; in_index = f.1.in_index }

pub hold-is : (ix : Index) (heap : Heap) (z : Holder) (place : Option Place) (d : HeldAt ix heap z place) → hold ix place ≡ Some (record { place = d.at; counted = d.counted })
hold-is ix heap z place d = ap (hold ix) d.place_is ∙ ap (Rattle.arc_heap_judge.specs.Index.with_place d.at) d.in_index

-- the slot of an object, by what an index tells
pub slot-within : (ix : Index) (heap : Heap) → Tells ix heap → length ix.slots.states ≡ ix.shape.slots → (i : ℕ) (o : Object) → slice_get heap.objects i ≡ Some o → (u : ℕ) → o.slot ≡ Some u → u < ix.shape.slots
slot-within ix heap t many i o here u slot = let own = Rattle.arc_heap.proofs.Departures.slot-owned ix heap t i o u here slot in let l = Rattle.arc_heap.proofs.Owners.owner-within ix.slots u (Rattle.arc_heap_index.specs.declared.slots.Owner.TheVariants.Object i) own in omega arith

pub no-hand-cell : (heap : Heap) (c : CellName) (r : ℕ) → is_hand_of r (cell heap c) ≡ false
no-hand-cell heap (cells.Field s f) r = refl
no-hand-cell heap (cells.Global g) r = refl

pub row-within : (hands : List (List (Option Place))) (p n : ℕ) (w : Place) → place_at p n hands ≡ Some w → n < length (row_of p hands)
row-within hands p n w e = go (slice_get (row_of p hands) n) refl e
  where
    go : (x : Option (Option Place)) → slice_get (row_of p hands) n ≡ x → Rattle.arc_heap_index.specs.Counting.flat x ≡ Some w → n < length (row_of p hands)
    go None f e = absurd (cc)
    go (Some x) f e = slice_get_within (row_of p hands) n x f

pub tells-tables : (ix : Index) (heap : Heap) → Tells ix heap → (hands cells : List (List (Option Place))) → Tells (record { shape = ix.shape; hands = hands; cells = cells; reach = ix.reach; objects = ix.objects; marks = ix.marks; slots = ix.slots; entries = ix.entries }) heap
tells-tables ix heap t hands cells = record { counted = t.counted; slots = t.slots; entries = t.entries; claims = t.claims; unclaimed = t.unclaimed; made = t.made; reach = t.reach; idle = t.idle }
