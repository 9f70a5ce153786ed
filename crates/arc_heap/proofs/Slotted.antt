-- What acts do to an index: a slot is vacated, and an object is made in one.
use Rattle.std.proofs.Common.{◌≡◌, ℕ, zero, suc, ◌+◌, ◌<◌, ◌≤◌, Bool, true, false, cond, eqb, not, List, [], ◌∷◌, ◌++◌, length, Option, Some, None, inl, inr, refl, sym, ap, ◌∙◌, subst, arith}
use Rattle.std.specs.Prelude.{slice_get, is_some, find, ◌&&◌, ◌||◌, slice_index_or}
use Rattle.std.proofs.lemmas.Bool.{cases_eq, eq-eqb, ne_eqb, eqb-true}
use Rattle.std.proofs.lemmas.Option.{slice_get_past}
use Rattle.std.proofs.lemmas.List.Sums.{sum_by-cons}
use Rattle.arc_model.specs.declared.event.Act.TheVariants as acts
use Rattle.arc_model.specs.declared.event.CellName.{CellName}
use Rattle.arc_model.specs.declared.event.CellName.TheVariants as cells
use Rattle.arc_model.specs.declared.event.ObjectId.{ObjectId}
use Rattle.arc_model.specs.declared.shape.Kind.TheVariants.{Strong}
use Rattle.arc_model.specs.Shapes.{HeapShape}
use Rattle.arc_model.specs.Heaps.{Holder, Hand, Field, Unowneds, Deinit, Vacating, Object, Heap}
use Rattle.arc_model.specs.Holders.{is_in, is_empty, without, in_slot as in_the_slot, has_entry, at_slot, is_number, is_duty, owes_to, made_by}
use Rattle.arc_model.specs.Cells.{cell, id_of, strong_holders}
use Rattle.arc_model.specs.Effects.{effect, owing_none, vacated, left_slot, made}
use Rattle.arc_model.specs.Lookup.{spot, list_in}
use Rattle.arc_model.specs.WellFormed.{held, total, named_times, keeps_fields, HasField, IsWellFormed}
use Rattle.arc_model.specs.History.{History, heap_after, next_hand, IsLegal}
use Rattle.arc_model.proofs.CellSpots.{cells_after}
use Rattle.arc_model.proofs.Courses.{well_formed}
use Rattle.arc_model.proofs.Fields.{names-once, one-name}
use Rattle.arc_model.proofs.Others.{spot-held}
use Rattle.arc_model.proofs.Stages.{vacating-facts, duty-apart}
use Rattle.arc_model.proofs.Tally.{tally-in, id-refl}
use Rattle.arc_model.proofs.Basics.{none-strong}
use Rattle.arc_heap_index.specs.declared.counted.Counted.{Counted}
use Rattle.arc_heap_index.specs.declared.mark.Mark.{Mark}
use Rattle.arc_heap_index.specs.declared.slots.Owner.TheVariants.{Object as ObjectOwner}
use Rattle.arc_heap_index.specs.Counting.{at_place, placed, row_of, pushed, place_at, raised, most, vacated_by, without_slot, tally_raised}
use Rattle.arc_heap_index.specs.Freeing.{owner_at, taken, freed, object_in}
use Rattle.arc_heap_judge.specs.Index.{Index, cell_at, mark_of, next_of, no_mark}
use Rattle.arc_heap.specs.Moving.{vacates, made_new, counted_new}
use Rattle.arc_heap_judge.specs.Stands.{IsCounted, AreCounted, is_so, is_object, claimant, hands_of, spot_of, IsCellInRange, StandsFor}
use Rattle.arc_heap_index.proofs.Places.{length-at_place, slice_get-append-last, get_or-at_place-same, get_or-at_place-other}
use Rattle.arc_heap_index.proofs.Rows.{past_end, tally-same, tally-row, tally-other, row-length}
use Rattle.arc_heap_judge.proofs.Told.{true≢false, FoundAt, found_none}
use Rattle.arc_heap_judge.proofs.Finding.{placed_only, find_none}
use Rattle.arc_heap.proofs.Holders.{length-without, hands-cons, raised-up}
use Rattle.arc_heap.proofs.Tellings.{placed-here, placed-other, entry-kept, slot-owner, tells-changed}
use Rattle.arc_heap.proofs.Owners.{taken-here, taken-other, taken-steps, freed-here, freed-other, freed-steps}
use Rattle.arc_heap.proofs.Standing.{hands-none, hands-push, no-steps, Steps}
use Rattle.arc_heap.proofs.Acts.{came-none, came-one, build}
use Rattle.arc_heap.proofs.Departures.{slot-owned, whole-at, duty-of}

none-is : {X : Type 0} (m : Option X) → (is_some m ≡ true → ⊥) → m ≡ None
none-is None h = refl
none-is (Some x) h = absurd (h refl)

-- a field of no object that keeps fields is nil
no-spot : (shape : HeapShape) (next : ℕ → ℕ) (heap : Heap) → IsWellFormed shape next heap → (id : ObjectId) (f : ℕ) → ((i : ℕ) (o : Object) → slice_get heap.objects i ≡ Some o → o.id ≡ id → keeps_fields shape o ≡ true → ⊥) → spot (Field id f) heap ≡ None
no-spot shape next heap wf id f none = none-is (spot (Field id f) heap) (λ some. let has = wf.owned id f (spot-held (Field id f) heap some) in none has.place has.object has.here has.named has.passing)

pub named-counts : (id : ObjectId) (os : List Object) (i : ℕ) (o : Object) → slice_get os i ≡ Some o → o.id ≡ id → 1 ≤ total (named_times id) os
named-counts id [] i o h e = absurd (cc)
named-counts id (r ∷ os) zero o h e =
    let same : r ≡ o = let g = h in cc in
    let a : named_times id r ≡ 1 = ap (λ b. Rattle.arc_model.specs.WellFormed.more b zero) (ap (Rattle.arc_model.specs.Holders.same_id id) (ap (λ (q : Object). q.id) same ∙ e) ∙ id-refl id) in omega arith
named-counts id (r ∷ os) (suc i) o h e = let a = named-counts id os i o h e in omega arith

-- no object has the name of none
pub no-zero-field : (shape : HeapShape) (next : ℕ → ℕ) (heap : Heap) → IsWellFormed shape next heap → (f : ℕ) → spot (Field (record { thread = 0; number = 0 }) f) heap ≡ None
no-zero-field shape next heap wf f = no-spot shape next heap wf (record { thread = 0; number = 0 }) f (λ i o here id keeps. let a = named-counts (record { thread = 0; number = 0 }) heap.objects i o here id in let b = wf.no_zero 0 in absurd (omega arith))

-- the object in another slot
find-vacated : (u : ℕ) (os : List Object) (i : ℕ) (o q : Object) → slice_get os i ≡ Some o → in_the_slot u o ≡ false → in_the_slot u q ≡ false → find (in_the_slot u) (placed i q os) ≡ find (in_the_slot u) os
find-vacated u [] i o q here a b = refl
find-vacated u (x ∷ xs) zero o q here a b = let same : x ≡ o = let g = here in cc in rw (b, same, a) refl
find-vacated u (x ∷ xs) (suc i) o q here a b = ap (λ r. cond (in_the_slot u x) (Some x) r) (find-vacated u xs i o q here a b)

find-end : (u : ℕ) (os : List Object) (o : Object) → in_the_slot u o ≡ false → find (in_the_slot u) (os ++ o ∷ []) ≡ find (in_the_slot u) os
find-end u [] o a = rw a refl
find-end u (x ∷ xs) o a = ap (λ r. cond (in_the_slot u x) (Some x) r) (find-end u xs o a)

find-last : (u : ℕ) (os : List Object) (o : Object) → find (in_the_slot u) os ≡ None → in_the_slot u o ≡ true → find (in_the_slot u) (os ++ o ∷ []) ≡ Some o
find-last u [] o none a = rw a refl
find-last u (x ∷ xs) o none a = go (in_the_slot u x) none (find-last u xs o)
  where
    go : (b : Bool) → cond b (Some x) (find (in_the_slot u) xs) ≡ None → (find (in_the_slot u) xs ≡ None → in_the_slot u o ≡ true → find (in_the_slot u) (xs ++ o ∷ []) ≡ Some o) → cond b (Some x) (find (in_the_slot u) (xs ++ o ∷ [])) ≡ Some o
    go true e ih = absurd (cc)
    go false e ih = ih e a

-- the object leaves its slot
vacated-count : (p : ℕ) (entry : Option ℕ) (c : Counted) (o : Object) → is_in Unowneds o.weak ≡ true → c.entry ≡ entry → IsCounted c o → IsCounted (vacated_by p entry c) (left_slot p entry (owing_none (record o { slot = None })))
vacated-count p None c o inside e l = record { id = l.id; class = l.class; slot = refl; entry = l.entry; owed = refl; strong = l.strong; unowned = l.unowned; weak = let n = length-without Unowneds o.weak inside in let m = l.weak in omega arith; within = l.within }
vacated-count p (Some n) c o inside e l = record { id = l.id; class = l.class; slot = refl; entry = l.entry; owed = refl; strong = l.strong; unowned = l.unowned; weak = l.weak; within = l.within }

vacated-same : (p : ℕ) (entry : Option ℕ) (o : Object) → ((left_slot p entry (owing_none (record o { slot = None }))).id ≡ o.id) × ((left_slot p entry (owing_none (record o { slot = None }))).slot ≡ None) × ((left_slot p entry (owing_none (record o { slot = None }))).entry ≡ o.entry) × ((left_slot p entry (owing_none (record o { slot = None }))).strong ≡ o.strong)
vacated-same p None o = (refl, refl, refl, refl)
vacated-same p (Some e) o = (refl, refl, refl, refl)

pub steps_vacate : (ix : Index) (h : History) (p s : ℕ) → StandsFor ix h → IsLegal ix.shape (record { thread = p; act = acts.Vacate s } ∷ h) → (i : ℕ) (d : FoundAt ix (heap_after h) (in_the_slot s) i) → owes_to p Vacating d.object ≡ true → Steps ix (vacates p s (Some (record { object = i; counted = d.counted })) ix) p (acts.Vacate s) (heap_after h) (effect p (acts.Vacate s) (heap_after h))
steps_vacate ix h p s st legal i d owes =
    build ix h p (acts.Vacate s) st ix.hands ix.cells ix.reach (placed i (without_slot p d.counted) ix.objects) (freed s ix.slots) ix.entries (effect p (acts.Vacate s) heap)
    (tells-changed ix heap st.tells i d.counted (without_slot p d.counted) o q d.like now same.0 ix.hands ix.cells ix.reach (freed s ix.slots) ix.entries (effect p (acts.Vacate s) heap) objs
    slots (λ u j. entry-kept heap.objects i o q d.like.in_heap same.2 u j ∙ st.tells.entries u j) st.tells.claims unclaimed reach idle)
    (hands-none ix p (acts.Vacate s) heap refl (λ m. refl)) cell_ok
    refl refl (λ r. refl) refl (λ u. refl) (λ r l. came-none p r (length (row_of r ix.hands))) (freed-steps ix.slots s (ObjectOwner i) owner) (no-steps ix.entries)
  where
    heap : Heap
    heap = heap_after h

    o : Object
    o = d.object

    q : Object
    q = left_slot p d.object.entry (owing_none (record d.object { slot = None }))

    same : ((left_slot p d.object.entry (owing_none (record d.object { slot = None }))).id ≡ d.object.id) × ((left_slot p d.object.entry (owing_none (record d.object { slot = None }))).slot ≡ None) × ((left_slot p d.object.entry (owing_none (record d.object { slot = None }))).entry ≡ d.object.entry) × ((left_slot p d.object.entry (owing_none (record d.object { slot = None }))).strong ≡ d.object.strong)
    same = vacated-same p d.object.entry d.object

    facts : Rattle.arc_model.proofs.Stages.VacatingFacts ix.shape d.object
    facts = vacating-facts d.object (whole-at ix h st i d.object d.like.in_heap) (duty-of p Vacating d.object owes)

    now : IsCounted (without_slot p d.counted) (left_slot p d.object.entry (owing_none (record d.object { slot = None })))
    now = subst (λ m. IsCounted (vacated_by p m d.counted) (left_slot p d.object.entry (owing_none (record d.object { slot = None })))) (sym d.like.alike.entry)
        (vacated-count p d.object.entry d.counted d.object (let f = facts.unowneds in tally-in Unowneds d.object.weak (omega arith)) d.like.alike.entry d.like.alike)

    slot : d.object.slot ≡ Some s
    slot = go d.object.slot d.only.passing
      where
        go : (m : Option ℕ) → is_number m s ≡ true → m ≡ Some s
        go None h = true≢false (sym h)
        go (Some n) h = ap Some (eqb-true n s h)

    owner : owner_at s ix.slots ≡ Some (ObjectOwner i)
    owner = slot-owned ix (heap_after h) st.tells i d.object s d.like.in_heap slot

    empty : owner_at s (freed s ix.slots) ≡ None
    empty = freed-here ix.slots s (ObjectOwner i) owner

    objs : (effect p (acts.Vacate s) (heap_after h)).objects ≡ placed i q (heap_after h).objects
    objs = placed_only (in_the_slot s) (vacated p) (heap_after h).objects i d.object d.only

    not_in : (u : ℕ) → (s ≡ u → ⊥) → in_the_slot u d.object ≡ false
    not_in u ne = ap (λ m. is_number m u) slot ∙ ne_eqb s u ne

    gone_from : (u : ℕ) → in_the_slot u (left_slot p d.object.entry (owing_none (record d.object { slot = None }))) ≡ false
    gone_from u = ap (λ m. is_number m u) same.1

    slots : (u j : ℕ) → is_so (in_the_slot u) (slice_get (placed i (left_slot p d.object.entry (owing_none (record d.object { slot = None }))) (heap_after h).objects) j) ≡ is_object j (owner_at u (freed s ix.slots))
    slots u j = elim (cases_eq s u) [
      | inl at ↦ rw (← at) (elim (cases_eq i j) [
        | inl here ↦ rw (← here) (ap (is_so (in_the_slot s)) (placed-here (heap_after h).objects i o q d.like.in_heap) ∙ gone_from s ∙ sym (ap (is_object i) empty))
        | inr other ↦ ap (is_so (in_the_slot s)) (placed-other (heap_after h).objects i j q other) ∙ st.tells.slots s j ∙ ap (is_object j) owner ∙ ne_eqb i j other ∙ sym (ap (is_object j) empty)
      ])
      | inr ne ↦ elim (cases_eq i j) [
        | inl here ↦ rw (← here) (ap (is_so (in_the_slot u)) (placed-here (heap_after h).objects i o q d.like.in_heap) ∙ gone_from u ∙ sym (not_in u ne) ∙ sym (ap (is_so (in_the_slot u)) d.like.in_heap) ∙ st.tells.slots u i ∙ ap (is_object i) (sym (freed-other ix.slots s u (ObjectOwner i) owner ne)))
        | inr other ↦ ap (is_so (in_the_slot u)) (placed-other (heap_after h).objects i j q other) ∙ st.tells.slots u j ∙ ap (is_object j) (sym (freed-other ix.slots s u (ObjectOwner i) owner ne))
      ]
    ]

    unclaimed : (u : ℕ) → claimant (owner_at u (freed s ix.slots)) ≡ []
    unclaimed u = elim (cases_eq s u) [
      | inl at ↦ rw (← at) (ap claimant empty)
      | inr ne ↦ ap claimant (freed-other ix.slots s u (ObjectOwner i) owner ne) ∙ st.tells.unclaimed u
    ]

    reach : (r u j : ℕ) → r < length ix.marks → u < ix.shape.slots → is_object j (owner_at u (freed s ix.slots)) ≡ true → Rattle.arc_heap_index.specs.Counting.tally_at r u ix.reach ≡ hands_of r (list_in Strong (slice_get (placed i (left_slot p d.object.entry (owing_none (record d.object { slot = None }))) (heap_after h).objects) j))
    reach r u j l m own = elim (cases_eq s u) [
      | inl at ↦ true≢false (sym own ∙ ap (λ v. is_object j (owner_at v (freed s ix.slots))) (sym at) ∙ ap (is_object j) empty)
      | inr ne ↦
          let before : is_object j (owner_at u ix.slots) ≡ true = ap (is_object j) (sym (freed-other ix.slots s u (ObjectOwner i) owner ne)) ∙ own in
          st.tells.reach r u j l m before ∙ elim (cases_eq i j) [
            | inl here ↦ absurd (ne (same-slot (sym slot ∙ slot-owner ix (heap_after h) st.tells i d.object u d.like.in_heap (rw (← here) at before))))
            | inr other ↦ ap (λ w. hands_of r (list_in Strong w)) (sym (placed-other (heap_after h).objects i j q other))
          ]
    ]
      where
        same-slot : {a b : ℕ} → Some a ≡ Some b → a ≡ b
        same-slot e = cc

    idle : (r u : ℕ) → r < length ix.marks → u < ix.shape.slots → owner_at u (freed s ix.slots) ≡ None → Rattle.arc_heap_index.specs.Counting.tally_at r u ix.reach ≡ 0
    idle r u l m free = elim (cases_eq s u) [
      | inl at ↦ rw (← at) (st.tells.reach r s i l (rw (← at) at m) (ap (is_object i) owner ∙ eq-eqb i i refl) ∙ ap (λ w. hands_of r (list_in Strong w)) d.like.in_heap ∙ ap (hands_of r) (none-strong ix.shape d.object facts.strong).0)
      | inr ne ↦ st.tells.idle r u l m (sym (freed-other ix.slots s u (ObjectOwner i) owner ne) ∙ free)
    ]

    keeps-none : (r : Object) → r ≡ d.object → keeps_fields ix.shape r ≡ true → ⊥
    keeps-none r e k = go (is_empty (strong_holders ix.shape d.object)) (is_duty Deinit d.object.owed) refl facts.strong (ap (keeps_fields ix.shape) (sym e) ∙ k)
      where
        go : (a b : Bool) → is_duty Deinit d.object.owed ≡ b → a ≡ true → (Rattle.std.specs.Prelude.not a || b) ≡ true → ⊥
        go true true f g k = true≢false (sym (duty-apart Deinit Vacating d.object.owed f (duty-of p Vacating d.object owes)))
        go true false f g k = true≢false (sym k)
        go false b f g k = true≢false (sym g)

    was_nil : (f : ℕ) → spot (Field d.object.id f) (heap_after h) ≡ None
    was_nil f = let wf = well_formed ix.shape h st.legal in
        no-spot ix.shape (λ r. next_hand r h) (heap_after h) wf d.object.id f (λ j r here id keeps. keeps-none r (one-name d.object.id (heap_after h).objects j i r d.object (names-once (λ r. next_hand r h) (heap_after h) wf d.object.id) here id d.like.in_heap refl) keeps)

    cell_ok : (c : CellName) → IsCellInRange ix.shape c → spot_of (cell_at ix c) ≡ spot (cell (effect p (acts.Vacate s) (heap_after h)) c) (effect p (acts.Vacate s) (heap_after h))
    cell_ok (cells.Global g) range = st.points.cells (cells.Global g) range ∙ sym (cells_after ix.shape h (record { thread = p; act = acts.Vacate s }) (cell (heap_after h) (cells.Global g)) legal refl)
    cell_ok (cells.Field u f) range = st.points.cells (cells.Field u f) range ∙ elim (cases_eq s u) [
      | inl at ↦ rw (← at) (
          ap (λ w. spot (Field (id_of w) f) (heap_after h)) (Rattle.arc_heap_judge.proofs.Finding.find_only (in_the_slot s) (heap_after h).objects i d.object d.only)
          ∙ was_nil f
          ∙ sym (ap (λ w. spot (Field (id_of w) f) (effect p (acts.Vacate s) (heap_after h))) (ap (find (in_the_slot s)) objs ∙ find_none (in_the_slot s) (placed i q (heap_after h).objects) (λ j r there. ap (is_so (in_the_slot s)) (sym there) ∙ slots s j ∙ ap (is_object j) empty))
          ∙ no-zero-field ix.shape (λ r. next_hand r (record { thread = p; act = acts.Vacate s } ∷ h)) (effect p (acts.Vacate s) (heap_after h)) (well_formed ix.shape (record { thread = p; act = acts.Vacate s } ∷ h) legal) f))
      | inr ne ↦ sym (ap (λ w. spot (Field (id_of w) f) (effect p (acts.Vacate s) (heap_after h))) (ap (find (in_the_slot u)) objs ∙ find-vacated u (heap_after h).objects i o q d.like.in_heap (not_in u ne) (gone_from u))
          ∙ cells_after ix.shape h (record { thread = p; act = acts.Vacate s }) (cell (heap_after h) (cells.Field u f)) legal refl)
    ]

-- an object is made
pub same_length : (xs : List Counted) (os : List Object) → ((j : ℕ) → AreCounted (slice_get xs j) (slice_get os j)) → length xs ≡ length os
same_length [] [] h = refl
same_length [] (o ∷ os) h = absurd (h zero)
same_length (x ∷ xs) [] h = absurd (h zero)
same_length (x ∷ xs) (o ∷ os) h = ap suc (same_length xs os (λ j. h (suc j)))

made-end : (p : ℕ) (os : List Object) (o : Object) → made_by p (os ++ o ∷ []) ≡ made_by p os + cond (eqb o.id.thread p) 1 0
made-end p [] o = sum_by-cons (λ (x : Object). cond {A = ℕ} (eqb x.id.thread p) 1 0) o [] ∙ (let e : cond {A = ℕ} (eqb o.id.thread p) 1 0 + 0 ≡ 0 + cond {A = ℕ} (eqb o.id.thread p) 1 0 = omega arith in e)
made-end p (x ∷ xs) o =
    let ih = made-end p xs o in
    let a = sum_by-cons (λ (x : Object). cond {A = ℕ} (eqb x.id.thread p) 1 0) x (xs ++ o ∷ []) in
    let b = sum_by-cons (λ (x : Object). cond {A = ℕ} (eqb x.id.thread p) 1 0) x xs in omega arith

one-hand : (p r k : ℕ) → hands_of r (Hand p k ∷ []) ≡ cond (eqb p r) 1 0
one-hand p r k = hands-cons r (Hand p k) [] ∙ (let e : cond {A = ℕ} (eqb p r) 1 0 + 0 ≡ cond {A = ℕ} (eqb p r) 1 0 = omega arith in e)

pub steps_new : (ix : Index) (h : History) (p k c s : ℕ) → p < length ix.marks → s < ix.shape.slots → StandsFor ix h → IsLegal ix.shape (record { thread = p; act = acts.New k c s } ∷ h) → k ≡ next_of ix p → owner_at s ix.slots ≡ None → Steps ix (made_new p k c s ix) p (acts.New k c s) (heap_after h) (effect p (acts.New k c s) (heap_after h))
steps_new ix h p k c s within range st legal next free = record {
  tells = record {
    counted = λ j. elim (cases_eq (length (heap_after h).objects) j) [
      | inl at ↦ rw (← at, slice_get-append-last (heap_after h).objects o) (subst (λ n. AreCounted (slice_get (ix.objects ++ d ∷ []) n) (Some o)) len (rw (slice_get-append-last ix.objects d) counted))
      | inr ne ↦ rw (past_end (heap_after h).objects o j ne, past_end ix.objects d j (λ e. ne (sym len ∙ e))) (st.tells.counted j)
    ];
    slots = slots;
    entries = λ e j. elim (cases_eq (length (heap_after h).objects) j) [
      | inl at ↦ ap (is_so (has_entry e)) (there j at) ∙ sym (ap (is_so (has_entry e)) (absent j at)) ∙ st.tells.entries e j
      | inr ne ↦ ap (is_so (has_entry e)) (past_end (heap_after h).objects o j ne) ∙ st.tells.entries e j
    ];
    claims = st.tells.claims;
    unclaimed = λ u. elim (cases_eq s u) [
      | inl at ↦ rw (← at) (ap claimant now)
      | inr ne ↦ ap claimant (taken-other ix.slots s u (ObjectOwner (length ix.objects)) ne) ∙ st.tells.unclaimed u
    ];
    made = λ r l. elim (cases_eq p r) [
      | inl same ↦ rw (← same) (ap (λ (m : Mark). m.made) mine ∙ number ∙ sym (made-end p (heap_after h).objects o ∙ ap (λ b. made_by p (heap_after h).objects + cond b 1 0) (eq-eqb p p refl)))
      | inr ne ↦ ap (λ (m : Mark). m.made) (other r ne) ∙ st.tells.made r (rw many at l) ∙ (let e : made_by r (heap_after h).objects ≡ made_by r (heap_after h).objects + 0 = omega arith in e) ∙ sym (made-end r (heap_after h).objects o ∙ ap (λ b. made_by r (heap_after h).objects + cond b 1 0) (ne_eqb p r ne))
    ];
    reach = λ r u j l m own. reach r u j (rw many at l) m own;
    idle = λ r u l m none. idle r u (rw many at l) m none;
  };
  hands = hands-push ix p (acts.New k c s) (heap_after h) k (Some (record { object = length ix.objects; kind = Strong })) (let e = st.sized.hands in omega arith) refl (λ n. refl) next (ap (λ n. Some (record { place = n; kind = Strong })) len);
  cells = cell_ok;
  shape = refl;
  sized = record {
    hands = length-at_place p (λ row. row ++ Some (record { object = length ix.objects; kind = Strong }) ∷ []) ix.hands ∙ st.sized.hands ∙ sym many;
    reach = length-at_place p (at_place s (raised most)) ix.reach ∙ st.sized.reach ∙ sym many;
    reach_rows = λ r l. row-length p r (at_place s (raised most)) ix.reach (λ row. length-at_place s (raised most) row) ∙ st.sized.reach_rows r (rw many at l);
    cells = st.sized.cells;
    fields = st.sized.fields;
    globals = st.sized.globals;
    few = st.sized.few;
  };
  came = λ r l. came-one p r (Some (record { object = length ix.objects; kind = Strong })) ix.hands (let e = st.sized.hands in omega arith);
  marks = many;
  since_slots = λ r. elim (cases_eq p r) [
    | inl same ↦ rw (← same) (ap (λ (m : Mark). m.slots) mine)
    | inr ne ↦ ap (λ (m : Mark). m.slots) (other r ne)
  ];
  since_entries = λ r. elim (cases_eq p r) [
    | inl same ↦ rw (← same) (ap (λ (m : Mark). m.entries) mine)
    | inr ne ↦ ap (λ (m : Mark). m.entries) (other r ne)
  ];
  fewer = λ r l. elim (cases_eq p r) [
    | inl same ↦ rw (← same) (
        let a : (mark_of (made_new p k c s ix) p).made ≡ (mark_of ix p).made + 1 = ap (λ (m : Mark). m.made) mine ∙ raised-up k (mark_of ix p).made below in
        let b = came-one p p (Some (record { object = length ix.objects; kind = Strong })) ix.hands (let e = st.sized.hands in omega arith) in
        let e : cond {A = ℕ} (eqb p p && true) 1 0 ≡ 1 = ap (λ b. cond {A = ℕ} (b && true) 1 0) (eq-eqb p p refl) in
        let f = st.fewer p within in omega arith)
    | inr ne ↦
        let a : (mark_of (made_new p k c s ix) r).made ≡ (mark_of ix r).made = ap (λ (m : Mark). m.made) (other r ne) in
        let b = came-one p r (Some (record { object = length ix.objects; kind = Strong })) ix.hands (let e = st.sized.hands in omega arith) in
        let f = st.fewer r l in omega arith
  ];
  slots = taken-steps ix.slots s (ObjectOwner (length ix.objects));
  entries = no-steps ix.entries;
}
  where
    o : Object
    o = made p k c s (heap_after h).objects

    d : Counted
    d = counted_new p (raised k (mark_of ix p).made) c s

    len : length ix.objects ≡ length (heap_after h).objects
    len = same_length ix.objects (heap_after h).objects st.tells.counted

    below : (mark_of ix p).made < k
    below = let f = st.fewer p within in omega arith

    number : raised k (mark_of ix p).made ≡ made_by p (heap_after h).objects + 1
    number = raised-up k (mark_of ix p).made below ∙ ap (λ n. n + 1) (st.tells.made p within)

    counted : IsCounted (counted_new p (raised k (mark_of ix p).made) c s) (made p k c s (heap_after h).objects)
    counted = record { id = ap (λ n. record { thread = p; number = n }) number; class = refl; slot = refl; entry = refl; owed = refl; strong = refl; unowned = refl; weak = refl; within = omega arith }

    now : owner_at s (taken s (ObjectOwner (length ix.objects)) ix.slots) ≡ Some (ObjectOwner (length ix.objects))
    now = taken-here ix.slots s (ObjectOwner (length ix.objects)) (let e = st.slots.count in omega arith)

    there : (j : ℕ) → length (heap_after h).objects ≡ j → slice_get ((heap_after h).objects ++ made p k c s (heap_after h).objects ∷ []) j ≡ Some (made p k c s (heap_after h).objects)
    there j at = rw (← at) (slice_get-append-last (heap_after h).objects o)

    absent : (j : ℕ) → length (heap_after h).objects ≡ j → slice_get (heap_after h).objects j ≡ None
    absent j at = slice_get_past (heap_after h).objects j (omega arith)

    slots : (u j : ℕ) → is_so (in_the_slot u) (slice_get ((heap_after h).objects ++ made p k c s (heap_after h).objects ∷ []) j) ≡ is_object j (owner_at u (taken s (ObjectOwner (length ix.objects)) ix.slots))
    slots u j = elim (cases_eq (length (heap_after h).objects) j) [
      | inl at ↦ ap (is_so (in_the_slot u)) (there j at) ∙ elim (cases_eq s u) [
        | inl same ↦ rw (← same) (eq-eqb s s refl ∙ sym (ap (is_object j) now ∙ eq-eqb (length ix.objects) j (len ∙ at)))
        | inr ne ↦ ne_eqb s u ne ∙ sym (ap (is_so (in_the_slot u)) (absent j at)) ∙ st.tells.slots u j ∙ ap (is_object j) (sym (taken-other ix.slots s u (ObjectOwner (length ix.objects)) ne))
      ]
      | inr ne ↦ ap (is_so (in_the_slot u)) (past_end (heap_after h).objects o j ne) ∙ st.tells.slots u j ∙ elim (cases_eq s u) [
        | inl same ↦ rw (← same) (ap (is_object j) free ∙ sym (ap (is_object j) now ∙ ne_eqb (length ix.objects) j (λ e. ne (sym len ∙ e))))
        | inr away ↦ ap (is_object j) (sym (taken-other ix.slots s u (ObjectOwner (length ix.objects)) away))
      ]
    ]

    many : length (made_new p k c s ix).marks ≡ length ix.marks
    many = length-at_place p (λ (m : Mark). record m { made = raised k (mark_of ix p).made }) ix.marks

    mine : mark_of (made_new p k c s ix) p ≡ record (mark_of ix p) { made = raised k (mark_of ix p).made }
    mine = get_or-at_place-same p (λ (m : Mark). record m { made = raised k (mark_of ix p).made }) ix.marks no_mark within

    other : (r : ℕ) → (p ≡ r → ⊥) → mark_of (made_new p k c s ix) r ≡ mark_of ix r
    other r ne = get_or-at_place-other p r (λ (m : Mark). record m { made = raised k (mark_of ix p).made }) ix.marks no_mark ne

    rows : p < length ix.reach
    rows = let e = st.sized.reach in omega arith

    columns : s < length (row_of p ix.reach)
    columns = let e = st.sized.reach_rows p within in omega arith

    away : (r u : ℕ) → (s ≡ u → ⊥) → Rattle.arc_heap_index.specs.Counting.tally_at r u (tally_raised p s ix.reach) ≡ Rattle.arc_heap_index.specs.Counting.tally_at r u ix.reach
    away r u ne = elim (cases_eq p r) [
      | inl same ↦ rw (← same) (tally-other p s u (raised most) ix.reach rows ne)
      | inr apart ↦ tally-row p r s u (raised most) ix.reach apart
    ]

    first : (r : ℕ) → r < length ix.marks → Rattle.arc_heap_index.specs.Counting.tally_at r s (tally_raised p s ix.reach) ≡ cond (eqb p r) 1 0
    first r l = elim (cases_eq p r) [
      | inl same ↦ rw (← same) (tally-same p s (raised most) ix.reach rows columns ∙ ap (raised most) (st.tells.idle p s within range free) ∙ raised-up most 0 (omega arith) ∙ sym (ap (λ b. cond {A = ℕ} b 1 0) (eq-eqb p p refl)))
      | inr apart ↦ tally-row p r s s (raised most) ix.reach apart ∙ st.tells.idle r s l range free ∙ sym (ap (λ b. cond {A = ℕ} b 1 0) (ne_eqb p r apart))
    ]

    last-owner : (j : ℕ) → is_object j (Some (ObjectOwner (length ix.objects))) ≡ true → length (heap_after h).objects ≡ j
    last-owner j e = sym len ∙ eqb-true (length ix.objects) j e

    reach : (r u j : ℕ) → r < length ix.marks → u < ix.shape.slots → is_object j (owner_at u (taken s (ObjectOwner (length ix.objects)) ix.slots)) ≡ true → Rattle.arc_heap_index.specs.Counting.tally_at r u (tally_raised p s ix.reach) ≡ hands_of r (list_in Strong (slice_get ((heap_after h).objects ++ made p k c s (heap_after h).objects ∷ []) j))
    reach r u j l m own = elim (cases_eq s u) [
      | inl same ↦ rw (← same) (first r l ∙ sym (ap (λ w. hands_of r (list_in Strong w)) (there j (last-owner j (sym (ap (is_object j) now) ∙ rw (← same) at own))) ∙ one-hand p r k))
      | inr ne ↦
          let before : is_object j (owner_at u ix.slots) ≡ true = ap (is_object j) (sym (taken-other ix.slots s u (ObjectOwner (length ix.objects)) ne)) ∙ own in
          away r u ne ∙ st.tells.reach r u j l m before ∙ ap (λ w. hands_of r (list_in Strong w)) (sym (past_end (heap_after h).objects o j (λ at. true≢false (sym before ∙ sym (st.tells.slots u j) ∙ ap (is_so (in_the_slot u)) (absent j at)))))
    ]

    idle : (r u : ℕ) → r < length ix.marks → u < ix.shape.slots → owner_at u (taken s (ObjectOwner (length ix.objects)) ix.slots) ≡ None → Rattle.arc_heap_index.specs.Counting.tally_at r u (tally_raised p s ix.reach) ≡ 0
    idle r u l m none = elim (cases_eq s u) [
      | inl same ↦ let n : None ≡ Some (ObjectOwner (length ix.objects)) = sym none ∙ ap (λ v. owner_at v (taken s (ObjectOwner (length ix.objects)) ix.slots)) (sym same) ∙ now in absurd (cc)
      | inr ne ↦ away r u ne ∙ st.tells.idle r u l m (sym (taken-other ix.slots s u (ObjectOwner (length ix.objects)) ne) ∙ none)
    ]

    fresh-nil : (f : ℕ) → spot (Field (made p k c s (heap_after h).objects).id f) (heap_after h) ≡ None
    fresh-nil f = let wf = well_formed ix.shape h st.legal in
        no-spot ix.shape (λ r. next_hand r h) (heap_after h) wf (made p k c s (heap_after h).objects).id f (λ j r here id keeps.
        let a = named-counts (made p k c s (heap_after h).objects).id (heap_after h).objects j r here id in
        let b = wf.no_other p (made_by p (heap_after h).objects) (omega arith) in
        let e : total (named_times (made p k c s (heap_after h).objects).id) (heap_after h).objects ≡ total (named_times (record { thread = p; number = suc (made_by p (heap_after h).objects) })) (heap_after h).objects = ap (λ n. total (named_times (record { thread = p; number = n })) (heap_after h).objects) (let g : made_by p (heap_after h).objects + 1 ≡ suc (made_by p (heap_after h).objects) = omega arith in g) in absurd (omega arith))

    none-there : find (in_the_slot s) (heap_after h).objects ≡ None
    none-there = found_none ix (heap_after h) (in_the_slot s) (owner_at s ix.slots) (st.tells.slots s) (ap object_in free)

    moved : (z : Holder) → Rattle.arc_model.specs.Lookup.is_cell z ≡ true → spot z (effect p (acts.New k c s) (heap_after h)) ≡ spot z (heap_after h)
    moved z is = cells_after ix.shape h (record { thread = p; act = acts.New k c s }) z legal is

    cell_ok : (cl : CellName) → IsCellInRange ix.shape cl → spot_of (cell_at ix cl) ≡ spot (cell (effect p (acts.New k c s) (heap_after h)) cl) (effect p (acts.New k c s) (heap_after h))
    cell_ok (cells.Global g) r = st.points.cells (cells.Global g) r ∙ sym (moved (cell (heap_after h) (cells.Global g)) refl)
    cell_ok (cells.Field u f) r = st.points.cells (cells.Field u f) r ∙ elim (cases_eq s u) [
      | inl at ↦ rw (← at) (
          ap (λ w. spot (Field (id_of w) f) (heap_after h)) none-there
          ∙ no-zero-field ix.shape (λ r. next_hand r h) (heap_after h) (well_formed ix.shape h st.legal) f
          ∙ sym (ap (λ w. spot (Field (id_of w) f) (effect p (acts.New k c s) (heap_after h))) (find-last s (heap_after h).objects o none-there (eq-eqb s s refl))
          ∙ moved (Field (made p k c s (heap_after h).objects).id f) refl
          ∙ fresh-nil f))
      | inr ne ↦ sym (ap (λ w. spot (Field (id_of w) f) (effect p (acts.New k c s) (heap_after h))) (find-end u (heap_after h).objects o (ne_eqb s u ne))
          ∙ moved (cell (heap_after h) (cells.Field u f)) refl)
    ]
