-- What acts do to an index: references that go, an object's deinit, its slot and its entry.
use Rattle.std.proofs.Common.{◌≡◌, ℕ, ◌+◌, ◌<◌, Bool, true, false, cond, eqb, List, [], ◌∷◌, ◌++◌, length, Option, Some, None, inl, inr, refl, sym, ap, ◌∙◌, subst, arith}
use Rattle.std.specs.Prelude.{slice_get, find, ◌&&◌}
use Rattle.std.proofs.lemmas.Bool.{cases_eq, eq-eqb, ne_eqb, eqb-true, and_parts}
use Rattle.arc_model.specs.declared.event.Act.TheVariants as acts
use Rattle.arc_model.specs.declared.shape.Kind.{Kind}
use Rattle.arc_model.specs.declared.shape.Kind.TheVariants.{Strong, Unowned, Weak}
use Rattle.arc_model.specs.Heaps.{Holder, Hand, Field, Strongs, Unowneds, Deinit, Vacating, Gone, Object, Claimed, Heap}
use Rattle.arc_model.specs.Holders.{is_in, list_of, with_list, without, holds, change, held_by, in_slot as in_the_slot, has_entry, is_number, is_duty, is_by, owes_to}
use Rattle.arc_model.specs.Cells.{id_of, same_kind}
use Rattle.arc_model.specs.Effects.{effect, ended_if, given_up, entry_left, entry_of_last, entry_to, finished, gone}
use Rattle.arc_model.specs.WellFormed.{IsWhole}
use Rattle.arc_model.specs.History.{History, heap_after, IsLegal}
use Rattle.arc_model.proofs.Courses.{well_formed}
use Rattle.arc_model.proofs.Stages.{dying-facts, gone-facts}
use Rattle.arc_model.proofs.Tally.{tally-in}
use Rattle.arc_heap_index.specs.declared.counted.Counted.{Counted}
use Rattle.arc_heap_index.specs.declared.counted.Held.{Held}
use Rattle.arc_heap_index.specs.declared.slots.Owner.{Owner}
use Rattle.arc_heap_index.specs.declared.slots.Owner.TheVariants.{Object as ObjectOwner, Claim}
use Rattle.arc_heap_index.specs.Counting.{placed, row_of, put_at, with_one_less, without_strongs, without_unowneds, entered}
use Rattle.arc_heap_index.specs.Freeing.{Freed, owner_at, taken, changed}
use Rattle.arc_heap_judge.specs.Index.{Index}
use Rattle.arc_heap.specs.Moving.{reach_less, leaves, entry_goes, finishes, goes_away, claims_if, sided}
use Rattle.arc_heap_judge.specs.Stands.{IsCounted, is_so, is_object, claimants, claimant, hands_of, Tells, StandsFor}
use Rattle.arc_heap_index.proofs.Places.{length-at_place}
use Rattle.arc_heap_index.proofs.Rows.{row-same, row-other}
use Rattle.arc_heap_judge.proofs.Told.{true≢false, LikeHeld, FoundAt}
use Rattle.arc_heap_judge.proofs.Finding.{placed_spot, placed_only}
use Rattle.arc_heap.proofs.Holders.{hands-without, length-without}
use Rattle.arc_heap.proofs.Spots.{ids-placed}
use Rattle.arc_heap.proofs.Tellings.{Reaches, Idles, placed-here, placed-other, slot-kept, entry-kept, owner-slot, reach-still, tells-changed, reach-less-ok}
use Rattle.arc_heap.proofs.Owners.{taken-here, taken-other, taken-steps, changed-is, owner-within, claimants-end, claimants-gone, claimants-kept}
use Rattle.arc_heap.proofs.Standing.{hands-none, hands-put, SlotSteps, no-steps, Steps}
use Rattle.arc_heap.proofs.Acts.{came-none, reach_less-length, reach_less-rows, build, cells-kept, list-id, list-slot, list-entry, slot-range}

-- an entry that belongs to an object is its owner's
pub entry-owner : (ix : Index) (heap : Heap) → Tells ix heap → (i : ℕ) (o : Object) (e : ℕ) → slice_get heap.objects i ≡ Some o → o.entry ≡ Some e → owner_at e ix.entries ≡ Some (ObjectOwner i)
entry-owner ix heap t i o e here entry = go (owner_at e ix.entries) (sym (t.entries e i) ∙ ap (is_so (has_entry e)) here ∙ ap (λ m. is_number m e) entry ∙ eq-eqb e e refl)
  where
    go : (owner : Option Owner) → is_object i owner ≡ true → owner ≡ Some (ObjectOwner i)
    go None h = true≢false (sym h)
    go (Some (ObjectOwner j)) h = ap (λ n. Some (ObjectOwner n)) (eqb-true j i h)
    go (Some (Claim q)) h = true≢false (sym h)

pub slot-owned : (ix : Index) (heap : Heap) → Tells ix heap → (i : ℕ) (o : Object) (s : ℕ) → slice_get heap.objects i ≡ Some o → o.slot ≡ Some s → owner_at s ix.slots ≡ Some (ObjectOwner i)
slot-owned ix heap t i o s here slot = go (owner_at s ix.slots) (owner-slot ix heap t i o s here slot)
  where
    go : (owner : Option Owner) → is_object i owner ≡ true → owner ≡ Some (ObjectOwner i)
    go None h = true≢false (sym h)
    go (Some (ObjectOwner j)) h = ap (λ n. Some (ObjectOwner n)) (eqb-true j i h)
    go (Some (Claim q)) h = true≢false (sym h)

-- an object's entry becomes a claim of p
released-entries : (ix : Index) (heap : Heap) → Tells ix heap → (p i e : ℕ) (o q : Object) → slice_get heap.objects i ≡ Some o → o.entry ≡ Some e → q.entry ≡ None →
    (u j : ℕ) → is_so (has_entry u) (slice_get (placed i q heap.objects) j) ≡ is_object j (owner_at u (taken e (Claim p) ix.entries))
released-entries ix heap t p i e o q here was none u j = elim (cases_eq e u) [
  | inl same ↦ rw (← same) (elim (cases_eq i j) [
    | inl at ↦ rw (← at) (ap (is_so (has_entry e)) (placed-here heap.objects i o q here) ∙ ap (λ m. is_number m e) none ∙ sym (ap (is_object i) now))
    | inr other ↦ ap (is_so (has_entry e)) (placed-other heap.objects i j q other) ∙ t.entries e j ∙ ap (is_object j) owner ∙ ne_eqb i j other ∙ sym (ap (is_object j) now)
  ])
  | inr ne ↦ elim (cases_eq i j) [
    | inl at ↦ rw (← at) (ap (is_so (has_entry u)) (placed-here heap.objects i o q here) ∙ ap (λ m. is_number m u) none ∙ sym (ne_eqb e u ne) ∙ sym (ap (λ m. is_number m u) was) ∙ sym (ap (is_so (has_entry u)) here) ∙ t.entries u i ∙ ap (is_object i) (sym (taken-other ix.entries e u (Claim p) ne)))
    | inr other ↦ ap (is_so (has_entry u)) (placed-other heap.objects i j q other) ∙ t.entries u j ∙ ap (is_object j) (sym (taken-other ix.entries e u (Claim p) ne))
  ]
]
  where
    owner : owner_at e ix.entries ≡ Some (ObjectOwner i)
    owner = entry-owner ix heap t i o e here was

    now : owner_at e (taken e (Claim p) ix.entries) ≡ Some (Claim p)
    now = taken-here ix.entries e (Claim p) (owner-within ix.entries e (ObjectOwner i) owner)

append-nil : (xs : List ℕ) → xs ++ [] ≡ xs
append-nil [] = refl
append-nil (x ∷ xs) = ap (λ ys. x ∷ ys) (append-nil xs)

released-claims : (ix : Index) (heap : Heap) → Tells ix heap → (p i e : ℕ) (o : Object) → slice_get heap.objects i ≡ Some o → o.entry ≡ Some e →
    (u : ℕ) → claimants u (heap.claims ++ record { thread = p; entry = e } ∷ []) ≡ claimant (owner_at u (taken e (Claim p) ix.entries))
released-claims ix heap t p i e o here was u = claimants-end u p e heap.claims ∙ elim (cases_eq e u) [
  | inl same ↦ rw (← same) (ap (λ b. claimants e heap.claims ++ cond b (p ∷ []) []) (eq-eqb e e refl) ∙ ap (λ qs. qs ++ p ∷ []) (t.claims e ∙ ap claimant owner) ∙ sym (ap claimant now))
  | inr ne ↦ ap (λ b. claimants u heap.claims ++ cond b (p ∷ []) []) (ne_eqb e u ne) ∙ append-nil (claimants u heap.claims) ∙ t.claims u ∙ ap claimant (sym (taken-other ix.entries e u (Claim p) ne))
]
  where
    owner : owner_at e ix.entries ≡ Some (ObjectOwner i)
    owner = entry-owner ix heap t i o e here was

    now : owner_at e (taken e (Claim p) ix.entries) ≡ Some (Claim p)
    now = taken-here ix.entries e (Claim p) (owner-within ix.entries e (ObjectOwner i) owner)

-- a list without a holder
left-count : (p : ℕ) (last : Bool) (k : Kind) (y : Holder) (c : Counted) (o : Object) → is_in y (list_of k o) ≡ true → IsCounted c o → IsCounted (with_one_less p k last c) (ended_if last p k (with_list k (without y) o))
left-count p true Strong y c o inside l = record { id = l.id; class = l.class; slot = l.slot; entry = l.entry; owed = refl; strong = let n = length-without y o.strong inside in let m = l.strong in omega arith; unowned = l.unowned; weak = l.weak; within = let m = l.within in omega arith }
left-count p false Strong y c o inside l = record { id = l.id; class = l.class; slot = l.slot; entry = l.entry; owed = l.owed; strong = let n = length-without y o.strong inside in let m = l.strong in omega arith; unowned = l.unowned; weak = l.weak; within = let m = l.within in omega arith }
left-count p true Unowned y c o inside l = record { id = l.id; class = l.class; slot = l.slot; entry = l.entry; owed = refl; strong = l.strong; unowned = let n = length-without y o.unowned inside in let m = l.unowned in omega arith; weak = l.weak; within = l.within }
left-count p false Unowned y c o inside l = record { id = l.id; class = l.class; slot = l.slot; entry = l.entry; owed = l.owed; strong = l.strong; unowned = let n = length-without y o.unowned inside in let m = l.unowned in omega arith; weak = l.weak; within = l.within }
left-count p true Weak y c o inside l = record { id = l.id; class = l.class; slot = l.slot; entry = refl; owed = l.owed; strong = l.strong; unowned = l.unowned; weak = let n = length-without y o.weak inside in let m = l.weak in omega arith; within = l.within }
left-count p false Weak y c o inside l = record { id = l.id; class = l.class; slot = l.slot; entry = l.entry; owed = l.owed; strong = l.strong; unowned = l.unowned; weak = let n = length-without y o.weak inside in let m = l.weak in omega arith; within = l.within }

ended-id : (last : Bool) (p : ℕ) (k : Kind) (o : Object) → (ended_if last p k o).id ≡ o.id
ended-id true p Strong o = refl
ended-id true p Unowned o = refl
ended-id true p Weak o = refl
ended-id false p k o = refl

ended-slot : (last : Bool) (p : ℕ) (k : Kind) (o : Object) → (ended_if last p k o).slot ≡ o.slot
ended-slot true p Strong o = refl
ended-slot true p Unowned o = refl
ended-slot true p Weak o = refl
ended-slot false p k o = refl

ended-strong : (last : Bool) (p : ℕ) (k : Kind) (o : Object) → (ended_if last p k o).strong ≡ o.strong
ended-strong true p Strong o = refl
ended-strong true p Unowned o = refl
ended-strong true p Weak o = refl
ended-strong false p k o = refl

left-hands : (k : Kind) (p n r : ℕ) (o : Object) → is_in (Hand p n) (list_of k o) ≡ true → hands_of r (with_list k (without (Hand p n)) o).strong + cond (same_kind k Strong && eqb p r) 1 0 ≡ hands_of r o.strong
left-hands Strong p n r o inside = hands-without r (Hand p n) o.strong inside
left-hands Unowned p n r o inside = let e : hands_of r o.strong + 0 ≡ hands_of r o.strong = omega arith in e
left-hands Weak p n r o inside = let e : hands_of r o.strong + 0 ≡ hands_of r o.strong = omega arith in e

-- what becomes of the entry
pub record EntryAfter (ix : Index) (heap : Heap) (i : ℕ) (q : Object) (entries : Freed) (claims : List Claimed) : Type 0 where
  pub entries_ok : (u j : ℕ) → is_so (has_entry u) (slice_get (placed i q heap.objects) j) ≡ is_object j (owner_at u entries)
  pub claims_ok : (u : ℕ) → claimants u claims ≡ claimant (owner_at u entries)
  pub steps : SlotSteps ix.entries entries

entry-stays : (ix : Index) (heap : Heap) → Tells ix heap → (i : ℕ) (o q : Object) → slice_get heap.objects i ≡ Some o → q.entry ≡ o.entry → EntryAfter ix heap i q ix.entries heap.claims
entry-stays ix heap t i o q here same = record {
  entries_ok = λ u j. entry-kept heap.objects i o q here same u j ∙ t.entries u j;
  claims_ok = t.claims;
  steps = no-steps ix.entries;
}

entry-released : (ix : Index) (heap : Heap) → Tells ix heap → (p i e : ℕ) (o q : Object) → slice_get heap.objects i ≡ Some o → o.entry ≡ Some e → q.entry ≡ None → EntryAfter ix heap i q (changed e (Claim p) ix.entries) (heap.claims ++ record { thread = p; entry = e } ∷ [])
entry-released ix heap t p i e o q here was none =
    rw (changed-is ix.entries e (Claim p) (ObjectOwner i) (entry-owner ix heap t i o e here was)) (record {
      entries_ok = released-entries ix heap t p i e o q here was none;
      claims_ok = released-claims ix heap t p i e o here was;
      steps = taken-steps ix.entries e (Claim p);
    })

-- the entries after a hand went
abbrev pub entries_left : ℕ → Bool → Kind → Option ℕ → Freed → Freed
entries_left p true Weak (Some e) entries = changed e (Claim p) entries
entries_left p _ _ _ entries = entries

abbrev pub claims_left : ℕ → Bool → Kind → Option ℕ → List Claimed → List Claimed
claims_left p true Weak (Some e) claims = claims ++ record { thread = p; entry = e } ∷ []
claims_left p _ _ _ claims = claims

entry-left : (ix : Index) (heap : Heap) → Tells ix heap → (p i : ℕ) (last : Bool) (k : Kind) (f : List Holder → List Holder) (o : Object) (entry : Option ℕ) → slice_get heap.objects i ≡ Some o → o.entry ≡ entry → EntryAfter ix heap i (ended_if last p k (with_list k f o)) (entries_left p last k entry ix.entries) (claims_left p last k entry heap.claims)
entry-left ix heap t p i true Strong f o entry here e = entry-stays ix heap t i o _ here refl
entry-left ix heap t p i true Unowned f o entry here e = entry-stays ix heap t i o _ here refl
entry-left ix heap t p i true Weak f o None here e = entry-stays ix heap t i o _ here (sym e)
entry-left ix heap t p i true Weak f o (Some n) here e = entry-released ix heap t p i n o _ here e refl
entry-left ix heap t p i false k f o entry here e = entry-stays ix heap t i o _ here (list-entry k f o)

to-objects : (p : ℕ) (m : Option ℕ) (heap : Heap) → (entry_to p m heap).objects ≡ heap.objects
to-objects p None heap = refl
to-objects p (Some e) heap = refl

to-claims : (p : ℕ) (last : Bool) (k : Kind) (entry : Option ℕ) (o : Object) (heap : Heap) → o.entry ≡ entry → (entry_to p (entry_of_last last k o) heap).claims ≡ claims_left p last k entry heap.claims
to-claims p true Strong entry o heap e = refl
to-claims p true Unowned entry o heap e = refl
to-claims p true Weak None o heap e = rw e refl
to-claims p true Weak (Some n) o heap e = rw e refl
to-claims p false k entry o heap e = refl

came-put : (p h q : ℕ) (hands : List (List (Option Rattle.arc_heap_index.specs.declared.counted.Place.Place))) → length (row_of q (put_at p h None hands)) ≡ length (row_of q hands) + cond (eqb p q && false) 1 0
came-put p h q hands = Rattle.arc_heap_index.proofs.Rows.row-length p q (placed h None) hands (λ row. length-at_place h (λ _. None) row) ∙ came-none p q (length (row_of q hands))

-- a release
pub steps_drop : (ix : Index) (h : History) (p n : ℕ) (last : Bool) (w : Held) (o : Object) → p < length ix.marks → StandsFor ix h → IsLegal ix.shape (record { thread = p; act = acts.Drop n last } ∷ h) → LikeHeld (Hand p n) ix (heap_after h) w o → Steps ix (leaves p n last (Some w) ix) p (acts.Drop n last) (heap_after h) (effect p (acts.Drop n last) (heap_after h))
steps_drop ix h p n last w o within st legal like =
    subst (λ (new : Index). Steps ix new p (acts.Drop n last) (heap_after h) (effect p (acts.Drop n last) (heap_after h))) (sym (index_is last w.place.kind w.counted.entry))
    (build ix h p (acts.Drop n last) st hands ix.cells reach objects ix.slots entries (effect p (acts.Drop n last) (heap_after h))
    (tells-changed ix (heap_after h) st.tells i w.counted c o q like.like (left-count p last k z w.counted o like.inside like.like.alike) id hands ix.cells reach ix.slots entries (effect p (acts.Drop n last) (heap_after h)) objs
    (λ s j. slot-kept (heap_after h).objects i o q like.like.in_heap slot s j ∙ st.tells.slots s j) entry.entries_ok (λ u. ap (claimants u) claims ∙ entry.claims_ok u) st.tells.unclaimed reached.0 reached.1)
    (hands-put ix p (acts.Drop n last) (heap_after h) n (let e = st.sized.hands in omega arith) refl (λ m. refl))
    (cells-kept ix h p (acts.Drop n last) st legal (λ x. refl) (λ s. ap (λ os. id_of (find (in_the_slot s) os)) objs ∙ ids-placed s (heap_after h).objects i o q like.like.in_heap id slot))
    (length-at_place p (placed n None) ix.hands) (reach_less-length p k w.counted.slot ix.reach) (λ r. reach_less-rows p k w.counted.slot ix.reach r) refl (λ s. refl) (λ r l. came-put p n r ix.hands) (no-steps ix.slots) entry.steps)
  where
    z : Holder
    z = Hand p n

    i : ℕ
    i = w.place.object

    k : Kind
    k = w.place.kind

    q : Object
    q = ended_if last p w.place.kind (with_list w.place.kind (without (Hand p n)) o)

    c : Counted
    c = with_one_less p w.place.kind last w.counted

    hands : List (List (Option Rattle.arc_heap_index.specs.declared.counted.Place.Place))
    hands = put_at p n None ix.hands

    reach : List (List ℕ)
    reach = reach_less p w.place.kind w.counted.slot ix.reach

    objects : List Counted
    objects = placed w.place.object (with_one_less p w.place.kind last w.counted) ix.objects

    entries : Freed
    entries = entries_left p last w.place.kind w.counted.entry ix.entries

    index_is : (last : Bool) (kind : Kind) (m : Option ℕ) → entry_goes p last kind m (record { shape = ix.shape; hands = put_at p n None ix.hands; cells = ix.cells; reach = reach; objects = objects; marks = ix.marks; slots = ix.slots; entries = ix.entries }) ≡ record { shape = ix.shape; hands = put_at p n None ix.hands; cells = ix.cells; reach = reach; objects = objects; marks = ix.marks; slots = ix.slots; entries = entries_left p last kind m ix.entries }
    index_is true Strong m = refl
    index_is true Unowned m = refl
    index_is true Weak None = refl
    index_is true Weak (Some e) = refl
    index_is false kind m = refl

    id : q.id ≡ o.id
    id = ended-id last p k (with_list k (without z) o) ∙ list-id k (without z) o

    slot : q.slot ≡ o.slot
    slot = ended-slot last p k (with_list k (without z) o) ∙ list-slot k (without z) o

    entry : EntryAfter ix (heap_after h) w.place.object (ended_if last p w.place.kind (with_list w.place.kind (without (Hand p n)) o)) (entries_left p last w.place.kind w.counted.entry ix.entries) (claims_left p last w.place.kind w.counted.entry (heap_after h).claims)
    entry = entry-left ix (heap_after h) st.tells p w.place.object last w.place.kind (without (Hand p n)) o w.counted.entry like.like.in_heap (sym like.like.alike.entry)

    reached : Reaches ix ix.slots (placed i q (heap_after h).objects) reach × Idles ix ix.slots reach
    reached = reach-less-ok ix (heap_after h) st.tells st.sized p k i w.counted o q like.like within (slot-range ix h st i o like.like.in_heap) (λ r. ap (λ xs. hands_of r xs + cond (same_kind k Strong && eqb p r) 1 0) (ended-strong last p k (with_list k (without z) o)) ∙ left-hands k p n r o like.inside)

    given : given_up p z last o ≡ q
    given = ap (λ kind. ended_if last p kind (with_list kind (without z) o)) like.kind_is

    objs : (effect p (acts.Drop n last) (heap_after h)).objects ≡ placed i q (heap_after h).objects
    objs = to-objects p (entry_left z last (held_by z (heap_after h))) (change (holds z) (given_up p z last) (heap_after h)) ∙ placed_spot z (given_up p z last) (heap_after h).objects (record { place = i; kind = k }) o like.spot_is like.like.in_heap ∙ ap (λ r. placed i r (heap_after h).objects) given

    claims : (effect p (acts.Drop n last) (heap_after h)).claims ≡ claims_left p last k w.counted.entry (heap_after h).claims
    claims = ap (λ found. (entry_to p (entry_left z last found) (change (holds z) (given_up p z last) (heap_after h))).claims) like.held
        ∙ ap (λ kind. (entry_to p (entry_of_last last kind o) (change (holds z) (given_up p z last) (heap_after h))).claims) like.kind_is
        ∙ to-claims p last k w.counted.entry o (change (holds z) (given_up p z last) (heap_after h)) (sym like.like.alike.entry)

-- what is owed to an object tells its stage
pub duty-of : (p : ℕ) (duty : Rattle.arc_model.specs.Heaps.Duty) (o : Object) → owes_to p duty o ≡ true → is_duty duty o.owed ≡ true
duty-of p duty o h = (and_parts (is_by p o.owed) (is_duty duty o.owed) h).1

-- a deinit ends
finished-count : (p : ℕ) (last : Bool) (c : Counted) (o : Object) → is_in Strongs o.unowned ≡ true → IsCounted c o → IsCounted (without_strongs p last c) (finished p last o)
finished-count p true c o inside l = record { id = l.id; class = l.class; slot = l.slot; entry = l.entry; owed = refl; strong = l.strong; unowned = let n = length-without Strongs o.unowned inside in let m = l.unowned in omega arith; weak = l.weak; within = l.within }
finished-count p false c o inside l = record { id = l.id; class = l.class; slot = l.slot; entry = l.entry; owed = refl; strong = l.strong; unowned = let n = length-without Strongs o.unowned inside in let m = l.unowned in omega arith; weak = l.weak; within = l.within }

finished-same : (p : ℕ) (last : Bool) (o : Object) → ((finished p last o).id ≡ o.id) × ((finished p last o).slot ≡ o.slot) × ((finished p last o).entry ≡ o.entry) × ((finished p last o).strong ≡ o.strong)
finished-same p true o = (refl, refl, refl, refl)
finished-same p false o = (refl, refl, refl, refl)

pub whole-at : (ix : Index) (h : History) → StandsFor ix h → (i : ℕ) (o : Object) → slice_get (heap_after h).objects i ≡ Some o → IsWhole ix.shape o
whole-at ix h st i o here = (well_formed ix.shape h st.legal).whole i o here

pub steps_finish : (ix : Index) (h : History) (p s : ℕ) (last : Bool) → StandsFor ix h → IsLegal ix.shape (record { thread = p; act = acts.Finish s last } ∷ h) → (i : ℕ) (d : FoundAt ix (heap_after h) (in_the_slot s) i) → owes_to p Deinit d.object ≡ true → Steps ix (finishes p last (Some (record { object = i; counted = d.counted })) ix) p (acts.Finish s last) (heap_after h) (effect p (acts.Finish s last) (heap_after h))
steps_finish ix h p s last st legal i d owes =
    build ix h p (acts.Finish s last) st ix.hands ix.cells ix.reach (placed i (without_strongs p last d.counted) ix.objects) ix.slots ix.entries (effect p (acts.Finish s last) (heap_after h))
    (tells-changed ix (heap_after h) st.tells i d.counted (without_strongs p last d.counted) o q d.like (finished-count p last d.counted o inside d.like.alike) same.0 ix.hands ix.cells ix.reach ix.slots ix.entries (effect p (acts.Finish s last) (heap_after h)) objs
    (λ u j. slot-kept (heap_after h).objects i o q d.like.in_heap same.1 u j ∙ st.tells.slots u j) (λ e j. entry-kept (heap_after h).objects i o q d.like.in_heap same.2 e j ∙ st.tells.entries e j) st.tells.claims st.tells.unclaimed
    (reach-still ix (heap_after h) st.tells i o q d.like.in_heap (λ r. ap (hands_of r) same.3)) st.tells.idle)
    (hands-none ix p (acts.Finish s last) (heap_after h) refl (λ m. refl))
    (cells-kept ix h p (acts.Finish s last) st legal (λ x. refl) (λ u. ap (λ os. id_of (find (in_the_slot u) os)) objs ∙ ids-placed u (heap_after h).objects i o q d.like.in_heap same.0 same.1))
    refl refl (λ r. refl) refl (λ u. refl) (λ r l. came-none p r (length (row_of r ix.hands))) (no-steps ix.slots) (no-steps ix.entries)
  where
    o : Object
    o = d.object

    q : Object
    q = finished p last d.object

    same : ((finished p last d.object).id ≡ d.object.id) × ((finished p last d.object).slot ≡ d.object.slot) × ((finished p last d.object).entry ≡ d.object.entry) × ((finished p last d.object).strong ≡ d.object.strong)
    same = finished-same p last d.object

    inside : is_in Strongs d.object.unowned ≡ true
    inside = let f = dying-facts d.object (whole-at ix h st i d.object d.like.in_heap) (duty-of p Deinit d.object owes) in tally-in Strongs d.object.unowned (let e = f.strongs in omega arith)

    objs : (effect p (acts.Finish s last) (heap_after h)).objects ≡ placed i q (heap_after h).objects
    objs = placed_only (in_the_slot s) (finished p last) (heap_after h).objects i d.object d.only

-- an entry is published
pub steps_side : (ix : Index) (h : History) (p s e : ℕ) (why : Kind) → StandsFor ix h → IsLegal ix.shape (record { thread = p; act = acts.Side s e why } ∷ h) → (i : ℕ) (d : FoundAt ix (heap_after h) (in_the_slot s) i) → d.object.entry ≡ None → owner_at e ix.entries ≡ Some (Claim p) → Steps ix (sided e (Some (record { object = i; counted = d.counted })) ix) p (acts.Side s e why) (heap_after h) (effect p (acts.Side s e why) (heap_after h))
steps_side ix h p s e why st legal i d none mine =
    build ix h p (acts.Side s e why) st ix.hands ix.cells ix.reach (placed i (entered e d.counted) ix.objects) ix.slots (changed e (ObjectOwner i) ix.entries) (effect p (acts.Side s e why) (heap_after h))
    (tells-changed ix (heap_after h) st.tells i d.counted (entered e d.counted) o q d.like (record { id = l.id; class = l.class; slot = l.slot; entry = refl; owed = l.owed; strong = l.strong; unowned = l.unowned; weak = l.weak; within = l.within }) refl ix.hands ix.cells ix.reach ix.slots (changed e (ObjectOwner i) ix.entries) (effect p (acts.Side s e why) (heap_after h)) objs
    (λ u j. slot-kept (heap_after h).objects i o q d.like.in_heap refl u j ∙ st.tells.slots u j)
    (λ u j. entries u j ∙ ap (is_object j) (sym (ap (owner_at u) is)))
    (λ u. claims u ∙ ap claimant (sym (ap (owner_at u) is)))
    st.tells.unclaimed (reach-still ix (heap_after h) st.tells i o q d.like.in_heap (λ r. refl)) st.tells.idle)
    (hands-none ix p (acts.Side s e why) (heap_after h) refl (λ m. refl))
    (cells-kept ix h p (acts.Side s e why) st legal (λ x. refl) (λ u. ap (λ os. id_of (find (in_the_slot u) os)) objs ∙ ids-placed u (heap_after h).objects i o q d.like.in_heap refl refl))
    refl refl (λ r. refl) refl (λ u. refl) (λ r l. came-none p r (length (row_of r ix.hands))) (no-steps ix.slots) (subst (SlotSteps ix.entries) (sym is) (taken-steps ix.entries e (ObjectOwner i)))
  where
    o : Object
    o = d.object

    q : Object
    q = record d.object { entry = Some e }

    l : IsCounted d.counted d.object
    l = d.like.alike

    is : changed e (ObjectOwner i) ix.entries ≡ taken e (ObjectOwner i) ix.entries
    is = changed-is ix.entries e (ObjectOwner i) (Claim p) mine

    now : owner_at e (taken e (ObjectOwner i) ix.entries) ≡ Some (ObjectOwner i)
    now = taken-here ix.entries e (ObjectOwner i) (owner-within ix.entries e (Claim p) mine)

    objs : (effect p (acts.Side s e why) (heap_after h)).objects ≡ placed i q (heap_after h).objects
    objs = placed_only (in_the_slot s) (λ o. record o { entry = Some e }) (heap_after h).objects i d.object d.only

    entries : (u j : ℕ) → is_so (has_entry u) (slice_get (placed i (record d.object { entry = Some e }) (heap_after h).objects) j) ≡ is_object j (owner_at u (taken e (ObjectOwner i) ix.entries))
    entries u j = elim (cases_eq e u) [
      | inl same ↦ rw (← same) (elim (cases_eq i j) [
        | inl at ↦ rw (← at) (ap (is_so (has_entry e)) (placed-here (heap_after h).objects i o q d.like.in_heap) ∙ eq-eqb e e refl ∙ sym (eq-eqb i i refl) ∙ sym (ap (is_object i) now))
        | inr other ↦ ap (is_so (has_entry e)) (placed-other (heap_after h).objects i j q other) ∙ st.tells.entries e j ∙ ap (is_object j) mine ∙ sym (ne_eqb i j other) ∙ sym (ap (is_object j) now)
      ])
      | inr ne ↦ elim (cases_eq i j) [
        | inl at ↦ rw (← at) (ap (is_so (has_entry u)) (placed-here (heap_after h).objects i o q d.like.in_heap) ∙ ne_eqb e u ne ∙ sym (ap (λ m. is_number m u) none) ∙ sym (ap (is_so (has_entry u)) d.like.in_heap) ∙ st.tells.entries u i ∙ ap (is_object i) (sym (taken-other ix.entries e u (ObjectOwner i) ne)))
        | inr other ↦ ap (is_so (has_entry u)) (placed-other (heap_after h).objects i j q other) ∙ st.tells.entries u j ∙ ap (is_object j) (sym (taken-other ix.entries e u (ObjectOwner i) ne))
      ]
    ]

    claims : (u : ℕ) → claimants u (effect p (acts.Side s e why) (heap_after h)).claims ≡ claimant (owner_at u (taken e (ObjectOwner i) ix.entries))
    claims u = elim (cases_eq e u) [
      | inl same ↦ rw (← same) (claimants-gone e (heap_after h).claims ∙ sym (ap claimant now))
      | inr ne ↦ claimants-kept e u (heap_after h).claims ne ∙ st.tells.claims u ∙ ap claimant (sym (taken-other ix.entries e u (ObjectOwner i) ne))
    ]

-- the weak reference on behalf of the unowned ones is taken off
gone-count : (p : ℕ) (last : Bool) (c : Counted) (o : Object) → is_in Unowneds o.weak ≡ true → IsCounted c o → IsCounted (without_unowneds last c) (gone p last o)
gone-count p true c o inside l = record { id = l.id; class = l.class; slot = l.slot; entry = refl; owed = refl; strong = l.strong; unowned = l.unowned; weak = let n = length-without Unowneds o.weak inside in let m = l.weak in omega arith; within = l.within }
gone-count p false c o inside l = record { id = l.id; class = l.class; slot = l.slot; entry = l.entry; owed = refl; strong = l.strong; unowned = l.unowned; weak = let n = length-without Unowneds o.weak inside in let m = l.weak in omega arith; within = l.within }

gone-same : (p : ℕ) (last : Bool) (o : Object) → ((gone p last o).id ≡ o.id) × ((gone p last o).slot ≡ o.slot) × ((gone p last o).strong ≡ o.strong)
gone-same p true o = (refl, refl, refl)
gone-same p false o = (refl, refl, refl)

abbrev pub claims_gone : Bool → ℕ → ℕ → List Claimed → List Claimed
claims_gone true p e claims = claims ++ record { thread = p; entry = e } ∷ []
claims_gone false p e claims = claims

abbrev pub entries_gone : Bool → ℕ → ℕ → Freed → Freed
entries_gone true p e entries = changed e (Claim p) entries
entries_gone false p e entries = entries

entry-gone : (ix : Index) (heap : Heap) → Tells ix heap → (p i e : ℕ) (last : Bool) (o : Object) → slice_get heap.objects i ≡ Some o → o.entry ≡ Some e → EntryAfter ix heap i (gone p last o) (entries_gone last p e ix.entries) (claims_gone last p e heap.claims)
entry-gone ix heap t p i e true o here was = entry-released ix heap t p i e o _ here was refl
entry-gone ix heap t p i e false o here was = entry-stays ix heap t i o _ here refl

pub steps_gone : (ix : Index) (h : History) (p e : ℕ) (last : Bool) → StandsFor ix h → IsLegal ix.shape (record { thread = p; act = acts.Gone e last } ∷ h) → (i : ℕ) (d : FoundAt ix (heap_after h) (has_entry e) i) → owes_to p Gone d.object ≡ true → Steps ix (goes_away p e last (Some (record { object = i; counted = d.counted })) ix) p (acts.Gone e last) (heap_after h) (effect p (acts.Gone e last) (heap_after h))
steps_gone ix h p e last st legal i d owes =
    subst (λ (new : Index). Steps ix new p (acts.Gone e last) (heap_after h) (effect p (acts.Gone e last) (heap_after h))) (sym (index_is last))
    (build ix h p (acts.Gone e last) st ix.hands ix.cells ix.reach (placed i (without_unowneds last d.counted) ix.objects) ix.slots (entries_gone last p e ix.entries) (effect p (acts.Gone e last) (heap_after h))
    (tells-changed ix (heap_after h) st.tells i d.counted (without_unowneds last d.counted) d.object q d.like (gone-count p last d.counted d.object inside d.like.alike) same.0 ix.hands ix.cells ix.reach ix.slots (entries_gone last p e ix.entries) (effect p (acts.Gone e last) (heap_after h)) (objs last)
    (λ u j. slot-kept (heap_after h).objects i d.object q d.like.in_heap same.1 u j ∙ st.tells.slots u j) entry.entries_ok (λ u. ap (claimants u) (claims last) ∙ entry.claims_ok u) st.tells.unclaimed
    (reach-still ix (heap_after h) st.tells i d.object q d.like.in_heap (λ r. ap (hands_of r) same.2)) st.tells.idle)
    (hands-none ix p (acts.Gone e last) (heap_after h) refl (λ m. refl))
    (cells-kept ix h p (acts.Gone e last) st legal (λ x. refl) (λ u. ap (λ os. id_of (find (in_the_slot u) os)) (objs last) ∙ ids-placed u (heap_after h).objects i d.object q d.like.in_heap same.0 same.1))
    refl refl (λ r. refl) refl (λ u. refl) (λ r l. came-none p r (length (row_of r ix.hands))) (no-steps ix.slots) entry.steps)
  where
    q : Object
    q = gone p last d.object

    same : ((gone p last d.object).id ≡ d.object.id) × ((gone p last d.object).slot ≡ d.object.slot) × ((gone p last d.object).strong ≡ d.object.strong)
    same = gone-same p last d.object

    was : d.object.entry ≡ Some e
    was = go d.object.entry d.only.passing
      where
        go : (m : Option ℕ) → is_number m e ≡ true → m ≡ Some e
        go None h = true≢false (sym h)
        go (Some n) h = ap Some (eqb-true n e h)

    inside : is_in Unowneds d.object.weak ≡ true
    inside = let f = gone-facts d.object (whole-at ix h st i d.object d.like.in_heap) (duty-of p Gone d.object owes) in tally-in Unowneds d.object.weak (let n = f.unowneds in omega arith)

    entry : EntryAfter ix (heap_after h) i (gone p last d.object) (entries_gone last p e ix.entries) (claims_gone last p e (heap_after h).claims)
    entry = entry-gone ix (heap_after h) st.tells p i e last d.object d.like.in_heap was

    index_is : (last : Bool) → claims_if last p e (record { shape = ix.shape; hands = ix.hands; cells = ix.cells; reach = ix.reach; objects = placed i (without_unowneds last d.counted) ix.objects; marks = ix.marks; slots = ix.slots; entries = ix.entries }) ≡ record { shape = ix.shape; hands = ix.hands; cells = ix.cells; reach = ix.reach; objects = placed i (without_unowneds last d.counted) ix.objects; marks = ix.marks; slots = ix.slots; entries = entries_gone last p e ix.entries }
    index_is true = refl
    index_is false = refl

    objs : (last : Bool) → (effect p (acts.Gone e last) (heap_after h)).objects ≡ placed i (gone p last d.object) (heap_after h).objects
    objs true = placed_only (has_entry e) (gone p true) (heap_after h).objects i d.object d.only
    objs false = placed_only (has_entry e) (gone p false) (heap_after h).objects i d.object d.only

    claims : (last : Bool) → (effect p (acts.Gone e last) (heap_after h)).claims ≡ claims_gone last p e (heap_after h).claims
    claims true = refl
    claims false = refl
