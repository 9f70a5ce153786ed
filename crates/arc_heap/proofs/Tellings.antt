-- What an index tells, through a change of one object.
use Rattle.std.proofs.Common.{◌≡◌, ℕ, zero, suc, ◌+◌, ◌-◌, ◌<◌, Bool, true, cond, eqb, List, [], ◌∷◌, length, Option, Some, None, inl, inr, refl, sym, ap, ◌∙◌, arith}
use Rattle.std.specs.Prelude.{slice_get, ◌&&◌}
use Rattle.std.specs.Option.{option_map}
use Rattle.std.proofs.lemmas.Bool.{cases_eq, eq-eqb, ne_eqb, eqb-true}
use Rattle.std.proofs.lemmas.List.Sums.{sum_by-cons}
use Rattle.arc_model.specs.declared.shape.Kind.{Kind}
use Rattle.arc_model.specs.declared.shape.Kind.TheVariants.{Strong, Unowned, Weak}
use Rattle.arc_model.specs.Heaps.{Object, Heap}
use Rattle.arc_model.specs.Holders.{in_slot as in_the_slot, has_entry, is_number, made_by}
use Rattle.arc_model.specs.Cells.{same_kind}
use Rattle.arc_model.specs.Lookup.{list_in}
use Rattle.arc_heap_index.specs.declared.counted.Place.{Place}
use Rattle.arc_heap_index.specs.declared.counted.Counted.{Counted}
use Rattle.arc_heap_index.specs.declared.slots.Owner.{Owner}
use Rattle.arc_heap_index.specs.declared.slots.Owner.TheVariants.{Object as ObjectOwner, Claim}
use Rattle.arc_heap_index.specs.Counting.{at_place, placed, row_of, tally_at, raised, most}
use Rattle.arc_heap_index.specs.Freeing.{Freed, owner_at}
use Rattle.arc_heap_judge.specs.Index.{Index}
use Rattle.arc_heap.specs.Moving.{reach_more, reach_less}
use Rattle.arc_heap_judge.specs.Stands.{IsCounted, AreCounted, is_so, is_object, claimants, claimant, hands_of, Tells, IsSized}
use Rattle.arc_heap_index.proofs.Places.{slice_get-at_place-same, slice_get-at_place-other}
use Rattle.arc_heap_index.proofs.Rows.{tally-same, tally-row, tally-other}
use Rattle.arc_heap_judge.proofs.Told.{true≢false, LikeFound}
use Rattle.arc_heap.proofs.Holders.{raised-up}

-- the object at a place, and the others
pub placed-here : {X : Type 0} (xs : List X) (i : ℕ) (x y : X) → slice_get xs i ≡ Some x → slice_get (placed i y xs) i ≡ Some y
placed-here xs i x y here = slice_get-at_place-same i (λ _. y) xs ∙ ap (option_map (λ _. y)) here

pub placed-other : {X : Type 0} (xs : List X) (i j : ℕ) (y : X) → (i ≡ j → ⊥) → slice_get (placed i y xs) j ≡ slice_get xs j
placed-other xs i j y ne = slice_get-at_place-other i j (λ _. y) xs ne

pub counted-changed : (xs : List Counted) (os : List Object) (i : ℕ) (c d : Counted) (o q : Object) → ((j : ℕ) → AreCounted (slice_get xs j) (slice_get os j)) → slice_get xs i ≡ Some c → slice_get os i ≡ Some o → IsCounted d q → (j : ℕ) → AreCounted (slice_get (placed i d xs) j) (slice_get (placed i q os) j)
counted-changed xs os i c d o q before in_index in_heap like j = elim (cases_eq i j) [
  | inl same ↦ rw (← same, placed-here xs i c d in_index, placed-here os i o q in_heap) like
  | inr other ↦ rw (placed-other xs i j d other, placed-other os i j q other) (before j)
]

-- a test by which the object is as before
pub so-kept : (test : Object → Bool) (os : List Object) (i : ℕ) (o q : Object) → slice_get os i ≡ Some o → test q ≡ test o → (j : ℕ) → is_so test (slice_get (placed i q os) j) ≡ is_so test (slice_get os j)
so-kept test os i o q here same j = elim (cases_eq i j) [
  | inl at ↦ rw (← at, placed-here os i o q here, here) same
  | inr other ↦ ap (is_so test) (placed-other os i j q other)
]

pub slot-kept : (os : List Object) (i : ℕ) (o q : Object) → slice_get os i ≡ Some o → q.slot ≡ o.slot → (s j : ℕ) → is_so (in_the_slot s) (slice_get (placed i q os) j) ≡ is_so (in_the_slot s) (slice_get os j)
slot-kept os i o q here same s j = so-kept (in_the_slot s) os i o q here (ap (λ m. is_number m s) same) j

pub entry-kept : (os : List Object) (i : ℕ) (o q : Object) → slice_get os i ≡ Some o → q.entry ≡ o.entry → (e j : ℕ) → is_so (has_entry e) (slice_get (placed i q os) j) ≡ is_so (has_entry e) (slice_get os j)
entry-kept os i o q here same e j = so-kept (has_entry e) os i o q here (ap (λ m. is_number m e) same) j

made-cons : (p : ℕ) (x : Object) (xs : List Object) → made_by p (x ∷ xs) ≡ cond (eqb x.id.thread p) 1 0 + made_by p xs
made-cons p x xs = sum_by-cons (λ (o : Object). cond (eqb o.id.thread p) 1 0) x xs

pub made-kept : (p : ℕ) (os : List Object) (i : ℕ) (o q : Object) → slice_get os i ≡ Some o → q.id ≡ o.id → made_by p (placed i q os) ≡ made_by p os
made-kept p [] i o q here same = refl
made-kept p (x ∷ xs) zero o q here same =
    let at : x ≡ o = let g = here in cc in
    let f : cond {A = ℕ} (eqb q.id.thread p) 1 0 ≡ cond {A = ℕ} (eqb x.id.thread p) 1 0 = ap (λ id. cond {A = ℕ} (eqb (Rattle.arc_model.specs.declared.event.ObjectId.ObjectId.thread id) p) 1 0) (same ∙ ap (λ (r : Object). r.id) (sym at)) in
    let a = made-cons p q xs in let b = made-cons p x xs in omega arith
made-kept p (x ∷ xs) (suc i) o q here same = let ih = made-kept p xs i o q here same in let a = made-cons p x (placed i q xs) in let b = made-cons p x xs in omega arith

-- where the object's slot stands
pub slot-owner : (ix : Index) (heap : Heap) → Tells ix heap → (i : ℕ) (o : Object) (s : ℕ) → slice_get heap.objects i ≡ Some o → is_object i (owner_at s ix.slots) ≡ true → o.slot ≡ Some s
slot-owner ix heap t i o s here owner = go o.slot (sym (ap (is_so (in_the_slot s)) here) ∙ t.slots s i ∙ owner)
  where
    go : (m : Option ℕ) → is_number m s ≡ true → m ≡ Some s
    go None e = true≢false (sym e)
    go (Some n) e = ap Some (eqb-true n s e)

pub owner-slot : (ix : Index) (heap : Heap) → Tells ix heap → (i : ℕ) (o : Object) (s : ℕ) → slice_get heap.objects i ≡ Some o → o.slot ≡ Some s → is_object i (owner_at s ix.slots) ≡ true
owner-slot ix heap t i o s here slot = sym (t.slots s i) ∙ ap (is_so (in_the_slot s)) here ∙ ap (λ m. is_number m s) slot ∙ eq-eqb s s refl

one-owner : (i j : ℕ) (owner : Option Owner) → is_object i owner ≡ true → is_object j owner ≡ true → i ≡ j
one-owner i j None a b = true≢false (sym a)
one-owner i j (Some (ObjectOwner k)) a b = sym (eqb-true k i a) ∙ eqb-true k j b
one-owner i j (Some (Claim q)) a b = true≢false (sym a)

-- what the reach table must tell after a change
abbrev pub Reaches : Index → Freed → List Object → List (List ℕ) → Type 0
Reaches ix slots os reach = (p s i : ℕ) → p < length ix.marks → s < ix.shape.slots → is_object i (owner_at s slots) ≡ true → tally_at p s reach ≡ hands_of p (list_in Strong (slice_get os i))

abbrev pub Idles : Index → Freed → List (List ℕ) → Type 0
Idles ix slots reach = (p s : ℕ) → p < length ix.marks → s < ix.shape.slots → owner_at s slots ≡ None → tally_at p s reach ≡ 0

-- no hand came to the strong list or went
pub reach-still : (ix : Index) (heap : Heap) → Tells ix heap → (i : ℕ) (o q : Object) → slice_get heap.objects i ≡ Some o → ((p : ℕ) → hands_of p q.strong ≡ hands_of p o.strong) → Reaches ix ix.slots (placed i q heap.objects) ix.reach
reach-still ix heap t i o q here same p s j l m owner = t.reach p s j l m owner ∙ elim (cases_eq i j) [
  | inl at ↦ rw (← at, placed-here heap.objects i o q here, here) (sym (same p))
  | inr other ↦ ap (λ r. hands_of p (list_in Strong r)) (sym (placed-other heap.objects i j q other))
]

-- a hand of p came to the strong list, or went
pub reach-moved : (ix : Index) (heap : Heap) → Tells ix heap → IsSized ix → (f : ℕ → ℕ) (p s : ℕ) (i : ℕ) (o q : Object) → p < length ix.marks → s < ix.shape.slots → slice_get heap.objects i ≡ Some o → o.slot ≡ Some s → f (hands_of p o.strong) ≡ hands_of p q.strong → ((r : ℕ) → (p ≡ r → ⊥) → hands_of r q.strong ≡ hands_of r o.strong) →
    Reaches ix ix.slots (placed i q heap.objects) (at_place p (at_place s f) ix.reach)
reach-moved ix heap t z f p s i o q l m here slot mine others r u j lr mu owner = elim (cases_eq i j) [
  | inl at ↦ rw (← at, placed-here heap.objects i o q here) (here-case (rw (← at) at owner))
  | inr other ↦ rw (placed-other heap.objects i j q other) (away (λ same. other (one-owner i j (owner_at s ix.slots) (owner-slot ix heap t i o s here slot) (rw same at owner))) ∙ t.reach r u j lr mu owner)
]
  where
    within : p < length ix.reach
    within = let e = z.reach in omega arith

    inside : s < length (row_of p ix.reach)
    inside = let e = z.reach_rows p l in omega arith

    away : (u ≡ s → ⊥) → tally_at r u (at_place p (at_place s f) ix.reach) ≡ tally_at r u ix.reach
    away ne = elim (cases_eq p r) [
      | inl same ↦ rw (← same) (tally-other p s u f ix.reach within (λ e. ne (sym e)))
      | inr apart ↦ tally-row p r s u f ix.reach apart
    ]

    here-case : is_object i (owner_at u ix.slots) ≡ true → tally_at r u (at_place p (at_place s f) ix.reach) ≡ hands_of r q.strong
    here-case own =
        let e : Some s ≡ Some u = sym slot ∙ slot-owner ix heap t i o u here own in
        let same : s ≡ u = cc in
        let was : tally_at r s ix.reach ≡ hands_of r o.strong = rw same (t.reach r u i lr mu own ∙ ap (λ w. hands_of r (list_in Strong w)) here) in
        elim (cases_eq p r) [
          | inl pr ↦ rw (← same, ← pr) (tally-same p s f ix.reach within inside ∙ ap f (rw (← pr) at was) ∙ mine)
          | inr apart ↦ rw (← same) (tally-row p r s s f ix.reach apart ∙ was ∙ sym (others r apart))
        ]

pub idle-still : (ix : Index) (heap : Heap) → Tells ix heap → Idles ix ix.slots ix.reach
idle-still ix heap t = t.idle

pub idle-moved : (ix : Index) (heap : Heap) → Tells ix heap → IsSized ix → (f : ℕ → ℕ) (p s : ℕ) (i : ℕ) (o : Object) → p < length ix.marks → slice_get heap.objects i ≡ Some o → o.slot ≡ Some s → Idles ix ix.slots (at_place p (at_place s f) ix.reach)
idle-moved ix heap t z f p s i o l here slot r u lr mu free =
    away (λ same. clash (owner-slot ix heap t i o s here slot) (rw same at free)) ∙ t.idle r u lr mu free
  where
    clash : is_object i (owner_at s ix.slots) ≡ true → owner_at s ix.slots ≡ None → ⊥
    clash a b = true≢false (sym a ∙ ap (is_object i) b)

    away : (u ≡ s → ⊥) → tally_at r u (at_place p (at_place s f) ix.reach) ≡ tally_at r u ix.reach
    away ne = elim (cases_eq p r) [
      | inl same ↦ rw (← same) (tally-other p s u f ix.reach (let e = z.reach in omega arith) (λ e. ne (sym e)))
      | inr apart ↦ tally-row p r s u f ix.reach apart
    ]

-- one object changed
pub tells-changed : (ix : Index) (heap : Heap) → Tells ix heap → (i : ℕ) (c d : Counted) (o q : Object) → LikeFound ix heap i c o → IsCounted d q → q.id ≡ o.id →
    (hands cells : List (List (Option Place))) (reach : List (List ℕ)) (slots entries : Freed) (new : Heap) → new.objects ≡ placed i q heap.objects →
    ((s j : ℕ) → is_so (in_the_slot s) (slice_get (placed i q heap.objects) j) ≡ is_object j (owner_at s slots)) →
    ((e j : ℕ) → is_so (has_entry e) (slice_get (placed i q heap.objects) j) ≡ is_object j (owner_at e entries)) →
    ((e : ℕ) → claimants e new.claims ≡ claimant (owner_at e entries)) →
    ((s : ℕ) → claimant (owner_at s slots) ≡ []) →
    Reaches ix slots (placed i q heap.objects) reach → Idles ix slots reach →
    Tells (record { shape = ix.shape; hands = hands; cells = cells; reach = reach; objects = placed i d ix.objects; marks = ix.marks; slots = slots; entries = entries }) new
tells-changed ix heap t i c d o q like now same hands cells reach slots entries new objs at_slots at_entries claimed none reached idle = record {
  counted = λ j. rw objs (counted-changed ix.objects heap.objects i c d o q t.counted like.in_index like.in_heap now j);
  slots = λ s j. rw objs (at_slots s j);
  entries = λ e j. rw objs (at_entries e j);
  claims = claimed;
  unclaimed = none;
  made = λ p l. rw objs (t.made p l ∙ sym (made-kept p heap.objects i o q like.in_heap same));
  reach = λ p s j l m owner. rw objs (reached p s j l m owner);
  idle = idle;
}

-- one object's lists changed, and nothing of its slot and entry
pub tells-lists : (ix : Index) (heap : Heap) → Tells ix heap → (i : ℕ) (c d : Counted) (o q : Object) → LikeFound ix heap i c o → IsCounted d q → q.id ≡ o.id → q.slot ≡ o.slot → q.entry ≡ o.entry →
    (hands cells : List (List (Option Place))) (reach : List (List ℕ)) (new : Heap) → new.objects ≡ placed i q heap.objects → new.claims ≡ heap.claims →
    Reaches ix ix.slots (placed i q heap.objects) reach → Idles ix ix.slots reach →
    Tells (record { shape = ix.shape; hands = hands; cells = cells; reach = reach; objects = placed i d ix.objects; marks = ix.marks; slots = ix.slots; entries = ix.entries }) new
tells-lists ix heap t i c d o q like now same slot entry hands cells reach new objs claims reached idle =
    tells-changed ix heap t i c d o q like now same hands cells reach ix.slots ix.entries new objs
    (λ s j. slot-kept heap.objects i o q like.in_heap slot s j ∙ t.slots s j)
    (λ e j. entry-kept heap.objects i o q like.in_heap entry e j ∙ t.entries e j)
    (λ e. ap (claimants e) claims ∙ t.claims e)
    t.unclaimed reached idle

-- the reach after a hand of p came or went
pub reach-more-ok : (ix : Index) (heap : Heap) → Tells ix heap → IsSized ix → (p : ℕ) (k : Kind) (i : ℕ) (c : Counted) (o q : Object) → LikeFound ix heap i c o → p < length ix.marks → ((s : ℕ) → o.slot ≡ Some s → s < ix.shape.slots) →
    ((r : ℕ) → hands_of r q.strong ≡ hands_of r o.strong + cond (same_kind k Strong && eqb p r) 1 0) → (same_kind k Strong ≡ true → hands_of p o.strong < most) →
    Reaches ix ix.slots (placed i q heap.objects) (reach_more p k c.slot ix.reach) × Idles ix ix.slots (reach_more p k c.slot ix.reach)
reach-more-ok ix heap t z p Unowned i c o q like l range more room = (reach-still ix heap t i o q like.in_heap (λ r. more r ∙ (let e : hands_of r o.strong + 0 ≡ hands_of r o.strong = omega arith in e)), idle-still ix heap t)
reach-more-ok ix heap t z p Weak i c o q like l range more room = (reach-still ix heap t i o q like.in_heap (λ r. more r ∙ (let e : hands_of r o.strong + 0 ≡ hands_of r o.strong = omega arith in e)), idle-still ix heap t)
reach-more-ok ix heap t z p Strong i c o q like l range more room = go c.slot (like.alike.slot)
  where
    others : (r : ℕ) → (p ≡ r → ⊥) → hands_of r q.strong ≡ hands_of r o.strong
    others r ne = more r ∙ ap (λ b. hands_of r o.strong + cond b 1 0) (ne_eqb p r ne) ∙ (let e : hands_of r o.strong + 0 ≡ hands_of r o.strong = omega arith in e)

    mine : raised most (hands_of p o.strong) ≡ hands_of p q.strong
    mine = raised-up most (hands_of p o.strong) (room refl) ∙ sym (more p ∙ ap (λ b. hands_of p o.strong + cond b 1 0) (eq-eqb p p refl))

    go : (slot : Option ℕ) → slot ≡ o.slot → Reaches ix ix.slots (placed i q heap.objects) (reach_more p Strong slot ix.reach) × Idles ix ix.slots (reach_more p Strong slot ix.reach)
    go (Some s) e = (reach-moved ix heap t z (raised most) p s i o q l (range s (sym e)) like.in_heap (sym e) mine others, idle-moved ix heap t z (raised most) p s i o l like.in_heap (sym e))
    go None e = (
      λ r u j lr mu owner. t.reach r u j lr mu owner ∙ elim (cases_eq i j) [
        | inl at ↦ let n : None ≡ Some u = e ∙ slot-owner ix heap t i o u like.in_heap (rw (← at) at owner) in absurd (cc)
        | inr other ↦ ap (λ w. hands_of r (list_in Strong w)) (sym (placed-other heap.objects i j q other))
      ],
      idle-still ix heap t,
    )

pub reach-less-ok : (ix : Index) (heap : Heap) → Tells ix heap → IsSized ix → (p : ℕ) (k : Kind) (i : ℕ) (c : Counted) (o q : Object) → LikeFound ix heap i c o → p < length ix.marks → ((s : ℕ) → o.slot ≡ Some s → s < ix.shape.slots) →
    ((r : ℕ) → hands_of r q.strong + cond (same_kind k Strong && eqb p r) 1 0 ≡ hands_of r o.strong) →
    Reaches ix ix.slots (placed i q heap.objects) (reach_less p k c.slot ix.reach) × Idles ix ix.slots (reach_less p k c.slot ix.reach)
reach-less-ok ix heap t z p Unowned i c o q like l range less = (reach-still ix heap t i o q like.in_heap (λ r. (let e : hands_of r q.strong ≡ hands_of r q.strong + 0 = omega arith in e) ∙ less r), idle-still ix heap t)
reach-less-ok ix heap t z p Weak i c o q like l range less = (reach-still ix heap t i o q like.in_heap (λ r. (let e : hands_of r q.strong ≡ hands_of r q.strong + 0 = omega arith in e) ∙ less r), idle-still ix heap t)
reach-less-ok ix heap t z p Strong i c o q like l range less = go c.slot (like.alike.slot)
  where
    others : (r : ℕ) → (p ≡ r → ⊥) → hands_of r q.strong ≡ hands_of r o.strong
    others r ne = (let e : hands_of r q.strong ≡ hands_of r q.strong + 0 = omega arith in e) ∙ ap (λ b. hands_of r q.strong + cond b 1 0) (sym (ne_eqb p r ne)) ∙ less r

    mine : hands_of p o.strong - 1 ≡ hands_of p q.strong
    mine = let e : hands_of p q.strong + 1 ≡ hands_of p o.strong = ap (λ b. hands_of p q.strong + cond b 1 0) (sym (eq-eqb p p refl)) ∙ less p in omega arith

    go : (slot : Option ℕ) → slot ≡ o.slot → Reaches ix ix.slots (placed i q heap.objects) (reach_less p Strong slot ix.reach) × Idles ix ix.slots (reach_less p Strong slot ix.reach)
    go (Some s) e = (reach-moved ix heap t z (λ n. n - 1) p s i o q l (range s (sym e)) like.in_heap (sym e) mine others, idle-moved ix heap t z (λ n. n - 1) p s i o l like.in_heap (sym e))
    go None e = (
      λ r u j lr mu owner. t.reach r u j lr mu owner ∙ elim (cases_eq i j) [
        | inl at ↦ let n : None ≡ Some u = e ∙ slot-owner ix heap t i o u like.in_heap (rw (← at) at owner) in absurd (cc)
        | inr other ↦ ap (λ w. hands_of r (list_in Strong w)) (sym (placed-other heap.objects i j q other))
      ],
      idle-still ix heap t,
    )
