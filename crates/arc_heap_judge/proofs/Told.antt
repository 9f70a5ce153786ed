-- What an index tells of a slot, an entry, a hand and a cell.
use Rattle.std.proofs.Common.{◌≡◌, ℕ, Bool, true, false, List, [], ◌∷◌, Option, Some, None, cond, refl, sym, ap, ◌∙◌}
use Rattle.std.specs.Prelude.{slice_get, find}
use Rattle.std.proofs.lemmas.Bool.{eq-eqb, ne_eqb}
use Rattle.arc_model.specs.declared.shape.Kind.{Kind}
use Rattle.arc_model.specs.declared.shape.Kind.TheVariants.{Strong, Unowned, Weak}
use Rattle.arc_model.specs.Heaps.{Holder, Object, Heap}
use Rattle.arc_model.specs.Holders.{is_in, list_of, holds, kind_in, in_slot as in_the_slot, has_entry, held_by, at_slot, at_entry}
use Rattle.arc_model.specs.Cells.{same_kind}
use Rattle.arc_model.specs.Lookup.{Spot, spot, IsLookup}
use Rattle.arc_model.proofs.Stages.{in-kind}
use Rattle.arc_heap_index.specs.declared.counted.Place.{Place}
use Rattle.arc_heap_index.specs.declared.counted.Counted.{Counted}
use Rattle.arc_heap_index.specs.declared.counted.Held.{Held}
use Rattle.arc_heap_index.specs.declared.counted.Found.{Found}
use Rattle.arc_heap_index.specs.declared.slots.Owner.{Owner}
use Rattle.arc_heap_index.specs.declared.slots.Owner.TheVariants.{Object as ObjectOwner, Claim}
use Rattle.arc_heap_index.specs.Freeing.{object_in, owner_at}
use Rattle.arc_heap_judge.specs.Index.{Index, hold, in_slot, with_entry, found_at}
use Rattle.arc_heap_judge.specs.Stands.{IsCounted, AreCounted, is_so, is_object, spot_of, Tells}
use Rattle.arc_heap_judge.proofs.Finding.{IsOnly, find_only, find_none}

pub true≢false : {A : Type 0} → true ≡ false → A
true≢false e = absurd (cc)

pub some-inj : {X : Type 0} {a b : X} → Some a ≡ Some b → a ≡ b
some-inj e = cc

-- an object in the index, and the one in the heap
pub record LikeFound (ix : Index) (heap : Heap) (i : ℕ) (c : Counted) (o : Object) : Type 0 where
  pub in_index : slice_get ix.objects i ≡ Some c
  pub in_heap : slice_get heap.objects i ≡ Some o
  pub alike : IsCounted c o

abbrev pub AreFound : Index → Heap → Option Found → Option Object → Type 0
AreFound ix heap None None = Unit {0}
AreFound ix heap (Some w) (Some o) = LikeFound ix heap w.object w.counted o
AreFound ix heap _ _ = ⊥

pub counted_at : (ix : Index) (heap : Heap) → Tells ix heap → (i : ℕ) (o : Object) → slice_get heap.objects i ≡ Some o → (c : Counted) × LikeFound ix heap i c o
counted_at ix heap t i o here = go (slice_get ix.objects i) refl (rw here at (t.counted i))
  where
    go : (c : Option Counted) → slice_get ix.objects i ≡ c → AreCounted (slice_get ix.objects i) (Some o) → (c : Counted) × LikeFound ix heap i c o
    go None e like = absurd (rw e at like)
    go (Some c) e like = (c, record { in_index = e; in_heap = here; alike = rw e at like })

-- who has a slot or an entry, by the test for it
pub record FoundAt (ix : Index) (heap : Heap) (test : Object → Bool) (i : ℕ) : Type 0 where
  pub counted : Counted
  pub object : Object
  pub like : LikeFound ix heap i counted object
  pub only : IsOnly test heap.objects i object

pub found_owner : (ix : Index) (heap : Heap) → Tells ix heap → (test : Object → Bool) (owner : Option Owner) → ((i : ℕ) → is_so test (slice_get heap.objects i) ≡ is_object i owner) → (i : ℕ) → owner ≡ Some (ObjectOwner i) → FoundAt ix heap test i
found_owner ix heap t test owner so i is = go (slice_get heap.objects i) refl (so i ∙ ap (is_object i) is ∙ eq-eqb i i refl)
  where
    go : (o : Option Object) → slice_get heap.objects i ≡ o → is_so test (slice_get heap.objects i) ≡ true → FoundAt ix heap test i
    go None e n = true≢false (sym (rw e at n))
    go (Some o) e n =
        let c = counted_at ix heap t i o e in
        record {
          counted = c.0;
          object = o;
          like = c.1;
          only = record {
            here = e;
            passing = rw e at n;
            others = λ j q there ne. ap (is_so test) (sym there) ∙ so j ∙ ap (is_object j) is ∙ ne_eqb i j (λ f. ne (sym f));
          };
        }

pub found_none : (ix : Index) (heap : Heap) (test : Object → Bool) (owner : Option Owner) → ((i : ℕ) → is_so test (slice_get heap.objects i) ≡ is_object i owner) → object_in owner ≡ None → find test heap.objects ≡ None
found_none ix heap test owner so none = find_none test heap.objects (λ j q there. ap (is_so test) (sym there) ∙ so j ∙ go j owner none)
  where
    go : (j : ℕ) (owner : Option Owner) → object_in owner ≡ None → is_object j owner ≡ false
    go j None e = refl
    go j (Some (ObjectOwner i)) e = absurd (cc)
    go j (Some (Claim p)) e = refl

pub found_like : (ix : Index) (heap : Heap) → Tells ix heap → (test : Object → Bool) (owner : Option Owner) → ((i : ℕ) → is_so test (slice_get heap.objects i) ≡ is_object i owner) → AreFound ix heap (found_at ix.objects (object_in owner)) (find test heap.objects)
found_like ix heap t test None so = rw (found_none ix heap test None so refl) tt
found_like ix heap t test (Some (Claim p)) so = rw (found_none ix heap test (Some (Claim p)) so refl) tt
found_like ix heap t test (Some (ObjectOwner i)) so =
    let d = found_owner ix heap t test (Some (ObjectOwner i)) so i refl in
    rw (d.like.in_index, find_only test heap.objects i d.object d.only) d.like

pub slot_like : (ix : Index) (heap : Heap) → Tells ix heap → (s : ℕ) → AreFound ix heap (in_slot ix s) (at_slot s heap)
slot_like ix heap t s = found_like ix heap t (in_the_slot s) (owner_at s ix.slots) (t.slots s)

pub entry_like : (ix : Index) (heap : Heap) → Tells ix heap → (e : ℕ) → AreFound ix heap (with_entry ix e) (at_entry e heap)
entry_like ix heap t e = found_like ix heap t (has_entry e) (owner_at e ix.entries) (t.entries e)

-- where a holder counts
pub record LikeHeld (z : Holder) (ix : Index) (heap : Heap) (w : Held) (o : Object) : Type 0 where
  pub like : LikeFound ix heap w.place.object w.counted o
  pub spot_is : spot z heap ≡ Some (record { place = w.place.object; kind = w.place.kind })
  pub kind_is : kind_in z o ≡ w.place.kind
  pub inside : is_in z (list_of w.place.kind o) ≡ true
  pub member : (k : Kind) → is_in z (list_of k o) ≡ same_kind w.place.kind k
  pub held : held_by z heap ≡ Some o

abbrev pub AreHeld : Holder → Index → Heap → Option Held → Option Object → Type 0
AreHeld z ix heap None None = Unit {0}
AreHeld z ix heap (Some w) (Some o) = LikeHeld z ix heap w o
AreHeld z ix heap _ _ = ⊥

pub same_kind-self : (k : Kind) → same_kind k k ≡ true
same_kind-self Strong = refl
same_kind-self Unowned = refl
same_kind-self Weak = refl

pub same_kind-eq : (k j : Kind) → same_kind k j ≡ true → k ≡ j
same_kind-eq Strong Strong e = refl
same_kind-eq Strong Unowned e = true≢false (sym e)
same_kind-eq Strong Weak e = true≢false (sym e)
same_kind-eq Unowned Strong e = true≢false (sym e)
same_kind-eq Unowned Unowned e = refl
same_kind-eq Unowned Weak e = true≢false (sym e)
same_kind-eq Weak Strong e = true≢false (sym e)
same_kind-eq Weak Unowned e = true≢false (sym e)
same_kind-eq Weak Weak e = refl

pub held-holds : (z : Holder) (os : List Object) (o : Object) → find (holds z) os ≡ Some o → holds z o ≡ true
held-holds z [] o e = absurd (cc)
held-holds z (x ∷ xs) o e = go (holds z x) refl e (held-holds z xs o)
  where
    go : (b : Bool) → holds z x ≡ b → cond b (Some x) (find (holds z) xs) ≡ Some o → (find (holds z) xs ≡ Some o → holds z o ≡ true) → holds z o ≡ true
    go true h e ih = rw (← some-inj e) h
    go false h e ih = ih e

pub held_like : (z : Holder) (ix : Index) (heap : Heap) → Tells ix heap → IsLookup z heap → (place : Option Place) → spot_of place ≡ spot z heap → AreHeld z ix heap (hold ix place) (held_by z heap)
held_like z ix heap t look None e = rw (look.nowhere (sym e)) tt
held_like z ix heap t look (Some w) e =
    let s : Spot = record { place = w.object; kind = w.kind } in
    let there = look.there s (sym e) in
    let o = there.0 in
    let c = counted_at ix heap t w.object o there.1 in
    let kinds : (k : Kind) → is_in z (list_of k o) ≡ true → w.kind ≡ k = λ k inside. ap (λ (u : Spot). u.kind) (some-inj (e ∙ look.only w.object o k there.1 inside)) in
    rw (c.1.in_index, there.2) (record {
      like = c.1;
      spot_is = sym e;
      kind_is = sym (kinds (kind_in z o) (in-kind z o (held-holds z heap.objects o there.2)));
      inside = there.3;
      member = λ k. member o k (is_in z (list_of k o)) refl there.3 (kinds k);
      held = there.2;
    })
  where
    member : (o : Object) (k : Kind) (b : Bool) → is_in z (list_of k o) ≡ b → is_in z (list_of w.kind o) ≡ true → (is_in z (list_of k o) ≡ true → w.kind ≡ k) → b ≡ same_kind w.kind k
    member o k true e inside same = rw (same e) (sym (same_kind-self k))
    member o k false e inside same = go (same_kind w.kind k) refl
      where
        go : (b : Bool) → same_kind w.kind k ≡ b → false ≡ b
        go false h = refl
        go true h = let f = same_kind-eq w.kind k h in true≢false (sym (ap (λ j. is_in z (list_of j o)) (sym f) ∙ inside) ∙ e)
