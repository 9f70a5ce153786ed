-- The one object that passes, and the object where a holder stands.
use Rattle.std.proofs.Common.{◌≡◌, ℕ, zero, suc, Bool, true, false, cond, List, [], ◌∷◌, Option, Some, None, refl, sym, ap, ◌∙◌, arith}
use Rattle.std.specs.Prelude.{slice_get, find}
use Rattle.arc_model.specs.Heaps.{Holder, Object}
use Rattle.arc_model.specs.Holders.{at_first, holds, kind_in}
use Rattle.arc_model.specs.Lookup.{Spot, spot_in, further}
use Rattle.arc_heap_index.specs.Counting.{placed}

-- o is at i, and passes, and no other object does
pub record IsOnly (test : Object → Bool) (os : List Object) (i : ℕ) (o : Object) : Type 0 where
  pub here : slice_get os i ≡ Some o
  pub passing : test o ≡ true
  pub others : (j : ℕ) (q : Object) → slice_get os j ≡ Some q → (j ≡ i → ⊥) → test q ≡ false

tail : (test : Object → Bool) (x : Object) (xs : List Object) (i : ℕ) (o : Object) → IsOnly test (x ∷ xs) (suc i) o → IsOnly test xs i o
tail test x xs i o h = record {
  here = h.here;
  passing = h.passing;
  others = λ j q e ne. h.others (suc j) q e (λ s. ne (omega arith));
}

suc≢zero : (i : ℕ) → zero ≡ suc i → ⊥
suc≢zero i e = omega arith

pub find_only : (test : Object → Bool) (os : List Object) (i : ℕ) (o : Object) → IsOnly test os i o → find test os ≡ Some o
find_only test [] i o h = absurd (let e = h.here in cc)
find_only test (x ∷ xs) zero o h = let e : x ≡ o = let g = h.here in cc in rw (e, h.passing) refl
find_only test (x ∷ xs) (suc i) o h = rw (h.others zero x refl (suc≢zero i)) (find_only test xs i o (tail test x xs i o h))

pub placed_only : (test : Object → Bool) (f : Object → Object) (os : List Object) (i : ℕ) (o : Object) → IsOnly test os i o → at_first test f os ≡ placed i (f o) os
placed_only test f [] i o h = refl
placed_only test f (x ∷ xs) zero o h = let e : x ≡ o = let g = h.here in cc in rw (e, h.passing) refl
placed_only test f (x ∷ xs) (suc i) o h = rw (h.others zero x refl (suc≢zero i)) (ap (λ ys. x ∷ ys) (placed_only test f xs i o (tail test x xs i o h)))

pub find_none : (test : Object → Bool) (os : List Object) → ((j : ℕ) (q : Object) → slice_get os j ≡ Some q → test q ≡ false) → find test os ≡ None
find_none test [] h = refl
find_none test (x ∷ xs) h = rw (h zero x refl) (find_none test xs (λ j q e. h (suc j) q e))

some-inj : {X : Type 0} {a b : X} → Some a ≡ Some b → a ≡ b
some-inj e = cc

-- a change at the first object that has the holder is one at its spot
pub placed_spot : (z : Holder) (f : Object → Object) (os : List Object) (s : Spot) (o : Object) → spot_in z os ≡ Some s → slice_get os s.place ≡ Some o → at_first (holds z) f os ≡ placed s.place (f o) os
placed_spot z f [] s o e here = absurd (cc)
placed_spot z f (x ∷ xs) s o e here = go (holds z x) e (spot_in z xs) refl (placed_spot z f xs)
  where
    go : (b : Bool) → cond b (Some (record { place = zero; kind = kind_in z x })) (further (spot_in z xs)) ≡ Some s → (m : Option Spot) → spot_in z xs ≡ m → ((t : Spot) (o : Object) → spot_in z xs ≡ Some t → slice_get xs t.place ≡ Some o → at_first (holds z) f xs ≡ placed t.place (f o) xs) → cond b (f x ∷ xs) (x ∷ at_first (holds z) f xs) ≡ placed s.place (f o) (x ∷ xs)
    go true e m is ih =
        let at_zero : s.place ≡ zero = ap (λ (t : Spot). t.place) (sym (some-inj e)) in
        let same : x ≡ o = some-inj (sym (ap (slice_get (x ∷ xs)) at_zero) ∙ here) in
        rw (at_zero, same) refl
    go false e None is ih = let n : None ≡ Some s = sym (ap further is) ∙ e in absurd (cc)
    go false e (Some t) is ih =
        let same : record { place = suc t.place; kind = t.kind } ≡ s = some-inj (sym (ap further is) ∙ e) in
        let at_suc : s.place ≡ suc t.place = ap (λ (u : Spot). u.place) (sym same) in
        rw at_suc (ap (λ ys. x ∷ ys) (ih t o is (sym (ap (slice_get (x ∷ xs)) at_suc) ∙ here)))
