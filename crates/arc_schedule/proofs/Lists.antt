-- Numbers and lists: an element that is there, one that is put in, and what is behind a first part.
use Rattle.std.proofs.Common.{◌≡◌, ℕ, zero, suc, ◌+◌, ◌<◌, ◌≤◌, Bool, true, false, eqb, List, [], ◌∷◌, ◌++◌, length, take, drop, set, Some, refl, ap, subst, arith, add-one}
use Rattle.std.proofs.lemmas.Bool.{eqb-true, eqb-false}
use Rattle.std.proofs.lemmas.Option.{slice_get_within, get_or_from_slice_get}
use Rattle.std.proofs.lemmas.List.Elements.{All-get_or}
use Rattle.std.specs.Prelude.{slice_get, All}

pub not-equal : (p q : ℕ) → (p ≡ q → ⊥) → eqb p q ≡ false
not-equal p q differ = go (eqb p q) refl
  where
    go : (b : Bool) → eqb p q ≡ b → eqb p q ≡ false
    go true e = absurd (differ (eqb-true p q e))
    go false e = e

pub equal : (p q : ℕ) → p ≡ q → eqb p q ≡ true
equal p q same = go (eqb p q) refl
  where
    go : (b : Bool) → eqb p q ≡ b → eqb p q ≡ true
    go true e = e
    go false e = absurd (eqb-false p q e same)

-- an element within the list is there
pub there-is : {X : Type 0} (xs : List X) (i : ℕ) → i < length xs → (x : X) × (slice_get xs i ≡ Some x)
there-is [] i within = absurd (omega arith)
there-is (x ∷ xs) zero within = (x, refl)
there-is (x ∷ xs) (suc i) within = there-is xs i (omega arith)

-- what holds of all holds of it
pub all-there : {X : Type 0} (P : X → Type 0) (xs : List X) (i : ℕ) (x : X) → All P xs → slice_get xs i ≡ Some x → P x
all-there P xs i x all there = subst P (get_or_from_slice_get xs i x x there) (All-get_or P xs i x (slice_get_within xs i x there) all)

-- an element that is put in, and the others
pub get-other : {X : Type 0} (xs : List X) (p q : ℕ) (x : X) → (p ≡ q → ⊥) → slice_get (set xs p x) q ≡ slice_get xs q
get-other [] p q x differ = refl
get-other (y ∷ xs) zero zero x differ = absurd (differ refl)
get-other (y ∷ xs) zero (suc q) x differ = refl
get-other (y ∷ xs) (suc p) zero x differ = refl
get-other (y ∷ xs) (suc p) (suc q) x differ = get-other xs p q x (λ e. differ (ap suc e))

pub get-same : {X : Type 0} (xs : List X) (p : ℕ) (x y : X) → slice_get (set xs p x) p ≡ Some y → y ≡ x
get-same [] p x y e = absurd (cc)
get-same (z ∷ xs) zero x y e = cc
get-same (z ∷ xs) (suc p) x y e = get-same xs p x y e

get-drop_suc : {X : Type 0} (xs rest : List X) (i : ℕ) (x : X) → x ∷ rest ≡ drop i xs → (slice_get xs i ≡ Some x) × (rest ≡ drop (suc i) xs)
get-drop_suc [] rest zero x e = absurd (cc)
get-drop_suc [] rest (suc i) x e = absurd (cc)
get-drop_suc (y ∷ xs) rest zero x e = (cc, cc)
get-drop_suc (y ∷ xs) rest (suc i) x e = get-drop_suc xs rest i x e

-- the first of the rest, and what is behind it
pub get-drop : {X : Type 0} (xs rest : List X) (i : ℕ) (x : X) → x ∷ rest ≡ drop i xs → (slice_get xs i ≡ Some x) × (rest ≡ drop (i + 1) xs)
get-drop xs rest i x e = rw add-one (get-drop_suc xs rest i x e)

pub nothing-left : {X : Type 0} (xs : List X) (i : ℕ) → [] ≡ drop i xs → length xs ≤ i
nothing-left [] i e = omega arith
nothing-left (y ∷ xs) zero e = absurd (cc)
nothing-left (y ∷ xs) (suc i) e = let h = nothing-left xs i e in omega arith

-- a first part is passed over
pub take-over : {X : Type 0} (xs ys : List X) (n : ℕ) → take (length xs + n) (xs ++ ys) ≡ xs ++ take n ys
take-over [] ys n = let none : 0 + n ≡ n = omega arith in rw none refl
take-over (x ∷ xs) ys n = let more : suc (length xs) + n ≡ suc (length xs + n) = omega arith in rw more (ap (λ zs. x ∷ zs) (take-over xs ys n))

pub drop-over : {X : Type 0} (xs ys : List X) (n : ℕ) → drop (length xs + n) (xs ++ ys) ≡ drop n ys
drop-over [] ys n = let none : 0 + n ≡ n = omega arith in rw none refl
drop-over (x ∷ xs) ys n = let more : suc (length xs) + n ≡ suc (length xs + n) = omega arith in rw more (drop-over xs ys n)
