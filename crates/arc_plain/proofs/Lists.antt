-- What a list holds after one element of it was set.
use Rattle.std.proofs.Common.{◌≡◌, ◌≢◌, ℕ, zero, suc, ◌+◌, ◌≤◌, ◌<◌, List, [], ◌∷◌, length, take, drop, set, Some, refl, ap, ◌∙◌, sym, arith, add-one}
use Rattle.std.specs.Prelude.{slice_get, sum_by}
use Rattle.std.proofs.lemmas.List.Sums.{sum_by-cons}

-- the element that was set
pub set_there : {X : Type 0} (xs : List X) (i : ℕ) (x : X) → i < length xs → slice_get (set xs i x) i ≡ Some x
set_there [] i x lt = absurd (omega arith)
set_there (y ∷ xs) zero x lt = refl
set_there (y ∷ xs) (suc i) x lt = set_there xs i x (omega arith)

-- any other
pub set_apart : {X : Type 0} (xs : List X) (i j : ℕ) (x : X) → j ≢ i → slice_get (set xs i x) j ≡ slice_get xs j
set_apart [] i j x ne = refl
set_apart (y ∷ xs) zero zero x ne = absurd (ne refl)
set_apart (y ∷ xs) zero (suc j) x ne = refl
set_apart (y ∷ xs) (suc i) zero x ne = refl
set_apart (y ∷ xs) (suc i) (suc j) x ne = set_apart xs i j x (λ e. ne (ap suc e))

-- where a sum is not 0, some element counts
pub some_counts : {X : Type 0} (f : X → ℕ) (xs : List X) → 1 ≤ sum_by f xs → (i : ℕ) × (x : X) × (slice_get xs i ≡ Some x) × (1 ≤ f x)
some_counts f [] h = absurd (omega arith)
some_counts f (y ∷ xs) h = go (f y) refl (some_counts f xs) (let k = sum_by-cons f y xs in omega arith)
  where
    go : (n : ℕ) → f y ≡ n → (1 ≤ sum_by f xs → (i : ℕ) × (x : _) × (slice_get xs i ≡ Some x) × (1 ≤ f x)) → 1 ≤ n + sum_by f xs → (i : ℕ) × (x : _) × (slice_get (y ∷ xs) i ≡ Some x) × (1 ≤ f x)
    go zero e behind h = let found = behind (omega arith) in (suc found.0, found.1, found.2, found.3)
    go (suc n) e behind h = (0, y, refl, omega arith)

-- where it is 0, none counts
pub none_counts : {X : Type 0} (f : X → ℕ) (xs : List X) (i : ℕ) (x : X) → sum_by f xs ≡ 0 → slice_get xs i ≡ Some x → f x ≡ 0
none_counts f [] i x h at = absurd (cc)
none_counts f (y ∷ xs) zero x h at = let k = sum_by-cons f y xs in let same : y ≡ x = cc in let e = ap f same in omega arith
none_counts f (y ∷ xs) (suc i) x h at = none_counts f xs i x (let k = sum_by-cons f y xs in omega arith) at

pub drop_next : {X : Type 0} (n : ℕ) (xs : List X) → drop (n + 1) xs ≡ drop 1 (drop n xs)
drop_next zero xs = refl
drop_next (suc n) [] = ap (λ (k : ℕ). drop k []) (add-one (suc n))
drop_next (suc n) (x ∷ xs) = ap (λ (k : ℕ). drop k (x ∷ xs)) (add-one (suc n)) ∙ (ap (λ (k : ℕ). drop k xs) (sym (add-one n)) ∙ drop_next n xs)

-- an element of a part of a list
pub get_taken : {X : Type 0} (n : ℕ) (xs : List X) (i : ℕ) (x : X) → slice_get (take n xs) i ≡ Some x → slice_get xs i ≡ Some x
get_taken zero xs i x at = absurd (cc)
get_taken (suc n) [] i x at = absurd (cc)
get_taken (suc n) (y ∷ xs) zero x at = at
get_taken (suc n) (y ∷ xs) (suc i) x at = get_taken n xs i x at

pub get_dropped : {X : Type 0} (n : ℕ) (xs : List X) (i : ℕ) (x : X) → slice_get (drop n xs) i ≡ Some x → slice_get xs (n + i) ≡ Some x
get_dropped zero xs i x at = ap (λ (k : ℕ). slice_get xs k) (let e : 0 + i ≡ i = omega arith in e) ∙ at
get_dropped (suc n) [] i x at = absurd (cc)
get_dropped (suc n) (y ∷ xs) i x at = ap (λ (k : ℕ). slice_get (y ∷ xs) k) (let e : suc n + i ≡ suc (n + i) = omega arith in e) ∙ get_dropped n xs i x at

-- lists with the same element at each place
pub same_elements : {X : Type 0} (xs ys : List X) → ((i : ℕ) → slice_get xs i ≡ slice_get ys i) → xs ≡ ys
same_elements [] [] h = refl
same_elements [] (y ∷ ys) h = absurd (let e = h 0 in cc)
same_elements (x ∷ xs) [] h = absurd (let e = h 0 in cc)
same_elements (x ∷ xs) (y ∷ ys) h =
    let first : x ≡ y = let e = h 0 in cc in
    ap (λ (z : _). z ∷ xs) first ∙ ap (λ (zs : List _). y ∷ zs) (same_elements xs ys (λ i. h (suc i)))
