-- `at_place`, against reads and writes.
use Rattle.std.proofs.Common.{◌≡◌, ℕ, zero, suc, ◌<◌, ◌≤◌, List, [], ◌∷◌, ◌++◌, length, get_or, set, Some, Option, take, ◌-◌, length-append, refl, sym, ap, ◌∙◌, arith}
use Rattle.std.specs.Prelude.{slice_get}
use Rattle.std.specs.Option.{option_map}
use Rattle.arc_heap_index.specs.declared.counted.Place.{Place}
use Rattle.arc_heap_index.specs.Counting.{at_place, pushed, popped}

pub at_place-past : {X : Type 0} (i : ℕ) (f : X → X) (xs : List X) → length xs ≤ i → at_place i f xs ≡ xs
at_place-past i f [] h = refl
at_place-past zero f (x ∷ xs) h = absurd (omega arith)
at_place-past (suc i) f (x ∷ xs) h = ap (λ ys. x ∷ ys) (at_place-past i f xs (omega arith))

at_place-set : {X : Type 0} (i : ℕ) (f : X → X) (xs : List X) (d : X) → i < length xs → at_place i f xs ≡ set xs i (f (get_or xs i d))
at_place-set i f [] d h = absurd (omega arith)
at_place-set zero f (x ∷ xs) d h = refl
at_place-set (suc i) f (x ∷ xs) d h = ap (λ ys. x ∷ ys) (at_place-set i f xs d (omega arith))

-- a write at the place, of the element changed
pub at_place-written : {X : Type 0} (i : ℕ) (f : X → X) (xs : List X) (o y : X) → i < length xs → o ≡ get_or xs i o → y ≡ f o → set xs i y ≡ at_place i f xs
at_place-written i f xs o y h read written = ap (set xs i) (written ∙ ap f read) ∙ sym (at_place-set i f xs o h)

-- a write at the place, of a value
pub at_place-over : {X : Type 0} (i : ℕ) (y : X) (xs : List X) → i < length xs → set xs i y ≡ at_place i (λ _. y) xs
at_place-over i y xs h = sym (at_place-set i (λ _. y) xs y h)

-- a write at the place, of the element changed, where it was read as an option
pub at_place-found : {X : Type 0} (i : ℕ) (f : X → X) (xs : List X) (o y : X) → slice_get xs i ≡ Some o → y ≡ f o → set xs i y ≡ at_place i f xs
at_place-found i f [] o y read written = absurd (cc)
at_place-found zero f (x ∷ xs) o y read written = let e : x ≡ o = cc in ap (λ z. z ∷ xs) (written ∙ ap f (sym e))
at_place-found (suc i) f (x ∷ xs) o y read written = ap (λ ys. x ∷ ys) (at_place-found i f xs o y read written)

pub length-at_place : {X : Type 0} (i : ℕ) (f : X → X) (xs : List X) → length (at_place i f xs) ≡ length xs
length-at_place i f [] = refl
length-at_place zero f (x ∷ xs) = refl
length-at_place (suc i) f (x ∷ xs) = ap suc (length-at_place i f xs)

pub slice_get-at_place-same : {X : Type 0} (i : ℕ) (f : X → X) (xs : List X) → slice_get (at_place i f xs) i ≡ option_map f (slice_get xs i)
slice_get-at_place-same i f [] = refl
slice_get-at_place-same zero f (x ∷ xs) = refl
slice_get-at_place-same (suc i) f (x ∷ xs) = slice_get-at_place-same i f xs

pub slice_get-at_place-other : {X : Type 0} (i j : ℕ) (f : X → X) (xs : List X) → (i ≡ j → ⊥) → slice_get (at_place i f xs) j ≡ slice_get xs j
slice_get-at_place-other i j f [] h = refl
slice_get-at_place-other zero zero f (x ∷ xs) h = absurd (h refl)
slice_get-at_place-other zero (suc j) f (x ∷ xs) h = refl
slice_get-at_place-other (suc i) zero f (x ∷ xs) h = refl
slice_get-at_place-other (suc i) (suc j) f (x ∷ xs) h = slice_get-at_place-other i j f xs (λ e. h (ap suc e))

pub slice_get-append-left : {X : Type 0} (xs ys : List X) (j : ℕ) → j < length xs → slice_get (xs ++ ys) j ≡ slice_get xs j
slice_get-append-left [] ys j h = absurd (omega arith)
slice_get-append-left (x ∷ xs) ys zero h = refl
slice_get-append-left (x ∷ xs) ys (suc j) h = slice_get-append-left xs ys j (omega arith)

pub slice_get-append-last : {X : Type 0} (xs : List X) (y : X) → slice_get (xs ++ y ∷ []) (length xs) ≡ Some y
slice_get-append-last [] y = refl
slice_get-append-last (x ∷ xs) y = slice_get-append-last xs y

pub get_or-at_place-same : {X : Type 0} (i : ℕ) (f : X → X) (xs : List X) (d : X) → i < length xs → get_or (at_place i f xs) i d ≡ f (get_or xs i d)
get_or-at_place-same i f [] d h = absurd (omega arith)
get_or-at_place-same zero f (x ∷ xs) d h = refl
get_or-at_place-same (suc i) f (x ∷ xs) d h = get_or-at_place-same i f xs d (omega arith)

pub get_or-at_place-other : {X : Type 0} (i j : ℕ) (f : X → X) (xs : List X) (d : X) → (i ≡ j → ⊥) → get_or (at_place i f xs) j d ≡ get_or xs j d
get_or-at_place-other i j f [] d h = refl
get_or-at_place-other zero zero f (x ∷ xs) d h = absurd (h refl)
get_or-at_place-other zero (suc j) f (x ∷ xs) d h = refl
get_or-at_place-other (suc i) zero f (x ∷ xs) d h = refl
get_or-at_place-other (suc i) (suc j) f (x ∷ xs) d h = get_or-at_place-other i j f xs d (λ e. h (ap suc e))

pub ruleset places = (at_place-found, at_place-past, at_place-written, at_place-over)

take-end : {X : Type 0} (xs : List X) (y : X) → take (length (xs ++ y ∷ []) - 1) (xs ++ y ∷ []) ≡ xs
take-end xs y = let e : length (xs ++ y ∷ []) - 1 ≡ length xs = let l = length-append xs (y ∷ []) in omega arith in rw e (go xs y)
  where
    go : {X : Type 0} (xs : List X) (y : X) → take (length xs) (xs ++ y ∷ []) ≡ xs
    go [] y = refl
    go (x ∷ xs) y = ap (λ zs. x ∷ zs) (go xs y)

-- what was pushed last is taken back
pub popped-pushed : (r : ℕ) (place : Option Place) (rows : List (List (Option Place))) → popped r (pushed r place rows) ≡ rows
popped-pushed r place [] = refl
popped-pushed zero place (row ∷ rows) = ap (λ (xs : List (Option Place)). xs ∷ rows) (take-end row place)
popped-pushed (suc r) place (row ∷ rows) = ap (λ (rs : List (List (Option Place))). row ∷ rs) (popped-pushed r place rows)

pub ruleset takes_back = (popped-pushed)
