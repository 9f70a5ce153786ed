-- Rows of places and rows of counts, against reads and writes.
use Rattle.std.proofs.Common.{◌≡◌, ℕ, zero, suc, ◌<◌, List, [], ◌∷◌, ◌++◌, length, Option, Some, None, refl, ap, ◌∙◌, arith}
use Rattle.std.specs.Prelude.{slice_get, slice_index_or}
use Rattle.std.specs.Option.{option_map}
use Rattle.arc_heap_index.specs.declared.counted.Place.{Place}
use Rattle.arc_heap_index.specs.Counting.{at_place, placed, flat, row_of, place_at, put_at, pushed, tally_at}
use Rattle.arc_heap_index.proofs.Places.{slice_get-at_place-same, slice_get-at_place-other, slice_get-append-last, get_or-at_place-same, get_or-at_place-other}

pub row-same : {X : Type 0} (r : ℕ) (f : List X → List X) (rows : List (List X)) → r < length rows → row_of r (at_place r f rows) ≡ f (row_of r rows)
row-same r f [] h = absurd (omega arith)
row-same zero f (x ∷ xs) h = refl
row-same (suc r) f (x ∷ xs) h = row-same r f xs (omega arith)

pub row-other : {X : Type 0} (r q : ℕ) (f : List X → List X) (rows : List (List X)) → (r ≡ q → ⊥) → row_of q (at_place r f rows) ≡ row_of q rows
row-other r q f [] h = refl
row-other zero zero f (x ∷ xs) h = absurd (h refl)
row-other zero (suc q) f (x ∷ xs) h = refl
row-other (suc r) zero f (x ∷ xs) h = refl
row-other (suc r) (suc q) f (x ∷ xs) h = row-other r q f xs (λ e. h (ap suc e))

pub past_end : {X : Type 0} (xs : List X) (y : X) (j : ℕ) → (length xs ≡ j → ⊥) → slice_get (xs ++ y ∷ []) j ≡ slice_get xs j
past_end [] y zero ne = absurd (ne refl)
past_end [] y (suc j) ne = refl
past_end (x ∷ xs) y zero ne = refl
past_end (x ∷ xs) y (suc j) ne = past_end xs y j (λ e. ne (omega arith))

-- what was pushed stands at the end
pub pushed-same : (r : ℕ) (place : Option Place) (rows : List (List (Option Place))) → r < length rows → place_at r (length (row_of r rows)) (pushed r place rows) ≡ place
pushed-same r place rows within = ap (λ row. flat (slice_get row (length (row_of r rows)))) (row-same r (λ row. row ++ place ∷ []) rows within) ∙ ap flat (slice_get-append-last (row_of r rows) place)

pub pushed-row : (r q k : ℕ) (place : Option Place) (rows : List (List (Option Place))) → (r ≡ q → ⊥) → place_at q k (pushed r place rows) ≡ place_at q k rows
pushed-row r q k place rows ne = ap (λ row. flat (slice_get row k)) (row-other r q (λ row. row ++ place ∷ []) rows ne)

pub pushed-other : (r k : ℕ) (place : Option Place) (rows : List (List (Option Place))) → r < length rows → (length (row_of r rows) ≡ k → ⊥) → place_at r k (pushed r place rows) ≡ place_at r k rows
pushed-other r k place rows within ne = ap (λ row. flat (slice_get row k)) (row-same r (λ row. row ++ place ∷ []) rows within) ∙ ap flat (past_end (row_of r rows) place k ne)

-- what was put stands there
pub put-gone : (r k : ℕ) (rows : List (List (Option Place))) → r < length rows → place_at r k (put_at r k None rows) ≡ None
put-gone r k rows within = ap (λ row. flat (slice_get row k)) (row-same r (placed k None) rows within) ∙ ap flat (slice_get-at_place-same k (λ _. None) (row_of r rows)) ∙ go (slice_get (row_of r rows) k)
  where
    go : (x : Option (Option Place)) → flat (option_map (λ (_ : Option Place). let none : Option Place = None in none) x) ≡ None
    go None = refl
    go (Some x) = refl

within-some : {X : Type 0} (xs : List X) (k : ℕ) → k < length xs → (x : X) × (slice_get xs k ≡ Some x)
within-some [] k h = absurd (omega arith)
within-some (x ∷ xs) zero h = (x, refl)
within-some (x ∷ xs) (suc k) h = within-some xs k (omega arith)

pub put-same : (r k : ℕ) (place : Option Place) (rows : List (List (Option Place))) → r < length rows → k < length (row_of r rows) → place_at r k (put_at r k place rows) ≡ place
put-same r k place rows within inside =
    let x = within-some (row_of r rows) k inside in
    ap (λ row. flat (slice_get row k)) (row-same r (placed k place) rows within) ∙ ap flat (slice_get-at_place-same k (λ _. place) (row_of r rows)) ∙ ap (λ y. flat (option_map (λ (_ : Option Place). place) y)) x.1

pub put-row : (r q k n : ℕ) (place : Option Place) (rows : List (List (Option Place))) → (r ≡ q → ⊥) → place_at q n (put_at r k place rows) ≡ place_at q n rows
put-row r q k n place rows ne = ap (λ row. flat (slice_get row n)) (row-other r q (placed k place) rows ne)

pub put-other : (r k n : ℕ) (place : Option Place) (rows : List (List (Option Place))) → r < length rows → (k ≡ n → ⊥) → place_at r n (put_at r k place rows) ≡ place_at r n rows
put-other r k n place rows within ne = ap (λ row. flat (slice_get row n)) (row-same r (placed k place) rows within) ∙ ap flat (slice_get-at_place-other k n (λ _. place) (row_of r rows) ne)

-- counts
pub tally-same : (r k : ℕ) (f : ℕ → ℕ) (rows : List (List ℕ)) → r < length rows → k < length (row_of r rows) → tally_at r k (at_place r (at_place k f) rows) ≡ f (tally_at r k rows)
tally-same r k f rows within inside = ap (λ row. slice_index_or row k 0) (row-same r (at_place k f) rows within) ∙ get_or-at_place-same k f (row_of r rows) 0 inside

pub tally-row : (r q k n : ℕ) (f : ℕ → ℕ) (rows : List (List ℕ)) → (r ≡ q → ⊥) → tally_at q n (at_place r (at_place k f) rows) ≡ tally_at q n rows
tally-row r q k n f rows ne = ap (λ row. slice_index_or row n 0) (row-other r q (at_place k f) rows ne)

pub tally-other : (r k n : ℕ) (f : ℕ → ℕ) (rows : List (List ℕ)) → r < length rows → (k ≡ n → ⊥) → tally_at r n (at_place r (at_place k f) rows) ≡ tally_at r n rows
tally-other r k n f rows within ne = ap (λ row. slice_index_or row n 0) (row-same r (at_place k f) rows within) ∙ get_or-at_place-other k n f (row_of r rows) 0 ne

pub row-length : {X : Type 0} (r q : ℕ) (f : List X → List X) (rows : List (List X)) → ((row : List X) → length (f row) ≡ length row) → length (row_of q (at_place r f rows)) ≡ length (row_of q rows)
row-length r q f [] same = refl
row-length zero zero f (x ∷ xs) same = same x
row-length zero (suc q) f (x ∷ xs) same = refl
row-length (suc r) zero f (x ∷ xs) same = refl
row-length (suc r) (suc q) f (x ∷ xs) same = row-length r q f xs same
