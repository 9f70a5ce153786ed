-- Tables in which nothing stands yet.
use Rattle.std.specs.Prelude.{◌≡◌, ℕ, ◌+◌, ◌<◌, List, Option, None, length, slice_get, slice_index_or}
use Rattle.arc_heap_index.specs.declared.counted.Place.{Place}
use Rattle.arc_heap_index.specs.declared.mark.Mark.{Mark}
use Rattle.arc_heap_index.specs.Counting.{flat, row_of, place_at}

-- n places, at which nothing stands
pub record IsBlank (n : ℕ) (row : List (Option Place)) : Type 0 where
  pub many : length row ≡ n
  pub blank : (k : ℕ) → flat (slice_get row k) ≡ None

-- n rows of that many places each
pub record AreBlank (n columns : ℕ) (rows : List (List (Option Place))) : Type 0 where
  pub many : length rows ≡ n
  pub each : (r : ℕ) → r < n → IsBlank columns (row_of r rows)

-- n rows of that many places each, and one more row
pub record IsBlankTable (n columns last : ℕ) (rows : List (List (Option Place))) : Type 0 where
  pub many : length rows ≡ n + 1
  pub each : (r : ℕ) → r < n → length (row_of r rows) ≡ columns
  pub end : length (row_of n rows) ≡ last
  pub blank : (r k : ℕ) → place_at r k rows ≡ None

pub record IsZero (n : ℕ) (row : List ℕ) : Type 0 where
  pub many : length row ≡ n
  pub zero : (k : ℕ) → slice_index_or row k 0 ≡ 0

pub record AreZero (n columns : ℕ) (rows : List (List ℕ)) : Type 0 where
  pub many : length rows ≡ n
  pub each : (r : ℕ) → r < n → IsZero columns (row_of r rows)

-- each thread has made nothing, and has had no event since the start
pub record AreMarked (n slots entries : ℕ) (marks : List Mark) : Type 0 where
  pub many : length marks ≡ n
  pub each : (r : ℕ) (other : Mark) → r < n → slice_index_or marks r other ≡ record { made = 0; slots = slots; entries = entries }
