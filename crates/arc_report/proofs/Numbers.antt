-- Numbers that pass, one more at a time.
use Rattle.std.proofs.Common.{◌≡◌, ℕ, zero, suc, ◌+◌, ◌≤◌, ◌<◌, Bool, true, false, List, [], ◌∷◌, ◌++◌, length, map, refl, arith, rules, if◌then◌else◌, add-one, length-append}
use Rattle.std.specs.List.{AllByRecursion}
use Rattle.std.proofs.lemmas.List.{map-append}
use Rattle.arc_report.specs.Words.{numbers_where}

pub numbers_none : (test : ℕ → Bool) → numbers_where test 0 ≡ []
unfolding numbers_where
numbers_none test = refl

pub numbers_there : (test : ℕ → Bool) (n : ℕ) → test n ≡ true → numbers_where test (n + 1) ≡ numbers_where test n ++ n ∷ []
unfolding numbers_where
numbers_there test n e = rw (add-one, e) refl

pub numbers_past : (test : ℕ → Bool) (n : ℕ) → test n ≡ false → numbers_where test (n + 1) ≡ numbers_where test n
unfolding numbers_where
numbers_past test n e = rw (add-one, e) (search rules)

pub mapped_none : {X : Type 0} (f : ℕ → X) (test : ℕ → Bool) → map f (numbers_where test 0) ≡ []
mapped_none f test = rw numbers_none refl

pub mapped_there : {X : Type 0} (f : ℕ → X) (test : ℕ → Bool) (n : ℕ) → test n ≡ true →
    map f (numbers_where test (n + 1)) ≡ map f (numbers_where test n) ++ f n ∷ []
mapped_there f test n e = rw (numbers_there test n e) (map-append f (numbers_where test n) (n ∷ []))

pub mapped_past : {X : Type 0} (f : ℕ → X) (test : ℕ → Bool) (n : ℕ) → test n ≡ false →
    map f (numbers_where test (n + 1)) ≡ map f (numbers_where test n)
mapped_past f test n e = rw (numbers_past test n e) refl

-- not more than there are
pub length-numbers_where-le : (test : ℕ → Bool) (n : ℕ) → length (numbers_where test n) ≤ n
unfolding numbers_where
length-numbers_where-le test zero = omega arith
length-numbers_where-le test (suc n) =
    elim (test n) as (λ b. length (numbers_where test n ++ (if b then n ∷ [] else [])) ≤ suc n) [
      | true ↦ omega (arith, length-append (numbers_where test n) (n ∷ []), length-numbers_where-le test n)
      | false ↦ omega (arith, length-append {A = ℕ} (numbers_where test n) [], length-numbers_where-le test n)
    ]

all_append : {X : Type 0} (P : X → Type 0) (xs ys : List X) → AllByRecursion P xs → AllByRecursion P ys → AllByRecursion P (xs ++ ys)
all_append P [] ys h k = k
all_append P (x ∷ xs) ys h k = (h.0, all_append P xs ys h.1 k)

-- what holds of each number that passes holds of all of them
pub numbers_all : (P : ℕ → Type 0) (test : ℕ → Bool) (n : ℕ) → ((k : ℕ) → k < n → test k ≡ true → P k) →
    AllByRecursion P (numbers_where test n)
unfolding numbers_where
numbers_all P test zero h = tt
numbers_all P test (suc n) h =
    all_append P _ _ (numbers_all P test n (λ k l e. h k (omega arith) e))
    ((elim (test n) as (λ b. test n ≡ b → AllByRecursion P (if b then n ∷ [] else []))
    [ true ↦ λ e. (h n (omega arith) e, tt) | false ↦ λ e. tt ]) refl)

pub mapped_all : {X : Type 0} (P : X → Type 0) (f : ℕ → X) (ks : List ℕ) → AllByRecursion (λ k. P (f k)) ks → AllByRecursion P (map f ks)
mapped_all P f [] h = tt
mapped_all P f (k ∷ ks) h = (h.0, mapped_all P f ks h.1)
