-- A sorted list is its elements in order, however they came.
use Rattle.std.proofs.Common.{◌≡◌, ℕ, suc, ◌+◌, ◌<◌, Bool, true, false, List, [], ◌∷◌, length, get_or, refl, sym, ap, arith, ◌∙◌, if◌then◌else◌, add-one}
use Rattle.std.specs.List.{sum_by}
use native.Mathlib.Numerals.{unary_clauses}
use Rattle.std.specs.Cmp.{IsTotalOrder}
use Rattle.std.specs.List.Sorted.{IsSorted, IsSortedBy, IsPermutation}
use Rattle.std.specs.Ordering.{is_lt, is_gt, ordering_reverse}
use Rattle.std.specs.declared.cmp.Ordering.{Ordering}
use Rattle.std.specs.declared.cmp.Ordering.TheVariants.{Less, Equal, Greater}
use Rattle.std.proofs.lemmas.Cmp.{upto, tied_itself}
use Rattle.std.proofs.lemmas.List.Sums.{sum_by-cons}
use Rattle.std.proofs.lemmas.List.Sorted.{sorted_far, ranks_by, sum_by-IsPermutation}
use Rattle.arc_report.specs.Order.{put_in, in_order}

abbrev flag : Bool → ℕ
flag b = if b then 1 else 0

-- 1 for what stands before x
abbrev before : {X : Type 0} → (X → X → Ordering) → X → X → ℕ
before cmp x y = flag (is_gt (cmp x y))

-- nothing stands before an element that comes earlier
abbrev Rises : {X : Type 0} → (X → X → Ordering) → List X → Type 0
Rises cmp [] = Unit {0}
Rises cmp (x ∷ xs) = (sum_by (before cmp x) xs ≡ 0) × Rises cmp xs

sum-zero : {X : Type 0} (f : X → ℕ) (xs : List X) → ((j : ℕ) (d : X) → j < length xs → f (get_or xs j d) ≡ 0) → sum_by f xs ≡ 0
sum-zero f [] h = refl
sum-zero f (x ∷ xs) h =
    omega (arith, sum_by-cons f x xs, h 0 x (omega arith), sum-zero f xs (λ j d l. h (suc j) d (omega arith)))

flag_zero : (b : Bool) → flag b ≡ 0 → b ≡ false
flag_zero true e = absurd (omega (arith, e))
flag_zero false e = refl

gt_from_lt : (p q : Ordering) → p ≡ ordering_reverse q → is_lt q ≡ false → is_gt p ≡ false
gt_from_lt p Less e h = absurd cc
gt_from_lt p Equal e h = rw e refl
gt_from_lt p Greater e h = rw e refl

not_both : (p q : Ordering) → p ≡ ordering_reverse q → is_gt q ≡ true → is_gt p ≡ false
not_both p Less e h = absurd cc
not_both p Equal e h = absurd cc
not_both p Greater e h = rw e refl

tied : (p q : Ordering) → p ≡ ordering_reverse q → is_gt p ≡ false → is_gt q ≡ false → p ≡ Equal
tied p Less e h k = absurd (let c : is_gt p ≡ true = rw e refl in cc)
tied p Equal e h k = e
tied p Greater e h k = absurd cc

module _ {X : Type 0} (cmp : X → X → Ordering) (o : IsTotalOrder cmp) where
  -- from the form that std's sort ensures
  rises : (xs : List X) → IsSortedBy (λ x y. is_lt (cmp x y)) xs → Rises cmp xs
  rises [] up = tt
  rises (x ∷ xs) up = (
    sum-zero (before cmp x) xs (λ j d l.
        let below : is_lt (cmp (get_or xs j d) x) ≡ false = sorted_far (λ x y. is_lt (cmp x y)) (ranks_by o (λ z. z)) (x ∷ xs) up 0 (suc j) d (omega arith) (omega arith) in
        ap flag (gt_from_lt _ _ (o.antisymm x (get_or xs j d)) below)),
    rises xs (λ k d low high. let h = up (suc k) d (omega arith) (omega arith) in rw add-one (simp unary_clauses at h)),
  )

  -- what nothing stands before x has nothing before what is not behind x
  lower : (x y : X) (ys : List X) → is_gt (cmp x y) ≡ false → sum_by (before cmp y) ys ≡ 0 → sum_by (before cmp x) ys ≡ 0
  lower x y [] e h = refl
  lower x y (z ∷ zs) e h =
      let here : before cmp y z ≡ 0 = omega (arith, sum_by-cons (before cmp y) z zs) in
      let there : sum_by (before cmp y) zs ≡ 0 = omega (arith, sum_by-cons (before cmp y) z zs) in
      let first : before cmp x z ≡ 0 = ap flag (upto o x y z e (flag_zero _ here)) in
      omega (arith, sum_by-cons (before cmp x) z zs, lower x y zs e there)

  sum-put_in : (f : X → ℕ) (x : X) (ys : List X) → sum_by f (put_in cmp x ys) ≡ f x + sum_by f ys
  sum-put_in f x [] = sum_by-cons f x []
  sum-put_in f x (y ∷ ys) =
      elim (is_gt (cmp x y)) as (λ b. sum_by f (if b then y ∷ put_in cmp x ys else x ∷ (y ∷ ys)) ≡ f x + sum_by f (y ∷ ys)) [
        | true ↦ omega (arith, sum_by-cons f y (put_in cmp x ys), sum_by-cons f y ys, sum-put_in f x ys)
        | false ↦ sum_by-cons f x (y ∷ ys)
      ]

  rises_put_in : (x : X) (ys : List X) → Rises cmp ys → Rises cmp (put_in cmp x ys)
  rises_put_in x [] up = (refl, tt)
  rises_put_in x (y ∷ ys) up =
      (elim (is_gt (cmp x y)) as (λ b. is_gt (cmp x y) ≡ b → Rises cmp (if b then y ∷ put_in cmp x ys else x ∷ (y ∷ ys))) [
        | true ↦ λ e. (
          (let first : before cmp y x ≡ 0 = ap flag (not_both _ _ (o.antisymm y x) e) in
              omega (arith, sum-put_in (before cmp y) x ys, up.0)),
          rises_put_in x ys up.1,
        )
        | false ↦ λ e. (
          (let first : before cmp x y ≡ 0 = ap flag e in
              omega (arith, sum_by-cons (before cmp x) y ys, lower x y ys e up.0)),
          up,
        )
      ]) refl

  rises_in_order : (xs : List X) → Rises cmp (in_order cmp xs)
  rises_in_order [] = tt
  rises_in_order (x ∷ xs) = rises_put_in x (in_order cmp xs) (rises_in_order xs)

  sum-in_order : (f : X → ℕ) (xs : List X) → sum_by f (in_order cmp xs) ≡ sum_by f xs
  sum-in_order f [] = refl
  sum-in_order f (x ∷ xs) =
      omega (arith, sum-put_in f x (in_order cmp xs), sum_by-cons f x xs, sum-in_order f xs)

  module _ (same : (x y : X) → cmp x y ≡ Equal → x ≡ y) where
    only : (xs ys : List X) → Rises cmp xs → Rises cmp ys → ((f : X → ℕ) → sum_by f xs ≡ sum_by f ys) → xs ≡ ys
    only [] [] up vp e = refl
    only [] (y ∷ ys) up vp e = absurd (omega (arith, sum_by-cons (λ _. 1) y ys, e (λ _. 1)))
    only (x ∷ xs) [] up vp e = absurd (omega (arith, sum_by-cons (λ _. 1) x xs, e (λ _. 1)))
    only (x ∷ xs) (y ∷ ys) up vp e =
        let tie_y : before cmp y y ≡ 0 = ap (λ p. flag (is_gt p)) (tied_itself o y) in
        let tie_x : before cmp x x ≡ 0 = ap (λ p. flag (is_gt p)) (tied_itself o x) in
        let a : before cmp y x ≡ 0 = omega (arith, e (before cmp y), sum_by-cons (before cmp y) x xs, sum_by-cons (before cmp y) y ys, vp.0) in
        let b : before cmp x y ≡ 0 = omega (arith, e (before cmp x), sum_by-cons (before cmp x) x xs, sum_by-cons (before cmp x) y ys, up.0) in
        let eq : x ≡ y = same x y (tied _ _ (o.antisymm x y) (flag_zero _ b) (flag_zero _ a)) in
        let rest : xs ≡ ys = only xs ys up.1 vp.1 (λ f.
        let head : f x ≡ f y = ap f eq in
        omega (arith, e f, sum_by-cons f x xs, sum_by-cons f y ys)) in
        cc

    -- what a sort makes of a list is the list in order
    pub sorted_is : (xs ys : List X) → IsPermutation xs ys → IsSorted cmp ys → ys ≡ in_order cmp xs
    sorted_is xs ys moved up =
        only ys (in_order cmp xs) (rises ys up) (rises_in_order xs)
        (λ f. sum_by-IsPermutation f xs ys moved ∙ sym (sum-in_order f xs))
