-- Counts over the phases of threads fit, and count the first phases.
use Rattle.std.proofs.Common.{◌≡◌, ℕ, ◌+◌, ◌<◌, ◌≤◌, cond, min, List, length, take, get_or, ◌⊎◌, inl, inr, sym, ap, ◌∙◌, arith}
use Rattle.std.proofs.lemmas.Bool.{cases_lt}
use Rattle.std.proofs.lemmas.List.{take_all, take-take}
use Rattle.std.proofs.lemmas.List.Concat.{length-flat_map}
use Rattle.std.proofs.lemmas.List.Sums.{sum_by-take-le, sum_by-le-sum_by, sum_by_more_le_part, count_by-le-length}
use Rattle.std.specs.Prelude.{sum_by, flat_map}
use Rattle.arc_script.specs.declared.script.Op.{Op}
use Rattle.arc_script.specs.declared.script.ThreadDecl.{ThreadDecl}
use Rattle.arc_served.specs.Programs.{ops_in_first, is_new, new_count_of}

-- the sum so far and what the next item adds are no more than the whole
pub sum_fits : {X : Type 0} (f g : X → ℕ) → ((x : X) → f x ≤ g x) → (xs : List X) (i : ℕ) (item d : X) (count more : ℕ) → i < length xs → item ≡ get_or xs i d → count ≡ sum_by f (take i xs) → more ≤ g item → count + more ≤ sum_by g xs
sum_fits f g below xs i item d count more within item_is count_is few =
    let part = sum_by_more_le_part f g xs i d within below in
    let here : more ≤ g (get_or xs i d) = rw item_is at few in
    omega arith

pub sum_few : {X : Type 0} (f g : X → ℕ) → ((x : X) → f x ≤ g x) → (xs : List X) (i count : ℕ) → count ≡ sum_by f (take i xs) → count ≤ sum_by g xs
sum_few f g below xs i count count_is =
    let part = sum_by-take-le f xs i in
    let all = sum_by-le-sum_by f g xs below in
    omega arith

-- an object is made by an operation
pub new_few : (ops : List Op) → sum_by (λ (o : Op). cond (is_new o) 1 0) ops ≤ length ops
new_few ops = count_by-le-length is_new ops

pub thread_few : (t : ThreadDecl) → new_count_of t ≤ sum_by (λ (ops : List Op). length ops) t.phases
thread_few t = sum_by-le-sum_by (λ (ops : List Op). sum_by (λ (o : Op). cond (is_new o) 1 0) ops) (λ (ops : List Op). length ops) t.phases new_few

-- the first phases, counted as far as there are phases
pub first_counted : (k i count : ℕ) (phases : List (List Op)) → i ≡ min k (length phases) → count ≡ sum_by (λ (ops : List Op). length ops) (take i phases) → count ≡ ops_in_first k phases
first_counted k i count phases i_is count_is = count_is ∙ ap (λ (ps : List (List Op)). sum_by (λ (ops : List Op). length ops) ps) (same (cases_lt k (length phases))) ∙ sym (length-flat_map (λ (ops : List Op). ops) (take k phases))
  where
    same : (k < length phases) ⊎ (length phases ≤ k) → take i phases ≡ take k phases
    same (inl below) = let i_is_k : i ≡ k = omega arith in ap (λ (n : ℕ). take n phases) i_is_k
    same (inr most) = take_all i phases (omega arith) ∙ sym (take_all k phases most)

-- ---- how many operations the first phases have

-- no more than there are
pub first_few : (k : ℕ) (phases : List (List Op)) → ops_in_first k phases ≤ length (flat_map (λ (ops : List Op). ops) phases)
first_few k phases =
    let first = length-flat_map (λ (ops : List Op). ops) (take k phases) in
    let all = length-flat_map (λ (ops : List Op). ops) phases in
    let part = sum_by-take-le (λ (ops : List Op). length ops) phases k in
    omega arith

-- nor fewer with a phase more
pub first_more : (k : ℕ) (phases : List (List Op)) → ops_in_first k phases ≤ ops_in_first (k + 1) phases
first_more k phases =
    let fewer = sum_by-take-le (λ (ops : List Op). length ops) (take (k + 1) phases) k in
    let same : take k (take (k + 1) phases) ≡ take k phases = take-take k (k + 1) phases (omega arith) in
    let first = length-flat_map (λ (ops : List Op). ops) (take k phases) in
    let more = length-flat_map (λ (ops : List Op). ops) (take (k + 1) phases) in
    let fewer_here : sum_by (λ (ops : List Op). length ops) (take k phases) ≤ sum_by (λ (ops : List Op). length ops) (take (k + 1) phases) = rw same at fewer in
    omega arith

-- all, where there are no more phases
pub first_all : (k : ℕ) (phases : List (List Op)) → length phases ≤ k → ops_in_first k phases ≡ length (flat_map (λ (ops : List Op). ops) phases)
first_all k phases most = ap (λ (ps : List (List Op)). length (flat_map (λ (ops : List Op). ops) ps)) (take_all k phases most)
