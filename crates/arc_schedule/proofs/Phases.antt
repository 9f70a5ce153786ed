-- The phases of a thread, and where each begins in its program.
use Rattle.std.proofs.Common.{◌≡◌, ℕ, zero, suc, ◌+◌, List, [], ◌∷◌, ◌++◌, length, map, take, drop, refl, sym, ap, subst, ◌∙◌, arith, append-nil}
use Rattle.std.proofs.lemmas.List.{length-append, length-map}
use Rattle.std.specs.Prelude.{slice_get, flat_map, Some}
use Rattle.arc_script.specs.declared.script.Op.{Op}
use Rattle.arc_script.specs.OneList.{in_one_list, moved_behind}
use Rattle.arc_served.specs.Programs.{ops_in_first}
use Rattle.arc_schedule.proofs.Lists.{take-over, drop-over}

-- all operations, phase by phase
abbrev pub all-ops : List (List Op) → List Op
all-ops phases = flat_map (λ ops. ops) phases

-- a phase more in front
first-many : (ops : List Op) (phases : List (List Op)) (p : ℕ) → ops_in_first (suc p) (ops ∷ phases) ≡ length ops + ops_in_first p phases
first-many ops phases p = length-append ops (all-ops (take p phases))

-- so many operations are there before the next phase
pub phase-next : (phases : List (List Op)) (p : ℕ) (ops : List Op) → slice_get phases p ≡ Some ops → ops_in_first (suc p) phases ≡ ops_in_first p phases + length ops
phase-next [] p ops e = absurd (cc)
phase-next (x ∷ phases) zero ops e =
    let same : x ≡ ops = cc in
    let a = first-many x phases zero in
    let b : ops_in_first zero phases ≡ 0 = refl in
    let c : length x ≡ length ops = ap length same in
    let d : ops_in_first zero (x ∷ phases) ≡ 0 = refl in
    omega arith
phase-next (x ∷ phases) (suc p) ops e =
    let a = first-many x phases (suc p) in
    let b = first-many x phases p in
    let c = phase-next phases p ops e in
    omega arith

-- the operations from this one of the phase on, to the phase's end
pub phase-rest : (n : ℕ) (phases : List (List Op)) (p i : ℕ) (ops : List Op) → slice_get phases p ≡ Some ops →
    drop (ops_in_first p phases + i) (take (ops_in_first (suc p) phases) (in_one_list n phases)) ≡ drop i (map (moved_behind (n + ops_in_first p phases)) ops)
phase-rest n [] p i ops e = absurd (cc)
phase-rest n (x ∷ phases) zero i ops e =
    let same : x ≡ ops = cc in
    let front : List Op = map (moved_behind n) x in
    let behind : List Op = in_one_list (n + length x) phases in
    let long : length front ≡ length x = length-map x (moved_behind n) in
    let many : ops_in_first (suc zero) (x ∷ phases) ≡ length front + 0 = first-many x phases zero ∙ ap (λ (m : ℕ). m + 0) (sym long) in
    let taken : take (length front + 0) (front ++ behind) ≡ front ++ [] = take-over front behind 0 in
    let back : front ++ [] ≡ front = append-nil front in
    let start : 0 + i ≡ i = omega arith in
    let none : n ≡ n + 0 = omega arith in
    let P : ℕ → ℕ → Type 0 = λ (a b : ℕ). drop a (take b (front ++ behind)) ≡ drop i (map (moved_behind (n + 0)) ops) in
    let whole : drop i (take (length front + 0) (front ++ behind)) ≡ drop i (map (moved_behind (n + 0)) ops) =
    ap (λ (ys : List Op). drop i ys) (taken ∙ back ∙ ap (λ (ys : List Op). map (moved_behind n) ys) same) ∙ ap (λ (m : ℕ). drop i (map (moved_behind m) ops)) none in
    subst (λ (a : ℕ). P a (ops_in_first (suc zero) (x ∷ phases))) (sym start) (subst (λ (b : ℕ). P i b) (sym many) whole)
phase-rest n (x ∷ phases) (suc p) i ops e =
    let front : List Op = map (moved_behind n) x in
    let behind : List Op = in_one_list (n + length x) phases in
    let long : length front ≡ length x = length-map x (moved_behind n) in
    let many = first-many x phases p in
    let more : ops_in_first (suc (suc p)) (x ∷ phases) ≡ length front + ops_in_first (suc p) phases = first-many x phases (suc p) ∙ ap (λ (m : ℕ). m + ops_in_first (suc p) phases) (sym long) in
    let taken = take-over front behind (ops_in_first (suc p) phases) in
    let dropped = drop-over front (take (ops_in_first (suc p) phases) behind) (ops_in_first p phases + i) in
    let sum : ops_in_first (suc p) (x ∷ phases) + i ≡ length front + (ops_in_first p phases + i) = omega (arith, many, long) in
    let start : n + length x + ops_in_first p phases ≡ n + ops_in_first (suc p) (x ∷ phases) = omega (arith, many) in
    let P : ℕ → ℕ → ℕ → Type 0 = λ (a b c : ℕ). drop a (take b (front ++ behind)) ≡ drop i (map (moved_behind c) ops) in
    let whole : drop (length front + (ops_in_first p phases + i)) (take (length front + ops_in_first (suc p) phases) (front ++ behind)) ≡ drop i (map (moved_behind (n + length x + ops_in_first p phases)) ops) =
    ap (λ (ys : List Op). drop (length front + (ops_in_first p phases + i)) ys) taken ∙ dropped ∙ phase-rest (n + length x) phases p i ops e in
    subst (λ (c : ℕ). P (ops_in_first (suc p) (x ∷ phases) + i) (ops_in_first (suc (suc p)) (x ∷ phases)) c) start
    (subst (λ (a : ℕ). P a (ops_in_first (suc (suc p)) (x ∷ phases)) (n + length x + ops_in_first p phases)) (sym sum)
    (subst (λ (b : ℕ). P (length front + (ops_in_first p phases + i)) b (n + length x + ops_in_first p phases)) (sym more) whole))
