-- Lemmas of a thread's operations in one list.
use Rattle.std.proofs.Common.{ℕ, zero, suc, ◌≡◌, ◌≤◌, ◌<◌, ◌+◌, Bool, true, false, List, [], ◌∷◌, ◌++◌, length, Some, None, refl, sym, ap, ◌∙◌, subst, arith}
use Rattle.std.specs.Prelude.{not, if◌then◌else◌, map, take, count_by, flat_map, slice_get}
use Rattle.std.specs.List.{AllByRecursion}
use Rattle.std.proofs.lemmas.List.{length-append, length-map}
use Rattle.std.proofs.lemmas.List.Sums.{sum_by-cons, count_by_more_yes, count_by_more_no}
use Rattle.std.proofs.lemmas.Option.{get_or_from_slice_get, slice_get_within}
use Rattle.arc_script.specs.declared.script.Op.{Op}
use Rattle.arc_script.specs.declared.script.Op.TheVariants as op
use Rattle.arc_script.specs.Valid.{begins_block}
use Rattle.arc_script.specs.OneList.{moved_behind, in_one_list, numbered, HasNoBlock}

-- ---- what holds of each operation of each phase, and stays when a block's end is moved, holds in the list

all-append : (P : Op → Type 0) (xs ys : List Op) → AllByRecursion P xs → AllByRecursion P ys → AllByRecursion P (xs ++ ys)
all-append P [] ys a b = b
all-append P (x ∷ xs) ys a b = (a.0, all-append P xs ys a.1 b)

all-moved : (P : Op → Type 0) → ((n : ℕ) (o : Op) → P o → P (moved_behind n o)) → (n : ℕ) (ops : List Op) → AllByRecursion P ops → AllByRecursion P (map (moved_behind n) ops)
all-moved P stays n [] a = tt
all-moved P stays n (o ∷ ops) a = (stays n o a.0, all-moved P stays n ops a.1)

pub all_in_one : (P : Op → Type 0) → ((n : ℕ) (o : Op) → P o → P (moved_behind n o)) → (n : ℕ) (phases : List (List Op)) → AllByRecursion (λ (ops : List Op). AllByRecursion P ops) phases →
    AllByRecursion P (in_one_list n phases)
all_in_one P stays n [] a = tt
all_in_one P stays n (ops ∷ phases) a =
    all-append P (map (moved_behind n) ops) (in_one_list (n + length ops) phases) (all-moved P stays n ops a.0) (all_in_one P stays (n + length ops) phases a.1)

-- ---- counts

moved-length : (n : ℕ) (ops : List Op) → length (map (moved_behind n) ops) ≡ length ops
moved-length n ops = length-map ops (moved_behind n)

pub length_in_one : (n : ℕ) (phases : List (List Op)) → length (in_one_list n phases) ≡ length (flat_map (λ (ops : List Op). ops) phases)
length_in_one n [] = refl
length_in_one n (ops ∷ phases) =
    let a = length-append (map (moved_behind n) ops) (in_one_list (n + length ops) phases) in
    let b = length-append ops (flat_map (λ (ops : List Op). ops) phases) in
    let c = moved-length n ops in
    let d = length_in_one (n + length ops) phases in
    omega arith

pub moved_same : (n : ℕ) (o : Op) → begins_block o ≡ false → moved_behind n o ≡ o
moved_same n (op.New to class) e = refl
moved_same n (op.Copy to from) e = refl
moved_same n (op.Drop var) e = refl
moved_same n (op.Move to from) e = refl
moved_same n (op.Unown to of) e = refl
moved_same n (op.Weak to of) e = refl
moved_same n (op.Load to of) e = refl
moved_same n (op.Get to c) e = refl
moved_same n (op.Set c from) e = refl
moved_same n (op.IfNil var to) e = absurd cc
moved_same n (op.IfSome var to) e = absurd cc

moved-all-same : (n : ℕ) (ops : List Op) → AllByRecursion (λ (o : Op). begins_block o ≡ false) ops → map (moved_behind n) ops ≡ ops
moved-all-same n [] a = refl
moved-all-same n (o ∷ ops) a = ap (λ (x : Op). x ∷ map (moved_behind n) ops) (moved_same n o a.0) ∙ ap (λ (xs : List Op). o ∷ xs) (moved-all-same n ops a.1)

-- without a block the phases stand one behind the other as they are
pub without_blocks : (n : ℕ) (phases : List (List Op)) → AllByRecursion (λ (ops : List Op). AllByRecursion (λ (o : Op). begins_block o ≡ false) ops) phases →
    in_one_list n phases ≡ flat_map (λ (ops : List Op). ops) phases
without_blocks n [] a = refl
without_blocks n (ops ∷ phases) a =
    ap (λ (xs : List Op). xs ++ in_one_list (n + length ops) phases) (moved-all-same n ops a.0) ∙ ap (λ (xs : List Op). ops ++ xs) (without_blocks (n + length ops) phases a.1)

-- an operation that begins no block has the next number, and the beginning of a block none
pub number_next : (ops : List Op) (i : ℕ) (o : Op) → slice_get ops i ≡ Some o → begins_block o ≡ false → numbered (take (i + 1) ops) ≡ numbered (take i ops) + 1
number_next ops i o there e = count_by_more_yes (λ (x : Op). not (begins_block x)) ops i o (slice_get_within ops i o there) (ap (λ (x : Op). not (begins_block x)) (get_or_from_slice_get ops i o o there) ∙ ap not e)

pub number_stays : (ops : List Op) (i : ℕ) (o : Op) → slice_get ops i ≡ Some o → begins_block o ≡ true → numbered (take (i + 1) ops) ≡ numbered (take i ops)
number_stays ops i o there e = count_by_more_no (λ (x : Op). not (begins_block x)) ops i o (slice_get_within ops i o there) (ap (λ (x : Op). not (begins_block x)) (get_or_from_slice_get ops i o o there) ∙ ap not e)

one-more : (o : Op) (ops : List Op) → numbered (o ∷ ops) ≡ numbered (o ∷ []) + numbered ops
one-more o ops =
    let w : Op → ℕ = λ x. if not (begins_block x) then 1 else 0 in
    let a : numbered (o ∷ ops) ≡ w o + numbered ops = sum_by-cons w o ops in
    let b : numbered (o ∷ []) ≡ w o + 0 = sum_by-cons w o [] in
    omega arith

-- numbers grow along the list
pub numbers_grow : (ops : List Op) (i j : ℕ) → i ≤ j → numbered (take i ops) ≤ numbered (take j ops)
numbers_grow [] zero j l = omega arith
numbers_grow [] (suc i) j l = omega arith
numbers_grow (o ∷ ops) zero j l = omega arith
numbers_grow (o ∷ ops) (suc i) zero l = absurd (omega arith)
numbers_grow (o ∷ ops) (suc i) (suc j) l =
    let a = one-more o (take i ops) in
    let b = one-more o (take j ops) in
    let c = numbers_grow ops i j (omega arith) in
    omega arith

-- without a block the number of an operation is its place
pub number_is_place : (ops : List Op) (i : ℕ) → HasNoBlock ops → i ≤ length ops → numbered (take i ops) ≡ i
number_is_place ops zero none l = refl
number_is_place [] (suc i) none l = absurd (omega arith)
number_is_place (o ∷ ops) (suc i) none l =
    let a = one-more o (take i ops) in
    let b = number_is_place ops i (λ j. none (suc j)) (omega arith) in
    let c : numbered (o ∷ []) ≡ 1 = rw (none 0 o refl) refl in
    omega arith
