-- The operations of phases in one list, and where their blocks go.
use Rattle.std.proofs.Common.{◌≡◌, ℕ, zero, suc, ◌+◌, ◌-◌, ◌<◌, ◌≤◌, false, List, [], ◌∷◌, ◌++◌, length, map, take, get_or, Option, Some, None, ◌⊎◌, inl, inr, refl, sym, ap, subst, ◌∙◌, arith, add-zero, add-one, append-nil, append_assoc}
use Rattle.std.proofs.lemmas.Bool.{cases_lt}
use Rattle.std.proofs.lemmas.List.{length-append, length-map}
use Rattle.std.proofs.lemmas.List.Folds.{length-flat_map-take}
use Rattle.std.proofs.Math.Seq.{take-suc}
use Rattle.std.proofs.lemmas.List.Elements.{All-from_recursion}
use Rattle.std.proofs.lemmas.Option.{slice_get-map}
use Rattle.std.specs.Prelude.{slice_get, flat_map, All}
use Rattle.std.specs.List.{AllByRecursion}
use Rattle.std.specs.Option.{option_map}
use Rattle.arc_script.specs.declared.script.Op.{Op}
use Rattle.arc_script.specs.declared.script.Op.TheVariants as op
use Rattle.arc_script.specs.Valid.{Nested, begins_block, goes_to}
use Rattle.arc_script.specs.Valid.Nested.{none as nest_none, operation as nest_operation, block as nest_block}
use Rattle.arc_script.specs.OneList.{in_one_list, moved_behind}
use Rattle.arc_script.proofs.OneList.{length_in_one}
use Rattle.arc_served.specs.Programs.{GoesForth, ToFits, ops_in_first}

-- one phase more
pub one_list_more : (n : ℕ) (ps : List (List Op)) (ops : List Op) → in_one_list n (ps ++ ops ∷ []) ≡ in_one_list n ps ++ map (moved_behind (n + length (in_one_list n ps))) ops
one_list_more n [] ops = append-nil (map (moved_behind n) ops) ∙ ap (λ (k : ℕ). map (moved_behind k) ops) (sym (add-zero n))
one_list_more n (p ∷ ps) ops =
    let front : List Op = map (moved_behind n) p in
    let rest : List Op = in_one_list (n + length p) ps in
    let long = length-append front rest in
    let same = length-map p (moved_behind n) in
    let count : n + length p + length rest ≡ n + length (front ++ rest) = omega (arith, long, same) in
    ap (λ (xs : List Op). front ++ xs) (one_list_more (n + length p) ps ops)
    ∙ sym (append_assoc front rest (map (moved_behind (n + length p + length rest)) ops))
    ∙ ap (λ (k : ℕ). (front ++ rest) ++ map (moved_behind k) ops) count

-- ---- an element of two lists, one behind the other

pub in_front : {X : Type 0} (xs ys : List X) (i : ℕ) → i < length xs → slice_get (xs ++ ys) i ≡ slice_get xs i
in_front [] ys i lt = absurd (omega arith)
in_front (x ∷ xs) ys zero lt = refl
in_front (x ∷ xs) ys (suc i) lt = in_front xs ys i (omega arith)

pub behind : {X : Type 0} (xs ys : List X) (i : ℕ) → slice_get (xs ++ ys) (length xs + i) ≡ slice_get ys i
behind [] ys i = ap (λ (k : ℕ). slice_get ys k) (let e : 0 + i ≡ i = omega arith in e)
behind (x ∷ xs) ys i = ap (λ (k : ℕ). slice_get (x ∷ (xs ++ ys)) k) (let e : length (x ∷ xs) + i ≡ suc (length xs + i) = omega arith in e) ∙ behind xs ys i

-- ---- blocks go forth

some_is : {X : Type 0} (a b : X) → Path (Option X) (Some a) (Some b) → a ≡ b
some_is a b e = cc

forth_from : (i j e f : ℕ) (o : Op) → i ≡ j → e ≤ f → GoesForth i e o → GoesForth j f o
forth_from i j e f (op.New to class) s l g = tt
forth_from i j e f (op.Copy to from) s l g = tt
forth_from i j e f (op.Move to from) s l g = tt
forth_from i j e f (op.Drop v) s l g = tt
forth_from i j e f (op.Unown to of) s l g = tt
forth_from i j e f (op.Weak to of) s l g = tt
forth_from i j e f (op.Load to of) s l g = tt
forth_from i j e f (op.Get to c) s l g = tt
forth_from i j e f (op.Set c from) s l g = tt
forth_from i j e f (op.IfNil v to) s l g = let a = g.0 in let b = g.1 in (omega arith, omega arith)
forth_from i j e f (op.IfSome v to) s l g = let a = g.0 in let b = g.1 in (omega arith, omega arith)

no_block_forth : (i e : ℕ) (o : Op) → begins_block o ≡ false → GoesForth i e o
no_block_forth i e (op.New to class) b = tt
no_block_forth i e (op.Copy to from) b = tt
no_block_forth i e (op.Move to from) b = tt
no_block_forth i e (op.Drop v) b = tt
no_block_forth i e (op.Unown to of) b = tt
no_block_forth i e (op.Weak to of) b = tt
no_block_forth i e (op.Load to of) b = tt
no_block_forth i e (op.Get to c) b = tt
no_block_forth i e (op.Set c from) b = tt
no_block_forth i e (op.IfNil v to) b = absurd (cc)
no_block_forth i e (op.IfSome v to) b = absurd (cc)

block_forth : (i e to : ℕ) (o : Op) → i < to → to ≤ e → GoesForth i e (goes_to to o)
block_forth i e to (op.New v class) a b = tt
block_forth i e to (op.Copy v from) a b = tt
block_forth i e to (op.Move v from) a b = tt
block_forth i e to (op.Drop v) a b = tt
block_forth i e to (op.Unown v of) a b = tt
block_forth i e to (op.Weak v of) a b = tt
block_forth i e to (op.Load v of) a b = tt
block_forth i e to (op.Get v c) a b = tt
block_forth i e to (op.Set c from) a b = tt
block_forth i e to (op.IfNil v old) a b = (a, b)
block_forth i e to (op.IfSome v old) a b = (a, b)

pub nested_forth : {deep at : ℕ} {ops : List Op} → Nested deep at ops → (i : ℕ) (o : Op) → slice_get ops i ≡ Some o → GoesForth (at + i) (at + length ops) o
nested_forth nest_none i o e = absurd (cc)
nested_forth {at = at} (nest_operation x ops none rest) zero o e = subst (GoesForth (at + 0) (at + length (x ∷ ops))) (some_is x o e) (no_block_forth (at + 0) (at + length (x ∷ ops)) x none)
nested_forth {at = at} (nest_operation x ops none rest) (suc i) o e = forth_from (suc at + i) (at + suc i) (suc at + length ops) (at + length (x ∷ ops)) o (omega arith) (omega arith) (nested_forth rest i o e)
nested_forth {at = at} (nest_block x inside ops begins within beyond) zero o e =
    let long = length-append inside ops in
    subst (GoesForth (at + 0) (at + suc (length (inside ++ ops)))) (some_is (goes_to (suc at + length inside) x) o e)
    (block_forth (at + 0) (at + suc (length (inside ++ ops))) (suc at + length inside) x (omega arith) (omega (arith, long)))
nested_forth {at = at} (nest_block x inside ops begins within beyond) (suc i) o e = go (cases_lt i (length inside)) (nested_forth within i o) (nested_forth beyond (i - length inside) o)
  where
    go : (i < length inside) ⊎ (length inside ≤ i) → (slice_get inside i ≡ Some o → GoesForth (suc at + i) (suc at + length inside) o) →
        (slice_get ops (i - length inside) ≡ Some o → GoesForth (suc at + length inside + (i - length inside)) (suc at + length inside + length ops) o) → GoesForth (at + suc i) (at + suc (length (inside ++ ops))) o
    go (inl lt) near far =
        let long = length-append inside ops in
        forth_from (suc at + i) (at + suc i) (suc at + length inside) (at + suc (length (inside ++ ops))) o (omega arith) (omega (arith, long)) (near (sym (in_front inside ops i lt) ∙ e))
    go (inr le) near far =
        let long = length-append inside ops in
        let place : length inside + (i - length inside) ≡ i = omega (arith, le) in
        forth_from (suc at + length inside + (i - length inside)) (at + suc i) (suc at + length inside + length ops) (at + suc (length (inside ++ ops))) o (omega (arith, le)) (omega (arith, long))
        (far (sym (behind inside ops (i - length inside)) ∙ (ap (λ (k : ℕ). slice_get (inside ++ ops) k) place ∙ e)))

-- ---- in one list

moved_forth : (n i e : ℕ) (o : Op) → GoesForth i e o → GoesForth (n + i) (n + e) (moved_behind n o)
moved_forth n i e (op.New to class) g = tt
moved_forth n i e (op.Copy to from) g = tt
moved_forth n i e (op.Move to from) g = tt
moved_forth n i e (op.Drop v) g = tt
moved_forth n i e (op.Unown to of) g = tt
moved_forth n i e (op.Weak to of) g = tt
moved_forth n i e (op.Load to of) g = tt
moved_forth n i e (op.Get to c) g = tt
moved_forth n i e (op.Set c from) g = tt
moved_forth n i e (op.IfNil v to) g = let a = g.0 in let b = g.1 in (omega arith, omega arith)
moved_forth n i e (op.IfSome v to) g = let a = g.0 in let b = g.1 in (omega arith, omega arith)

in_map : (f : Op → Op) (found : Option Op) (o : Op) → option_map f found ≡ Some o → (x : Op) × (found ≡ Some x) × (f x ≡ o)
in_map f None o e = absurd (cc)
in_map f (Some x) o e = (x, refl, some_is (f x) o e)

-- no block goes past the end of its phase
pub phases_forth : (n : ℕ) (phases : List (List Op)) → AllByRecursion (Nested 8 0) phases → (k i : ℕ) (o : Op) → i < ops_in_first k phases → slice_get (in_one_list n phases) i ≡ Some o →
    GoesForth (n + i) (n + ops_in_first k phases) o
phases_forth n [] fit k i o lt e = absurd (cc)
phases_forth n (ops ∷ rest) fit zero i o lt e = absurd (omega arith)
phases_forth n (ops ∷ rest) fit (suc k) i o lt e = go (cases_lt i (length ops)) (phases_forth (n + length ops) rest fit.1 k (i - length ops) o)
  where
    long : ops_in_first (suc k) (ops ∷ rest) ≡ length ops + ops_in_first k rest
    long = length-append ops (flat_map (λ (xs : List Op). xs) (take k rest))

    moved : List Op
    moved = map (moved_behind n) ops

    same : length moved ≡ length ops
    same = length-map ops (moved_behind n)

    go : (i < length ops) ⊎ (length ops ≤ i) → (i - length ops < ops_in_first k rest → slice_get (in_one_list (n + length ops) rest) (i - length ops) ≡ Some o →
        GoesForth (n + length ops + (i - length ops)) (n + length ops + ops_in_first k rest) o) → GoesForth (n + i) (n + ops_in_first (suc k) (ops ∷ rest)) o
    go (inl below) far =
        let here : slice_get moved i ≡ Some o = sym (in_front moved (in_one_list (n + length ops) rest) i (omega (arith, below, same))) ∙ e in
        let x = in_map (moved_behind n) (slice_get ops i) o (sym (slice_get-map (moved_behind n) ops i) ∙ here) in
        let g : GoesForth i (length ops) x.0 = forth_from (0 + i) i (0 + length ops) (length ops) x.0 (omega arith) (omega arith) (nested_forth fit.0 i x.0 x.1) in
        forth_from (n + i) (n + i) (n + length ops) (n + ops_in_first (suc k) (ops ∷ rest)) o refl (omega (arith, long)) (subst (GoesForth (n + i) (n + length ops)) x.2 (moved_forth n i (length ops) x.0 g))
    go (inr past) far =
        let place : length moved + (i - length ops) ≡ i = omega (arith, past, same) in
        let there = far (omega (arith, lt, long, past)) (sym (behind moved (in_one_list (n + length ops) rest) (i - length ops)) ∙ (ap (λ (j : ℕ). slice_get (moved ++ in_one_list (n + length ops) rest) j) place ∙ e)) in
        forth_from (n + length ops + (i - length ops)) (n + i) (n + length ops + ops_in_first k rest) (n + ops_in_first (suc k) (ops ∷ rest)) o (omega (arith, past)) (omega (arith, long)) there

-- the places behind blocks are numbers below that of all operations
to_fits : (i e : ℕ) (o : Op) → e ≤ 100000 → GoesForth i e o → ToFits o
to_fits i e (op.New to class) l g = tt
to_fits i e (op.Copy to from) l g = tt
to_fits i e (op.Move to from) l g = tt
to_fits i e (op.Drop v) l g = tt
to_fits i e (op.Unown to of) l g = tt
to_fits i e (op.Weak to of) l g = tt
to_fits i e (op.Load to of) l g = tt
to_fits i e (op.Get to c) l g = tt
to_fits i e (op.Set c from) l g = tt
to_fits i e (op.IfNil v to) l g = let b = g.1 in omega arith
to_fits i e (op.IfSome v to) l g = let b = g.1 in omega arith

fits_by_place : (ops : List Op) → ((i : ℕ) (o : Op) → slice_get ops i ≡ Some o → ToFits o) → AllByRecursion ToFits ops
fits_by_place [] f = tt
fits_by_place (o ∷ ops) f = (f 0 o refl, fits_by_place ops (λ i. f (suc i)))

pub all_to_fit : (phases : List (List Op)) → length (flat_map (λ (ops : List Op). ops) phases) ≤ 100000 → AllByRecursion (Nested 8 0) phases → AllByRecursion (All ToFits) phases
all_to_fit [] few fit = tt
all_to_fit (ops ∷ rest) few fit =
    let long = length-append ops (flat_map (λ (xs : List Op). xs) rest) in (
      All-from_recursion ToFits ops (fits_by_place ops (λ i o e. to_fits (0 + i) (0 + length ops) o (omega (arith, few, long)) (nested_forth fit.0 i o e))),
      all_to_fit rest (omega (arith, few, long)) fit.1,
    )

-- ---- the phases one by one

pub next_phase : (phases : List (List Op)) (i : ℕ) (ops d items new : List Op) → i < length phases → ops ≡ get_or phases i d → items ≡ in_one_list 0 (take i phases) → new ≡ items ++ map (moved_behind (length items)) ops →
    new ≡ in_one_list 0 (take (i + 1) phases)
next_phase phases i ops d items new lt here so_far more =
    let n : ℕ = length (in_one_list 0 (take i phases)) in
    let count : n ≡ 0 + n = omega arith in
    more
    ∙ ap (λ (xs : List Op). xs ++ map (moved_behind (length xs)) ops) so_far
    ∙ ap (λ (k : ℕ). in_one_list 0 (take i phases) ++ map (moved_behind k) ops) count
    ∙ sym (one_list_more 0 (take i phases) ops)
    ∙ ap (λ (xs : List Op). in_one_list 0 (take i phases ++ xs ∷ [])) here
    ∙ ap (λ (ps : List (List Op)). in_one_list 0 ps) (sym (take-suc phases i d lt))
    ∙ ap (λ (k : ℕ). in_one_list 0 (take k phases)) (sym (add-one i))

pub next_phase_fits : (phases : List (List Op)) (i : ℕ) (ops d items : List Op) → i < length phases → ops ≡ get_or phases i d → items ≡ in_one_list 0 (take i phases) → length (flat_map (λ (xs : List Op). xs) phases) ≤ 100000 →
    length items + length ops ≤ 100000
next_phase_fits phases i ops d items lt here so_far few =
    let part = length-flat_map-take (λ (xs : List Op). xs) phases i d lt in
    let a : length items ≡ length (flat_map (λ (xs : List Op). xs) (take i phases)) = ap length so_far ∙ length_in_one 0 (take i phases) in
    let b = ap length here in
    omega (arith, few, part, a, b)

-- ---- a stepper's program

pub long_as_phases : (program : List Op) (phases : List (List Op)) → program ≡ in_one_list 0 phases → length (flat_map (λ (xs : List Op). xs) phases) ≡ length program
long_as_phases program phases whole = sym (ap length whole ∙ length_in_one 0 phases)
