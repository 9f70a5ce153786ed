-- Operations that are dealt to threads in turn.
use Rattle.std.proofs.Common.{◌≡◌, ℕ, zero, suc, ◌+◌, ◌%◌, ◌<◌, ◌≤◌, Bool, true, false, cond, eqb, List, [], ◌∷◌, ◌++◌, length, take, get_or, map, refl, sym, ap, ◌∙◌, arith, rules, tests, inl, inr, append-nil}
use Rattle.std.specs.List.{AllByRecursion, range_with_len, enumerate_from, filter, sum_by}
use Rattle.std.proofs.lemmas.Bool.{cases_eq}
use Rattle.std.proofs.lemmas.List.{take_more, length-take-le}
use Rattle.std.proofs.lemmas.List.Sums.{sum_by-cons}
use Rattle.arc_script.specs.declared.script.Op.{Op}
use Rattle.arc_script.specs.declared.script.Op.TheVariants as op
use Rattle.arc_script.specs.declared.script.ThreadDecl.{ThreadDecl}
use Rattle.arc_script.specs.Valid.{op_count}
use Rattle.arc_storm.specs.Storm.{is_dealt, dealt, storm_thread, storm_threads}

abbrev op_of : ℕ × Op → Op
op_of numbered = numbered.1

-- what a thread gets of operations that are numbered from n on
abbrev dealt_from : ℕ → List Op → ℕ → List Op
dealt_from n ops t = map op_of (filter (is_dealt t) (enumerate_from n ops))

-- ---- one more

one : (b : Bool) (n : ℕ) (x : Op) → map op_of (cond b ((n, x) ∷ []) []) ≡ cond b (x ∷ []) []
one true n x = refl
one false n x = refl

before : (b : Bool) (n : ℕ) (x : Op) (fs gs : List (ℕ × Op)) (more : List Op) → map op_of fs ≡ map op_of gs ++ more → map op_of (cond b ((n, x) ∷ fs) fs) ≡ map op_of (cond b ((n, x) ∷ gs) gs) ++ more
before true n x fs gs more h = ap (λ (l : List Op). x ∷ l) h
before false n x fs gs more h = h

push_from : (n t : ℕ) (xs : List Op) (y : Op) (k : ℕ) → n + length xs ≡ k → dealt_from n (xs ++ y ∷ []) t ≡ dealt_from n xs t ++ cond (eqb (k % 16) t) (y ∷ []) []
push_from n t [] y k e = let same : n ≡ k = omega arith in one (eqb (n % 16) t) n y ∙ ap (λ (i : ℕ). cond (eqb (i % 16) t) (y ∷ []) []) same
push_from n t (x ∷ xs) y k e =
    before (eqb (n % 16) t) n x (filter (is_dealt t) (enumerate_from (n + 1) (xs ++ y ∷ []))) (filter (is_dealt t) (enumerate_from (n + 1) xs)) (cond (eqb (k % 16) t) (y ∷ []) []) (push_from (n + 1) t xs y k (omega arith))

-- what a thread has after operation i
pub dealt_more : (ops : List Op) (t i : ℕ) (d : Op) → i < length ops → dealt (take (i + 1) ops) t ≡ dealt (take i ops) t ++ cond (eqb (i % 16) t) (get_or ops i d ∷ []) []
dealt_more ops t i d lt =
    let on = take_more ops i d lt in
    let long : 0 + length (take i ops) ≡ i = omega (arith, length-take-le i ops (omega arith)) in
    ap (λ (xs : List Op). dealt xs t) on ∙ push_from 0 t (take i ops) (get_or ops i d) i long

-- ---- all of them

all_each : (P : Op → Type 0) (b : Bool) (n : ℕ) (x : Op) (fs : List (ℕ × Op)) → P x → AllByRecursion P (map op_of fs) → AllByRecursion P (map op_of (cond b ((n, x) ∷ fs) fs))
all_each P true n x fs p h = (p, h)
all_each P false n x fs p h = h

all_from : (P : Op → Type 0) (n t : ℕ) (xs : List Op) → AllByRecursion P xs → AllByRecursion P (dealt_from n xs t)
all_from P n t [] h = tt
all_from P n t (x ∷ xs) h = all_each P (eqb (n % 16) t) n x (filter (is_dealt t) (enumerate_from (n + 1) xs)) h.0 (all_from P (n + 1) t xs h.1)

pub all_dealt : (P : Op → Type 0) (t : ℕ) (xs : List Op) → AllByRecursion P xs → AllByRecursion P (dealt xs t)
all_dealt P t xs h = all_from P 0 t xs h

-- ---- how many

abbrev share : Bool → ℕ
share b = cond b 1 0

length_each : (b : Bool) (n : ℕ) (x : Op) (fs : List (ℕ × Op)) → length (map op_of (cond b ((n, x) ∷ fs) fs)) ≡ share b + length (map op_of fs)
length_each true n x fs = omega arith
length_each false n x fs = omega arith

sum_add : (f g h : ℕ → ℕ) → ((t : ℕ) → f t ≡ g t + h t) → (ts : List ℕ) → sum_by f ts ≡ sum_by g ts + sum_by h ts
sum_add f g h e [] = refl
sum_add f g h e (t ∷ ts) = rw (sum_by-cons f t ts, sum_by-cons g t ts, sum_by-cons h t ts) (omega (arith, e t, sum_add f g h e ts))

no_share : (m a r : ℕ) → r < a → sum_by (λ t. share (eqb r t)) (range_with_len a m) ≡ 0
no_share zero a r h = refl
no_share (suc m) a r h = let no : eqb r a ≡ false = search (rules, tests) in rw (sum_by-cons (λ t. share (eqb r t)) a (range_with_len (a + 1) m), no) (omega (arith, no_share m (a + 1) r (omega arith)))

one_share : (m a r : ℕ) → a ≤ r → r < a + m → sum_by (λ t. share (eqb r t)) (range_with_len a m) ≡ 1
one_share zero a r h k = absurd (omega arith)
one_share (suc m) a r h k = elim (cases_eq r a) [
  | inl same ↦ (let yes : eqb r a ≡ true = search (rules, tests) in rw (sum_by-cons (λ t. share (eqb r t)) a (range_with_len (a + 1) m), yes) (omega (arith, no_share m (a + 1) r (omega arith))))
  | inr other ↦ (let no : eqb r a ≡ false = search (rules, tests) in rw (sum_by-cons (λ t. share (eqb r t)) a (range_with_len (a + 1) m), no) (omega (arith, one_share m (a + 1) r (omega arith) (omega arith))))
]

total_from : (n : ℕ) (xs : List Op) → sum_by (λ t. length (dealt_from n xs t)) (range_with_len 0 16) ≡ length xs
total_from n [] = refl
total_from n (x ∷ xs) =
    let all = sum_add (λ t. length (dealt_from n (x ∷ xs) t)) (λ t. share (eqb (n % 16) t)) (λ t. length (dealt_from (n + 1) xs t))
    (λ t. length_each (eqb (n % 16) t) n x (filter (is_dealt t) (enumerate_from (n + 1) xs))) (range_with_len 0 16) in
    omega (arith, all, one_share 16 0 (n % 16) (omega arith) (omega arith), total_from (n + 1) xs)

count_of : (ops : List Op) (ts : List ℕ) → op_count (map (storm_thread ops) ts) ≡ sum_by (λ t. length (dealt ops t)) ts
count_of ops [] = refl
count_of ops (t ∷ ts) =
    rw (sum_by-cons (λ (u : ThreadDecl). sum_by (λ (phase : List Op). length phase) u.phases) (storm_thread ops t) (map (storm_thread ops) ts), sum_by-cons (λ u. length (dealt ops u)) t ts)
    (omega (arith, count_of ops ts))

-- each operation is in one thread
pub op_count-threads : (ops : List Op) → op_count (storm_threads ops) ≡ length ops
op_count-threads ops = count_of ops (range_with_len 0 16) ∙ total_from 0 ops

pub dealt_yes : (ops : List Op) (t i : ℕ) (d : Op) (old new : List Op) → i < length ops → i % 16 ≡ t → old ≡ dealt (take i ops) t → new ≡ old ++ get_or ops i d ∷ [] → new ≡ dealt (take (i + 1) ops) t
dealt_yes ops t i d old new lt turn so_far pushed =
    let yes : eqb (i % 16) t ≡ true = search (rules, tests) in
    pushed ∙ (ap (λ (xs : List Op). xs ++ get_or ops i d ∷ []) so_far ∙ sym (dealt_more ops t i d lt ∙ ap (λ (b : Bool). dealt (take i ops) t ++ cond b (get_or ops i d ∷ []) []) yes))

pub dealt_no : (ops : List Op) (t i : ℕ) (old new : List Op) → i < length ops → (i % 16 ≡ t → ⊥) → old ≡ dealt (take i ops) t → new ≡ old → new ≡ dealt (take (i + 1) ops) t
dealt_no ops t i old new lt turn so_far same =
    let no : eqb (i % 16) t ≡ false = search (rules, tests) in
    same ∙ (so_far ∙ sym (dealt_more ops t i (op.Drop 0) lt ∙ (ap (λ (b : Bool). dealt (take i ops) t ++ cond b (get_or ops i (op.Drop 0) ∷ []) []) no ∙ append-nil (dealt (take i ops) t))))
