-- How the steps of a phase stand where no place is left: those of threads that end an operation first, and then one thread after the other.
use Rattle.std.proofs.Common.{◌≡◌, ℕ, zero, suc, ◌+◌, ◌-◌, ◌<◌, ◌≤◌, Bool, true, false, cond, not, eqb, ltb, List, [], ◌∷◌, ◌++◌, length, take, ◌⊎◌, inl, inr, refl, sym, ap, subst, ◌∙◌, arith, append-nil}
use Rattle.std.proofs.lemmas.Bool.{eqb-true, eqb-false, cases_lt}
use Rattle.std.proofs.lemmas.List.{reverse-append, append_assoc}
use Rattle.std.specs.Prelude.{◌&&◌, reverse, filter, slice_index_or, ⊤}
use Rattle.std.specs.List.{AllByRecursion}
use Rattle.arc_rule.specs.Extents.{Extent}
use Rattle.arc_script.specs.declared.script.Op.{Op}
use Rattle.arc_script.specs.OneList.{numbered}
use Rattle.arc_served.specs.Programs.{ops_in_first}
use Rattle.arc_ops.specs.Thread.{Thread}
use Rattle.arc_schedule.specs.Made.{Point, Made, own, is_of}
use Rattle.arc_schedule.specs.Orders.{is_in, is_same, steps_of, ending_of, other_of, in_access, in_turn, by_numbers}
use Rattle.arc_schedule.proofs.Lists.{equal, not-equal}
use Rattle.arc_schedule.proofs.Newest.{IsBelow}

-- ---- numbers and lists

-- the newest step, before it is turned round and behind it
pub reverse-onto : (ms left : List Made) (m : Made) → reverse (m ∷ ms) ++ left ≡ reverse ms ++ (m ∷ left)
reverse-onto ms left m = ap (λ (xs : List Made). xs ++ left) (reverse-append (m ∷ []) ms) ∙ append_assoc (reverse ms) (m ∷ []) left

-- ---- a thread's own steps, and those of a phase

pub own-other : (m : Made) (ms : List Made) (q : ℕ) → (m.point.thread ≡ q → ⊥) → own q (m ∷ ms) ≡ own q ms
own-other m ms q differ = let e : eqb m.point.thread q ≡ false = not-equal m.point.thread q differ in rw e refl

pub own-this : (m : Made) (ms : List Made) (q : ℕ) → m.point.thread ≡ q → own q (m ∷ ms) ≡ m ∷ own q ms
own-this m ms q same = let e : eqb m.point.thread q ≡ true = equal m.point.thread q same in rw e refl

pub is-in : (phase : ℕ) (m : Made) → 1 ≤ m.point.thread → m.point.phase ≡ phase → is_in phase m ≡ true
is-in phase m some same =
    let a : eqb m.point.thread 0 ≡ false = not-equal m.point.thread 0 (λ e. (let f : m.point.thread ≡ 0 = e in absurd (omega arith))) in
    let b : eqb m.point.phase phase ≡ true = equal m.point.phase phase same in
    rw (a, b) refl

-- the step is one of a later phase, or of thread 0
abbrev pub IsLater : ℕ → Made → Type 0
IsLater phase m = (m.point.thread ≡ 0) ⊎ (phase < m.point.phase)

pub is-later : (phase : ℕ) (m : Made) → IsLater phase m → is_in phase m ≡ false
is-later phase m (inl first) = let a : eqb m.point.thread 0 ≡ true = equal m.point.thread 0 first in rw a refl
is-later phase m (inr later) =
    let b : eqb m.point.phase phase ≡ false = not-equal m.point.phase phase (λ e. (let f : m.point.phase ≡ phase = e in absurd (omega arith))) in
    go (eqb m.point.thread 0) b
  where
    go : (a : Bool) → eqb m.point.phase phase ≡ false → (not a && eqb m.point.phase phase) ≡ false
    go true b = refl
    go false b = b

abbrev pub AreLater : ℕ → List Made → Type 0
AreLater phase ms = AllByRecursion (IsLater phase) ms

pub later-none : (phase : ℕ) (ms : List Made) → AreLater phase ms → filter (is_in phase) ms ≡ []
later-none phase [] h = refl
later-none phase (m ∷ ms) h = let e : is_in phase m ≡ false = is-later phase m h.0 in rw e (later-none phase ms h.1)

pub later-own : (phase p : ℕ) (ms : List Made) → AreLater phase ms → AreLater phase (own p ms)
later-own phase p [] h = tt
later-own phase p (m ∷ ms) h = go (is_of p m) (later-own phase p ms h.1)
  where
    go : (b : Bool) → AreLater phase (own p ms) → AreLater phase (cond b (m ∷ own p ms) (own p ms))
    go true rest = (h.0, rest)
    go false rest = rest

-- where there is no step of the phase, no thread has one
pub none-own : (phase q : ℕ) (ms : List Made) → filter (is_in phase) ms ≡ [] → steps_of phase q ms ≡ []
none-own phase q [] e = refl
none-own phase q (m ∷ ms) e = go (is_in phase m) refl (is_of q m) e (λ f. none-own phase q ms f)
  where
    go : (b : Bool) → is_in phase m ≡ b → (c : Bool) → cond b (m ∷ filter (is_in phase) ms) (filter (is_in phase) ms) ≡ [] → (filter (is_in phase) ms ≡ [] → steps_of phase q ms ≡ []) →
        filter (is_in phase) (cond c (m ∷ own q ms) (own q ms)) ≡ []
    go true f c e rest = absurd (cc)
    go false f true e rest = rw f (rest e)
    go false f false e rest = rest e

-- a thread without a step in the phase has none among steps of the phase
pub none-here : (phase q : ℕ) (here later : List Made) → AllByRecursion (λ m. is_in phase m ≡ true) here → steps_of phase q (here ++ later) ≡ [] → own q here ≡ []
none-here phase q [] later h e = refl
none-here phase q (m ∷ here) later h e = go (is_of q m) e (λ f. none-here phase q here later h.1 f)
  where
    go : (b : Bool) → filter (is_in phase) (cond b (m ∷ own q (here ++ later)) (own q (here ++ later))) ≡ [] → (steps_of phase q (here ++ later) ≡ [] → own q here ≡ []) → cond b (m ∷ own q here) (own q here) ≡ []
    go true e rest = let f : is_in phase m ≡ true = h.0 in let g : m ∷ filter (is_in phase) (own q (here ++ later)) ≡ [] = rw f at e in absurd (cc)
    go false e rest = rest e

-- ---- the threads in turn

pub in-turn-same : (n : ℕ) (f g : ℕ → List Made) → ((p : ℕ) → 1 ≤ p → p ≤ n → f p ≡ g p) → in_turn n f ≡ in_turn n g
in-turn-same zero f g h = refl
in-turn-same (suc n) f g h = rw (in-turn-same n f g (λ p some most. h p some (omega arith)), h (suc n) (omega arith) (omega arith)) refl

pub in-turn-none : (n : ℕ) (f : ℕ → List Made) → ((p : ℕ) → 1 ≤ p → p ≤ n → f p ≡ []) → in_turn n f ≡ []
in-turn-none zero f h = refl
in-turn-none (suc n) f h = rw (in-turn-none n f (λ p some most. h p some (omega arith)), h (suc n) (omega arith) (omega arith)) refl

-- a step of a thread below which no one has a step comes first
pub in-turn-more : (n : ℕ) (m : Made) (here : List Made) → 1 ≤ m.point.thread → m.point.thread ≤ n → ((q : ℕ) → 1 ≤ q → q < m.point.thread → own q here ≡ []) →
    in_turn n (λ q. own q (m ∷ here)) ≡ m ∷ in_turn n (λ q. own q here)
in-turn-more zero m here some most none = absurd (omega arith)
in-turn-more (suc n) m here some most none = go (cases_lt n m.point.thread) (λ below. in-turn-more n m here some below none)
  where
    go : (n < m.point.thread) ⊎ (m.point.thread ≤ n) → (m.point.thread ≤ n → in_turn n (λ q. own q (m ∷ here)) ≡ m ∷ in_turn n (λ q. own q here)) →
        in_turn n (λ q. own q (m ∷ here)) ++ own (suc n) (m ∷ here) ≡ m ∷ (in_turn n (λ q. own q here) ++ own (suc n) here)
    go (inl above) rest =
        let same : m.point.thread ≡ suc n = omega arith in
        let a : in_turn n (λ q. own q (m ∷ here)) ≡ [] =
        in-turn-none n (λ q. own q (m ∷ here)) (λ q first few. own-other m here q (λ e. (let f : m.point.thread ≡ q = e in absurd (omega arith))) ∙ none q first (omega arith)) in
        let b : in_turn n (λ q. own q here) ≡ [] = in-turn-none n (λ q. own q here) (λ q first few. none q first (omega arith)) in
        rw (a, b) (own-this m here (suc n) same)
    go (inr below) rest =
        let a = rest below in
        let b : own (suc n) (m ∷ here) ≡ own (suc n) here = own-other m here (suc n) (λ e. (let f : m.point.thread ≡ suc n = e in absurd (omega arith))) in
        rw (a, b) refl

-- the others in turn
abbrev pub but : ℕ → (ℕ → List Made) → ℕ → List Made
but p f q = cond (eqb q p) [] (f q)

pub but-it : (p : ℕ) (f : ℕ → List Made) → but p f p ≡ []
but-it p f = let e : eqb p p ≡ true = equal p p refl in rw e refl

pub but-other : (p q : ℕ) (f : ℕ → List Made) → (q ≡ p → ⊥) → but p f q ≡ f q
but-other p q f differ = let e : eqb q p ≡ false = not-equal q p differ in rw e refl

-- a thread below which no one has a step comes first
pub in-turn-front : (n p : ℕ) (f : ℕ → List Made) → 1 ≤ p → p ≤ n → ((q : ℕ) → 1 ≤ q → q < p → f q ≡ []) → in_turn n f ≡ f p ++ in_turn n (but p f)
in-turn-front zero p f some most none = absurd (omega arith)
in-turn-front (suc n) p f some most none = go (cases_lt n p) (λ below. in-turn-front n p f some below none)
  where
    go : (n < p) ⊎ (p ≤ n) → (p ≤ n → in_turn n f ≡ f p ++ in_turn n (but p f)) → in_turn n f ++ f (suc n) ≡ f p ++ (in_turn n (but p f) ++ but p f (suc n))
    go (inl above) rest =
        let same : p ≡ suc n = omega arith in
        let a : in_turn n f ≡ [] = in-turn-none n f (λ q first few. none q first (omega arith)) in
        let b : in_turn n (but p f) ≡ [] = in-turn-none n (but p f) (λ q first few. but-other p q f (λ e. (let y : q ≡ p = e in absurd (omega arith))) ∙ none q first (omega arith)) in
        let c : but p f (suc n) ≡ [] = subst (λ (q : ℕ). but p f q ≡ []) same (but-it p f) in
        let d : f p ++ [] ≡ f p = append-nil (f p) in
        rw (a, b, c, d) (ap f (sym same))
    go (inr below) rest =
        let a = rest below in
        let c : but p f (suc n) ≡ f (suc n) = but-other p (suc n) f (λ e. (let y : suc n ≡ p = e in absurd (omega arith))) in
        rw (a, c) (append_assoc (f p) (in_turn n (but p f)) (f (suc n)))

-- ---- the numbers of operations

-- the number of the operation that is under way in the phase, 0 at the end of the scope
abbrev pub op_at : List Op → ℕ → ℕ
op_at ops i = cond (ltb i (length ops)) (numbered (take (i + 1) ops)) 0

abbrev pub op_now : Thread → ℕ
op_now t = op_at (slice_index_or t.phases t.phase []) (t.index - ops_in_first t.phase t.phases)

-- an operation that comes behind, or the same one
abbrev pub IsBehind : ℕ → ℕ → Type 0
IsBehind number later = (1 ≤ number) × IsBelow number later

abbrev pub IsFrom : ℕ → ℕ → Type 0
IsFrom number later = (number ≡ later) ⊎ IsBehind number later

pub behind-from : (a b c : ℕ) → IsBehind a b → IsFrom b c → IsBehind a c
behind-from a b c h (inl same) = subst (IsBehind a) same h
behind-from a b c (some, inl last) (inr (other, below)) = absurd (omega arith)
behind-from a b c (some, inr less) (inr (other, inl last)) = (some, inl last)
behind-from a b c (some, inr less) (inr (other, inr more)) = (some, inr (omega arith))

pub from-on : (a b c : ℕ) → IsFrom a b → IsFrom b c → IsFrom a c
from-on a b c (inl same) h = subst (λ (n : ℕ). IsFrom n c) (sym same) h
from-on a b c (inr behind) h = inr (behind-from a b c behind h)

pub behind-differs : (a b : ℕ) → IsBehind a b → b ≡ a → ⊥
behind-differs a b (some, inl last) same = absurd (omega arith)
behind-differs a b (some, inr less) same = absurd (omega arith)

abbrev pub AllFrom : ℕ → List Made → Type 0
AllFrom number ms = AllByRecursion (λ m. IsFrom number m.point.operation) ms

abbrev pub AllBehind : ℕ → List Made → Type 0
AllBehind number ms = AllByRecursion (λ m. IsBehind number m.point.operation) ms

abbrev pub AreSorted : List Made → Type 0
AreSorted [] = ⊤
AreSorted (m ∷ ms) = AllFrom m.point.operation ms × AreSorted ms

pub all-from : (a b : ℕ) (ms : List Made) → IsFrom a b → AllFrom b ms → AllFrom a ms
all-from a b [] from h = tt
all-from a b (m ∷ ms) from h = (from-on a b m.point.operation from h.0, all-from a b ms from h.1)

pub all-behind : (a b : ℕ) (ms : List Made) → IsBehind a b → AllFrom b ms → AllBehind a ms
all-behind a b [] from h = tt
all-behind a b (m ∷ ms) from h = (behind-from a b m.point.operation from h.0, all-behind a b ms from h.1)

-- none of these is a step of the operation
pub none-same : (point : Point) (ms : List Made) → AllBehind point.operation ms → (filter (is_same point) ms ≡ []) × (filter (λ x. not (is_same point x)) ms ≡ ms)
none-same point [] h = (refl, refl)
none-same point (m ∷ ms) h =
    let rest = none-same point ms h.1 in
    let e : eqb m.point.operation point.operation ≡ false = not-equal m.point.operation point.operation (behind-differs point.operation m.point.operation h.0) in
    let f : is_same point m ≡ false = rw e (none (eqb m.point.phase point.phase)) in
    let a = rest.0 in
    let b = rest.1 in
    (rw (f, a) refl, rw (f, b) refl)
  where
    none : (b : Bool) → (b && false) ≡ false
    none true = refl
    none false = refl

abbrev pub AllOf : ℕ → List Made → Type 0
AllOf phase ms = AllByRecursion (λ m. m.point.phase ≡ phase) ms

-- the steps of the operation come first, and then those behind it
pub grouped : (point : Point) (ms : List Made) → AllOf point.phase ms → AllFrom point.operation ms → AreSorted ms → filter (is_same point) ms ++ filter (λ x. not (is_same point x)) ms ≡ ms
grouped point [] phase from sorted = refl
grouped point (m ∷ ms) phase from sorted = go from.0 (grouped point ms phase.1 from.1 sorted.1)
  where
    go : IsFrom point.operation m.point.operation → filter (is_same point) ms ++ filter (λ x. not (is_same point x)) ms ≡ ms →
        filter (is_same point) (m ∷ ms) ++ filter (λ x. not (is_same point x)) (m ∷ ms) ≡ m ∷ ms
    go (inl same) rest =
        let a : eqb m.point.phase point.phase ≡ true = equal m.point.phase point.phase phase.0 in
        let b : eqb m.point.operation point.operation ≡ true = equal m.point.operation point.operation (sym same) in
        rw (a, b) (ap (λ (xs : List Made). m ∷ xs) rest)
    go (inr behind) rest =
        let h = none-same point (m ∷ ms) (behind, all-behind point.operation m.point.operation ms behind sorted.0) in
        let a = h.0 in
        let b = h.1 in
        rw (a, b) refl

-- where the thread's newest step is one of the operation that is under way
pub whole-here : (inside : Bool) (m : Made) (ms left : List Made) → AllOf m.point.phase left → AllFrom m.point.operation left → AreSorted left → ending_of inside (m ∷ ms) left ++ other_of inside (m ∷ ms) left ≡ left
whole-here true m ms left phase from sorted = grouped m.point left phase from sorted
whole-here false m ms left phase from sorted = refl

-- where it is one of an operation before
pub apart-here : (inside : Bool) (m : Made) (ms left : List Made) → AllBehind m.point.operation left → (ending_of inside (m ∷ ms) left ≡ []) × (other_of inside (m ∷ ms) left ≡ left)
apart-here true m ms left behind = none-same m.point left behind
apart-here false m ms left behind = (refl, refl)

-- ---- how the steps of a phase stand where no place is left

-- a thread that ends its operation stands before the others, where there is one
abbrev pub ended_before : Extent → ℕ → (ms here : List Made) → ℕ → List Made
ended_before l p ms here q = ending_of (in_access l (own q ms)) (own q ms) (own q here)

abbrev pub others_of : Extent → ℕ → (ms here : List Made) → ℕ → List Made
others_of l p ms here q = other_of (cond (eqb q p) true (in_access l (own q ms))) (own q ms) (own q here)

-- the same where none does
abbrev pub ending_in : Extent → (ms here : List Made) → ℕ → List Made
ending_in l ms here q = ending_of (in_access l (own q ms)) (own q ms) (own q here)

abbrev pub other_in : Extent → (ms here : List Made) → ℕ → List Made
other_in l ms here q = other_of (in_access l (own q ms)) (own q ms) (own q here)

abbrev pub own_in : (here : List Made) → ℕ → List Made
own_in here q = own q here

abbrev pub arrangement : Extent → (n ending : ℕ) → (ms here : List Made) → List Made
arrangement l n zero ms here = by_numbers l n ms here
arrangement l n (suc e) ms here =
    ending_of true (own (suc e) ms) (own (suc e) here) ++ (in_turn n (but (suc e) (ended_before l (suc e) ms here)) ++ in_turn n (others_of l (suc e) ms here))

abbrev pub AreOutside : Extent → ℕ → List Made → (ℕ → Type 0) → Type 0
AreOutside l n ms P = (q : ℕ) → 1 ≤ q → q ≤ n → P q → in_access l (own q ms) ≡ false

abbrev pub IsNot : ℕ → ℕ → Type 0
IsNot p q = q ≡ p → ⊥

-- no other thread is inside an access, and no thread below has a step: the threads stand in turn
pub numbers-in-turn : (l : Extent) (n p : ℕ) (ms here : List Made) → 1 ≤ p → p ≤ n → AreOutside l n ms (IsNot p) → ((q : ℕ) → 1 ≤ q → q < p → own q here ≡ []) →
    ending_of (in_access l (own p ms)) (own p ms) (own p here) ++ other_of (in_access l (own p ms)) (own p ms) (own p here) ≡ own p here → by_numbers l n ms here ≡ in_turn n (λ q. own q here)
numbers-in-turn l n p ms here some most outside none whole = ap (λ (xs : List Made). xs ++ in_turn n (other_in l ms here)) first ∙ ap (λ (xs : List Made). (ending_in l ms here p ++ []) ++ xs) second ∙ sum ∙ sym third
  where
    away : (q : ℕ) → 1 ≤ q → q ≤ n → (q ≡ p → ⊥) → (ending_in l ms here q ≡ []) × (other_in l ms here q ≡ own_in here q)
    away q first few differ = let e : in_access l (own q ms) ≡ false = outside q first few differ in (rw e refl, rw e refl)

    below : (q : ℕ) → q < p → q ≡ p → ⊥
    below q less e = let y : q ≡ p = e in absurd (omega arith)

    first : in_turn n (ending_in l ms here) ≡ ending_in l ms here p ++ []
    first =
        in-turn-front n p (ending_in l ms here) some most (λ q one less. (away q one (omega arith) (below q less)).0) ∙
        ap (λ (xs : List Made). ending_in l ms here p ++ xs) (in-turn-none n (but p (ending_in l ms here)) (λ q one few. at q one few (eqb q p) refl))
      where
        at : (q : ℕ) → 1 ≤ q → q ≤ n → (b : Bool) → eqb q p ≡ b → cond (eqb q p) [] (ending_in l ms here q) ≡ []
        at q one few true e = rw e refl
        at q one few false e = let f = (away q one few (eqb-false q p e)).0 in rw (e, f) refl

    second : in_turn n (other_in l ms here) ≡ other_in l ms here p ++ in_turn n (but p (own_in here))
    second =
        in-turn-front n p (other_in l ms here) some most (λ q one less. (away q one (omega arith) (below q less)).1 ∙ none q one less) ∙
        ap (λ (xs : List Made). other_in l ms here p ++ xs) (in-turn-same n (but p (other_in l ms here)) (but p (own_in here)) (λ q one few. at q one few (eqb q p) refl))
      where
        at : (q : ℕ) → 1 ≤ q → q ≤ n → (b : Bool) → eqb q p ≡ b → cond (eqb q p) [] (other_in l ms here q) ≡ cond (eqb q p) [] (own_in here q)
        at q one few true e = rw e refl
        at q one few false e = let f = (away q one few (eqb-false q p e)).1 in rw (e, f) refl

    third : in_turn n (own_in here) ≡ own_in here p ++ in_turn n (but p (own_in here))
    third = in-turn-front n p (own_in here) some most (λ q one less. none q one less)

    sum : (ending_in l ms here p ++ []) ++ (other_in l ms here p ++ in_turn n (but p (own_in here))) ≡ own_in here p ++ in_turn n (but p (own_in here))
    sum = let a = append-nil (ending_in l ms here p) in rw a (sym (append_assoc (ending_in l ms here p) (other_in l ms here p) (in_turn n (but p (own_in here)))) ∙ ap (λ (xs : List Made). xs ++ in_turn n (but p (own_in here))) whole)

-- the first thread inside an access is to end its operation
pub numbers-inside : (l : Extent) (n e : ℕ) (ms here : List Made) → suc e ≤ n → AreOutside l n ms (λ q. q < suc e) → in_access l (own (suc e) ms) ≡ true → by_numbers l n ms here ≡ arrangement l n (suc e) ms here
numbers-inside l n e ms here most outside inside =
    ap (λ (xs : List Made). xs ++ in_turn n (other_in l ms here)) front ∙ append_assoc (ending_of true (own (suc e) ms) (own (suc e) here)) (in_turn n (but (suc e) (ending_in l ms here))) (in_turn n (other_in l ms here)) ∙
    ap (λ (xs : List Made). ending_of true (own (suc e) ms) (own (suc e) here) ++ (in_turn n (but (suc e) (ending_in l ms here)) ++ xs)) (in-turn-same n (other_in l ms here) (others_of l (suc e) ms here) (λ q one few. at q (eqb q (suc e)) refl))
  where
    front : in_turn n (ending_in l ms here) ≡ ending_of true (own (suc e) ms) (own (suc e) here) ++ in_turn n (but (suc e) (ending_in l ms here))
    front =
        in-turn-front n (suc e) (ending_in l ms here) (omega arith) most (λ q one less. (let f : in_access l (own q ms) ≡ false = outside q one (omega arith) less in rw f refl)) ∙
        ap (λ (b : Bool). ending_of b (own (suc e) ms) (own (suc e) here) ++ in_turn n (but (suc e) (ending_in l ms here))) inside

    at : (q : ℕ) (b : Bool) → eqb q (suc e) ≡ b → other_in l ms here q ≡ others_of l (suc e) ms here q
    at q true f =
        let same : q ≡ suc e = eqb-true q (suc e) f in
        let i : in_access l (own q ms) ≡ true = ap (λ (x : ℕ). in_access l (own x ms)) same ∙ inside in
        rw (f, i) refl
    at q false f = rw f refl

-- its operation is over
pub numbers-outside : (l : Extent) (n e : ℕ) (m : Made) (rest ms here : List Made) → own (suc e) ms ≡ m ∷ rest → AllBehind m.point.operation (own (suc e) here) → arrangement l n (suc e) ms here ≡ by_numbers l n ms here
numbers-outside l n e m rest ms here own_is behind =
    ap (λ (xs : List Made). xs ++ (in_turn n (but (suc e) (ended_before l (suc e) ms here)) ++ in_turn n (others_of l (suc e) ms here))) nothing ∙
    ap (λ (xs : List Made). xs ++ in_turn n (others_of l (suc e) ms here)) (in-turn-same n (but (suc e) (ended_before l (suc e) ms here)) (ending_in l ms here) (λ q one few. first q (eqb q (suc e)) refl)) ∙
    ap (λ (xs : List Made). in_turn n (ending_in l ms here) ++ xs) (in-turn-same n (others_of l (suc e) ms here) (other_in l ms here) (λ q one few. second q (eqb q (suc e)) refl))
  where
    its : (b : Bool) → (ending_of b (own (suc e) ms) (own (suc e) here) ≡ []) × (other_of b (own (suc e) ms) (own (suc e) here) ≡ own (suc e) here)
    its b = rw own_is (apart-here b m rest (own (suc e) here) behind)

    nothing : ending_of true (own (suc e) ms) (own (suc e) here) ≡ []
    nothing = (its true).0

    first : (q : ℕ) (b : Bool) → eqb q (suc e) ≡ b → but (suc e) (ended_before l (suc e) ms here) q ≡ ending_in l ms here q
    first q true f =
        let same : q ≡ suc e = eqb-true q (suc e) f in
        let none : ending_in l ms here q ≡ [] = subst (λ (x : ℕ). ending_of (in_access l (own x ms)) (own x ms) (own x here) ≡ []) (sym same) (its (in_access l (own (suc e) ms))).0 in
        rw f (sym none)
    first q false f = rw f refl

    second : (q : ℕ) (b : Bool) → eqb q (suc e) ≡ b → others_of l (suc e) ms here q ≡ other_in l ms here q
    second q true f =
        let same : q ≡ suc e = eqb-true q (suc e) f in
        let one : other_of true (own q ms) (own q here) ≡ own q here = subst (λ (x : ℕ). other_of true (own x ms) (own x here) ≡ own x here) (sym same) (its true).1 in
        let two : other_of (in_access l (own q ms)) (own q ms) (own q here) ≡ own q here = subst (λ (x : ℕ). other_of (in_access l (own x ms)) (own x ms) (own x here) ≡ own x here) (sym same) (its (in_access l (own (suc e) ms))).1 in
        rw f (one ∙ sym two)
    second q false f = rw f refl

-- the operation has a step more
pub numbers-step : (l : Extent) (n e : ℕ) (m newest : Made) (rest ms here : List Made) → m.point.thread ≡ suc e → own (suc e) ms ≡ newest ∷ rest → m.point.phase ≡ newest.point.phase → m.point.operation ≡ newest.point.operation →
    m ∷ arrangement l n (suc e) (m ∷ ms) here ≡ arrangement l n (suc e) ms (m ∷ here)
numbers-step l n e m newest rest ms here thread own_is phase number =
    ap (λ (xs : List Made). m ∷ (xs ++ (in_turn n (but (suc e) (ended_before l (suc e) (m ∷ ms) here)) ++ in_turn n (others_of l (suc e) (m ∷ ms) here)))) its.0 ∙
    ap (λ (xs : List Made). xs ++ (in_turn n (but (suc e) (ended_before l (suc e) (m ∷ ms) here)) ++ in_turn n (others_of l (suc e) (m ∷ ms) here))) more.0 ∙
    ap (λ (xs : List Made). ending_of true (own (suc e) ms) (own (suc e) (m ∷ here)) ++ (xs ++ in_turn n (others_of l (suc e) (m ∷ ms) here)))
    (in-turn-same n (but (suc e) (ended_before l (suc e) (m ∷ ms) here)) (but (suc e) (ended_before l (suc e) ms (m ∷ here))) (λ q one few. first q (eqb q (suc e)) refl)) ∙
    ap (λ (xs : List Made). ending_of true (own (suc e) ms) (own (suc e) (m ∷ here)) ++ (in_turn n (but (suc e) (ended_before l (suc e) ms (m ∷ here))) ++ xs))
    (in-turn-same n (others_of l (suc e) (m ∷ ms) here) (others_of l (suc e) ms (m ∷ here)) (λ q one few. second q (eqb q (suc e)) refl))
  where
    same-as : (x : Made) → is_same m.point x ≡ is_same newest.point x
    same-as x = rw (phase, number) refl

    same-filter : (xs : List Made) → (filter (is_same m.point) xs ≡ filter (is_same newest.point) xs) × (filter (λ x. not (is_same m.point x)) xs ≡ filter (λ x. not (is_same newest.point x)) xs)
    same-filter [] = (refl, refl)
    same-filter (x ∷ xs) =
        let h = same-filter xs in
        let a = h.0 in
        let b = h.1 in
        let c = same-as x in
        (rw (c, a) refl, rw (c, b) refl)

    is : is_same newest.point m ≡ true
    is =
        let a : eqb m.point.phase newest.point.phase ≡ true = equal m.point.phase newest.point.phase phase in
        let b : eqb m.point.operation newest.point.operation ≡ true = equal m.point.operation newest.point.operation number in
        rw (a, b) refl

    this : (xs : List Made) → own (suc e) (m ∷ xs) ≡ m ∷ own (suc e) xs
    this xs = own-this m xs (suc e) thread

    its : (ending_of true (own (suc e) (m ∷ ms)) (own (suc e) here) ≡ filter (is_same newest.point) (own (suc e) here)) × (other_of true (own (suc e) (m ∷ ms)) (own (suc e) here) ≡ filter (λ x. not (is_same newest.point x)) (own (suc e) here))
    its = let t = this ms in rw t (same-filter (own (suc e) here))

    more : (m ∷ filter (is_same newest.point) (own (suc e) here) ≡ ending_of true (own (suc e) ms) (own (suc e) (m ∷ here))) × (filter (λ x. not (is_same newest.point x)) (own (suc e) here) ≡ other_of true (own (suc e) ms) (own (suc e) (m ∷ here)))
    more = let t = this here in rw (t, own_is) (rw is refl, rw is refl)

    other : (q : ℕ) → eqb q (suc e) ≡ false → (xs : List Made) → own q (m ∷ xs) ≡ own q xs
    other q f xs = own-other m xs q (λ z. eqb-false q (suc e) f (sym z ∙ thread))

    first : (q : ℕ) (b : Bool) → eqb q (suc e) ≡ b → but (suc e) (ended_before l (suc e) (m ∷ ms) here) q ≡ but (suc e) (ended_before l (suc e) ms (m ∷ here)) q
    first q true f = rw f refl
    first q false f = let a = other q f ms in let b = other q f here in rw (f, a, b) refl

    second : (q : ℕ) (b : Bool) → eqb q (suc e) ≡ b → others_of l (suc e) (m ∷ ms) here q ≡ others_of l (suc e) ms (m ∷ here) q
    second q true f =
        let same : q ≡ suc e = eqb-true q (suc e) f in
        rw f (subst (λ (x : ℕ). other_of true (own x (m ∷ ms)) (own x here) ≡ other_of true (own x ms) (own x (m ∷ here))) (sym same) (its.1 ∙ more.1))
    second q false f = let a = other q f ms in let b = other q f here in rw (f, a, b) refl

-- nothing is to come in the phase
pub nothing-here : (l : Extent) (n : ℕ) (ms : List Made) → by_numbers l n ms [] ≡ []
nothing-here l n ms =
    let a : in_turn n (ending_in l ms []) ≡ [] = in-turn-none n (ending_in l ms []) (λ q one few. (none (in_access l (own q ms)) (own q ms)).0) in
    let b : in_turn n (other_in l ms []) ≡ [] = in-turn-none n (other_in l ms []) (λ q one few. (none (in_access l (own q ms)) (own q ms)).1) in
    rw (a, b) refl
  where
    none : (b : Bool) (xs : List Made) → (ending_of b xs [] ≡ []) × (other_of b xs [] ≡ [])
    none false xs = (refl, refl)
    none true [] = (refl, refl)
    none true (x ∷ xs) = (refl, refl)
