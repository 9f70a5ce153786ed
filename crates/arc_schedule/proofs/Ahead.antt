-- The steps that are still to come stand in the order of the phases and the schedule, and so do those with the step before.
use Rattle.std.proofs.Common.{◌≡◌, ℕ, zero, suc, ◌+◌, ◌-◌, ◌<◌, ◌≤◌, Bool, true, false, cond, eqb, List, [], ◌∷◌, ◌++◌, length, set, Some, ◌⊎◌, inl, inr, refl, sym, ap, subst, ◌∙◌, arith}
use Rattle.std.proofs.lemmas.Bool.{eqb-true, eqb-false}
use Rattle.std.proofs.lemmas.List.Elements.{All-from_recursion}
use Rattle.std.specs.Prelude.{slice_get, reverse, filter}
use Rattle.std.specs.List.{AllByRecursion}
use Rattle.arc_rule.specs.Extents.{Extent}
use Rattle.arc_rule.specs.Places.{extent_of}
use Rattle.arc_script.specs.declared.script.Script.{Script}
use Rattle.arc_ops.specs.Thread.{Thread}
use Rattle.arc_replays.specs.Stages.{Stage, has_step, awaits_phase, IsSome, IsNone, IsNoneBelow}
use Rattle.arc_schedule.specs.Made.{Made, own, is_of}
use Rattle.arc_schedule.specs.Orders.{is_in, steps_of, ending_of, other_of, in_access, in_turn, InOrder}
use Rattle.arc_schedule.specs.Orders.InOrder.{makes, passes, next_phase, runs_out, ends}
use Rattle.arc_schedule.proofs.Lists.{there-is, get-other}
use Rattle.arc_schedule.proofs.Arranged.{reverse-onto, own-other, own-this, is-in, IsLater, AreLater, later-none, later-own, none-own, none-here, in-turn-more, op_now, IsBehind, IsFrom, AllFrom, AllBehind, AllOf, AreSorted, all-from, all-behind, whole-here, nothing-here, arrangement, AreOutside, IsNot, numbers-in-turn, numbers-inside, numbers-outside, numbers-step}

-- ---- the order of the steps to come

-- Where no place is left, the steps of the phase stand by the numbers of their threads, those of a thread that ends its operation first. The
-- operations of each thread come in order, from the one that is under way on.
pub record RunsOut (l : Extent) (n phase ending : ℕ) (threads : List Thread) (ms left : List Made) : Type 0 where
  pub here : List Made
  pub later : List Made
  pub left_is : left ≡ here ++ later
  pub all_in : AllByRecursion (λ m. is_in phase m ≡ true) here
  pub all_of : AllByRecursion (λ m. m.point.phase ≡ phase) here
  pub none : filter (is_in phase) later ≡ []
  pub sorted : (p : ℕ) → 1 ≤ p → AreSorted (own p here)
  pub behind : (p : ℕ) (t : Thread) → 1 ≤ p → slice_get threads p ≡ Some t → has_step t ≡ true → AllFrom (op_now t) (own p here)
  pub arranged : here ≡ arrangement l n ending ms here
  pub rest : InOrder l n (phase + 1) [] (reverse here ++ ms) later

abbrev pub OrderFor : Extent → (n phase ending : ℕ) → List Thread → (places : List ℕ) → (ms left : List Made) → Type 0
OrderFor l n phase ending threads [] ms left = RunsOut l n phase ending threads ms left
OrderFor l n phase ending threads (p ∷ places) ms left = InOrder l n phase (p ∷ places) ms left

pub order-in : (l : Extent) (n phase : ℕ) (threads : List Thread) (places : List ℕ) (ms left : List Made) → OrderFor l n phase 0 threads places ms left → InOrder l n phase places ms left
order-in l n phase threads [] ms left r = runs_out r.here r.later r.left_is (All-from_recursion (λ m. is_in phase m ≡ true) r.here r.all_in) r.none r.arranged r.rest
order-in l n phase threads (p ∷ places) ms left o = o

-- the step is of a phase that isn't over, or of thread 0
abbrev pub IsToCome : ℕ → Made → Type 0
IsToCome begun m = (m.point.thread ≡ 0) ⊎ (begun ≤ m.point.phase + 1)

-- What is to come from a stage on, where these steps were made: a thread has a step in the phase just where it asks for one, all are of this phase,
-- of later ones or of thread 0, and they stand in order.
pub record IsAhead (script : Script) (ending : ℕ) (s : Stage) (ms left : List Made) : Type 0 where
  pub later : AllByRecursion (IsToCome s.begun) left
  pub none : (p : ℕ) (t : Thread) → 1 ≤ p → slice_get s.threads p ≡ Some t → has_step t ≡ false → 1 ≤ s.begun → steps_of (s.begun - 1) p left ≡ []
  pub some : (p : ℕ) (t : Thread) → 1 ≤ p → slice_get s.threads p ≡ Some t → has_step t ≡ true → steps_of (s.begun - 1) p left ≡ [] → ⊥
  -- once thread 0 has begun, all are its own
  pub last : (t : Thread) → slice_get s.threads 0 ≡ Some t → awaits_phase t ≡ false → AllByRecursion (λ m. m.point.thread ≡ 0) left
  pub order : OrderFor (extent_of script.shape) (length script.threads) (s.begun - 1) ending s.threads s.places ms left

-- ---- backwards, from the stage behind to the stage before

-- a step that thread p makes in the phase, and what the thread is behind it; thread 0 hasn't begun
pub record MadeBy (script : Script) (s : Stage) (p : ℕ) (t new : Thread) (m : Made) : Type 0 where
  pub other : 1 ≤ p
  pub there : slice_get s.threads p ≡ Some t
  pub has : has_step t ≡ true
  pub thread : m.point.thread ≡ p
  pub phase : m.point.phase + 1 ≡ s.begun
  pub few : p ≤ length script.threads
  pub number : m.point.operation ≡ op_now t
  pub on : has_step new ≡ true → IsFrom (op_now t) (op_now new)
  pub waits : (u : Thread) → slice_get s.threads 0 ≡ Some u → awaits_phase u ≡ true

in-phase : (script : Script) (s : Stage) (p : ℕ) (t new : Thread) (m : Made) → MadeBy script s p t new m → is_in (s.begun - 1) m ≡ true
in-phase script s p t new m h = let a = h.other in let b = h.thread in let c = h.phase in is-in (s.begun - 1) m (omega arith) (omega arith)

step-none : (script : Script) (s : Stage) (p : ℕ) (t new : Thread) (m : Made) (left : List Made) → MadeBy script s p t new m →
    ((q : ℕ) (u : Thread) → 1 ≤ q → slice_get (set s.threads p new) q ≡ Some u → has_step u ≡ false → 1 ≤ s.begun → steps_of (s.begun - 1) q left ≡ []) →
    (q : ℕ) (u : Thread) → 1 ≤ q → slice_get s.threads q ≡ Some u → has_step u ≡ false → 1 ≤ s.begun → steps_of (s.begun - 1) q (m ∷ left) ≡ []
step-none script s p t new m left h none q u first there has some =
    ap (λ (ms : List Made). filter (is_in (s.begun - 1)) ms) (own-other m left q (λ e. differ (sym h.thread ∙ e))) ∙ none q u first (get-other s.threads p q new differ ∙ there) has some
  where
    differ : p ≡ q → ⊥
    differ e =
        let same : Some t ≡ Some u = sym h.there ∙ ap (λ (n : ℕ). slice_get s.threads n) e ∙ there in
        let is : t ≡ u = cc in
        let a : has_step u ≡ true = subst (λ (x : Thread). has_step x ≡ true) is h.has in
        absurd (cc)

step-some : (script : Script) (s : Stage) (p : ℕ) (t new : Thread) (m : Made) (left : List Made) → MadeBy script s p t new m →
    ((q : ℕ) (u : Thread) → 1 ≤ q → slice_get (set s.threads p new) q ≡ Some u → has_step u ≡ true → steps_of (s.begun - 1) q left ≡ [] → ⊥) →
    (q : ℕ) (u : Thread) → 1 ≤ q → slice_get s.threads q ≡ Some u → has_step u ≡ true → steps_of (s.begun - 1) q (m ∷ left) ≡ [] → ⊥
step-some script s p t new m left h some q u first there has e = go (eqb p q) refl
  where
    go : (b : Bool) → eqb p q ≡ b → ⊥
    go true f =
        let same : p ≡ q = eqb-true p q f in
        let a : own q (m ∷ left) ≡ m ∷ own q left = own-this m left q (h.thread ∙ same) in
        let b : filter (is_in (s.begun - 1)) (m ∷ own q left) ≡ [] = ap (λ (ms : List Made). filter (is_in (s.begun - 1)) ms) (sym a) ∙ e in
        let c : is_in (s.begun - 1) m ≡ true = in-phase script s p t new m h in
        let d : m ∷ filter (is_in (s.begun - 1)) (own q left) ≡ [] = rw c at b in
        absurd (cc)
    go false f =
        let differ : p ≡ q → ⊥ = eqb-false p q f in
        some q u first (get-other s.threads p q new differ ∙ there) has
        (ap (λ (ms : List Made). filter (is_in (s.begun - 1)) ms) (sym (own-other m left q (λ z. differ (sym h.thread ∙ z)))) ∙ e)

step-later : (script : Script) (s : Stage) (p : ℕ) (t new : Thread) (m : Made) → MadeBy script s p t new m → IsToCome s.begun m
step-later script s p t new m h = let e = h.phase in inr (omega arith)

-- thread 0 hasn't begun
step-last : (script : Script) (s : Stage) (p : ℕ) (t new : Thread) (m : Made) (left : List Made) → MadeBy script s p t new m →
    (u : Thread) → slice_get s.threads 0 ≡ Some u → awaits_phase u ≡ false → AllByRecursion (λ m. m.point.thread ≡ 0) (m ∷ left)
step-last script s p t new m left h u there e = let f = h.waits u there in absurd (cc)

-- what holds of the stage behind, said of the stage before
abbrev pub IsStepped : (s after : Stage) (p : ℕ) (new : Thread) (places : List ℕ) → Type 0
IsStepped s after p new places = (after.begun ≡ s.begun) × (after.places ≡ places) × (after.threads ≡ set s.threads p new)

moved : (s after : Stage) (p : ℕ) (new : Thread) (places : List ℕ) → IsStepped s after p new places → (P : ℕ → List ℕ → List Thread → Type 0) → P after.begun after.places after.threads → P s.begun places (set s.threads p new)
moved s after p new places same P x =
    subst (λ (ts : List Thread). P s.begun places ts) same.2 (subst (λ (ps : List ℕ). P s.begun ps after.threads) same.1 (subst (λ (n : ℕ). P n after.places after.threads) same.0 x))

-- all but the order
step-ahead : (script : Script) (ending : ℕ) (s : Stage) (p : ℕ) (places : List ℕ) (t new : Thread) (m : Made) (ms left : List Made) → MadeBy script s p t new m → (after : Stage) → IsStepped s after p new places → IsAhead script ending after (m ∷ ms) left →
    OrderFor (extent_of script.shape) (length script.threads) (s.begun - 1) ending s.threads s.places ms (m ∷ left) → IsAhead script ending s ms (m ∷ left)
step-ahead script ending s p places t new m ms left h after same a order = record {
  later = (step-later script s p t new m h, subst (λ (n : ℕ). AllByRecursion (IsToCome n) left) same.0 a.later);
  none = step-none script s p t new m left h
      (moved s after p new places same (λ n ps ts. (q : ℕ) (u : Thread) → 1 ≤ q → slice_get ts q ≡ Some u → has_step u ≡ false → 1 ≤ n → steps_of (n - 1) q left ≡ []) a.none);
  some = step-some script s p t new m left h (moved s after p new places same (λ n ps ts. (q : ℕ) (u : Thread) → 1 ≤ q → slice_get ts q ≡ Some u → has_step u ≡ true → steps_of (n - 1) q left ≡ [] → ⊥) a.some);
  last = step-last script s p t new m left h;
  order = order;
}

-- the next place is that of the thread that makes the step
pub ahead-makes : (script : Script) (s : Stage) (p : ℕ) (places : List ℕ) (t new : Thread) (m : Made) (ms left : List Made) → s.places ≡ p ∷ places →
    MadeBy script s p t new m → (after : Stage) → IsStepped s after p new places → IsAhead script 0 after (m ∷ ms) left → IsAhead script 0 s ms (m ∷ left)
ahead-makes script s p places t new m ms left place h after same a =
    step-ahead script 0 s p places t new m ms left h after same a
    (rw place (subst (λ (q : ℕ). InOrder (extent_of script.shape) (length script.threads) (s.begun - 1) (q ∷ places) ms (m ∷ left)) h.thread
    (makes m (in-phase script s p t new m h) (order-in (extent_of script.shape) (length script.threads) (s.begun - 1) (set s.threads p new) places (m ∷ ms) left
    (moved s after p new places same (λ n ps ts. OrderFor (extent_of script.shape) (length script.threads) (n - 1) 0 ts ps (m ∷ ms) left) a.order)))))

-- ---- where no place is left

-- a phase of these steps
own-of : (phase p : ℕ) (ms : List Made) → AllOf phase ms → AllOf phase (own p ms)
own-of phase p [] h = tt
own-of phase p (m ∷ ms) h = go (is_of p m) (own-of phase p ms h.1)
  where
    go : (b : Bool) → AllOf phase (own p ms) → AllOf phase (cond b (m ∷ own p ms) (own p ms))
    go true rest = (h.0, rest)
    go false rest = rest

-- the steps that the thread makes behind this one are of its operation or of later ones
next-from : (script : Script) (ending : ℕ) (s : Stage) (p : ℕ) (t new : Thread) (m : Made) (ms left : List Made) → MadeBy script s p t new m →
    ((q : ℕ) (u : Thread) → 1 ≤ q → slice_get (set s.threads p new) q ≡ Some u → has_step u ≡ false → 1 ≤ s.begun → steps_of (s.begun - 1) q left ≡ []) → length s.threads ≡ length script.threads + 1 →
    (r : RunsOut (extent_of script.shape) (length script.threads) (s.begun - 1) ending (set s.threads p new) (m ∷ ms) left) → AllFrom (op_now t) (own p r.here)
next-from script ending s p t new m ms left h none many r = go (has_step new) refl
  where
    there : slice_get (set s.threads p new) p ≡ Some new
    there = got s.threads p (let a = h.few in let b = many in omega arith)
      where
        got : (ts : List Thread) (p : ℕ) → p < length ts → slice_get (set ts p new) p ≡ Some new
        got [] p less = absurd (omega arith)
        got (x ∷ ts) zero less = refl
        got (x ∷ ts) (suc p) less = got ts p (omega arith)

    go : (b : Bool) → has_step new ≡ b → AllFrom (op_now t) (own p r.here)
    go true e = all-from (op_now t) (op_now new) (own p r.here) (h.on e) (r.behind p new h.other there e)
    go false e =
        let begun : 1 ≤ s.begun = let c = h.phase in omega arith in
        let nothing : own p r.here ≡ [] = none-here (s.begun - 1) p r.here r.later r.all_in (ap (λ (xs : List Made). steps_of (s.begun - 1) p xs) (sym r.left_is) ∙ none p new h.other there e begun) in
        rw nothing tt

-- the step stands before those of its phase
runs-on : (script : Script) (ending : ℕ) (s : Stage) (p : ℕ) (t new : Thread) (m : Made) (ms left : List Made) → MadeBy script s p t new m →
    (r : RunsOut (extent_of script.shape) (length script.threads) (s.begun - 1) ending (set s.threads p new) (m ∷ ms) left) → AllFrom (op_now t) (own p r.here) →
    m ∷ r.here ≡ arrangement (extent_of script.shape) (length script.threads) ending ms (m ∷ r.here) →
    RunsOut (extent_of script.shape) (length script.threads) (s.begun - 1) ending s.threads ms (m ∷ left)
runs-on script ending s p t new m ms left h r from arranged = record {
  here = m ∷ r.here;
  later = r.later;
  left_is = ap (λ (xs : List Made). m ∷ xs) r.left_is;
  all_in = (in-phase script s p t new m h, r.all_in);
  all_of = (let c = h.phase in omega arith, r.all_of);
  none = r.none;
  sorted = λ q some. sorted q some (eqb p q) refl;
  behind = λ q u some there has. behind q u some there has (eqb p q) refl;
  arranged = arranged;
  rest = subst (λ (xs : List Made). InOrder (extent_of script.shape) (length script.threads) (s.begun - 1 + 1) [] xs r.later) (sym (reverse-onto r.here ms m)) r.rest;
}
  where
    this : own p (m ∷ r.here) ≡ m ∷ own p r.here
    this = own-this m r.here p h.thread

    other : (q : ℕ) → eqb p q ≡ false → own q (m ∷ r.here) ≡ own q r.here
    other q e = own-other m r.here q (λ z. eqb-false p q e (sym h.thread ∙ z))

    sorted : (q : ℕ) → 1 ≤ q → (b : Bool) → eqb p q ≡ b → AreSorted (own q (m ∷ r.here))
    sorted q some true e =
        let same : p ≡ q = eqb-true p q e in
        subst (λ (x : ℕ). AreSorted (own x (m ∷ r.here))) same
        (subst AreSorted (sym this) (subst (λ (n : ℕ). AllFrom n (own p r.here)) (sym h.number) from, r.sorted p h.other))
    sorted q some false e = subst AreSorted (sym (other q e)) (r.sorted q some)

    behind : (q : ℕ) (u : Thread) → 1 ≤ q → slice_get s.threads q ≡ Some u → has_step u ≡ true → (b : Bool) → eqb p q ≡ b → AllFrom (op_now u) (own q (m ∷ r.here))
    behind q u some there has true e =
        let same : p ≡ q = eqb-true p q e in
        let threads : Some t ≡ Some u = sym h.there ∙ ap (λ (n : ℕ). slice_get s.threads n) same ∙ there in
        let is : t ≡ u = cc in
        subst (λ (v : Thread). AllFrom (op_now v) (own q (m ∷ r.here))) is
        (subst (λ (x : ℕ). AllFrom (op_now t) (own x (m ∷ r.here))) same (subst (AllFrom (op_now t)) (sym this) (inl (sym h.number), from)))
    behind q u some there has false e =
        subst (AllFrom (op_now u)) (sym (other q e)) (r.behind q u some (get-other s.threads p q new (eqb-false p q e) ∙ there) has)

-- where a thread is inside an access, its newest step is one of the operation under way
abbrev pub IsNewest : ℕ → (phase number : ℕ) → List Made → Type 0
IsNewest p phase number ms = (m : Made) × (rest : List Made) × (own p ms ≡ m ∷ rest) × (m.point.phase ≡ phase) × (m.point.operation ≡ number)

-- no place is left, no thread below has a step, and no other is inside an access
pub ahead-by-number : (script : Script) (s : Stage) (p : ℕ) (t new : Thread) (m : Made) (ms left : List Made) → s.places ≡ [] → IsNoneBelow p has_step s.threads → MadeBy script s p t new m →
    AreOutside (extent_of script.shape) (length script.threads) ms (IsNot p) → (in_access (extent_of script.shape) (own p ms) ≡ true → IsNewest p (s.begun - 1) (op_now t) ms) →
    (after : Stage) → IsStepped s after p new [] → length s.threads ≡ length script.threads + 1 → IsAhead script 0 after (m ∷ ms) left → IsAhead script 0 s ms (m ∷ left)
ahead-by-number script s p t new m ms left place below h outside newest after same many a = step-ahead script 0 s p [] t new m ms left h after same a (rw place (runs-on script 0 s p t new m ms left h r from more))
  where
    l : Extent
    l = extent_of script.shape

    n : ℕ
    n = length script.threads

    before_none : (q : ℕ) (u : Thread) → 1 ≤ q → slice_get (set s.threads p new) q ≡ Some u → has_step u ≡ false → 1 ≤ s.begun → steps_of (s.begun - 1) q left ≡ []
    before_none = moved s after p new [] same (λ n ps ts. (q : ℕ) (u : Thread) → 1 ≤ q → slice_get ts q ≡ Some u → has_step u ≡ false → 1 ≤ n → steps_of (n - 1) q left ≡ []) a.none

    r : RunsOut (extent_of script.shape) (length script.threads) (s.begun - 1) 0 (set s.threads p new) (m ∷ ms) left
    r = moved s after p new [] same (λ n ps ts. OrderFor (extent_of script.shape) (length script.threads) (n - 1) 0 ts ps (m ∷ ms) left) a.order

    from : AllFrom (op_now t) (own p r.here)
    from = next-from script 0 s p t new m ms left h before_none many r

    lower : (q : ℕ) → 1 ≤ q → q < p → own q r.here ≡ []
    lower q first less =
        let few = h.few in
        let c = h.phase in
        let u = there-is s.threads q (omega arith) in
        let differ : p ≡ q → ⊥ = λ z. (let f : p ≡ q = z in absurd (omega arith)) in
        let none : steps_of (s.begun - 1) q left ≡ [] = before_none q u.0 first (get-other s.threads p q new differ ∙ u.1) (below q u.0 first less u.1) (omega arith) in
        none-here (s.begun - 1) q r.here r.later r.all_in (ap (λ (xs : List Made). steps_of (s.begun - 1) q xs) (sym r.left_is) ∙ none)

    all_of : AllOf (s.begun - 1) (own p r.here)
    all_of = own-of (s.begun - 1) p r.here r.all_of

    phase_is : m.point.phase ≡ s.begun - 1
    phase_is = let c = h.phase in omega arith

    m_first : own p (m ∷ r.here) ≡ m ∷ own p r.here
    m_first = own-this m r.here p h.thread

    m_made : own p (m ∷ ms) ≡ m ∷ own p ms
    m_made = own-this m ms p h.thread

    -- behind the step
    outside-on : AreOutside (extent_of script.shape) (length script.threads) (m ∷ ms) (IsNot p)
    outside-on q first few differ = ap (λ (xs : List Made). in_access (extent_of script.shape) xs) (own-other m ms q (λ z. differ (sym z ∙ h.thread))) ∙ outside q first few differ

    whole-on : ending_of (in_access (extent_of script.shape) (own p (m ∷ ms))) (own p (m ∷ ms)) (own p r.here) ++ other_of (in_access (extent_of script.shape) (own p (m ∷ ms))) (own p (m ∷ ms)) (own p r.here) ≡ own p r.here
    whole-on = subst (λ (xs : List Made). ending_of (in_access (extent_of script.shape) (own p (m ∷ ms))) xs (own p r.here) ++ other_of (in_access (extent_of script.shape) (own p (m ∷ ms))) xs (own p r.here) ≡ own p r.here) (sym m_made)
        (whole-here (in_access (extent_of script.shape) (own p (m ∷ ms))) m (own p ms) (own p r.here) (subst (λ (x : ℕ). AllOf x (own p r.here)) (sym phase_is) all_of) (subst (λ (x : ℕ). AllFrom x (own p r.here)) (sym h.number) from) (r.sorted p h.other))

    -- before it
    its : List Made
    its = m ∷ own p r.here

    whole-before : (b : Bool) → in_access (extent_of script.shape) (own p ms) ≡ b → ending_of b (own p ms) (m ∷ own p r.here) ++ other_of b (own p ms) (m ∷ own p r.here) ≡ m ∷ own p r.here
    whole-before false e = refl
    whole-before true e =
        let w = newest e in
        let own_is = w.2 in
        let phase : w.0.point.phase ≡ s.begun - 1 = w.3 in
        let number : w.0.point.operation ≡ op_now t = w.4 in
        subst (λ (xs : List Made). ending_of true xs (m ∷ own p r.here) ++ other_of true xs (m ∷ own p r.here) ≡ m ∷ own p r.here) (sym own_is)
        (whole-here true w.0 w.1 (m ∷ own p r.here) (phase_is ∙ sym phase, subst (λ (x : ℕ). AllOf x (own p r.here)) (sym phase) all_of)
        (inl (number ∙ sym h.number), subst (λ (x : ℕ). AllFrom x (own p r.here)) (sym number) from)
        (subst (λ (x : ℕ). AllFrom x (own p r.here)) (sym h.number) from, r.sorted p h.other))

    more : m ∷ r.here ≡ arrangement (extent_of script.shape) (length script.threads) 0 ms (m ∷ r.here)
    more =
        let e = h.thread in
        let few = h.few in
        let some = h.other in
        let turn : in_turn (length script.threads) (λ q. own q (m ∷ r.here)) ≡ m ∷ in_turn (length script.threads) (λ q. own q r.here) =
        in-turn-more (length script.threads) m r.here (omega arith) (omega arith) (λ q first less. lower q first (omega arith)) in
        ap (λ (xs : List Made). m ∷ xs) (r.arranged ∙ numbers-in-turn (extent_of script.shape) (length script.threads) p (m ∷ ms) r.here h.other h.few outside-on lower whole-on) ∙
        sym turn ∙
        sym (numbers-in-turn (extent_of script.shape) (length script.threads) p ms (m ∷ r.here) h.other h.few outside (λ q first less. own-other m r.here q (λ z. (let y : m.point.thread ≡ q = z in absurd (omega arith))) ∙ lower q first less)
        (subst (λ (xs : List Made). ending_of (in_access (extent_of script.shape) (own p ms)) (own p ms) xs ++ other_of (in_access (extent_of script.shape) (own p ms)) (own p ms) xs ≡ xs) (sym m_first)
        (whole-before (in_access (extent_of script.shape) (own p ms)) refl)))

-- what is to come, where the same steps stand in order with another thread that ends its operation, or with none
ahead-with : (script : Script) (s : Stage) (was ending : ℕ) (ms left : List Made) → s.places ≡ [] → (a : IsAhead script was s ms left) →
    ((r : RunsOut (extent_of script.shape) (length script.threads) (s.begun - 1) was s.threads ms left) →
    arrangement (extent_of script.shape) (length script.threads) was ms r.here ≡ arrangement (extent_of script.shape) (length script.threads) ending ms r.here) → IsAhead script ending s ms left
ahead-with script s was ending ms left place a same = record {
  later = a.later;
  none = a.none;
  some = a.some;
  last = a.last;
  order = rw place (record {
    here = r.here;
    later = r.later;
    left_is = r.left_is;
    all_in = r.all_in;
    all_of = r.all_of;
    none = r.none;
    sorted = r.sorted;
    behind = r.behind;
    arranged = r.arranged ∙ same r;
    rest = r.rest;
  });
}
  where
    r : RunsOut (extent_of script.shape) (length script.threads) (s.begun - 1) was s.threads ms left
    r = subst (λ (ps : List ℕ). OrderFor (extent_of script.shape) (length script.threads) (s.begun - 1) was s.threads ps ms left) place a.order

-- the first thread inside an access is to end its operation
pub ahead-inside : (script : Script) (s : Stage) (p : ℕ) (ms left : List Made) → s.places ≡ [] → 1 ≤ p → p ≤ length script.threads →
    AreOutside (extent_of script.shape) (length script.threads) ms (λ q. q < p) → in_access (extent_of script.shape) (own p ms) ≡ true → IsAhead script p s ms left → IsAhead script 0 s ms left
ahead-inside script s zero ms left place first few outside inside a = absurd (omega arith)
ahead-inside script s (suc e) ms left place first few outside inside a =
    ahead-with script s (suc e) 0 ms left place a (λ r. sym (numbers-inside (extent_of script.shape) (length script.threads) e ms r.here few outside inside))

-- it makes a step of the operation
pub ahead-ends-it : (script : Script) (s : Stage) (p : ℕ) (t new : Thread) (m : Made) (ms left : List Made) → s.places ≡ [] → MadeBy script s p t new m → IsNewest p (s.begun - 1) (op_now t) ms →
    (after : Stage) → IsStepped s after p new [] → length s.threads ≡ length script.threads + 1 → IsAhead script p after (m ∷ ms) left → IsAhead script p s ms (m ∷ left)
ahead-ends-it script s zero t new m ms left place h newest after same many a = let o = h.other in absurd (omega arith)
ahead-ends-it script s (suc e) t new m ms left place h newest after same many a = step-ahead script (suc e) s (suc e) [] t new m ms left h after same a (rw place (runs-on script (suc e) s (suc e) t new m ms left h r from more))
  where
    before_none : (q : ℕ) (u : Thread) → 1 ≤ q → slice_get (set s.threads (suc e) new) q ≡ Some u → has_step u ≡ false → 1 ≤ s.begun → steps_of (s.begun - 1) q left ≡ []
    before_none = moved s after (suc e) new [] same (λ n ps ts. (q : ℕ) (u : Thread) → 1 ≤ q → slice_get ts q ≡ Some u → has_step u ≡ false → 1 ≤ n → steps_of (n - 1) q left ≡ []) a.none

    r : RunsOut (extent_of script.shape) (length script.threads) (s.begun - 1) (suc e) (set s.threads (suc e) new) (m ∷ ms) left
    r = moved s after (suc e) new [] same (λ n ps ts. OrderFor (extent_of script.shape) (length script.threads) (n - 1) (suc e) ts ps (m ∷ ms) left) a.order

    from : AllFrom (op_now t) (own (suc e) r.here)
    from = next-from script (suc e) s (suc e) t new m ms left h before_none many r

    more : m ∷ r.here ≡ arrangement (extent_of script.shape) (length script.threads) (suc e) ms (m ∷ r.here)
    more =
        let c = h.phase in
        let phase : m.point.phase ≡ newest.0.point.phase = (let d : newest.0.point.phase ≡ s.begun - 1 = newest.3 in omega arith) in
        ap (λ (xs : List Made). m ∷ xs) r.arranged ∙
        numbers-step (extent_of script.shape) (length script.threads) e m newest.0 newest.1 ms r.here h.thread newest.2 phase (h.number ∙ sym newest.4)

-- the operation is over: the thread's newest step is one of an operation before
pub ahead-outside : (script : Script) (s : Stage) (p : ℕ) (t : Thread) (newest : Made) (rest ms left : List Made) → s.places ≡ [] → 1 ≤ p → 1 ≤ s.begun → slice_get s.threads p ≡ Some t → own p ms ≡ newest ∷ rest →
    (has_step t ≡ true → IsBehind newest.point.operation (op_now t)) → IsAhead script 0 s ms left → IsAhead script p s ms left
ahead-outside script s zero t newest rest ms left place first begun there own_is behind a = absurd (omega arith)
ahead-outside script s (suc e) t newest rest ms left place first begun there own_is behind a =
    ahead-with script s 0 (suc e) ms left place a (λ r. sym (numbers-outside (extent_of script.shape) (length script.threads) e newest rest ms r.here own_is (all_behind r (has_step t) refl)))
  where
    all_behind : (r : RunsOut (extent_of script.shape) (length script.threads) (s.begun - 1) 0 s.threads ms left) → (b : Bool) → has_step t ≡ b → AllBehind newest.point.operation (own (suc e) r.here)
    all_behind r true has = all-behind newest.point.operation (op_now t) (own (suc e) r.here) (behind has) (r.behind (suc e) t first there has)
    all_behind r false has =
        let nothing : own (suc e) r.here ≡ [] = none-here (s.begun - 1) (suc e) r.here r.later r.all_in (ap (λ (xs : List Made). steps_of (s.begun - 1) (suc e) xs) (sym r.left_is) ∙ a.none (suc e) t first there has begun) in
        rw nothing tt

-- the place's thread has no step, and another has one
pub ahead-passes : (script : Script) (s : Stage) (p : ℕ) (places : List ℕ) (t : Thread) (ms left : List Made) → s.places ≡ p ∷ places → 1 ≤ p → slice_get s.threads p ≡ Some t → has_step t ≡ false → IsSome has_step s.threads →
    1 ≤ s.begun → IsAhead script 0 (record s { places = places }) ms left → IsAhead script 0 s ms left
ahead-passes script s p places t ms left place first there has other begun a = record {
  later = a.later;
  none = a.none;
  some = a.some;
  last = a.last;
  order = rw place (passes (a.none p t first there has begun) (λ e. a.some other.place other.thread other.other other.there other.passes (none-own (s.begun - 1) other.place left e))
      (order-in (extent_of script.shape) (length script.threads) (s.begun - 1) s.threads places ms left a.order));
}

-- the next phase begins
pub ahead-begins : (script : Script) (s : Stage) (threads : List Thread) (ms left : List Made) → IsNone has_step s.threads → ((u : Thread) → slice_get s.threads 0 ≡ Some u → slice_get threads 0 ≡ Some u) →
    IsAhead script 0 (record s { begun = s.begun + 1; threads = threads }) ms left → IsAhead script 0 s ms left
ahead-begins script s threads ms left quiet same a = record {
  later = weaker left a.later;
  none = λ p t first there has some. later-none (s.begun - 1) (own p left) (later-own (s.begun - 1) p left (later s.begun some left a.later));
  some = λ p t first there has e. (let f = quiet p t first there in absurd (cc));
  last = λ t there e. a.last t (same t there) e;
  order = go s.begun s.places a.later a.order;
}
  where
    weak : (x : Made) → IsToCome (s.begun + 1) x → IsToCome s.begun x
    weak x (inl first) = inl first
    weak x (inr more) = inr (omega arith)

    weaker : (xs : List Made) → AllByRecursion (IsToCome (s.begun + 1)) xs → AllByRecursion (IsToCome s.begun) xs
    weaker [] h = tt
    weaker (x ∷ xs) h = (weak x h.0, weaker xs h.1)

    one : (n : ℕ) → 1 ≤ n → (x : Made) → IsToCome (n + 1) x → IsLater (n - 1) x
    one n some x (inl first) = inl first
    one n some x (inr more) = inr (omega arith)

    later : (n : ℕ) → 1 ≤ n → (xs : List Made) → AllByRecursion (IsToCome (n + 1)) xs → AreLater (n - 1) xs
    later n some [] h = tt
    later n some (x ∷ xs) h = (one n some x h.0, later n some xs h.1)

    go : (n : ℕ) (places : List ℕ) → AllByRecursion (IsToCome (n + 1)) left → OrderFor (extent_of script.shape) (length script.threads) (n + 1 - 1) 0 threads places ms left →
        OrderFor (extent_of script.shape) (length script.threads) (n - 1) 0 s.threads places ms left
    go zero (p ∷ places) h o = o
    go zero [] h o = record {
      here = o.here;
      later = o.later;
      left_is = o.left_is;
      all_in = o.all_in;
      all_of = o.all_of;
      none = o.none;
      sorted = o.sorted;
      behind = λ p t first there has. (let f = quiet p t first there in absurd (cc));
      arranged = o.arranged;
      rest = o.rest;
    }
    go (suc n) [] h o =
        let same : suc n + 1 - 1 ≡ suc n - 1 + 1 = omega arith in
        record {
          here = [];
          later = left;
          left_is = refl;
          all_in = tt;
          all_of = tt;
          none = later-none (suc n - 1) left (later (suc n) (omega arith) left h);
          sorted = λ p first. tt;
          behind = λ p t first there has. tt;
          arranged = sym (nothing-here (extent_of script.shape) (length script.threads) ms);
          rest = subst (λ (m : ℕ). InOrder (extent_of script.shape) (length script.threads) m [] ms left) same (order-in (extent_of script.shape) (length script.threads) (suc n + 1 - 1) threads [] ms left o);
        }
    go (suc n) (p ∷ places) h o =
        let same : suc n + 1 - 1 ≡ suc n - 1 + 1 = omega arith in
        next_phase (later-none (suc n - 1) left (later (suc n) (omega arith) left h)) (subst (λ (m : ℕ). InOrder (extent_of script.shape) (length script.threads) m (p ∷ places) ms left) same o)

-- thread 0 begins, where no other has a step
pub ahead-last : (script : Script) (s : Stage) (t new : Thread) (ms left : List Made) → slice_get s.threads 0 ≡ Some t → awaits_phase t ≡ true → IsAhead script 0 (record s { threads = set s.threads 0 new }) ms left → IsAhead script 0 s ms left
ahead-last script s t new ms left there waits a = record {
  later = a.later;
  none = λ p t first there has some. a.none p t first (get-other s.threads 0 p new (apart-first p first) ∙ there) has some;
  some = λ p t first there has e. a.some p t first (get-other s.threads 0 p new (apart-first p first) ∙ there) has e;
  last = λ u at e. (let same : t ≡ u = (let f : Some t ≡ Some u = sym there ∙ at in cc) in let g : awaits_phase u ≡ true = subst (λ (v : Thread). awaits_phase v ≡ true) same waits in absurd (cc));
  order = go s.places a.order;
}
  where
    apart-first : (p : ℕ) → 1 ≤ p → 0 ≡ p → ⊥
    apart-first p first e = let f : 0 ≡ p = e in absurd (omega arith)

    go : (places : List ℕ) → OrderFor (extent_of script.shape) (length script.threads) (s.begun - 1) 0 (set s.threads 0 new) places ms left → OrderFor (extent_of script.shape) (length script.threads) (s.begun - 1) 0 s.threads places ms left
    go (p ∷ places) o = o
    go [] o = record {
      here = o.here;
      later = o.later;
      left_is = o.left_is;
      all_in = o.all_in;
      all_of = o.all_of;
      none = o.none;
      sorted = o.sorted;
      behind = λ p u first there has. o.behind p u first (get-other s.threads 0 p new (apart-first p first) ∙ there) has;
      arranged = o.arranged;
      rest = o.rest;
    }

-- where all steps to come are thread 0's, they stand in order
pub ends-order : (l : Extent) (n phase : ℕ) (threads : List Thread) (places : List ℕ) (ms left : List Made) → AllByRecursion (λ m. m.point.thread ≡ 0) left → OrderFor l n phase 0 threads places ms left
ends-order l n phase threads (p ∷ places) ms left h = ends (All-from_recursion (λ m. m.point.thread ≡ 0) left h)
ends-order l n phase threads [] ms left h = record {
  here = [];
  later = left;
  left_is = refl;
  all_in = tt;
  all_of = tt;
  none = later-none phase left (zero-later left h);
  sorted = λ p first. tt;
  behind = λ p t first there has. tt;
  arranged = sym (nothing-here l n ms);
  rest = ends (All-from_recursion (λ m. m.point.thread ≡ 0) left h);
}
  where
    zero-later : (xs : List Made) → AllByRecursion (λ m. m.point.thread ≡ 0) xs → AreLater phase xs
    zero-later [] h = tt
    zero-later (x ∷ xs) h = (inl h.0, zero-later xs h.1)

-- thread 0 makes a step, where no other has one
pub ahead-last-step : (script : Script) (s : Stage) (new : Thread) (m : Made) (ms left : List Made) → m.point.thread ≡ 0 → IsNone has_step s.threads → slice_get (set s.threads 0 new) 0 ≡ Some new → awaits_phase new ≡ false →
    (after : Stage) → (after.begun ≡ s.begun) × (after.threads ≡ set s.threads 0 new) → IsAhead script 0 after (m ∷ ms) left → IsAhead script 0 s ms (m ∷ left)
ahead-last-step script s new m ms left thread quiet there begun after same a = record {
  later = (inl thread, subst (λ (n : ℕ). AllByRecursion (IsToCome n) left) same.0 a.later);
  none = λ p t first at has some. none-own (s.begun - 1) p (m ∷ left) (later-none (s.begun - 1) (m ∷ left) (zero-later (m ∷ left) all));
  some = λ p t first at has e. (let f = quiet p t first at in absurd (cc));
  last = λ u at e. all;
  order = ends-order (extent_of script.shape) (length script.threads) (s.begun - 1) s.threads s.places ms (m ∷ left) all;
}
  where
    all : AllByRecursion (λ m. m.point.thread ≡ 0) (m ∷ left)
    all = (thread, a.last new (subst (λ (ts : List Thread). slice_get ts 0 ≡ Some new) (sym same.1) there) begun)

    zero-later : (xs : List Made) → AllByRecursion (λ m. m.point.thread ≡ 0) xs → AreLater (s.begun - 1) xs
    zero-later [] h = tt
    zero-later (x ∷ xs) h = (inl h.0, zero-later xs h.1)
