-- How many hands a thread holds, through every event of its own.
use Rattle.std.proofs.Common.{◌≡◌, ℕ, zero, suc, ◌<◌, ◌≤◌, ◌+◌, Bool, true, false, eqb, ◌∷◌, Option, Some, None, inl, inr, refl, sym, ap, ◌∙◌, arith}
use Rattle.std.specs.Prelude.{is_some}
use Rattle.std.proofs.lemmas.Bool.{eqb-true, eq-eqb, cases_lt, ne_eqb}
use Rattle.arc_model.specs.declared.event.Act.{Act}
use Rattle.arc_model.specs.declared.event.Act.TheVariants as acts
use Rattle.arc_model.specs.declared.event.Got.TheVariants as got
use Rattle.arc_model.specs.declared.event.Event.{Event}
use Rattle.arc_model.specs.Shapes.{HeapShape}
use Rattle.arc_model.specs.Heaps.{Hand, Heap}
use Rattle.arc_model.specs.Holders.{is_number}
use Rattle.arc_model.specs.Needs.{Sight, first_failing, needs, reachable, has}
use Rattle.arc_model.specs.History.{History, heap_after, next_hand, sight, brings, IsLegal}
use Rattle.arc_model.specs.Lookup.{spot}
use Rattle.arc_model.specs.Own.{brings_hand, ends_hand}
use Rattle.arc_model.proofs.Basics.{met, met-split, None≢Some, Some-inj, true≢false}
use Rattle.arc_model.proofs.Builds.{advance, advance-here}
use Rattle.arc_model.proofs.Courses.{next-step, well_formed}
use Rattle.arc_model.proofs.Others.{spot-find, spot-held}
use Rattle.arc_model.proofs.Own.{own_ends, swap_given}
use Rattle.arc_model.proofs.Tally.{no}
use Rattle.arc_quiet.proofs.Counts.{one_if, is_ending}
use Rattle.arc_model.proofs.HandSpots.{hand_same}

-- how many numbers below n pass
abbrev pub count_below : ℕ → (ℕ → Bool) → ℕ
count_below zero test = 0
count_below (suc n) test = one_if (test n) + count_below n test

-- whether p holds hand k
abbrev pub is_held : ℕ → Heap → ℕ → Bool
is_held p heap k = is_some (spot (Hand p k) heap)

-- how many hands p holds
abbrev pub held_hands : ℕ → History → ℕ
held_hands p h = count_below (next_hand p h) (is_held p (heap_after h))

one-le : (a b : Bool) → (a ≡ true → b ≡ true) → one_if a ≤ one_if b
one-le true b h = let e : one_if b ≡ 1 = ap one_if (h refl) in omega arith
one-le false b h = omega arith

count-le : (n : ℕ) (f g : ℕ → Bool) → ((k : ℕ) → k < n → f k ≡ true → g k ≡ true) → count_below n f ≤ count_below n g
count-le zero f g h = omega arith
count-le (suc n) f g h = let a = one-le (f n) (g n) (h n (omega arith)) in let b = count-le n f g (λ k l. h k (omega arith)) in omega arith

count-less : (n j : ℕ) (f g : ℕ → Bool) → j < n → f j ≡ false → g j ≡ true → ((k : ℕ) → k < n → f k ≡ true → g k ≡ true) → count_below n f + 1 ≤ count_below n g
count-less zero j f g l a b h = absurd (omega arith)
count-less (suc n) j f g l a b h = elim (cases_lt j n) [
  | inl below ↦
      let c = one-le (f n) (g n) (h n (omega arith)) in
      let d = count-less n j f g below a b (λ k m. h k (omega arith)) in omega arith
  | inr above ↦
      let same : n ≡ j = omega arith in
      let c : one_if (f n) ≡ 0 = ap (λ k. one_if (f k)) same ∙ ap one_if a in
      let e : one_if (g n) ≡ 1 = ap (λ k. one_if (g k)) same ∙ ap one_if b in
      let d = count-le n f g (λ k m. h k (omega arith)) in omega arith
]

-- the hand that comes is the next one
eq-of : (k n next : ℕ) → Some n ≡ Some k → eqb n next ≡ true → k ≡ next
eq-of k n next e h = Some-inj (sym e) ∙ eqb-true n next h

pub brings_next : (shape : HeapShape) (sight : Sight) (p : ℕ) (act : Act) (k : ℕ) → first_failing (needs shape sight p act) ≡ None → brings_hand act ≡ Some k → k ≡ sight.next
brings_next shape sight p (acts.New n c s) k ok b = eq-of k n sight.next b (met (needs shape sight p (acts.New n c s)) ok).0
brings_next shape sight p (acts.Copy from n) k ok b = eq-of k n sight.next b (met-split (has shape sight.heap p from) _ (met (needs shape sight p (acts.Copy from n)) ok)).1.0
brings_next shape sight p (acts.UnownedOf h n) k ok b = eq-of k n sight.next b (met (needs shape sight p (acts.UnownedOf h n)) ok).1.0
brings_next shape sight p (acts.WeakOf h n) k ok b = eq-of k n sight.next b (met (needs shape sight p (acts.WeakOf h n)) ok).1.1.0
brings_next shape sight p (acts.Load h (got.Hand n)) k ok b = eq-of k n sight.next b (met (needs shape sight p (acts.Load h (got.Hand n))) ok).1.0
brings_next shape sight p (acts.Load h got.Dead) k ok b = absurd (None≢Some k b)
brings_next shape sight p (acts.Load h got.Nil) k ok b = absurd (None≢Some k b)
brings_next shape sight p (acts.Swap c h None) k ok b = absurd (None≢Some k b)
brings_next shape sight p (acts.Swap c h (Some n)) k ok b = eq-of k n sight.next b (met-split (reachable shape sight.heap p c) _ (met (needs shape sight p (acts.Swap c h (Some n))) ok)).1.1.0
brings_next shape sight p (acts.Take s f n) k ok b = eq-of k n sight.next b (met (needs shape sight p (acts.Take s f n)) ok).1.1.1.1.0
brings_next shape sight p acts.Full k ok b = absurd (None≢Some k b)
brings_next shape sight p (acts.Drop h last) k ok b = absurd (None≢Some k b)
brings_next shape sight p (acts.CountFull l from) k ok b = absurd (None≢Some k b)
brings_next shape sight p (acts.Claim e) k ok b = absurd (None≢Some k b)
brings_next shape sight p acts.NoEntry k ok b = absurd (None≢Some k b)
brings_next shape sight p (acts.Side s e why) k ok b = absurd (None≢Some k b)
brings_next shape sight p (acts.Back e) k ok b = absurd (None≢Some k b)
brings_next shape sight p (acts.Look c) k ok b = absurd (None≢Some k b)
brings_next shape sight p (acts.Finish s last) k ok b = absurd (None≢Some k b)
brings_next shape sight p (acts.Vacate s) k ok b = absurd (None≢Some k b)
brings_next shape sight p (acts.Gone e last) k ok b = absurd (None≢Some k b)

-- an act that ends a hand: which one, and the thread holds it
record Ended (p : ℕ) (act : Act) (heap : Heap) : Type 0 where
  hand : ℕ
  ends : ends_hand hand act ≡ true
  held : is_held p heap hand ≡ true

ended-of : (shape : HeapShape) (sight : Sight) (p : ℕ) (act : Act) → first_failing (needs shape sight p act) ≡ None → is_ending act ≡ true → Ended p act sight.heap
ended-of shape sight p (acts.Drop h last) ok e =
    record { hand = h; ends = eq-eqb h h refl; held = spot-find (Hand p h) sight.heap.objects ∙ (met (needs shape sight p (acts.Drop h last)) ok).0 }
ended-of shape sight p (acts.Swap c (Some h) k) ok e =
    let m = met-split (reachable shape sight.heap p c) _ (met (needs shape sight p (acts.Swap c (Some h) k)) ok) in
    record { hand = h; ends = eq-eqb h h refl; held = spot-find (Hand p h) sight.heap.objects ∙ swap_given shape sight p c (Some h) m.1.0 h refl }
ended-of shape sight p (acts.Swap c None k) ok e = no e
ended-of shape sight p (acts.New k c s) ok e = no e
ended-of shape sight p acts.Full ok e = no e
ended-of shape sight p (acts.Copy from k) ok e = no e
ended-of shape sight p (acts.UnownedOf h k) ok e = no e
ended-of shape sight p (acts.WeakOf h k) ok e = no e
ended-of shape sight p (acts.Load h g) ok e = no e
ended-of shape sight p (acts.CountFull l from) ok e = no e
ended-of shape sight p (acts.Claim n) ok e = no e
ended-of shape sight p acts.NoEntry ok e = no e
ended-of shape sight p (acts.Side s n why) ok e = no e
ended-of shape sight p (acts.Back n) ok e = no e
ended-of shape sight p (acts.Look c) ok e = no e
ended-of shape sight p (acts.Take s f k) ok e = no e
ended-of shape sight p (acts.Finish s last) ok e = no e
ended-of shape sight p (acts.Vacate s) ok e = no e
ended-of shape sight p (acts.Gone n last) ok e = no e

-- the number of the hand that comes
brings-one : (act : Act) → brings act ≡ is_some (brings_hand act)
brings-one (acts.New k c s) = refl
brings-one (acts.Copy from k) = refl
brings-one (acts.UnownedOf h k) = refl
brings-one (acts.WeakOf h k) = refl
brings-one (acts.Load h (got.Hand k)) = refl
brings-one (acts.Load h got.Dead) = refl
brings-one (acts.Load h got.Nil) = refl
brings-one (acts.Swap c h None) = refl
brings-one (acts.Swap c h (Some k)) = refl
brings-one (acts.Take s f k) = refl
brings-one acts.Full = refl
brings-one (acts.Drop h last) = refl
brings-one (acts.CountFull l from) = refl
brings-one (acts.Claim n) = refl
brings-one acts.NoEntry = refl
brings-one (acts.Side s n why) = refl
brings-one (acts.Back n) = refl
brings-one (acts.Look c) = refl
brings-one (acts.Finish s last) = refl
brings-one (acts.Vacate s) = refl
brings-one (acts.Gone n last) = refl

-- a hand of p stands below its next number
pub held-below : (shape : HeapShape) (p k : ℕ) (h : History) → IsLegal shape h → is_held p (heap_after h) k ≡ true → k < next_hand p h
held-below shape p k h legal here =
    elim (cases_lt k (next_hand p h)) [
      | inl below ↦ below
      | inr above ↦ let a = spot-held (Hand p k) (heap_after h) here in let b = (well_formed shape h legal).fresh p k above in absurd (omega arith)
    ]

-- what p holds after its own event it held before, or it came
pub own-held : (shape : HeapShape) (e : Event) (h : History) (k : ℕ) → IsLegal shape (e ∷ h) → k < next_hand e.thread h → is_held e.thread (heap_after (e ∷ h)) k ≡ true → (is_held e.thread (heap_after h) k ≡ true) × (spot (Hand e.thread k) (heap_after (e ∷ h)) ≡ spot (Hand e.thread k) (heap_after h))
own-held shape e h k legal below here = go (ends_hand k e.act) refl
  where
    old : (m : Option ℕ) → brings_hand e.act ≡ m → is_number m k ≡ false
    old None b = refl
    old (Some n) b = let a = brings_next shape (sight e.thread h) e.thread e.act n legal.0 b in ne_eqb n k (λ same. omega (arith, a, same, below))

    go : (b : Bool) → ends_hand k e.act ≡ b → (is_held e.thread (heap_after h) k ≡ true) × (spot (Hand e.thread k) (heap_after (e ∷ h)) ≡ spot (Hand e.thread k) (heap_after h))
    go true ended = absurd (true≢false (sym here ∙ ap is_some (own_ends shape h e k legal ended)))
    go false kept = let s = hand_same e.thread k e.act (heap_after h) (old (brings_hand e.act) refl) kept in (sym (ap is_some s) ∙ here, s)

pub next-own : (e : Event) (h : History) → next_hand e.thread (e ∷ h) ≡ next_hand e.thread h + one_if (brings e.act)
next-own e h = sym (next-step e.thread e h) ∙ go (brings e.act)
  where
    go : (b : Bool) → advance b e.thread (λ q. next_hand q h) e.thread ≡ next_hand e.thread h + one_if b
    go true = let a = advance-here e.thread (λ q. next_hand q h) in omega arith
    go false = omega arith

-- an event of p's own: hands that come and end
pub own_counted : (shape : HeapShape) (e : Event) (h : History) → IsLegal shape (e ∷ h) → held_hands e.thread (e ∷ h) + one_if (is_ending e.act) ≤ held_hands e.thread h + one_if (brings e.act)
own_counted shape e h legal = ends (is_ending e.act) refl
  where
    p : ℕ
    p = e.thread

    n : ℕ
    n = next_hand e.thread h

    came : (b : Bool) → brings e.act ≡ b → held_hands p (e ∷ h) ≤ count_below n (is_held p (heap_after (e ∷ h))) + one_if b
    came true b =
        let s : next_hand p (e ∷ h) ≡ suc n = (let a = next-own e h in let c : one_if (brings e.act) ≡ 1 = ap one_if b in omega arith) in
        let d : held_hands p (e ∷ h) ≡ one_if (is_held p (heap_after (e ∷ h)) n) + count_below n (is_held p (heap_after (e ∷ h))) = ap (λ m. count_below m (is_held p (heap_after (e ∷ h)))) s in
        let f = one-le (is_held p (heap_after (e ∷ h)) n) true (λ x. refl) in omega arith
    came false b =
        let s : next_hand p (e ∷ h) ≡ n = (let a = next-own e h in let c : one_if (brings e.act) ≡ 0 = ap one_if b in omega arith) in
        let d : held_hands p (e ∷ h) ≡ count_below n (is_held p (heap_after (e ∷ h))) = ap (λ m. count_below m (is_held p (heap_after (e ∷ h)))) s in omega arith

    ends : (b : Bool) → is_ending e.act ≡ b → held_hands p (e ∷ h) + one_if b ≤ held_hands p h + one_if (brings e.act)
    ends true is =
        let x = ended-of shape (sight p h) p e.act legal.0 is in
        let gone : is_held p (heap_after (e ∷ h)) x.hand ≡ false = ap is_some (own_ends shape h e x.hand legal x.ends) in
        let less = count-less n x.hand (is_held p (heap_after (e ∷ h))) (is_held p (heap_after h)) (held-below shape p x.hand h legal.1 x.held) gone x.held (λ k l t. (own-held shape e h k legal l t).0) in
        let c = came (brings e.act) refl in omega arith
    ends false is =
        let less = count-le n (is_held p (heap_after (e ∷ h))) (is_held p (heap_after h)) (λ k l t. (own-held shape e h k legal l t).0) in
        let c = came (brings e.act) refl in omega arith
