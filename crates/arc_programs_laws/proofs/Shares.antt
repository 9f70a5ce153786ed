-- What the threads of a script did is, in sum over the threads, what the history has.
use Rattle.std.proofs.Common.{◌≡◌, ℕ, zero, suc, ◌+◌, ◌≤◌, ◌<◌, Bool, true, false, cond, eqb, List, [], ◌∷◌, Some, inl, inr, refl, sym, ap, ◌∙◌, arith}
use Rattle.std.specs.Prelude.{map, slice_get, length, sum_by}
use Rattle.std.specs.List.{AllByRecursion}
use Rattle.std.proofs.lemmas.Bool.{eq-eqb, ne_eqb, cases_lt}
use Rattle.std.proofs.lemmas.List.Sums.{sum_by-cons}
use Rattle.arc_model.specs.declared.event.Act.{Act}
use Rattle.arc_model.specs.declared.event.Event.{Event}
use Rattle.arc_model.specs.Shapes.{HeapShape}
use Rattle.arc_model.specs.History.{History, share, is_of}
use Rattle.arc_spelling.specs.Spelling.{Note, acts_of, one_more_if}
use Rattle.arc_spelling.specs.Spelling.Note.{Did, Line, Operation, Name, Entry, NeedsEntry, Nil, Refers}
use Rattle.arc_spelling.specs.SpellingTies.{Causes, Ties}
use Rattle.arc_spelling.proofs.SpellTies.{share_is}

-- how many events of the history pass
abbrev pub events_with : (Act → Bool) → History → ℕ
events_with test [] = 0
events_with test (e ∷ h) = one_more_if (test e.act) (events_with test h)

-- how many of a thread's events pass
abbrev pub notes_with : (Act → Bool) → List Note → ℕ
notes_with test [] = 0
notes_with test (Did a ∷ ns) = one_more_if (test a) (notes_with test ns)
notes_with test (_ ∷ ns) = notes_with test ns

-- the sum of f over n numbers, from k on
abbrev pub sum_from : ℕ → ℕ → (ℕ → ℕ) → ℕ
sum_from zero k f = 0
sum_from (suc n) k f = f k + sum_from n (suc k) f

pub one-more : (b : Bool) (n : ℕ) → one_more_if b n ≡ n + one_more_if b 0
one-more true n = omega arith
one-more false n = omega arith

-- ---- sums

pub sum-same : (n k : ℕ) (f g : ℕ → ℕ) → ((p : ℕ) → f p ≡ g p) → sum_from n k f ≡ sum_from n k g
sum-same zero k f g h = refl
sum-same (suc n) k f g h = let a = h k in let b = sum-same n (suc k) f g h in omega arith

pub sum-le : (n k : ℕ) (f g : ℕ → ℕ) → ((p : ℕ) → p < k + n → f p ≤ g p) → sum_from n k f ≤ sum_from n k g
sum-le zero k f g h = omega arith
sum-le (suc n) k f g h = let a = h k (omega arith) in let b = sum-le n (suc k) f g (λ p l. h p (omega arith)) in omega arith

sum-zero : (n k : ℕ) → sum_from n k (λ p. 0) ≡ 0
sum-zero zero k = refl
sum-zero (suc n) k = let a = sum-zero n (suc k) in omega arith

-- d at thread t alone
abbrev at : ℕ → ℕ → ℕ → ℕ
at t d p = cond (eqb t p) d 0

sum-away : (n k t d : ℕ) (f : ℕ → ℕ) → t < k → sum_from n k (λ p. f p + at t d p) ≡ sum_from n k f
sum-away zero k t d f l = refl
sum-away (suc n) k t d f l =
    let a : at t d k ≡ 0 = ap (λ b. cond b d 0) (ne_eqb t k (λ e. omega (arith, e, l))) in
    let b = sum-away n (suc k) t d f (omega arith) in omega arith

sum-at : (n k t d : ℕ) (f : ℕ → ℕ) → k ≤ t → t < k + n → sum_from n k (λ p. f p + at t d p) ≡ sum_from n k f + d
sum-at zero k t d f l m = absurd (omega arith)
sum-at (suc n) k t d f l m = elim (cases_lt k t) [
  | inl below ↦
      let a : at t d k ≡ 0 = ap (λ b. cond b d 0) (ne_eqb t k (λ e. omega (arith, e, below))) in
      let b = sum-at n (suc k) t d f (omega arith) (omega arith) in omega arith
  | inr above ↦
      let a : at t d k ≡ d = ap (λ b. cond b d 0) (eq-eqb t k (omega arith)) in
      let b = sum-away n (suc k) t d f (omega arith) in omega arith
]

-- a sum over a list, by the places of its elements
pub sum-listed : {X : Type 0} (w : X → ℕ) (xs : List X) (k : ℕ) (f : ℕ → ℕ) → ((i p : ℕ) (x : X) → p ≡ k + i → slice_get xs i ≡ Some x → f p ≡ w x) → sum_from (length xs) k f ≡ sum_by w xs
sum-listed w [] k f h = refl
sum-listed w (x ∷ xs) k f h =
    let a = h 0 k x (omega arith) refl in
    let b = sum-listed w xs (suc k) f (λ i p y e there. h (suc i) p y (omega arith) there) in
    let c = sum_by-cons w x xs in omega arith

-- ---- shares

share-more : (test : Act → Bool) (e : Event) (h : History) (p : ℕ) → events_with test (share (e ∷ h) p) ≡ events_with test (share h p) + at e.thread (one_more_if (test e.act) 0) p
share-more test e h p = go (is_of p e)
  where
    go : (b : Bool) → events_with test (cond b (e ∷ share h p) (share h p)) ≡ events_with test (share h p) + cond b (one_more_if (test e.act) 0) 0
    go true = one-more (test e.act) (events_with test (share h p))
    go false = omega arith

-- the events of threads 0 to n are all
pub shares-summed : (test : Act → Bool) (n : ℕ) (h : History) → AllByRecursion (λ (e : Event). e.thread ≤ n) h → sum_from (suc n) 0 (λ p. events_with test (share h p)) ≡ events_with test h
shares-summed test n [] few = sum-zero (suc n) 0
shares-summed test n (e ∷ h) few =
    let small = few.0 in
    let d = one_more_if (test e.act) 0 in
    let f : ℕ → ℕ = λ p. events_with test (share h p) in
    let a : sum_from (suc n) 0 (λ p. events_with test (share (e ∷ h) p)) ≡ sum_from (suc n) 0 (λ p. f p + at e.thread d p) = sum-same (suc n) 0 (λ p. events_with test (share (e ∷ h) p)) (λ p. f p + at e.thread d p) (λ p. share-more test e h p) in
    let b : sum_from (suc n) 0 (λ p. f p + at e.thread d p) ≡ sum_from (suc n) 0 f + d = sum-at (suc n) 0 e.thread d f (omega arith) (omega arith) in
    let c : sum_from (suc n) 0 f ≡ events_with test h = shares-summed test n h few.1 in
    a ∙ b ∙ ap (λ m. m + d) c ∙ sym (one-more (test e.act) (events_with test h))

-- a thread's events are some of all
pub share-le : (test : Act → Bool) (p : ℕ) (h : History) → events_with test (share h p) ≤ events_with test h
share-le test p [] = omega arith
share-le test p (e ∷ h) = go (is_of p e) (test e.act) (share-le test p h)
  where
    go : (b t : Bool) → events_with test (share h p) ≤ events_with test h → events_with test (cond b (e ∷ share h p) (share h p)) ≤ one_more_if (test e.act) (events_with test h)
    go true t ih = up (test e.act)
      where
        up : (t : Bool) → one_more_if t (events_with test (share h p)) ≤ one_more_if t (events_with test h)
        up true = omega arith
        up false = ih
    go false t ih = up (test e.act)
      where
        up : (t : Bool) → events_with test (share h p) ≤ one_more_if t (events_with test h)
        up true = omega arith
        up false = ih

-- ---- notes

with-acts : (test : Act → Bool) (p : ℕ) (ns : List Note) → events_with test (map (λ a. record { thread = p; act = a }) (acts_of ns)) ≡ notes_with test ns
with-acts test p [] = refl
with-acts test p (Did a ∷ ns) = ap (one_more_if (test a)) (with-acts test p ns)
with-acts test p (Line a ∷ ns) = with-acts test p ns
with-acts test p (Operation n ∷ ns) = with-acts test p ns
with-acts test p (Name s name ∷ ns) = with-acts test p ns
with-acts test p (Entry s e ∷ ns) = with-acts test p ns
with-acts test p (NeedsEntry s l ∷ ns) = with-acts test p ns
with-acts test p (Nil c ∷ ns) = with-acts test p ns
with-acts test p (Refers c kind place ∷ ns) = with-acts test p ns

-- the events of a thread's notes are its share
pub share-noted : (test : Act → Bool) (causes : Causes) (shape : HeapShape) (p : ℕ) (ns : List Note) (h : History) → Ties causes shape p ns h → events_with test (share h p) ≡ notes_with test ns
share-noted test causes shape p ns h tied = ap (events_with test) (sym (share_is causes shape p ns h tied)) ∙ with-acts test p ns

-- what holds of each event of each share holds of all
pub all-shared : (P : Event → Type 0) (n : ℕ) (h : History) → AllByRecursion (λ (e : Event). e.thread ≤ n) h → ((p : ℕ) → p ≤ n → AllByRecursion P (share h p)) → AllByRecursion P h
all-shared P n [] few each = tt
all-shared P n (e ∷ h) few each = (head (is_of e.thread e) (eq-eqb e.thread e.thread refl) (each e.thread few.0), all-shared P n h few.1 (λ p l. tail p (is_of p e) (each p l)))
  where
    head : (b : Bool) → b ≡ true → AllByRecursion P (cond b (e ∷ share h e.thread) (share h e.thread)) → P e
    head true t a = a.0
    head false t a = absurd cc

    tail : (p : ℕ) (b : Bool) → AllByRecursion P (cond b (e ∷ share h p) (share h p)) → AllByRecursion P (share h p)
    tail p true a = a.1
    tail p false a = a
