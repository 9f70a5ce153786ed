-- How many references come to all threads: no more than to each of them, thread by thread.
use Rattle.std.proofs.Common.{◌≡◌, ◌⊎◌, inl, inr, ℕ, zero, suc, ◌+◌, ◌≤◌, ◌<◌, ◌&&◌, Bool, true, false, cond, [], ◌∷◌, refl, ap, arith, eq-eqb}
use Rattle.std.proofs.lemmas.Bool.{cases_lt}
use Rattle.arc_model.specs.declared.event.Event.{Event}
use Rattle.arc_model.specs.WellFormed.{more}
use Rattle.arc_model.specs.History.{History, brings, is_of, next_hand, share}
use Rattle.arc_model.proofs.Others.{not-among}
use Rattle.arc_view_laws.proofs.Counted.{counted, counted_cons}
use Rattle.arc_replays.proofs.Bare.{came_in}

-- the references that came to thread p
abbrev came_to : ℕ → History → ℕ
came_to p h = counted brings p h

-- to the first threads
abbrev came_below : ℕ → History → ℕ
came_below zero h = 0
came_below (suc p) h = came_to p h + came_below p h

more_is : (b : Bool) (n : ℕ) → more b n ≡ cond b 1 0 + n
more_is true n = omega arith
more_is false n = omega arith

grows : (n : ℕ) (e : Event) (h : History) → came_below n h ≤ came_below n (e ∷ h)
grows zero e h = omega arith
grows (suc p) e h = let c = counted_cons brings p e h in let ih = grows p e h in omega arith

adds : (n : ℕ) (e : Event) (h : History) → e.thread < n → more (brings e.act) (came_below n h) ≤ came_below n (e ∷ h)
adds zero e h lt = absurd (omega arith)
adds (suc p) e h lt = go (cases_lt e.thread p) (λ less. adds p e h less)
  where
    go : (e.thread < p) ⊎ (p ≤ e.thread) → (e.thread < p → more (brings e.act) (came_below p h) ≤ came_below p (e ∷ h)) → more (brings e.act) (came_to p h + came_below p h) ≤ came_to p (e ∷ h) + came_below p (e ∷ h)
    go (inl less) ih = let a = ih less in let b = more_is (brings e.act) (came_below p h) in let d = more_is (brings e.act) (came_to p h + came_below p h) in let c = counted_cons brings p e h in omega arith
    go (inr ge) ih =
        let same : e.thread ≡ p = omega arith in
        let own : cond (is_of p e && brings e.act) 1 zero ≡ cond (brings e.act) 1 zero = ap (λ b. cond (b && brings e.act) 1 zero) (eq-eqb e.thread p same) in
        let d = more_is (brings e.act) (came_to p h + came_below p h) in let c = counted_cons brings p e h in let g = grows p e h in omega arith

all_below : (n : ℕ) (h : History) → ((p : ℕ) → n ≤ p → share h p ≡ []) → came_in h ≤ came_below n h
all_below n [] none = omega arith
all_below n (e ∷ h) none = go (cases_lt e.thread n) (all_below n h (λ p ge. (not-among p e h (none p ge)).1))
  where
    go : (e.thread < n) ⊎ (n ≤ e.thread) → came_in h ≤ came_below n h → more (brings e.act) (came_in h) ≤ came_below n (e ∷ h)
    go (inl lt) ih = let a = adds n e h lt in let b = more_is (brings e.act) (came_in h) in let d = more_is (brings e.act) (came_below n h) in omega arith
    go (inr ge) ih = absurd ((not-among e.thread e h (none e.thread ge)).0 refl)

abbrev times : ℕ → ℕ → ℕ
times zero m = 0
times (suc n) m = m + times n m

below_few : (n m : ℕ) (h : History) → ((p : ℕ) → next_hand p h ≤ m + 1) → came_below n h ≤ times n m
below_few zero m h few = omega arith
below_few (suc p) m h few = let a = few p in let ih = below_few p m h few in omega arith

-- 65 threads to each of which so many came
pub came_few : (h : History) → ((p : ℕ) → 64 < p → share h p ≡ []) → ((p : ℕ) → next_hand p h ≤ 200067) → came_in h < 1073741823
came_few h none few =
    let a = all_below 65 h (λ p ge. none p (omega arith)) in
    let b = below_few 65 200066 h few in
    let c : times 65 200066 ≡ 13004290 = refl in
    omega arith
