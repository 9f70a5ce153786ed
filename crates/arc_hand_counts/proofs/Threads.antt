-- What threads do, added up.
use Rattle.std.proofs.Common.{◌≡◌, ◌≢◌, ◌⊎◌, inl, inr, ℕ, zero, suc, ◌+◌, ◌<◌, ◌≤◌, Bool, cond, [], ◌∷◌, refl, sym, ap, ◌∙◌, arith}
use Rattle.std.proofs.lemmas.Bool.{cases_eq, cases_lt, eq-eqb, ne_eqb}
use Rattle.arc_model.specs.declared.event.Act.{Act}
use Rattle.arc_model.specs.declared.event.Event.{Event}
use Rattle.arc_model.specs.History.{History, share}
use Rattle.arc_model.specs.WellFormed.{more}
use Rattle.arc_model.proofs.Others.{not-among}
use Rattle.arc_hand_counts.specs.Counts.{is_put, is_taken, times, puts, sum_to}
use Rattle.arc_hand_counts.specs.Laws.{OwnTakesWerePut, ThreadsAddUp, HandsFit}
use Rattle.arc_hand_counts.proofs.Cells.{more-is}
use Rattle.arc_hand_counts.proofs.Events.{times-cons, takes_were_put}

-- an event's own thread, and another
share-own : (p : ℕ) (e : Event) (h : History) → e.thread ≡ p → share (e ∷ h) p ≡ e ∷ share h p
share-own p e h same = ap (λ b. cond b (e ∷ share h p) (share h p)) (eq-eqb e.thread p same)

share-other : (p : ℕ) (e : Event) (h : History) → e.thread ≢ p → share (e ∷ h) p ≡ share h p
share-other p e h other = ap (λ b. cond b (e ∷ share h p) (share h p)) (ne_eqb e.thread p other)

own-times : (test : Act → Bool) (p : ℕ) (e : Event) (h : History) → e.thread ≡ p → times test (share (e ∷ h) p) ≡ more (test e.act) (times test (share h p))
own-times test p e h same = ap (times test) (share-own p e h same) ∙ times-cons test e (share h p)

other-times : (test : Act → Bool) (p : ℕ) (e : Event) (h : History) → e.thread ≢ p → times test (share (e ∷ h) p) ≡ times test (share h p)
other-times test p e h other = ap (times test) (share-other p e h other)

-- a thread does no more than all do
times-share : (test : Act → Bool) (p : ℕ) (h : History) → times test (share h p) ≤ times test h
times-share test p [] = omega arith
times-share test p (e ∷ h) =
    let ih = times-share test p h in
    let all = times-cons test e h in
    let one = more-is (test e.act) (times test h) in
    elim (cases_eq e.thread p) [
      | inl same ↦ let own = own-times test p e h same in let its = more-is (test e.act) (times test (share h p)) in omega arith
      | inr other ↦ let rest = other-times test p e h other in omega arith
    ]

pub own_takes_were_put : OwnTakesWerePut
own_takes_were_put shape p h legal = let a = times-share is_taken p h in let b = takes_were_put shape h legal in omega arith

-- sums
sum-same : (n : ℕ) (f g : ℕ → ℕ) → ((q : ℕ) → q ≤ n → g q ≡ f q) → sum_to n g ≡ sum_to n f
sum-same zero f g same = same zero (omega arith)
sum-same (suc n) f g same = let a = same (suc n) (omega arith) in let b = sum-same n f g (λ q le. same q (omega arith)) in omega arith

sum-le : (n : ℕ) (f g : ℕ → ℕ) → ((q : ℕ) → q ≤ n → f q ≤ g q) → sum_to n f ≤ sum_to n g
sum-le zero f g less = less zero (omega arith)
sum-le (suc n) f g less = let a = less (suc n) (omega arith) in let b = sum-le n f g (λ q le. less q (omega arith)) in omega arith

sum-none : (n : ℕ) → sum_to n (λ _. zero) ≡ zero
sum-none zero = refl
sum-none (suc n) = let a = sum-none n in omega arith

-- where one summand grows so does the sum
sum-more : (b : Bool) (n r : ℕ) (f g : ℕ → ℕ) → r ≤ n → ((q : ℕ) → r ≡ q → g q ≡ more b (f q)) → ((q : ℕ) → r ≢ q → g q ≡ f q) → sum_to n g ≡ more b (sum_to n f)
sum-more b zero r f g le here else = here zero (omega arith)
sum-more b (suc n) r f g le here else =
    elim (cases_eq r (suc n)) [
      | inl last ↦
          let a = here (suc n) last in
          let c = sum-same n f g (λ q le. else q (λ same. omega (arith, le, same, last))) in
          let d = more-is b (f (suc n)) in
          let e = more-is b (f (suc n) + sum_to n f) in omega arith
      | inr before ↦
          let a = else (suc n) before in
          let c = sum-more b n r f g (omega arith) here else in
          let d = more-is b (sum_to n f) in
          let e = more-is b (f (suc n) + sum_to n f) in omega arith
    ]

pub threads_add_up : ThreadsAddUp
threads_add_up test n [] none = let a = sum-none n in omega arith
threads_add_up test n (e ∷ h) none = go (cases_lt n e.thread) (threads_add_up test n h (λ p above. (not-among p e h (none p above)).1))
  where
    go : (n < e.thread) ⊎ (e.thread ≤ n) → times test h ≡ sum_to n (λ p. times test (share h p)) → times test (e ∷ h) ≡ sum_to n (λ p. times test (share (e ∷ h) p))
    go (inl above) ih = absurd ((not-among e.thread e h (none e.thread above)).0 refl)
    go (inr within) ih =
        let sum = sum-more (test e.act) n e.thread (λ p. times test (share h p)) (λ p. times test (share (e ∷ h) p)) within (λ p same. own-times test p e h same) (λ p other. other-times test p e h other) in
        times-cons test e h ∙ ap (more (test e.act)) ih ∙ sym sum

pub hands_fit : HandsFit
hands_fit shape n m h p legal none few =
    let a = own_takes_were_put shape p h legal in
    let b = threads_add_up is_put n h none in
    let c = sum-le n (λ q. puts (share h q)) m few in omega arith
