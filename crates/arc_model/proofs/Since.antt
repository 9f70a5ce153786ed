-- What other threads leave of a thread's next number, and the points that `ever_since` speaks of.
use Rattle.std.proofs.Common.{◌≡◌, ℕ, Bool, true, false, cond, [], ◌∷◌, ◌++◌, refl, sym, ap, ◌∙◌}
use Rattle.std.specs.Prelude.{◌||◌}
use Rattle.std.proofs.lemmas.Bool.{eqb-true, ne_eqb}
use Rattle.arc_model.specs.Heaps.{Heap}
use Rattle.arc_model.specs.History.{History, heap_after, next_hand, brings, is_of, ever_since, share}
use Rattle.arc_model.specs.WellFormed.{more}
use Rattle.arc_model.specs.Others.{NextHandStays, SeenAt, SeenIsAtPoint}
use Rattle.arc_model.proofs.Basics.{true≢false}
use Rattle.arc_model.proofs.Builds.{advance}
use Rattle.arc_model.proofs.Courses.{next-step}
use Rattle.arc_model.proofs.Others.{not-among}

advance-other : (b : Bool) (p r : ℕ) (next : ℕ → ℕ) → (p ≡ r → ⊥) → advance b p next r ≡ next r
advance-other true p r next other = ap (λ c. more c (next r)) (ne_eqb p r other)
advance-other false p r next other = refl

pub next_hand_stays : NextHandStays
next_hand_stays p before [] none = refl
next_hand_stays p before (e ∷ after) none =
    let apart = not-among p e after none in
    sym (next-step p e (after ++ before)) ∙ advance-other (brings e.act) e.thread p (λ q. next_hand q (after ++ before)) apart.0 ∙ next_hand_stays p before after apart.1

-- a point for what was seen
point-of : (p : ℕ) (test : Heap → Bool) (h : History) → ever_since p test h ≡ true → SeenAt p test h
point-of p test [] e = record { later = []; earlier = []; split = refl; since = refl; seen = e }
point-of p test (e ∷ h) ever = go (test (heap_after (e ∷ h))) (is_of p e) refl refl ever (point-of p test h)
  where
    go : (now mine : Bool) → test (heap_after (e ∷ h)) ≡ now → is_of p e ≡ mine → (now || cond mine false (ever_since p test h)) ≡ true → (ever_since p test h ≡ true → SeenAt p test h) → SeenAt p test (e ∷ h)
    go true mine t m ever ih = record { later = []; earlier = e ∷ h; split = refl; since = refl; seen = t }
    go false true t m ever ih = absurd (true≢false (sym ever))
    go false false t m ever ih =
        let s = ih ever in
        record { later = e ∷ s.later; earlier = s.earlier; split = ap (λ h. e ∷ h) s.split; since = ap (λ b. cond b (e ∷ share s.later p) (share s.later p)) m ∙ s.since; seen = s.seen }

or-true : (b : Bool) → (b || true) ≡ true
or-true true = refl
or-true false = refl

seen-here : (p : ℕ) (test : Heap → Bool) (h : History) → test (heap_after h) ≡ true → ever_since p test h ≡ true
seen-here p test [] t = t
seen-here p test (e ∷ h) t = ap (λ b. b || cond (is_of p e) false (ever_since p test h)) t

seen-later : (p : ℕ) (test : Heap → Bool) (later earlier : History) → share later p ≡ [] → test (heap_after earlier) ≡ true → ever_since p test (later ++ earlier) ≡ true
seen-later p test [] earlier none t = seen-here p test earlier t
seen-later p test (e ∷ later) earlier none t =
    let apart = not-among p e later none in
    let not-mine : is_of p e ≡ false = go (is_of p e) refl apart.0 in
    ap (λ b. test (heap_after (e ∷ later ++ earlier)) || cond b false (ever_since p test (later ++ earlier))) not-mine
    ∙ ap (λ b. test (heap_after (e ∷ later ++ earlier)) || b) (seen-later p test later earlier apart.1 t)
    ∙ or-true (test (heap_after (e ∷ later ++ earlier)))
  where
    go : (b : Bool) → is_of p e ≡ b → (e.thread ≡ p → ⊥) → b ≡ false
    go true h other = absurd (other (eqb-true e.thread p h))
    go false h other = refl

pub seen_is_at_point : SeenIsAtPoint
seen_is_at_point p test h = (point-of p test h, λ s. ap (ever_since p test) s.split ∙ seen-later p test s.later s.earlier s.since s.seen)
