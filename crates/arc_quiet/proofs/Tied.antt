-- Along the notes of a thread in a history: it holds no more hands than came and didn't end, and has no more duties and claims
-- than were made and not paid.
use Rattle.std.proofs.Common.{◌≡◌, ℕ, zero, suc, ◌<◌, ◌≤◌, ◌+◌, ◌==◌, Bool, true, false, cond, eqb, not, List, [], ◌∷◌, Option, Some, None, inl, inr, refl, ap, ◌∙◌, subst, arith}
use Rattle.std.specs.Prelude.{◌&&◌, ◌||◌, is_some, slice_get}
use Rattle.std.specs.List.{list_any}
use Rattle.std.proofs.lemmas.Bool.{eqb-true, cases_lt}
use Rattle.arc_model.specs.declared.event.Act.{Act}
use Rattle.arc_model.specs.declared.event.Act.TheVariants as acts
use Rattle.arc_model.specs.declared.event.Event.{Event}
use Rattle.arc_model.specs.Shapes.{HeapShape}
use Rattle.arc_model.specs.Heaps.{Hand, Vacating, Owed, Object, Claimed, Heap}
use Rattle.arc_model.specs.Holders.{at_slot, owes_to, is_by}
use Rattle.arc_model.specs.Needs.{passes, needs}
use Rattle.arc_model.specs.WellFormed.{more, total}
use Rattle.arc_model.specs.History.{History, heap_after, next_hand, sight, brings, share, is_of, IsLegal}
use Rattle.arc_model.specs.Lookup.{spot, duty_in, owed_by}
use Rattle.arc_model.specs.Others.{IsQuiet}
use Rattle.arc_spelling.specs.Spelling.{Note, hands_of, one_more_if}
use Rattle.arc_spelling.specs.Spelling.Note.{Did, Line, Operation, Name, Entry, NeedsEntry, Nil, Refers}
use Rattle.arc_spelling.specs.SpellingTies.{Causes, Holds, Ties}
use Rattle.arc_spelling.specs.SpellingTies.Ties.{start, own, other, noted}
use Rattle.arc_model.proofs.Basics.{met, at_found}
use Rattle.arc_model.proofs.Builds.{some-is}
use Rattle.arc_model.proofs.Others.{others_leave, none-is}
use Rattle.arc_model.proofs.Since.{next_hand_stays}
use Rattle.arc_model.proofs.Tally.{clash}
use Rattle.arc_quiet.specs.Finished.{OwesNothing}
use Rattle.arc_quiet.proofs.Counts.{one_if, is_ending, ended_in, is_debt, debts_in, is_bare, is_payment, paid_in}
use Rattle.arc_quiet.proofs.Debts.{owes, claims_of, debts, pays, own_adds, others_add_none}
use Rattle.arc_quiet.proofs.Bare.{bare_now}
use Rattle.arc_quiet.proofs.HandsCounted.{count_below, is_held, held_hands, held-below, own_counted}
use Rattle.arc_quiet.proofs.NotesCounted.{Same}

-- a note between events counts nothing
pub held-same : (causes : Causes) (shape : HeapShape) (heap : Heap) (n : Note) (ns : List Note) → Holds causes shape heap n → Same ns (n ∷ ns)
held-same causes shape heap (Did a) ns x = absurd x
held-same causes shape heap (Line a) ns x = record { hands = refl; ended = refl; debts = refl; paid = refl }
held-same causes shape heap (Operation k) ns x = record { hands = refl; ended = refl; debts = refl; paid = refl }
held-same causes shape heap (Name s name) ns x = record { hands = refl; ended = refl; debts = refl; paid = refl }
held-same causes shape heap (Entry s o) ns x = record { hands = refl; ended = refl; debts = refl; paid = refl }
held-same causes shape heap (NeedsEntry s l) ns x = record { hands = refl; ended = refl; debts = refl; paid = refl }
held-same causes shape heap (Nil c) ns x = record { hands = refl; ended = refl; debts = refl; paid = refl }
held-same causes shape heap (Refers c kind place) ns x = record { hands = refl; ended = refl; debts = refl; paid = refl }

more-if : (b : Bool) (n : ℕ) → one_more_if b n ≡ n + one_if b
more-if true n = omega arith
more-if false n = omega arith

not-own : (p : ℕ) (e : Event) (h : History) → is_of p e ≡ false → share (e ∷ []) p ≡ []
not-own p e h x = ap (λ b. cond b (e ∷ []) []) x

pub hands_bound : (causes : Causes) (shape : HeapShape) (p : ℕ) (ns : List Note) (h : History) → Ties causes shape p ns h → IsLegal shape h → held_hands p h + ended_in ns ≤ hands_of ns
hands_bound causes shape p ns h start legal = omega arith
hands_bound causes shape p ns h (own {a = a} {ns = ms} {h = before} t) legal =
    let ih = hands_bound causes shape p ms before t legal.1 in
    let c = own_counted shape (record { thread = p; act = a }) before legal in
    let d = more-if (is_ending a) (ended_in ms) in
    let b = more-if (brings a) (hands_of ms) in
    omega arith
hands_bound causes shape p ns h (other {e = e} {h = before} t x) legal =
    let ih = hands_bound causes shape p ns before t legal.1 in
    let u = others_leave shape p before (e ∷ []) legal (not-own p e before x) in
    let n = next_hand_stays p before (e ∷ []) (not-own p e before x) in
    let same : held_hands p (e ∷ before) ≡ held_hands p before = ap (λ m. count_below m (is_held p (heap_after (e ∷ before)))) n ∙ same-below (next_hand p before) (is_held p (heap_after (e ∷ before))) (is_held p (heap_after before)) (λ k. ap is_some (u.hands k)) in
    omega arith
  where
    same-below : (n : ℕ) (f g : ℕ → Bool) → ((k : ℕ) → f k ≡ g k) → count_below n f ≡ count_below n g
    same-below zero f g h = refl
    same-below (suc n) f g h = let a : one_if (f n) ≡ one_if (g n) = ap one_if (h n) in let b = same-below n f g h in omega arith
hands_bound causes shape p ns h (noted {n = n} {ns = ms} t x) legal =
    let ih = hands_bound causes shape p ms h t legal in
    let s = held-same causes shape (heap_after h) n ms x in let sh = s.hands in let se = s.ended in
    omega arith

-- a payment among the notes is one in the heap
paid-is : (causes : Causes) (shape : HeapShape) (p : ℕ) (act : Act) (ns : List Note) (h : History) → 1 ≤ shape.caps.unowned → IsLegal shape (record { thread = p; act = act } ∷ h) → Ties causes shape p ns h →
    one_if (is_payment act ns) ≤ one_if (pays act (heap_after h))
paid-is causes shape p (acts.Vacate s) ns h cap legal t =
    let m = met (needs shape (sight p h) p (acts.Vacate s)) legal.0 in
    let r = some-is (at_slot s (heap_after h)) m.0 in
    let owed = at_found (owes_to p Vacating) (at_slot s (heap_after h)) r.0 r.1 m.1.0 in
    let e : one_if (passes (λ o. not (is_some o.entry)) (at_slot s (heap_after h))) ≡ one_if (not (is_some r.0.entry)) = ap (λ f. one_if (passes (λ o. not (is_some o.entry)) f)) r.1 in
    let g = go ns r.0 r.1 owed t in
    omega arith
  where
    bare : (t : ℕ) (b : List Note) (q : Object) → at_slot s (heap_after h) ≡ Some q → owes_to p Vacating q ≡ true → Ties causes shape p (Entry t None ∷ b) h → (c : Bool) → (t == s) ≡ c → one_if c ≤ one_if (not (is_some q.entry))
    bare t b q found owed tied true same =
        let tied' : Ties causes shape p (Entry s None ∷ b) h = subst (λ v. Ties causes shape p (Entry v None ∷ b) h) (eqb-true t s same) tied in
        let none = bare_now causes shape p s b h q cap legal.1 tied' found owed in
        let e : one_if (not (is_some q.entry)) ≡ 1 = ap (λ m. one_if (not (is_some m))) none in omega arith
    bare t b q found owed tied false same = omega arith

    go : (ns : List Note) (q : Object) → at_slot s (heap_after h) ≡ Some q → owes_to p Vacating q ≡ true → Ties causes shape p ns h → one_if (is_bare s ns) ≤ one_if (not (is_some q.entry))
    go [] q found owed t = omega arith
    go (Did a ∷ b) q found owed t = omega arith
    go (Line a ∷ b) q found owed t = omega arith
    go (Operation k ∷ b) q found owed t = omega arith
    go (Name n name ∷ b) q found owed t = omega arith
    go (Entry v None ∷ b) q found owed t = bare v b q found owed t (v == s) refl
    go (Entry v (Some e) ∷ b) q found owed t = omega arith
    go (NeedsEntry n l ∷ b) q found owed t = omega arith
    go (Nil c ∷ b) q found owed t = omega arith
    go (Refers c kind place ∷ b) q found owed t = omega arith
paid-is causes shape p (acts.Side s e list) ns h cap legal t = omega arith
paid-is causes shape p (acts.Back e) ns h cap legal t = omega arith
paid-is causes shape p (acts.Finish s last) ns h cap legal t = omega arith
paid-is causes shape p (acts.Gone e last) ns h cap legal t = omega arith
paid-is causes shape p (acts.New k c s) ns h cap legal t = omega arith
paid-is causes shape p acts.Full ns h cap legal t = omega arith
paid-is causes shape p (acts.Copy from k) ns h cap legal t = omega arith
paid-is causes shape p (acts.UnownedOf g k) ns h cap legal t = omega arith
paid-is causes shape p (acts.WeakOf g k) ns h cap legal t = omega arith
paid-is causes shape p (acts.Load g o) ns h cap legal t = omega arith
paid-is causes shape p (acts.Drop g last) ns h cap legal t = omega arith
paid-is causes shape p (acts.CountFull l from) ns h cap legal t = omega arith
paid-is causes shape p (acts.Claim e) ns h cap legal t = omega arith
paid-is causes shape p acts.NoEntry ns h cap legal t = omega arith
paid-is causes shape p (acts.Swap c g k) ns h cap legal t = omega arith
paid-is causes shape p (acts.Look c) ns h cap legal t = omega arith
paid-is causes shape p (acts.Take s f k) ns h cap legal t = omega arith

pub debts_bound : (causes : Causes) (shape : HeapShape) (p : ℕ) (ns : List Note) (h : History) → 1 ≤ shape.caps.unowned → Ties causes shape p ns h → IsLegal shape h → debts p (heap_after h) + paid_in ns ≤ debts_in ns
debts_bound causes shape p ns h cap start legal = omega arith
debts_bound causes shape p ns h cap (own {a = a} {ns = ms} {h = before} t) legal =
    let ih = debts_bound causes shape p ms before cap t legal.1 in
    let c = own_adds shape (sight p before) p a legal.0 in
    let q = paid-is causes shape p a ms before cap legal t in
    let d = more-if (is_debt a) (debts_in ms) in
    let b = more-if (is_payment a ms) (paid_in ms) in
    omega arith
debts_bound causes shape p ns h cap (other {e = e} {h = before} t x) legal =
    let ih = debts_bound causes shape p ns before cap t legal.1 in
    let c = others_add_none p e.thread e.act (heap_after before) x in
    omega arith
debts_bound causes shape p ns h cap (noted {n = n} {ns = ms} t x) legal =
    let ih = debts_bound causes shape p ms h cap t legal in
    let s = held-same causes shape (heap_after h) n ms x in let sd = s.debts in let sp = s.paid in
    omega arith

-- ---- a thread that has nothing

none-below : (n : ℕ) (test : ℕ → Bool) → count_below n test ≡ 0 → (k : ℕ) → k < n → test k ≡ false
none-below zero test e k l = absurd (omega arith)
none-below (suc n) test e k l =
    elim (cases_lt k n) [
      | inl below ↦ none-below n test (omega arith) k below
      | inr above ↦ let same : k ≡ n = omega arith in ap test same ∙ off (test n) (omega arith)
    ]
  where
    off : (b : Bool) → one_if b ≡ 0 → b ≡ false
    off true e = absurd (omega arith)
    off false e = refl

no-owes : (p : ℕ) (os : List Object) → total (owes p) os ≡ 0 → (i : ℕ) → duty_in p (slice_get os i) ≡ None
no-owes p [] e i = refl
no-owes p (o ∷ os) e zero = go o.owed (let a : owes p o ≡ 0 = omega arith in a)
  where
    go : (m : Option Owed) → more (is_by p m) 0 ≡ 0 → owed_by p m ≡ None
    go None e = refl
    go (Some d) e = step (eqb d.thread p) e
      where
        step : (b : Bool) → more b 0 ≡ 0 → cond b (Some d.duty) None ≡ None
        step true e = absurd (omega arith)
        step false e = refl
no-owes p (o ∷ os) e (suc i) = no-owes p os (omega arith) i

abbrev has_claim : ℕ → ℕ → List Claimed → Bool
has_claim p e cs = list_any (λ (c : Claimed). eqb c.thread p && eqb c.entry e) cs

no-claims : (p : ℕ) (cs : List Claimed) → claims_of p cs ≡ 0 → (n : ℕ) → has_claim p n cs ≡ false
no-claims p [] e n = refl
no-claims p (c ∷ cs) e n = go (eqb c.thread p) e (λ z. no-claims p cs z n)
  where
    go : (b : Bool) → more b (claims_of p cs) ≡ 0 → (claims_of p cs ≡ 0 → has_claim p n cs ≡ false) → (b && eqb c.entry n || has_claim p n cs) ≡ false
    go true e ih = absurd (omega arith)
    go false e ih = ih e

pub settled_if_none : (p : ℕ) (heap : Heap) → debts p heap ≡ 0 → OwesNothing p heap
settled_if_none p heap nothing = record { duties = λ i. no-owes p heap.objects (omega arith) i; claims = λ n. no-claims p heap.claims (omega arith) n }

pub quiet_if_none : (shape : HeapShape) (p : ℕ) (h : History) → IsLegal shape h → held_hands p h ≡ 0 → debts p (heap_after h) ≡ 0 → IsQuiet p (heap_after h)
quiet_if_none shape p h legal none nothing = record {
  hands = λ k. none-is (spot (Hand p k) (heap_after h)) (hand k (is_held p (heap_after h) k) refl);
  duties = λ i. no-owes p (heap_after h).objects (omega arith) i;
  claims = λ n. no-claims p (heap_after h).claims (omega arith) n;
}
  where
    hand : (k : ℕ) (b : Bool) → is_held p (heap_after h) k ≡ b → b ≡ false
    hand k true e = absurd (clash (is_held p (heap_after h) k) e (none-below (next_hand p h) (is_held p (heap_after h)) none k (held-below shape p k h legal e)))
    hand k false e = refl
