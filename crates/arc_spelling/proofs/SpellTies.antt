-- What the notes of a thread are in its history.
use Rattle.std.proofs.Common.{◌≡◌, ◌+◌, ◌==◌, ◌&&◌, ◌||◌, cond, ℕ, true, false, Bool, List, [], ◌∷◌, ◌++◌, refl, sym, ap, ◌∙◌, eq-eqb, arith}
use Rattle.std.specs.Prelude.{map, count_by}
use Rattle.std.proofs.lemmas.List.Sums.{sum_by-cons}
use Rattle.arc_model.specs.declared.event.Event.{Event}
use Rattle.arc_model.specs.Shapes.{HeapShape}
use Rattle.arc_model.specs.Heaps.{Heap}
use Rattle.arc_model.specs.History.{History, heap_after, ever_since, share, is_of, brings}
use Rattle.arc_spelling.specs.Spelling.{Note, is_fact, hands_of, acts_of, one_more_if}
use Rattle.arc_spelling.specs.Spelling.Note.{Did, Line, Operation, Name, Entry, NeedsEntry, Nil, Refers}
use Rattle.arc_spelling.specs.SpellingTies.{Causes, Holds, Ties, needs_entry, NotesAreShare, NotesCountHands, TiesWithoutCauses, CausesAreRecent, FactsAreRecent, OthersAddNothing}
use Rattle.arc_spelling.specs.SpellingTies.Causes.{Judged, LeftAside}
use Rattle.arc_spelling.specs.SpellingTies.Ties.{start, own, other, noted}

-- a note that says something of the heap, or nothing, is no event
no-act : (causes : Causes) (shape : HeapShape) (heap : Heap) (n : Note) (ns : List Note) → Holds causes shape heap n → acts_of (n ∷ ns) ≡ acts_of ns
no-act causes shape heap (Did a) ns x = absurd x
no-act causes shape heap (Line a) ns x = refl
no-act causes shape heap (Operation k) ns x = refl
no-act causes shape heap (Name s name) ns x = refl
no-act causes shape heap (Entry s e) ns x = refl
no-act causes shape heap (NeedsEntry s l) ns x = refl
no-act causes shape heap (Nil c) ns x = refl
no-act causes shape heap (Refers c kind place) ns x = refl

no-hand : (causes : Causes) (shape : HeapShape) (heap : Heap) (n : Note) (ns : List Note) → Holds causes shape heap n → hands_of (n ∷ ns) ≡ hands_of ns
no-hand causes shape heap (Did a) ns x = absurd x
no-hand causes shape heap (Line a) ns x = refl
no-hand causes shape heap (Operation k) ns x = refl
no-hand causes shape heap (Name s name) ns x = refl
no-hand causes shape heap (Entry s e) ns x = refl
no-hand causes shape heap (NeedsEntry s l) ns x = refl
no-hand causes shape heap (Nil c) ns x = refl
no-hand causes shape heap (Refers c kind place) ns x = refl

pub share_is : NotesAreShare
share_is causes shape p ns h start = refl
share_is causes shape p ns h (own {a = a} {ns = ms} {h = before} t) = rw (eq-eqb p p refl) (ap (λ es. record { thread = p; act = a } ∷ es) (share_is causes shape p ms before t))
share_is causes shape p ns h (other {h = before} t e) = rw e (share_is causes shape p ns before t)
share_is causes shape p ns h (noted {n = n} {ns = ms} t x) = ap (map (λ a. record { thread = p; act = a })) (no-act causes shape (heap_after h) n ms x) ∙ share_is causes shape p ms h t

hand-own : (b c : Bool) (n m k : ℕ) → c ≡ true → n ≡ cond (c && b) 1 0 + m → m + 1 ≡ k + 1 → n + 1 ≡ one_more_if b k + 1
hand-own true true n m k e is before = omega arith
hand-own false true n m k e is before = omega arith
hand-own b false n m k e is before = absurd cc

hand-other : (b c : Bool) (n m k : ℕ) → c ≡ false → n ≡ cond (c && b) 1 0 + m → m + 1 ≡ k + 1 → n + 1 ≡ k + 1
hand-other b true n m k e is before = absurd cc
hand-other b false n m k e is before = omega arith

pub hands_are : NotesCountHands
hands_are causes shape p ns h start = refl
hands_are causes shape p ns h (own {a = a} {ns = ms} {h = before} t) =
    let e : Event = record { thread = p; act = a } in
    let test : Event → Bool = λ (v : Event). is_of p v && brings v.act in
    hand-own (brings a) (p == p) (count_by test (e ∷ before)) (count_by test before) (hands_of ms) (eq-eqb p p refl) (sum_by-cons (λ (v : Event). cond (test v) 1 0) e before) (hands_are causes shape p ms before t)
hands_are causes shape p ns h (other {e = e} {h = before} t x) =
    let test : Event → Bool = λ (v : Event). is_of p v && brings v.act in
    hand-other (brings e.act) (e.thread == p) (count_by test (e ∷ before)) (count_by test before) (hands_of ns) x (sum_by-cons (λ (v : Event). cond (test v) 1 0) e before) (hands_are causes shape p ns before t)
hands_are causes shape p ns h (noted {n = n} {ns = ms} t x) = hands_are causes shape p ms h t ∙ ap (λ k. k + 1) (sym (no-hand causes shape (heap_after h) n ms x))

left-aside : (shape : HeapShape) (heap : Heap) (n : Note) → Holds Judged shape heap n → Holds LeftAside shape heap n
left-aside shape heap (Did a) x = x
left-aside shape heap (Line a) x = x
left-aside shape heap (Operation k) x = x
left-aside shape heap (Name s name) x = x
left-aside shape heap (Entry s e) x = x
left-aside shape heap (NeedsEntry s l) x = tt
left-aside shape heap (Nil c) x = x
left-aside shape heap (Refers c kind place) x = x

pub causes_left_aside : TiesWithoutCauses
causes_left_aside shape p ns h start = start
causes_left_aside shape p ns h (own {ns = ms} {h = before} t) = own (causes_left_aside shape p ms before t)
causes_left_aside shape p ns h (other {h = before} t e) = other (causes_left_aside shape p ns before t) e
causes_left_aside shape p ns h (noted {n = n} {ns = ms} t x) = noted (causes_left_aside shape p ms h t) (left-aside shape (heap_after h) n x)

-- what holds now holds ever since
since_now : (p : ℕ) (test : Heap → Bool) (h : History) → test (heap_after h) ≡ true → ever_since p test h ≡ true
since_now p test [] e = e
since_now p test (x ∷ h) e = rw e refl

or-true : (a b : Bool) → b ≡ true → (a || b) ≡ true
or-true true b e = refl
or-true false b e = e

pub causes_recent : CausesAreRecent
causes_recent shape p slot list ns h (other {e = e} {h = before} t x) =
    or-true (needs_entry shape slot list (heap_after (e ∷ before))) (cond (is_of p e) false (ever_since p (needs_entry shape slot list) before)) (rw x (causes_recent shape p slot list ns before t))
causes_recent shape p slot list ns h (noted t x) = since_now p (needs_entry shape slot list) h x

-- other threads' events change nothing
pub ties_others : OthersAddNothing
ties_others causes shape p ns h [] quiet t = t
ties_others causes shape p ns h (e ∷ later) quiet t = go (is_of p e) refl (ties_others causes shape p ns h later)
  where
    go : (b : Bool) → is_of p e ≡ b → (share later p ≡ [] → Ties causes shape p ns h → Ties causes shape p ns (later ++ h)) → Ties causes shape p ns (e ∷ later ++ h)
    go true is rest = absurd (cc)
    go false is rest = other (rest (rw is at quiet) t) is

pub facts_recent : FactsAreRecent
facts_recent causes shape p n ns h fact (own t) = absurd cc
facts_recent causes shape p n ns h fact (other {e = e} {h = before} t x) =
    let r = facts_recent causes shape p n ns before fact t in
    record { later = e ∷ r.later; earlier = r.earlier; split = ap (λ es. e ∷ es) r.split; quiet = rw x r.quiet; holds = r.holds }
facts_recent causes shape p n ns h fact (noted t x) = record { later = []; earlier = h; split = refl; quiet = refl; holds = x }

-- a fact behind the thread's own event holds right behind it
pub fact_now : (causes : Causes) (shape : HeapShape) (p : ℕ) (n : Note) (ns : List Note) (e : Event) (h : History) →
    is_of p e ≡ true → is_fact n ≡ true → Ties causes shape p (n ∷ ns) (e ∷ h) → Holds causes shape (heap_after (e ∷ h)) n
fact_now causes shape p n ns e h mine fact (own t) = absurd cc
fact_now causes shape p n ns e h mine fact (other t x) = absurd cc
fact_now causes shape p n ns e h mine fact (noted t x) = x
