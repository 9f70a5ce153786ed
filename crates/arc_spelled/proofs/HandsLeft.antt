-- What a thread takes out of fields was put into cells by the operations of a script, so that a hand is left for it.
use Rattle.std.proofs.Common.{◌≡◌, ℕ, zero, suc, ◌+◌, ◌-◌, ◌≤◌, Bool, true, false, cond, eqb, List, [], ◌∷◌, length, refl, ap, ◌∙◌, arith}
use Rattle.std.specs.Prelude.{slice_get, sum_by}
use Rattle.std.specs.List.{AllByRecursion}
use Rattle.std.proofs.lemmas.Bool.{eq-eqb, ne_eqb}
use Rattle.std.proofs.lemmas.List.Concat.{length-flat_map}
use Rattle.std.proofs.lemmas.List.Sums.{sum_by-cons}
use Rattle.arc_model.specs.declared.event.Act.{Act}
use Rattle.arc_model.specs.declared.event.Event.{Event}
use Rattle.arc_model.specs.Heaps.{Heap}
use Rattle.arc_model.specs.Shapes.{HeapShape}
use Rattle.arc_model.specs.History.{History, heap_after, share, is_of}
use Rattle.arc_spelling.specs.Spelling.{Note, one_more_if}
use Rattle.arc_spelling.specs.Spelling.Note.{Did, Line, Operation, Name, Entry, NeedsEntry, Nil, Refers}
use Rattle.arc_spelling.specs.SpellingTies.{Causes, Holds}
use Rattle.arc_spelling.specs.SpellingTies.Ties.{start, own, other, noted}
use Rattle.arc_model.specs.WellFormed.{more}
use Rattle.arc_hand_counts.specs.Counts.{is_put, is_taken, times, puts, sum_to}
use Rattle.arc_hand_counts.specs.Laws.{NoThreadAbove}
use Rattle.arc_hand_counts.proofs.Events.{times-cons}
use Rattle.arc_hand_counts.proofs.Threads.{hands_fit}
use Rattle.arc_script.specs.declared.script.Op.{Op}
use Rattle.arc_script.specs.declared.script.ThreadDecl.{ThreadDecl}
use Rattle.arc_script.specs.declared.script.Script.{Script}
use Rattle.arc_script.specs.OneList.{in_one_list}
use Rattle.arc_script.specs.Valid.{op_count}
use Rattle.arc_script.proofs.OneList.{length_in_one}
use Rattle.arc_served.specs.Programs.{phases_in, program_of}
use Rattle.arc_spelled.specs.Counts.{put_in, taken_out}
use Rattle.arc_spelled.specs.Spelled.{work_of}
use Rattle.arc_spelled.specs.Puts.{NotesCountCells, FewAreTaken, HandsAreLeft}
use Rattle.arc_spelled.proofs.Puts.{puts_are_few}

-- ---- a thread's share of a history, and its notes

one-more-is : (b : Bool) (n : ℕ) → more b n ≡ one_more_if b n
one-more-is true n = omega arith
one-more-is false n = refl

own-times : (test : Act → Bool) (p : ℕ) (a : Act) (h : History) → times test (share (record { thread = p; act = a } ∷ h) p) ≡ one_more_if (test a) (times test (share h p))
own-times test p a h =
    let e : Event = record { thread = p; act = a } in
    ap (λ (b : Bool). times test (cond b (e ∷ share h p) (share h p))) (eq-eqb p p refl) ∙ times-cons test e (share h p) ∙ one-more-is (test a) (times test (share h p))

other-times : (test : Act → Bool) (p : ℕ) (e : Event) (h : History) → is_of p e ≡ false → times test (share (e ∷ h) p) ≡ times test (share h p)
other-times test p e h f = ap (λ (b : Bool). times test (cond b (e ∷ share h p) (share h p))) f

-- a note between events counts nothing
fact-counts : (causes : Causes) (shape : HeapShape) (heap : Heap) (n : Note) (ns : List Note) → Holds causes shape heap n → (put_in (n ∷ ns) ≡ put_in ns) × (taken_out (n ∷ ns) ≡ taken_out ns)
fact-counts causes shape heap (Did a) ns holds = absurd holds
fact-counts causes shape heap (Line a) ns holds = (refl, refl)
fact-counts causes shape heap (Operation k) ns holds = (refl, refl)
fact-counts causes shape heap (Name s name) ns holds = (refl, refl)
fact-counts causes shape heap (Entry s entry) ns holds = (refl, refl)
fact-counts causes shape heap (NeedsEntry s list) ns holds = (refl, refl)
fact-counts causes shape heap (Nil c) ns holds = (refl, refl)
fact-counts causes shape heap (Refers c kind place) ns holds = (refl, refl)

pub notes_count_cells : NotesCountCells
notes_count_cells causes shape p ns h start = (refl, refl)
notes_count_cells causes shape p ns h (own {a = a} {ns = b} {h = g} t) =
    let ih = notes_count_cells causes shape p b g t in
    (own-times is_put p a g ∙ ap (one_more_if (is_put a)) ih.0, own-times is_taken p a g ∙ ap (one_more_if (is_taken a)) ih.1)
notes_count_cells causes shape p ns h (other {e = e} {ns = b} {h = g} t f) =
    let ih = notes_count_cells causes shape p b g t in
    (other-times is_put p e g f ∙ ih.0, other-times is_taken p e g f ∙ ih.1)
notes_count_cells causes shape p ns h (noted {n = n} {ns = b} {h = g} t holds) =
    let ih = notes_count_cells causes shape p b g t in
    let same = fact-counts causes shape (heap_after g) n b holds in
    let put = same.0 in
    let taken = same.1 in
    let puts_are = ih.0 in
    let takes_are = ih.1 in (omega arith, omega arith)

-- ---- the operations of all threads

-- the sum of f over the numbers below n
abbrev sum-below : ℕ → (ℕ → ℕ) → ℕ
sum-below zero f = 0
sum-below (suc n) f = f 0 + sum-below n (λ q. f (suc q))

sum-last : (n : ℕ) (f : ℕ → ℕ) → sum-below (suc n) f ≡ sum-below n f + f n
sum-last zero f = omega arith
sum-last (suc n) f = let ih = sum-last n (λ q. f (suc q)) in omega arith

sum-same : (n : ℕ) (f g : ℕ → ℕ) → ((q : ℕ) → f q ≡ g q) → sum-below n f ≡ sum-below n g
sum-same zero f g same = refl
sum-same (suc n) f g same = let a = same 0 in let ih = sum-same n (λ q. f (suc q)) (λ q. g (suc q)) (λ q. same (suc q)) in omega arith

sum-from-first : (n : ℕ) (f : ℕ → ℕ) → sum_to n f ≡ f 0 + sum-below n (λ q. f (suc q))
sum-from-first zero f = omega arith
sum-from-first (suc n) f = let ih = sum-from-first n f in let last = sum-last n (λ q. f (suc q)) in omega arith

-- how many operations the thread at a place of a list has
abbrev ops-at : List ThreadDecl → ℕ → ℕ
ops-at ts q = length (in_one_list 0 (phases_in (slice_get ts q)))

ops-of : (phases : List (List Op)) → length (in_one_list 0 phases) ≡ sum_by (λ (ops : List Op). length ops) phases
ops-of phases = length_in_one 0 phases ∙ length-flat_map (λ (ops : List Op). ops) phases

ops-below : (ts : List ThreadDecl) → sum-below (length ts) (ops-at ts) ≡ op_count ts
ops-below [] = refl
ops-below (t ∷ ts) =
    let all = sum_by-cons (λ (u : ThreadDecl). sum_by (λ (o : List Op). length o) u.phases) t ts in
    let first = ops-of t.phases in
    let ih = ops-below ts in omega arith

-- the thread at a place has the number above
at-place : (s : Script) (q : ℕ) → length (program_of s (suc q)) ≡ ops-at s.threads q
at-place s q =
    let other : eqb (suc q) 0 ≡ false = ne_eqb (suc q) 0 (λ e. omega (arith, e)) in
    let before : suc q - 1 ≡ q = omega arith in
    rw (other, before) refl

programs-few : (s : Script) → sum_to (length s.threads) (λ q. length (program_of s q)) ≡ op_count s.threads
programs-few s =
    let a = sum-from-first (length s.threads) (λ q. length (program_of s q)) in
    let b = sum-same (length s.threads) (λ q. length (program_of s (suc q))) (ops-at s.threads) (at-place s) in
    let c = ops-below s.threads in omega arith

-- ---- hands

none-above : (n : ℕ) (h : History) → AllByRecursion (λ (e : Event). e.thread ≤ n) h → NoThreadAbove n h
none-above n [] within p above = refl
none-above n (e ∷ h) within p above =
    let below : e.thread ≤ n = within.0 in
    ap (λ (b : Bool). cond b (e ∷ share h p) (share h p)) (ne_eqb e.thread p (λ same. omega (arith, same))) ∙ none-above n h within.1 p above

pub few_are_taken : FewAreTaken
few_are_taken causes s h p a =
    let m : ℕ → ℕ = λ q. length (program_of s q) in
    let fit = hands_fit s.shape (length s.threads) m h p a.legal (none-above (length s.threads) h a.no_other) few in
    let all = programs-few s in
    let limit = a.valid.few_ops in omega arith
  where
    few : (q : ℕ) → q ≤ length s.threads → puts (share h q) ≤ length (program_of s q)
    few q within =
        let y = a.each q within in
        let most = puts_are_few (work_of s q y.came) y.stepper y.chain y.notes y.stands in
        let tied = (notes_count_cells causes s.shape q y.notes h y.tied).0 in omega arith

pub hands_are_left : HandsAreLeft
hands_are_left causes s h p x a =
    let few = few_are_taken causes s h p a in
    let tied = (notes_count_cells causes s.shape p x.notes h x.tied).1 in
    let counted = x.stands.counts.taken_is in (omega arith, omega arith)
