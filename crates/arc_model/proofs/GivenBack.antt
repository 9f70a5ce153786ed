-- EntryGivenBackBetween: an entry stays taken until it is given back, and then the object that had it has no weak holder.
use Rattle.std.proofs.Common.{◌≡◌, ℕ, zero, suc, ◌+◌, ◌≤◌, Bool, true, false, eqb, not, List, [], ◌∷◌, ◌++◌, append_assoc, Option, Some, None, ◌⊎◌, inl, inr, refl, sym, ap, ◌∙◌, subst, arith}
use Rattle.std.specs.Prelude.{◌||◌, find, slice_get, is_some}
use Rattle.std.specs.List.{list_any}
use Rattle.std.proofs.lemmas.Bool.{eq-eqb}
use Rattle.arc_model.specs.declared.event.Act.{Act}
use Rattle.arc_model.specs.declared.event.Act.TheVariants as acts
use Rattle.arc_model.specs.declared.event.Event.{Event}
use Rattle.arc_model.proofs.Basics.{met, true≢false, None≢Some}
use Rattle.arc_model.proofs.Builds.{advance, times-end}
use Rattle.arc_model.proofs.Courses.{course_after, well_formed, none-claimed, claim-counts}
use Rattle.arc_model.proofs.Keeps.{none-total, Course, still, makes, turn, turns}
use Rattle.arc_model.proofs.Others.{others_leave}
use Rattle.arc_model.proofs.Turns.{Turn, total-append, total-put}
use Rattle.arc_model.specs.Effects.{effect, made}
use Rattle.arc_model.specs.Heaps.{Holder, Object, Heap}
use Rattle.arc_model.specs.History.{History, heap_after, next_hand, brings, sight, IsLegal}
use Rattle.arc_model.specs.Holders.{is_empty, has_entry, is_number, claims_it, is_entry_taken}
use Rattle.arc_model.specs.Lookup.{entry_in}
use Rattle.arc_model.specs.Laws.{weak_in, IsGivenBack, EntryGivenBackBetween}
use Rattle.arc_model.specs.Others.{StaysQuiet}
use Rattle.arc_model.specs.Needs.{first_failing, needs}
use Rattle.arc_model.specs.Shapes.{HeapShape}
use Rattle.arc_model.specs.WellFormed.{more, total, has_entry_times, claimed_times}

-- how often an entry is taken
abbrev taken_times : ℕ → Heap → ℕ
taken_times e heap = total (has_entry_times e) heap.objects + claimed_times e heap.claims

taken-turn : {shape : HeapShape} (e p : ℕ) (act : Act) (next since : ℕ → ℕ) (old new : Heap) → Turn shape p act next since old new → taken_times e new ≡ taken_times e old
taken-turn e p act next since old new t = let a = total-put (has_entry_times e) old.objects new.objects t.o t.q t.put in let b = t.entries e in omega arith

taken-course : {shape : HeapShape} (e p : ℕ) (act : Act) (next since : ℕ → ℕ) (old new : Heap) → Course shape p act next since old new → 1 ≤ taken_times e old → (1 ≤ taken_times e new) ⊎ (act ≡ acts.Back e)
taken-course e p act next since old new (still same entries grows claims taken) h =
    elim (taken e) [
      | inl more' ↦ inl (let a : total (has_entry_times e) new.objects ≡ total (has_entry_times e) old.objects = ap (total (has_entry_times e)) same in omega arith)
      | inr back ↦ inr back
    ]
taken-course e p act next since old new (makes k c s is is_next later grows free) h =
    inl (subst (λ heap. 1 ≤ taken_times e heap) (sym is) (let a = total-append (has_entry_times e) old.objects (made p k c s old.objects ∷ []) in omega arith))
taken-course e p act next since old new (turn t) h = inl (let a = taken-turn e p act next since old new t in omega arith)
taken-course e p act next since old new (turns between mid t u cell left came swaps) h = inl (let a = taken-turn e p act next between old mid t in let b = taken-turn e p act between since mid new u in omega arith)

-- the object has the entry, or no weak holder
abbrev HasOrEmpty : ℕ → Option Object → Type 0
HasOrEmpty e m = (entry_in m ≡ Some e) ⊎ ((o : Object) × (m ≡ Some o) × (is_empty o.weak ≡ true))

none-has : {A : Type 0} (e : ℕ) → HasOrEmpty e None → A
none-has e (inl h) = absurd (None≢Some e h)
none-has e (inr g) = absurd (None≢Some g.0 g.1)

has-end : (e : ℕ) (os : List Object) (o : Object) (i : ℕ) → HasOrEmpty e (slice_get os i) → HasOrEmpty e (slice_get (os ++ o ∷ []) i)
has-end e [] o i h = none-has e h
has-end e (r ∷ os) o zero h = h
has-end e (r ∷ os) o (suc i) h = has-end e os o i h

has-put : (e : ℕ) (before after : List Object) (o q : Object) (i : ℕ) → (HasOrEmpty e (Some o) → HasOrEmpty e (Some q)) → HasOrEmpty e (slice_get (before ++ o ∷ after) i) → HasOrEmpty e (slice_get (before ++ q ∷ after) i)
has-put e [] after o q zero keeps h = keeps h
has-put e [] after o q (suc i) keeps h = h
has-put e (b ∷ before) after o q zero keeps h = h
has-put e (b ∷ before) after o q (suc i) keeps h = has-put e before after o q i keeps h

has-turn : {shape : HeapShape} (e p : ℕ) (act : Act) (next since : ℕ → ℕ) (old new : Heap) → Turn shape p act next since old new → (i : ℕ) → HasOrEmpty e (slice_get old.objects i) → HasOrEmpty e (slice_get new.objects i)
has-turn e p act next since old new t i h =
    subst (λ os. HasOrEmpty e (slice_get os i)) (sym t.put.new) (has-put e t.put.before t.put.after t.o t.q i keeps (subst (λ os. HasOrEmpty e (slice_get os i)) t.put.old h))
  where
    some-inj : {a b : Object} → Some a ≡ Some b → a ≡ b
    some-inj x = cc

    keeps : HasOrEmpty e (Some t.o) → HasOrEmpty e (Some t.q)
    keeps (inl has) = elim (t.entry_stays e has) [
      | inl same ↦ inl same
      | inr gone ↦ inr (t.q, refl, gone)
    ]
    keeps (inr g) = inr (t.q, refl, t.weak_stays (ap (λ (o : Object). is_empty o.weak) (some-inj g.1) ∙ g.2))

has-course : {shape : HeapShape} (e p : ℕ) (act : Act) (next since : ℕ → ℕ) (old new : Heap) → Course shape p act next since old new → (i : ℕ) → HasOrEmpty e (slice_get old.objects i) → HasOrEmpty e (slice_get new.objects i)
has-course e p act next since old new (still same entries grows claims taken) i h = subst (λ os. HasOrEmpty e (slice_get os i)) (sym same) h
has-course e p act next since old new (makes k c s is is_next later grows free) i h = subst (λ (heap : Heap). HasOrEmpty e (slice_get heap.objects i)) (sym is) (has-end e old.objects (made p k c s old.objects) i h)
has-course e p act next since old new (turn t) i h = has-turn e p act next since old new t i h
has-course e p act next since old new (turns between mid t u cell left came swaps) i h = has-turn e p act between since mid new u i (has-turn e p act next between old mid t i h)

its-course : (shape : HeapShape) (e : Event) (h : History) → IsLegal shape (e ∷ h) → Course shape e.thread e.act (λ q. next_hand q h) (advance (brings e.act) e.thread (λ q. next_hand q h)) (heap_after h) (heap_after (e ∷ h))
its-course shape e h legal = course_after shape e h legal (well_formed shape h legal.1)

has-after : (shape : HeapShape) (n i : ℕ) (before after : History) → IsLegal shape (after ++ before) → HasOrEmpty n (slice_get (heap_after before).objects i) → HasOrEmpty n (slice_get (heap_after (after ++ before)).objects i)
has-after shape n i before [] legal h = h
has-after shape n i before (e ∷ after) legal h =
    has-course n e.thread e.act (λ q. next_hand q (after ++ before)) (advance (brings e.act) e.thread (λ q. next_hand q (after ++ before))) (heap_after (after ++ before)) (heap_after (e ∷ after ++ before)) (its-course shape e (after ++ before) legal) i (has-after shape n i before after legal.1 h)

-- an object that has the entry counts
has-counts : (n : ℕ) (os : List Object) (i : ℕ) → entry_in (slice_get os i) ≡ Some n → 1 ≤ total (has_entry_times n) os
has-counts n [] i h = absurd (None≢Some n h)
has-counts n (o ∷ os) zero h = let a : has_entry_times n o ≡ 1 = ap (λ m. more (is_number m n) zero) h ∙ ap (λ b. more b zero) (eq-eqb n n refl) in omega arith
has-counts n (o ∷ os) (suc i) h = let a = has-counts n os i h in omega arith

empty-is : (xs : List Holder) → is_empty xs ≡ true → xs ≡ []
empty-is [] e = refl
empty-is (x ∷ xs) e = absurd (true≢false (sym e))

-- at a `back` of the entry
emptied : (shape : HeapShape) (n : ℕ) (before between : History) (e : Event) → IsLegal shape (e ∷ between ++ before) → e.act ≡ acts.Back n → (i : ℕ) (after since : History) → between ≡ after ++ since → entry_in (slice_get (heap_after (since ++ before)).objects i) ≡ Some n → weak_in (slice_get (heap_after (between ++ before)).objects i) ≡ []
emptied shape n before between e legal back i after since split has =
    let same : between ++ before ≡ after ++ (since ++ before) = ap (λ h. h ++ before) split ∙ append_assoc after since before in
    elim (has-after shape n i (since ++ before) after (subst (IsLegal shape) same legal.1) (inl has)) [
      | inl stands ↦
          let counts = has-counts n (heap_after (between ++ before)).objects i (ap (λ h. entry_in (slice_get (heap_after h).objects i)) same ∙ stands) in
          let f = (well_formed shape (between ++ before) legal.1).entries n in
          let ok : first_failing (needs shape (sight e.thread (between ++ before)) e.thread (acts.Back n)) ≡ None = ap (λ act. first_failing (needs shape (sight e.thread (between ++ before)) e.thread act)) (sym back) ∙ legal.0 in
          let claimed = claim-counts e.thread n (heap_after (between ++ before)).claims (met (needs shape (sight e.thread (between ++ before)) e.thread (acts.Back n)) ok).0 in
          absurd (omega arith)
      | inr g ↦ ap (λ h. weak_in (slice_get (heap_after h).objects i)) same ∙ ap weak_in g.1 ∙ empty-is g.0.weak g.2
    ]

taken_or_back : (shape : HeapShape) (n : ℕ) (before between : History) → IsLegal shape (between ++ before) → 1 ≤ taken_times n (heap_after before) → (1 ≤ taken_times n (heap_after (between ++ before))) ⊎ IsGivenBack n before between
taken_or_back shape n before [] legal h = inl h
taken_or_back shape n before (e ∷ between) legal h =
    elim (taken_or_back shape n before between legal.1 h) [
      | inl taken ↦ elim (taken-course n e.thread e.act (λ q. next_hand q (between ++ before)) (advance (brings e.act) e.thread (λ q. next_hand q (between ++ before))) (heap_after (between ++ before)) (heap_after (e ∷ between ++ before)) (its-course shape e (between ++ before) legal) taken) [
        | inl still' ↦ inl still'
        | inr back ↦ inr (record { later = []; earlier = between; event = e; split = refl; act = back; emptied = emptied shape n before between e legal back })
      ]
      | inr v ↦ inr (record { later = e ∷ v.later; earlier = v.earlier; event = v.event; split = ap (λ h. e ∷ h) v.split; act = v.act; emptied = v.emptied })
    ]

opposite : (b : Bool) → not b ≡ true → b ≡ false
opposite true e = absurd (true≢false (sym e))
opposite false e = refl

not-taken : (n : ℕ) (heap : Heap) → is_entry_taken n heap ≡ false → taken_times n heap ≡ 0
not-taken n heap h = go (list_any (claims_it n) heap.claims) (is_some (find (has_entry n) heap.objects)) refl refl h
  where
    go : (a b : Bool) → list_any (claims_it n) heap.claims ≡ a → is_some (find (has_entry n) heap.objects) ≡ b → (a || b) ≡ false → taken_times n heap ≡ 0
    go true b e f h = absurd (true≢false h)
    go false true e f h = absurd (true≢false h)
    go false false e f h = let c = none-claimed n heap.claims e in let d : total (has_entry_times n) heap.objects ≡ 0 = none-total (has_entry n) heap.objects f in omega arith

pub given_back : EntryGivenBackBetween
given_back shape n before between e f legal first second =
    elim (taken_or_back shape n (e ∷ before) between legal.1 taken) [
      | inl still' ↦
          let ok : first_failing (needs shape (sight f.thread (between ++ e ∷ before)) f.thread (acts.Claim n)) ≡ None = ap (λ act. first_failing (needs shape (sight f.thread (between ++ e ∷ before)) f.thread act)) (sym second) ∙ legal.0 in
          let none = not-taken n (heap_after (between ++ e ∷ before)) (opposite (is_entry_taken n (heap_after (between ++ e ∷ before))) (met (needs shape (sight f.thread (between ++ e ∷ before)) f.thread (acts.Claim n)) ok).0) in
          absurd (omega arith)
      | inr v ↦ v
    ]
  where
    taken : 1 ≤ taken_times n (heap_after (e ∷ before))
    taken =
        let a = times-end n (heap_after before).claims (record { thread = e.thread; entry = n }) in
        let b : more (eqb n n) (claimed_times n (heap_after before).claims) ≡ suc (claimed_times n (heap_after before).claims) = ap (λ b. more b (claimed_times n (heap_after before).claims)) (eq-eqb n n refl) in
        let c : 1 ≤ taken_times n (effect e.thread (acts.Claim n) (heap_after before)) = omega arith in
        subst (λ act. 1 ≤ taken_times n (effect e.thread act (heap_after before))) (sym first) c

pub stays_quiet : StaysQuiet
stays_quiet shape p before after legal none quiet =
    let same = others_leave shape p before after legal none in record {
      hands = λ k. same.hands k ∙ quiet.hands k;
      duties = λ i. same.duties i ∙ quiet.duties i;
      claims = λ e. same.claims e ∙ quiet.claims e;
    }
