-- The event that empties an object's strong list makes its thread owe the deinit, and what ends a deinit pays it.
use Rattle.std.proofs.Common.{◌≡◌, ℕ, zero, suc, ◌+◌, Bool, true, false, cond, List, [], ◌∷◌, Option, Some, None, refl, sym, ap, ◌∙◌, arith}
use Rattle.std.specs.Prelude.{slice_get, ◌&&◌}
use Rattle.std.proofs.lemmas.Bool.{and_parts, eq-eqb}
use Rattle.arc_model.specs.declared.event.Act.{Act}
use Rattle.arc_model.specs.declared.event.Act.TheVariants as acts
use Rattle.arc_model.specs.declared.event.CellName.TheVariants as cells
use Rattle.arc_model.specs.declared.event.Got.{Got}
use Rattle.arc_model.specs.declared.event.Got.TheVariants as got
use Rattle.arc_model.specs.declared.shape.Kind.{Kind}
use Rattle.arc_model.specs.declared.shape.Kind.TheVariants.{Strong, Unowned, Weak}
use Rattle.arc_model.specs.Shapes.{HeapShape}
use Rattle.arc_model.specs.Cells.{cell, origin, are_all_nil, holders_of, holders_with}
use Rattle.arc_model.specs.Effects.{effect, made, ended_if, loaded, given_up, becomes, put_in, taken_out, finished, left_slot, vacated, gone, entry_to, entry_left, claimed_if, owing_none}
use Rattle.arc_model.specs.Heaps.{Holder, Hand, Strongs, Duty, Deinit, Vacating, Gone, Owed, Object, Heap}
use Rattle.arc_model.specs.Holders.{is_in, is_alone, gains, without, renamed, with_last, lists, with_list, holds, kind_in, in_slot, has_entry, held_by, at_slot, at_entry, at_first, owes_to, is_by, is_duty, same_duty}
use Rattle.arc_model.specs.History.{History, heap_after, next_hand, sight, IsLegal}
use Rattle.arc_model.specs.Lookup.{duty_in, owed_by}
use Rattle.arc_model.specs.Needs.{needs, passes, same_bool}
use Rattle.arc_model.specs.Others.{IsQuiet}
use Rattle.arc_spelling.specs.Spelling.{one_more_if}
use Rattle.arc_model.specs.WellFormed.{more, total, IsWhole}
use Rattle.arc_model.proofs.Basics.{met, at_found, None≢Some, in-strong}
use Rattle.arc_model.proofs.Builds.{some-is, whole-of, find-passes}
use Rattle.arc_model.proofs.Courses.{well_formed}
use Rattle.arc_model.proofs.Keeps.{total-end}
use Rattle.arc_model.proofs.Stages.{live-facts, dying-facts, duty-apart}
use Rattle.arc_model.proofs.Tally.{no, clash, in-tally, alone-two}
use Rattle.arc_model.proofs.Turns.{put-found, total-put}
use Rattle.arc_programs_laws.specs.Deinits.{drops_last_strong, emptied}
use Rattle.arc_programs_laws.proofs.ObjectsCounted.{is_finish}
use Rattle.arc_programs_laws.proofs.Shares.{events_with, one-more}

-- whether the deinit of the object is owed
abbrev dying : Object → ℕ
dying o = more (is_duty Deinit o.owed) zero

-- how many deinits are owed
abbrev pub deinits_owed : Heap → ℕ
deinits_owed heap = total dying heap.objects

-- ---- one object changes

same-first : (test : Object → Bool) (f : Object → Object) (os : List Object) → ((o : Object) → dying (f o) ≡ dying o) → total dying (at_first test f os) ≡ total dying os
same-first test f [] h = refl
same-first test f (o ∷ os) h = go (test o) (h o) (same-first test f os h)
  where
    go : (b : Bool) → dying (f o) ≡ dying o → total dying (at_first test f os) ≡ total dying os → total dying (cond b (f o ∷ os) (o ∷ at_first test f os)) ≡ dying o + total dying os
    go true a ih = omega arith
    go false a ih = omega arith

listed : (k : Kind) (f : List Holder → List Holder) (o : Object) → dying (with_list k f o) ≡ dying o
listed Strong f o = refl
listed Unowned f o = refl
listed Weak f o = refl

becomes-same : (x y : Holder) (heap : Heap) → deinits_owed (becomes x y heap) ≡ deinits_owed heap
becomes-same x y heap = same-first (holds x) (lists (renamed x y)) heap.objects (λ o. refl)

put-same : (c : Holder) (p : ℕ) (h : Option ℕ) (heap : Heap) → deinits_owed (put_in c p h heap) ≡ deinits_owed heap
put-same c p None heap = refl
put-same c p (Some h) heap = becomes-same (Hand p h) c heap

taken-same : (c : Holder) (p : ℕ) (k : Option ℕ) (heap : Heap) → deinits_owed (taken_out c p k heap) ≡ deinits_owed heap
taken-same c p None heap = refl
taken-same c p (Some k) heap = becomes-same c (Hand p k) heap

loaded-same : (p h : ℕ) (g : Got) (heap : Heap) → deinits_owed (loaded p h g heap) ≡ deinits_owed heap
loaded-same p h (got.Hand k) heap = same-first (holds (Hand p h)) (with_list Strong (with_last (Hand p k))) heap.objects (λ o. refl)
loaded-same p h got.Dead heap = refl
loaded-same p h got.Nil heap = refl

entry-same : (p : ℕ) (m : Option ℕ) (heap : Heap) → deinits_owed (entry_to p m heap) ≡ deinits_owed heap
entry-same p None heap = refl
entry-same p (Some e) heap = refl

claimed-same : (b : Bool) (p e : ℕ) (heap : Heap) → deinits_owed (claimed_if b p e heap) ≡ deinits_owed heap
claimed-same true p e heap = refl
claimed-same false p e heap = refl

-- another duty than the deinit
other-duty : (d : Duty) (o : Object) → same_duty Deinit d ≡ false → is_duty d o.owed ≡ true → dying o ≡ 0
other-duty d o apart is = go (is_duty Deinit o.owed) refl
  where
    go : (b : Bool) → is_duty Deinit o.owed ≡ b → more b zero ≡ 0
    go true e = clash (same_duty Deinit d) (duty-apart Deinit d o.owed e is) apart
    go false e = refl

-- ---- drops

-- after the last strong holder the deinit is owed; after another one no more is
dropped-dying : (shape : HeapShape) (p k : ℕ) (last : Bool) (o : Object) → IsWhole shape o → holds (Hand p k) o ≡ true → same_bool last (is_alone (holders_with shape (Hand p k) o)) ≡ true →
    dying (given_up p (Hand p k) last o) ≡ dying o + one_more_if (last && is_in (Hand p k) o.strong) 0
dropped-dying shape p k false o whole has alone = let a = listed (kind_in (Hand p k) o) (without (Hand p k)) o in omega arith
dropped-dying shape p k true o whole has alone = go (is_in (Hand p k) o.strong) (is_in (Hand p k) o.unowned) refl refl alone
  where
    not-dying : is_in (Hand p k) o.unowned ≡ true → is_alone o.unowned ≡ true → dying o ≡ 0
    not-dying held one = step (is_duty Deinit o.owed) refl
      where
        step : (b : Bool) → is_duty Deinit o.owed ≡ b → more b zero ≡ 0
        step true e =
            let s = (dying-facts o whole e).strongs in
            no (alone-two (Hand p k) Strongs o.unowned one (in-tally (Hand p k) o.unowned held) (omega arith))
        step false e = refl

    go : (s u : Bool) → is_in (Hand p k) o.strong ≡ s → is_in (Hand p k) o.unowned ≡ u → is_alone (holders_of shape (cond s Strong (cond u Unowned Weak)) o) ≡ true →
        dying (ended_if true p (cond s Strong (cond u Unowned Weak)) (with_list (cond s Strong (cond u Unowned Weak)) (without (Hand p k)) o)) ≡ dying o + one_more_if s 0
    go true u es eu one =
        let none : dying o ≡ 0 = ap (λ m. more (is_duty Deinit m) zero) (live-facts o whole (in-strong shape (Hand p k) o es)).owed in omega arith
    go false true es eu one = let none = not-dying eu one in omega arith
    go false false es eu one = omega arith

drops-is : (p k : ℕ) (last : Bool) (heap : Heap) → drops_last_strong p (acts.Drop k last) heap ≡ (last && passes (λ o. is_in (Hand p k) o.strong) (held_by (Hand p k) heap))
drops-is p k true heap = refl
drops-is p k false heap = refl

drop-counted : (shape : HeapShape) (p k : ℕ) (last : Bool) (h : History) → IsLegal shape (record { thread = p; act = acts.Drop k last } ∷ h) →
    deinits_owed (effect p (acts.Drop k last) (heap_after h)) ≡ deinits_owed (heap_after h) + one_more_if (drops_last_strong p (acts.Drop k last) (heap_after h)) 0
drop-counted shape p k last h legal =
    let heap = heap_after h in
    let x : Holder = Hand p k in
    let m = met (needs shape (sight p h) p (acts.Drop k last)) legal.0 in
    let r = some-is (held_by x heap) m.0 in
    let after = at_first (holds x) (given_up p x last) heap.objects in
    let put = put-found (holds x) (given_up p x last) heap.objects r.0 r.1 in
    let whole = whole-of (λ q. next_hand q h) heap after r.0 (given_up p x last r.0) (well_formed shape h legal.1) put in
    let alone = at_found (λ o. same_bool last (is_alone (holders_with shape x o))) (held_by x heap) r.0 r.1 m.1.0 in
    let one = dropped-dying shape p k last r.0 whole (find-passes (holds x) heap.objects r.0 r.1) alone in
    let all = total-put dying heap.objects after r.0 (given_up p x last r.0) put in
    let new : Heap = record heap { objects = after } in
    let objects = entry-same p (entry_left x last (held_by x heap)) new in
    let is : one_more_if (drops_last_strong p (acts.Drop k last) heap) 0 ≡ one_more_if (last && is_in x r.0.strong) 0 =
    ap (λ b. one_more_if b 0) (drops-is p k last heap ∙ ap (λ f. last && passes (λ o. is_in x o.strong) f) r.1) in
    omega arith

-- ---- what ends a duty

finished-dying : (p : ℕ) (last : Bool) (o : Object) → dying (finished p last o) ≡ 0
finished-dying p true o = refl
finished-dying p false o = refl

left-dying : (p : ℕ) (m : Option ℕ) (o : Object) → dying (left_slot p m (owing_none o)) ≡ 0
left-dying p None o = refl
left-dying p (Some e) o = refl

gone-dying : (p : ℕ) (last : Bool) (o : Object) → dying (gone p last o) ≡ 0
gone-dying p true o = refl
gone-dying p false o = refl

-- ---- events

-- a deinit comes to be owed with the last strong drop, and goes where it ends
counted : (shape : HeapShape) (p : ℕ) (act : Act) (h : History) → IsLegal shape (record { thread = p; act = act } ∷ h) →
    deinits_owed (effect p act (heap_after h)) + one_more_if (is_finish act) 0 ≡ deinits_owed (heap_after h) + one_more_if (drops_last_strong p act (heap_after h)) 0
counted shape p (acts.New k c s) h legal = let a = total-end dying (heap_after h).objects (made p k c s (heap_after h).objects) in omega arith
counted shape p acts.Full h legal = omega arith
counted shape p (acts.Copy from k) h legal =
    let a = same-first (holds (origin (heap_after h) p from)) (lists (gains (origin (heap_after h) p from) (Hand p k))) (heap_after h).objects (λ o. refl) in omega arith
counted shape p (acts.UnownedOf of k) h legal = let a = same-first (holds (Hand p of)) (with_list Unowned (with_last (Hand p k))) (heap_after h).objects (λ o. refl) in omega arith
counted shape p (acts.WeakOf of k) h legal = let a = same-first (holds (Hand p of)) (with_list Weak (with_last (Hand p k))) (heap_after h).objects (λ o. refl) in omega arith
counted shape p (acts.Load of g) h legal = let a = loaded-same p of g (heap_after h) in omega arith
counted shape p (acts.Drop k last) h legal = let a = drop-counted shape p k last h legal in omega arith
counted shape p (acts.CountFull k from) h legal = omega arith
counted shape p (acts.Claim e) h legal = omega arith
counted shape p acts.NoEntry h legal = omega arith
counted shape p (acts.Side s e why) h legal = let a = same-first (in_slot s) (λ o. record o { entry = Some e }) (heap_after h).objects (λ o. refl) in omega arith
counted shape p (acts.Back e) h legal = omega arith
counted shape p (acts.Swap c put k) h legal =
    let heap = heap_after h in
    let a = taken-same (cell heap c) p k heap in
    let b = put-same (cell heap c) p put (taken_out (cell heap c) p k heap) in omega arith
counted shape p (acts.Look c) h legal = omega arith
counted shape p (acts.Take s f k) h legal = let a = becomes-same (cell (heap_after h) (cells.Field s f)) (Hand p k) (heap_after h) in omega arith
counted shape p (acts.Finish s last) h legal =
    let heap = heap_after h in
    let m = met (needs shape (sight p h) p (acts.Finish s last)) legal.0 in
    let r = some-is (at_slot s heap) m.0 in
    let owed = and_parts (owes_to p Deinit r.0) (are_all_nil shape heap r.0) (at_found (λ o. owes_to p Deinit o && are_all_nil shape heap o) (at_slot s heap) r.0 r.1 m.1.0) in
    let one : dying r.0 ≡ 1 = ap (λ b. more b zero) (and_parts (is_by p r.0.owed) (is_duty Deinit r.0.owed) owed.0).1 in
    let none = finished-dying p last r.0 in
    let all = total-put dying heap.objects (at_first (in_slot s) (finished p last) heap.objects) r.0 (finished p last r.0) (put-found (in_slot s) (finished p last) heap.objects r.0 r.1) in
    omega arith
counted shape p (acts.Vacate s) h legal =
    let heap = heap_after h in
    let m = met (needs shape (sight p h) p (acts.Vacate s)) legal.0 in
    let r = some-is (at_slot s heap) m.0 in
    let duty = and_parts (is_by p r.0.owed) (is_duty Vacating r.0.owed) (at_found (owes_to p Vacating) (at_slot s heap) r.0 r.1 m.1.0) in
    let was = other-duty Vacating r.0 refl duty.1 in
    let none = left-dying p r.0.entry (record r.0 { slot = None }) in
    let all = total-put dying heap.objects (at_first (in_slot s) (vacated p) heap.objects) r.0 (vacated p r.0) (put-found (in_slot s) (vacated p) heap.objects r.0 r.1) in
    omega arith
counted shape p (acts.Gone e last) h legal =
    let heap = heap_after h in
    let m = met (needs shape (sight p h) p (acts.Gone e last)) legal.0 in
    let r = some-is (at_entry e heap) m.0 in
    let duty = and_parts (is_by p r.0.owed) (is_duty Gone r.0.owed) (at_found (owes_to p Gone) (at_entry e heap) r.0 r.1 m.1.0) in
    let was = other-duty Gone r.0 refl duty.1 in
    let none = gone-dying p last r.0 in
    let after = at_first (has_entry e) (gone p last) heap.objects in
    let all = total-put dying heap.objects after r.0 (gone p last r.0) (put-found (has_entry e) (gone p last) heap.objects r.0 r.1) in
    let new : Heap = record heap { objects = after } in
    let objects = claimed-same last p e new in
    omega arith

-- Each event that emptied a strong list began a deinit: it has ended, or is owed.
pub deinits_counted : (shape : HeapShape) (h : History) → IsLegal shape h → deinits_owed (heap_after h) + events_with is_finish h ≡ emptied h
deinits_counted shape [] legal = refl
deinits_counted shape (e ∷ h) legal =
    let a = counted shape e.thread e.act h legal in
    let b = deinits_counted shape h legal.1 in
    let c = one-more (is_finish e.act) (events_with is_finish h) in
    let d = one-more (drops_last_strong e.thread e.act (heap_after h)) (emptied h) in
    omega arith

-- where no thread owes anything no deinit is owed
pub none_owed : (heap : Heap) → ((p : ℕ) → IsQuiet p heap) → deinits_owed heap ≡ 0
none_owed heap quiet = go heap.objects (λ p i. (quiet p).duties i)
  where
    not-dying : (m : Option Owed) → ((p : ℕ) → owed_by p m ≡ None) → more (is_duty Deinit m) zero ≡ 0
    not-dying None h = refl
    not-dying (Some d) h = absurd (None≢Some d.duty (sym (h d.thread) ∙ ap (λ b. cond b (Some d.duty) None) (eq-eqb d.thread d.thread refl)))

    go : (os : List Object) → ((p i : ℕ) → duty_in p (slice_get os i) ≡ None) → total dying os ≡ 0
    go [] h = refl
    go (o ∷ os) h = let a = not-dying o.owed (λ p. h p 0) in let b = go os (λ p i. h p (suc i)) in omega arith
