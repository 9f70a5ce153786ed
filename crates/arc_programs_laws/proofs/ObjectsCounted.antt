-- No more deinits end than objects are made: each takes Strongs off an object, which has it once, from the start.
use Rattle.std.proofs.Common.{◌≡◌, ℕ, suc, ◌+◌, ◌≤◌, Bool, true, false, cond, List, [], ◌∷◌, ◌++◌, Option, Some, None, refl, ap, arith}
use Rattle.std.specs.Prelude.{find, ◌&&◌}
use Rattle.std.proofs.lemmas.Bool.{and_parts}
use Rattle.arc_model.specs.declared.event.Act.{Act}
use Rattle.arc_model.specs.declared.event.Act.TheVariants as acts
use Rattle.arc_model.specs.declared.event.CellName.{CellName}
use Rattle.arc_model.specs.declared.event.CellName.TheVariants as cells
use Rattle.arc_model.specs.declared.event.Got.{Got}
use Rattle.arc_model.specs.declared.event.Got.TheVariants as got
use Rattle.arc_model.specs.declared.shape.Kind.{Kind}
use Rattle.arc_model.specs.declared.shape.Kind.TheVariants.{Strong, Unowned, Weak}
use Rattle.arc_model.specs.Shapes.{HeapShape}
use Rattle.arc_model.specs.Cells.{cell, origin, are_all_nil}
use Rattle.arc_model.specs.Effects.{effect, made, ended_if, loaded, given_up, becomes, put_in, taken_out, finished, left_slot, vacated, gone, entry_to, entry_left, claimed_if, owing_none}
use Rattle.arc_model.specs.Heaps.{Holder, Hand, Strongs, Unowneds, Deinit, Object, Heap}
use Rattle.arc_model.specs.Holders.{same_holder, is_in, gains, without, renamed, with_last, lists, with_list, holds, kind_in, in_slot, has_entry, held_by, at_first, owes_to, is_by, is_duty}
use Rattle.arc_model.specs.History.{History, heap_after, next_hand, sight, IsLegal}
use Rattle.arc_model.specs.Needs.{needs}
use Rattle.arc_spelling.specs.Spelling.{Note, one_more_if}
use Rattle.arc_model.specs.WellFormed.{more, tally, held, total}
use Rattle.arc_model.proofs.Basics.{met, at_found}
use Rattle.arc_model.proofs.Tally.{tally-push, tally-without}
use Rattle.arc_model.proofs.Turns.{put-found, total-append, total-put}
use Rattle.arc_model.proofs.Stages.{dying-facts}
use Rattle.arc_model.proofs.Builds.{some-is, le-refl, whole-of}
use Rattle.arc_model.proofs.Courses.{well_formed}
use Rattle.arc_programs.specs.Programs.{makes}
use Rattle.arc_programs_laws.proofs.Shares.{events_with, notes_with, one-more}

-- a deinit ends
abbrev pub is_finish : Act → Bool
is_finish (acts.Finish s last) = true
is_finish _ = false

-- how many deinits the thread ended
abbrev pub finishes_of : List Note → ℕ
finishes_of ns = notes_with is_finish ns

-- ---- lists

-- in the list after a change Strongs stands no more often
abbrev NoMore : (List Holder → List Holder) → Type 0
NoMore f = (xs : List Holder) → tally Strongs (f xs) ≤ tally Strongs xs

last-hand : (p k : ℕ) → NoMore (with_last (Hand p k))
last-hand p k xs = let e : tally Strongs (xs ++ Hand p k ∷ []) ≡ tally Strongs xs = tally-push Strongs (Hand p k) xs in omega arith

gains-hand : (x : Holder) (p k : ℕ) → NoMore (gains x (Hand p k))
gains-hand x p k xs = go (is_in x xs)
  where
    go : (b : Bool) → tally Strongs (cond b (xs ++ Hand p k ∷ []) xs) ≤ tally Strongs xs
    go true = last-hand p k xs
    go false = le-refl (tally Strongs xs)

up : (b : Bool) (m n : ℕ) → m ≤ n → more b m ≤ more b n
up true m n h = omega arith
up false m n h = h

at-least : (b : Bool) (n : ℕ) → n ≤ more b n
at-least true n = omega arith
at-least false n = le-refl n

without-one : (x : Holder) → NoMore (without x)
without-one x [] = le-refl 0
without-one x (z ∷ zs) = go (same_holder x z) (without-one x zs)
  where
    go : (b : Bool) → tally Strongs (without x zs) ≤ tally Strongs zs → tally Strongs (cond b zs (z ∷ without x zs)) ≤ more (same_holder Strongs z) (tally Strongs zs)
    go true ih = at-least (same_holder Strongs z) (tally Strongs zs)
    go false ih = up (same_holder Strongs z) (tally Strongs (without x zs)) (tally Strongs zs) ih

renamed-one : (x y : Holder) → same_holder Strongs y ≡ false → NoMore (renamed x y)
renamed-one x y e [] = le-refl 0
renamed-one x y e (z ∷ zs) = go (same_holder x z) (renamed-one x y e zs)
  where
    go : (b : Bool) → tally Strongs (renamed x y zs) ≤ tally Strongs zs → tally Strongs (cond b (y ∷ zs) (z ∷ renamed x y zs)) ≤ more (same_holder Strongs z) (tally Strongs zs)
    go true ih = let a : more (same_holder Strongs y) (tally Strongs zs) ≡ tally Strongs zs = ap (λ c. more c (tally Strongs zs)) e in let b = at-least (same_holder Strongs z) (tally Strongs zs) in omega arith
    go false ih = up (same_holder Strongs z) (tally Strongs (renamed x y zs)) (tally Strongs zs) ih

-- ---- objects

-- in the object after a change Strongs stands no more often
abbrev NoMoreIn : (Object → Object) → Type 0
NoMoreIn f = (o : Object) → held Strongs (f o) ≤ held Strongs o

one-list : (k : Kind) (f : List Holder → List Holder) → NoMore f → NoMoreIn (with_list k f)
one-list Strong f n o = let a = n o.strong in omega arith
one-list Unowned f n o = let a = n o.unowned in omega arith
one-list Weak f n o = let a = n o.weak in omega arith

all-lists : (f : List Holder → List Holder) → NoMore f → NoMoreIn (lists f)
all-lists f n o = let a = n o.strong in let b = n o.unowned in let c = n o.weak in omega arith

ended-same : (last : Bool) (p : ℕ) (k : Kind) (o : Object) → held Strongs (ended_if last p k o) ≡ held Strongs o
ended-same true p Strong o = refl
ended-same true p Unowned o = refl
ended-same true p Weak o = refl
ended-same false p k o = refl

given-up : (p : ℕ) (x : Holder) (last : Bool) → NoMoreIn (given_up p x last)
given-up p x last o =
    let a = ended-same last p (kind_in x o) (with_list (kind_in x o) (without x) o) in
    let b = one-list (kind_in x o) (without x) (without-one x) o in
    omega arith

gone-fewer : (p : ℕ) (last : Bool) → NoMoreIn (gone p last)
gone-fewer p last o =
    let a = ended-same last p Weak (owing_none (with_list Weak (without Unowneds) o)) in
    let b = one-list Weak (without Unowneds) (without-one Unowneds) o in
    omega arith

vacated-fewer : (p : ℕ) → NoMoreIn (vacated p)
vacated-fewer p o = go o.entry
  where
    go : (m : Option ℕ) → held Strongs (left_slot p m (owing_none (record o { slot = None }))) ≤ held Strongs o
    go None = one-list Weak (without Unowneds) (without-one Unowneds) o
    go (Some e) = le-refl (held Strongs o)

at-first : (test : Object → Bool) (f : Object → Object) (os : List Object) → NoMoreIn f → total (held Strongs) (at_first test f os) ≤ total (held Strongs) os
at-first test f [] n = le-refl 0
at-first test f (o ∷ os) n = go (test o) (n o) (at-first test f os n)
  where
    go : (b : Bool) → held Strongs (f o) ≤ held Strongs o → total (held Strongs) (at_first test f os) ≤ total (held Strongs) os → total (held Strongs) (cond b (f o ∷ os) (o ∷ at_first test f os)) ≤ held Strongs o + total (held Strongs) os
    go true a ih = omega arith
    go false a ih = omega arith

-- ---- heaps

-- how often Strongs stands in the heap
abbrev pub strongs_in : Heap → ℕ
strongs_in heap = total (held Strongs) heap.objects

becomes-fewer : (x y : Holder) (heap : Heap) → same_holder Strongs y ≡ false → strongs_in (becomes x y heap) ≤ strongs_in heap
becomes-fewer x y heap e = at-first (holds x) (lists (renamed x y)) heap.objects (all-lists (renamed x y) (renamed-one x y e))

cell-apart : (heap : Heap) (c : CellName) → same_holder Strongs (cell heap c) ≡ false
cell-apart heap (cells.Field s f) = refl
cell-apart heap (cells.Global g) = refl

put-fewer : (c : Holder) (p : ℕ) (h : Option ℕ) (heap : Heap) → same_holder Strongs c ≡ false → strongs_in (put_in c p h heap) ≤ strongs_in heap
put-fewer c p None heap e = le-refl (strongs_in heap)
put-fewer c p (Some h) heap e = becomes-fewer (Hand p h) c heap e

taken-fewer : (c : Holder) (p : ℕ) (k : Option ℕ) (heap : Heap) → strongs_in (taken_out c p k heap) ≤ strongs_in heap
taken-fewer c p None heap = le-refl (strongs_in heap)
taken-fewer c p (Some k) heap = becomes-fewer c (Hand p k) heap refl

loaded-fewer : (p h : ℕ) (g : Got) (heap : Heap) → strongs_in (loaded p h g heap) ≤ strongs_in heap
loaded-fewer p h (got.Hand k) heap = at-first (holds (Hand p h)) (with_list Strong (with_last (Hand p k))) heap.objects (one-list Strong (with_last (Hand p k)) (last-hand p k))
loaded-fewer p h got.Dead heap = le-refl (strongs_in heap)
loaded-fewer p h got.Nil heap = le-refl (strongs_in heap)

entry-same : (p : ℕ) (m : Option ℕ) (heap : Heap) → strongs_in (entry_to p m heap) ≡ strongs_in heap
entry-same p None heap = refl
entry-same p (Some e) heap = refl

claimed-same : (b : Bool) (p e : ℕ) (heap : Heap) → strongs_in (claimed_if b p e heap) ≡ strongs_in heap
claimed-same true p e heap = refl
claimed-same false p e heap = refl

-- each object that is made has Strongs
made-one : (p k c s : ℕ) (heap : Heap) → strongs_in (effect p (acts.New k c s) heap) ≡ strongs_in heap + 1
made-one p k c s heap =
    let a : strongs_in (effect p (acts.New k c s) heap) ≡ strongs_in heap + total (held Strongs) (made p k c s heap.objects ∷ []) = total-append (held Strongs) heap.objects (made p k c s heap.objects ∷ []) in
    let b : total (held Strongs) (made p k c s heap.objects ∷ []) ≡ 1 = refl in
    omega arith

-- what ends a deinit takes Strongs off the object
finished-fewer : (p : ℕ) (last : Bool) (o : Object) → 1 ≤ tally Strongs o.unowned → held Strongs (finished p last o) + 1 ≡ held Strongs o
finished-fewer p last o h =
    let a : suc (tally Strongs (without Strongs o.unowned)) ≡ tally Strongs o.unowned = tally-without Strongs Strongs o.unowned h in
    let b = ended-same last p Unowned (owing_none (with_list Unowned (without Strongs) o)) in
    omega arith

-- the object whose deinit is owed has it
finish-fewer : (shape : HeapShape) (p s : ℕ) (last : Bool) (h : History) → IsLegal shape (record { thread = p; act = acts.Finish s last } ∷ h) → strongs_in (effect p (acts.Finish s last) (heap_after h)) + 1 ≡ strongs_in (heap_after h)
finish-fewer shape p s last h legal =
    let heap = heap_after h in
    let m = met (needs shape (sight p h) p (acts.Finish s last)) legal.0 in
    let r = some-is (find (in_slot s) heap.objects) m.0 in
    let put = put-found (in_slot s) (finished p last) heap.objects r.0 r.1 in
    let owed = and_parts (owes_to p Deinit r.0) (are_all_nil shape heap r.0) (at_found (λ o. owes_to p Deinit o && are_all_nil shape heap o) (find (in_slot s) heap.objects) r.0 r.1 m.1.0) in
    let duty = and_parts (is_by p r.0.owed) (is_duty Deinit r.0.owed) owed.0 in
    let g = dying-facts r.0 (whole-of (λ q. next_hand q h) heap (at_first (in_slot s) (finished p last) heap.objects) r.0 (finished p last r.0) (well_formed shape h legal.1) put) duty.1 in
    let strongs = g.strongs in
    let one = finished-fewer p last r.0 (omega arith) in
    let all = total-put (held Strongs) heap.objects (at_first (in_slot s) (finished p last) heap.objects) r.0 (finished p last r.0) put in
    omega arith

-- Strongs comes into the heap with an object that is made, and leaves it where a deinit ends.
counted : (shape : HeapShape) (p : ℕ) (act : Act) (h : History) → IsLegal shape (record { thread = p; act = act } ∷ h) →
    strongs_in (effect p act (heap_after h)) + one_more_if (is_finish act) 0 ≤ strongs_in (heap_after h) + one_more_if (makes act) 0
counted shape p (acts.New k c s) h legal = let a = made-one p k c s (heap_after h) in omega arith
counted shape p acts.Full h legal = omega arith
counted shape p (acts.Copy from k) h legal =
    let x = origin (heap_after h) p from in
    let a = at-first (holds x) (lists (gains x (Hand p k))) (heap_after h).objects (all-lists (gains x (Hand p k)) (gains-hand x p k)) in omega arith
counted shape p (acts.UnownedOf of k) h legal =
    let a = at-first (holds (Hand p of)) (with_list Unowned (with_last (Hand p k))) (heap_after h).objects (one-list Unowned (with_last (Hand p k)) (last-hand p k)) in omega arith
counted shape p (acts.WeakOf of k) h legal =
    let a = at-first (holds (Hand p of)) (with_list Weak (with_last (Hand p k))) (heap_after h).objects (one-list Weak (with_last (Hand p k)) (last-hand p k)) in omega arith
counted shape p (acts.Load of g) h legal = let a = loaded-fewer p of g (heap_after h) in omega arith
counted shape p (acts.Drop k last) h legal =
    let x = Hand p k in
    let heap = heap_after h in
    let new : Heap = record heap { objects = at_first (holds x) (given_up p x last) heap.objects } in
    let a = at-first (holds x) (given_up p x last) heap.objects (given-up p x last) in
    let b = entry-same p (entry_left x last (held_by x heap)) new in omega arith
counted shape p (acts.CountFull k from) h legal = omega arith
counted shape p (acts.Claim e) h legal = omega arith
counted shape p acts.NoEntry h legal = omega arith
counted shape p (acts.Side s e why) h legal =
    let a = at-first (in_slot s) (λ o. record o { entry = Some e }) (heap_after h).objects (λ o. le-refl (held Strongs o)) in omega arith
counted shape p (acts.Back e) h legal = omega arith
counted shape p (acts.Swap c put k) h legal =
    let heap = heap_after h in
    let a = taken-fewer (cell heap c) p k heap in
    let b = put-fewer (cell heap c) p put (taken_out (cell heap c) p k heap) (cell-apart heap c) in omega arith
counted shape p (acts.Look c) h legal = omega arith
counted shape p (acts.Take s f k) h legal = let a = becomes-fewer (cell (heap_after h) (cells.Field s f)) (Hand p k) (heap_after h) refl in omega arith
counted shape p (acts.Finish s last) h legal = let a = finish-fewer shape p s last h legal in omega arith
counted shape p (acts.Vacate s) h legal = let a = at-first (in_slot s) (vacated p) (heap_after h).objects (vacated-fewer p) in omega arith
counted shape p (acts.Gone e last) h legal =
    let heap = heap_after h in
    let new : Heap = record heap { objects = at_first (has_entry e) (gone p last) heap.objects } in
    let a = at-first (has_entry e) (gone p last) heap.objects (gone-fewer p last) in
    let b = claimed-same last p e new in omega arith

-- ---- histories

-- Strongs stands in the heap at most once for each object that was made and whose deinit hasn't ended.
pub objects_counted : (shape : HeapShape) (h : History) → IsLegal shape h → strongs_in (heap_after h) + events_with is_finish h ≤ events_with makes h
objects_counted shape [] legal = omega arith
objects_counted shape (e ∷ h) legal =
    let a = counted shape e.thread e.act h legal in
    let b = objects_counted shape h legal.1 in
    let c = one-more (is_finish e.act) (events_with is_finish h) in
    let d = one-more (makes e.act) (events_with makes h) in
    omega arith
