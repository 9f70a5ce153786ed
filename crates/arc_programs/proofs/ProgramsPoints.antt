-- A program's notes in its history: the names of objects, other threads' events, causes left aside.
use Rattle.std.proofs.Common.{◌≡◌, ◌+◌, eqb, cond, ℕ, zero, Bool, true, false, List, [], ◌∷◌, ◌++◌, Option, Some, None, refl, sym, ap, ◌∙◌, subst, eq-eqb, arith}
use Rattle.std.specs.Prelude.{find, is_some, option_map}
use Rattle.arc_model.specs.declared.event.Act.{Act}
use Rattle.arc_model.specs.declared.event.Act.TheVariants as acts
use Rattle.arc_model.specs.declared.event.CellName.TheVariants as cells
use Rattle.arc_model.specs.declared.event.Got.TheVariants as gots
use Rattle.arc_model.specs.declared.shape.Kind.{Kind}
use Rattle.arc_model.specs.declared.shape.Kind.TheVariants.{Strong, Unowned, Weak}
use Rattle.arc_model.specs.Shapes.{HeapShape}
use Rattle.arc_model.specs.Heaps.{Holder, Hand, Strongs, Unowneds, Object, Heap}
use Rattle.arc_model.specs.Holders.{made_by, at_slot, in_slot, has_entry, at_first, kind_in, held_by, holds, change, lists, with_list, with_last, gains, without, renamed}
use Rattle.arc_model.specs.Cells.{cell, origin}
use Rattle.arc_model.specs.WellFormed.{more, total}
use Rattle.arc_model.specs.Effects.{made, owing_none, effect, ended_if, given_up, entry_to, finished, vacated, left_slot, gone, becomes, put_in, taken_out, claimed_if, entry_left}
use Rattle.arc_model.specs.History.{History, heap_after, share, is_of, sight}
use Rattle.arc_model.specs.Needs.{needs}
use Rattle.arc_spelling.specs.Spelling.{Note, one_more_if}
use Rattle.arc_spelling.specs.Spelling.Note.{Did, Line, Operation, Name, Entry, NeedsEntry, Nil, Refers}
use Rattle.arc_spelling.specs.SpellingTies.{Causes, Holds, Ties}
use Rattle.arc_model.specs.References.{name_of}
use Rattle.arc_spelling.specs.SpellingTies.Ties.{start, own, other, noted}
use Rattle.arc_model.proofs.Basics.{met, opposite}
use Rattle.arc_spelling.proofs.SpellTies.{ties_others, causes_left_aside}
use Rattle.arc_model.proofs.Keeps.{by_times, made-total}
use Rattle.arc_model.proofs.Turns.{total-append}
use Rattle.arc_programs.specs.Programs.{makes, made_of}
use Rattle.arc_programs.specs.ProgramsTied.{hands_in, Spells}
use Rattle.arc_programs.specs.ProgramsHistories.{NamesAreObjects, ProgramsStay, ProgramsWithoutCauses}

-- ---- how many objects a thread made

first-same : (w : Object → ℕ) (test : Object → Bool) (f : Object → Object) (os : List Object) → ((o : Object) → w (f o) ≡ w o) → total w (at_first test f os) ≡ total w os
first-same w test f [] same = refl
first-same w test f (o ∷ os) same = go (test o) (first-same w test f os same)
  where
    go : (b : Bool) → total w (at_first test f os) ≡ total w os → total w (cond b (f o ∷ os) (o ∷ at_first test f os)) ≡ w o + total w os
    go true rest = ap (λ n. n + total w os) (same o)
    go false rest = ap (λ n. w o + n) rest

by-id : (r : ℕ) (o q : Object) → q.id ≡ o.id → by_times r q ≡ by_times r o
by-id r o q e = ap (λ id. more (eqb id.thread r) zero) e

list-id : (k : Kind) (f : List Holder → List Holder) (o : Object) → (with_list k f o).id ≡ o.id
list-id Strong f o = refl
list-id Unowned f o = refl
list-id Weak f o = refl

ended-id : (last : Bool) (p : ℕ) (k : Kind) (o : Object) → (ended_if last p k o).id ≡ o.id
ended-id true p Strong o = refl
ended-id true p Unowned o = refl
ended-id true p Weak o = refl
ended-id false p k o = refl

left-id : (p : ℕ) (entry : Option ℕ) (o : Object) → (left_slot p entry o).id ≡ o.id
left-id p None o = refl
left-id p (Some e) o = refl

given-id : (p : ℕ) (x : Holder) (last : Bool) (o : Object) → (given_up p x last o).id ≡ o.id
given-id p x last o = ended-id last p (kind_in x o) (with_list (kind_in x o) (without x) o) ∙ list-id (kind_in x o) (without x) o

becomes-made : (r : ℕ) (x y : Holder) (heap : Heap) → total (by_times r) (becomes x y heap).objects ≡ total (by_times r) heap.objects
becomes-made r x y heap = first-same (by_times r) (holds x) (lists (renamed x y)) heap.objects (λ o. refl)

put-made : (r : ℕ) (c : Holder) (p : ℕ) (h : Option ℕ) (heap : Heap) → total (by_times r) (put_in c p h heap).objects ≡ total (by_times r) heap.objects
put-made r c p None heap = refl
put-made r c p (Some h) heap = becomes-made r (Hand p h) c heap

taken-made : (r : ℕ) (c : Holder) (p : ℕ) (k : Option ℕ) (heap : Heap) → total (by_times r) (taken_out c p k heap).objects ≡ total (by_times r) heap.objects
taken-made r c p None heap = refl
taken-made r c p (Some k) heap = becomes-made r c (Hand p k) heap

entry-made : (r p : ℕ) (entry : Option ℕ) (heap : Heap) → total (by_times r) (entry_to p entry heap).objects ≡ total (by_times r) heap.objects
entry-made r p None heap = refl
entry-made r p (Some e) heap = refl

claim-made : (r : ℕ) (last : Bool) (p e : ℕ) (heap : Heap) → total (by_times r) (claimed_if last p e heap).objects ≡ total (by_times r) heap.objects
claim-made r true p e heap = refl
claim-made r false p e heap = refl

-- an act that makes none
effect-made : (r p : ℕ) (a : Act) (heap : Heap) → makes a ≡ false → total (by_times r) (effect p a heap).objects ≡ total (by_times r) heap.objects
effect-made r p (acts.New k c s) heap e = absurd cc
effect-made r p acts.Full heap e = refl
effect-made r p (acts.Copy from k) heap e = first-same (by_times r) (holds (origin heap p from)) (lists (gains (origin heap p from) (Hand p k))) heap.objects (λ o. refl)
effect-made r p (acts.UnownedOf h k) heap e = first-same (by_times r) (holds (Hand p h)) (with_list Unowned (with_last (Hand p k))) heap.objects (λ o. refl)
effect-made r p (acts.WeakOf h k) heap e = first-same (by_times r) (holds (Hand p h)) (with_list Weak (with_last (Hand p k))) heap.objects (λ o. refl)
effect-made r p (acts.Load h (gots.Hand k)) heap e = first-same (by_times r) (holds (Hand p h)) (with_list Strong (with_last (Hand p k))) heap.objects (λ o. refl)
effect-made r p (acts.Load h gots.Dead) heap e = refl
effect-made r p (acts.Load h gots.Nil) heap e = refl
effect-made r p (acts.Drop h last) heap e =
    entry-made r p (entry_left (Hand p h) last (held_by (Hand p h) heap)) (change (holds (Hand p h)) (given_up p (Hand p h) last) heap)
    ∙ first-same (by_times r) (holds (Hand p h)) (given_up p (Hand p h) last) heap.objects (λ o. by-id r o (given_up p (Hand p h) last o) (given-id p (Hand p h) last o))
effect-made r p (acts.CountFull k from) heap e = refl
effect-made r p (acts.Claim n) heap e = refl
effect-made r p acts.NoEntry heap e = refl
effect-made r p (acts.Side s n why) heap e = first-same (by_times r) (in_slot s) (λ o. record o { entry = Some n }) heap.objects (λ o. refl)
effect-made r p (acts.Back n) heap e = refl
effect-made r p (acts.Swap c h k) heap e = put-made r (cell heap c) p h (taken_out (cell heap c) p k heap) ∙ taken-made r (cell heap c) p k heap
effect-made r p (acts.Look c) heap e = refl
effect-made r p (acts.Take s f k) heap e = becomes-made r (cell heap (cells.Field s f)) (Hand p k) heap
effect-made r p (acts.Finish s last) heap e = first-same (by_times r) (in_slot s) (finished p last) heap.objects (λ o. by-id r o (finished p last o) (ended-id last p Unowned (owing_none (with_list Unowned (without Strongs) o))))
effect-made r p (acts.Vacate s) heap e = first-same (by_times r) (in_slot s) (vacated p) heap.objects (λ o. by-id r o (vacated p o) (left-id p o.entry (owing_none (record o { slot = None }))))
effect-made r p (acts.Gone n last) heap e =
    claim-made r last p n (change (has_entry n) (gone p last) heap)
    ∙ first-same (by_times r) (has_entry n) (gone p last) heap.objects (λ o. by-id r o (gone p last o) (ended-id last p Weak (owing_none (with_list Weak (without Unowneds) o))))

new-made : (r p k c s : ℕ) (heap : Heap) → total (by_times r) (effect p (acts.New k c s) heap).objects ≡ total (by_times r) heap.objects + (more (eqb p r) zero + zero)
new-made r p k c s heap = total-append (by_times r) heap.objects (made p k c s heap.objects ∷ [])

own-made : (p : ℕ) (a : Act) (heap : Heap) (n : ℕ) (b : Bool) → makes a ≡ b → total (by_times p) heap.objects ≡ n → total (by_times p) (effect p a heap).objects ≡ one_more_if b n
own-made p a heap n false e before = effect-made p p a heap e ∙ before
own-made p (acts.New k c s) heap n true e before =
    let t = new-made p p k c s heap in let one : more (eqb p p) zero ≡ 1 = ap (λ b. more b zero) (eq-eqb p p refl) in omega arith
own-made p acts.Full heap n true e before = absurd cc
own-made p (acts.Copy from k) heap n true e before = absurd cc
own-made p (acts.UnownedOf h k) heap n true e before = absurd cc
own-made p (acts.WeakOf h k) heap n true e before = absurd cc
own-made p (acts.Load h g) heap n true e before = absurd cc
own-made p (acts.Drop h last) heap n true e before = absurd cc
own-made p (acts.CountFull k from) heap n true e before = absurd cc
own-made p (acts.Claim m) heap n true e before = absurd cc
own-made p acts.NoEntry heap n true e before = absurd cc
own-made p (acts.Side s m why) heap n true e before = absurd cc
own-made p (acts.Back m) heap n true e before = absurd cc
own-made p (acts.Swap c h k) heap n true e before = absurd cc
own-made p (acts.Look c) heap n true e before = absurd cc
own-made p (acts.Take s f k) heap n true e before = absurd cc
own-made p (acts.Finish s last) heap n true e before = absurd cc
own-made p (acts.Vacate s) heap n true e before = absurd cc
own-made p (acts.Gone m last) heap n true e before = absurd cc

-- an act of another thread
other-made : (r p : ℕ) (a : Act) (heap : Heap) (b : Bool) → makes a ≡ b → eqb p r ≡ false → total (by_times r) (effect p a heap).objects ≡ total (by_times r) heap.objects
other-made r p a heap false e apart = effect-made r p a heap e
other-made r p (acts.New k c s) heap true e apart =
    let t = new-made r p k c s heap in let none : more (eqb p r) zero ≡ 0 = ap (λ b. more b zero) apart in omega arith
other-made r p acts.Full heap true e apart = absurd cc
other-made r p (acts.Copy from k) heap true e apart = absurd cc
other-made r p (acts.UnownedOf h k) heap true e apart = absurd cc
other-made r p (acts.WeakOf h k) heap true e apart = absurd cc
other-made r p (acts.Load h g) heap true e apart = absurd cc
other-made r p (acts.Drop h last) heap true e apart = absurd cc
other-made r p (acts.CountFull k from) heap true e apart = absurd cc
other-made r p (acts.Claim m) heap true e apart = absurd cc
other-made r p acts.NoEntry heap true e apart = absurd cc
other-made r p (acts.Side s m why) heap true e apart = absurd cc
other-made r p (acts.Back m) heap true e apart = absurd cc
other-made r p (acts.Swap c h k) heap true e apart = absurd cc
other-made r p (acts.Look c) heap true e apart = absurd cc
other-made r p (acts.Take s f k) heap true e apart = absurd cc
other-made r p (acts.Finish s last) heap true e apart = absurd cc
other-made r p (acts.Vacate s) heap true e apart = absurd cc
other-made r p (acts.Gone m last) heap true e apart = absurd cc

no-object : (causes : Causes) (shape : HeapShape) (heap : Heap) (n : Note) (ns : List Note) → Holds causes shape heap n → made_of (n ∷ ns) ≡ made_of ns
no-object causes shape heap (Did a) ns x = absurd x
no-object causes shape heap (Line a) ns x = refl
no-object causes shape heap (Operation k) ns x = refl
no-object causes shape heap (Name s name) ns x = refl
no-object causes shape heap (Entry s e) ns x = refl
no-object causes shape heap (NeedsEntry s l) ns x = refl
no-object causes shape heap (Nil c) ns x = refl
no-object causes shape heap (Refers c kind place) ns x = refl

objects-made : (causes : Causes) (shape : HeapShape) (p : ℕ) (ns : List Note) (h : History) → Ties causes shape p ns h → total (by_times p) (heap_after h).objects ≡ made_of ns
objects-made causes shape p ns h start = refl
objects-made causes shape p ns h (own {a = a} {ns = ms} {h = before} t) = own-made p a (heap_after before) (made_of ms) (makes a) refl (objects-made causes shape p ms before t)
objects-made causes shape p ns h (other {e = e} {h = before} t x) = other-made p e.thread e.act (heap_after before) (makes e.act) refl x ∙ objects-made causes shape p ns before t
objects-made causes shape p ns h (noted {n = n} {ns = ms} t x) = objects-made causes shape p ms h t ∙ sym (no-object causes shape (heap_after h) n ms x)

-- ---- the name of a new object

found-last : (test : Object → Bool) (os : List Object) (o : Object) → is_some (find test os) ≡ false → test o ≡ true → find test (os ++ o ∷ []) ≡ Some o
found-last test [] o none e = rw e refl
found-last test (q ∷ os) o none e = go (test q) none (λ n. found-last test os o n e)
  where
    go : (b : Bool) → is_some (cond b (Some q) (find test os)) ≡ false → (is_some (find test os) ≡ false → find test (os ++ o ∷ []) ≡ Some o) → cond b (Some q) (find test (os ++ o ∷ [])) ≡ Some o
    go true n rest = absurd cc
    go false n rest = rest n

pub names_objects : NamesAreObjects
names_objects causes shape p k c s b h t legal =
    let heap = heap_after h in
    let o = made p k c s heap.objects in
    let m = met (needs shape (sight p h) p (acts.New k c s)) legal.0 in
    let free = opposite (is_some (at_slot s heap)) m.1.0 in
    let count : made_by p heap.objects ≡ made_of b = made-total p heap.objects ∙ objects-made causes shape p b h t in
    ap (option_map name_of) (found-last (in_slot s) heap.objects o free (eq-eqb s s refl))
    ∙ ap (λ n. Some (record { class = c; thread = p; number = n + 1 })) count

-- ---- other threads' events

hands-stay : (p : ℕ) (h later : History) (k : ℕ) → share later p ≡ [] → hands_in p (later ++ h) k ≡ hands_in p h k
hands-stay p h [] k quiet = refl
hands-stay p h (e ∷ later) k quiet = go (is_of p e) refl (hands-stay p h later k)
  where
    go : (b : Bool) → is_of p e ≡ b → (share later p ≡ [] → hands_in p (later ++ h) k ≡ hands_in p h k) → hands_in p (e ∷ later ++ h) k ≡ hands_in p h k
    go true is rest = absurd cc
    go false is rest = rw is (rest (rw is at quiet))

pub programs_stay : ProgramsStay
programs_stay causes script p lines h later quiet x =
    record {
      notes = x.notes;
      tied = ties_others causes script.shape p x.notes h later quiet x.tied;
      spelled = subst (λ came. Spells script came p x.notes) (λ i k. sym (hands-stay p h later k quiet) i) x.spelled;
      lines_are = x.lines_are;
    }

pub without_causes : ProgramsWithoutCauses
without_causes script p lines h x =
    record { notes = x.notes; tied = causes_left_aside script.shape p x.notes h x.tied; spelled = x.spelled; lines_are = x.lines_are }
