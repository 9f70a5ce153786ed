-- How many duties and claims a thread has, through every event: others' events add none, its own add at most what is counted.
use Rattle.std.proofs.Common.{◌≡◌, ℕ, ◌≤◌, ◌+◌, Bool, true, false, cond, eqb, not, List, [], ◌∷◌, ◌++◌, Option, Some, None, refl, ap, arith}
use Rattle.std.specs.Prelude.{◌&&◌, ◌||◌, filter, find, is_some}
use Rattle.std.specs.List.{list_any}
use Rattle.std.proofs.lemmas.Bool.{and_parts, eq-eqb}
use Rattle.arc_model.specs.declared.event.Act.{Act}
use Rattle.arc_model.specs.declared.event.Act.TheVariants as acts
use Rattle.arc_model.specs.declared.event.CellName.TheVariants as cells
use Rattle.arc_model.specs.declared.event.Got.TheVariants as got
use Rattle.arc_model.specs.declared.shape.Kind.{Kind}
use Rattle.arc_model.specs.declared.shape.Kind.TheVariants.{Strong, Unowned, Weak}
use Rattle.arc_model.specs.Shapes.{HeapShape}
use Rattle.arc_model.specs.Heaps.{Holder, Hand, Strongs, Unowneds, Duty, Deinit, Vacating, Gone, Object, Claimed, Heap}
use Rattle.arc_model.specs.Holders.{at_first, at_entry, at_slot, change, claims_it, gains, has_entry, held_by, holds, in_slot, is_by, is_duty, kind_in, lists, owes_to, renamed, with_last, with_list, without}
use Rattle.arc_model.specs.Cells.{cell, origin, are_all_nil}
use Rattle.arc_model.specs.Effects.{becomes, claimed, claimed_if, effect, ended, ended_if, entry_left, entry_of_last, entry_to, finished, given_up, gone, left_slot, made, owing_none, put_in, taken_out, vacated}
use Rattle.arc_model.specs.Needs.{Sight, first_failing, needs, passes}
use Rattle.arc_model.specs.WellFormed.{more, total}
use Rattle.arc_model.proofs.Basics.{met, at_found}
use Rattle.arc_model.proofs.Builds.{some-is}
use Rattle.arc_model.proofs.Keeps.{total-end}
use Rattle.arc_model.proofs.Turns.{put-found, total-put}
use Rattle.arc_model.proofs.Tally.{no}
use Rattle.arc_quiet.proofs.Counts.{one_if, is_debt}

-- whether p owes something to the object
abbrev pub owes : ℕ → Object → ℕ
owes p o = more (is_by p o.owed) 0

-- how many entries p has claimed
abbrev pub claims_of : ℕ → List Claimed → ℕ
claims_of p [] = 0
claims_of p (c ∷ cs) = more (eqb c.thread p) (claims_of p cs)

-- p's duties and claims
abbrev pub debts : ℕ → Heap → ℕ
debts p heap = total (owes p) heap.objects + claims_of p heap.claims

-- ---- one object changes

total-change : (w : Object → ℕ) (d : ℕ) (test : Object → Bool) (f : Object → Object) (os : List Object) → ((o : Object) → w (f o) ≤ w o + d) → total w (at_first test f os) ≤ total w os + d
total-change w d test f [] h = omega arith
total-change w d test f (o ∷ os) h = go (test o) (h o) (total-change w d test f os h)
  where
    go : (b : Bool) → w (f o) ≤ w o + d → total w (at_first test f os) ≤ total w os + d → total w (cond b (f o ∷ os) (o ∷ at_first test f os)) ≤ w o + total w os + d
    go true a ih = omega arith
    go false a ih = omega arith

-- ---- claims

claims-end : (p : ℕ) (cs : List Claimed) (c : Claimed) → claims_of p (cs ++ c ∷ []) ≡ claims_of p cs + more (eqb c.thread p) 0
claims-end p [] c = go (eqb c.thread p)
  where
    go : (b : Bool) → more b 0 ≡ 0 + more b 0
    go true = refl
    go false = refl
claims-end p (d ∷ cs) c = go (eqb d.thread p) (claims-end p cs c)
  where
    go : (b : Bool) → claims_of p (cs ++ c ∷ []) ≡ claims_of p cs + more (eqb c.thread p) 0 → more b (claims_of p (cs ++ c ∷ [])) ≡ more b (claims_of p cs) + more (eqb c.thread p) 0
    go true ih = omega arith
    go false ih = ih

abbrev left : ℕ → List Claimed → List Claimed
left e cs = filter (λ c. not (claims_it e c)) cs

counted : (p : ℕ) (c : Claimed) (t : Bool) (cs : List Claimed) → eqb c.thread p ≡ t → claims_of p (c ∷ cs) ≡ more t (claims_of p cs)
counted p c t cs e = ap (λ b. more b (claims_of p cs)) e

claims-left : (p e : ℕ) (cs : List Claimed) → claims_of p (left e cs) ≤ claims_of p cs
claims-left p e [] = omega arith
claims-left p e (c ∷ cs) = go (claims_it e c) (eqb c.thread p) refl (claims-left p e cs)
  where
    go : (b t : Bool) → eqb c.thread p ≡ t → claims_of p (left e cs) ≤ claims_of p cs → claims_of p (cond (not b) (c ∷ left e cs) (left e cs)) ≤ claims_of p (c ∷ cs)
    go true true is ih = let a = counted p c true cs is in omega arith
    go true false is ih = let a = counted p c false cs is in omega arith
    go false true is ih = let a = counted p c true cs is in let b = counted p c true (left e cs) is in omega arith
    go false false is ih = let a = counted p c false cs is in let b = counted p c false (left e cs) is in omega arith

abbrev has_claim : ℕ → ℕ → List Claimed → Bool
has_claim p e cs = list_any (λ (c : Claimed). eqb c.thread p && eqb c.entry e) cs

-- a claim of p that goes
claims-less : (p e : ℕ) (cs : List Claimed) → has_claim p e cs ≡ true → claims_of p (left e cs) + 1 ≤ claims_of p cs
claims-less p e [] h = no h
claims-less p e (c ∷ cs) h = go (claims_it e c) (eqb c.thread p) refl h (claims-less p e cs) (claims-left p e cs)
  where
    go : (b t : Bool) → eqb c.thread p ≡ t → (t && b || has_claim p e cs) ≡ true → (has_claim p e cs ≡ true → claims_of p (left e cs) + 1 ≤ claims_of p cs) → claims_of p (left e cs) ≤ claims_of p cs →
        claims_of p (cond (not b) (c ∷ left e cs) (left e cs)) + 1 ≤ claims_of p (c ∷ cs)
    go true true is h ih le = let a = counted p c true cs is in omega arith
    go true false is h ih le = let a = counted p c false cs is in let i = ih h in omega arith
    go false true is h ih le = let a = counted p c true cs is in let b = counted p c true (left e cs) is in let i = ih h in omega arith
    go false false is h ih le = let a = counted p c false cs is in let b = counted p c false (left e cs) is in let i = ih h in omega arith

-- a claim of q
claim-adds : (p q e : ℕ) (heap : Heap) → claims_of p (claimed q e heap).claims ≤ claims_of p heap.claims + 1
claim-adds p q e heap = let a = claims-end p heap.claims (record { thread = q; entry = e }) in go (eqb q p) a
  where
    go : (b : Bool) → claims_of p (claimed q e heap).claims ≡ claims_of p heap.claims + more b 0 → claims_of p (claimed q e heap).claims ≤ claims_of p heap.claims + 1
    go true a = omega arith
    go false a = omega arith

claim-other : (p q e : ℕ) (heap : Heap) → eqb q p ≡ false → claims_of p (claimed q e heap).claims ≡ claims_of p heap.claims
claim-other p q e heap other = let a = claims-end p heap.claims (record { thread = q; entry = e }) in let b : more (eqb q p) 0 ≡ 0 = ap (λ t. more t 0) other in omega arith

-- ---- what an act leaves of an object's duty

-- q's act adds no duty of p
other-ended : (p q : ℕ) (last : Bool) (k : Kind) (o : Object) → eqb q p ≡ false → owes p (ended_if last q k o) ≤ owes p o
other-ended p q true Strong o other = let a : more (eqb q p) 0 ≡ 0 = ap (λ t. more t 0) other in omega arith
other-ended p q true Unowned o other = let a : more (eqb q p) 0 ≡ 0 = ap (λ t. more t 0) other in omega arith
other-ended p q true Weak o other = omega arith
other-ended p q false k o other = omega arith

other-left : (p q : ℕ) (m : Option ℕ) (o : Object) → eqb q p ≡ false → owes p (left_slot q m (owing_none o)) ≤ owes p o
other-left p q None o other = omega arith
other-left p q (Some e) o other = let a : more (eqb q p) 0 ≡ 0 = ap (λ t. more t 0) other in omega arith

listed : (p : ℕ) (k : Kind) (f : List Holder → List Holder) (o : Object) → owes p (with_list k f o) ≡ owes p o
listed p Strong f o = refl
listed p Unowned f o = refl
listed p Weak f o = refl

renames : (p : ℕ) (x y : Holder) (heap : Heap) → debts p (becomes x y heap) ≤ debts p heap
renames p x y heap = let a = total-change (owes p) 0 (holds x) (lists (renamed x y)) heap.objects (λ o. omega arith) in omega arith

takes-out : (p q : ℕ) (c : Holder) (k : Option ℕ) (heap : Heap) → debts p (taken_out c q k heap) ≤ debts p heap
takes-out p q c None heap = omega arith
takes-out p q c (Some k) heap = renames p c (Hand q k) heap

puts-in : (p q : ℕ) (c : Holder) (h : Option ℕ) (heap : Heap) → debts p (put_in c q h heap) ≤ debts p heap
puts-in p q c None heap = omega arith
puts-in p q c (Some h) heap = renames p (Hand q h) c heap

entry-claims : (p q : ℕ) (m : Option ℕ) (heap : Heap) → claims_of p (entry_to q m heap).claims ≤ claims_of p heap.claims + 1
entry-claims p q None heap = omega arith
entry-claims p q (Some e) heap = claim-adds p q e heap

entry-other : (p q : ℕ) (m : Option ℕ) (heap : Heap) → eqb q p ≡ false → debts p (entry_to q m heap) ≡ debts p heap
entry-other p q None heap other = refl
entry-other p q (Some e) heap other = let a = claim-other p q e heap other in omega arith

if-other : (p q : ℕ) (last : Bool) (e : ℕ) (heap : Heap) → eqb q p ≡ false → debts p (claimed_if last q e heap) ≡ debts p heap
if-other p q true e heap other = let a = claim-other p q e heap other in omega arith
if-other p q false e heap other = refl

-- ---- acts that make no debt of anybody

still-acts : (p : ℕ) (test : Object → Bool) (f : Object → Object) (heap : Heap) → ((o : Object) → owes p (f o) ≤ owes p o) → debts p (change test f heap) ≤ debts p heap
still-acts p test f heap h = let a = total-change (owes p) 0 test f heap.objects (λ o. let b = h o in omega arith) in omega arith

-- an act of another thread adds no debt of p
pub others_add_none : (p q : ℕ) (act : Act) (heap : Heap) → eqb q p ≡ false → debts p (effect q act heap) ≤ debts p heap
others_add_none p q (acts.New k c s) heap other = let a = total-end (owes p) heap.objects (made q k c s heap.objects) in omega arith
others_add_none p q acts.Full heap other = omega arith
others_add_none p q (acts.Copy from k) heap other = still-acts p (holds (origin heap q from)) (lists (gains (origin heap q from) (Hand q k))) heap (λ o. omega arith)
others_add_none p q (acts.UnownedOf h k) heap other = still-acts p (holds (Hand q h)) (with_list Unowned (with_last (Hand q k))) heap (λ o. omega arith)
others_add_none p q (acts.WeakOf h k) heap other = still-acts p (holds (Hand q h)) (with_list Weak (with_last (Hand q k))) heap (λ o. omega arith)
others_add_none p q (acts.Load h (got.Hand k)) heap other = still-acts p (holds (Hand q h)) (with_list Strong (with_last (Hand q k))) heap (λ o. omega arith)
others_add_none p q (acts.Load h got.Dead) heap other = omega arith
others_add_none p q (acts.Load h got.Nil) heap other = omega arith
others_add_none p q (acts.Drop h last) heap other =
    let a = entry-other p q (entry_left (Hand q h) last (held_by (Hand q h) heap)) (change (holds (Hand q h)) (given_up q (Hand q h) last) heap) other in
    let b = still-acts p (holds (Hand q h)) (given_up q (Hand q h) last) heap (λ o. let c = other-ended p q last (kind_in (Hand q h) o) (with_list (kind_in (Hand q h) o) (without (Hand q h)) o) other in let d = listed p (kind_in (Hand q h) o) (without (Hand q h)) o in omega arith) in
    omega arith
others_add_none p q (acts.CountFull k from) heap other = omega arith
others_add_none p q (acts.Claim e) heap other = let a = claim-other p q e heap other in omega arith
others_add_none p q acts.NoEntry heap other = omega arith
others_add_none p q (acts.Side s e why) heap other =
    let a = claims-left p e heap.claims in
    let b = total-change (owes p) 0 (in_slot s) (λ o. record o { entry = Some e }) heap.objects (λ o. omega arith) in
    omega arith
others_add_none p q (acts.Back e) heap other = let a = claims-left p e heap.claims in omega arith
others_add_none p q (acts.Swap c h k) heap other =
    let a = puts-in p q (cell heap c) h (taken_out (cell heap c) q k heap) in
    let b = takes-out p q (cell heap c) k heap in
    omega arith
others_add_none p q (acts.Look c) heap other = omega arith
others_add_none p q (acts.Take s f k) heap other = renames p (cell heap (cells.Field s f)) (Hand q k) heap
others_add_none p q (acts.Finish s last) heap other =
    still-acts p (in_slot s) (finished q last) heap (λ o. let a = other-ended p q last Unowned (owing_none (with_list Unowned (without Strongs) o)) other in omega arith)
others_add_none p q (acts.Vacate s) heap other = still-acts p (in_slot s) (vacated q) heap (λ o. let a = other-left p q o.entry (record o { slot = None }) other in omega arith)
others_add_none p q (acts.Gone e last) heap other =
    let a = if-other p q last e (change (has_entry e) (gone q last) heap) other in
    let b = still-acts p (has_entry e) (gone q last) heap (λ o. let c = other-ended p q last Weak (owing_none (with_list Weak (without Unowneds) o)) other in omega arith) in
    omega arith

-- ---- an act of the thread

ended-owes : (p : ℕ) (k : Kind) (o : Object) → owes p (ended p k o) + one_if (is_some (entry_of_last true k o)) ≤ owes p o + 1
ended-owes p Strong o = let a : more (eqb p p) 0 ≡ 1 = ap (λ t. more t 0) (eq-eqb p p refl) in omega arith
ended-owes p Unowned o = let a : more (eqb p p) 0 ≡ 1 = ap (λ t. more t 0) (eq-eqb p p refl) in omega arith
ended-owes p Weak o = go o.entry
  where
    go : (m : Option ℕ) → owes p o + one_if (is_some m) ≤ owes p o + 1
    go None = omega arith
    go (Some e) = omega arith

entry-to-adds : (p : ℕ) (m : Option ℕ) (heap : Heap) → claims_of p (entry_to p m heap).claims ≤ claims_of p heap.claims + one_if (is_some m)
entry-to-adds p None heap = omega arith
entry-to-adds p (Some e) heap = claim-adds p p e heap

entry-to-objects : (p : ℕ) (m : Option ℕ) (heap : Heap) → total (owes p) (entry_to p m heap).objects ≡ total (owes p) heap.objects
entry-to-objects p None heap = refl
entry-to-objects p (Some e) heap = refl

drop-adds : (p h : ℕ) (last : Bool) (heap : Heap) (o : Object) → held_by (Hand p h) heap ≡ Some o → debts p (effect p (acts.Drop h last) heap) ≤ debts p heap + one_if last
drop-adds p h last heap o found =
    let x : Holder = Hand p h in
    let mid = change (holds x) (given_up p x last) heap in
    let m = entry_left x last (held_by x heap) in
    let a = entry-to-adds p m mid in
    let b = entry-to-objects p m mid in
    let sums = total-put (owes p) heap.objects mid.objects o (given_up p x last o) (put-found (holds x) (given_up p x last) heap.objects o found) in
    let e : one_if (is_some m) ≡ one_if (is_some (entry_of_last last (kind_in x o) o)) = ap (λ r. one_if (is_some (entry_left x last r))) found in
    let c = go last in
    omega arith
  where
    entry-same : (k : Kind) (f : List Holder → List Holder) (last : Bool) → one_if (is_some (entry_of_last last k (with_list k f o))) ≡ one_if (is_some (entry_of_last last k o))
    entry-same Strong f true = refl
    entry-same Unowned f true = refl
    entry-same Weak f true = refl
    entry-same k f false = refl

    none : (k : Kind) → one_if (is_some (entry_of_last false k o)) ≡ 0
    none k = refl

    go : (last : Bool) → owes p (given_up p (Hand p h) last o) + one_if (is_some (entry_of_last last (kind_in (Hand p h) o) o)) ≤ owes p o + one_if last
    go true =
        let k = kind_in (Hand p h) o in
        let q = with_list k (without (Hand p h)) o in
        let a = ended-owes p k q in
        let b = listed p k (without (Hand p h)) o in
        let c = entry-same k (without (Hand p h)) true in
        omega arith
    go false =
        let k = kind_in (Hand p h) o in
        let b = listed p k (without (Hand p h)) o in
        let c = none k in
        omega arith

owed-is : (p : ℕ) (d : Duty) (o : Object) → owes_to p d o ≡ true → owes p o ≡ 1
owed-is p d o h = ap (λ b. more b 0) (and_parts (is_by p o.owed) (is_duty d o.owed) h).0

-- the objects after one that p owed something to changed
paid-put : (p : ℕ) (test : Object → Bool) (f : Object → Object) (heap : Heap) (o : Object) (duty : Duty) → find test heap.objects ≡ Some o → owes_to p duty o ≡ true →
    total (owes p) (at_first test f heap.objects) + 1 ≡ total (owes p) heap.objects + owes p (f o)
paid-put p test f heap o duty found owed =
    let a = total-put (owes p) heap.objects (at_first test f heap.objects) o (f o) (put-found test f heap.objects o found) in
    let b = owed-is p duty o owed in
    omega arith

-- at most one
at-most : (b : Bool) → more b 0 ≤ 1
at-most true = omega arith
at-most false = omega arith

owes-one : (p : ℕ) (o : Object) → owes p o ≤ 1
owes-one p o = at-most (is_by p o.owed)

-- whether the act pays a debt of p, at this heap
abbrev pub pays : Act → Heap → Bool
pays (acts.Side s e list) heap = true
pays (acts.Back e) heap = true
pays (acts.Finish s last) heap = not last
pays (acts.Gone e last) heap = not last
pays (acts.Vacate s) heap = passes (λ o. not (is_some o.entry)) (at_slot s heap)
pays _ heap = false

finish-owes : (p : ℕ) (last : Bool) (o : Object) → owes p (finished p last o) + one_if (not last) ≤ 1
finish-owes p true o = let a = owes-one p (finished p true o) in omega arith
finish-owes p false o = omega arith

gone-owes : (p : ℕ) (last : Bool) (o : Object) → owes p (gone p last o) ≡ 0
gone-owes p true o = refl
gone-owes p false o = refl

left-owes : (p : ℕ) (m : Option ℕ) (o : Object) → owes p (left_slot p m (owing_none o)) + one_if (not (is_some m)) ≤ 1
left-owes p None o = omega arith
left-owes p (Some e) o = let a = owes-one p (left_slot p (Some e) (owing_none o)) in omega arith

if-adds : (p e : ℕ) (last : Bool) (heap : Heap) → debts p (claimed_if last p e heap) ≤ debts p heap + one_if last
if-adds p e true heap = let a = claim-adds p p e heap in omega arith
if-adds p e false heap = omega arith

both-ways : (last : Bool) → one_if last + one_if (not last) ≡ 1
both-ways true = refl
both-ways false = refl

-- a thread's own legal act adds at most the debt that is counted for it, less the one that it pays
pub own_adds : (shape : HeapShape) (sight : Sight) (p : ℕ) (act : Act) → first_failing (needs shape sight p act) ≡ None → debts p (effect p act sight.heap) + one_if (pays act sight.heap) ≤ debts p sight.heap + one_if (is_debt act)
own_adds shape sight p (acts.New k c s) ok = let heap = sight.heap in let a = total-end (owes p) heap.objects (made p k c s heap.objects) in omega arith
own_adds shape sight p acts.Full ok = omega arith
own_adds shape sight p (acts.Copy from k) ok = let heap = sight.heap in let a = still-acts p (holds (origin heap p from)) (lists (gains (origin heap p from) (Hand p k))) heap (λ o. omega arith) in omega arith
own_adds shape sight p (acts.UnownedOf h k) ok = let a = still-acts p (holds (Hand p h)) (with_list Unowned (with_last (Hand p k))) sight.heap (λ o. omega arith) in omega arith
own_adds shape sight p (acts.WeakOf h k) ok = let a = still-acts p (holds (Hand p h)) (with_list Weak (with_last (Hand p k))) sight.heap (λ o. omega arith) in omega arith
own_adds shape sight p (acts.Load h (got.Hand k)) ok = let a = still-acts p (holds (Hand p h)) (with_list Strong (with_last (Hand p k))) sight.heap (λ o. omega arith) in omega arith
own_adds shape sight p (acts.Load h got.Dead) ok = omega arith
own_adds shape sight p (acts.Load h got.Nil) ok = omega arith
own_adds shape sight p (acts.Drop h last) ok =
    let m = met (needs shape sight p (acts.Drop h last)) ok in
    let r = some-is (held_by (Hand p h) sight.heap) m.0 in
    let a = drop-adds p h last sight.heap r.0 r.1 in
    omega arith
own_adds shape sight p (acts.CountFull k from) ok = omega arith
own_adds shape sight p (acts.Claim e) ok = let a = claim-adds p p e sight.heap in omega arith
own_adds shape sight p acts.NoEntry ok = omega arith
own_adds shape sight p (acts.Side s e why) ok =
    let m = met (needs shape sight p (acts.Side s e why)) ok in
    let a = claims-less p e sight.heap.claims m.1.0 in
    let b = total-change (owes p) 0 (in_slot s) (λ o. record o { entry = Some e }) sight.heap.objects (λ o. omega arith) in
    omega arith
own_adds shape sight p (acts.Back e) ok =
    let m = met (needs shape sight p (acts.Back e)) ok in
    let a = claims-less p e sight.heap.claims m.0 in
    omega arith
own_adds shape sight p (acts.Swap c h k) ok =
    let heap = sight.heap in
    let a = puts-in p p (cell heap c) h (taken_out (cell heap c) p k heap) in
    let b = takes-out p p (cell heap c) k heap in
    omega arith
own_adds shape sight p (acts.Look c) ok = omega arith
own_adds shape sight p (acts.Take s f k) ok = let heap = sight.heap in let a = renames p (cell heap (cells.Field s f)) (Hand p k) heap in omega arith
own_adds shape sight p (acts.Finish s last) ok =
    let heap = sight.heap in
    let m = met (needs shape sight p (acts.Finish s last)) ok in
    let r = some-is (at_slot s heap) m.0 in
    let owed = at_found (λ o. owes_to p Deinit o && are_all_nil shape heap o) (at_slot s heap) r.0 r.1 m.1.0 in
    let a = paid-put p (in_slot s) (finished p last) heap r.0 Deinit r.1 (and_parts (owes_to p Deinit r.0) (are_all_nil shape heap r.0) owed).0 in
    let b = finish-owes p last r.0 in
    omega arith
own_adds shape sight p (acts.Vacate s) ok =
    let heap = sight.heap in
    let m = met (needs shape sight p (acts.Vacate s)) ok in
    let r = some-is (at_slot s heap) m.0 in
    let owed = at_found (owes_to p Vacating) (at_slot s heap) r.0 r.1 m.1.0 in
    let a = paid-put p (in_slot s) (vacated p) heap r.0 Vacating r.1 owed in
    let b = left-owes p r.0.entry (record r.0 { slot = None }) in
    let c : one_if (passes (λ o. not (is_some o.entry)) (at_slot s heap)) ≡ one_if (not (is_some r.0.entry)) = ap (λ f. one_if (passes (λ o. not (is_some o.entry)) f)) r.1 in
    omega arith
own_adds shape sight p (acts.Gone e last) ok =
    let heap = sight.heap in
    let m = met (needs shape sight p (acts.Gone e last)) ok in
    let r = some-is (at_entry e heap) m.0 in
    let owed = at_found (owes_to p Gone) (at_entry e heap) r.0 r.1 m.1.0 in
    let a = paid-put p (has_entry e) (gone p last) heap r.0 Gone r.1 owed in
    let b = gone-owes p last r.0 in
    let c = if-adds p e last (change (has_entry e) (gone p last) heap) in
    let d = both-ways last in
    omega arith
