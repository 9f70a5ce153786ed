-- What a thread owes and has claimed after an event of its own.
use Rattle.std.proofs.Common.{◌≡◌, ℕ, zero, suc, ◌+◌, ◌≤◌, Bool, true, false, cond, eqb, not, List, [], ◌∷◌, ◌++◌, Option, Some, None, refl, sym, ap, ◌∙◌, arith}
use Rattle.std.specs.Prelude.{◌&&◌, ◌||◌, filter, slice_get, is_some}
use Rattle.std.specs.List.{list_any}
use Rattle.std.proofs.lemmas.Bool.{eqb-true, eq-eqb, ne_eqb}
use Rattle.arc_model.specs.declared.event.Act.{Act}
use Rattle.arc_model.specs.declared.event.Act.TheVariants as acts
use Rattle.arc_model.specs.declared.event.CellName.TheVariants as cells
use Rattle.arc_model.specs.declared.event.Got.TheVariants as got
use Rattle.arc_model.specs.declared.shape.Kind.{Kind}
use Rattle.arc_model.specs.declared.shape.Kind.TheVariants.{Strong, Unowned, Weak}
use Rattle.arc_model.specs.Shapes.{HeapShape}
use Rattle.arc_model.specs.Heaps.{Holder, Hand, Duty, Deinit, Vacating, Gone, Object, Claimed, Heap}
use Rattle.arc_model.specs.Holders.{at_first, change, claims_it, gains, has_entry, held_by, holds, in_slot, is_number, is_claimed_by, kind_in, lists, renamed, with_last, with_list, without}
use Rattle.arc_model.specs.Cells.{cell, origin, same_kind}
use Rattle.arc_model.specs.Effects.{claimed_if, effect, ended_if, entry_left, entry_of_last, entry_to, finished, given_up, gone, left_slot, made, owing_none, put_in, taken_out, vacated}
use Rattle.arc_model.specs.Needs.{passes}
use Rattle.arc_model.specs.History.{heap_after, next_hand}
use Rattle.arc_model.specs.WellFormed.{more, total, IsWellFormed}
use Rattle.arc_model.specs.Lookup.{Spot, further, spot_in, owed_by, duty_in, duty_of, is_spot, entry_in}
use Rattle.arc_model.specs.Own.{owed_next, OwnDuties, claimed_next, OwnClaims}
use Rattle.arc_model.proofs.Tally.{clash}
use Rattle.arc_model.proofs.Courses.{well_formed}

-- the i-th object is the first that passes
abbrev is_first : (Object → Bool) → List Object → ℕ → Bool
is_first test [] i = false
is_first test (o ∷ os) zero = test o
is_first test (o ∷ os) (suc i) = not (test o) && is_first test os i

-- a function of an object, or of none
abbrev mapped : {X : Type 0} → (Object → X) → X → Option Object → X
mapped w d None = d
mapped w d (Some o) = w o

-- what stands at a place after a change of the first object that passes
at-first : {X : Type 0} (w : Object → X) (d : X) (test : Object → Bool) (f : Object → Object) (os : List Object) (i : ℕ) → mapped w d (slice_get (at_first test f os) i) ≡ cond (is_first test os i) (mapped (λ o. w (f o)) d (slice_get os i)) (mapped w d (slice_get os i))
at-first w d test f [] i = refl
at-first w d test f (o ∷ os) zero = go (test o)
  where
    go : (b : Bool) → mapped w d (slice_get (cond b (f o ∷ os) (o ∷ at_first test f os)) zero) ≡ cond b (w (f o)) (w o)
    go true = refl
    go false = refl
at-first w d test f (o ∷ os) (suc i) = go (test o) (at-first w d test f os i)
  where
    go : (b : Bool) → mapped w d (slice_get (at_first test f os) i) ≡ cond (is_first test os i) (mapped (λ o. w (f o)) d (slice_get os i)) (mapped w d (slice_get os i)) →
        mapped w d (slice_get (cond b (f o ∷ os) (o ∷ at_first test f os)) (suc i)) ≡ cond (not b && is_first test os i) (mapped (λ o. w (f o)) d (slice_get os i)) (mapped w d (slice_get os i))
    go true ih = refl
    go false ih = ih

duty-mapped : (p : ℕ) (m : Option Object) → duty_in p m ≡ mapped (λ o. owed_by p o.owed) None m
duty-mapped p None = refl
duty-mapped p (Some o) = refl

duty-at : (p : ℕ) (test : Object → Bool) (f : Object → Object) (os : List Object) (i : ℕ) → duty_in p (slice_get (at_first test f os) i) ≡ cond (is_first test os i) (mapped (λ o. owed_by p (f o).owed) None (slice_get os i)) (duty_in p (slice_get os i))
duty-at p test f os i =
    duty-mapped p (slice_get (at_first test f os) i) ∙ at-first (λ o. owed_by p o.owed) None test f os i
    ∙ ap (λ d. cond (is_first test os i) (mapped (λ o. owed_by p (f o).owed) None (slice_get os i)) d) (sym (duty-mapped p (slice_get os i)))

-- where at most one passes, the first is the one
none-at : (test : Object → Bool) (os : List Object) (i : ℕ) → total (λ o. more (test o) zero) os ≡ 0 → passes test (slice_get os i) ≡ false
none-at test [] i h = refl
none-at test (o ∷ os) zero h = go (test o) h
  where
    go : (b : Bool) → more b zero + total (λ o. more (test o) zero) os ≡ 0 → b ≡ false
    go true h = absurd (omega arith)
    go false h = refl
none-at test (o ∷ os) (suc i) h = none-at test os i (omega arith)

first-only : (test : Object → Bool) (os : List Object) (i : ℕ) → total (λ o. more (test o) zero) os ≤ 1 → is_first test os i ≡ passes test (slice_get os i)
first-only test [] i one = refl
first-only test (o ∷ os) zero one = refl
first-only test (o ∷ os) (suc i) one = go (test o) one (first-only test os i)
  where
    go : (b : Bool) → more b zero + total (λ o. more (test o) zero) os ≤ 1 → (total (λ o. more (test o) zero) os ≤ 1 → is_first test os i ≡ passes test (slice_get os i)) → (not b && is_first test os i) ≡ passes test (slice_get os i)
    go true one ih = sym (none-at test os i (omega arith))
    go false one ih = ih (omega arith)

-- a change that leaves what is owed
same-duty : (p : ℕ) (test : Object → Bool) (f : Object → Object) (os : List Object) (i : ℕ) → ((o : Object) → (f o).owed ≡ o.owed) → duty_in p (slice_get (at_first test f os) i) ≡ duty_in p (slice_get os i)
same-duty p test f [] i same = refl
same-duty p test f (o ∷ os) zero same = go (test o)
  where
    go : (b : Bool) → duty_in p (slice_get (cond b (f o ∷ os) (o ∷ at_first test f os)) zero) ≡ owed_by p o.owed
    go true = ap (owed_by p) (same o)
    go false = refl
same-duty p test f (o ∷ os) (suc i) same = go (test o) (same-duty p test f os i same)
  where
    go : (b : Bool) → duty_in p (slice_get (at_first test f os) i) ≡ duty_in p (slice_get os i) → duty_in p (slice_get (cond b (f o ∷ os) (o ∷ at_first test f os)) (suc i)) ≡ duty_in p (slice_get os i)
    go true ih = refl
    go false ih = ih

with-list-owed : (k : Kind) (f : List Holder → List Holder) (o : Object) → (with_list k f o).owed ≡ o.owed
with-list-owed Strong f o = refl
with-list-owed Unowned f o = refl
with-list-owed Weak f o = refl

duty-append : (p : ℕ) (os : List Object) (o : Object) (i : ℕ) → o.owed ≡ None → duty_in p (slice_get (os ++ o ∷ []) i) ≡ duty_in p (slice_get os i)
duty-append p [] o zero h = ap (owed_by p) h
duty-append p [] o (suc i) h = refl
duty-append p (q ∷ os) o zero h = refl
duty-append p (q ∷ os) o (suc i) h = duty-append p os o i h

-- where x stands, by the first object that it holds
eqb-suc : (a b : ℕ) → eqb (suc a) (suc b) ≡ eqb a b
eqb-suc a b = go (eqb a b) refl
  where
    go : (c : Bool) → eqb a b ≡ c → eqb (suc a) (suc b) ≡ c
    go true e = eq-eqb (suc a) (suc b) (ap suc (eqb-true a b e))
    go false e = ne_eqb (suc a) (suc b) (λ h. clash (eqb a b) (eq-eqb a b (omega arith)) e)

spot-zero : (k : Kind) (m : Option Spot) → is_spot zero k (further m) ≡ false
spot-zero k None = refl
spot-zero k (Some s) = ap (λ b. b && same_kind s.kind k) (ne_eqb (suc s.place) zero (λ h. absurd (omega arith)))

spot-suc : (i : ℕ) (k : Kind) (m : Option Spot) → is_spot (suc i) k (further m) ≡ is_spot i k m
spot-suc i k None = refl
spot-suc i k (Some s) = ap (λ b. b && same_kind s.kind k) (eqb-suc s.place i)

first-spot : (x : Holder) (os : List Object) (i : ℕ) (k : Kind) → is_spot i k (spot_in x os) ≡ (is_first (holds x) os i && mapped (λ o. same_kind (kind_in x o) k) false (slice_get os i))
first-spot x [] i k = refl
first-spot x (o ∷ os) zero k = go (holds x o)
  where
    go : (b : Bool) → is_spot zero k (cond b (Some (record { place = zero; kind = kind_in x o })) (further (spot_in x os))) ≡ (b && same_kind (kind_in x o) k)
    go true = ap (λ c. c && same_kind (kind_in x o) k) (eq-eqb zero zero refl)
    go false = spot-zero k (spot_in x os)
first-spot x (o ∷ os) (suc i) k = go (holds x o) (first-spot x os i k)
  where
    go : (b : Bool) → is_spot i k (spot_in x os) ≡ (is_first (holds x) os i && mapped (λ q. same_kind (kind_in x q) k) false (slice_get os i)) →
        is_spot (suc i) k (cond b (Some (record { place = zero; kind = kind_in x o })) (further (spot_in x os))) ≡ ((not b && is_first (holds x) os i) && mapped (λ q. same_kind (kind_in x q) k) false (slice_get os i))
    go true ih = ap (λ c. c && same_kind (kind_in x o) k) (ne_eqb zero (suc i) (λ h. absurd (omega arith)))
    go false ih = spot-suc i k (spot_in x os) ∙ ih

owed-mine : (p : ℕ) (d : Duty) → owed_by p (Some (record { thread = p; duty = d })) ≡ Some d
owed-mine p d = ap (λ b. cond b (Some d) None) (eq-eqb p p refl)

-- the last holder of a list goes
drop-duty : (p h i : ℕ) (os : List Object) → duty_in p (slice_get (at_first (holds (Hand p h)) (given_up p (Hand p h) true) os) i) ≡ cond (is_spot i Strong (spot_in (Hand p h) os)) (Some Deinit) (cond (is_spot i Unowned (spot_in (Hand p h) os)) (Some Vacating) (duty_in p (slice_get os i)))
drop-duty p h i os =
    duty-at p (holds x) (given_up p x true) os i
    ∙ go (is_first (holds x) os i) (slice_get os i)
    ∙ ap (λ b. cond b (Some Deinit) (cond (is_first (holds x) os i && mapped (λ o. same_kind (kind_in x o) Unowned) false (slice_get os i)) (Some Vacating) (duty_in p (slice_get os i)))) (sym (first-spot x os i Strong))
    ∙ ap (λ b. cond (is_spot i Strong (spot_in x os)) (Some Deinit) (cond b (Some Vacating) (duty_in p (slice_get os i)))) (sym (first-spot x os i Unowned))
  where
    x : Holder
    x = Hand p h

    kinds : (k : Kind) (o : Object) → owed_by p (ended_if true p k (with_list k (without (Hand p h)) o)).owed ≡ cond (same_kind k Strong) (Some Deinit) (cond (same_kind k Unowned) (Some Vacating) (owed_by p o.owed))
    kinds Strong o = owed-mine p Deinit
    kinds Unowned o = owed-mine p Vacating
    kinds Weak o = refl

    go : (b : Bool) (m : Option Object) → cond b (mapped (λ o. owed_by p (given_up p (Hand p h) true o).owed) None m) (duty_in p m) ≡ cond (b && mapped (λ o. same_kind (kind_in (Hand p h) o) Strong) false m) (Some Deinit) (cond (b && mapped (λ o. same_kind (kind_in (Hand p h) o) Unowned) false m) (Some Vacating) (duty_in p m))
    go true None = refl
    go true (Some o) = kinds (kind_in (Hand p h) o) o
    go false m = refl

entry_to-objects : (p : ℕ) (m : Option ℕ) (heap : Heap) → (entry_to p m heap).objects ≡ heap.objects
entry_to-objects p None heap = refl
entry_to-objects p (Some e) heap = refl

claimed_if-objects : (last : Bool) (p e : ℕ) (heap : Heap) → (claimed_if last p e heap).objects ≡ heap.objects
claimed_if-objects true p e heap = refl
claimed_if-objects false p e heap = refl

-- a change where at most one object passes
only-duty : (p : ℕ) (test : Object → Bool) (f : Object → Object) (os : List Object) (i : ℕ) → total (λ o. more (test o) zero) os ≤ 1 → duty_in p (slice_get (at_first test f os) i) ≡ cond (passes test (slice_get os i)) (mapped (λ o. owed_by p (f o).owed) None (slice_get os i)) (duty_in p (slice_get os i))
only-duty p test f os i one = duty-at p test f os i ∙ ap (λ b. cond b (mapped (λ o. owed_by p (f o).owed) None (slice_get os i)) (duty_in p (slice_get os i))) (first-only test os i one)

-- where it passes, what it owes then
then-owed : (p : ℕ) (test : Object → Bool) (f : Object → Object) (m : Option Object) (d : Option Duty) → ((o : Object) → m ≡ Some o → owed_by p (f o).owed ≡ d) → cond (passes test m) (mapped (λ o. owed_by p (f o).owed) None m) (duty_in p m) ≡ cond (passes test m) d (duty_in p m)
then-owed p test f None d is = refl
then-owed p test f (Some o) d is = ap (λ e. cond (test o) e (owed_by p o.owed)) (is o refl)

duties_step : {shape : HeapShape} (p : ℕ) (act : Act) (i : ℕ) (next : ℕ → ℕ) (heap : Heap) → IsWellFormed shape next heap → duty_of p i (effect p act heap) ≡ owed_next p act i heap
duties_step p (acts.New k c s) i next heap f = duty-append p heap.objects (made p k c s heap.objects) i refl
duties_step p acts.Full i next heap f = refl
duties_step p (acts.Copy from k) i next heap f = same-duty p (holds (origin heap p from)) (lists (gains (origin heap p from) (Hand p k))) heap.objects i (λ o. refl)
duties_step p (acts.UnownedOf h k) i next heap f = same-duty p (holds (Hand p h)) (with_list Unowned (with_last (Hand p k))) heap.objects i (λ o. refl)
duties_step p (acts.WeakOf h k) i next heap f = same-duty p (holds (Hand p h)) (with_list Weak (with_last (Hand p k))) heap.objects i (λ o. refl)
duties_step p (acts.Load h (got.Hand k)) i next heap f = same-duty p (holds (Hand p h)) (with_list Strong (with_last (Hand p k))) heap.objects i (λ o. refl)
duties_step p (acts.Load h got.Dead) i next heap f = refl
duties_step p (acts.Load h got.Nil) i next heap f = refl
duties_step p (acts.Drop h true) i next heap f =
    ap (λ os. duty_in p (slice_get os i)) (entry_to-objects p (entry_left (Hand p h) true (held_by (Hand p h) heap)) (change (holds (Hand p h)) (given_up p (Hand p h) true) heap))
    ∙ drop-duty p h i heap.objects
duties_step p (acts.Drop h false) i next heap f =
    ap (λ os. duty_in p (slice_get os i)) (entry_to-objects p (entry_left (Hand p h) false (held_by (Hand p h) heap)) (change (holds (Hand p h)) (given_up p (Hand p h) false) heap))
    ∙ same-duty p (holds (Hand p h)) (given_up p (Hand p h) false) heap.objects i (λ o. with-list-owed (kind_in (Hand p h) o) (without (Hand p h)) o)
duties_step p (acts.CountFull k from) i next heap f = refl
duties_step p (acts.Claim e) i next heap f = refl
duties_step p acts.NoEntry i next heap f = refl
duties_step p (acts.Side s e why) i next heap f = same-duty p (in_slot s) (λ o. record o { entry = Some e }) heap.objects i (λ o. refl)
duties_step p (acts.Back e) i next heap f = refl
duties_step p (acts.Swap c h k) i next heap f = putting h (taken_out (cell heap c) p k heap) ∙ taking k
  where
    putting : (h : Option ℕ) (mid : Heap) → duty_of p i (put_in (cell heap c) p h mid) ≡ duty_of p i mid
    putting None mid = refl
    putting (Some n) mid = same-duty p (holds (Hand p n)) (lists (renamed (Hand p n) (cell heap c))) mid.objects i (λ o. refl)

    taking : (k : Option ℕ) → duty_of p i (taken_out (cell heap c) p k heap) ≡ duty_of p i heap
    taking None = refl
    taking (Some n) = same-duty p (holds (cell heap c)) (lists (renamed (cell heap c) (Hand p n))) heap.objects i (λ o. refl)
duties_step p (acts.Look c) i next heap f = refl
duties_step p (acts.Take s g k) i next heap f = same-duty p (holds (cell heap (cells.Field s g))) (lists (renamed (cell heap (cells.Field s g)) (Hand p k))) heap.objects i (λ o. refl)
duties_step p (acts.Finish s last) i next heap f =
    only-duty p (in_slot s) (finished p last) heap.objects i (f.slots s)
    ∙ then-owed p (in_slot s) (finished p last) (slice_get heap.objects i) (cond last (Some Vacating) None) (λ o _. end last o)
  where
    end : (last : Bool) (o : Object) → owed_by p (finished p last o).owed ≡ cond last (Some Vacating) None
    end true o = owed-mine p Vacating
    end false o = refl
duties_step p (acts.Vacate s) i next heap f =
    only-duty p (in_slot s) (vacated p) heap.objects i (f.slots s)
    ∙ then-owed p (in_slot s) (vacated p) (slice_get heap.objects i) (cond (is_some (entry_in (slice_get heap.objects i))) (Some Gone) None) (λ o e. leave o o.entry ∙ ap (λ m. cond (is_some (entry_in m)) (Some Gone) None) (sym e))
  where
    leave : (o : Object) (m : Option ℕ) → owed_by p (left_slot p m (owing_none (record o { slot = None }))).owed ≡ cond (is_some m) (Some Gone) None
    leave o None = refl
    leave o (Some n) = owed-mine p Gone
duties_step p (acts.Gone e last) i next heap f =
    ap (λ os. duty_in p (slice_get os i)) (claimed_if-objects last p e (change (has_entry e) (gone p last) heap))
    ∙ only-duty p (has_entry e) (gone p last) heap.objects i (let a = f.entries e in omega arith)
    ∙ then-owed p (has_entry e) (gone p last) (slice_get heap.objects i) None (λ o _. end last o)
  where
    end : (last : Bool) (o : Object) → owed_by p (gone p last o).owed ≡ None
    end true o = refl
    end false o = refl

pub own_duties : OwnDuties
own_duties shape h e i legal = duties_step e.thread e.act i (λ q. next_hand q h) (heap_after h) (well_formed shape h legal.1)

-- claims
abbrev by : ℕ → ℕ → Claimed → Bool
by p e c = eqb c.thread p && eqb c.entry e

any-last : (test : Claimed → Bool) (cs : List Claimed) (c : Claimed) → list_any test (cs ++ c ∷ []) ≡ (test c || list_any test cs)
any-last test [] c = refl
any-last test (d ∷ cs) c = ap (λ b. test d || b) (any-last test cs c) ∙ swap (test d) (test c)
  where
    swap : (a b : Bool) → (a || (b || list_any test cs)) ≡ (b || (a || list_any test cs))
    swap true true = refl
    swap true false = refl
    swap false b = refl

claimed-more : (p n e : ℕ) (cs : List Claimed) → list_any (by p e) (cs ++ record { thread = p; entry = n } ∷ []) ≡ (eqb n e || list_any (by p e) cs)
claimed-more p n e cs = any-last (by p e) cs (record { thread = p; entry = n }) ∙ ap (λ b. b && eqb n e || list_any (by p e) cs) (eq-eqb p p refl)

unclaimed-less : (p n e : ℕ) (cs : List Claimed) → list_any (by p e) (filter (λ c. not (claims_it n c)) cs) ≡ (not (eqb n e) && list_any (by p e) cs)
unclaimed-less p n e [] = none (eqb n e)
  where
    none : (b : Bool) → false ≡ (not b && false)
    none true = refl
    none false = refl
unclaimed-less p n e (c ∷ cs) = go (claims_it n c) refl (unclaimed-less p n e cs)
  where
    hides : (a : Bool) → claims_it n c ≡ true → (not (eqb n e) && list_any (by p e) cs) ≡ (not (eqb n e) && (a && eqb c.entry e || list_any (by p e) cs))
    hides a is = off (eqb n e) a ∙ ap (λ m. not (eqb n e) && (a && eqb m e || list_any (by p e) cs)) (sym (eqb-true c.entry n is))
      where
        off : (b a : Bool) → (not b && list_any (by p e) cs) ≡ (not b && (a && b || list_any (by p e) cs))
        off true a = refl
        off false true = refl
        off false false = refl

    go : (b : Bool) → claims_it n c ≡ b → list_any (by p e) (filter (λ c. not (claims_it n c)) cs) ≡ (not (eqb n e) && list_any (by p e) cs) → list_any (by p e) (cond (not b) (c ∷ filter (λ c. not (claims_it n c)) cs) (filter (λ c. not (claims_it n c)) cs)) ≡ (not (eqb n e) && (by p e c || list_any (by p e) cs))
    go true is ih = ih ∙ hides (eqb c.thread p) is
    go false is ih = ap (λ b. by p e c || b) ih ∙ apart (eqb n e) (eqb c.thread p) (eqb c.entry e) refl refl
      where
        apart : (b a d : Bool) → eqb n e ≡ b → eqb c.entry e ≡ d → (a && d || (not b && list_any (by p e) cs)) ≡ (not b && (a && d || list_any (by p e) cs))
        apart false a d ne en = refl
        apart true a true ne en = clash (claims_it n c) (eq-eqb c.entry n (eqb-true c.entry e en ∙ sym (eqb-true n e ne))) is
        apart true true false ne en = refl
        apart true false false ne en = refl

entry_to-claims : (p e : ℕ) (m : Option ℕ) (heap : Heap) → list_any (by p e) (entry_to p m heap).claims ≡ (is_number m e || list_any (by p e) heap.claims)
entry_to-claims p e None heap = refl
entry_to-claims p e (Some n) heap = claimed-more p n e heap.claims

left-claimed : (p h e : ℕ) (m : Option Object) → is_number (entry_left (Hand p h) true m) e ≡ passes (λ o. same_kind (kind_in (Hand p h) o) Weak && has_entry e o) m
left-claimed p h e None = refl
left-claimed p h e (Some o) = go (kind_in (Hand p h) o)
  where
    go : (k : Kind) → is_number (entry_of_last true k o) e ≡ (same_kind k Weak && is_number o.entry e)
    go Strong = refl
    go Unowned = refl
    go Weak = refl

left-none : (p h : ℕ) (m : Option Object) → entry_left (Hand p h) false m ≡ None
left-none p h None = refl
left-none p h (Some o) = go (kind_in (Hand p h) o)
  where
    go : (k : Kind) → entry_of_last false k o ≡ None
    go Strong = refl
    go Unowned = refl
    go Weak = refl

claims_step : (p : ℕ) (act : Act) (e : ℕ) (heap : Heap) → is_claimed_by p e (effect p act heap) ≡ claimed_next p act e heap
claims_step p (acts.New k c s) e heap = refl
claims_step p acts.Full e heap = refl
claims_step p (acts.Copy from k) e heap = refl
claims_step p (acts.UnownedOf h k) e heap = refl
claims_step p (acts.WeakOf h k) e heap = refl
claims_step p (acts.Load h (got.Hand k)) e heap = refl
claims_step p (acts.Load h got.Dead) e heap = refl
claims_step p (acts.Load h got.Nil) e heap = refl
claims_step p (acts.Drop h true) e heap =
    entry_to-claims p e (entry_left (Hand p h) true (held_by (Hand p h) heap)) (change (holds (Hand p h)) (given_up p (Hand p h) true) heap)
    ∙ ap (λ b. b || is_claimed_by p e heap) (left-claimed p h e (held_by (Hand p h) heap))
claims_step p (acts.Drop h false) e heap =
    entry_to-claims p e (entry_left (Hand p h) false (held_by (Hand p h) heap)) (change (holds (Hand p h)) (given_up p (Hand p h) false) heap)
    ∙ ap (λ m. is_number m e || is_claimed_by p e heap) (left-none p h (held_by (Hand p h) heap))
claims_step p (acts.CountFull k from) e heap = refl
claims_step p (acts.Claim n) e heap = claimed-more p n e heap.claims
claims_step p acts.NoEntry e heap = refl
claims_step p (acts.Side s n why) e heap = unclaimed-less p n e heap.claims
claims_step p (acts.Back n) e heap = unclaimed-less p n e heap.claims
claims_step p (acts.Swap c h k) e heap = putting h (taken_out (cell heap c) p k heap) ∙ taking k
  where
    putting : (h : Option ℕ) (mid : Heap) → is_claimed_by p e (put_in (cell heap c) p h mid) ≡ is_claimed_by p e mid
    putting None mid = refl
    putting (Some n) mid = refl

    taking : (k : Option ℕ) → is_claimed_by p e (taken_out (cell heap c) p k heap) ≡ is_claimed_by p e heap
    taking None = refl
    taking (Some n) = refl
claims_step p (acts.Look c) e heap = refl
claims_step p (acts.Take s g k) e heap = refl
claims_step p (acts.Finish s last) e heap = refl
claims_step p (acts.Vacate s) e heap = refl
claims_step p (acts.Gone n true) e heap = claimed-more p n e heap.claims
claims_step p (acts.Gone n false) e heap = refl

pub own_claims : OwnClaims
own_claims shape h e n legal = claims_step e.thread e.act n (heap_after h)
