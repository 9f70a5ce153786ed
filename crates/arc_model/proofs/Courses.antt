-- Every legal event has one of the forms of a course, so each heap after a legal history is well formed.
use Rattle.std.proofs.Common.{◌≡◌, ℕ, zero, suc, ◌+◌, ◌<◌, ◌≤◌, Bool, true, false, cond, eqb, not, List, [], ◌∷◌, ◌++◌, length, Option, Some, None, ◌⊎◌, inl, inr, refl, sym, ap, ◌∙◌, subst, arith}
use Rattle.std.specs.Prelude.{◌&&◌, ◌||◌, find, filter, is_some, count_by}
use Rattle.std.specs.List.{list_any}
use Rattle.std.proofs.lemmas.Bool.{and_parts, cases_eq, eqb-true, eq-eqb, ltb-true}
use Rattle.std.proofs.lemmas.List.Sums.{sum_by-cons}
use Rattle.arc_model.specs.declared.event.ObjectId.{ObjectId}
use Rattle.arc_model.specs.declared.event.Act.{Act}
use Rattle.arc_model.specs.declared.event.Act.TheVariants as acts
use Rattle.arc_model.specs.declared.event.CellName.{CellName}
use Rattle.arc_model.specs.declared.event.CellName.TheVariants as cells
use Rattle.arc_model.specs.declared.event.Origin.{Origin}
use Rattle.arc_model.specs.declared.event.Origin.TheVariants as origins
use Rattle.arc_model.specs.declared.event.Got.{Got}
use Rattle.arc_model.specs.declared.event.Got.TheVariants as got
use Rattle.arc_model.specs.declared.event.Event.{Event}
use Rattle.arc_model.specs.declared.shape.Kind.TheVariants.{Strong, Unowned, Weak}
use Rattle.arc_model.proofs.Basics.{AreMet, met, met-split, opposite, true≢false, None≢Some, in-not_empty, some-strong, in-strong, at_found}
use Rattle.arc_model.proofs.Builds.{advance, advance-grows, advance-here, some-is, find-passes, le-refl, whole-of, hand-is, hand-ended, next-mine, join_turn, copy_turn, rename_turn, live-renamed, any-end, times-end, not-by, drop_turn, finish_turn, vacate_turn, gone_turn}
use Rattle.arc_model.proofs.Keeps.{none-total, Course, still, makes, turn, turns, kept, kept-still, kept-turn}
use Rattle.arc_model.proofs.Stages.{live-facts, whole-entered, in-kind, holds-held}
use Rattle.arc_model.proofs.Tally.{no, clash, same-id, same-refl, is_pos, tally-in}
use Rattle.arc_model.proofs.Turns.{put-found, place-put, keep, is_open_to, Turn, held-turn}
use Rattle.arc_model.specs.Cells.{id_of, cell, is_nil, is_immortal, strong_holders, holders_with, is_live, has_field, fields_of, each_below, are_nil, are_all_nil}
use Rattle.arc_model.specs.Effects.{becomes, effect, entry_to, entry_left, given_up, unclaimed, finished, vacated, gone}
use Rattle.arc_model.specs.Heaps.{Holder, Hand, Field, Strongs, Unowneds, Deinit, Vacating, Gone, Object, Claimed, Heap}
use Rattle.arc_model.specs.History.{History, heap_after, next_hand, brings, is_of, sight, IsLegal}
use Rattle.arc_model.specs.Holders.{same_id, same_holder, is_hand_of, at_slot, lists, renamed, is_in, is_empty, is_alone, holds, kind_in, with_list, at_first, with_last, change, is_number, claims_it, in_slot, has_entry, held_by, is_entry_taken, is_claimed_by, is_duty, is_by, owes_to}
use Rattle.arc_model.specs.Needs.{Sight, first_failing, needs, reachable, has, puts, takes, passes, has_room, same_bool}
use Rattle.arc_model.specs.Shapes.{HeapShape}
use Rattle.arc_model.specs.WellFormed.{more, held, total, has_entry_times, claimed_times, is_own, HasField, IsWellFormed, WellFormedAfter}

pub twice : (b : Bool) → not (not b) ≡ true → b ≡ true
twice true e = refl
twice false e = e

pub passes-some : (test : Object → Bool) (m : Option Object) → passes test m ≡ true → is_some m ≡ true
passes-some test None h = h
passes-some test (Some o) h = refl

number-is : (m : Option ℕ) (n : ℕ) → is_number m n ≡ true → m ≡ Some n
number-is None n h = no h
number-is (Some k) n h = ap Some (eqb-true k n h)

-- cells
pub own-cell : (heap : Heap) (c : CellName) → is_own (cell heap c) ≡ true
own-cell heap (cells.Field s f) = refl
own-cell heap (cells.Global g) = refl

pub hand-cell : (r n : ℕ) (heap : Heap) (c : CellName) → same_holder (Hand r n) (cell heap c) ≡ false
hand-cell r n heap (cells.Field s f) = refl
hand-cell r n heap (cells.Global g) = refl

pub cell-hand : (r n : ℕ) (heap : Heap) (c : CellName) → same_holder (cell heap c) (Hand r n) ≡ false
cell-hand r n heap (cells.Field s f) = refl
cell-hand r n heap (cells.Global g) = refl

-- what no object holds, and what one does
pub not-held : (x : Holder) (os : List Object) → is_some (find (holds x) os) ≡ false → total (held x) os ≡ 0
not-held x [] h = refl
not-held x (o ∷ os) h = go (holds x o) (sym (holds-held x o)) h (not-held x os)
  where
    go : (b : Bool) → is_pos (held x o) ≡ b → is_some (cond b (Some o) (find (holds x) os)) ≡ false → (is_some (find (holds x) os) ≡ false → total (held x) os ≡ 0) → held x o + total (held x) os ≡ 0
    go true e h ih = absurd (true≢false h)
    go false e h ih = let a = ih h in let b = zero-is (held x o) e in omega arith
      where
        zero-is : (n : ℕ) → is_pos n ≡ false → n ≡ 0
        zero-is zero e = refl
        zero-is (suc n) e = absurd (true≢false e)

by_some : {A : Type 0} (b : Bool) → (b ≡ false → A) → (b ≡ true → A) → A
by_some false f t = f refl
by_some true f t = t refl

pub is-held : (x : Holder) (os : List Object) → 1 ≤ total (held x) os → is_some (find (holds x) os) ≡ true
is-held x os h = by_some (is_some (find (holds x) os)) (λ e. absurd (let a = not-held x os e in omega arith)) (λ e. e)

pub held-is : (x : Holder) (os : List Object) → is_some (find (holds x) os) ≡ true → 1 ≤ total (held x) os
held-is x [] h = no h
held-is x (o ∷ os) h = go (holds x o) (sym (holds-held x o)) h (held-is x os)
  where
    pos : (n : ℕ) → is_pos n ≡ true → 1 ≤ n
    pos zero e = no e
    pos (suc n) e = omega arith

    go : (b : Bool) → is_pos (held x o) ≡ b → is_some (cond b (Some o) (find (holds x) os)) ≡ true → (is_some (find (holds x) os) ≡ true → 1 ≤ total (held x) os) → 1 ≤ held x o + total (held x) os
    go true e h ih = let a = pos (held x o) e in omega arith
    go false e h ih = let a = ih h in omega arith

-- claims that are taken back
pub none-claimed : (e : ℕ) (cs : List Claimed) → list_any (claims_it e) cs ≡ false → claimed_times e cs ≡ 0
none-claimed e [] h = refl
none-claimed e (c ∷ cs) h = go (claims_it e c) h (none-claimed e cs)
  where
    go : (b : Bool) → (b || list_any (claims_it e) cs) ≡ false → (list_any (claims_it e) cs ≡ false → claimed_times e cs ≡ 0) → more b (claimed_times e cs) ≡ 0
    go true h ih = absurd (true≢false h)
    go false h ih = ih h

abbrev left : ℕ → List Claimed → List Claimed
left e cs = filter (λ c. not (claims_it e c)) cs

more-le : (d : Bool) (m n : ℕ) → m ≤ n → more d m ≤ more d n
more-le true m n h = omega arith
more-le false m n h = h

less-more : (d : Bool) (m n : ℕ) → m ≤ n → m ≤ more d n
less-more true m n h = omega arith
less-more false m n h = h

left-times : (e t : ℕ) (cs : List Claimed) → claimed_times t (left e cs) ≤ claimed_times t cs
left-times e t [] = le-refl zero
left-times e t (c ∷ cs) = go (claims_it e c) (left-times e t cs)
  where
    go : (b : Bool) → claimed_times t (left e cs) ≤ claimed_times t cs → claimed_times t (cond (not b) (c ∷ left e cs) (left e cs)) ≤ more (claims_it t c) (claimed_times t cs)
    go true ih = less-more (claims_it t c) (claimed_times t (left e cs)) (claimed_times t cs) ih
    go false ih = more-le (claims_it t c) (claimed_times t (left e cs)) (claimed_times t cs) ih

left-same : (e t : ℕ) (cs : List Claimed) → eqb e t ≡ false → claimed_times t (left e cs) ≡ claimed_times t cs
left-same e t [] other = refl
left-same e t (c ∷ cs) other = go (claims_it e c) refl (left-same e t cs other)
  where
    away : (b : Bool) → eqb c.entry t ≡ b → claims_it e c ≡ true → claimed_times t cs ≡ more b (claimed_times t cs)
    away true f h = clash (eqb e t) (eq-eqb e t (sym (eqb-true c.entry e h) ∙ eqb-true c.entry t f)) other
    away false f h = refl

    go : (b : Bool) → claims_it e c ≡ b → claimed_times t (left e cs) ≡ claimed_times t cs → claimed_times t (cond (not b) (c ∷ left e cs) (left e cs)) ≡ more (claims_it t c) (claimed_times t cs)
    go true h ih = ih ∙ away (eqb c.entry t) refl h
    go false h ih = ap (more (claims_it t c)) ih

left-none : (e : ℕ) (cs : List Claimed) → claimed_times e (left e cs) ≡ 0
left-none e [] = refl
left-none e (c ∷ cs) = go (claims_it e c) refl (left-none e cs)
  where
    go : (b : Bool) → claims_it e c ≡ b → claimed_times e (left e cs) ≡ 0 → claimed_times e (cond (not b) (c ∷ left e cs) (left e cs)) ≡ 0
    go true h ih = ih
    go false h ih = ap (λ b. more b (claimed_times e (left e cs))) h ∙ ih

left-absent : (e : ℕ) (cs : List Claimed) → claimed_times e cs ≡ 0 → left e cs ≡ cs
left-absent e [] h = refl
left-absent e (c ∷ cs) h = go (claims_it e c) h (left-absent e cs)
  where
    go : (b : Bool) → more b (claimed_times e cs) ≡ 0 → (claimed_times e cs ≡ 0 → left e cs ≡ cs) → cond (not b) (c ∷ left e cs) (left e cs) ≡ c ∷ cs
    go true h ih = absurd (omega arith)
    go false h ih = ap (λ ds. c ∷ ds) (ih h)

abbrev has_claim : ℕ → ℕ → List Claimed → Bool
has_claim p e cs = list_any (λ (c : Claimed). eqb c.thread p && eqb c.entry e) cs

pub claim-counts : (p e : ℕ) (cs : List Claimed) → has_claim p e cs ≡ true → 1 ≤ claimed_times e cs
claim-counts p e [] h = no h
claim-counts p e (c ∷ cs) h = go (eqb c.thread p) (eqb c.entry e) h (claim-counts p e cs)
  where
    go : (a b : Bool) → (a && b || has_claim p e cs) ≡ true → (has_claim p e cs ≡ true → 1 ≤ claimed_times e cs) → 1 ≤ more b (claimed_times e cs)
    go a true h ih = omega arith
    go true false h ih = ih h
    go false false h ih = ih h

left-others : (r p e t : ℕ) (cs : List Claimed) → (r ≡ p → ⊥) → has_claim p e cs ≡ true → claimed_times e cs ≤ 1 → has_claim r t (left e cs) ≡ has_claim r t cs
left-others r p e t [] ne h one = refl
left-others r p e t (c ∷ cs) ne h one = go (claims_it e c) (eqb c.thread p) refl h one (left-others r p e t cs ne)
  where
    not-mine : (b : Bool) → eqb c.thread r ≡ b → eqb c.thread p ≡ true → (b && eqb c.entry t) ≡ false
    not-mine true e f = absurd (ne (sym (eqb-true c.thread r e) ∙ eqb-true c.thread p f))
    not-mine false e f = refl

    go : (b a : Bool) → eqb c.thread p ≡ a → (a && b || has_claim p e cs) ≡ true → more b (claimed_times e cs) ≤ 1 → (has_claim p e cs ≡ true → claimed_times e cs ≤ 1 → has_claim r t (left e cs) ≡ has_claim r t cs) → has_claim r t (cond (not b) (c ∷ left e cs) (left e cs)) ≡ (eqb c.thread r && eqb c.entry t || has_claim r t cs)
    go true true f h one ih =
        let none : claimed_times e cs ≡ 0 = omega arith in
        ap (has_claim r t) (left-absent e cs none) ∙ ap (λ b. b || has_claim r t cs) (sym (not-mine (eqb c.thread r) refl f))
    go true false f h one ih = let a = claim-counts p e cs h in absurd (omega arith)
    go false true f h one ih = ap (λ b. eqb c.thread r && eqb c.entry t || b) (ih h one)
    go false false f h one ih = ap (λ b. eqb c.thread r && eqb c.entry t || b) (ih h one)

-- an object gets a claimed entry
side_turn : {shape : HeapShape} (p s e : ℕ) (act : Act) (next : ℕ → ℕ) (old : Heap) (o : Object) → find (in_slot s) old.objects ≡ Some o → IsWellFormed shape next old → is_claimed_by p e old ≡ true → is_some o.entry ≡ false → is_immortal shape o ≡ false → Turn shape p act next next old (unclaimed e (change (in_slot s) (λ o. record o { entry = Some e }) old))
side_turn {shape = shape} p s e act next old o found f mine free mortal =
    let put = put-found (in_slot s) (λ o. record o { entry = Some e }) old.objects o found in
    let slot : is_some o.slot ≡ true = ap is_some (number-is o.slot s (find-passes (in_slot s) old.objects o found)) in record {
      o = o;
      q = record o { entry = Some e };
      put = put;
      kind = Strong;
      edit = keep;
      fits = tt;
      strong = refl;
      unowned = refl;
      weak = refl;
      id = refl;
      whole = whole-entered o e slot (whole-of next old (at_first (in_slot s) (λ o. record o { entry = Some e }) old.objects) o (record o { entry = Some e }) f put);
      no_strongs = refl;
      no_unowneds = refl;
      no_forever = refl;
      absent = λ z _ c. no c;
      mine = λ r k c. no c;
      was_mine = λ r k e. no e;
      grows = λ r. le-refl (next r);
      slots = λ t. le-refl (more (is_number o.slot t) zero);
      entries = λ t. entries t (eqb e t) refl;
      weak_stays = λ h. h;
      entry_stays = λ n h. clash (is_some o.entry) (ap is_some h) free;
      unentered = λ h _. clash (is_immortal shape o) h mortal;
      owed = λ r ne. refl;
      stays = λ d h. inl h;
      claims = λ r ne t. left-others r p e t old.claims ne mine (let a = f.entries e in omega arith);
      class = refl;
      life = inl refl;
      place = inl refl;
      joins = λ c. no c;
      puts_in = λ id g c. no c;
      takes_out = λ id g c. no c;
      fields = λ h. inl h;
    }
  where
    none : (m : Option ℕ) (t : ℕ) → is_some m ≡ false → more (is_number m t) zero ≡ 0
    none None t h = refl
    none (Some n) t h = absurd (true≢false h)

    entries : (t : ℕ) (b : Bool) → eqb e t ≡ b → more (eqb e t) zero + claimed_times t (left e old.claims) ≡ more (is_number o.entry t) zero + claimed_times t old.claims
    entries t true h =
        let a : claimed_times t (left e old.claims) ≡ 0 = ap (λ u. claimed_times u (left e old.claims)) (sym (eqb-true e t h)) ∙ left-none e old.claims in
        let b : claimed_times e old.claims ≡ claimed_times t old.claims = ap (λ u. claimed_times u old.claims) (eqb-true e t h) in
        let c = claim-counts p e old.claims mine in
        let g = f.entries e in
        let n = none o.entry t free in
        let d : more (eqb e t) zero ≡ 1 = ap (λ b. more b zero) h in omega arith
    entries t false h = let d : more (eqb e t) zero ≡ 0 = ap (λ b. more b zero) h in let n = none o.entry t free in let a = left-same e t old.claims h in omega arith

pub or-right : (a b : Bool) → b ≡ true → (a || b) ≡ true
or-right true b h = refl
or-right false b h = h

-- fields that are nil
each-below : (n : ℕ) (test : ℕ → Bool) → each_below n test ≡ true → (f : ℕ) → f < n → test f ≡ true
each-below zero test h f less = absurd (omega arith)
each-below (suc n) test h f less =
    let e = and_parts (test n) (each_below n test) h in
    elim (cases_eq f n) [
      | inl same ↦ ap test same ∙ e.0
      | inr other ↦ each-below n test e.1 f (omega arith)
    ]

all-nil : (shape : HeapShape) (heap : Heap) (o : Object) → are_all_nil shape heap o ≡ true → (f : ℕ) → has_field shape f o ≡ true → total (held (Field o.id f)) heap.objects ≡ 0
all-nil shape heap o h f has =
    let n = length (fields_of shape o) in
    not-held (Field o.id f) heap.objects (opposite (is_some (held_by (Field o.id f) heap)) (each-below n (λ g. is_nil heap (Field o.id g)) h f (ltb-true f n has)))

-- the forms of the acts
idle : {shape : HeapShape} (p : ℕ) (act : Act) (next : ℕ → ℕ) (heap : Heap) → IsWellFormed shape next heap → Course shape p act next next heap heap
idle p act next heap f = still refl f.entries (λ r. le-refl (next r)) (λ r _ e. refl) (λ e. inl (le-refl (claimed_times e heap.claims)))

copy_course : (shape : HeapShape) (sight : Sight) (p : ℕ) (from : Origin) (k : ℕ) (next : ℕ → ℕ) → sight.next ≡ next p → AreMet (has shape sight.heap p from) → eqb k sight.next ≡ true → IsWellFormed shape next sight.heap → Turn shape p (acts.Copy from k) next (advance true p next) sight.heap (effect p (acts.Copy from k) sight.heap)
copy_course shape sight p (origins.Hand h) k next is m e f = copy_turn p k (acts.Copy (origins.Hand h) k) next sight.heap (Hand p h) (eqb-true k sight.next e ∙ is) f refl (λ r n g. (hand-is r n p h g).0) m.0
copy_course shape sight p (origins.Cell c) k next is m e f =
    let r = met-split (reachable shape sight.heap p c) ((not (is_nil sight.heap (cell sight.heap c)), _) ∷ []) m in
    copy_turn p k (acts.Copy (origins.Cell c) k) next sight.heap (cell sight.heap c) (eqb-true k sight.next e ∙ is) f (own-cell sight.heap c) (λ r n g. no (sym (hand-cell r n sight.heap c) ∙ g)) (twice (is_some (held_by (cell sight.heap c) sight.heap)) r.1.0)

-- the cell, if it is a field, is one of an object of a heap that passes the test
abbrev pub Fielded : HeapShape → (Object → Bool) → Heap → Heap → CellName → Type 0
Fielded shape test was heap c = (id : ObjectId) (g : ℕ) → same_holder (Field id g) (cell was c) ≡ true → HasField shape test id g heap

pub fielded : {shape : HeapShape} (heap : Heap) (s g : ℕ) (test : Object → Bool) → passes (has_field shape g) (at_slot s heap) ≡ true → ((o : Object) → at_slot s heap ≡ Some o → test o ≡ true) → Fielded shape test heap heap (cells.Field s g)
fielded {shape = shape} heap s g test has passing id n same =
    let r = some-is (at_slot s heap) (passes-some (has_field shape g) (at_slot s heap) has) in
    let place = place-put heap.objects (at_first (in_slot s) (λ o. o) heap.objects) r.0 r.0 (put-found (in_slot s) (λ o. o) heap.objects r.0 r.1) in
    let e = and_parts (same_id id (id_of (at_slot s heap))) (eqb n g) same in record {
      place = place.0;
      object = r.0;
      here = place.1;
      named = sym (same-id id (id_of (at_slot s heap)) e.0 ∙ ap id_of r.1);
      field = ap (λ m. has_field shape m r.0) (eqb-true n g e.1) ∙ at_found (has_field shape g) (at_slot s heap) r.0 r.1 has;
      passing = passing r.0 r.1;
    }

any-hand : (p : ℕ) (xs : List Holder) → list_any (is_hand_of p) xs ≡ true → is_empty xs ≡ false
any-hand p [] h = no h
any-hand p (x ∷ xs) h = refl

-- a cell that p can reach is a field of a live object, if it is one
pub reached : (shape : HeapShape) (heap : Heap) (p : ℕ) (c : CellName) → AreMet (reachable shape heap p c) → Fielded shape (is_live shape) heap heap c
reached shape heap p (cells.Field s g) m id n same = fielded heap s g (is_live shape) m.1.0 (λ o e. ap not (some-strong shape o (any-hand p o.strong (at_found (λ o. list_any (is_hand_of p) o.strong) (at_slot s heap) o e m.1.1.0)))) id n same
reached shape heap p (cells.Global g) m id n same = no same

pub is-open : {shape : HeapShape} (p : ℕ) (was heap : Heap) (c : CellName) → Fielded shape (is_live shape) was heap c → Fielded shape (is_open_to shape p) was heap c
is-open p was heap c reach id g same =
    let has = reach id g same in record {
      place = has.place;
      object = has.object;
      here = has.here;
      named = has.named;
      field = has.field;
      passing = ap (λ b. b || owes_to p Deinit has.object) has.passing;
    }

-- the hand k of p takes the place of a cell
abbrev pub out_turn : {shape : HeapShape} (p k : ℕ) (act : Act) (next : ℕ → ℕ) (heap : Heap) (c : CellName) → k ≡ next p → IsWellFormed shape next heap → is_own (cell heap c) ≡ true → is_some (find (holds (cell heap c)) heap.objects) ≡ true → Fielded shape (is_open_to shape p) heap heap c → Turn shape p act next (advance true p next) heap (becomes (cell heap c) (Hand p k) heap)
out_turn p k act next heap c is f own some takes =
    rename_turn p act next (advance true p next) heap (cell heap c) (Hand p k) f own refl some (f.fresh p k (omega arith)) (next-mine p k next is) (λ r n e. no (sym (hand-cell r n heap c) ∙ e)) (advance-grows true p next) (λ id g e. no e) takes

-- a cell, of an earlier heap, takes the place of hand h of p
abbrev pub in_turn : {shape : HeapShape} (p h : ℕ) (k : Option ℕ) (next : ℕ → ℕ) (heap was : Heap) (c : CellName) → IsWellFormed shape next heap → is_own (cell was c) ≡ true → is_some (find (holds (Hand p h)) heap.objects) ≡ true → total (held (cell was c)) heap.objects ≡ 0 → Fielded shape (is_live shape) was heap c → Turn shape p (acts.Swap c (Some h) k) next next heap (becomes (Hand p h) (cell was c) heap)
in_turn p h k next heap was c f own some absent puts =
    rename_turn p (acts.Swap c (Some h) k) next next heap (Hand p h) (cell was c) f refl own some absent (λ r n e. no (sym (hand-cell r n was c) ∙ e)) (λ r n e. hand-ended r n p h e) (λ r. le-refl (next r)) puts (λ id g e. no e)

abbrev pub swap_second : {shape : HeapShape} (p h k : ℕ) (c : CellName) (next : ℕ → ℕ) (heap : Heap) → IsWellFormed shape next heap → is_own (cell heap c) ≡ true → is_some (held_by (Hand p h) heap) ≡ true → k ≡ next p → is_some (held_by (cell heap c) heap) ≡ true → Fielded shape (is_live shape) heap heap c → Turn shape p (acts.Swap c (Some h) (Some k)) (advance true p next) (advance true p next) (becomes (cell heap c) (Hand p k) heap) (becomes (Hand p h) (cell heap c) (becomes (cell heap c) (Hand p k) heap))
swap_second p h k c next heap f own given came full reach =
    let mid = becomes (cell heap c) (Hand p k) heap in
    let first = out_turn p k (acts.Swap c (Some h) (Some k)) next heap c came f own full (is-open p heap heap c reach) in
    let g = kept-turn p (acts.Swap c (Some h) (Some k)) next (advance true p next) heap mid first f in
    let before = held-is (Hand p h) heap.objects given in
    let hands = held-turn p (acts.Swap c (Some h) (Some k)) next (advance true p next) heap mid first (Hand p h) false (same_holder (Hand p h) (Hand p k)) (hand-cell p h heap c) refl in
    let after = more-up (same_holder (Hand p h) (Hand p k)) (total (held (Hand p h)) mid.objects) (total (held (Hand p h)) heap.objects) hands before in
    let cells' = held-turn p (acts.Swap c (Some h) (Some k)) next (advance true p next) heap mid first (cell heap c) true false (same-refl (cell heap c)) (cell-hand p k heap c) in
    let one = f.once (cell heap c) own in
    let r = some-is (find (holds (cell heap c)) heap.objects) full in
    let put = put-found (holds (cell heap c)) (lists (renamed (cell heap c) (Hand p k))) heap.objects r.0 r.1 in
    in_turn p h (Some k) (advance true p next) mid heap c g own (is-held (Hand p h) mid.objects after) (omega arith) (λ id n same. live-renamed (cell heap c) (Hand p k) heap.objects mid.objects r.0 put heap mid refl refl id n (reach id n same))
  where
    more-up : (b : Bool) (m n : ℕ) → m ≡ more b n → 1 ≤ n → 1 ≤ m
    more-up true m n e h = omega arith
    more-up false m n e h = omega arith

swap_course : {shape : HeapShape} (p : ℕ) (c : CellName) (h k : Option ℕ) (next : ℕ → ℕ) (heap : Heap) → IsWellFormed shape next heap → is_own (cell heap c) ≡ true → ((n : ℕ) → h ≡ Some n → is_some (held_by (Hand p n) heap) ≡ true) → ((n : ℕ) → k ≡ Some n → n ≡ next p) → same_bool (is_some k) (not (is_nil heap (cell heap c))) ≡ true → Fielded shape (is_live shape) heap heap c → Course shape p (acts.Swap c h k) next (advance (brings (acts.Swap c h k)) p next) heap (effect p (acts.Swap c h k) heap)
swap_course p c None None next heap f own given came nil reach = idle p (acts.Swap c None None) next heap f
swap_course p c None (Some k) next heap f own given came nil reach = turn (out_turn p k (acts.Swap c None (Some k)) next heap c (came k refl) f own (twice (is_some (held_by (cell heap c) heap)) nil) (is-open p heap heap c reach))
swap_course p c (Some h) None next heap f own given came nil reach = turn (in_turn p h None next heap heap c f own (given h refl) (not-held (cell heap c) heap.objects (opposite (is_some (held_by (cell heap c) heap)) (twice (is_nil heap (cell heap c)) nil))) reach)
swap_course p c (Some h) (Some k) next heap f own given came nil reach =
    let full = twice (is_some (held_by (cell heap c) heap)) nil in
    turns (advance true p next) (becomes (cell heap c) (Hand p k) heap) (out_turn p k (acts.Swap c (Some h) (Some k)) next heap c (came k refl) f own full (is-open p heap heap c reach)) (swap_second p h k c next heap f own (given h refl) (came k refl) full reach) c (Some h) (Some k) refl

load_course : (shape : HeapShape) (sight : Sight) (p h : ℕ) (g : Got) (next : ℕ → ℕ) → sight.next ≡ next p → first_failing (needs shape sight p (acts.Load h g)) ≡ None → IsWellFormed shape next sight.heap → Course shape p (acts.Load h g) next (advance (brings (acts.Load h g)) p next) sight.heap (effect p (acts.Load h g) sight.heap)
load_course shape sight p h (got.Hand k) next is ok f =
    let m = met (needs shape sight p (acts.Load h (got.Hand k))) ok in
    let r = some-is (held_by (Hand p h) sight.heap) (passes-some (λ o. is_in (Hand p h) o.unowned || is_in (Hand p h) o.weak) (held_by (Hand p h) sight.heap) m.0) in
    let put = put-found (holds (Hand p h)) (with_list Strong (with_last (Hand p k))) sight.heap.objects r.0 r.1 in
    let test = at_found (λ o. is_live shape o && has_room shape o o.strong) (held_by (Hand p h) sight.heap) r.0 r.1 m.1.1.0 in
    let live = opposite (is_empty (strong_holders shape r.0)) (and_parts (is_live shape r.0) (has_room shape r.0 r.0.strong) test).0 in
    turn (join_turn p k (acts.Load h (got.Hand k)) next sight.heap (effect p (acts.Load h (got.Hand k)) sight.heap) r.0 (with_list Strong (with_last (Hand p k)) r.0) Strong (eqb-true k sight.next m.1.0 ∙ is) f put refl refl refl refl refl refl refl refl refl live tt (record { from = Hand p h; own = refl; mine = λ r n e. (hand-is r n p h e).0; inside = find-passes (holds (Hand p h)) sight.heap.objects r.0 r.1; list = inr (and_parts (is_live shape r.0) (has_room shape r.0 r.0.strong) test).0 }))
load_course shape sight p h got.Dead next is ok f = idle p (acts.Load h got.Dead) next sight.heap f
load_course shape sight p h got.Nil next is ok f = idle p (acts.Load h got.Nil) next sight.heap f

claim_course : {shape : HeapShape} (p e : ℕ) (next : ℕ → ℕ) (heap : Heap) → IsWellFormed shape next heap → is_entry_taken e heap ≡ false → Course shape p (acts.Claim e) next next heap (effect p (acts.Claim e) heap)
claim_course p e next heap f free = still refl (λ t. entries t (eqb e t) refl) (λ r. le-refl (next r)) (λ r ne t. any-end (λ (c : Claimed). eqb c.thread r && eqb c.entry t) heap.claims (record { thread = p; entry = e }) (not-by r p e t ne)) (λ t. inl (let a = times-end t heap.claims (record { thread = p; entry = e }) in let b = less-more (eqb e t) (claimed_times t heap.claims) (claimed_times t heap.claims) (le-refl (claimed_times t heap.claims)) in omega arith))
  where
    parts : (a b : Bool) → (a || b) ≡ false → (a ≡ false) × (b ≡ false)
    parts true b h = absurd (true≢false h)
    parts false b h = (refl, h)

    entries : (t : ℕ) (b : Bool) → eqb e t ≡ b → total (has_entry_times t) heap.objects + claimed_times t (heap.claims ++ record { thread = p; entry = e } ∷ []) ≤ 1
    entries t true h =
        let g = parts (list_any (claims_it e) heap.claims) (is_some (find (has_entry e) heap.objects)) free in
        let a : claimed_times t heap.claims ≡ 0 = ap (λ u. claimed_times u heap.claims) (sym (eqb-true e t h)) ∙ none-claimed e heap.claims g.0 in
        let b : total (has_entry_times t) heap.objects ≡ 0 = ap (λ u. total (has_entry_times u) heap.objects) (sym (eqb-true e t h)) ∙ none-total (has_entry e) heap.objects g.1 in
        let c : claimed_times t (heap.claims ++ record { thread = p; entry = e } ∷ []) ≡ suc (claimed_times t heap.claims) = times-end t heap.claims (record { thread = p; entry = e }) ∙ ap (λ b. more b (claimed_times t heap.claims)) h in omega arith
    entries t false h =
        let a = f.entries t in
        let c : claimed_times t (heap.claims ++ record { thread = p; entry = e } ∷ []) ≡ claimed_times t heap.claims = times-end t heap.claims (record { thread = p; entry = e }) ∙ ap (λ b. more b (claimed_times t heap.claims)) h in omega arith

back_course : {shape : HeapShape} (p e : ℕ) (next : ℕ → ℕ) (heap : Heap) → IsWellFormed shape next heap → is_claimed_by p e heap ≡ true → Course shape p (acts.Back e) next next heap (effect p (acts.Back e) heap)
back_course p e next heap f mine =
    still refl (λ t. let a = f.entries t in let b = left-times e t heap.claims in omega arith) (λ r. le-refl (next r)) (λ r ne t. left-others r p e t heap.claims ne mine (let a = f.entries e in omega arith)) taken
  where
    taken : (t : ℕ) → (claimed_times t heap.claims ≤ claimed_times t (left e heap.claims)) ⊎ (acts.Back e ≡ acts.Back t)
    taken t = go (eqb e t) refl
      where
        go : (b : Bool) → eqb e t ≡ b → (claimed_times t heap.claims ≤ claimed_times t (left e heap.claims)) ⊎ (acts.Back e ≡ acts.Back t)
        go true h = inr (ap acts.Back (eqb-true e t h))
        go false h = inl (let a = left-same e t heap.claims h in omega arith)

drop_course : (shape : HeapShape) (sight : Sight) (p h : ℕ) (last : Bool) (next : ℕ → ℕ) → first_failing (needs shape sight p (acts.Drop h last)) ≡ None → IsWellFormed shape next sight.heap → Turn shape p (acts.Drop h last) next next sight.heap (effect p (acts.Drop h last) sight.heap)
drop_course shape sight p h last next ok f =
    let m = met (needs shape sight p (acts.Drop h last)) ok in
    let x : Holder = Hand p h in
    let r = some-is (held_by x sight.heap) m.0 in
    let put = put-found (holds x) (given_up p x last) sight.heap.objects r.0 r.1 in
    let has = find-passes (holds x) sight.heap.objects r.0 r.1 in
    let alone = at_found (λ o. same_bool last (is_alone (holders_with shape x o))) (held_by x sight.heap) r.0 r.1 m.1.0 in
    subst (λ n. Turn shape p (acts.Drop h last) next next sight.heap (entry_to p n (change (holds x) (given_up p x last) sight.heap))) (sym (ap (entry_left x last) r.1))
    (drop_turn p h last next sight.heap (at_first (holds x) (given_up p x last) sight.heap.objects) r.0 (kind_in x r.0) put (in-kind x r.0 has) alone (whole-of next sight.heap (at_first (holds x) (given_up p x last) sight.heap.objects) r.0 (given_up p x last r.0) f put))

pub course : (shape : HeapShape) (sight : Sight) (p : ℕ) (act : Act) (next : ℕ → ℕ) → sight.next ≡ next p → first_failing (needs shape sight p act) ≡ None → IsWellFormed shape next sight.heap → Course shape p act next (advance (brings act) p next) sight.heap (effect p act sight.heap)
course shape sight p (acts.New k c s) next is ok f =
    let m = met (needs shape sight p (acts.New k c s)) ok in
    let e = eqb-true k sight.next m.0 ∙ is in
    makes k c s refl e (let a = advance-here p next in omega arith) (advance-grows true p next) (opposite (is_some (find (in_slot s) sight.heap.objects)) m.1.0)
course shape sight p acts.Full next is ok f = idle p acts.Full next sight.heap f
course shape sight p (acts.Copy from k) next is ok f =
    let m = met-split (has shape sight.heap p from) _ (met (needs shape sight p (acts.Copy from k)) ok) in
    turn (copy_course shape sight p from k next is m.0 m.1.0 f)
course shape sight p (acts.UnownedOf h k) next is ok f =
    let m = met (needs shape sight p (acts.UnownedOf h k)) ok in
    let r = some-is (held_by (Hand p h) sight.heap) (passes-some (λ o. is_in (Hand p h) o.strong) (held_by (Hand p h) sight.heap) m.0) in
    let put = put-found (holds (Hand p h)) (with_list Unowned (with_last (Hand p k))) sight.heap.objects r.0 r.1 in
    let inside = at_found (λ o. is_in (Hand p h) o.strong) (held_by (Hand p h) sight.heap) r.0 r.1 m.0 in
    let whole = whole-of next sight.heap (at_first (holds (Hand p h)) (with_list Unowned (with_last (Hand p k))) sight.heap.objects) r.0 (with_list Unowned (with_last (Hand p k)) r.0) f put in
    let one = (live-facts r.0 whole (in-strong shape (Hand p h) r.0 inside)).strongs in
    turn (join_turn p k (acts.UnownedOf h k) next sight.heap (effect p (acts.UnownedOf h k) sight.heap) r.0 (with_list Unowned (with_last (Hand p k)) r.0) Unowned (eqb-true k sight.next m.1.0 ∙ is) f put refl refl refl refl refl refl refl refl refl (in-not_empty Strongs r.0.unowned (tally-in Strongs r.0.unowned (omega arith))) tt (record { from = Hand p h; own = refl; mine = λ r n e. (hand-is r n p h e).0; inside = find-passes (holds (Hand p h)) sight.heap.objects r.0 r.1; list = inr (ap not (in-strong shape (Hand p h) r.0 inside)) }))
course shape sight p (acts.WeakOf h k) next is ok f =
    let m = met (needs shape sight p (acts.WeakOf h k)) ok in
    let r = some-is (held_by (Hand p h) sight.heap) (passes-some (λ o. is_in (Hand p h) o.strong) (held_by (Hand p h) sight.heap) m.0) in
    let put = put-found (holds (Hand p h)) (with_list Weak (with_last (Hand p k))) sight.heap.objects r.0 r.1 in
    let inside = at_found (λ o. is_in (Hand p h) o.strong) (held_by (Hand p h) sight.heap) r.0 r.1 m.0 in
    let entry = at_found (λ o. is_some o.entry) (held_by (Hand p h) sight.heap) r.0 r.1 m.1.0 in
    let whole = whole-of next sight.heap (at_first (holds (Hand p h)) (with_list Weak (with_last (Hand p k))) sight.heap.objects) r.0 (with_list Weak (with_last (Hand p k)) r.0) f put in
    let one = (live-facts r.0 whole (in-strong shape (Hand p h) r.0 inside)).unowneds in
    turn (join_turn p k (acts.WeakOf h k) next sight.heap (effect p (acts.WeakOf h k) sight.heap) r.0 (with_list Weak (with_last (Hand p k)) r.0) Weak (eqb-true k sight.next m.1.1.0 ∙ is) f put refl refl refl refl refl refl refl refl refl (in-not_empty Unowneds r.0.weak (tally-in Unowneds r.0.weak (omega arith))) (λ none _. clash (is_some r.0.entry) entry (ap is_some none)) (record { from = Hand p h; own = refl; mine = λ r n e. (hand-is r n p h e).0; inside = find-passes (holds (Hand p h)) sight.heap.objects r.0 r.1; list = inr (ap not (in-strong shape (Hand p h) r.0 inside)) }))
course shape sight p (acts.Load h g) next is ok f = load_course shape sight p h g next is ok f
course shape sight p (acts.Drop h last) next is ok f = turn (drop_course shape sight p h last next ok f)
course shape sight p (acts.CountFull k from) next is ok f = idle p (acts.CountFull k from) next sight.heap f
course shape sight p (acts.Claim e) next is ok f = claim_course p e next sight.heap f (opposite (is_entry_taken e sight.heap) (met (needs shape sight p (acts.Claim e)) ok).0)
course shape sight p acts.NoEntry next is ok f = idle p acts.NoEntry next sight.heap f
course shape sight p (acts.Side s e why) next is ok f =
    let m = met (needs shape sight p (acts.Side s e why)) ok in
    let r = some-is (find (in_slot s) sight.heap.objects) (passes-some (λ o. not (is_immortal shape o)) (find (in_slot s) sight.heap.objects) m.0) in
    let mortal = opposite (is_immortal shape r.0) (at_found (λ o. not (is_immortal shape o)) (find (in_slot s) sight.heap.objects) r.0 r.1 m.0) in
    let free = opposite (is_some r.0.entry) (at_found (λ o. not (is_some o.entry)) (find (in_slot s) sight.heap.objects) r.0 r.1 m.1.1.0) in
    turn (side_turn p s e (acts.Side s e why) next sight.heap r.0 r.1 f m.1.0 free mortal)
course shape sight p (acts.Back e) next is ok f = back_course p e next sight.heap f (met (needs shape sight p (acts.Back e)) ok).0
course shape sight p (acts.Swap c h k) next is ok f =
    let m = met-split (reachable shape sight.heap p c) _ (met (needs shape sight p (acts.Swap c h k)) ok) in
    swap_course p c h k next sight.heap f (own-cell sight.heap c) (given h m.1.0) (came k m.1.1.0) m.1.1.1.0 (reached shape sight.heap p c m.0)
  where
    given : (h : Option ℕ) → (puts shape sight.heap p c h).0 ≡ true → (n : ℕ) → h ≡ Some n → is_some (held_by (Hand p n) sight.heap) ≡ true
    given None ok n e = absurd (None≢Some n e)
    given (Some i) ok n e = ap (λ j. is_some (held_by (Hand p j) sight.heap)) (sym (some-inj e)) ∙ passes-some _ (held_by (Hand p i) sight.heap) ok
      where
        some-inj : {a b : ℕ} → Some a ≡ Some b → a ≡ b
        some-inj e = cc

    came : (k : Option ℕ) → (takes sight k).0 ≡ true → (n : ℕ) → k ≡ Some n → n ≡ next p
    came None ok n e = absurd (None≢Some n e)
    came (Some i) ok n e = sym (some-inj e) ∙ eqb-true i sight.next ok ∙ is
      where
        some-inj : {a b : ℕ} → Some a ≡ Some b → a ≡ b
        some-inj e = cc
course shape sight p (acts.Look c) next is ok f = idle p (acts.Look c) next sight.heap f
course shape sight p (acts.Take s g k) next is ok f =
    let m = met (needs shape sight p (acts.Take s g k)) ok in
    turn (out_turn p k (acts.Take s g k) next sight.heap (cells.Field s g) (eqb-true k sight.next m.1.1.1.1.0 ∙ is) f refl (twice (is_some (held_by (cell sight.heap (cells.Field s g)) sight.heap)) m.1.1.1.0) (fielded sight.heap s g (is_open_to shape p) m.1.0 (λ o e. or-right (is_live shape o) (owes_to p Deinit o) (and_parts (owes_to p Deinit o) (are_nil sight.heap g o) (at_found (λ o. owes_to p Deinit o && are_nil sight.heap g o) (at_slot s sight.heap) o e m.1.1.0)).0)))
course shape sight p (acts.Finish s last) next is ok f =
    let m = met (needs shape sight p (acts.Finish s last)) ok in
    let r = some-is (find (in_slot s) sight.heap.objects) m.0 in
    let put = put-found (in_slot s) (finished p last) sight.heap.objects r.0 r.1 in
    let owed = and_parts (owes_to p Deinit r.0) _ (at_found _ (find (in_slot s) sight.heap.objects) r.0 r.1 m.1.0) in
    let duty = and_parts (is_by p r.0.owed) (is_duty Deinit r.0.owed) owed.0 in
    turn (finish_turn p s last next sight.heap (at_first (in_slot s) (finished p last) sight.heap.objects) r.0 put duty.0 duty.1 (at_found (λ o. same_bool last (is_alone o.unowned)) (find (in_slot s) sight.heap.objects) r.0 r.1 m.1.1.0) (all-nil shape sight.heap r.0 owed.1) (whole-of next sight.heap (at_first (in_slot s) (finished p last) sight.heap.objects) r.0 (finished p last r.0) f put))
course shape sight p (acts.Vacate s) next is ok f =
    let m = met (needs shape sight p (acts.Vacate s)) ok in
    let r = some-is (find (in_slot s) sight.heap.objects) m.0 in
    let put = put-found (in_slot s) (vacated p) sight.heap.objects r.0 r.1 in
    let duty = and_parts (is_by p r.0.owed) (is_duty Vacating r.0.owed) (at_found (owes_to p Vacating) (find (in_slot s) sight.heap.objects) r.0 r.1 m.1.0) in
    turn (vacate_turn p s next sight.heap (at_first (in_slot s) (vacated p) sight.heap.objects) r.0 r.0.entry refl (number-is r.0.slot s (find-passes (in_slot s) sight.heap.objects r.0 r.1)) put duty.0 duty.1 (whole-of next sight.heap (at_first (in_slot s) (vacated p) sight.heap.objects) r.0 (vacated p r.0) f put))
course shape sight p (acts.Gone e last) next is ok f =
    let m = met (needs shape sight p (acts.Gone e last)) ok in
    let r = some-is (find (has_entry e) sight.heap.objects) m.0 in
    let put = put-found (has_entry e) (gone p last) sight.heap.objects r.0 r.1 in
    let duty = and_parts (is_by p r.0.owed) (is_duty Gone r.0.owed) (at_found (owes_to p Gone) (find (has_entry e) sight.heap.objects) r.0 r.1 m.1.0) in
    turn (gone_turn p e last next sight.heap (at_first (has_entry e) (gone p last) sight.heap.objects) r.0 (number-is r.0.entry e (find-passes (has_entry e) sight.heap.objects r.0 r.1)) put duty.0 duty.1 (at_found (λ o. same_bool last (is_alone o.weak)) (find (has_entry e) sight.heap.objects) r.0 r.1 m.1.1.0) (whole-of next sight.heap (at_first (has_entry e) (gone p last) sight.heap.objects) r.0 (gone p last r.0) f put))

-- the next hands after an event
pub next-step : (r : ℕ) (e : Event) (h : History) → advance (brings e.act) e.thread (λ q. next_hand q h) r ≡ next_hand r (e ∷ h)
next-step r e h = go (brings e.act) (eqb e.thread r) refl (count_by test (e ∷ h)) (count_by test h) (sum_by-cons (λ (v : Event). cond (test v) 1 0) e h) refl
  where
    test : Event → Bool
    test v = is_of r v && brings v.act

    go : (b c : Bool) → eqb e.thread r ≡ c → (n m : ℕ) → n ≡ cond (c && b) 1 0 + m → next_hand r h ≡ m + 1 → advance b e.thread (λ q. next_hand q h) r ≡ n + 1
    go true true is n m a here = ap (λ d. more d (next_hand r h)) is ∙ (let g : suc (next_hand r h) ≡ n + 1 = omega arith in g)
    go true false is n m a here = ap (λ d. more d (next_hand r h)) is ∙ here ∙ (let g : m + 1 ≡ n + 1 = omega arith in g)
    go false true is n m a here = here ∙ (let g : m + 1 ≡ n + 1 = omega arith in g)
    go false false is n m a here = here ∙ (let g : m + 1 ≡ n + 1 = omega arith in g)

-- the course of a legal event
pub course_after : (shape : HeapShape) (e : Event) (h : History) → IsLegal shape (e ∷ h) → IsWellFormed shape (λ p. next_hand p h) (heap_after h) → Course shape e.thread e.act (λ p. next_hand p h) (advance (brings e.act) e.thread (λ p. next_hand p h)) (heap_after h) (heap_after (e ∷ h))
course_after shape e h legal f = course shape (sight e.thread h) e.thread e.act (λ p. next_hand p h) refl legal.0 f

pub well_formed : WellFormedAfter
well_formed shape [] legal = record {
  whole = λ i o e. absurd (None≢Some o e);
  immortal = λ i o e. absurd (None≢Some o e);
  none_strays = λ i o e. absurd (None≢Some o e);
  once = λ z own. omega arith;
  fresh = λ p k h. refl;
  slots = λ s. omega arith;
  entries = λ e. omega arith;
  numbered = λ p n h. absurd (omega arith);
  no_other = λ p n h. refl;
  no_zero = λ p. refl;
  owned = λ id f h. absurd (omega arith);
}
well_formed shape (e ∷ h) legal =
    let before = well_formed shape h legal.1 in
    let after = kept e.thread e.act (λ p. next_hand p h) (advance (brings e.act) e.thread (λ p. next_hand p h)) (heap_after h) (heap_after (e ∷ h)) (course_after shape e h legal before) before in
    kept-still (advance (brings e.act) e.thread (λ p. next_hand p h)) (λ p. next_hand p (e ∷ h)) (heap_after (e ∷ h)).objects (heap_after (e ∷ h)) (heap_after (e ∷ h)) refl refl after.entries (λ r. let s = next-step r e h in omega arith) after
