-- The index judges as the history does.
use Rattle.std.proofs.Common.{◌≡◌, ℕ, zero, suc, ◌+◌, ◌<◌, ◌≤◌, Bool, true, false, cond, eqb, List, [], ◌∷◌, ◌++◌, length, length-append, Option, Some, None, refl, sym, ap, ◌∙◌, arith}
use Rattle.std.specs.Prelude.{slice_get, find, is_some, not, nat_lt, ◌==◌, ◌&&◌, ◌||◌, count_by}
use Rattle.std.specs.List.{list_any}
use Rattle.std.proofs.lemmas.Bool.{eq-eqb, ne_eqb, lt-ltb}
use Rattle.std.proofs.lemmas.List.Sums.{sum_by-cons}
use Rattle.arc_model.specs.declared.event.CellName.{CellName}
use Rattle.arc_model.specs.declared.event.CellName.TheVariants as cells
use Rattle.arc_model.specs.declared.event.Origin.{Origin}
use Rattle.arc_model.specs.declared.event.Origin.TheVariants as origins
use Rattle.arc_model.specs.declared.event.Illegal.{Illegal}
use Rattle.arc_model.specs.declared.event.Illegal.TheVariants.{NotHeld, NoSuchObject}
use Rattle.arc_model.specs.declared.shape.Kind.{Kind}
use Rattle.arc_model.specs.declared.shape.Kind.TheVariants.{Strong, Unowned, Weak}
use Rattle.arc_model.specs.Shapes.{HeapShape, class_at}
use Rattle.arc_model.specs.Heaps.{Holder, Hand, Field, Forever, Owed, Object, Claimed, Heap}
use Rattle.arc_model.specs.Holders.{is_hand_of, is_in, is_alone, is_empty, kind_in, list_of, list_with, held_by, at_slot, at_entry, is_slot_taken, is_entry_taken, is_claimed_by, claims_it, owes_to, in_slot as in_the_slot, has_entry}
use Rattle.arc_model.specs.Cells.{cell, origin, is_nil, id_of, is_immortal, forever_if, strong_holders, holders_of, is_live, has_field, fields_of, are_nil, is_kind, cell_shape, field_shape, each_below}
use Rattle.arc_model.specs.Needs.{Need, first_failing, reachable, has, puts, passes, has_room, is_at_cap, same_bool}
use Rattle.arc_model.specs.History.{History, heap_after, sight, judge}
use Rattle.arc_model.specs.Lookup.{list_in}
use Rattle.arc_model.specs.Lookup.{IsLookup}
use Rattle.arc_model.proofs.Others.{lookup_after}
use Rattle.arc_heap_index.specs.declared.counted.Due.{Due}
use Rattle.arc_heap_index.specs.declared.counted.Due.TheVariants as due
use Rattle.arc_heap_index.specs.declared.counted.Debt.{Debt}
use Rattle.arc_heap_index.specs.declared.counted.Counted.{Counted}
use Rattle.arc_heap_index.specs.declared.counted.Held.{Held}
use Rattle.arc_heap_index.specs.declared.counted.Found.{Found}
use Rattle.arc_heap_index.specs.declared.slots.Owner.{Owner}
use Rattle.arc_heap_index.specs.declared.slots.Owner.TheVariants.{Object as ObjectOwner, Claim}
use Rattle.arc_heap_index.specs.Counting.{count_in, forever, holders_in, owes, is_owed_by, place_at}
use Rattle.arc_heap_index.specs.Freeing.{owner_at, object_in}
use Rattle.arc_heap_judge.specs.Index.{Index, hand_at, cell_at, origin_at, hold, in_slot, reach_at, next_of, fields_in, immortal_in, alive_in, alone_in, room_in, full_in}
use Rattle.arc_heap_judge.specs.Judging.{then, meets, is_claim_of, has_field_at, reaches, has_it, field_shape_at, cell_shape_at, gives, are_empty, stands_at_cap}
use Rattle.arc_heap_judge.specs.Stands.{IsCounted, is_object, claimants, claimant, hands_of, owed_of, duty_of_due, IsCellInRange, IsOriginInRange, Tells, StandsFor}
use Rattle.arc_heap_judge.proofs.Told.{LikeFound, AreFound, found_none, found_owner, slot_like, LikeHeld, AreHeld, held_like}
use Rattle.arc_heap_judge.proofs.Finding.{find_only}

-- two lists of needs, need by need
pub step : {a b : Bool} {x y : Option Illegal} (i : Illegal) → a ≡ b → x ≡ y → cond a x (Some i) ≡ cond b y (Some i)
step {a = a} {b = b} {x = x} {y = y} i e r = ap (λ c. cond c x (Some i)) e ∙ ap (λ v. cond b v (Some i)) r

joined : (xs ys : List Need) → first_failing (xs ++ ys) ≡ then (first_failing xs) (first_failing ys)
joined [] ys = refl
joined (n ∷ ns) ys = go n.0 (joined ns ys)
  where
    go : (b : Bool) → first_failing (ns ++ ys) ≡ then (first_failing ns) (first_failing ys) → cond b (first_failing (ns ++ ys)) (Some n.1) ≡ then (cond b (first_failing ns) (Some n.1)) (first_failing ys)
    go true e = e
    go false e = refl

pub both-then : (v : Option Illegal) (xs ys : List Need) (rest : Option Illegal) → v ≡ first_failing xs → rest ≡ first_failing ys → then v rest ≡ first_failing (xs ++ ys)
both-then v xs ys rest e r = ap (λ u. then u rest) e ∙ ap (then (first_failing xs)) r ∙ sym (joined xs ys)

-- tests of what is held
pub some-held : (z : Holder) (ix : Index) (heap : Heap) (w : Option Held) (o : Option Object) → AreHeld z ix heap w o → is_some w ≡ is_some o
some-held z ix heap None None like = refl
some-held z ix heap (Some w) None like = absurd like
some-held z ix heap None (Some o) like = absurd like
some-held z ix heap (Some w) (Some o) like = refl

pub meets-held : (z : Holder) (ix : Index) (heap : Heap) (f : Held → Bool) (g : Object → Bool) (w : Option Held) (o : Option Object) → AreHeld z ix heap w o → ((w : Held) (o : Object) → LikeHeld z ix heap w o → f w ≡ g o) → meets f w ≡ passes g o
meets-held z ix heap f g None None like same = refl
meets-held z ix heap f g (Some w) None like same = absurd like
meets-held z ix heap f g None (Some o) like same = absurd like
meets-held z ix heap f g (Some w) (Some o) like same = same w o like

pub some-found : (ix : Index) (heap : Heap) (w : Option Found) (o : Option Object) → AreFound ix heap w o → is_some w ≡ is_some o
some-found ix heap None None like = refl
some-found ix heap (Some w) None like = absurd like
some-found ix heap None (Some o) like = absurd like
some-found ix heap (Some w) (Some o) like = refl

pub meets-found : (ix : Index) (heap : Heap) (f : Found → Bool) (g : Object → Bool) (w : Option Found) (o : Option Object) → AreFound ix heap w o → ((w : Found) (o : Object) → w ≡ w → LikeFound ix heap w.object w.counted o → f w ≡ g o) → meets f w ≡ passes g o
meets-found ix heap f g None None like same = refl
meets-found ix heap f g (Some w) None like same = absurd like
meets-found ix heap f g None (Some o) like same = absurd like
meets-found ix heap f g (Some w) (Some o) like same = same w o refl like

-- counts and lists
pub counted_list : (k : Kind) (c : Counted) (o : Object) → IsCounted c o → count_in k c ≡ length (list_of k o)
counted_list Strong c o l = l.strong
counted_list Unowned c o l = l.unowned
counted_list Weak c o l = l.weak

alone-length : (xs : List Holder) → is_alone xs ≡ eqb (length xs) 1
alone-length [] = refl
alone-length (x ∷ []) = refl
alone-length (x ∷ y ∷ ys) = sym (ne_eqb (length (x ∷ y ∷ ys)) 1 (λ e. omega arith))

live-length : (xs : List Holder) → not (eqb (length xs) 0) ≡ not (is_empty xs)
live-length [] = refl
live-length (x ∷ xs) = ap not (ne_eqb (length (x ∷ xs)) 0 (λ e. omega arith))

pub immortal-same : (shape : HeapShape) (c : Counted) (o : Object) → IsCounted c o → immortal_in shape c ≡ is_immortal shape o
immortal-same shape c o l = ap (λ n. (class_at shape n).immortal) l.class

-- the holder of an immortal object that isn't counted
with-forever : (immortal : Bool) (xs : List Holder) (n : ℕ) → n ≡ length xs → n + forever immortal Strong ≡ length (xs ++ forever_if immortal)
with-forever true xs n e = (let a = length-append xs (Forever ∷ []) in omega arith)
with-forever false xs n e = (let a = length-append xs [] in omega arith)

pub holders-same : (shape : HeapShape) (k : Kind) (c : Counted) (o : Object) → IsCounted c o → holders_in (immortal_in shape c) k c ≡ length (holders_of shape k o)
holders-same shape Strong c o l = ap (λ b. c.strong + forever b Strong) (immortal-same shape c o l) ∙ with-forever (is_immortal shape o) o.strong c.strong l.strong
holders-same shape Unowned c o l = no-more (immortal_in shape c) ∙ l.unowned
  where
    no-more : (b : Bool) → c.unowned + forever b Unowned ≡ c.unowned
    no-more true = omega arith
    no-more false = omega arith
holders-same shape Weak c o l = no-more (immortal_in shape c) ∙ l.weak
  where
    no-more : (b : Bool) → c.weak + forever b Weak ≡ c.weak
    no-more true = omega arith
    no-more false = omega arith

pub alive : (shape : HeapShape) (c : Counted) (o : Object) → IsCounted c o → alive_in shape c ≡ is_live shape o
alive shape c o l = ap (λ n. not (eqb n 0)) (holders-same shape Strong c o l) ∙ live-length (strong_holders shape o)

pub alone-same : (shape : HeapShape) (k : Kind) (c : Counted) (o : Object) → IsCounted c o → alone_in shape k c ≡ is_alone (holders_of shape k o)
alone-same shape k c o l = ap (λ n. eqb n 1) (holders-same shape k c o l) ∙ sym (alone-length (holders_of shape k o))

owed-same : (p : ℕ) (d : Due) (c : Option Debt) (o : Option Owed) (w : Object) → owed_of c ≡ o → w.owed ≡ o → is_owed_by p d c ≡ owes_to p (duty_of_due d) w
owed-same p d None o w e f = rw (f, ← e) refl
owed-same p d (Some debt) o w e f = rw (f, ← e) (go debt.due d (eqb debt.thread p))
  where
    go : (a b : Due) (t : Bool) → Rattle.arc_heap_index.specs.Counting.same_due a b && t ≡ t && Rattle.arc_model.specs.Holders.same_duty (duty_of_due a) (duty_of_due b)
    go due.Deinit due.Deinit true = refl
    go due.Deinit due.Deinit false = refl
    go due.Deinit due.Vacating true = refl
    go due.Deinit due.Vacating false = refl
    go due.Deinit due.Gone true = refl
    go due.Deinit due.Gone false = refl
    go due.Vacating due.Deinit true = refl
    go due.Vacating due.Deinit false = refl
    go due.Vacating due.Vacating true = refl
    go due.Vacating due.Vacating false = refl
    go due.Vacating due.Gone true = refl
    go due.Vacating due.Gone false = refl
    go due.Gone due.Deinit true = refl
    go due.Gone due.Deinit false = refl
    go due.Gone due.Vacating true = refl
    go due.Gone due.Vacating false = refl
    go due.Gone due.Gone true = refl
    go due.Gone due.Gone false = refl

pub owes-same : (p : ℕ) (d : Due) (c : Counted) (o : Object) → IsCounted c o → owes p d c ≡ owes_to p (duty_of_due d) o
owes-same p d c o l = owed-same p d c.owed o.owed o l.owed refl

-- hands of a thread in a list
any-hands : (p : ℕ) (xs : List Holder) → nat_lt 0 (hands_of p xs) ≡ list_any (is_hand_of p) xs
any-hands p [] = refl
any-hands p (x ∷ xs) = ap (nat_lt 0) (sum_by-cons (λ y. cond (is_hand_of p y) 1 0) x xs) ∙ go (is_hand_of p x) (any-hands p xs)
  where
    go : (b : Bool) → nat_lt 0 (hands_of p xs) ≡ list_any (is_hand_of p) xs → nat_lt 0 (cond b 1 0 + hands_of p xs) ≡ (b || list_any (is_hand_of p) xs)
    go true e = lt-ltb 0 (1 + hands_of p xs) (omega arith)
    go false e = ap (nat_lt 0) (let z : 0 + hands_of p xs ≡ hands_of p xs = omega arith in z) ∙ e

-- claims
any-claims : (e : ℕ) (cs : List Claimed) → list_any (claims_it e) cs ≡ is_some (Rattle.std.specs.Prelude.slice_get (claimants e cs) 0)
any-claims e [] = refl
any-claims e (c ∷ cs) = go (claims_it e c) (any-claims e cs)
  where
    go : (b : Bool) → list_any (claims_it e) cs ≡ is_some (slice_get (claimants e cs) 0) → (b || list_any (claims_it e) cs) ≡ is_some (slice_get (cond b (c.thread ∷ claimants e cs) (claimants e cs)) 0)
    go true h = refl
    go false h = h

claimed-by : (p e : ℕ) (cs : List Claimed) → list_any (λ (c : Claimed). c.thread == p && c.entry == e) cs ≡ list_any (λ q. q == p) (claimants e cs)
claimed-by p e [] = refl
claimed-by p e (c ∷ cs) = go (claims_it e c) (claimed-by p e cs)
  where
    and-true : (b : Bool) → (b && true) ≡ b
    and-true true = refl
    and-true false = refl

    and-false : (b : Bool) → (b && false) ≡ false
    and-false true = refl
    and-false false = refl

    go : (b : Bool) → list_any (λ (c : Claimed). c.thread == p && c.entry == e) cs ≡ list_any (λ q. q == p) (claimants e cs) → ((c.thread == p && b) || list_any (λ (c : Claimed). c.thread == p && c.entry == e) cs) ≡ list_any (λ q. q == p) (cond b (c.thread ∷ claimants e cs) (claimants e cs))
    go true h = ap (λ x. x || list_any (λ (c : Claimed). c.thread == p && c.entry == e) cs) (and-true (eqb c.thread p)) ∙ ap (λ x. eqb c.thread p || x) h
    go false h = ap (λ x. x || list_any (λ (c : Claimed). c.thread == p && c.entry == e) cs) (and-false (eqb c.thread p)) ∙ h

pub claims-same : (ix : Index) (heap : Heap) → Tells ix heap → (p e : ℕ) → is_claim_of p (owner_at e ix.entries) ≡ is_claimed_by p e heap
claims-same ix heap t p e = go (owner_at e ix.entries) ∙ sym (claimed-by p e heap.claims ∙ ap (list_any (λ q. q == p)) (t.claims e))
  where
    go : (owner : Option Owner) → is_claim_of p owner ≡ list_any (λ q. q == p) (claimant owner)
    go None = refl
    go (Some (ObjectOwner i)) = refl
    go (Some (Claim q)) = or-false (eqb q p)
      where
        or-false : (b : Bool) → b ≡ (b || false)
        or-false true = refl
        or-false false = refl

pub entry-same : (ix : Index) (heap : Heap) → Tells ix heap → (e : ℕ) → is_some (owner_at e ix.entries) ≡ is_entry_taken e heap
entry-same ix heap t e = go (owner_at e ix.entries) refl ∙ ap (λ b. b || is_some (at_entry e heap)) (sym (any-claims e heap.claims ∙ ap (λ qs. is_some (slice_get qs 0)) (t.claims e)))
  where
    go : (owner : Option Owner) → owner_at e ix.entries ≡ owner → is_some owner ≡ (is_some (slice_get (claimant (owner_at e ix.entries)) 0) || is_some (at_entry e heap))
    go None is = rw (is, found_none ix heap (has_entry e) (owner_at e ix.entries) (t.entries e) (ap object_in is)) refl
    go (Some (ObjectOwner i)) is =
        let d = found_owner ix heap t (has_entry e) (owner_at e ix.entries) (t.entries e) i is in
        rw (is, find_only (has_entry e) heap.objects i d.object d.only) refl
    go (Some (Claim q)) is = rw is refl

pub slot-same : (ix : Index) (heap : Heap) → Tells ix heap → (s : ℕ) → is_some (owner_at s ix.slots) ≡ is_slot_taken s heap
slot-same ix heap t s = go (owner_at s ix.slots) refl
  where
    go : (owner : Option Owner) → owner_at s ix.slots ≡ owner → is_some owner ≡ is_slot_taken s heap
    go None is = rw (found_none ix heap (in_the_slot s) (owner_at s ix.slots) (t.slots s) (ap object_in is)) refl
    go (Some (ObjectOwner i)) is =
        let d = found_owner ix heap t (in_the_slot s) (owner_at s ix.slots) (t.slots s) i is in
        rw (find_only (in_the_slot s) heap.objects i d.object d.only) refl
    go (Some (Claim q)) is = let n : q ∷ [] ≡ [] = sym (ap claimant is) ∙ t.unclaimed s in absurd (cc)

pub each_below-same : (n : ℕ) (f g : ℕ → Bool) → ((s : ℕ) → s < n → f s ≡ g s) → each_below n f ≡ each_below n g
each_below-same zero f g h = refl
each_below-same (suc n) f g h = rw (h n (omega arith), each_below-same n f g (λ s l. h s (omega arith))) refl

-- a cell in range, and where it counts
pub cell-look : (ix : Index) (h : History) → StandsFor ix h → (z : Holder) → Rattle.arc_model.specs.WellFormed.is_own z ≡ true → IsLookup z (heap_after h)
cell-look ix h st z own = lookup_after ix.shape h z st.legal own

pub hand-held : (ix : Index) (h : History) → StandsFor ix h → (p k : ℕ) → p < length ix.marks → AreHeld (Hand p k) ix (heap_after h) (hold ix (hand_at ix p k)) (held_by (Hand p k) (heap_after h))
hand-held ix h st p k l = held_like (Hand p k) ix (heap_after h) st.tells (cell-look ix h st (Hand p k) refl) (hand_at ix p k) (st.points.hands p k l)

cell-own : (heap : Heap) (c : CellName) → Rattle.arc_model.specs.WellFormed.is_own (cell heap c) ≡ true
cell-own heap (cells.Field s f) = refl
cell-own heap (cells.Global g) = refl

pub cell-held : (ix : Index) (h : History) → StandsFor ix h → (c : CellName) → IsCellInRange ix.shape c → AreHeld (cell (heap_after h) c) ix (heap_after h) (hold ix (cell_at ix c)) (held_by (cell (heap_after h) c) (heap_after h))
cell-held ix h st c l = held_like (cell (heap_after h) c) ix (heap_after h) st.tells (cell-look ix h st (cell (heap_after h) c) (cell-own (heap_after h) c)) (cell_at ix c) (st.points.cells c l)

pub origin-held : (ix : Index) (h : History) → StandsFor ix h → (p : ℕ) (from : Origin) → p < length ix.marks → IsOriginInRange ix.shape from → AreHeld (origin (heap_after h) p from) ix (heap_after h) (hold ix (origin_at ix p from)) (held_by (origin (heap_after h) p from) (heap_after h))
origin-held ix h st p (origins.Hand k) l range = hand-held ix h st p k l
origin-held ix h st p (origins.Cell c) l range = cell-held ix h st c range

pub next-same : (ix : Index) (h : History) → StandsFor ix h → (p k : ℕ) → p < length ix.marks → eqb k (next_of ix p) ≡ eqb k (Rattle.arc_model.specs.History.next_hand p h)
next-same ix h st p k l = ap (eqb k) (st.next p l)

pub fields-same : (shape : HeapShape) (c : Counted) (o : Object) → IsCounted c o → fields_in shape c ≡ fields_of shape o
fields-same shape c o l = ap (λ n. (class_at shape n).fields) l.class

pub field-has : (ix : Index) (heap : Heap) (f : ℕ) (w : Found) (o : Object) → LikeFound ix heap w.object w.counted o → has_field_at ix.shape f w ≡ has_field ix.shape f o
field-has ix heap f w o l = ap (λ rs. nat_lt f (length rs)) (fields-same ix.shape w.counted o l.alike)

-- p has a strong hand of the object in the slot
reach-same : (ix : Index) (h : History) → StandsFor ix h → (p s : ℕ) → p < length ix.marks → s < ix.shape.slots → nat_lt 0 (reach_at ix p s) ≡ passes (λ o. list_any (is_hand_of p) o.strong) (at_slot s (heap_after h))
reach-same ix h st p s l m = go (owner_at s ix.slots) refl
  where
    go : (owner : Option Owner) → owner_at s ix.slots ≡ owner → nat_lt 0 (reach_at ix p s) ≡ passes (λ o. list_any (is_hand_of p) o.strong) (at_slot s (heap_after h))
    go None is = rw (st.tells.idle p s l m is, found_none ix (heap_after h) (in_the_slot s) (owner_at s ix.slots) (st.tells.slots s) (ap object_in is)) refl
    go (Some (ObjectOwner i)) is =
        let d = found_owner ix (heap_after h) st.tells (in_the_slot s) (owner_at s ix.slots) (st.tells.slots s) i is in
        rw (find_only (in_the_slot s) (heap_after h).objects i d.object d.only)
        (ap (nat_lt 0) (st.tells.reach p s i l m (ap (is_object i) is ∙ eq-eqb i i refl) ∙ ap (λ o. hands_of p (list_in Strong o)) d.like.in_heap) ∙ any-hands p d.object.strong)
    go (Some (Claim q)) is = let n : q ∷ [] ≡ [] = sym (ap claimant is) ∙ st.tells.unclaimed s in absurd (cc)

pub reaches-same : (ix : Index) (h : History) → StandsFor ix h → (p : ℕ) (c : CellName) → p < length ix.marks → IsCellInRange ix.shape c → first_failing (reaches ix p c) ≡ first_failing (reachable ix.shape (heap_after h) p c)
reaches-same ix h st p (cells.Global g) l range = refl
reaches-same ix h st p (cells.Field s f) l range =
    let like = slot_like ix (heap_after h) st.tells s in
    step NoSuchObject (some-found ix (heap_after h) (in_slot ix s) (at_slot s (heap_after h)) like)
    (step NoSuchObject (meets-found ix (heap_after h) (has_field_at ix.shape f) (has_field ix.shape f) (in_slot ix s) (at_slot s (heap_after h)) like (λ w o _ l. field-has ix (heap_after h) f w o l))
    (step NotHeld (reach-same ix h st p s l range.0) refl))

pub not-not : (b : Bool) → b ≡ not (not b)
not-not true = refl
not-not false = refl

pub has-same : (ix : Index) (h : History) → StandsFor ix h → (p : ℕ) (from : Origin) → p < length ix.marks → IsOriginInRange ix.shape from → has_it ix p from ≡ first_failing (has ix.shape (heap_after h) p from)
has-same ix h st p (origins.Hand k) l range = step NotHeld (some-held (Hand p k) ix (heap_after h) (hold ix (hand_at ix p k)) (held_by (Hand p k) (heap_after h)) (hand-held ix h st p k l)) refl
has-same ix h st p (origins.Cell c) l range =
    both-then (first_failing (reaches ix p c)) (reachable ix.shape (heap_after h) p c) ((not (is_nil (heap_after h) (cell (heap_after h) c)), NotHeld) ∷ []) (first_failing ((is_some (hold ix (cell_at ix c)), NotHeld) ∷ []))
    (reaches-same ix h st p c l range)
    (step NotHeld (some-held (cell (heap_after h) c) ix (heap_after h) (hold ix (cell_at ix c)) (held_by (cell (heap_after h) c) (heap_after h)) (cell-held ix h st c range) ∙ not-not (is_some (held_by (cell (heap_after h) c) (heap_after h)))) refl)

shape-same : (ix : Index) (h : History) → StandsFor ix h → (c : CellName) → cell_shape_at ix c ≡ cell_shape ix.shape (heap_after h) c
shape-same ix h st (cells.Global g) = refl
shape-same ix h st (cells.Field s f) = go (in_slot ix s) (at_slot s (heap_after h)) (slot_like ix (heap_after h) st.tells s)
  where
    go : (w : Option Found) (o : Option Object) → AreFound ix (heap_after h) w o → field_shape_at ix.shape f w ≡ field_shape ix.shape f o
    go None None like = refl
    go (Some w) None like = absurd like
    go None (Some o) like = absurd like
    go (Some w) (Some o) like = ap (λ rs. slice_get rs f) (fields-same ix.shape w.counted o like.alike)

pub gives-same : (ix : Index) (h : History) → StandsFor ix h → (p : ℕ) (c : CellName) (put : Option ℕ) → p < length ix.marks → (gives ix p c put).0 ≡ (puts ix.shape (heap_after h) p c put).0
gives-same ix h st p c None l = refl
gives-same ix h st p c (Some n) l =
    meets-held (Hand p n) ix (heap_after h) (λ (w : Held). is_kind w.place.kind (cell_shape_at ix c)) (λ o. is_kind (kind_in (Hand p n) o) (cell_shape ix.shape (heap_after h) c)) (hold ix (hand_at ix p n)) (held_by (Hand p n) (heap_after h)) (hand-held ix h st p n l)
    (λ w o like. ap (λ k. is_kind k (cell_shape_at ix c)) (sym like.kind_is) ∙ ap (is_kind (kind_in (Hand p n) o)) (shape-same ix h st c))

-- the fields of the object in a slot
pub nil-same : (ix : Index) (h : History) → StandsFor ix h → (s n : ℕ) (o : Object) → s < ix.shape.slots → n ≤ 8 → at_slot s (heap_after h) ≡ Some o → are_empty ix s n ≡ are_nil (heap_after h) n o
nil-same ix h st s n o l few is = each_below-same n (λ f. not (is_some (hold ix (place_at s f ix.cells)))) (λ f. is_nil (heap_after h) (Field o.id f)) (λ f m.
    ap not (some-held (cell (heap_after h) (cells.Field s f)) ix (heap_after h) (hold ix (place_at s f ix.cells)) (held_by (cell (heap_after h) (cells.Field s f)) (heap_after h)) (cell-held ix h st (cells.Field s f) (l, omega arith)))
    ∙ ap (λ w. is_nil (heap_after h) (Field (id_of w) f)) is)

-- how long a list may be
pub room-same : (shape : HeapShape) (k : Kind) (c : Counted) (o : Object) → IsCounted c o → room_in shape k c ≡ has_room shape o (list_of k o)
room-same shape k c o l = ap (λ n. nat_lt n shape.caps.wide || immortal_in shape c) (counted_list k c o l) ∙ ap (λ b. nat_lt (length (list_of k o)) shape.caps.wide || b) (immortal-same shape c o l)

pub full-same : (shape : HeapShape) (k : Kind) (c : Counted) (o : Object) → IsCounted c o → full_in shape k c ≡ (not (is_immortal shape o) && length (list_of k o) == shape.caps.wide)
full-same shape k c o l = ap (λ b. not b && count_in k c == shape.caps.wide) (immortal-same shape c o l) ∙ ap (λ n. not (is_immortal shape o) && eqb n shape.caps.wide) (counted_list k c o l)

pub cap-same : (shape : HeapShape) (why : Kind) (c : Counted) (o : Object) → IsCounted c o → stands_at_cap shape why c ≡ is_at_cap shape why o
cap-same shape Strong c o l = ap (λ b. b && eqb c.strong (shape.caps.strong + 1)) (alive shape c o l) ∙ ap (λ n. is_live shape o && eqb n (shape.caps.strong + 1)) l.strong
cap-same shape Unowned c o l = ap (λ n. eqb n shape.caps.unowned) l.unowned
cap-same shape Weak c o l = alive shape c o l

pub last-same : (last : Bool) (n : ℕ) (xs : List Holder) → n ≡ length xs → same_bool last (eqb n 1) ≡ same_bool last (is_alone xs)
last-same last n xs e = ap (same_bool last) (ap (λ m. eqb m 1) e ∙ sym (alone-length xs))
