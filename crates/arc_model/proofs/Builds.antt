-- The turns that the effects are made of.
use Rattle.std.proofs.Common.{◌≡◌, ℕ, zero, suc, ◌+◌, ◌≤◌, Bool, true, false, cond, eqb, not, List, [], ◌∷◌, ◌++◌, Option, Some, None, inl, inr, refl, sym, ap, ◌∙◌, subst, arith}
use Rattle.std.specs.Prelude.{◌&&◌, ◌||◌, find, is_some, slice_get}
use Rattle.arc_model.specs.declared.event.ObjectId.{ObjectId}
use Rattle.std.specs.List.{list_any}
use Rattle.std.proofs.lemmas.Bool.{and_parts, eqb-true, eq-eqb}
use Rattle.arc_model.specs.Shapes.{HeapShape}
use Rattle.arc_model.specs.declared.event.Act.{Act}
use Rattle.arc_model.specs.declared.event.Act.TheVariants as acts
use Rattle.arc_model.specs.declared.shape.Kind.{Kind}
use Rattle.arc_model.specs.declared.shape.Kind.TheVariants.{Strong, Unowned, Weak}
use Rattle.arc_model.proofs.Basics.{opposite, some-strong, in-strong, empty-append, same-holders, strong-without, strong-last, empty-push, empty-renamed, empty-without, None≢Some, alone-without, in-not_empty}
use Rattle.arc_model.proofs.Stages.{live-facts, dying-facts, vacating-facts, gone-facts, duty-is, duty-apart, PlainKept, whole-edited, plain-own, strongs-apart, unowneds-apart, forever-apart, in-kind, one_list}
use Rattle.arc_model.proofs.Tally.{no, clash, same-eq, in-tally, tally-in, renamed-absent, gains-present, gains-absent, alone-two}
use Rattle.arc_model.proofs.Turns.{IsPut, old-put, put-found, total-append, place-put, Edit, keep, join, rename, leave, edited, goes, comes, Fits, tally-edited, is_join, Source, is_open_to, Turn}
use Rattle.arc_model.specs.Effects.{becomes, entry_to, entry_of_last, ended_if, owing, owing_none, finished, left_slot, gone, claimed_if}
use Rattle.arc_model.specs.Heaps.{Holder, Hand, Field, Strongs, Unowneds, Forever, Duty, Deinit, Vacating, Gone, Owed, Object, Claimed, Heap}
use Rattle.arc_model.specs.Holders.{same_holder, is_in, is_empty, is_alone, holds, kind_in, list_of, lists, with_list, at_first, gains, renamed, without, with_last, change, is_number, claims_it, is_claimed_by, same_duty, is_duty, is_by}
use Rattle.arc_model.specs.Cells.{has_field, is_immortal, forever_if, strong_holders, holders_of, is_live}
use Rattle.arc_model.specs.Lookup.{owed_by}
use Rattle.arc_model.specs.Own.{ends, ends_hand}
use Rattle.arc_model.specs.Needs.{same_bool}
use Rattle.arc_model.specs.WellFormed.{more, tally, held, total, in_slot_times, has_entry_times, claimed_times, is_own, IsWhole, live, deiniting, deinited, vacating, going, freed, dead, keeps_fields, HasField, IsWellFormed}

-- what comes into p's hands
abbrev pub advance : Bool → ℕ → (ℕ → ℕ) → ℕ → ℕ
advance true p next r = more (eqb p r) (next r)
advance false p next r = next r

pub advance-grows : (b : Bool) (p : ℕ) (next : ℕ → ℕ) (r : ℕ) → next r ≤ advance b p next r
advance-grows true p next r = go (eqb p r)
  where
    go : (b : Bool) → next r ≤ more b (next r)
    go true = omega arith
    go false = omega arith
advance-grows false p next r = omega arith

pub advance-here : (p : ℕ) (next : ℕ → ℕ) → advance true p next p ≡ suc (next p)
advance-here p next = ap (λ b. more b (next p)) (eq-eqb p p refl)

-- an object that is put counts in each total
pub total-holds : (w : Object → ℕ) (os rest : List Object) (o q : Object) → IsPut os rest o q → w o ≤ total w os
total-holds w os rest o q g = let a : total w os ≡ total w g.before + (w o + total w g.after) = ap (total w) g.old ∙ total-append w g.before (o ∷ g.after) in omega arith

pub some-is : (m : Option Object) → is_some m ≡ true → (o : Object) × (m ≡ Some o)
some-is None h = no h
some-is (Some o) h = (o, refl)

pub find-passes : (p : Object → Bool) (os : List Object) (o : Object) → find p os ≡ Some o → p o ≡ true
find-passes p [] o h = absurd (None≢Some o h)
find-passes p (q ∷ os) o h = go (p q) refl h (find-passes p os o)
  where
    some-inj : {a b : Object} → Some a ≡ Some b → a ≡ b
    some-inj e = cc

    go : (b : Bool) → p q ≡ b → cond b (Some q) (find p os) ≡ Some o → (find p os ≡ Some o → p o ≡ true) → p o ≡ true
    go true e h ih = ap p (sym (some-inj h)) ∙ e
    go false e h ih = ih h

pub le-refl : (n : ℕ) → n ≤ n
le-refl n = omega arith

-- whole, by its place
pub whole-of : {shape : HeapShape} (next : ℕ → ℕ) (heap : Heap) (rest : List Object) (o q : Object) → IsWellFormed shape next heap → IsPut heap.objects rest o q → IsWhole shape o
whole-of next heap rest o q f g = let r = place-put heap.objects rest o q g in f.whole r.0 o r.1

-- a field that an edit brings is one of a live object
abbrev pub Puts : HeapShape → Heap → Edit → Type 0
Puts shape new e = (id : ObjectId) (f : ℕ) → comes e (Field id f) ≡ true → HasField shape (is_live shape) id f new

-- a field that an edit takes a reference out of is open to p
abbrev pub Takes : HeapShape → ℕ → Heap → Edit → Type 0
Takes shape p old e = (id : ObjectId) (f : ℕ) → goes e (Field id f) ≡ true → HasField shape (is_open_to shape p) id f old

-- what joins a list has a source
abbrev pub Joins : HeapShape → ℕ → Object → Kind → Edit → Type 0
Joins shape p o k e = is_join e ≡ true → Source shape p o k

or-true : (b : Bool) → (b || true) ≡ true
or-true true = refl
or-true false = refl

-- without strong holders and with no deinit owed an object has no fields
no-fields : {A : Type 0} (shape : HeapShape) (o : Object) → is_empty (strong_holders shape o) ≡ true → is_duty Deinit o.owed ≡ false → keeps_fields shape o ≡ true → A
no-fields shape o s d h = no (sym (ap (λ b. not b || is_duty Deinit o.owed) s ∙ d) ∙ h)

not-deinit : (a : Duty) (m : Option Owed) → same_duty Deinit a ≡ false → is_duty a m ≡ true → is_duty Deinit m ≡ false
not-deinit a m apart h = go (is_duty Deinit m) refl
  where
    go : (b : Bool) → is_duty Deinit m ≡ b → b ≡ false
    go true e = clash (same_duty Deinit a) (duty-apart Deinit a m e h) apart
    go false e = refl

-- a turn that edits a list and does nothing else
abbrev pub plain_turn : {shape : HeapShape} (p : ℕ) (act : Act) (next since : ℕ → ℕ) (old new : Heap) (o q : Object) (k : Kind) (e : Edit) → IsPut old.objects new.objects o q → new.claims ≡ old.claims → Fits e (list_of k o) →
    q.strong ≡ (with_list k (edited e) o).strong → q.unowned ≡ (with_list k (edited e) o).unowned → q.weak ≡ (with_list k (edited e) o).weak → q.id ≡ o.id → q.class ≡ o.class → q.owed ≡ o.owed → q.slot ≡ o.slot → q.entry ≡ o.entry →
    is_empty (holders_of shape k (with_list k (edited e) o)) ≡ is_empty (holders_of shape k o) → goes e Strongs ≡ false → comes e Strongs ≡ false → goes e Unowneds ≡ false → comes e Unowneds ≡ false → comes e Forever ≡ false → PlainKept k (edited e) o →
    ((z : Holder) → is_own z ≡ true → comes e z ≡ true → total (held z) old.objects ≡ 0) →
    ((r k : ℕ) → comes e (Hand r k) ≡ true → (r ≡ p) × (suc k ≤ since r)) → ((r k : ℕ) → goes e (Hand r k) ≡ true → (r ≡ p) × (ends_hand k act ≡ true)) → ((r : ℕ) → next r ≤ since r) → Puts shape new e → Takes shape p old e → Joins shape p o k e → IsWhole shape o → Turn shape p act next since old new
plain_turn {shape = shape} p act next since old new o q k e put same fits s u w id cl d l en em gs cs gu cu ce pl absent mine was grows pu ta jo wh = record {
  o = o;
  q = q;
  put = put;
  kind = k;
  edit = e;
  fits = fits;
  strong = s;
  unowned = u;
  weak = w;
  id = id;
  whole = whole-edited o q k (edited e) cl s u w d l en em (apart Strongs gs cs) (apart Unowneds gu cu) pl wh;
  no_strongs = cs;
  no_unowneds = cu;
  no_forever = ce;
  absent = absent;
  mine = mine;
  was_mine = was;
  grows = grows;
  slots = λ t. let a : in_slot_times t q ≡ in_slot_times t o = ap (λ m. more (is_number m t) zero) l in omega arith;
  entries = λ t. let a : has_entry_times t q ≡ has_entry_times t o = ap (λ m. more (is_number m t) zero) en in let b : claimed_times t new.claims ≡ claimed_times t old.claims = ap (claimed_times t) same in omega arith;
  weak_stays = λ h. weak_stays k w em h;
  entry_stays = λ n h. inl (en ∙ h);
  unentered = λ _ h. en ∙ h;
  owed = λ r _. ap (owed_by r) d;
  stays = λ m h. inl (d ∙ h);
  claims = λ r _ t. ap (λ cs. list_any (λ (c : Claimed). eqb c.thread r && eqb c.entry t) cs) same;
  class = cl;
  life = inl (strong_same k s em);
  place = inl l;
  joins = jo;
  puts_in = pu;
  takes_out = ta;
  fields = λ h. inl (ap (λ b. not b || is_duty Deinit q.owed) (strong_same k s em) ∙ ap (λ m. is_live shape o || is_duty Deinit m) d ∙ h);
}
  where
    strong_same : (k : Kind) → q.strong ≡ (with_list k (edited e) o).strong → is_empty (holders_of shape k (with_list k (edited e) o)) ≡ is_empty (holders_of shape k o) → is_empty (strong_holders shape q) ≡ is_empty (strong_holders shape o)
    strong_same Strong s em = ap is_empty (same-holders shape (with_list Strong (edited e) o) q cl s) ∙ em
    strong_same Unowned s em = ap is_empty (same-holders shape o q cl s)
    strong_same Weak s em = ap is_empty (same-holders shape o q cl s)

    weak_stays : (k : Kind) → q.weak ≡ (with_list k (edited e) o).weak → is_empty (holders_of shape k (with_list k (edited e) o)) ≡ is_empty (holders_of shape k o) → is_empty o.weak ≡ true → is_empty q.weak ≡ true
    weak_stays Strong w em h = ap is_empty w ∙ h
    weak_stays Unowned w em h = ap is_empty w ∙ h
    weak_stays Weak w em h = ap is_empty w ∙ em ∙ h

    apart : (z : Holder) → goes e z ≡ false → comes e z ≡ false → tally z (edited e (list_of k o)) ≡ tally z (list_of k o)
    apart z g c = ap (λ b. more b (tally z (edited e (list_of k o)))) (sym g) ∙ tally-edited e z (list_of k o) fits ∙ ap (λ b. more b (tally z (list_of k o))) c

pub hand-is : (r n p h : ℕ) → same_holder (Hand r n) (Hand p h) ≡ true → (r ≡ p) × (n ≡ h)
hand-is r n p h e = let g = and_parts (eqb r p) (eqb n h) e in (eqb-true r p g.0, eqb-true n h g.1)

pub hand-ended : (r n p h : ℕ) → same_holder (Hand r n) (Hand p h) ≡ true → (r ≡ p) × (eqb h n ≡ true)
hand-ended r n p h e = let g = hand-is r n p h e in (g.0, eq-eqb h n (sym g.1))

-- p's next hand
pub next-absent : {shape : HeapShape} (p k : ℕ) (next : ℕ → ℕ) (heap : Heap) → k ≡ next p → IsWellFormed shape next heap → (z : Holder) → same_holder z (Hand p k) ≡ true → total (held z) heap.objects ≡ 0
next-absent p k next heap is f z e = ap (λ x. total (held x) heap.objects) (same-eq z (Hand p k) e) ∙ f.fresh p k (omega arith)

pub next-mine : (p k : ℕ) (next : ℕ → ℕ) → k ≡ next p → (r n : ℕ) → same_holder (Hand r n) (Hand p k) ≡ true → (r ≡ p) × (suc n ≤ advance true p next r)
next-mine p k next is r n e =
    let g = hand-is r n p k e in
    let a : advance true p next r ≡ advance true p next p = ap (advance true p next) g.0 in
    let b = advance-here p next in
    let c = g.1 in (g.0, omega arith)

-- hand k of p joins a list that isn't empty
pub join_turn : {shape : HeapShape} (p k : ℕ) (act : Act) (next : ℕ → ℕ) (old new : Heap) (o q : Object) (j : Kind) → k ≡ next p → IsWellFormed shape next old → IsPut old.objects new.objects o q → new.claims ≡ old.claims →
    q.strong ≡ (with_list j (with_last (Hand p k)) o).strong → q.unowned ≡ (with_list j (with_last (Hand p k)) o).unowned → q.weak ≡ (with_list j (with_last (Hand p k)) o).weak → q.id ≡ o.id → q.class ≡ o.class → q.owed ≡ o.owed → q.slot ≡ o.slot → q.entry ≡ o.entry →
    is_empty (holders_of shape j o) ≡ false → PlainKept j (with_last (Hand p k)) o → Source shape p o j → Turn shape p act next (advance true p next) old new
join_turn {shape = shape} p k act next old new o q j is f put same s u w id cl d l e full pl jo =
    plain_turn p act next (advance true p next) old new o q j (join (Hand p k)) put same tt s u w id cl d l e (joined j ∙ sym full) refl refl refl refl refl pl
    (λ z _ c. next-absent p k next old is f z c) (next-mine p k next is) (λ r n g. no g) (advance-grows true p next) (λ id f c. no c) (λ id f c. no c) (λ _. jo) (whole-of next old new.objects o q f put)
  where
    joined : (j : Kind) → is_empty (holders_of shape j (with_list j (with_last (Hand p k)) o)) ≡ false
    joined Strong = some-strong shape (with_list Strong (with_last (Hand p k)) o) (empty-push (Hand p k) o.strong)
    joined Unowned = empty-push (Hand p k) o.unowned
    joined Weak = empty-push (Hand p k) o.weak

-- all holders of one kind, of which one is stored or is renamed
pub in-holders : (shape : HeapShape) (x : Holder) (j : Kind) (o : Object) → is_in x (list_of j o) ≡ true → is_empty (holders_of shape j o) ≡ false
in-holders shape x Strong o held = in-strong shape x o held
in-holders shape x Unowned o held = in-not_empty x o.unowned held
in-holders shape x Weak o held = in-not_empty x o.weak held

pub renamed-holders : (shape : HeapShape) (x y : Holder) (j : Kind) (o : Object) → is_empty (holders_of shape j (with_list j (renamed x y) o)) ≡ is_empty (holders_of shape j o)
renamed-holders shape x y Strong o = empty-append (renamed x y o.strong) o.strong (forever_if (is_immortal shape o)) (empty-renamed x y o.strong)
renamed-holders shape x y Unowned o = empty-renamed x y o.unowned
renamed-holders shape x y Weak o = empty-renamed x y o.weak

holders-without : (shape : HeapShape) (x : Holder) (j : Kind) (o : Object) → is_in x (list_of j o) ≡ true → is_alone (holders_of shape j o) ≡ false → is_empty (holders_of shape j (with_list j (without x) o)) ≡ is_empty (holders_of shape j o)
holders-without shape x Strong o held h = strong-without (is_immortal shape o) x o.strong held h
holders-without shape x Unowned o held h = empty-without x o.unowned h
holders-without shape x Weak o held h = empty-without x o.weak h

-- the copy of what x holds
pub copy_turn : {shape : HeapShape} (p k : ℕ) (act : Act) (next : ℕ → ℕ) (old : Heap) (x : Holder) → k ≡ next p → IsWellFormed shape next old → is_own x ≡ true → ((r n : ℕ) → same_holder (Hand r n) x ≡ true → r ≡ p) → is_some (find (holds x) old.objects) ≡ true → Turn shape p act next (advance true p next) old (change (holds x) (lists (gains x (Hand p k))) old)
copy_turn {shape = shape} p k act next old x is f own mine some =
    let r = some-is (find (holds x) old.objects) some in
    let o = r.0 in
    let put = put-found (holds x) (lists (gains x (Hand p k))) old.objects o r.1 in
    let has = find-passes (holds x) old.objects o r.1 in
    let most = total-holds (held x) old.objects (at_first (holds x) (lists (gains x (Hand p k))) old.objects) o (lists (gains x (Hand p k)) o) put in
    let one = f.once x own in
    let parts = one_list x o (gains x (Hand p k)) (with_last (Hand p k)) (gains-present x (Hand p k)) (gains-absent x (Hand p k)) (omega arith) has in
    let inside = in-kind x o has in
    join_turn p k act next old (change (holds x) (lists (gains x (Hand p k))) old) o (lists (gains x (Hand p k)) o) (kind_in x o) is f put refl parts.0 parts.1 parts.2 refl refl refl refl refl (in-holders shape x (kind_in x o) o inside) (plain-own x (kind_in x o) (with_last (Hand p k)) o own inside) (record { from = x; own = own; mine = mine; inside = has; list = inl inside })

-- a live object with a field is there after a renaming
pub live-renamed : {shape : HeapShape} (x y : Holder) (os rest : List Object) (o : Object) → IsPut os rest o (lists (renamed x y) o) → (old new : Heap) → old.objects ≡ os → new.objects ≡ rest → (id : ObjectId) (g : ℕ) → HasField shape (is_live shape) id g old → HasField shape (is_live shape) id g new
live-renamed {shape = shape} x y os rest o put old new was is id g has =
    elim (old-put os rest o (lists (renamed x y) o) put has.place has.object (ap (λ qs. slice_get qs has.place) (sym was) ∙ has.here)) [
      | inl same ↦ record { place = has.place; object = has.object; here = ap (λ qs. slice_get qs has.place) is ∙ same; named = has.named; field = has.field; passing = has.passing }
      | inr turned ↦ record {
        place = has.place;
        object = lists (renamed x y) o;
        here = ap (λ qs. slice_get qs has.place) is ∙ turned.1;
        named = ap (λ (r : Object). r.id) (sym turned.0) ∙ has.named;
        field = ap (has_field shape g) (sym turned.0) ∙ has.field;
        passing = ap not (renamed-holders shape x y Strong o) ∙ ap (is_live shape) (sym turned.0) ∙ has.passing;
      }
    ]

abbrev pub rename_turn : {shape : HeapShape} (p : ℕ) (act : Act) (next since : ℕ → ℕ) (old : Heap) (x y : Holder) → IsWellFormed shape next old → is_own x ≡ true → is_own y ≡ true → is_some (find (holds x) old.objects) ≡ true → total (held y) old.objects ≡ 0 →
    ((r n : ℕ) → same_holder (Hand r n) y ≡ true → (r ≡ p) × (suc n ≤ since r)) → ((r n : ℕ) → same_holder (Hand r n) x ≡ true → (r ≡ p) × (ends_hand n act ≡ true)) → ((r : ℕ) → next r ≤ since r) → ((id : ObjectId) (g : ℕ) → same_holder (Field id g) y ≡ true → HasField shape (is_live shape) id g old) → ((id : ObjectId) (g : ℕ) → same_holder (Field id g) x ≡ true → HasField shape (is_open_to shape p) id g old) → Turn shape p act next since old (becomes x y old)
rename_turn {shape = shape} p act next since old x y f own own' some absent mine was grows puts takes =
    let r = some-is (find (holds x) old.objects) some in
    let o = r.0 in
    let put = put-found (holds x) (lists (renamed x y)) old.objects o r.1 in
    let has = find-passes (holds x) old.objects o r.1 in
    let most = total-holds (held x) old.objects (at_first (holds x) (lists (renamed x y)) old.objects) o (lists (renamed x y) o) put in
    let one = f.once x own in
    let parts = one_list x o (renamed x y) (renamed x y) (λ xs _. refl) (renamed-absent x y) (omega arith) has in
    let inside = in-kind x o has in
    plain_turn p act next since old (becomes x y old) o (lists (renamed x y) o) (kind_in x o) (rename x y) put refl (in-tally x (list_of (kind_in x o) o) inside) parts.0 parts.1 parts.2 refl refl refl refl refl
    (renamed-holders shape x y (kind_in x o) o) (strongs-apart x own) (strongs-apart y own') (unowneds-apart x own) (unowneds-apart y own') (forever-apart y own') (plain-own x (kind_in x o) (renamed x y) o own inside)
    (λ z _ c. ap (λ v. total (held v) old.objects) (same-eq z y c) ∙ absent) mine was grows
    (λ id g c. live-renamed x y old.objects (at_first (holds x) (lists (renamed x y)) old.objects) o put old (becomes x y old) refl refl id g (puts id g c)) takes (λ c. no c) (whole-of next old (becomes x y old).objects o (lists (renamed x y) o) f put)

-- a duty of p isn't another thread's
pub by-other : (r p : ℕ) (m : Option Owed) → (r ≡ p → ⊥) → is_by p m ≡ true → owed_by r m ≡ None
by-other r p None ne h = no h
by-other r p (Some d) ne h = go (eqb d.thread r) refl
  where
    go : (b : Bool) → eqb d.thread r ≡ b → cond b (Some d.duty) None ≡ None
    go true e = absurd (ne (sym (eqb-true d.thread r e) ∙ eqb-true d.thread p h))
    go false e = refl

pub owing-other : (r p : ℕ) (duty : Duty) → (r ≡ p → ⊥) → owed_by r (Some (record { thread = p; duty = duty })) ≡ None
owing-other r p duty ne = by-other r p (Some (record { thread = p; duty = duty })) ne (eq-eqb p p refl)

-- claims
pub any-end : (test : Claimed → Bool) (cs : List Claimed) (c : Claimed) → test c ≡ false → list_any test (cs ++ c ∷ []) ≡ list_any test cs
any-end test [] c h = ap (λ b. b || false) h
any-end test (d ∷ cs) c h = ap (λ b. test d || b) (any-end test cs c h)

pub times-end : (e : ℕ) (cs : List Claimed) (c : Claimed) → claimed_times e (cs ++ c ∷ []) ≡ more (claims_it e c) (claimed_times e cs)
times-end e [] c = refl
times-end e (d ∷ cs) c = ap (more (claims_it e d)) (times-end e cs c) ∙ swap (claims_it e d) (claims_it e c)
  where
    swap : (a b : Bool) → more a (more b (claimed_times e cs)) ≡ more b (more a (claimed_times e cs))
    swap true true = refl
    swap true false = refl
    swap false true = refl
    swap false false = refl

pub not-by : (r p e t : ℕ) → (r ≡ p → ⊥) → (eqb p r && eqb e t) ≡ false
not-by r p e t ne = go (eqb p r) refl
  where
    go : (b : Bool) → eqb p r ≡ b → (b && eqb e t) ≡ false
    go true h = absurd (ne (sym (eqb-true p r h)))
    go false h = refl

pub entry_to-objects : (p : ℕ) (m : Option ℕ) (heap : Heap) → (entry_to p m heap).objects ≡ heap.objects
entry_to-objects p None heap = refl
entry_to-objects p (Some e) heap = refl

pub entry_to-times : (p t : ℕ) (m : Option ℕ) (heap : Heap) → more (is_number None t) zero + claimed_times t (entry_to p m heap).claims ≡ more (is_number m t) zero + claimed_times t heap.claims
entry_to-times p t None heap = refl
entry_to-times p t (Some e) heap = let a = times-end t heap.claims (record { thread = p; entry = e }) in go (eqb e t) a
  where
    go : (b : Bool) → claimed_times t (heap.claims ++ record { thread = p; entry = e } ∷ []) ≡ more b (claimed_times t heap.claims) → 0 + claimed_times t (heap.claims ++ record { thread = p; entry = e } ∷ []) ≡ more b zero + claimed_times t heap.claims
    go true a = omega arith
    go false a = omega arith

pub entry_to-claims : (r p t : ℕ) (m : Option ℕ) (heap : Heap) → (r ≡ p → ⊥) → is_claimed_by r t (entry_to p m heap) ≡ is_claimed_by r t heap
entry_to-claims r p t None heap ne = refl
entry_to-claims r p t (Some e) heap ne = any-end (λ (c : Claimed). eqb c.thread r && eqb c.entry t) heap.claims (record { thread = p; entry = e }) (not-by r p e t ne)

wl-id : (k : Kind) (g : List Holder → List Holder) (o : Object) → (with_list k g o).id ≡ o.id
wl-id Strong g o = refl
wl-id Unowned g o = refl
wl-id Weak g o = refl

wl-class : (k : Kind) (g : List Holder → List Holder) (o : Object) → (with_list k g o).class ≡ o.class
wl-class Strong g o = refl
wl-class Unowned g o = refl
wl-class Weak g o = refl

wl-owed : (k : Kind) (g : List Holder → List Holder) (o : Object) → (with_list k g o).owed ≡ o.owed
wl-owed Strong g o = refl
wl-owed Unowned g o = refl
wl-owed Weak g o = refl

wl-slot : (k : Kind) (g : List Holder → List Holder) (o : Object) → (with_list k g o).slot ≡ o.slot
wl-slot Strong g o = refl
wl-slot Unowned g o = refl
wl-slot Weak g o = refl

wl-entry : (k : Kind) (g : List Holder → List Holder) (o : Object) → (with_list k g o).entry ≡ o.entry
wl-entry Strong g o = refl
wl-entry Unowned g o = refl
wl-entry Weak g o = refl

-- p's last hand in the list of unowned holders: the object is deinited
last_unowned : {shape : HeapShape} (p h : ℕ) (o : Object) → is_in (Hand p h) o.unowned ≡ true → is_alone o.unowned ≡ true → IsWhole shape o → (o.owed ≡ None) × (is_empty (strong_holders shape o) ≡ true) × IsWhole shape (owing p Vacating (with_list Unowned (without (Hand p h)) o))
last_unowned p h o held alone (live s d l a b pl) = no (alone-two Strongs (Hand p h) o.unowned alone (omega arith) (in-tally (Hand p h) o.unowned held))
last_unowned p h o held alone (deiniting s d l a b pl) = no (alone-two Strongs (Hand p h) o.unowned alone (omega arith) (in-tally (Hand p h) o.unowned held))
last_unowned p h o held alone (deinited s d l a u b pl) = (d, s, vacating s refl l (alone-without (Hand p h) o.unowned held alone) b pl)
last_unowned p h o held alone (vacating s d l u b pl) = clash (is_empty o.unowned) u (in-not_empty (Hand p h) o.unowned held)
last_unowned p h o held alone (going s d l u b e) = clash (is_empty o.unowned) u (in-not_empty (Hand p h) o.unowned held)
last_unowned p h o held alone (freed s d l u b w e) = clash (is_empty o.unowned) u (in-not_empty (Hand p h) o.unowned held)
last_unowned p h o held alone (dead s d l u w e) = clash (is_empty o.unowned) u (in-not_empty (Hand p h) o.unowned held)

-- the last weak holder: the object was freed
last_weak : {shape : HeapShape} (p h : ℕ) (o : Object) → is_in (Hand p h) o.weak ≡ true → is_alone o.weak ≡ true → IsWhole shape o → IsWhole shape (record (with_list Weak (without (Hand p h)) o) { entry = None })
last_weak p h o held alone (live s d l a b pl) = no (alone-two Unowneds (Hand p h) o.weak alone (omega arith) (in-tally (Hand p h) o.weak held))
last_weak p h o held alone (deiniting s d l a b pl) = no (alone-two Unowneds (Hand p h) o.weak alone (omega arith) (in-tally (Hand p h) o.weak held))
last_weak p h o held alone (deinited s d l a u b pl) = no (alone-two Unowneds (Hand p h) o.weak alone (omega arith) (in-tally (Hand p h) o.weak held))
last_weak p h o held alone (vacating s d l u b pl) = no (alone-two Unowneds (Hand p h) o.weak alone (omega arith) (in-tally (Hand p h) o.weak held))
last_weak p h o held alone (going s d l u b e) = no (alone-two Unowneds (Hand p h) o.weak alone (omega arith) (in-tally (Hand p h) o.weak held))
last_weak p h o held alone (freed s d l u b w e) = dead s d l u (alone-without (Hand p h) o.weak held alone) refl
last_weak p h o held alone (dead s d l u w e) = clash (is_empty o.weak) w (in-not_empty (Hand p h) o.weak held)

pub drop_turn : {shape : HeapShape} (p h : ℕ) (last : Bool) (next : ℕ → ℕ) (old : Heap) (rest : List Object) (o : Object) (j : Kind) → IsPut old.objects rest o (ended_if last p j (with_list j (without (Hand p h)) o)) → is_in (Hand p h) (list_of j o) ≡ true → same_bool last (is_alone (holders_of shape j o)) ≡ true → IsWhole shape o →
    Turn shape p (acts.Drop h last) next next old (entry_to p (entry_of_last last j o) (record old { objects = rest }))
drop_turn {shape = shape} p h true next old rest o Strong put held alone wh =
    let g = live-facts o wh (in-strong shape (Hand p h) o held) in record {
      o = o;
      q = owing p Deinit (with_list Strong (without (Hand p h)) o);
      put = put;
      kind = Strong;
      edit = leave (Hand p h);
      fits = in-tally (Hand p h) o.strong held;
      strong = refl;
      unowned = refl;
      weak = refl;
      id = refl;
      whole = deiniting (strong-last (is_immortal shape o) (Hand p h) o.strong held alone) refl g.slot g.strongs g.unowneds g.plain;
      no_strongs = refl;
      no_unowneds = refl;
      no_forever = refl;
      absent = λ z _ c. no c;
      mine = λ r k c. no c;
      was_mine = λ r k e. hand-ended r k p h e;
      grows = λ r. le-refl (next r);
      slots = λ s. le-refl (in_slot_times s o);
      entries = λ e. refl;
      weak_stays = λ h. h;
      entry_stays = λ n h. inl h;
      unentered = λ _ h. h;
      owed = λ r ne. owing-other r p Deinit ne ∙ sym (ap (owed_by r) g.owed);
      stays = λ d e. absurd (None≢Some d (sym g.owed ∙ e));
      claims = λ r _ e. refl;
      class = refl;
      life = inr (h, refl, held, strong-last (is_immortal shape o) (Hand p h) o.strong held alone);
      place = inl refl;
      joins = λ e. no e;
      puts_in = λ id f c. no c;
      takes_out = λ id f c. no c;
      fields = λ _. inl (or-true (is_live shape (with_list Strong (without (Hand p h)) o)));
    }
drop_turn {shape = shape} p h true next old rest o Unowned put held alone wh =
    let g = last_unowned p h o held alone wh in record {
      o = o;
      q = owing p Vacating (with_list Unowned (without (Hand p h)) o);
      put = put;
      kind = Unowned;
      edit = leave (Hand p h);
      fits = in-tally (Hand p h) o.unowned held;
      strong = refl;
      unowned = refl;
      weak = refl;
      id = refl;
      whole = g.2;
      no_strongs = refl;
      no_unowneds = refl;
      no_forever = refl;
      absent = λ z _ c. no c;
      mine = λ r k c. no c;
      was_mine = λ r k e. hand-ended r k p h e;
      grows = λ r. le-refl (next r);
      slots = λ s. le-refl (in_slot_times s o);
      entries = λ e. refl;
      weak_stays = λ h. h;
      entry_stays = λ n h. inl h;
      unentered = λ _ h. h;
      owed = λ r ne. owing-other r p Vacating ne ∙ sym (ap (owed_by r) g.0);
      stays = λ d e. absurd (None≢Some d (sym g.0 ∙ e));
      claims = λ r _ e. refl;
      class = refl;
      life = inl refl;
      place = inl refl;
      joins = λ e. no e;
      puts_in = λ id f c. no c;
      takes_out = λ id f c. no c;
      fields = λ k. no-fields shape o g.1 (ap (is_duty Deinit) g.0) k;
    }
drop_turn {shape = shape} p h true next old rest o Weak put held alone wh = record {
  o = o;
  q = record (with_list Weak (without (Hand p h)) o) { entry = None };
  put = subst (λ os. IsPut old.objects os o (record (with_list Weak (without (Hand p h)) o) { entry = None })) (sym (entry_to-objects p o.entry (record old { objects = rest }))) put;
  kind = Weak;
  edit = leave (Hand p h);
  fits = in-tally (Hand p h) o.weak held;
  strong = refl;
  unowned = refl;
  weak = refl;
  id = refl;
  whole = last_weak p h o held alone wh;
  no_strongs = refl;
  no_unowneds = refl;
  no_forever = refl;
  absent = λ z _ c. no c;
  mine = λ r k c. no c;
  was_mine = λ r k e. hand-ended r k p h e;
  grows = λ r. le-refl (next r);
  slots = λ s. le-refl (in_slot_times s o);
  entries = λ e. entry_to-times p e o.entry (record old { objects = rest });
  weak_stays = λ _. alone-without (Hand p h) o.weak held alone;
  entry_stays = λ n _. inr (alone-without (Hand p h) o.weak held alone);
  unentered = λ _ _. refl;
  owed = λ r ne. refl;
  stays = λ d e. inl e;
  claims = λ r ne e. entry_to-claims r p e o.entry (record old { objects = rest }) ne;
  class = refl;
  life = inl refl;
  place = inl refl;
  joins = λ e. no e;
  puts_in = λ id f c. no c;
  takes_out = λ id f c. no c;
  fields = λ k. inl k;
}
drop_turn {shape = shape} p h false next old rest o j put held more' wh =
    let x : Holder = Hand p h in
    plain_turn p (acts.Drop h false) next next old (record old { objects = rest }) o (with_list j (without x) o) j (leave x) put refl (in-tally x (list_of j o) held) refl refl refl (wl-id j (without x) o) (wl-class j (without x) o) (wl-owed j (without x) o) (wl-slot j (without x) o) (wl-entry j (without x) o)
    (holders-without shape x j o held (opposite (is_alone (holders_of shape j o)) more')) refl refl refl refl refl (plain-own x j (without x) o refl held) (λ z _ c. no c) (λ r k c. no c) (λ r k e. hand-ended r k p h e) (λ r. le-refl (next r)) (λ id f c. no c) (λ id f c. no c) (λ c. no c) wh

-- Strongs leaves
pub finish_turn : {shape : HeapShape} (p s : ℕ) (last : Bool) (next : ℕ → ℕ) (old : Heap) (rest : List Object) (o : Object) → IsPut old.objects rest o (finished p last o) → is_by p o.owed ≡ true → is_duty Deinit o.owed ≡ true → same_bool last (is_alone o.unowned) ≡ true → ((f : ℕ) → has_field shape f o ≡ true → total (held (Field o.id f)) old.objects ≡ 0) → IsWhole shape o → Turn shape p (acts.Finish s last) next next old (record old { objects = rest })
finish_turn p s true next old rest o put by duty alone nil wh =
    let g = dying-facts o wh duty in
    let in' = tally-in Strongs o.unowned (let a = g.strongs in omega arith) in record {
      o = o;
      q = finished p true o;
      put = put;
      kind = Unowned;
      edit = leave Strongs;
      fits = in-tally Strongs o.unowned in';
      strong = refl;
      unowned = refl;
      weak = refl;
      id = refl;
      whole = vacating g.strong refl g.slot (alone-without Strongs o.unowned in' alone) g.unowneds g.plain;
      no_strongs = refl;
      no_unowneds = refl;
      no_forever = refl;
      absent = λ z _ c. no c;
      mine = λ r k c. no c;
      was_mine = λ r k e. no e;
      grows = λ r. le-refl (next r);
      slots = λ t. le-refl (in_slot_times t o);
      entries = λ e. refl;
      weak_stays = λ h. h;
      entry_stays = λ n h. inl h;
      unentered = λ _ h. h;
      owed = λ r ne. owing-other r p Vacating ne ∙ sym (by-other r p o.owed ne by);
      stays = λ d e. let i = duty-is p Deinit o.owed d by duty e in inr (i.0, ap (λ a. ends a (acts.Finish s true)) i.1);
      claims = λ r _ e. refl;
      class = refl;
      life = inl refl;
      place = inl refl;
      joins = λ e. no e;
      puts_in = λ id f c. no c;
      takes_out = λ id f c. no c;
      fields = λ _. inr nil;
    }
finish_turn p s false next old rest o put by duty alone nil wh =
    let g = dying-facts o wh duty in
    let strongs = g.strongs in
    let in' = tally-in Strongs o.unowned (omega arith) in
    let left : suc (tally Strongs (without Strongs o.unowned)) ≡ tally Strongs o.unowned = tally-edited (leave Strongs) Strongs o.unowned (in-tally Strongs o.unowned in') in record {
      o = o;
      q = finished p false o;
      put = put;
      kind = Unowned;
      edit = leave Strongs;
      fits = in-tally Strongs o.unowned in';
      strong = refl;
      unowned = refl;
      weak = refl;
      id = refl;
      whole = deinited g.strong refl g.slot (omega arith) (empty-without Strongs o.unowned (opposite (is_alone o.unowned) alone) ∙ in-not_empty Strongs o.unowned in') g.unowneds g.plain;
      no_strongs = refl;
      no_unowneds = refl;
      no_forever = refl;
      absent = λ z _ c. no c;
      mine = λ r k c. no c;
      was_mine = λ r k e. no e;
      grows = λ r. le-refl (next r);
      slots = λ t. le-refl (in_slot_times t o);
      entries = λ e. refl;
      weak_stays = λ h. h;
      entry_stays = λ n h. inl h;
      unentered = λ _ h. h;
      owed = λ r ne. sym (by-other r p o.owed ne by);
      stays = λ d e. let i = duty-is p Deinit o.owed d by duty e in inr (i.0, ap (λ a. ends a (acts.Finish s false)) i.1);
      claims = λ r _ e. refl;
      class = refl;
      life = inl refl;
      place = inl refl;
      joins = λ e. no e;
      puts_in = λ id f c. no c;
      takes_out = λ id f c. no c;
      fields = λ _. inr nil;
    }

fewer : (m : Option ℕ) (t : ℕ) → 0 ≤ more (is_number m t) zero
fewer m t = omega arith

-- the object leaves its slot
pub vacate_turn : {shape : HeapShape} (p s : ℕ) (next : ℕ → ℕ) (old : Heap) (rest : List Object) (o : Object) (m : Option ℕ) → o.entry ≡ m → o.slot ≡ Some s → IsPut old.objects rest o (left_slot p m (owing_none (record o { slot = None }))) → is_by p o.owed ≡ true → is_duty Vacating o.owed ≡ true → IsWhole shape o → Turn shape p (acts.Vacate s) next next old (record old { objects = rest })
vacate_turn {shape = shape} p s next old rest o None is here put by duty wh =
    let g = vacating-facts o wh duty in
    let unowneds = g.unowneds in record {
      o = o;
      q = left_slot p None (owing_none (record o { slot = None }));
      put = put;
      kind = Weak;
      edit = leave Unowneds;
      fits = omega arith;
      strong = refl;
      unowned = refl;
      weak = refl;
      id = refl;
      whole = dead g.strong refl refl g.unowned (ap (λ ws. is_empty (without Unowneds ws)) (g.plain is)) is;
      no_strongs = refl;
      no_unowneds = refl;
      no_forever = refl;
      absent = λ z _ c. no c;
      mine = λ r k c. no c;
      was_mine = λ r k e. no e;
      grows = λ r. le-refl (next r);
      slots = λ t. fewer o.slot t;
      entries = λ e. refl;
      weak_stays = λ h. ap (λ ws. is_empty (without Unowneds ws)) (g.plain is);
      entry_stays = λ n h. inl h;
      unentered = λ _ h. h;
      owed = λ r ne. sym (by-other r p o.owed ne by);
      stays = λ d e. let i = duty-is p Vacating o.owed d by duty e in inr (i.0, ap (λ a. ends a (acts.Vacate s)) i.1);
      claims = λ r _ e. refl;
      class = refl;
      life = inl refl;
      place = inr (s, refl, here, g.strong, g.unowned);
      joins = λ e. no e;
      puts_in = λ id f c. no c;
      takes_out = λ id f c. no c;
      fields = λ k. no-fields shape o g.strong (not-deinit Vacating o.owed refl duty) k;
    }
vacate_turn {shape = shape} p s next old rest o (Some n) is here put by duty wh =
    let g = vacating-facts o wh duty in record {
      o = o;
      q = left_slot p (Some n) (owing_none (record o { slot = None }));
      put = put;
      kind = Weak;
      edit = keep;
      fits = tt;
      strong = refl;
      unowned = refl;
      weak = refl;
      id = refl;
      whole = going g.strong refl refl g.unowned g.unowneds (ap is_some is);
      no_strongs = refl;
      no_unowneds = refl;
      no_forever = refl;
      absent = λ z _ c. no c;
      mine = λ r k c. no c;
      was_mine = λ r k e. no e;
      grows = λ r. le-refl (next r);
      slots = λ t. fewer o.slot t;
      entries = λ e. refl;
      weak_stays = λ h. h;
      entry_stays = λ n h. inl h;
      unentered = λ _ h. h;
      owed = λ r ne. owing-other r p Gone ne ∙ sym (by-other r p o.owed ne by);
      stays = λ d e. let i = duty-is p Vacating o.owed d by duty e in inr (i.0, ap (λ a. ends a (acts.Vacate s)) i.1);
      claims = λ r _ e. refl;
      class = refl;
      life = inl refl;
      place = inr (s, refl, here, g.strong, g.unowned);
      joins = λ e. no e;
      puts_in = λ id f c. no c;
      takes_out = λ id f c. no c;
      fields = λ k. no-fields shape o g.strong (not-deinit Vacating o.owed refl duty) k;
    }

-- Unowneds leaves
pub gone_turn : {shape : HeapShape} (p n : ℕ) (last : Bool) (next : ℕ → ℕ) (old : Heap) (rest : List Object) (o : Object) → o.entry ≡ Some n → IsPut old.objects rest o (gone p last o) → is_by p o.owed ≡ true → is_duty Gone o.owed ≡ true → same_bool last (is_alone o.weak) ≡ true → IsWhole shape o → Turn shape p (acts.Gone n last) next next old (claimed_if last p n (record old { objects = rest }))
gone_turn {shape = shape} p n true next old rest o is put by duty alone wh =
    let g = gone-facts o wh duty in
    let unowneds = g.unowneds in
    let in' = tally-in Unowneds o.weak (omega arith) in record {
      o = o;
      q = gone p true o;
      put = put;
      kind = Weak;
      edit = leave Unowneds;
      fits = in-tally Unowneds o.weak in';
      strong = refl;
      unowned = refl;
      weak = refl;
      id = refl;
      whole = dead g.strong refl g.slot g.unowned (alone-without Unowneds o.weak in' alone) refl;
      no_strongs = refl;
      no_unowneds = refl;
      no_forever = refl;
      absent = λ z _ c. no c;
      mine = λ r k c. no c;
      was_mine = λ r k e. no e;
      grows = λ r. le-refl (next r);
      slots = λ t. le-refl (in_slot_times t o);
      entries = λ e. let a = entry_to-times p e (Some n) (record old { objects = rest }) in let b : has_entry_times e o ≡ more (is_number (Some n) e) zero = ap (λ m. more (is_number m e) zero) is in omega arith;
      weak_stays = λ _. alone-without Unowneds o.weak in' alone;
      entry_stays = λ n _. inr (alone-without Unowneds o.weak in' alone);
      unentered = λ _ _. refl;
      owed = λ r ne. sym (by-other r p o.owed ne by);
      stays = λ d e. let i = duty-is p Gone o.owed d by duty e in inr (i.0, ap (λ a. ends a (acts.Gone n true)) i.1);
      claims = λ r ne e. entry_to-claims r p e (Some n) (record old { objects = rest }) ne;
      class = refl;
      life = inl refl;
      place = inl refl;
      joins = λ e. no e;
      puts_in = λ id f c. no c;
      takes_out = λ id f c. no c;
      fields = λ k. no-fields shape o g.strong (not-deinit Gone o.owed refl duty) k;
    }
gone_turn {shape = shape} p n false next old rest o is put by duty alone wh =
    let g = gone-facts o wh duty in
    let unowneds = g.unowneds in
    let in' = tally-in Unowneds o.weak (omega arith) in
    let left : suc (tally Unowneds (without Unowneds o.weak)) ≡ tally Unowneds o.weak = tally-edited (leave Unowneds) Unowneds o.weak (in-tally Unowneds o.weak in') in record {
      o = o;
      q = gone p false o;
      put = put;
      kind = Weak;
      edit = leave Unowneds;
      fits = in-tally Unowneds o.weak in';
      strong = refl;
      unowned = refl;
      weak = refl;
      id = refl;
      whole = freed g.strong refl g.slot g.unowned (omega arith) (empty-without Unowneds o.weak (opposite (is_alone o.weak) alone) ∙ in-not_empty Unowneds o.weak in') g.entry;
      no_strongs = refl;
      no_unowneds = refl;
      no_forever = refl;
      absent = λ z _ c. no c;
      mine = λ r k c. no c;
      was_mine = λ r k e. no e;
      grows = λ r. le-refl (next r);
      slots = λ t. le-refl (in_slot_times t o);
      entries = λ e. refl;
      weak_stays = λ h. clash (is_empty o.weak) h (in-not_empty Unowneds o.weak in');
      entry_stays = λ n h. inl h;
      unentered = λ _ h. h;
      owed = λ r ne. sym (by-other r p o.owed ne by);
      stays = λ d e. let i = duty-is p Gone o.owed d by duty e in inr (i.0, ap (λ a. ends a (acts.Gone n false)) i.1);
      claims = λ r _ e. refl;
      class = refl;
      life = inl refl;
      place = inl refl;
      joins = λ e. no e;
      puts_in = λ id f c. no c;
      takes_out = λ id f c. no c;
      fields = λ k. no-fields shape o g.strong (not-deinit Gone o.owed refl duty) k;
    }
