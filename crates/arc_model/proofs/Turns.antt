-- The form that each change of a heap's objects has: one object is put in the place of another, with one list edited.
use Rattle.std.proofs.Common.{◌≡◌, ℕ, zero, suc, ◌+◌, ◌≤◌, Bool, true, false, cond, List, [], ◌∷◌, ◌++◌, Option, Some, None, ◌⊎◌, inl, inr, refl, sym, ap, ◌∙◌, arith}
use Rattle.std.specs.Prelude.{find, slice_get, ◌||◌, ⊤}
use Rattle.arc_model.specs.declared.event.ObjectId.{ObjectId}
use Rattle.arc_model.specs.Shapes.{HeapShape}
use Rattle.arc_model.specs.declared.event.Act.{Act}
use Rattle.arc_model.specs.declared.event.Act.TheVariants as acts
use Rattle.arc_model.specs.declared.shape.Kind.{Kind}
use Rattle.arc_model.specs.declared.shape.Kind.TheVariants.{Strong, Unowned, Weak}
use Rattle.arc_model.proofs.Basics.{None≢Some, Some-inj}
use Rattle.arc_model.proofs.Tally.{tally-push, tally-without, tally-renamed}
use Rattle.arc_model.specs.Heaps.{Holder, Hand, Field, Strongs, Unowneds, Forever, Deinit, Owed, Object, Heap}
use Rattle.arc_model.specs.Holders.{same_holder, is_in, is_empty, owes_to, holds, kind_in, list_of, with_list, at_first, renamed, without, with_last, is_claimed_by}
use Rattle.arc_model.specs.Lookup.{spot_in, further, owed_by}
use Rattle.arc_model.specs.Own.{ends, ends_hand}
use Rattle.arc_model.specs.WellFormed.{more, tally, held, total, in_slot_times, has_entry_times, claimed_times, is_own, IsWhole, keeps_fields, HasField}
use Rattle.arc_model.specs.Cells.{has_field, is_immortal, strong_holders, is_live}

-- rest is os with q in the place of o
pub record IsPut (os rest : List Object) (o q : Object) : Type 0 where
  pub before : List Object
  pub after : List Object
  pub old : os ≡ before ++ o ∷ after
  pub new : rest ≡ before ++ q ∷ after

pub put-found : (p : Object → Bool) (f : Object → Object) (os : List Object) (o : Object) → find p os ≡ Some o → IsPut os (at_first p f os) o (f o)
put-found p f [] o h = absurd (None≢Some o h)
put-found p f (r ∷ os) o h = go (p r) h (put-found p f os o)
  where
    go : (b : Bool) → cond b (Some r) (find p os) ≡ Some o → (find p os ≡ Some o → IsPut os (at_first p f os) o (f o)) → IsPut (r ∷ os) (cond b (f r ∷ os) (r ∷ at_first p f os)) o (f o)
    go true h ih = record { before = []; after = os; old = ap (λ q. q ∷ os) (Some-inj h); new = ap (λ q. f q ∷ os) (Some-inj h) }
    go false h ih = let g = ih h in record { before = r ∷ g.before; after = g.after; old = ap (λ qs. r ∷ qs) g.old; new = ap (λ qs. r ∷ qs) g.new }

pub total-append : (w : Object → ℕ) (xs ys : List Object) → total w (xs ++ ys) ≡ total w xs + total w ys
total-append w [] ys = omega arith
total-append w (x ∷ xs) ys = let ih = total-append w xs ys in omega arith

pub total-put : (w : Object → ℕ) (os rest : List Object) (o q : Object) → IsPut os rest o q → total w rest + w o ≡ total w os + w q
total-put w os rest o q g =
    let a : total w os ≡ total w g.before + (w o + total w g.after) = ap (total w) g.old ∙ total-append w g.before (o ∷ g.after) in
    let b : total w rest ≡ total w g.before + (w q + total w g.after) = ap (total w) g.new ∙ total-append w g.before (q ∷ g.after) in
    omega arith

-- what is put is at a place, and nothing else changed
at-append : (before after : List Object) (o q : Object) (i : ℕ) (r : Object) → slice_get (before ++ q ∷ after) i ≡ Some r → (r ≡ q) ⊎ (slice_get (before ++ o ∷ after) i ≡ Some r)
at-append [] after o q zero r h = inl (Some-inj (sym h))
at-append [] after o q (suc i) r h = inr h
at-append (b ∷ before) after o q zero r h = inr h
at-append (b ∷ before) after o q (suc i) r h = at-append before after o q i r h

pub at-put : (os rest : List Object) (o q : Object) → IsPut os rest o q → (i : ℕ) (r : Object) → slice_get rest i ≡ Some r → (r ≡ q) ⊎ (slice_get os i ≡ Some r)
at-put os rest o q g i r h =
    elim (at-append g.before g.after o q i r (ap (λ qs. slice_get qs i) (sym g.new) ∙ h)) [
      | inl e ↦ inl e
      | inr e ↦ inr (ap (λ qs. slice_get qs i) g.old ∙ e)
    ]

-- what was at a place is there, or it was the object that is replaced
old-append : (before after : List Object) (o q : Object) (i : ℕ) (r : Object) → slice_get (before ++ o ∷ after) i ≡ Some r → (slice_get (before ++ q ∷ after) i ≡ Some r) ⊎ ((r ≡ o) × (slice_get (before ++ q ∷ after) i ≡ Some q))
old-append [] after o q zero r h = inr (Some-inj (sym h), refl)
old-append [] after o q (suc i) r h = inl h
old-append (b ∷ before) after o q zero r h = inl h
old-append (b ∷ before) after o q (suc i) r h = old-append before after o q i r h

pub old-put : (os rest : List Object) (o q : Object) → IsPut os rest o q → (i : ℕ) (r : Object) → slice_get os i ≡ Some r → (slice_get rest i ≡ Some r) ⊎ ((r ≡ o) × (slice_get rest i ≡ Some q))
old-put os rest o q g i r h =
    elim (old-append g.before g.after o q i r (ap (λ qs. slice_get qs i) (sym g.old) ∙ h)) [
      | inl e ↦ inl (ap (λ qs. slice_get qs i) g.new ∙ e)
      | inr e ↦ inr (e.0, ap (λ qs. slice_get qs i) g.new ∙ e.1)
    ]

place-append : (before after : List Object) (o : Object) → (i : ℕ) × (slice_get (before ++ o ∷ after) i ≡ Some o)
place-append [] after o = (zero, refl)
place-append (b ∷ before) after o = let r = place-append before after o in (suc r.0, r.1)

pub place-put : (os rest : List Object) (o q : Object) → IsPut os rest o q → (i : ℕ) × (slice_get os i ≡ Some o)
place-put os rest o q g = let r = place-append g.before g.after o in (r.0, ap (λ qs. slice_get qs r.0) g.old ∙ r.1)

-- a function of the place that agrees on both objects agrees on both lists
same-append : {X : Type 0} (w : Option Object → X) (before after : List Object) (o q : Object) → w (Some q) ≡ w (Some o) → (i : ℕ) → w (slice_get (before ++ q ∷ after) i) ≡ w (slice_get (before ++ o ∷ after) i)
same-append w [] after o q e zero = e
same-append w [] after o q e (suc i) = refl
same-append w (b ∷ before) after o q e zero = refl
same-append w (b ∷ before) after o q e (suc i) = same-append w before after o q e i

pub same-put : {X : Type 0} (w : Option Object → X) (os rest : List Object) (o q : Object) → IsPut os rest o q → w (Some q) ≡ w (Some o) → (i : ℕ) → w (slice_get rest i) ≡ w (slice_get os i)
same-put w os rest o q g e i = ap (λ qs. w (slice_get qs i)) g.new ∙ same-append w g.before g.after o q e i ∙ ap (λ qs. w (slice_get qs i)) (sym g.old)

pub spot-append : (z : Holder) (before after : List Object) (o q : Object) → holds z q ≡ holds z o → kind_in z q ≡ kind_in z o → spot_in z (before ++ q ∷ after) ≡ spot_in z (before ++ o ∷ after)
spot-append z [] after o q h k = ap (λ b. cond b (Some (record { place = zero; kind = kind_in z q })) (further (spot_in z after))) h ∙ ap (λ j. cond (holds z o) (Some (record { place = zero; kind = j })) (further (spot_in z after))) k
spot-append z (b ∷ before) after o q h k = ap (λ s. cond (holds z b) (Some (record { place = zero; kind = kind_in z b })) (further s)) (spot-append z before after o q h k)

-- what happens to one list
pub data Edit : Type 0 where
  keep : Edit
  join : Holder → Edit
  rename : Holder → Holder → Edit
  leave : Holder → Edit

abbrev pub edited : Edit → List Holder → List Holder
edited keep xs = xs
edited (join y) xs = with_last y xs
edited (rename x y) xs = renamed x y xs
edited (leave x) xs = without x xs

abbrev pub goes : Edit → Holder → Bool
goes keep z = false
goes (join y) z = false
goes (rename x y) z = same_holder z x
goes (leave x) z = same_holder z x

abbrev pub comes : Edit → Holder → Bool
comes keep z = false
comes (join y) z = same_holder z y
comes (rename x y) z = same_holder z y
comes (leave x) z = false

abbrev pub Fits : Edit → List Holder → Type 0
Fits keep xs = ⊤
Fits (join y) xs = ⊤
Fits (rename x y) xs = 1 ≤ tally x xs
Fits (leave x) xs = 1 ≤ tally x xs

pub tally-edited : (e : Edit) (z : Holder) (xs : List Holder) → Fits e xs → more (goes e z) (tally z (edited e xs)) ≡ more (comes e z) (tally z xs)
tally-edited keep z xs fits = refl
tally-edited (join y) z xs fits = tally-push z y xs
tally-edited (rename x y) z xs fits = tally-renamed z x y xs fits
tally-edited (leave x) z xs fits = tally-without z x xs fits

abbrev pub is_join : Edit → Bool
is_join (join y) = true
is_join _ = false

-- What joins a list of an object is taken from a hand of p or a cell that refers to the object: from that very list, or
-- from another one of a live object.
pub record Source (shape : HeapShape) (p : ℕ) (o : Object) (k : Kind) : Type 0 where
  pub from : Holder
  pub own : is_own from ≡ true
  pub mine : (r n : ℕ) → same_holder (Hand r n) from ≡ true → r ≡ p
  pub inside : holds from o ≡ true
  pub list : (is_in from (list_of k o) ≡ true) ⊎ (is_live shape o ≡ true)

-- the drop of the object's last strong holder
abbrev pub IsLastDrop : HeapShape → ℕ → Act → Object → Object → Type 0
IsLastDrop shape p act o q = (h : ℕ) × (act ≡ acts.Drop h true) × (is_in (Hand p h) o.strong ≡ true) × (is_empty (strong_holders shape q) ≡ true)

-- the `vacate` of the object's slot, where it has no strong and no unowned holder
abbrev pub IsLeaving : HeapShape → Act → Object → Type 0
IsLeaving shape act o = (s : ℕ) × (act ≡ acts.Vacate s) × (o.slot ≡ Some s) × (is_empty (strong_holders shape o) ≡ true) × (is_empty o.unowned ≡ true)

-- p may take references out of the object's fields
abbrev pub is_open_to : HeapShape → ℕ → Object → Bool
is_open_to shape p o = is_live shape o || owes_to p Deinit o

-- thread p's act puts an object in the place of another, with one list edited
pub record Turn (shape : HeapShape) (p : ℕ) (act : Act) (next since : ℕ → ℕ) (old new : Heap) : Type 0 where
  pub o : Object
  pub q : Object
  pub put : IsPut old.objects new.objects o q
  pub kind : Kind
  pub edit : Edit
  pub fits : Fits edit (list_of kind o)
  pub strong : q.strong ≡ (with_list kind (edited edit) o).strong
  pub unowned : q.unowned ≡ (with_list kind (edited edit) o).unowned
  pub weak : q.weak ≡ (with_list kind (edited edit) o).weak
  pub id : q.id ≡ o.id
  pub whole : IsWhole shape q
  pub no_strongs : comes edit Strongs ≡ false
  pub no_unowneds : comes edit Unowneds ≡ false
  pub no_forever : comes edit Forever ≡ false
  pub absent : (z : Holder) → is_own z ≡ true → comes edit z ≡ true → total (held z) old.objects ≡ 0
  pub mine : (r k : ℕ) → comes edit (Hand r k) ≡ true → (r ≡ p) × (suc k ≤ since r)
  pub was_mine : (r k : ℕ) → goes edit (Hand r k) ≡ true → (r ≡ p) × (ends_hand k act ≡ true)
  pub grows : (r : ℕ) → next r ≤ since r
  pub slots : (s : ℕ) → in_slot_times s q ≤ in_slot_times s o
  pub entries : (e : ℕ) → has_entry_times e q + claimed_times e new.claims ≡ has_entry_times e o + claimed_times e old.claims
  pub weak_stays : is_empty o.weak ≡ true → is_empty q.weak ≡ true
  pub entry_stays : (n : ℕ) → o.entry ≡ Some n → (q.entry ≡ Some n) ⊎ (is_empty q.weak ≡ true)
  pub unentered : is_immortal shape o ≡ true → o.entry ≡ None → q.entry ≡ None
  pub owed : (r : ℕ) → (r ≡ p → ⊥) → owed_by r q.owed ≡ owed_by r o.owed
  pub stays : (d : Owed) → o.owed ≡ Some d → (q.owed ≡ Some d) ⊎ ((d.thread ≡ p) × (ends d.duty act ≡ true))
  pub claims : (r : ℕ) → (r ≡ p → ⊥) → (e : ℕ) → is_claimed_by r e new ≡ is_claimed_by r e old
  pub class : q.class ≡ o.class
  pub life : (is_empty (strong_holders shape q) ≡ is_empty (strong_holders shape o)) ⊎ IsLastDrop shape p act o q
  pub place : (q.slot ≡ o.slot) ⊎ IsLeaving shape act o
  pub joins : is_join edit ≡ true → Source shape p o kind
  pub puts_in : (id : ObjectId) (f : ℕ) → comes edit (Field id f) ≡ true → HasField shape (is_live shape) id f new
  pub takes_out : (id : ObjectId) (f : ℕ) → goes edit (Field id f) ≡ true → HasField shape (is_open_to shape p) id f old
  pub fields : keeps_fields shape o ≡ true → (keeps_fields shape q ≡ true) ⊎ ((f : ℕ) → has_field shape f o ≡ true → total (held (Field o.id f)) old.objects ≡ 0)

-- how often z stands in the object
pub held_one : (z : Holder) (e : Edit) (o q : Object) (k : Kind) → Fits e (list_of k o) → q.strong ≡ (with_list k (edited e) o).strong → q.unowned ≡ (with_list k (edited e) o).unowned → q.weak ≡ (with_list k (edited e) o).weak → (a b : Bool) → goes e z ≡ a → comes e z ≡ b → more a (held z q) ≡ more b (held z o)
held_one z e o q k fits s u w a b ga gb = go a b k (parts k fits s u w a b ga gb)
  where
    parts : (k : Kind) → Fits e (list_of k o) → q.strong ≡ (with_list k (edited e) o).strong → q.unowned ≡ (with_list k (edited e) o).unowned → q.weak ≡ (with_list k (edited e) o).weak → (a b : Bool) → goes e z ≡ a → comes e z ≡ b →
        (more a (tally z (list_of k q)) ≡ more b (tally z (list_of k o))) × (tally z q.strong ≡ tally z (with_list k (edited e) o).strong) × (tally z q.unowned ≡ tally z (with_list k (edited e) o).unowned) × (tally z q.weak ≡ tally z (with_list k (edited e) o).weak)
    parts Strong fits s u w a b ga gb = (ap (λ c. more c (tally z q.strong)) (sym ga) ∙ ap (λ xs. more (goes e z) (tally z xs)) s ∙ tally-edited e z o.strong fits ∙ ap (λ c. more c (tally z o.strong)) gb, ap (tally z) s, ap (tally z) u, ap (tally z) w)
    parts Unowned fits s u w a b ga gb = (ap (λ c. more c (tally z q.unowned)) (sym ga) ∙ ap (λ xs. more (goes e z) (tally z xs)) u ∙ tally-edited e z o.unowned fits ∙ ap (λ c. more c (tally z o.unowned)) gb, ap (tally z) s, ap (tally z) u, ap (tally z) w)
    parts Weak fits s u w a b ga gb = (ap (λ c. more c (tally z q.weak)) (sym ga) ∙ ap (λ xs. more (goes e z) (tally z xs)) w ∙ tally-edited e z o.weak fits ∙ ap (λ c. more c (tally z o.weak)) gb, ap (tally z) s, ap (tally z) u, ap (tally z) w)

    go : (a b : Bool) (k : Kind) → (more a (tally z (list_of k q)) ≡ more b (tally z (list_of k o))) × (tally z q.strong ≡ tally z (with_list k (edited e) o).strong) × (tally z q.unowned ≡ tally z (with_list k (edited e) o).unowned) × (tally z q.weak ≡ tally z (with_list k (edited e) o).weak) → more a (held z q) ≡ more b (held z o)
    go true true Strong f = let g = f.0 in let u = f.2 in let w = f.3 in omega arith
    go true false Strong f = let g = f.0 in let u = f.2 in let w = f.3 in omega arith
    go false true Strong f = let g = f.0 in let u = f.2 in let w = f.3 in omega arith
    go false false Strong f = let g = f.0 in let u = f.2 in let w = f.3 in omega arith
    go true true Unowned f = let g = f.0 in let u = f.1 in let w = f.3 in omega arith
    go true false Unowned f = let g = f.0 in let u = f.1 in let w = f.3 in omega arith
    go false true Unowned f = let g = f.0 in let u = f.1 in let w = f.3 in omega arith
    go false false Unowned f = let g = f.0 in let u = f.1 in let w = f.3 in omega arith
    go true true Weak f = let g = f.0 in let u = f.1 in let w = f.2 in omega arith
    go true false Weak f = let g = f.0 in let u = f.1 in let w = f.2 in omega arith
    go false true Weak f = let g = f.0 in let u = f.1 in let w = f.2 in omega arith
    go false false Weak f = let g = f.0 in let u = f.1 in let w = f.2 in omega arith

-- how often z stands in the heap
pub held-turn : {shape : HeapShape} (p : ℕ) (act : Act) (next since : ℕ → ℕ) (old new : Heap) (t : Turn shape p act next since old new) (z : Holder) (a b : Bool) → goes t.edit z ≡ a → comes t.edit z ≡ b → more a (total (held z) new.objects) ≡ more b (total (held z) old.objects)
held-turn p act next since old new t z a b ga gb =
    go a b (held_one z t.edit t.o t.q t.kind t.fits t.strong t.unowned t.weak a b ga gb) (total-put (held z) old.objects new.objects t.o t.q t.put)
  where
    go : (a b : Bool) → more a (held z t.q) ≡ more b (held z t.o) → total (held z) new.objects + held z t.o ≡ total (held z) old.objects + held z t.q → more a (total (held z) new.objects) ≡ more b (total (held z) old.objects)
    go true true e f = omega arith
    go true false e f = omega arith
    go false true e f = omega arith
    go false false e f = omega arith

-- where z doesn't come, it stands in no list more often
fewer_edited : (e : Edit) (z : Holder) (xs : List Holder) → Fits e xs → comes e z ≡ false → tally z (edited e xs) ≤ tally z xs
fewer_edited e z xs fits c = go (goes e z) (tally-edited e z xs fits ∙ ap (λ b. more b (tally z xs)) c)
  where
    go : (b : Bool) → more b (tally z (edited e xs)) ≡ tally z xs → tally z (edited e xs) ≤ tally z xs
    go true h = omega arith
    go false h = omega arith

pub fewer-turn : {shape : HeapShape} (p : ℕ) (act : Act) (next since : ℕ → ℕ) (old new : Heap) (t : Turn shape p act next since old new) (z : Holder) → comes t.edit z ≡ false →
    (tally z t.q.strong ≤ tally z t.o.strong) × (tally z t.q.unowned ≤ tally z t.o.unowned) × (tally z t.q.weak ≤ tally z t.o.weak)
fewer-turn p act next since old new t z c = go t.kind t.fits (ap (tally z) t.strong) (ap (tally z) t.unowned) (ap (tally z) t.weak)
  where
    go : (k : Kind) → Fits t.edit (list_of k t.o) → tally z t.q.strong ≡ tally z (with_list k (edited t.edit) t.o).strong → tally z t.q.unowned ≡ tally z (with_list k (edited t.edit) t.o).unowned → tally z t.q.weak ≡ tally z (with_list k (edited t.edit) t.o).weak →
        (tally z t.q.strong ≤ tally z t.o.strong) × (tally z t.q.unowned ≤ tally z t.o.unowned) × (tally z t.q.weak ≤ tally z t.o.weak)
    go Strong fits s u w = let a = fewer_edited t.edit z t.o.strong fits c in (omega arith, omega arith, omega arith)
    go Unowned fits s u w = let a = fewer_edited t.edit z t.o.unowned fits c in (omega arith, omega arith, omega arith)
    go Weak fits s u w = let a = fewer_edited t.edit z t.o.weak fits c in (omega arith, omega arith, omega arith)
