-- What acts that are served leave: objects without an entry, in whose lists are no more holders than references came, and one. No entry is claimed.
use Rattle.std.proofs.Common.{◌≡◌, ℕ, zero, suc, ◌≤◌, Bool, true, false, cond, List, [], ◌∷◌, ◌++◌, length, Option, Some, None, refl, sym, ap, subst, arith}
use Rattle.std.specs.Prelude.{find, slice_get, ⊤}
use Rattle.std.proofs.lemmas.List.{length-append}
use Rattle.arc_model.specs.declared.event.CellName.TheVariants as cells
use Rattle.arc_model.specs.declared.event.Got.TheVariants as gots
use Rattle.arc_model.specs.declared.event.Act.{Act}
use Rattle.arc_model.specs.declared.event.Act.TheVariants as acts
use Rattle.arc_model.specs.declared.shape.Kind.{Kind}
use Rattle.arc_model.specs.declared.shape.Kind.TheVariants.{Strong, Unowned, Weak}
use Rattle.arc_model.specs.Shapes.{HeapShape}
use Rattle.arc_model.specs.Heaps.{Holder, Hand, Strongs, Object, Heap}
use Rattle.arc_model.specs.Holders.{same_holder, is_in, with_last, without, gains, renamed, lists, with_list, change, kind_in, holds, in_slot, held_by, at_first}
use Rattle.arc_model.specs.Cells.{cell, origin}
use Rattle.arc_model.specs.Effects.{ended_if, given_up, entry_of_last, entry_left, entry_to, left_slot, finished, vacated, becomes, put_in, taken_out, effect, made}
use Rattle.arc_model.specs.WellFormed.{more}
use Rattle.arc_model.specs.History.{History, heap_after, brings}
use Rattle.arc_model.proofs.Basics.{None≢Some, Some-inj}
use Rattle.arc_replays.specs.Named.{ActFits, EventsFit}

-- how many references came to all threads
abbrev pub came_in : History → ℕ
came_in [] = 0
came_in (e ∷ h) = more (brings e.act) (came_in h)

-- it has no entry, so many strong holders at most, and besides the one that stands for these so many unowned ones
pub record IsBare (n : ℕ) (o : Object) : Type 0 where
  pub entry : o.entry ≡ None
  pub strong : length o.strong ≤ n
  pub unowned : length o.unowned ≤ suc n

abbrev pub AreBare : ℕ → List Object → Type 0
AreBare n [] = ⊤
AreBare n (o ∷ os) = IsBare n o × AreBare n os

pub record IsBareHeap (n : ℕ) (heap : Heap) : Type 0 where
  pub objects : AreBare n heap.objects
  pub claims : heap.claims ≡ []

pub bare_at : (n : ℕ) (os : List Object) (i : ℕ) (o : Object) → AreBare n os → slice_get os i ≡ Some o → IsBare n o
bare_at n [] i o b at = absurd (None≢Some o at)
bare_at n (r ∷ os) zero o b at = subst (IsBare n) (Some-inj at) b.0
bare_at n (r ∷ os) (suc i) o b at = bare_at n os i o b.1 at

-- ---- lists

without_few : (x : Holder) (xs : List Holder) → length (without x xs) ≤ length xs
without_few x [] = omega arith
without_few x (z ∷ zs) = go (same_holder x z) (without_few x zs)
  where
    go : (b : Bool) → length (without x zs) ≤ length zs → length (cond b zs (z ∷ without x zs)) ≤ suc (length zs)
    go true h = omega arith
    go false h = omega arith

gains_few : (x y : Holder) (xs : List Holder) → length (gains x y xs) ≤ suc (length xs)
gains_few x y xs = go (is_in x xs)
  where
    go : (b : Bool) → length (cond b (xs ++ y ∷ []) xs) ≤ suc (length xs)
    go true = let l = length-append xs (y ∷ []) in omega arith
    go false = omega arith

-- ---- objects

more_bare : (n m : ℕ) (o : Object) → n ≤ m → IsBare n o → IsBare m o
more_bare n m o le b = record { entry = b.entry; strong = (let s = b.strong in omega arith); unowned = (let u = b.unowned in omega arith) }

all_more : (n m : ℕ) (os : List Object) → n ≤ m → AreBare n os → AreBare m os
all_more n m [] le b = tt
all_more n m (o ∷ os) le b = (more_bare n m o le b.0, all_more n m os le b.1)

first_bare : (n m : ℕ) (test : Object → Bool) (f : Object → Object) (os : List Object) → n ≤ m → ((o : Object) → IsBare n o → IsBare m (f o)) → AreBare n os → AreBare m (at_first test f os)
first_bare n m test f [] le fits b = tt
first_bare n m test f (o ∷ os) le fits b = go (test o) (first_bare n m test f os le fits b.1)
  where
    go : (c : Bool) → AreBare m (at_first test f os) → AreBare m (cond c (f o ∷ os) (o ∷ at_first test f os))
    go true rest = (fits o b.0, all_more n m os le b.1)
    go false rest = (more_bare n m o le b.0, rest)

end_bare : (n : ℕ) (os : List Object) (o : Object) → AreBare n os → IsBare n o → AreBare n (os ++ o ∷ [])
end_bare n [] o b last = (last, tt)
end_bare n (r ∷ os) o b last = (b.0, end_bare n os o b.1 last)

ended_bare : (n p : ℕ) (last : Bool) (kind : Kind) (o : Object) → IsBare n o → IsBare n (ended_if last p kind o)
ended_bare n p false kind o b = b
ended_bare n p true Strong o b = record { entry = b.entry; strong = b.strong; unowned = b.unowned }
ended_bare n p true Unowned o b = record { entry = b.entry; strong = b.strong; unowned = b.unowned }
ended_bare n p true Weak o b = record { entry = refl; strong = b.strong; unowned = b.unowned }

given_bare : (n p : ℕ) (x : Holder) (last : Bool) (o : Object) → IsBare n o → IsBare n (given_up p x last o)
given_bare n p x last o b = go (kind_in x o)
  where
    go : (kind : Kind) → IsBare n (ended_if last p kind (with_list kind (without x) o))
    go Strong = ended_bare n p last Strong (record o { strong = without x o.strong }) (record { entry = b.entry; strong = (let s = b.strong in let w = without_few x o.strong in omega arith); unowned = b.unowned })
    go Unowned = ended_bare n p last Unowned (record o { unowned = without x o.unowned }) (record { entry = b.entry; strong = b.strong; unowned = (let u = b.unowned in let w = without_few x o.unowned in omega arith) })
    go Weak = ended_bare n p last Weak (record o { weak = without x o.weak }) (record { entry = b.entry; strong = b.strong; unowned = b.unowned })

finished_bare : (n p : ℕ) (last : Bool) (o : Object) → IsBare n o → IsBare n (finished p last o)
finished_bare n p last o b =
    ended_bare n p last Unowned (record o { unowned = without Strongs o.unowned; owed = None }) (record { entry = b.entry; strong = b.strong; unowned = (let u = b.unowned in let w = without_few Strongs o.unowned in omega arith) })

vacated_bare : (n p : ℕ) (o : Object) → IsBare n o → IsBare n (vacated p o)
vacated_bare n p o b = go o.entry
  where
    go : (e : Option ℕ) → IsBare n (left_slot p e (record o { slot = None; owed = None }))
    go None = record { entry = b.entry; strong = b.strong; unowned = b.unowned }
    go (Some e) = record { entry = b.entry; strong = b.strong; unowned = b.unowned }

-- no object leaves an entry
none_left : (n : ℕ) (x : Holder) (last : Bool) (test : Object → Bool) (os : List Object) → AreBare n os → entry_left x last (find test os) ≡ None
none_left n x last test [] b = refl
none_left n x last test (o ∷ os) b = go (test o) (none_left n x last test os b.1)
  where
    of_last : (l : Bool) (kind : Kind) → entry_of_last l kind o ≡ None
    of_last false kind = refl
    of_last true Strong = refl
    of_last true Unowned = refl
    of_last true Weak = b.0.entry

    go : (c : Bool) → entry_left x last (find test os) ≡ None → entry_left x last (cond c (Some o) (find test os)) ≡ None
    go true rest = of_last last (kind_in x o)
    go false rest = rest

-- ---- heaps

bare_drop : (n p : ℕ) (left : Option ℕ) (heap : Heap) → left ≡ None → IsBareHeap n heap → IsBareHeap n (entry_to p left heap)
bare_drop n p None heap none b = b
bare_drop n p (Some e) heap none b = absurd (None≢Some e (sym none))

-- a holder takes the place of another
renamed_few : (x y : Holder) (xs : List Holder) → length (renamed x y xs) ≡ length xs
renamed_few x y [] = refl
renamed_few x y (z ∷ zs) = go (same_holder x z) (renamed_few x y zs)
  where
    go : (b : Bool) → length (renamed x y zs) ≡ length zs → length (cond b (y ∷ zs) (z ∷ renamed x y zs)) ≡ suc (length zs)
    go true e = refl
    go false e = ap suc e

becomes_bare : (n : ℕ) (x y : Holder) (heap : Heap) → IsBareHeap n heap → IsBareHeap n (becomes x y heap)
becomes_bare n x y heap b = record {
  objects = first_bare n n (holds x) (lists (renamed x y)) heap.objects (omega arith)
      (λ o bare. record {
        entry = bare.entry;
        strong = (let s = bare.strong in let g = renamed_few x y o.strong in omega arith);
        unowned = (let u = bare.unowned in let g = renamed_few x y o.unowned in omega arith);
      }) b.objects;
  claims = b.claims;
}

put_bare : (n p : ℕ) (c : Holder) (put : Option ℕ) (heap : Heap) → IsBareHeap n heap → IsBareHeap n (put_in c p put heap)
put_bare n p c None heap b = b
put_bare n p c (Some h) heap b = becomes_bare n (Hand p h) c heap b

bare_more : (n m : ℕ) (heap : Heap) → n ≤ m → IsBareHeap n heap → IsBareHeap m heap
bare_more n m heap le b = record { objects = all_more n m heap.objects le b.objects; claims = b.claims }

bare_effect : (shape : HeapShape) (n p : ℕ) (act : Act) (heap : Heap) → ActFits shape act → IsBareHeap n heap → IsBareHeap (more (brings act) n) (effect p act heap)
bare_effect shape n p (acts.New k c s) heap fits b = record {
  objects = end_bare (suc n) heap.objects (made p k c s heap.objects) (all_more n (suc n) heap.objects (omega arith) b.objects) (record { entry = refl; strong = omega arith; unowned = omega arith });
  claims = b.claims;
}
bare_effect shape n p acts.Full heap fits b = b
bare_effect shape n p (acts.Copy from k) heap fits b = record {
  objects = first_bare n (suc n) (holds (origin heap p from)) (lists (gains (origin heap p from) (Hand p k))) heap.objects (omega arith)
      (λ o bare. record {
        entry = bare.entry;
        strong = (let s = bare.strong in let g = gains_few (origin heap p from) (Hand p k) o.strong in omega arith);
        unowned = (let u = bare.unowned in let g = gains_few (origin heap p from) (Hand p k) o.unowned in omega arith);
      }) b.objects;
  claims = b.claims;
}
bare_effect shape n p (acts.UnownedOf of k) heap fits b = record {
  objects = first_bare n (suc n) (holds (Hand p of)) (with_list Unowned (with_last (Hand p k))) heap.objects (omega arith)
      (λ o bare. record { entry = bare.entry; strong = (let s = bare.strong in omega arith); unowned = (let u = bare.unowned in let l = length-append o.unowned (Hand p k ∷ []) in omega arith) }) b.objects;
  claims = b.claims;
}
bare_effect shape n p (acts.WeakOf of k) heap fits b = absurd fits
bare_effect shape n p (acts.Load of (gots.Hand k)) heap fits b = record {
  objects = first_bare n (suc n) (holds (Hand p of)) (with_list Strong (with_last (Hand p k))) heap.objects (omega arith)
      (λ o bare. record { entry = bare.entry; strong = (let s = bare.strong in let l = length-append o.strong (Hand p k ∷ []) in omega arith); unowned = (let u = bare.unowned in omega arith) }) b.objects;
  claims = b.claims;
}
bare_effect shape n p (acts.Load of gots.Dead) heap fits b = b
bare_effect shape n p (acts.Load of gots.Nil) heap fits b = b
bare_effect shape n p (acts.Drop h last) heap fits b =
    bare_drop n p (entry_left (Hand p h) last (held_by (Hand p h) heap)) (change (holds (Hand p h)) (given_up p (Hand p h) last) heap) (none_left n (Hand p h) last (holds (Hand p h)) heap.objects b.objects)
    (record { objects = first_bare n n (holds (Hand p h)) (given_up p (Hand p h) last) heap.objects (omega arith) (λ o bare. given_bare n p (Hand p h) last o bare) b.objects; claims = b.claims })
bare_effect shape n p (acts.CountFull list from) heap fits b = absurd fits
bare_effect shape n p (acts.Claim e) heap fits b = absurd fits
bare_effect shape n p acts.NoEntry heap fits b = absurd fits
bare_effect shape n p (acts.Side s e why) heap fits b = absurd fits
bare_effect shape n p (acts.Back e) heap fits b = absurd fits
bare_effect shape n p (acts.Swap c put None) heap fits b = put_bare n p (cell heap c) put heap b
bare_effect shape n p (acts.Swap c put (Some k)) heap fits b =
    bare_more n (suc n) (put_in (cell heap c) p put (taken_out (cell heap c) p (Some k) heap)) (omega arith) (put_bare n p (cell heap c) put (taken_out (cell heap c) p (Some k) heap) (becomes_bare n (cell heap c) (Hand p k) heap b))
bare_effect shape n p (acts.Look c) heap fits b = b
bare_effect shape n p (acts.Take s f k) heap fits b =
    bare_more n (suc n) (becomes (cell heap (cells.Field s f)) (Hand p k) heap) (omega arith) (becomes_bare n (cell heap (cells.Field s f)) (Hand p k) heap b)
bare_effect shape n p (acts.Finish s last) heap fits b = record { objects = first_bare n n (in_slot s) (finished p last) heap.objects (omega arith) (λ o bare. finished_bare n p last o bare) b.objects; claims = b.claims }
bare_effect shape n p (acts.Vacate s) heap fits b = record { objects = first_bare n n (in_slot s) (vacated p) heap.objects (omega arith) (λ o bare. vacated_bare n p o bare) b.objects; claims = b.claims }
bare_effect shape n p (acts.Gone e last) heap fits b = absurd fits

-- No object of the heap has an entry, none has more strong holders than references came, nor more unowned ones besides the one that stands for these, and no entry is claimed.
pub bare_after : (shape : HeapShape) (h : History) → EventsFit shape h → IsBareHeap (came_in h) (heap_after h)
bare_after shape [] fits = record { objects = tt; claims = refl }
bare_after shape (e ∷ h) fits = bare_effect shape (came_in h) e.thread e.act (heap_after h) fits.0 (bare_after shape h fits.1)
