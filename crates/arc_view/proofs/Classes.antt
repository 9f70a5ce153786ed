-- What events leave of the objects' names and classes, and of what cells refer to.
use Rattle.arc_model.specs.History.{sight}
use Rattle.arc_view.proofs.Within.{is_claim, within_after}
use Rattle.std.proofs.Common.{◌≡◌, ◌⊎◌, inl, inr, ℕ, zero, suc, ◌+◌, ◌<◌, ◌≤◌, ◌==◌, Bool, true, false, cond, List, [], ◌∷◌, ◌++◌, map, length, Option, Some, None, refl, sym, ap, ◌∙◌, subst, arith}
use Rattle.std.specs.Prelude.{slice_get, ◌&&◌, ◌^◌}
use Rattle.std.proofs.lemmas.List.Sums.{sum_by-cons}
use mathlib.Core.List.{map-append}
use Rattle.arc_model.specs.declared.event.Act.{Act}
use Rattle.arc_model.specs.declared.event.Act.TheVariants as acts
use Rattle.arc_model.specs.declared.event.Got.TheVariants as got
use Rattle.arc_model.specs.declared.event.CellName.TheVariants as cells
use Rattle.arc_model.specs.declared.event.Event.{Event}
use Rattle.arc_model.specs.declared.event.ObjectName.{ObjectName}
use Rattle.arc_model.specs.declared.event.ObjectId.{ObjectId}
use Rattle.arc_model.specs.declared.shape.Kind.{Kind}
use Rattle.arc_model.specs.declared.shape.Kind.TheVariants.{Strong, Unowned, Weak}
use Rattle.arc_model.specs.declared.shape.RefShape.{RefShape}
use Rattle.arc_model.specs.Shapes.{HeapShape, class_at}
use Rattle.arc_model.specs.Heaps.{Holder, Hand, Field, Global, Strongs, Unowneds, Object, Heap}
use Rattle.arc_model.specs.Holders.{at_first, same_holder, holds, in_slot, has_entry, held_by, lists, gains, with_list, with_last, without, renamed, change, made_by, kind_in}
use Rattle.arc_model.specs.Cells.{cell, origin, field_shape}
use Rattle.arc_model.specs.Effects.{effect, ended_if, given_up, entry_left, finished, vacated, left_slot, gone, claimed_if, owing_none, made}
use Rattle.arc_model.specs.History.{History, heap_after, is_of, IsLegal}
use Rattle.arc_model.specs.Lookup.{Spot, spot, is_cell}
use Rattle.arc_model.specs.CellLaws.{cell_next}
use Rattle.arc_model.specs.References.{name_of}
use Rattle.arc_model.proofs.Basics.{None≢Some, Some-inj, true≢false}
use Rattle.arc_model.proofs.Builds.{entry_to-objects}
use Rattle.arc_model.proofs.CellSpots.{cells_after}
use Rattle.arc_view.specs.Rule.{FitsCell, is_new, news, InShape}

-- the names of the objects, in the order in which they were made
abbrev pub names : List Object → List ObjectName
names os = map name_of os

names_change : (test : Object → Bool) (f : Object → Object) (os : List Object) → ((o : Object) → name_of (f o) ≡ name_of o) → names (at_first test f os) ≡ names os
names_change test f [] same = refl
names_change test f (o ∷ os) same = go (test o) (names_change test f os same)
  where
    go : (b : Bool) → names (at_first test f os) ≡ names os → names (cond b (f o ∷ os) (o ∷ at_first test f os)) ≡ name_of o ∷ names os
    go true ih = ap (λ n. n ∷ names os) (same o)
    go false ih = ap (λ ns. name_of o ∷ ns) ih

listed_name : (k : Kind) (f : List Holder → List Holder) (o : Object) → name_of (with_list k f o) ≡ name_of o
listed_name Strong f o = refl
listed_name Unowned f o = refl
listed_name Weak f o = refl

ended_name : (last : Bool) (p : ℕ) (k : Kind) (o : Object) → name_of (ended_if last p k o) ≡ name_of o
ended_name true p Strong o = refl
ended_name true p Unowned o = refl
ended_name true p Weak o = refl
ended_name false p k o = refl

left_name : (p : ℕ) (m : Option ℕ) (o : Object) → name_of (left_slot p m o) ≡ name_of o
left_name p None o = refl
left_name p (Some e) o = refl

claimed_if-objects : (last : Bool) (p e : ℕ) (heap : Heap) → (claimed_if last p e heap).objects ≡ heap.objects
claimed_if-objects true p e heap = refl
claimed_if-objects false p e heap = refl

renamed_names : (x y : Holder) (os : List Object) → names (at_first (holds x) (lists (renamed x y)) os) ≡ names os
renamed_names x y os = names_change (holds x) (lists (renamed x y)) os (λ o. refl)

-- only `new` makes an object, and no event changes a name
pub names_stay : (p : ℕ) (act : Act) (heap : Heap) → is_new act ≡ false → names (effect p act heap).objects ≡ names heap.objects
names_stay p (acts.New k c s) heap e = absurd (true≢false e)
names_stay p acts.Full heap e = refl
names_stay p (acts.Copy from k) heap e = names_change (holds (origin heap p from)) (lists (gains (origin heap p from) (Hand p k))) heap.objects (λ o. refl)
names_stay p (acts.UnownedOf h k) heap e = names_change (holds (Hand p h)) (with_list Unowned (with_last (Hand p k))) heap.objects (λ o. refl)
names_stay p (acts.WeakOf h k) heap e = names_change (holds (Hand p h)) (with_list Weak (with_last (Hand p k))) heap.objects (λ o. refl)
names_stay p (acts.Load h (got.Hand k)) heap e = names_change (holds (Hand p h)) (with_list Strong (with_last (Hand p k))) heap.objects (λ o. refl)
names_stay p (acts.Load h got.Dead) heap e = refl
names_stay p (acts.Load h got.Nil) heap e = refl
names_stay p (acts.Drop h last) heap e =
    ap names (entry_to-objects p (entry_left (Hand p h) last (held_by (Hand p h) heap)) (change (holds (Hand p h)) (given_up p (Hand p h) last) heap))
    ∙ names_change (holds (Hand p h)) (given_up p (Hand p h) last) heap.objects (λ o. ended_name last p (kind_in (Hand p h) o) (with_list (kind_in (Hand p h) o) (without (Hand p h)) o) ∙ listed_name (kind_in (Hand p h) o) (without (Hand p h)) o)
names_stay p (acts.CountFull k from) heap e = refl
names_stay p (acts.Claim n) heap e = refl
names_stay p acts.NoEntry heap e = refl
names_stay p (acts.Side s n why) heap e = names_change (in_slot s) (λ o. record o { entry = Some n }) heap.objects (λ o. refl)
names_stay p (acts.Back n) heap e = refl
names_stay p (acts.Swap c None None) heap e = refl
names_stay p (acts.Swap c None (Some k)) heap e = renamed_names (cell heap c) (Hand p k) heap.objects
names_stay p (acts.Swap c (Some h) None) heap e = renamed_names (Hand p h) (cell heap c) heap.objects
names_stay p (acts.Swap c (Some h) (Some k)) heap e =
    renamed_names (Hand p h) (cell heap c) (at_first (holds (cell heap c)) (lists (renamed (cell heap c) (Hand p k))) heap.objects) ∙ renamed_names (cell heap c) (Hand p k) heap.objects
names_stay p (acts.Look c) heap e = refl
names_stay p (acts.Take s f k) heap e = renamed_names (cell heap (cells.Field s f)) (Hand p k) heap.objects
names_stay p (acts.Finish s last) heap e = names_change (in_slot s) (finished p last) heap.objects (λ o. ended_name last p Unowned (owing_none (with_list Unowned (without Strongs) o)))
names_stay p (acts.Vacate s) heap e = names_change (in_slot s) (vacated p) heap.objects (λ o. left_name p o.entry (owing_none (record o { slot = None })))
names_stay p (acts.Gone n last) heap e =
    ap names (claimed_if-objects last p n (change (has_entry n) (gone p last) heap))
    ∙ names_change (has_entry n) (gone p last) heap.objects (λ o. ended_name last p Weak (owing_none (with_list Weak (without Unowneds) o)))

name_at : (os : List Object) (i : ℕ) (o : Object) → slice_get os i ≡ Some o → slice_get (names os) i ≡ Some (name_of o)
name_at [] i o e = absurd (None≢Some o e)
name_at (r ∷ os) zero o e = ap (λ q. Some (name_of q)) (Some-inj e)
name_at (r ∷ os) (suc i) o e = name_at os i o e

at_name : (os : List Object) (i : ℕ) (n : ObjectName) → slice_get (names os) i ≡ Some n → (o : Object) × (slice_get os i ≡ Some o) × (name_of o ≡ n)
at_name [] i n e = absurd (None≢Some n e)
at_name (r ∷ os) zero n e = (r, refl, Some-inj e)
at_name (r ∷ os) (suc i) n e = at_name os i n e

-- where the names are the same, an object at a place has one of the same name there
pub same_named : (old new : List Object) → names new ≡ names old → (i : ℕ) (o : Object) → slice_get new i ≡ Some o → (r : Object) × (slice_get old i ≡ Some r) × (name_of r ≡ name_of o)
same_named old new same i o e = at_name old i (name_of o) (ap (λ ns. slice_get ns i) (sym same) ∙ name_at new i o e)

pub fits_cell : (old new : Heap) → names new.objects ≡ names old.objects → (at : Option Spot) (named : Option RefShape) → FitsCell old at named → FitsCell new at named
fits_cell old new same None named f = tt
fits_cell old new same (Some at) named (o, r, here, is, class) = let q = same_named new.objects old.objects (sym same) at.place o here in
    (q.0, r, q.1, is, ap (λ (n : ObjectName). n.class) q.2 ∙ class)

-- what a cell refers to is of its class, or the cell is nil
either_fits : (old new : Heap) → names new.objects ≡ names old.objects → (was is : Option Spot) (named : Option RefShape) → (is ≡ was) ⊎ (is ≡ None) → FitsCell old was named → FitsCell new is named
either_fits old new same was is named (inl e) f = fits_cell old new same is named (subst (λ s. FitsCell old s named) (sym e) f)
either_fits old new same was is named (inr e) f = subst (λ s. FitsCell new s named) (sym e) tt

abbrev pub is_swap : Act → Bool
is_swap (acts.Swap c h k) = true
is_swap _ = false

pub cell_after : (p : ℕ) (act : Act) (z : Holder) (heap : Heap) → is_swap act ≡ false → (cell_next p act z heap ≡ spot z heap) ⊎ (cell_next p act z heap ≡ None)
cell_after p (acts.Swap c h k) z heap e = absurd (true≢false e)
cell_after p (acts.Take s f k) z heap e = go (same_holder z (cell heap (cells.Field s f)))
  where
    go : (b : Bool) → (cond b None (spot z heap) ≡ spot z heap) ⊎ (cond b None (spot z heap) ≡ None)
    go true = inr refl
    go false = inl refl
cell_after p _ z heap e = inl refl

pub field_named : (shape : HeapShape) (f : ℕ) (r o : Object) → name_of r ≡ name_of o → field_shape shape f (Some r) ≡ field_shape shape f (Some o)
field_named shape f r o e = ap (λ (n : ObjectName). slice_get (class_at shape n.class).fields f) e

pub id_named : (r o : Object) → name_of r ≡ name_of o → r.id ≡ o.id
id_named r o e = ap (λ (n : ObjectName). record { thread = n.thread; number = n.number }) e

none_new : (b : Bool) (n : ℕ) → cond (b && false) 1 0 + n ≡ n
none_new true n = omega arith
none_new false n = omega arith

pub news_none : (p : ℕ) (e : Event) (h : History) → is_new e.act ≡ false → news p (e ∷ h) ≡ news p h
news_none p e h none = sum_by-cons (λ (v : Event). cond (is_of p v && is_new v.act) 1 0) e h ∙ (ap (λ b. cond (is_of p e && b) 1 0 + news p h) none ∙ none_new (is_of p e) (news p h))

-- A legal event other than a `new`, a `swap` or a `claim` keeps all of this.
pub in_shape_stays : (shape : HeapShape) (e : Event) (h : History) → IsLegal shape (e ∷ h) → is_new e.act ≡ false → is_swap e.act ≡ false → is_claim e.act ≡ false → InShape shape h → InShape shape (e ∷ h)
in_shape_stays shape e h legal none still no_claim f = record {
  within = (within_after shape (sight e.thread h) e.thread e.act none no_claim legal.0 (f.within, f.claims)).0;
  claims = (within_after shape (sight e.thread h) e.thread e.act none no_claim legal.0 (f.within, f.claims)).1;
  classes = λ i o here. let r = same_named old.objects new.objects same i o here in let c = f.classes i r.0 r.1 in
      (subst (λ n. n < length shape.classes) (ap (λ (n : ObjectName). n.class) r.2) c.0, subst (λ n. n < 2 ^ 32) (ap (λ (n : ObjectName). n.number) r.2) c.1);
  fields = λ i o g here. let r = same_named old.objects new.objects same i o here in
      subst (λ (t : ObjectId × Option RefShape). FitsCell new (spot (Field t.0 g) new) t.1) (λ n. (id_named r.0 o r.2 n, field_named shape g r.0 o r.2 n))
      (moves (Field r.0.id g) (field_shape shape g (Some r.0)) refl (f.fields i r.0 g r.1));
  globals = λ g. moves (Global g) (slice_get shape.globals g) refl (f.globals g);
  makers = λ p lt. news_none p e h none ∙ f.makers p lt;
  made = λ p. subst (λ n. n ≤ 100000) (sym (news_none p e h none)) (f.made p);
}
  where
    old : Heap
    old = heap_after h

    new : Heap
    new = heap_after (e ∷ h)

    same : names (effect e.thread e.act (heap_after h)).objects ≡ names (heap_after h).objects
    same = names_stay e.thread e.act (heap_after h) none

    moves : (z : Holder) (named : Option RefShape) → is_cell z ≡ true → FitsCell (heap_after h) (spot z (heap_after h)) named → FitsCell (heap_after (e ∷ h)) (spot z (heap_after (e ∷ h))) named
    moves z named c g = subst (λ s. FitsCell (heap_after (e ∷ h)) s named) (sym (cells_after shape h e z legal c)) (either_fits (heap_after h) (heap_after (e ∷ h)) same (spot z (heap_after h)) (cell_next e.thread e.act z (heap_after h)) named (cell_after e.thread e.act z (heap_after h) still) g)

abbrev one_if : Bool → ℕ
one_if b = cond b 1 0

-- how many of the names are of objects that p made
abbrev pub named_by : ℕ → List ObjectName → ℕ
named_by p [] = 0
named_by p (n ∷ ns) = cond (n.thread == p) 1 0 + named_by p ns

named_last : (p : ℕ) (ns : List ObjectName) (n : ObjectName) → named_by p (ns ++ n ∷ []) ≡ cond (n.thread == p) 1 0 + named_by p ns
named_last p [] n = refl
named_last p (m ∷ ns) n = let ih = named_last p ns n in omega (arith, ih)

pub made_named : (p : ℕ) (os : List Object) → made_by p os ≡ named_by p (names os)
made_named p [] = refl
made_named p (o ∷ os) = sum_by-cons (λ (q : Object). cond (q.id.thread == p) 1 0) o os ∙ ap (λ n. cond (o.id.thread == p) 1 0 + n) (made_named p os)

pub news_of : (p : ℕ) (e : Event) (h : History) → news p (e ∷ h) ≡ cond (is_of p e && is_new e.act) 1 0 + news p h
news_of p e h = sum_by-cons (λ (v : Event). cond (is_of p v && is_new v.act) 1 0) e h

-- as many as `new` events of p
pub news_named : (p : ℕ) (h : History) → named_by p (names (heap_after h).objects) ≡ news p h
news_named p [] = refl
news_named p (e ∷ h) = step e.act (news_named p h) ∙ sym (news_of p e h)
  where
    and_true : (b : Bool) → one_if b ≡ one_if (b && true)
    and_true true = refl
    and_true false = refl

    quiet : (a : Act) → is_new a ≡ false → named_by p (names (heap_after h).objects) ≡ news p h → named_by p (names (effect e.thread a (heap_after h)).objects) ≡ cond (is_of p e && is_new a) 1 0 + news p h
    quiet a none ih = ap (named_by p) (names_stay e.thread a (heap_after h) none) ∙ (ih ∙ sym (ap (λ b. cond (is_of p e && b) 1 0 + news p h) none ∙ none_new (is_of p e) (news p h)))

    step : (a : Act) → named_by p (names (heap_after h).objects) ≡ news p h → named_by p (names (effect e.thread a (heap_after h)).objects) ≡ cond (is_of p e && is_new a) 1 0 + news p h
    step (acts.New k c s) ih =
        ap (named_by p) (map-append name_of (heap_after h).objects (made e.thread k c s (heap_after h).objects ∷ []))
        ∙ (named_last p (names (heap_after h).objects) (name_of (made e.thread k c s (heap_after h).objects))
        ∙ (ap (λ n. cond (e.thread == p) 1 0 + n) ih ∙ ap (λ n. n + news p h) (and_true (e.thread == p))))
    step acts.Full ih = quiet acts.Full refl ih
    step (acts.Copy from k) ih = quiet (acts.Copy from k) refl ih
    step (acts.UnownedOf a k) ih = quiet (acts.UnownedOf a k) refl ih
    step (acts.WeakOf a k) ih = quiet (acts.WeakOf a k) refl ih
    step (acts.Load a g) ih = quiet (acts.Load a g) refl ih
    step (acts.Drop a last) ih = quiet (acts.Drop a last) refl ih
    step (acts.CountFull k from) ih = quiet (acts.CountFull k from) refl ih
    step (acts.Claim n) ih = quiet (acts.Claim n) refl ih
    step acts.NoEntry ih = quiet acts.NoEntry refl ih
    step (acts.Side s n why) ih = quiet (acts.Side s n why) refl ih
    step (acts.Back n) ih = quiet (acts.Back n) refl ih
    step (acts.Swap c a k) ih = quiet (acts.Swap c a k) refl ih
    step (acts.Look c) ih = quiet (acts.Look c) refl ih
    step (acts.Take s f k) ih = quiet (acts.Take s f k) refl ih
    step (acts.Finish s last) ih = quiet (acts.Finish s last) refl ih
    step (acts.Vacate s) ih = quiet (acts.Vacate s) refl ih
    step (acts.Gone n last) ih = quiet (acts.Gone n last) refl ih
