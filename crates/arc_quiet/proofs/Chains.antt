-- In a quiet heap a live object is held by a strong field of a live object, and classes in order bound such a chain.
use Rattle.std.proofs.Common.{◌≡◌, ℕ, zero, suc, ◌<◌, Bool, true, false, cond, List, [], ◌∷◌, Option, Some, None, refl, sym, ap, ◌∙◌, arith}
use Rattle.std.specs.Prelude.{◌||◌, ◌++◌, is_some, slice_get}
use Rattle.std.proofs.lemmas.Bool.{eq-eqb}
use Rattle.arc_model.specs.declared.event.Life.TheVariants.{Dead}
use Rattle.arc_model.specs.declared.shape.Kind.{Kind}
use Rattle.arc_model.specs.declared.shape.Kind.TheVariants.{Strong, Unowned, Weak}
use Rattle.arc_model.specs.declared.shape.RefShape.{RefShape}
use Rattle.arc_model.specs.Shapes.{HeapShape}
use Rattle.arc_model.specs.Heaps.{Holder, Hand, Field, Global, Strongs, Unowneds, Forever, Duty, Deinit, Vacating, Gone, Owed, Object, Heap}
use Rattle.arc_model.specs.Holders.{is_in, is_empty, held_by, list_of, is_duty}
use Rattle.arc_model.specs.Cells.{is_nil, is_live, is_immortal, forever_if, strong_holders, is_kind, same_kind, field_shape}
use Rattle.arc_model.specs.Life.{life_of}
use Rattle.arc_model.specs.History.{History, heap_after, IsLegal}
use Rattle.arc_model.specs.WellFormed.{tally, is_own, keeps_fields, IsWhole, live, deiniting, deinited, vacating, going, freed, dead}
use Rattle.arc_model.specs.Lookup.{Spot, spot, owed_by, duty_in}
use Rattle.arc_model.proofs.Basics.{None≢Some, true≢false, opposite}
use Rattle.arc_model.proofs.Tally.{no, in-tally, same-refl}
use Rattle.arc_model.proofs.Courses.{well_formed}
use Rattle.arc_model.proofs.CellKinds.{cell_kinds_after}
use Rattle.arc_model.proofs.Others.{lookup_after, spot-find, spot-held}
use Rattle.arc_quiet.specs.Quiet.{IsQuietHeap, LiveIsHeld}
use Rattle.arc_quiet.specs.OneWay.{NoClassIsImmortal, StrongFieldsLeadOneWay, CellsKeepClasses, QuietIsDead}

-- no duty of any thread
pub no-duty : (heap : Heap) → IsQuietHeap heap → (i : ℕ) (o : Object) → slice_get heap.objects i ≡ Some o → o.owed ≡ None
no-duty heap quiet i o here = go o.owed refl
  where
    go : (m : Option Owed) → o.owed ≡ m → m ≡ None
    go None e = refl
    go (Some d) e =
        let is : owed_by d.thread (Some d) ≡ Some d.duty = ap (λ b. cond b (Some d.duty) None) (eq-eqb d.thread d.thread refl) in
        let none : owed_by d.thread o.owed ≡ None = ap (λ m. duty_in d.thread m) (sym here) ∙ (quiet.threads d.thread).duties i in
        absurd (None≢Some d.duty (sym none ∙ ap (owed_by d.thread) e ∙ is))

-- a global that is nil is nowhere
nil-nowhere : (x : Holder) (heap : Heap) (s : Spot) → is_nil heap x ≡ true → spot x heap ≡ Some s → ⊥
nil-nowhere x heap s nil at = true≢false (ap is_some (sym at) ∙ spot-find x heap.objects ∙ opposite (is_some (held_by x heap)) nil)

-- where a live object's fields may be
live-owner : (shape : HeapShape) (o : Object) → o.owed ≡ None → keeps_fields shape o ≡ true → is_live shape o ≡ true
live-owner shape o none keeps = go (is_live shape o) (ap (λ m. is_live shape o || is_duty Deinit m) (sym none) ∙ keeps)
  where
    go : (b : Bool) → (b || false) ≡ true → b ≡ true
    go true h = refl
    go false h = h

-- a holder that stands in a list of an object is a field of a live object, or one of the two extra ones
pub record Owner (shape : HeapShape) (heap : Heap) (x : Holder) : Type 0 where
  pub place : ℕ
  pub owner : Object
  pub field : ℕ
  pub here : slice_get heap.objects place ≡ Some owner
  pub live : is_live shape owner ≡ true
  pub is : x ≡ Field owner.id field

pub owner-of : (shape : HeapShape) (h : History) → IsLegal shape h → IsQuietHeap (heap_after h) → (x : Holder) (s : Spot) → is_own x ≡ true → spot x (heap_after h) ≡ Some s → Owner shape (heap_after h) x
owner-of shape h legal quiet (Hand p k) s own at = absurd (None≢Some s (sym ((quiet.threads p).hands k) ∙ at))
owner-of shape h legal quiet (Global g) s own at = absurd (nil-nowhere (Global g) (heap_after h) s (quiet.globals g) at)
owner-of shape h legal quiet Strongs s own at = no own
owner-of shape h legal quiet Unowneds s own at = no own
owner-of shape h legal quiet Forever s own at = no own
owner-of shape h legal quiet (Field id f) s own at =
    let has = (well_formed shape h legal).owned id f (spot-held (Field id f) (heap_after h) (ap is_some at)) in record {
      place = has.place;
      owner = has.object;
      field = f;
      here = has.here;
      live = live-owner shape has.object (no-duty (heap_after h) quiet has.place has.object has.here) has.passing;
      is = ap (λ n. Field n f) (sym has.named);
    }

first-in : (x : Holder) (xs : List Holder) → is_in x (x ∷ xs) ≡ true
first-in x xs = ap (λ b. b || is_in x xs) (same-refl x)

-- the first holder of a list that isn't empty
pub record First (xs : List Holder) : Type 0 where
  pub holder : Holder
  pub inside : is_in holder xs ≡ true

pub first : (xs : List Holder) → is_empty xs ≡ false → First xs
first [] e = absurd (true≢false e)
first (x ∷ xs) e = record { holder = x; inside = first-in x xs }

-- none of the extra holders
pub own-unless : (x : Holder) (xs : List Holder) → is_in x xs ≡ true → tally Strongs xs ≡ 0 → tally Unowneds xs ≡ 0 → tally Forever xs ≡ 0 → is_own x ≡ true
own-unless (Hand p k) xs i a b f = refl
own-unless (Field id g) xs i a b f = refl
own-unless (Global g) xs i a b f = refl
own-unless Strongs xs i a b f = let c = in-tally Strongs xs i in absurd (omega arith)
own-unless Unowneds xs i a b f = let c = in-tally Unowneds xs i in absurd (omega arith)
own-unless Forever xs i a b f = let c = in-tally Forever xs i in absurd (omega arith)

-- the strong holders of an object that isn't immortal are those in its list
pub mortal-strong : (shape : HeapShape) (o : Object) → is_immortal shape o ≡ false → is_empty (strong_holders shape o) ≡ is_empty o.strong
mortal-strong shape o mortal = ap (λ b. is_empty (o.strong ++ forever_if b)) mortal ∙ go o.strong
  where
    go : (xs : List Holder) → is_empty (xs ++ []) ≡ is_empty xs
    go [] = refl
    go (x ∷ xs) = refl

pub live_is_held : LiveIsHeld
live_is_held shape h i o legal quiet here alive mortal =
    let f = first o.strong (sym (mortal-strong shape o mortal) ∙ opposite (is_empty (strong_holders shape o)) alive) in
    let strays = (well_formed shape h legal).none_strays i o here in
    let own = own-unless f.holder o.strong f.inside (omega arith) (omega arith) (omega arith) in
    let at = (lookup_after shape h f.holder legal own).only i o Strong here f.inside in
    let w = owner-of shape h legal quiet f.holder (record { place = i; kind = Strong }) own at in record {
      place = w.place;
      owner = w.owner;
      field = w.field;
      here = w.here;
      live = w.live;
      strong = (cell_kinds_after shape h legal).fields w.place w.owner w.field (record { place = i; kind = Strong }) w.here (ap (λ x. spot x (heap_after h)) (sym w.is) ∙ at);
      holds = ap (λ x. is_in x o.strong) (sym w.is) ∙ f.inside;
    }

-- the shape of a strong field
strong-field : (m : Option RefShape) → is_kind Strong m ≡ true → (r : RefShape) × (m ≡ Some r) × (r.kind ≡ Strong)
strong-field None e = no e
strong-field (Some r) e = (r, refl, go r.kind e)
  where
    go : (k : Kind) → same_kind k Strong ≡ true → k ≡ Strong
    go Strong e = refl
    go Unowned e = no e
    go Weak e = no e

-- no object of a class below n is live
none-live : (shape : HeapShape) (h : History) → IsLegal shape h → NoClassIsImmortal shape → StrongFieldsLeadOneWay shape → CellsKeepClasses shape (heap_after h) → IsQuietHeap (heap_after h) →
    (n i : ℕ) (o : Object) → slice_get (heap_after h).objects i ≡ Some o → o.class < n → is_live shape o ≡ true → ⊥
none-live shape h legal mortal ways classes quiet zero i o here below alive = omega (arith, below)
none-live shape h legal mortal ways classes quiet (suc n) i o here below alive =
    let w = live_is_held shape h i o legal quiet here alive (mortal o.class) in
    let r = strong-field (field_shape shape w.field (Some w.owner)) w.strong in
    let at = (lookup_after shape h (Field w.owner.id w.field) legal refl).only i o Strong here w.holds in
    let same = classes.fields w.place w.owner w.field r.0 (record { place = i; kind = Strong }) o w.here r.1 at here in
    let less = ways w.owner.class w.field r.0 r.1 r.2 in
    none-live shape h legal mortal ways classes quiet n w.place w.owner w.here (omega arith) w.live

pub quiet_is_dead : QuietIsDead
quiet_is_dead shape h legal mortal ways classes quiet i o here = go ((well_formed shape h legal).whole i o here)
  where
    owes : o.owed ≡ None
    owes = no-duty (heap_after h) quiet i o here

    owing : {A : Type 0} (d : Duty) → is_duty d o.owed ≡ true → A
    owing d e = no (ap (is_duty d) (sym owes) ∙ e)

    -- each holder is a field of a live object, and there is none
    unheld : {A : Type 0} (k : Kind) → is_empty (list_of k o) ≡ false → tally Strongs (list_of k o) ≡ 0 → tally Unowneds (list_of k o) ≡ 0 → tally Forever (list_of k o) ≡ 0 → A
    unheld k some a b c =
        let f = first (list_of k o) some in
        let own = own-unless f.holder (list_of k o) f.inside a b c in
        let at = (lookup_after shape h f.holder legal own).only i o k here f.inside in
        let w = owner-of shape h legal quiet f.holder (record { place = i; kind = k }) own at in
        absurd (none-live shape h legal mortal ways classes quiet (suc w.owner.class) w.place w.owner w.here (omega arith) w.live)

    is-dead : (u w : List Holder) → o.unowned ≡ u → o.weak ≡ w → is_empty (strong_holders shape o) ≡ true → is_empty u ≡ true → is_empty w ≡ true → life_of shape o ≡ Dead
    is-dead [] [] eu ew a b c = rw (a, eu, ew) refl
    is-dead (x ∷ u) w eu ew a b c = absurd (true≢false (sym b))
    is-dead [] (x ∷ w) eu ew a b c = absurd (true≢false (sym c))

    go : IsWhole shape o → life_of shape o ≡ Dead
    go (live s d l a b p) = let strays = (well_formed shape h legal).none_strays i o here in unheld Strong (sym (mortal-strong shape o (mortal o.class)) ∙ s) (omega arith) (omega arith) (omega arith)
    go (deiniting s d l a b p) = owing Deinit d
    go (deinited s d l a u b p) = let strays = (well_formed shape h legal).none_strays i o here in unheld Unowned u a (omega arith) (omega arith)
    go (vacating s d l u b p) = owing Vacating d
    go (going s d l u b e) = owing Gone d
    go (freed s d l u b w e) = let strays = (well_formed shape h legal).none_strays i o here in unheld Weak w (omega arith) b (omega arith)
    go (dead s d l u w e) = is-dead o.unowned o.weak refl refl s u w
