-- What acts do to an index: a reference moves between a cell and a hand.
use Rattle.std.proofs.Common.{◌≡◌, ℕ, zero, suc, ◌+◌, ◌<◌, Bool, true, false, cond, eqb, List, [], ◌∷◌, length, Option, Some, None, refl, sym, ap, ◌∙◌, subst, arith}
use Rattle.std.specs.Prelude.{slice_get, ◌&&◌}
use Rattle.arc_model.specs.declared.shape.Kind.{Kind}
use Rattle.arc_model.specs.declared.shape.Kind.TheVariants.{Strong, Unowned, Weak}
use Rattle.arc_model.specs.Heaps.{Holder, Hand, Object, Heap}
use Rattle.arc_model.specs.Holders.{same_holder, same_id, is_hand_of, is_in, list_of, lists, renamed, holds, kind_in, change, at_first, in_slot as in_the_slot, at_slot, held_by, is_number}
use Rattle.arc_model.specs.Cells.{same_kind}
use Rattle.arc_model.specs.Effects.{becomes}
use Rattle.arc_model.specs.Lookup.{Spot, spot, spot_in, further}
use Rattle.arc_model.proofs.Tally.{renamed-absent}
use Rattle.arc_heap_index.specs.declared.counted.Place.{Place}
use Rattle.arc_heap_index.specs.declared.counted.Counted.{Counted}
use Rattle.arc_heap_index.specs.Counting.{placed, most}
use Rattle.arc_heap_judge.specs.Index.{Index}
use Rattle.arc_heap.specs.Moving.{reach_more, reach_less}
use Rattle.arc_heap_judge.specs.Stands.{IsCounted, hands_of, Tells, IsSized}
use Rattle.arc_heap_judge.proofs.Told.{LikeFound, counted_at}
use Rattle.arc_heap_judge.proofs.Finding.{placed_spot}
use Rattle.arc_heap.proofs.Holders.{hands-renamed, hands-length, length-renamed, hands-cons}
use Rattle.arc_heap.proofs.Tellings.{Reaches, Idles, tells-lists, reach-more-ok, reach-less-ok}

placed-id : {X : Type 0} (xs : List X) (i : ℕ) (x : X) → slice_get xs i ≡ Some x → placed i x xs ≡ xs
placed-id [] i x e = refl
placed-id (y ∷ ys) zero x e = let f : y ≡ x = cc in ap (λ z. z ∷ ys) (sym f)
placed-id (y ∷ ys) (suc i) x e = ap (λ zs. y ∷ zs) (placed-id ys i x e)

pub some-inj : {X : Type 0} {a b : X} → Some a ≡ Some b → a ≡ b
some-inj e = cc

-- the object where a holder stands
pub record StandsAt (z : Holder) (os : List Object) (s : Spot) : Type 0 where
  pub object : Object
  pub here : slice_get os s.place ≡ Some object
  pub holding : holds z object ≡ true
  pub kind : kind_in z object ≡ s.kind

pub stands_at : (z : Holder) (os : List Object) (s : Spot) → spot_in z os ≡ Some s → StandsAt z os s
stands_at z [] s e = absurd (cc)
stands_at z (x ∷ xs) s e = go (holds z x) refl e (spot_in z xs) refl (stands_at z xs)
  where
    go : (b : Bool) → holds z x ≡ b → cond b (Some (record { place = zero; kind = kind_in z x })) (further (spot_in z xs)) ≡ Some s → (m : Option Spot) → spot_in z xs ≡ m → ((t : Spot) → spot_in z xs ≡ Some t → StandsAt z xs t) → StandsAt z (x ∷ xs) s
    go true h e m is ih =
        let same : record { place = zero; kind = kind_in z x } ≡ s = some-inj e in
        record { object = x; here = ap (λ (t : Spot). slice_get (x ∷ xs) t.place) (sym same); holding = h; kind = ap (λ (t : Spot). t.kind) same }
    go false h e None is ih = let n : None ≡ Some s = sym (ap further is) ∙ e in absurd (cc)
    go false h e (Some t) is ih =
        let same : record { place = suc t.place; kind = t.kind } ≡ s = some-inj (sym (ap further is) ∙ e) in
        let g = ih t is in
        record { object = g.object; here = ap (λ (u : Spot). slice_get (x ∷ xs) u.place) (sym same) ∙ g.here; holding = g.holding; kind = g.kind ∙ ap (λ (u : Spot). u.kind) same }

strong-in : (z : Holder) (o : Object) (k : Kind) → kind_in z o ≡ k → is_in z o.strong ≡ same_kind k Strong
strong-in z o k e = go (is_in z o.strong) (is_in z o.unowned) e
  where
    go : (a b : Bool) → cond a Strong (cond b Unowned Weak) ≡ k → a ≡ same_kind k Strong
    go true b f = rw (← f) refl
    go false true f = rw (← f) refl
    go false false f = rw (← f) refl

-- one holder takes the place of another
renamed-count : (x y : Holder) (c : Counted) (o : Object) → IsCounted c o → IsCounted c (lists (renamed x y) o)
renamed-count x y c o l = record { id = l.id; class = l.class; slot = l.slot; entry = l.entry; owed = l.owed; strong = l.strong ∙ sym (length-renamed x y o.strong); unowned = l.unowned ∙ sym (length-renamed x y o.unowned); weak = l.weak ∙ sym (length-renamed x y o.weak); within = l.within }

no-more : (n : ℕ) → n ≡ n + 0
no-more n = omega arith

-- a hand of p takes the place of a holder that is no hand
comes-hands : (r p n : ℕ) (x : Holder) (k : Kind) (o : Object) → ((r : ℕ) → is_hand_of r x ≡ false) → kind_in x o ≡ k → hands_of r (renamed x (Hand p n) o.strong) ≡ hands_of r o.strong + cond (same_kind k Strong && eqb p r) 1 0
comes-hands r p n x k o un is = go (same_kind k Strong) (strong-in x o k is)
  where
    go : (b : Bool) → is_in x o.strong ≡ b → hands_of r (renamed x (Hand p n) o.strong) ≡ hands_of r o.strong + cond (b && eqb p r) 1 0
    go true e = no-more (hands_of r (renamed x (Hand p n) o.strong)) ∙ ap (λ b. hands_of r (renamed x (Hand p n) o.strong) + cond b 1 0) (sym (un r)) ∙ hands-renamed r x (Hand p n) o.strong e
    go false e = ap (hands_of r) (renamed-absent x (Hand p n) o.strong e) ∙ no-more (hands_of r o.strong)

goes-hands : (r p n : ℕ) (y : Holder) (k : Kind) (o : Object) → ((r : ℕ) → is_hand_of r y ≡ false) → kind_in (Hand p n) o ≡ k → hands_of r (renamed (Hand p n) y o.strong) + cond (same_kind k Strong && eqb p r) 1 0 ≡ hands_of r o.strong
goes-hands r p n y k o un is = go (same_kind k Strong) (strong-in (Hand p n) o k is)
  where
    go : (b : Bool) → is_in (Hand p n) o.strong ≡ b → hands_of r (renamed (Hand p n) y o.strong) + cond (b && eqb p r) 1 0 ≡ hands_of r o.strong
    go true e = hands-renamed r (Hand p n) y o.strong e ∙ ap (λ b. hands_of r o.strong + cond b 1 0) (un r) ∙ sym (no-more (hands_of r o.strong))
    go false e = sym (no-more (hands_of r (renamed (Hand p n) y o.strong))) ∙ ap (hands_of r) (renamed-absent (Hand p n) y o.strong e)

-- a list with a holder that is no hand has fewer hands than holders
fewer-hands : (p : ℕ) (x : Holder) (xs : List Holder) → is_hand_of p x ≡ false → is_in x xs ≡ true → hands_of p xs < length xs
fewer-hands p x xs un inside =
    let a = Rattle.arc_heap.proofs.Holders.hands-without p x xs inside in
    let b = Rattle.arc_heap.proofs.Holders.length-without x xs inside in
    let c = hands-length p (Rattle.arc_model.specs.Holders.without x xs) in
    let d : cond {A = ℕ} (is_hand_of p x) 1 0 ≡ 0 = ap (λ b. cond {A = ℕ} b 1 0) un in omega arith

-- the index after a hand came in a holder's place, and after a hand went
pub tells-comes : (ix : Index) (heap : Heap) → Tells ix heap → IsSized ix → (p n : ℕ) (x : Holder) (s : Spot) (c : Counted) → p < length ix.marks → ((i : ℕ) (o : Object) → slice_get heap.objects i ≡ Some o → (u : ℕ) → o.slot ≡ Some u → u < ix.shape.slots) → ((r : ℕ) → is_hand_of r x ≡ false) → spot x heap ≡ Some s → slice_get ix.objects s.place ≡ Some c → (hands cells : List (List (Option Place))) →
    Tells (record { shape = ix.shape; hands = hands; cells = cells; reach = reach_more p s.kind c.slot ix.reach; objects = ix.objects; marks = ix.marks; slots = ix.slots; entries = ix.entries }) (becomes x (Hand p n) heap)
tells-comes ix heap t z p n x s c within range un at in_index hands cells =
    subst (λ os. Tells (record { shape = ix.shape; hands = hands; cells = cells; reach = reach_more p s.kind c.slot ix.reach; objects = os; marks = ix.marks; slots = ix.slots; entries = ix.entries }) (becomes x (Hand p n) heap)) (placed-id ix.objects s.place c in_index)
    (tells-lists ix heap t s.place c c o (lists (renamed x (Hand p n)) o) like (renamed-count x (Hand p n) c o like.alike) refl refl refl hands cells (reach_more p s.kind c.slot ix.reach) (becomes x (Hand p n) heap) (placed_spot x (lists (renamed x (Hand p n))) heap.objects s o at d.here) refl reach.0 reach.1)
  where
    d : StandsAt x heap.objects s
    d = stands_at x heap.objects s at

    o : Object
    o = d.object

    found : (e : Counted) × LikeFound ix heap s.place e d.object
    found = counted_at ix heap t s.place d.object d.here

    like : LikeFound ix heap s.place c d.object
    like = let same : found.0 ≡ c = some-inj (sym found.1.in_index ∙ in_index) in subst (λ e. LikeFound ix heap s.place e d.object) same found.1

    room : (k : Kind) → kind_in x d.object ≡ k → same_kind k Strong ≡ true → hands_of p d.object.strong < most
    room k e f = let a = fewer-hands p x d.object.strong (un p) (strong-in x d.object k e ∙ f) in let b = like.alike.strong in let g = like.alike.within in omega arith

    reach : Reaches ix ix.slots (placed s.place (lists (renamed x (Hand p n)) d.object) heap.objects) (reach_more p s.kind c.slot ix.reach) × Idles ix ix.slots (reach_more p s.kind c.slot ix.reach)
    reach = reach-more-ok ix heap t z p s.kind s.place c d.object (lists (renamed x (Hand p n)) d.object) like within (range s.place d.object d.here) (λ r. comes-hands r p n x s.kind d.object un d.kind) (room s.kind d.kind)

pub tells-goes : (ix : Index) (heap : Heap) → Tells ix heap → IsSized ix → (p n : ℕ) (y : Holder) (s : Spot) (c : Counted) → p < length ix.marks → ((i : ℕ) (o : Object) → slice_get heap.objects i ≡ Some o → (u : ℕ) → o.slot ≡ Some u → u < ix.shape.slots) → ((r : ℕ) → is_hand_of r y ≡ false) → spot (Hand p n) heap ≡ Some s → slice_get ix.objects s.place ≡ Some c → (hands cells : List (List (Option Place))) →
    Tells (record { shape = ix.shape; hands = hands; cells = cells; reach = reach_less p s.kind c.slot ix.reach; objects = ix.objects; marks = ix.marks; slots = ix.slots; entries = ix.entries }) (becomes (Hand p n) y heap)
tells-goes ix heap t z p n y s c within range un at in_index hands cells =
    subst (λ os. Tells (record { shape = ix.shape; hands = hands; cells = cells; reach = reach_less p s.kind c.slot ix.reach; objects = os; marks = ix.marks; slots = ix.slots; entries = ix.entries }) (becomes (Hand p n) y heap)) (placed-id ix.objects s.place c in_index)
    (tells-lists ix heap t s.place c c o (lists (renamed (Hand p n) y) o) like (renamed-count (Hand p n) y c o like.alike) refl refl refl hands cells (reach_less p s.kind c.slot ix.reach) (becomes (Hand p n) y heap) (placed_spot (Hand p n) (lists (renamed (Hand p n) y)) heap.objects s o at d.here) refl reach.0 reach.1)
  where
    d : StandsAt (Hand p n) heap.objects s
    d = stands_at (Hand p n) heap.objects s at

    o : Object
    o = d.object

    found : (e : Counted) × LikeFound ix heap s.place e d.object
    found = counted_at ix heap t s.place d.object d.here

    like : LikeFound ix heap s.place c d.object
    like = let same : found.0 ≡ c = some-inj (sym found.1.in_index ∙ in_index) in subst (λ e. LikeFound ix heap s.place e d.object) same found.1

    reach : Reaches ix ix.slots (placed s.place (lists (renamed (Hand p n) y) d.object) heap.objects) (reach_less p s.kind c.slot ix.reach) × Idles ix ix.slots (reach_less p s.kind c.slot ix.reach)
    reach = reach-less-ok ix heap t z p s.kind s.place c d.object (lists (renamed (Hand p n) y) d.object) like within (range s.place d.object d.here) (λ r. goes-hands r p n y s.kind d.object un d.kind)
