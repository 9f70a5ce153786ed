-- A cell stands in a list of its kind.
use Rattle.std.proofs.Common.{◌≡◌, ℕ, zero, Bool, true, false, cond, eqb, List, [], ◌∷◌, Option, Some, None, refl, sym, ap, ◌∙◌}
use Rattle.std.specs.Prelude.{find, slice_get, is_some}
use Rattle.std.proofs.lemmas.Bool.{and_parts, eqb-true}
use Rattle.arc_model.specs.declared.event.Act.{Act}
use Rattle.arc_model.specs.declared.event.Act.TheVariants as acts
use Rattle.arc_model.specs.declared.event.CellName.{CellName}
use Rattle.arc_model.specs.declared.event.CellName.TheVariants as cells
use Rattle.arc_model.specs.declared.event.Event.{Event}
use Rattle.arc_model.specs.Shapes.{HeapShape, class_at}
use Rattle.arc_model.specs.Heaps.{Holder, Hand, Field, Global, Object, Heap}
use Rattle.arc_model.specs.Holders.{at_first, at_slot, held_by, holds, in_slot, kind_in, same_holder, same_id}
use Rattle.arc_model.specs.Cells.{cell, cell_shape, field_shape, id_of, is_kind}
use Rattle.arc_model.specs.Needs.{Sight, first_failing, needs, puts, reachable}
use Rattle.arc_model.specs.History.{History, heap_after, next_hand, sight, IsLegal}
use Rattle.arc_model.specs.Lookup.{Spot, further, spot_in, spot, is_cell, hand_spot}
use Rattle.arc_model.specs.CellLaws.{cell_next, CellKinds, CellKindsAfter}
use Rattle.arc_model.proofs.Basics.{None≢Some, Some-inj, AreMet, met, met-split, at_found}
use Rattle.arc_model.proofs.Tally.{no, same-id}
use Rattle.arc_model.proofs.Turns.{place-put, put-found}
use Rattle.arc_model.proofs.Builds.{some-is}
use Rattle.arc_model.proofs.Courses.{well_formed}
use Rattle.arc_model.proofs.Steps.{step_after}
use Rattle.arc_model.proofs.Others.{spot-held}
use Rattle.arc_model.proofs.Fields.{names-once, one-name}
use Rattle.arc_model.proofs.CellSpots.{cells_after}

-- what stands at a spot
spot-kind : (z : Holder) (os : List Object) (s : Spot) → spot_in z os ≡ Some s → (o : Object) × (find (holds z) os ≡ Some o) × (kind_in z o ≡ s.kind)
spot-kind z [] s h = absurd (None≢Some s h)
spot-kind z (r ∷ os) s h = go (holds z r) h (spot_in z os) refl (spot-kind z os)
  where
    go : (b : Bool) → cond b (Some (record { place = zero; kind = kind_in z r })) (further (spot_in z os)) ≡ Some s → (m : Option Spot) → spot_in z os ≡ m → ((t : Spot) → spot_in z os ≡ Some t → (o : Object) × (find (holds z) os ≡ Some o) × (kind_in z o ≡ t.kind)) → (o : Object) × (cond b (Some r) (find (holds z) os) ≡ Some o) × (kind_in z o ≡ s.kind)
    go true h m is ih = (r, refl, ap (λ (t : Spot). t.kind) (Some-inj h))
    go false h None is ih = absurd (None≢Some s (sym (ap further is) ∙ h))
    go false h (Some t) is ih = let g = ih t is in (g.0, g.1, g.2 ∙ ap (λ (u : Spot). u.kind) (Some-inj (sym (ap further is) ∙ h)))

-- the hand that a swap puts in is of the cell's kind
put-kind : (shape : HeapShape) (heap : Heap) (p : ℕ) (c : CellName) (h : Option ℕ) (s : Spot) → (puts shape heap p c h).0 ≡ true → hand_spot p h heap ≡ Some s → is_kind s.kind (cell_shape shape heap c) ≡ true
put-kind shape heap p c None s ok h = absurd (None≢Some s h)
put-kind shape heap p c (Some n) s ok h =
    let g = spot-kind (Hand p n) heap.objects s h in
    ap (λ k. is_kind k (cell_shape shape heap c)) (sym g.2) ∙ at_found (λ o. is_kind (kind_in (Hand p n) o) (cell_shape shape heap c)) (held_by (Hand p n) heap) g.0 g.1 ok

-- the cell is one of an object that is there, or a global
abbrev IsThere : CellName → Heap → Type 0
IsThere (cells.Field s f) heap = is_some (at_slot s heap) ≡ true
IsThere (cells.Global g) heap = Unit {0}

-- where z stands after an event, it stood before, or it is the cell of a swap
data From (shape : HeapShape) (heap : Heap) (z : Holder) (s : Spot) : Type 0 where
  stood : spot z heap ≡ Some s → From shape heap z s
  put : (c : CellName) → same_holder z (cell heap c) ≡ true → IsThere c heap → is_kind s.kind (cell_shape shape heap c) ≡ true → From shape heap z s

from-step : (shape : HeapShape) (sight : Sight) (p : ℕ) (act : Act) (z : Holder) (s : Spot) → first_failing (needs shape sight p act) ≡ None → cell_next p act z sight.heap ≡ Some s → From shape sight.heap z s
from-step shape sight p (acts.Swap c h k) z s ok is = go (same_holder z (cell sight.heap c)) refl is
  where
    there : (c : CellName) → AreMet (reachable shape sight.heap p c) → IsThere c sight.heap
    there (cells.Field t f) m = m.0
    there (cells.Global g) m = tt

    go : (b : Bool) → same_holder z (cell sight.heap c) ≡ b → cond b (hand_spot p h sight.heap) (spot z sight.heap) ≡ Some s → From shape sight.heap z s
    go true e is =
        let m = met-split (reachable shape sight.heap p c) _ (met (needs shape sight p (acts.Swap c h k)) ok) in
        put c e (there c m.0) (put-kind shape sight.heap p c h s m.1.0 is)
    go false e is = stood is
from-step shape sight p (acts.Take t f k) z s ok is = go (same_holder z (cell sight.heap (cells.Field t f))) is
  where
    go : (b : Bool) → cond b None (spot z sight.heap) ≡ Some s → From shape sight.heap z s
    go true is = absurd (None≢Some s is)
    go false is = stood is
from-step shape sight p (acts.New k c t) z s ok is = stood is
from-step shape sight p acts.Full z s ok is = stood is
from-step shape sight p (acts.Copy from k) z s ok is = stood is
from-step shape sight p (acts.UnownedOf h k) z s ok is = stood is
from-step shape sight p (acts.WeakOf h k) z s ok is = stood is
from-step shape sight p (acts.Load h g) z s ok is = stood is
from-step shape sight p (acts.Drop h last) z s ok is = stood is
from-step shape sight p (acts.CountFull k from) z s ok is = stood is
from-step shape sight p (acts.Claim e) z s ok is = stood is
from-step shape sight p acts.NoEntry z s ok is = stood is
from-step shape sight p (acts.Side t e why) z s ok is = stood is
from-step shape sight p (acts.Back e) z s ok is = stood is
from-step shape sight p (acts.Look c) z s ok is = stood is
from-step shape sight p (acts.Finish t last) z s ok is = stood is
from-step shape sight p (acts.Vacate t) z s ok is = stood is
from-step shape sight p (acts.Gone e last) z s ok is = stood is

came-from : (shape : HeapShape) (e : Event) (h : History) (z : Holder) (s : Spot) → IsLegal shape (e ∷ h) → is_cell z ≡ true → spot z (heap_after (e ∷ h)) ≡ Some s → From shape (heap_after h) z s
came-from shape e h z s legal is at = from-step shape (sight e.thread h) e.thread e.act z s legal.0 (sym (cells_after shape h e z legal is) ∙ at)

-- a field of an object that was there before
field-of : (shape : HeapShape) (e : Event) (h : History) → IsLegal shape (e ∷ h) → (j : ℕ) (r : Object) → slice_get (heap_after h).objects j ≡ Some r → (i : ℕ) (o : Object) → slice_get (heap_after (e ∷ h)).objects i ≡ Some o → r.id ≡ o.id → (f : ℕ) → field_shape shape f (Some r) ≡ field_shape shape f (Some o)
field-of shape e h legal j r before i o after same f =
    let s = step_after shape e h legal j r before in
    let one = one-name o.id (heap_after (e ∷ h)).objects j i s.q o (names-once (λ q. next_hand q (e ∷ h)) (heap_after (e ∷ h)) (well_formed shape (e ∷ h) legal) o.id) s.here (s.id ∙ same) after refl in
    ap (λ c. slice_get (class_at shape c).fields f) (sym s.class ∙ ap (λ (q : Object). q.class) one)

pub cell_kinds_after : CellKindsAfter
cell_kinds_after shape [] legal = record { fields = λ i o f s h at. absurd (None≢Some s at); globals = λ g s at. absurd (None≢Some s at) }
cell_kinds_after shape (e ∷ h) legal =
    let before = cell_kinds_after shape h legal.1 in record {
      fields = λ i o f s here at. field i o f s here (came-from shape e h (Field o.id f) s legal refl at) before;
      globals = λ g s at. global g s (came-from shape e h (Global g) s legal refl at) before;
    }
  where
    global : (g : ℕ) (s : Spot) → From shape (heap_after h) (Global g) s → CellKinds shape (heap_after h) → is_kind s.kind (slice_get shape.globals g) ≡ true
    global g s (stood at) before = before.globals g s at
    global g s (put (cells.Field t f) same there kind) before = no same
    global g s (put (cells.Global n) same there kind) before = ap (λ m. is_kind s.kind (slice_get shape.globals m)) (eqb-true g n same) ∙ kind

    field : (i : ℕ) (o : Object) (f : ℕ) (s : Spot) → slice_get (heap_after (e ∷ h)).objects i ≡ Some o → From shape (heap_after h) (Field o.id f) s → CellKinds shape (heap_after h) → is_kind s.kind (field_shape shape f (Some o)) ≡ true
    field i o f s here (stood at) before =
        let has = (well_formed shape h legal.1).owned o.id f (spot-held (Field o.id f) (heap_after h) (ap is_some at)) in
        ap (is_kind s.kind) (sym (field-of shape e h legal has.place has.object has.here i o here has.named f))
        ∙ before.fields has.place has.object f s has.here (ap (λ n. spot (Field n f) (heap_after h)) has.named ∙ at)
    field i o f s here (put (cells.Global n) same there kind) before = no same
    field i o f s here (put (cells.Field t n) same there kind) before =
        let r = some-is (at_slot t (heap_after h)) there in
        let place = place-put (heap_after h).objects (at_first (in_slot t) (λ q. q) (heap_after h).objects) r.0 r.0 (put-found (in_slot t) (λ q. q) (heap_after h).objects r.0 r.1) in
        let parts = and_parts (same_id o.id (id_of (at_slot t (heap_after h)))) (eqb f n) same in
        let named : r.0.id ≡ o.id = sym (same-id o.id (id_of (at_slot t (heap_after h))) parts.0 ∙ ap id_of r.1) in
        ap (is_kind s.kind) (sym (field-of shape e h legal place.0 r.0 place.1 i o here named f) ∙ ap (λ m. field_shape shape m (Some r.0)) (eqb-true f n parts.1) ∙ sym (ap (field_shape shape n) r.1)) ∙ kind
