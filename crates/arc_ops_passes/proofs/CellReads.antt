-- What the word of a cell shows: a global, or a field of an object in its slot.
use Rattle.std.proofs.Common.{◌≡◌, ◌⊎◌, inl, inr, ⊎_elim, ℕ, ◌+◌, ◌<◌, true, Option, Some, None, refl, sym, ap, ◌∙◌, subst, arith}
use Rattle.arc_model.specs.declared.event.CellName.{CellName}
use Rattle.arc_model.specs.declared.event.CellName.TheVariants as cells
use Rattle.arc_model.specs.declared.shape.RefShape.{RefShape}
use Rattle.arc_model.specs.Shapes.{HeapShape}
use Rattle.arc_model.specs.Heaps.{Object}
use Rattle.arc_model.specs.Heaps as holders
use Rattle.arc_model.specs.Holders.{at_slot, held_by}
use Rattle.arc_model.specs.Cells.{cell, cell_shape, field_shape, id_of, is_kind}
use Rattle.arc_model.specs.History.{History, heap_after, IsLegal}
use Rattle.arc_model.specs.Lookup.{Spot, spot}
use Rattle.arc_model.specs.References.{place_of, reference_of, reference_to, reference_in}
use Rattle.arc_model.proofs.Basics.{None≢Some, Some-inj}
use Rattle.arc_model.proofs.CellKinds.{cell_kinds_after}
use Rattle.arc_model.proofs.Others.{lookup_after}
use Rattle.arc_rule.specs.Shown.{Says, cell_word}
use Rattle.arc_side.specs.Inline.{IsCountedInline}
use Rattle.arc_view.specs.Views.{cell_place}
use Rattle.arc_view.specs.Holding.{At}
use Rattle.arc_view.specs.Rule.{InShape, IsWithin, FitsCell}
use Rattle.arc_view.proofs.Alike.{HasCell}
use Rattle.arc_view.proofs.AtCell.{cell_own, stands_at, cell_shows, says_cell}
use Rattle.arc_view.proofs.Strongs.{slot_found}
use Rattle.arc_view.proofs.Swapping.{named_kind}
use Rattle.arc_view.proofs.Within.{each_at}
use Rattle.arc_ops_passes.proofs.Cells.{class_is}
use Rattle.arc_ops_passes.proofs.Hands.{place_slot}

-- the cell leads to an object in a slot, of its class, and its word tells the slot
pub record CellLeads (shape : HeapShape) (h : History) (c : CellName) (r : RefShape) (found : ℕ) : Type 0 where
  pub place : ℕ
  pub object : Object
  pub slot : ℕ
  pub at : spot (cell (heap_after h) c) (heap_after h) ≡ Some (record { place = place; kind = r.kind })
  pub here : At (heap_after h) place object
  pub in_slot : object.slot ≡ Some slot
  pub below : slot < shape.slots
  pub class : object.class ≡ r.class
  pub refers : reference_of (cell (heap_after h) c) (heap_after h) ≡ Some (record { kind = r.kind; place = slot })
  pub word : found ≡ slot + 2

-- or it is nil
pub record CellIsNil (h : History) (c : CellName) (found : ℕ) : Type 0 where
  pub none : spot (cell (heap_after h) c) (heap_after h) ≡ None
  pub nothing : held_by (cell (heap_after h) c) (heap_after h) ≡ None
  pub word : found ≡ 0

-- the kind and the class of what a cell refers to are those that the shape names
cell_kind : (shape : HeapShape) (h : History) (c : CellName) (s : Spot) → IsLegal shape h → HasCell shape (heap_after h) c → spot (cell (heap_after h) c) (heap_after h) ≡ Some s → is_kind s.kind (cell_shape shape (heap_after h) c) ≡ true
cell_kind shape h (cells.Global g) s legal has at = (cell_kinds_after shape h legal).globals g s at
cell_kind shape h (cells.Field t f) s legal (i, o, here, slot, has) at =
    let found : at_slot t (heap_after h) ≡ Some o = slot_found shape h i t o legal here slot in
    ap (λ m. is_kind s.kind (field_shape shape f m)) found ∙ (cell_kinds_after shape h legal).fields i o f s here (sym (ap (λ m. spot (holders.Field (id_of m) f) (heap_after h)) found) ∙ at)

pub cell_fits : (shape : HeapShape) (h : History) (c : CellName) → IsLegal shape h → InShape shape h → HasCell shape (heap_after h) c → FitsCell (heap_after h) (spot (cell (heap_after h) c) (heap_after h)) (cell_shape shape (heap_after h) c)
cell_fits shape h (cells.Global g) legal within has = within.globals g
cell_fits shape h (cells.Field t f) legal within (i, o, here, slot, has) =
    let found : at_slot t (heap_after h) ≡ Some o = slot_found shape h i t o legal here slot in
    subst (λ m. FitsCell (heap_after h) (spot (holders.Field (id_of m) f) (heap_after h)) (field_shape shape f m)) (sym found) (within.fields i o f here)

pub cell_read : (shape : HeapShape) (h : History) (c : CellName) (r : RefShape) (found : ℕ) → IsLegal shape h → InShape shape h → HasCell shape (heap_after h) c → cell_shape shape (heap_after h) c ≡ Some r → IsCountedInline r.kind
    → Says shape (heap_after h) (cell_place c) found → CellIsNil h c found ⊎ CellLeads shape h c r found
cell_read shape h c r found legal within has named counted said = by (spot (cell (heap_after h) c) (heap_after h)) refl
  where
    says : found ≡ cell_word (reference_of (cell (heap_after h) c) (heap_after h))
    says = says_cell shape h c found legal has said

    by : (m : Option Spot) → spot (cell (heap_after h) c) (heap_after h) ≡ m → CellIsNil h c found ⊎ CellLeads shape h c r found
    by None at = let none = (lookup_after shape h (cell (heap_after h) c) legal (cell_own (heap_after h) c)).nowhere at in inl (record { none = at; nothing = none; word = says ∙ ap (λ m. cell_word (reference_in (cell (heap_after h) c) m)) none })
    by (Some s) at =
        let n = named_kind s.kind (cell_shape shape (heap_after h) c) (cell_kind shape h c s legal has at) in
        let kind : s.kind ≡ r.kind = sym n.2 ∙ ap (λ (x : RefShape). x.kind) (Some-inj (sym n.1 ∙ named)) in
        let t = stands_at (cell (heap_after h) c) (heap_after h).objects s at in
        let refers : reference_of (cell (heap_after h) c) (heap_after h) ≡ reference_to r.kind t.object.slot =
        ap (λ m. reference_in (cell (heap_after h) c) m) t.found ∙ (ap (λ k. reference_to k (place_of k t.object)) (t.kind ∙ kind) ∙ ap (reference_to r.kind) (place_slot r.kind counted t.object)) in
        in_slot s at t.object t.here t.found kind t.object.slot refl refers
      where
        in_slot : (s : Spot) → spot (cell (heap_after h) c) (heap_after h) ≡ Some s → (o : Object) → At (heap_after h) s.place o → held_by (cell (heap_after h) c) (heap_after h) ≡ Some o → s.kind ≡ r.kind → (m : Option ℕ) → o.slot ≡ m
            → reference_of (cell (heap_after h) c) (heap_after h) ≡ reference_to r.kind m → CellIsNil h c found ⊎ CellLeads shape h c r found
        in_slot s at o here there kind None is refers =
            ⊎_elim (λ (t : (found ≡ 0) × (held_by (cell (heap_after h) c) (heap_after h) ≡ None)). absurd (None≢Some o (sym t.1 ∙ there)))
            (λ t. absurd (let some = t.2 in let none : found ≡ 0 = says ∙ ap cell_word refers in omega arith)) (cell_shows shape h c found legal says)
        in_slot s at o here there kind (Some slot) is refers = inr (record {
          place = s.place;
          object = o;
          slot = slot;
          at = at ∙ ap (λ k. Some (record { place = s.place; kind = k })) kind;
          here = here;
          in_slot = is;
          below = (each_at (IsWithin shape) (heap_after h).objects s.place o within.within here).0 slot is;
          class = class_is shape h s o (cell_shape shape (heap_after h) c) r (subst (λ m. FitsCell (heap_after h) m (cell_shape shape (heap_after h) c)) at (cell_fits shape h c legal within has)) named here;
          refers = refers;
          word = says ∙ ap cell_word refers;
        })
