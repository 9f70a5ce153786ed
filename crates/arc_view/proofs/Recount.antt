-- What the words show of everything else, where one object's strong list changes.
use Rattle.std.proofs.Common.{◌≡◌, inl, ℕ, true, length, Some, sym, ap, ◌∙◌}
use Rattle.arc_model.specs.declared.event.CellName.{CellName}
use Rattle.arc_model.specs.declared.event.CellName.TheVariants as cells
use Rattle.arc_model.specs.declared.shape.Kind.{Kind}
use Rattle.arc_model.specs.declared.shape.Kind.TheVariants as kinds
use Rattle.arc_model.specs.Shapes.{HeapShape}
use Rattle.arc_model.specs.Heaps.{Holder, Object, Heap}
use Rattle.arc_model.specs.Holders.{is_in, is_number, in_slot, kind_in, list_of}
use Rattle.arc_model.specs.Lookup.{is_cell}
use Rattle.arc_model.proofs.Turns.{IsPut}
use Rattle.arc_rule.specs.declared.layout.Place.{Place}
use Rattle.arc_rule.specs.declared.layout.Place.TheVariants.{Zero, Global, Count, Isa, Next, Field, Link, Strong, Unowned, Weak, SlotBits, EntryBits}
use Rattle.arc_rule.specs.Shown.{Says}
use Rattle.arc_view.proofs.Words.{find_put}
use Rattle.arc_view.proofs.Lasting.{IsFixed}
use Rattle.arc_view.proofs.Advance.{CellKept}
use Rattle.arc_view.proofs.Put.{place_same}
use Rattle.arc_view.proofs.Relist.{IsRelisted, SlotStays, Lasts, all_found, relist_says, field_kept, global_kept}

-- o becomes q: its strong list changes by holders that are no cells, and perhaps what is owed to it
pub record IsRecount (o q : Object) : Type 0 where
  pub id : q.id ≡ o.id
  pub class : q.class ≡ o.class
  pub slot : q.slot ≡ o.slot
  pub entry : q.entry ≡ o.entry
  pub unowned : q.unowned ≡ o.unowned
  pub weak : q.weak ≡ o.weak
  pub strong : (z : Holder) → is_cell z ≡ true → is_in z q.strong ≡ is_in z o.strong

recount_relisted : (o q : Object) → IsRecount o q → IsRelisted o q
recount_relisted o q r = record { id = r.id; class = r.class; entry = r.entry; slot = λ s e. sym r.slot ∙ e; cells = cells; leads = λ z _ _. place_same (kind_in z o) o q r.slot r.entry }
  where
    cells : (k : Kind) (z : Holder) → is_cell z ≡ true → is_in z (list_of k q) ≡ is_in z (list_of k o)
    cells kinds.Strong z c = r.strong z c
    cells kinds.Unowned z c = ap (is_in z) r.unowned
    cells kinds.Weak z c = ap (is_in z) r.weak

module _ (shape : HeapShape) (old new : Heap) (o q : Object) (put : IsPut old.objects new.objects o q) (claims : new.claims ≡ old.claims) (r : IsRecount o q) where
  -- Which counts the change leaves: an inline word that doesn't depend on the object's lists, and an entry's strong count that isn't the object's.
  abbrev pub Leaves : Place → Type 0
  Leaves (Count t) = o.slot ≡ Some t → IsFixed shape o
  Leaves (Strong e) = o.entry ≡ Some e → ⊥
  Leaves _ = Unit {0}

  slot_put : (t : ℕ) → SlotStays shape old new o q put claims (recount_relisted o q r) t
  slot_put t = find_put (in_slot t) old.objects new.objects o q put (ap (λ m. is_number m t) r.slot)

  lasts : (pl : Place) → Leaves pl → Lasts shape old new o q put claims (recount_relisted o q r) pl
  lasts Zero leaves = tt
  lasts (Global g) leaves = tt
  lasts (Count t) leaves = leaves
  lasts (Isa t) leaves = tt
  lasts (Next t) leaves = tt
  lasts (Field t f) leaves = tt
  lasts (Link e) leaves = inl r.slot
  lasts (Strong e) leaves = λ is. absurd (leaves is)
  lasts (Unowned e) leaves = λ _. ap length r.unowned
  lasts (Weak e) leaves = λ _. ap length r.weak
  lasts (SlotBits k) leaves = tt
  lasts (EntryBits k) leaves = tt

  -- what the heap says of every other word stays
  pub recount_says : (pl : Place) → Leaves pl → (w : ℕ) → Says shape old pl w → Says shape new pl w
  recount_says pl leaves w says = relist_says shape old new o q put claims (recount_relisted o q r) pl (all_found shape old new o q put claims (recount_relisted o q r) slot_put pl) (lasts pl leaves) w says

  -- cells stay as they are
  pub recount_cells : (c : CellName) → CellKept shape old new c
  recount_cells (cells.Field s f) = field_kept shape old new o q put claims (recount_relisted o q r) s f (slot_put s)
  recount_cells (cells.Global g) = global_kept shape old new o q put claims (recount_relisted o q r) g
