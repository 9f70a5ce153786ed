-- The class of what a cell refers to, what stands in the lists of objects, and that a cell that is accessed keeps its object.
use Rattle.std.proofs.Common.{◌≡◌, ℕ, true, [], ◌∷◌, ◌++◌, Option, Some, refl, sym, ap, ◌∙◌, subst}
use Rattle.arc_model.specs.declared.event.CellName.{CellName}
use Rattle.arc_model.specs.declared.shape.Kind.{Kind}
use Rattle.arc_model.specs.declared.shape.RefShape.{RefShape}
use Rattle.arc_model.specs.Shapes.{HeapShape}
use Rattle.arc_model.specs.Heaps.{Holder, Object}
use Rattle.arc_model.specs.Holders.{is_in, list_of}
use Rattle.arc_model.specs.Cells.{cell}
use Rattle.arc_model.specs.History.{History, heap_after, IsLegal}
use Rattle.arc_model.specs.Lookup.{Spot, spot}
use Rattle.arc_model.specs.WellFormed.{is_own}
use Rattle.arc_model.proofs.Basics.{Some-inj}
use Rattle.arc_model.proofs.Courses.{well_formed}
use Rattle.arc_model.proofs.Others.{lookup_after}
use Rattle.arc_view.specs.Holding.{At}
use Rattle.arc_view.specs.Rule.{CellStays, FitsCell}
use Rattle.arc_view.proofs.AtCell.{cell_own}
use Rattle.arc_view.proofs.Held.{Held, listed_busy, listed_weak, stays_after}

pub class_is : (shape : HeapShape) (h : History) (at : Spot) (o : Object) (m : Option RefShape) (r : RefShape) → FitsCell (heap_after h) (Some at) m → m ≡ Some r → At (heap_after h) at.place o → o.class ≡ r.class
class_is shape h at o m r (q, n, here, named, same) is there = ap (λ (x : Object). x.class) (Some-inj (sym there ∙ here)) ∙ (same ∙ ap (λ (x : RefShape). x.class) (Some-inj (sym named ∙ is)))

-- ---- what stands in the list of an object

pub listed : (shape : HeapShape) (h : History) (z : Holder) (i : ℕ) (kind : Kind) (o : Object) → IsLegal shape h → is_own z ≡ true → spot z (heap_after h) ≡ Some (record { place = i; kind = kind }) → At (heap_after h) i o → is_in z (list_of kind o) ≡ true
listed shape h z i kind o legal own at here =
    let l = (lookup_after shape h z legal own).there (record { place = i; kind = kind }) at in
    subst (λ (r : Object). is_in z (list_of kind r) ≡ true) (Some-inj (sym l.1 ∙ here)) l.3

-- an object that a cell refers to, while no event changes the cell
pub cell_holds : (shape : HeapShape) (c : CellName) (i : ℕ) (kind : Kind) (o : Object) (before after : History) → IsLegal shape (after ++ before) → CellStays (after ++ before) before c
    → spot (cell (heap_after before) c) (heap_after before) ≡ Some (record { place = i; kind = kind }) → At (heap_after before) i o → Held kind i o (heap_after (after ++ before))
cell_holds shape c i kind o before [] legal stays at here = record { q = o; here = here; id = refl; class = refl; slot = λ _. refl; entry = λ n e. e }
cell_holds shape c i kind o before (e ∷ after) legal stays at here =
    let less : CellStays (after ++ before) before c = record {
      owner = λ point (rest, is) from. stays.owner point (e ∷ rest, ap (λ l. e ∷ l) is) from;
      refers = λ point (rest, is) from. stays.refers point (e ∷ rest, ap (λ l. e ∷ l) is) from;
    } in
    let ih = cell_holds shape c i kind o before after legal.1 less at here in
    let was_in = cell (heap_after (after ++ before)) c in
    let is_in_now = cell (heap_after (e ∷ after ++ before)) c in
    let mid : spot (cell (heap_after (after ++ before)) c) (heap_after (after ++ before)) ≡ Some (record { place = i; kind = kind }) = stays.refers (after ++ before) (e ∷ [], refl) (after, refl) ∙ at in
    let end : spot (cell (heap_after (e ∷ after ++ before)) c) (heap_after (e ∷ after ++ before)) ≡ Some (record { place = i; kind = kind }) = stays.refers (e ∷ after ++ before) ([], refl) (e ∷ after, refl) ∙ at in
    let s = stays_after shape e (after ++ before) legal i ih.q ih.here in
    let was = listed shape (after ++ before) was_in i kind ih.q legal.1 (cell_own (heap_after (after ++ before)) c) mid ih.here in
    let is = listed shape (e ∷ after ++ before) is_in_now i kind s.q legal (cell_own (heap_after (e ∷ after ++ before)) c) end s.here in
    let whole = (well_formed shape (e ∷ after ++ before) legal).whole i s.q s.here in record {
      q = s.q;
      here = s.here;
      id = s.id ∙ ih.id;
      class = s.class ∙ ih.class;
      slot = λ ne. s.slot (listed_busy kind was_in ih.q was ne) ∙ ih.slot ne;
      entry = λ n e. s.entry n (listed_weak shape kind is_in_now s.q whole is) (ih.entry n e);
    }
