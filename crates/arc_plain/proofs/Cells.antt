-- Where no thread is inside an access, the words show what the heap says of each cell, so that none is that of an access.
use Rattle.std.proofs.Common.{◌≡◌, ◌≢◌, ℕ, zero, suc, ◌<◌, Bool, true, false, length, List, [], ◌∷◌, Option, Some, None, refl, sym, ap, ◌∙◌, arith}
use mathlib.Core.Option.{some}
use lib.ListN.{get_elem?}
use Rattle.std.specs.Prelude.{slice_get, slice_index}
use Rattle.arc_model.specs.Shapes.{HeapShape}
use Rattle.arc_model.specs.Heaps.{Object, Heap}
use Rattle.arc_model.specs.Heaps as holders
use Rattle.arc_model.specs.Holders.{at_slot}
use Rattle.arc_model.specs.Cells.{has_field}
use Rattle.arc_model.specs.History.{History, heap_after}
use Rattle.arc_model.specs.References.{Reference, reference_of}
use Rattle.arc_model.specs.declared.event.CellName.{CellName}
use Rattle.arc_model.specs.declared.event.CellName.TheVariants as cells
use Rattle.arc_rule.specs.Places.{IsPlace, extent_of}
use Rattle.arc_cells.specs.Chains.{Frame}
use Rattle.arc_rule.specs.Shown.{cell_word, field_word, field_word_if}
use Rattle.arc_ops.specs.Cells.{place_in, cell_number}
use Rattle.arc_ops.specs.Thread.{Thread, in_access}
use Rattle.arc_ops_passes.proofs.Accesses.{outside_is_no_access}
use Rattle.arc_spelled.specs.StepperStands.{Work}
use Rattle.arc_view.specs.declared.view.Begun.{Begun}
use Rattle.arc_view.specs.declared.view.View.{View}
use Rattle.arc_replays.specs.Replaying.{Replaying}
use Rattle.arc_replays.proofs.GoesOn.{elem_below}

-- ---- what the heap says of a cell isn't 1

cell_not_one : (o : Option Reference) → cell_word o ≢ 1
cell_not_one None = λ e. omega arith
cell_not_one (Some r) = λ e. omega arith

field_not_one : (shape : HeapShape) (heap : Heap) (f : ℕ) (o : Option Object) → field_word shape heap f o ≢ 1
field_not_one shape heap f None = λ e. omega arith
field_not_one shape heap f (Some o) = go (has_field shape f o)
  where
    go : (b : Bool) → field_word_if b shape heap f o ≢ 1
    go true = cell_not_one (reference_of (holders.Field o.id f) heap)
    go false = λ e. omega arith

-- ---- the words

some_there : (threads : List Thread) (i : ℕ) → i < length threads → slice_get threads i ≡ None → ⊥
some_there [] i lt none = omega arith
some_there (t ∷ ts) zero lt none = cc
some_there (t ∷ ts) (suc i) lt none = some_there ts i (omega arith) none

-- no view is excepted at a cell
none_excepted : (shape : HeapShape) (work : ℕ → Work) (chains : ℕ → List Frame) (threads : List Thread) (words : List ℕ) (log : History) (r : Replaying shape work chains threads words log) → ((p : ℕ) (t : Thread) → slice_get threads p ≡ Some t → in_access t ≡ false) →
    (i : ℕ) (v : View) → get_elem? r.views i ≡ some v → v.working.access ≡ None
none_excepted shape work chains threads words log r out i v is = go (slice_get threads i) refl
  where
    below : i < length threads
    below = let lt = elem_below r.views i v is in let many = r.as_many in omega arith

    go : (o : Option Thread) → slice_get threads i ≡ o → v.working.access ≡ None
    go (Some t) there =
        let d = r.drives i t there in
        let same : d.0 ≡ v = let e = d.1 in cc in
        ap (λ (x : View). x.working.access) (sym same) ∙ outside_is_no_access (work i) t d.0 d.2 (out i t there)
    go None there = absurd (some_there threads i below there)

pub cells_are_shown : (shape : HeapShape) (work : ℕ → Work) (chains : ℕ → List Frame) (threads : List Thread) (words : List ℕ) (log : History) → Replaying shape work chains threads words log → ((p : ℕ) (t : Thread) → slice_get threads p ≡ Some t → in_access t ≡ false) →
    (c : CellName) → IsPlace (extent_of shape) (place_in c) → slice_index words (cell_number (extent_of shape) c) ≢ 1
cells_are_shown shape work chains threads words log r out c is = go c is
  where
    none : (a : Begun) (i : ℕ) (v : View) → get_elem? r.views i ≡ some v → v.working.access ≡ Some a → ⊥
    none a i v at has = let h = none_excepted shape work chains threads words log r out i v at in cc

    go : (c : CellName) → IsPlace (extent_of shape) (place_in c) → slice_index words (cell_number (extent_of shape) c) ≢ 1
    go (cells.Global g) is = λ one. cell_not_one (reference_of (holders.Global g) (heap_after r.kept.log)) (sym (r.kept.words.says (place_in (cells.Global g)) is (λ x. none x.3.0 x.0 x.1 x.2 x.3.1)) ∙ one)
    go (cells.Field s f) is = λ one. field_not_one shape (heap_after r.kept.log) f (at_slot s (heap_after r.kept.log)) (sym (r.kept.words.says (place_in (cells.Field s f)) is (λ x. none x.3.0 x.0 x.1 x.2 x.3.1)) ∙ one)
