-- At most one object is in a slot.
use Rattle.std.proofs.Common.{◌≡◌, ◌≢◌, ℕ, Bool, true, false, Option, Some, None, refl, ap, ◌∙◌, eq-eqb}
use Rattle.std.specs.Prelude.{slice_get}
use Rattle.arc_model.specs.Shapes.{HeapShape}
use Rattle.arc_model.specs.Heaps.{Object}
use Rattle.arc_model.specs.Holders.{in_slot, is_number}
use Rattle.arc_model.specs.History.{History, heap_after, IsLegal}
use Rattle.arc_model.specs.Lookup.{passes_at}
use Rattle.arc_model.specs.Needs.{passes}
use Rattle.arc_model.proofs.Courses.{well_formed}
use Rattle.arc_view.specs.Holding.{At}
use Rattle.arc_view.proofs.Entering.{one_place}

pub slot_is : (o : Object) (s : ℕ) → o.slot ≡ Some s → in_slot s o ≡ true
slot_is o s e = ap (λ m. is_number m s) e ∙ eq-eqb s s refl

-- another object isn't in the slot
pub not_in : (shape : HeapShape) (h : History) (s i j : ℕ) (o : Object) → IsLegal shape h → At (heap_after h) i o → o.slot ≡ Some s → j ≢ i → passes_at (in_slot s) j (heap_after h) ≡ false
not_in shape h s i j o legal here slot ne = go (slice_get (heap_after h).objects j) refl
  where
    go : (m : Option Object) → slice_get (heap_after h).objects j ≡ m → passes (in_slot s) m ≡ false
    go None e = refl
    go (Some q) e = by (in_slot s q) refl
      where
        by : (b : Bool) → in_slot s q ≡ b → in_slot s q ≡ false
        by false is = is
        by true is = absurd (ne (one_place s (heap_after h).objects j i q o ((well_formed shape h legal).slots s) e here is (slot_is o s slot)))
