-- What is needed of where a reference is taken from: a hand of the view, or a cell that it accesses.
use Rattle.std.proofs.Common.{◌≡◌, ℕ, true, not, ◌∷◌, Option, Some, None, refl, ap, ◌∙◌, subst}
use Rattle.std.specs.Prelude.{is_some}
use Rattle.arc_model.specs.declared.event.CellName.{CellName}
use Rattle.arc_model.specs.declared.event.CellName.TheVariants as cells
use Rattle.arc_model.specs.declared.event.Illegal.TheVariants.{NotHeld}
use Rattle.arc_model.specs.declared.event.Origin.{Origin}
use Rattle.arc_model.specs.declared.event.Origin.TheVariants as origins
use Rattle.arc_model.specs.declared.shape.Kind.{Kind}
use Rattle.arc_model.specs.Shapes.{HeapShape}
use Rattle.arc_model.specs.Heaps.{Hand, Object, Heap}
use Rattle.arc_model.specs.Cells.{cell, origin, is_nil}
use Rattle.arc_model.specs.History.{History, heap_after}
use Rattle.arc_model.specs.Lookup.{Spot, spot}
use Rattle.arc_model.proofs.Basics.{None≢Some}
use Rattle.arc_model.proofs.Others.{lookup_after}
use Rattle.arc_view.specs.declared.view.View.{View}
use Rattle.arc_view.specs.Holding.{At, IsOpen, CanReach, heap_of}
use Rattle.arc_view.specs.Kinds.{kind_at, object_at, source_at}
use Rattle.arc_view.proofs.Bridge.{Before}
use Rattle.arc_view.proofs.AtCell.{cell_own, reach_met}
use Rattle.arc_view.proofs.Gaining.{IsHad}

-- where it stands
abbrev pub StandsAt : View → Heap → Origin → ℕ → Kind → Type 0
StandsAt v heap from i kind = spot (origin heap v.number from) heap ≡ Some (record { place = i; kind = kind })

-- the object at its spot
pub spot_source : (v : View) (from : Origin) (kind : Kind) (o : Object) (m : Option Spot) → source_at v from ≡ m → kind_at m ≡ kind → object_at (heap_of v) m ≡ Some o → (i : ℕ) × StandsAt v (heap_of v) from i kind × At (heap_of v) i o
spot_source v from kind o None is of at = absurd (None≢Some o at)
spot_source v from kind o (Some s) is of at = (s.place, is ∙ ap (λ t. Some (record { place = s.place; kind = t })) of, at)

module _ (shape : HeapShape) (v : View) (h : History) (b : Before shape v h) where
  -- a cell that is reached, and refers to an object
  cell_had : (c : CellName) → CanReach shape (heap_after h) v.number c → not (is_nil (heap_after h) (cell (heap_after h) c)) ≡ true → IsHad shape (heap_after h) v.number (origins.Cell c)
  cell_had (cells.Global g) reach full more met = (full, met)
  cell_had (cells.Field s f) reach full more met = reach_met shape h v.number (cells.Field s f) ((not (is_nil (heap_after h) (cell (heap_after h) (cells.Field s f))), NotHeld) ∷ more) b.legal reach (full, met)

  pub source_had : (from : Origin) (i : ℕ) (kind : Kind) → IsOpen v from → StandsAt v (heap_after h) from i kind → IsHad shape (heap_after h) v.number from
  source_had (origins.Hand k) i kind opened at = λ more met. (ap is_some ((lookup_after shape h (Hand v.number k) b.legal refl).there (record { place = i; kind = kind }) at).2, met)
  source_had (origins.Cell c) i kind (a, begun, same) at = cell_had c
      (subst (CanReach shape (heap_after h) v.number) same (b.work.reaches a begun).1)
      (ap (λ m. not (not (is_some m))) ((lookup_after shape h (cell (heap_after h) c) b.legal (cell_own (heap_after h) c)).there (record { place = i; kind = kind }) at).2)
