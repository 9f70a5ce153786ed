-- The cell that an operation names, for a stepper and in its steps.
use Rattle.std.proofs.Common.{◌≡◌, ℕ, ◌≤◌, List, length, Option, Some, None, refl, sym, ap, subst, arith}
use Rattle.std.proofs.lemmas.Option.{same_Some}
use Rattle.std.proofs.lemmas.List.Elements.{recursion_from_All}
use Rattle.arc_model.specs.Shapes.{HeapShape, ObjectClass, class_at}
use Rattle.arc_rule.specs.Places.{IsPlace, extent_of}
use Rattle.arc_side.specs.Inline.{IsCountedInline}
use Rattle.arc_script.specs.declared.script.Op.{Op}
use Rattle.arc_script.specs.declared.script.Op.TheVariants as op
use Rattle.arc_script.specs.declared.script.OpCell.{OpCell}
use Rattle.arc_script.specs.declared.script.OpCell.TheVariants as opcell
use Rattle.arc_served.specs.Programs.{class_of, ref_of, HasCell}
use Rattle.arc_served.specs.Served.{IsServedRef, IsServedClass}
use Rattle.arc_ops.specs.declared.cell.Cell.{Cell}
use Rattle.arc_ops.specs.declared.stepper.Held.{Held}
use Rattle.arc_ops.specs.Cells.{field_of, cell_in, place_in}
use Rattle.arc_ops.specs.Thread.{value}
use Rattle.arc_ops_passes.proofs.Fields.{few_at}
use Rattle.arc_spelled.proofs.Cells.{owner-nil, cell-kind}
use Rattle.arc_spelled.proofs.KindsKept.{counted-ref, class-fields}
use Rattle.arc_schedule.specs.Operations.{Holding, forms}
use Rattle.arc_schedule.specs.Operations as operations
use Rattle.arc_schedule.proofs.Stands.{Task, kinds_here, classes_here, refs, AreServed, AreIn, IsCellOf}
use Rattle.arc_schedule.proofs.Variables.{value-ref, held-in}

-- what a cell may refer to is counted in an inline word
counted : (shape : HeapShape) (classes : List ℕ) {kinds : List _} {ops : List Op} → AreServed shape classes kinds ops → (of : OpCell) → IsCountedInline (ref_of shape classes of).kind
counted shape classes served (opcell.Global g) = counted-ref shape.globals g (recursion_from_All IsServedRef shape.globals served.globals)
counted shape classes served (opcell.Field owner field) =
    counted-ref (class_at shape (class_of classes owner)).fields field (class-fields shape.classes (class_of classes owner) (recursion_from_All IsServedClass shape.classes served.classes_served))

-- the stepper's cell is the operation's
pub cell-is : (k : Task) {ops : List Op} → AreServed k.shape (classes_here k) (kinds_here k) ops → (vars : List (Option Held)) → AreIn k vars → (of : OpCell) → HasCell k.shape (classes_here k) of → (cell : Cell) →
    cell_in k.shape (classes_here k) vars of ≡ Some cell → IsCellOf k vars of cell.name cell.kind
cell-is k {ops} served vars inside of there cell is = record {
  named = (place of there is).0;
  there = (place of there is).1;
  kind_is = cell-kind k.shape (classes_here k) vars of cell is;
  counted = subst IsCountedInline (sym (cell-kind k.shape (classes_here k) vars of cell is)) (counted k.shape (classes_here k) served of);
}
  where
    Found : OpCell → Cell → Type 0
    Found of cell = (operations.cell_of (refs vars) of ≡ Some cell.name) × IsPlace (extent_of k.shape) (place_in cell.name)

    place : (of : OpCell) → HasCell k.shape (classes_here k) of → cell_in k.shape (classes_here k) vars of ≡ Some cell → Found of cell
    place (opcell.Global g) there is = subst (Found (opcell.Global g)) (same_Some _ cell is) (refl, there)
    place (opcell.Field owner field) there is = by (value vars owner) refl is
      where
        by : (o : Option Held) → value vars owner ≡ o → field_of k.shape (class_of (classes_here k) owner) field o ≡ Some cell → Found (opcell.Field owner field) cell
        by None e none = absurd (cc)
        by (Some held) e some =
            let few : length (class_at k.shape (class_of (classes_here k) owner)).fields ≤ 8 =
            few_at k.shape.classes (class_of (classes_here k) owner) (recursion_from_All (λ (c : ObjectClass). length c.fields ≤ 8) k.shape.classes served.few_fields) in
            subst (Found (opcell.Field owner field)) (same_Some _ cell some)
            (ap (λ (o : Option Holding). operations.field_of field o) (value-ref vars owner (Some held) e), ((held-in k vars owner held inside e).place, omega (arith, few, there)))

-- through an owner alone that is nil there is no cell
pub owner-is : (shape : HeapShape) (classes : List ℕ) (vars : List (Option Held)) (to : ℕ) (of : OpCell) → cell_in shape classes vars of ≡ None → (owner : ℕ) × (forms (op.Get to of) ≡ Some (to, owner)) × (value vars owner ≡ None)
owner-is shape classes vars to (opcell.Global g) e = absurd (cc)
owner-is shape classes vars to (opcell.Field owner field) e = (owner, refl, owner-nil shape (class_of classes owner) field (value vars owner) e)

pub no-cell : (shape : HeapShape) (classes : List ℕ) (vars : List (Option Held)) (of : OpCell) → cell_in shape classes vars of ≡ None → operations.cell_of (refs vars) of ≡ None
no-cell shape classes vars (opcell.Global g) e = absurd (cc)
no-cell shape classes vars (opcell.Field owner field) e =
    ap (λ (o : Option Holding). operations.field_of field o) (value-ref vars owner None (owner-nil shape (class_of classes owner) field (value vars owner) e))
