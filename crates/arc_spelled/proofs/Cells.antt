-- The cell that an operation names, for a stepper and in its notes.
use Rattle.std.proofs.Common.{◌≡◌, ℕ, List, Option, Some, None, refl, sym, ap, ◌∙◌}
use Rattle.arc_model.specs.Shapes.{HeapShape}
use Rattle.arc_script.specs.declared.script.OpCell.{OpCell}
use Rattle.arc_script.specs.declared.script.OpCell.TheVariants as opcell
use Rattle.arc_programs.specs.Variables as programs
use Rattle.arc_served.specs.Programs.{class_of, ref_of}
use Rattle.arc_ops.specs.declared.cell.Cell.{Cell}
use Rattle.arc_ops.specs.declared.stepper.Held.{Held}
use Rattle.arc_ops.specs.Thread.{value}
use Rattle.arc_ops.specs.Cells.{field_of, cell_in}
use Rattle.arc_spelled.specs.StepperStands.{held_in, variables}
use Rattle.arc_spelled.proofs.StepperSteps.{value-held}

same-cell : {a b : Cell} → Some a ≡ Some b → a ≡ b
same-cell e = cc

-- through an owner alone that is nil there is no cell
pub owner-nil : (shape : HeapShape) (class field : ℕ) (o : Option Held) → field_of shape class field o ≡ None → o ≡ None
owner-nil shape class field None e = refl
owner-nil shape class field (Some h) e = absurd (cc)

-- the notes name the same cell
pub cell-named : (shape : HeapShape) (classes : List ℕ) (vars : List (Option Held)) (c : OpCell) (cell : Cell) → cell_in shape classes vars c ≡ Some cell → programs.cell_of (variables vars) c ≡ Some cell.name
cell-named shape classes vars (opcell.Global g) cell e = ap (λ (x : Cell). Some x.name) (same-cell e)
cell-named shape classes vars (opcell.Field owner field) cell e = ap (λ (o : Option programs.Held). programs.field_of field o) (value-held vars owner (value vars owner) refl) ∙ go (value vars owner) e
  where
    go : (o : Option Held) → field_of shape (class_of classes owner) field o ≡ Some cell → programs.field_of field (held_in o) ≡ Some cell.name
    go None e = absurd (cc)
    go (Some h) e = ap (λ (x : Cell). Some x.name) (same-cell e)

-- and where there is none they name none
pub no-cell : (shape : HeapShape) (classes : List ℕ) (vars : List (Option Held)) (c : OpCell) → cell_in shape classes vars c ≡ None → programs.cell_of (variables vars) c ≡ None
no-cell shape classes vars (opcell.Global g) e = absurd (cc)
no-cell shape classes vars (opcell.Field owner field) e =
    ap (λ (o : Option programs.Held). programs.field_of field o) (value-held vars owner None (owner-nil shape (class_of classes owner) field (value vars owner) e))

-- the kind of a cell is that of what it may refer to
pub cell-kind : (shape : HeapShape) (classes : List ℕ) (vars : List (Option Held)) (c : OpCell) (cell : Cell) → cell_in shape classes vars c ≡ Some cell → cell.kind ≡ (ref_of shape classes c).kind
cell-kind shape classes vars (opcell.Global g) cell e = ap (λ (x : Cell). x.kind) (sym (same-cell e))
cell-kind shape classes vars (opcell.Field owner field) cell e = go (value vars owner) e
  where
    go : (o : Option Held) → field_of shape (class_of classes owner) field o ≡ Some cell → cell.kind ≡ (ref_of shape classes (opcell.Field owner field)).kind
    go None e = absurd (cc)
    go (Some h) e = ap (λ (x : Cell). x.kind) (sym (same-cell e))
