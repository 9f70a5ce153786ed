use Rattle.std.proofs.Common.{refl, sym}
use Rattle.arc_ops.proofs.Passed.{field_by}
use Rattle.arc_ops.proofs.stepper.Stepper.cell_of.Goals as goal

pub returns-in-Some-clause-is_cell : goal.returns-in-Some-clause-is_cell
returns-in-Some-clause-is_cell c =
    let within = rw (← c.self.view_is, c.in-Field.is) at c.requires.owner in
    let has = rw (← c.self.view_is, c.in-Field.is) at c.requires.there in
    rw (← c.self.view_is)
    (field_by _ c.self.invariant c.field.ensures.few c.self.inside.declared.now refl c.index-self-owner.result c.in-Field.owner c.in-Field.field c.in-Some.held c.field.result within (rw c.in-Some.is at (sym c.index.ensures)) has c.field.ensures.value)
