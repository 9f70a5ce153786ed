use Rattle.std.proofs.Common.{arith, sym, ◌∙◌}
use Rattle.arc_ops.proofs.stepper.Stepper.open_on.Goals as goal

pub source-source-requires-clause-below : goal.source-source-requires-clause-below
source-source-requires-clause-below c =
    let fits = rw (sym c.next.ensures.answer ∙ c.in-Done-Held.is, c.in-Done-Held.field-0-is) at c.requires.goes_on in
    let below = fits.1 in
    let slots = c.requires.slots in
    omega (arith, below, slots)
