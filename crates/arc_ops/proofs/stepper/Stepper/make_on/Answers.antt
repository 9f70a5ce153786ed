use Rattle.std.proofs.Common.{ap}
use Rattle.arc_ops.specs.Thread.{Thread}
use Rattle.arc_ops.proofs.Moves.{slot_made}
use Rattle.arc_ops.proofs.stepper.Stepper.make_on.Goals as goal

pub returns-in-Slot : goal.returns-in-Slot
returns-in-Slot c =
    rw (c.in-Done.is, c.in-Slot.is)
    (slot_made c.args.to c.args.name c.args.plan c.in-Slot.place c.args.self.now c.put.new.self c.replace.new.self c.self.inside.hands (ap (λ (t : Thread). t.hands) c.self.view_is) c.put.ensures c.replace.ensures)
