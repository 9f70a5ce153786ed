use Rattle.std.proofs.Common.{◌≡◌, None, sym, ap, subst, ◌∙◌}
use Rattle.arc_side.specs.declared.slot_end.At.TheVariants.{Leaving, Ended}
use Rattle.arc_side.specs.SlotEnds.{SlotEnding, left_on}
use Rattle.arc_side.proofs.SlotEnds.{left_turned}
use Rattle.arc_side.proofs.slot_end.SlotEnd.next.Goals as goal

-- src/slot_end.rt:76:5
pub returns-in-Leaving-clause-turned : goal.returns-in-Leaving-clause-turned
returns-in-Leaving-clause-turned c =
    let inside_at : c.self.inside.at ≡ Leaving c.in-Leaving.entry c.in-Leaving.plan = let i = c.in-Leaving.is in let r = c.replace-at.ensures.value in cc in
    left_turned c.args.self.now c.leave.new.self c.args.last c.in-Leaving.entry c.in-Leaving.plan c.next-next.new.self c.next-next.result
    (ap (λ (p : SlotEnding). p.at) (sym c.self.view_is) ∙ inside_at) c.next-next.ensures.turned c.next-next.ensures.answer
    (subst (λ (p : SlotEnding). c.leave.new.self ≡ (left_on (record p { at = Ended; event = None }) c.in-Leaving.entry c.next-next.new.self c.next-next.result).after) c.self.view_is c.leave.ensures.turned)
