use Rattle.std.proofs.Common.{◌≡◌, None, sym, ap, subst, ◌∙◌}
use Rattle.arc_cells.specs.declared.ref_drop.At.TheVariants.{Counting, Ended}
use Rattle.arc_cells.specs.Drops.{Dropping, DropTurn, counted_on}
use Rattle.arc_cells.proofs.Turns.{counted_is}
use Rattle.arc_cells.proofs.ref_drop.RefDrop.next.Goals as goal

pub returns-in-Counting-clause-answer : goal.returns-in-Counting-clause-answer
returns-in-Counting-clause-answer c =
    let inside_at : c.self.inside.at ≡ Counting c.in-Counting.plan = let i = c.in-Counting.is in let r = c.replace-at.ensures.value in cc in
    let turn = counted_is c.args.self.now c.args.last c.in-Counting.plan c.next-next.new.self c.next-next.result
    (ap (λ (p : Dropping). p.at) (sym c.self.view_is) ∙ inside_at) c.next-next.ensures.turned c.next-next.ensures.answer in
    subst (λ (p : Dropping). c.count.result ≡ (counted_on (record p { at = Ended; event = None }) c.next-next.new.self c.next-next.result).says) c.self.view_is c.count.ensures.answer ∙ ap (λ (t : DropTurn). t.says) turn
