use Rattle.std.proofs.Common.{◌≡◌, None, sym, ap, subst, ◌∙◌}
use Rattle.arc_cells.specs.declared.cascade.At.TheVariants.{Finishing, Ending, Ended}
use Rattle.arc_cells.specs.Cascades.{CascadeState, CascadeTurn, finishes, ends_on}
use Rattle.arc_cells.proofs.Turns.{finishing_is, ending_is}
use Rattle.arc_cells.proofs.cascade.Cascade.next.Goals as goal

pub returns-in-Finishing-clause-turned : goal.returns-in-Finishing-clause-turned
returns-in-Finishing-clause-turned c =
    let inside_at : c.self.inside.at ≡ Finishing c.in-Finishing.parent c.in-Finishing.plan = let i = c.in-Finishing.is in let r = c.replace-at.ensures.value in cc in
    let turn = finishing_is c.args.self.now c.args.last c.in-Finishing.parent c.in-Finishing.plan c.next-next-in-Finishing.new.self c.next-next-in-Finishing.result
    (ap (λ (p : CascadeState). p.at) (sym c.self.view_is) ∙ inside_at) c.next-next-in-Finishing.ensures.turned c.next-next-in-Finishing.ensures.answer in
    subst (λ (p : CascadeState). c.finish.new.self ≡ (finishes (record p { at = Ended; event = None }) c.in-Finishing.parent c.next-next-in-Finishing.new.self c.next-next-in-Finishing.result).after) c.self.view_is c.finish.ensures.turned
    ∙ ap (λ (t : CascadeTurn). t.after) turn

pub returns-in-Finishing-clause-answer : goal.returns-in-Finishing-clause-answer
returns-in-Finishing-clause-answer c =
    let inside_at : c.self.inside.at ≡ Finishing c.in-Finishing.parent c.in-Finishing.plan = let i = c.in-Finishing.is in let r = c.replace-at.ensures.value in cc in
    let turn = finishing_is c.args.self.now c.args.last c.in-Finishing.parent c.in-Finishing.plan c.next-next-in-Finishing.new.self c.next-next-in-Finishing.result
    (ap (λ (p : CascadeState). p.at) (sym c.self.view_is) ∙ inside_at) c.next-next-in-Finishing.ensures.turned c.next-next-in-Finishing.ensures.answer in
    subst (λ (p : CascadeState). c.finish.result ≡ (finishes (record p { at = Ended; event = None }) c.in-Finishing.parent c.next-next-in-Finishing.new.self c.next-next-in-Finishing.result).says) c.self.view_is c.finish.ensures.answer
    ∙ ap (λ (t : CascadeTurn). t.says) turn

pub returns-in-Ending-clause-turned : goal.returns-in-Ending-clause-turned
returns-in-Ending-clause-turned c =
    let inside_at : c.self.inside.at ≡ Ending c.in-Ending.parent c.in-Ending.end = let i = c.in-Ending.is in let r = c.replace-at.ensures.value in cc in
    let turn = ending_is c.args.self.now c.args.last c.in-Ending.parent c.in-Ending.end c.next-next-in-Ending.new.self c.next-next-in-Ending.result c.event-self-inside-in-Ending.result
    (ap (λ (p : CascadeState). p.at) (sym c.self.view_is) ∙ inside_at) c.next-next-in-Ending.ensures.turned c.next-next-in-Ending.ensures.answer c.event-self-inside-in-Ending.ensures in
    subst (λ (p : CascadeState). c.end.new.self ≡ (ends_on (record p { at = Ended; event = c.event-self-inside-in-Ending.result }) c.in-Ending.parent c.next-next-in-Ending.new.self c.next-next-in-Ending.result).after) c.self.view_is c.end.ensures.turned
    ∙ ap (λ (t : CascadeTurn). t.after) turn
