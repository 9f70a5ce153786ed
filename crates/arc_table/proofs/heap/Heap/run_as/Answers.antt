use Rattle.std.proofs.Common.{sym, None, Some}
use Rattle.arc_table.specs.Seats.{shape_of, part_view}
use Rattle.arc_table.proofs.Running.{may_start, may_take, may_step, goes_on_to, comes_to, ran_walked}
use Rattle.arc_table.proofs.heap.Heap.run_as.Goals as goal

pub step_as-first-requires-clause-kind : goal.step_as-first-requires-clause-kind
step_as-first-requires-clause-kind g c = may_step g.P.Plan.takes g.P.Plan.turned g.P.Plan.answer (shape_of c.args.self.now) g.J.Asks.intent c.args.plan None (part_view c.args.part.now) c.in-Step.step c.requires.may (sym c.in-Step.ensures.answer)

pub returns-in-Done-clause-ran : goal.returns-in-Done-clause-ran
returns-in-Done-clause-ran g c = comes_to g.P.Plan.takes g.P.Plan.turned g.P.Plan.answer (shape_of c.args.self.now) g.J.Asks.intent c.args.plan None (part_view c.args.part.now) c.args.plan None (part_view c.args.part.now) c.in-Done.answer (may_start g.P.Plan.takes g.P.Plan.turned g.P.Plan.answer (shape_of c.args.self.now) g.J.Asks.intent c.args.plan None (part_view c.args.part.now) c.requires.may) (sym c.in-Done.ensures.answer)

-- after the first step
pub next-requires-2 : goal.next-requires-2
next-requires-2 g c =
    let u1 = goes_on_to g.P.Plan.takes g.P.Plan.turned g.P.Plan.answer (shape_of c.args.self.now) g.J.Asks.intent c.args.plan None (part_view c.args.part.now) c.args.plan None (part_view c.args.part.now) c.in-Step.step c.step_as-first.result (part_view c.step_as-first.new.part) c.next.new.self (may_start g.P.Plan.takes g.P.Plan.turned g.P.Plan.answer (shape_of c.args.self.now) g.J.Asks.intent c.args.plan None (part_view c.args.part.now) c.requires.may) c.in-Step.ensures.answer c.in-Step.ensures.turned c.step_as-first.ensures.told in
    may_take g.P.Plan.takes g.P.Plan.turned g.P.Plan.answer (shape_of c.args.self.now) g.J.Asks.intent c.next.new.self (Some c.step_as-first.result) (part_view c.step_as-first.new.part) u1.may

pub step_as-second-requires-clause-kind : goal.step_as-second-requires-clause-kind
step_as-second-requires-clause-kind g c =
    let u1 = goes_on_to g.P.Plan.takes g.P.Plan.turned g.P.Plan.answer (shape_of c.args.self.now) g.J.Asks.intent c.args.plan None (part_view c.args.part.now) c.args.plan None (part_view c.args.part.now) c.in-Step.step c.step_as-first.result (part_view c.step_as-first.new.part) c.next.new.self (may_start g.P.Plan.takes g.P.Plan.turned g.P.Plan.answer (shape_of c.args.self.now) g.J.Asks.intent c.args.plan None (part_view c.args.part.now) c.requires.may) c.in-Step.ensures.answer c.in-Step.ensures.turned c.step_as-first.ensures.told in
    may_step g.P.Plan.takes g.P.Plan.turned g.P.Plan.answer (shape_of c.args.self.now) g.J.Asks.intent c.next.new.self (Some c.step_as-first.result) (part_view c.step_as-first.new.part) c.in-Step-next.step u1.may (sym c.in-Step-next.ensures.answer)

pub returns-in-Done-next-clause-ran : goal.returns-in-Done-next-clause-ran
returns-in-Done-next-clause-ran g c =
    let u1 = goes_on_to g.P.Plan.takes g.P.Plan.turned g.P.Plan.answer (shape_of c.args.self.now) g.J.Asks.intent c.args.plan None (part_view c.args.part.now) c.args.plan None (part_view c.args.part.now) c.in-Step.step c.step_as-first.result (part_view c.step_as-first.new.part) c.next.new.self (may_start g.P.Plan.takes g.P.Plan.turned g.P.Plan.answer (shape_of c.args.self.now) g.J.Asks.intent c.args.plan None (part_view c.args.part.now) c.requires.may) c.in-Step.ensures.answer c.in-Step.ensures.turned c.step_as-first.ensures.told in
    comes_to g.P.Plan.takes g.P.Plan.turned g.P.Plan.answer (shape_of c.args.self.now) g.J.Asks.intent c.args.plan None (part_view c.args.part.now) c.next.new.self (Some c.step_as-first.result) (part_view c.step_as-first.new.part) c.in-Done-next.answer u1 (sym c.in-Done-next.ensures.answer)

pub returns-in-Done-next-clause-walked : goal.returns-in-Done-next-clause-walked
returns-in-Done-next-clause-walked g c =
    let u1 = goes_on_to g.P.Plan.takes g.P.Plan.turned g.P.Plan.answer (shape_of c.args.self.now) g.J.Asks.intent c.args.plan None (part_view c.args.part.now) c.args.plan None (part_view c.args.part.now) c.in-Step.step c.step_as-first.result (part_view c.step_as-first.new.part) c.next.new.self (may_start g.P.Plan.takes g.P.Plan.turned g.P.Plan.answer (shape_of c.args.self.now) g.J.Asks.intent c.args.plan None (part_view c.args.part.now) c.requires.may) c.in-Step.ensures.answer c.in-Step.ensures.turned c.step_as-first.ensures.told in
    ran_walked g.P.Plan.takes g.P.Plan.turned g.P.Plan.answer (shape_of c.args.self.now) g.J.Asks.intent c.args.plan None (part_view c.args.part.now) c.in-Done-next.answer (part_view c.step_as-first.new.part) (comes_to g.P.Plan.takes g.P.Plan.turned g.P.Plan.answer (shape_of c.args.self.now) g.J.Asks.intent c.args.plan None (part_view c.args.part.now) c.next.new.self (Some c.step_as-first.result) (part_view c.step_as-first.new.part) c.in-Done-next.answer u1 (sym c.in-Done-next.ensures.answer))

-- after the second step
pub run_on-requires-clause-may : goal.run_on-requires-clause-may
run_on-requires-clause-may g c =
    let u1 = goes_on_to g.P.Plan.takes g.P.Plan.turned g.P.Plan.answer (shape_of c.args.self.now) g.J.Asks.intent c.args.plan None (part_view c.args.part.now) c.args.plan None (part_view c.args.part.now) c.in-Step.step c.step_as-first.result (part_view c.step_as-first.new.part) c.next.new.self (may_start g.P.Plan.takes g.P.Plan.turned g.P.Plan.answer (shape_of c.args.self.now) g.J.Asks.intent c.args.plan None (part_view c.args.part.now) c.requires.may) c.in-Step.ensures.answer c.in-Step.ensures.turned c.step_as-first.ensures.told in
    let u2 = goes_on_to g.P.Plan.takes g.P.Plan.turned g.P.Plan.answer (shape_of c.args.self.now) g.J.Asks.intent c.args.plan None (part_view c.args.part.now) c.next.new.self (Some c.step_as-first.result) (part_view c.step_as-first.new.part) c.in-Step-next.step c.step_as-second.result (part_view c.step_as-second.new.part) c.next-2.new.self u1 c.in-Step-next.ensures.answer c.in-Step-next.ensures.turned c.step_as-second.ensures.told in
    u2.may

pub returns-clause-ran : goal.returns-clause-ran
returns-clause-ran g c =
    let u1 = goes_on_to g.P.Plan.takes g.P.Plan.turned g.P.Plan.answer (shape_of c.args.self.now) g.J.Asks.intent c.args.plan None (part_view c.args.part.now) c.args.plan None (part_view c.args.part.now) c.in-Step.step c.step_as-first.result (part_view c.step_as-first.new.part) c.next.new.self (may_start g.P.Plan.takes g.P.Plan.turned g.P.Plan.answer (shape_of c.args.self.now) g.J.Asks.intent c.args.plan None (part_view c.args.part.now) c.requires.may) c.in-Step.ensures.answer c.in-Step.ensures.turned c.step_as-first.ensures.told in
    let u2 = goes_on_to g.P.Plan.takes g.P.Plan.turned g.P.Plan.answer (shape_of c.args.self.now) g.J.Asks.intent c.args.plan None (part_view c.args.part.now) c.next.new.self (Some c.step_as-first.result) (part_view c.step_as-first.new.part) c.in-Step-next.step c.step_as-second.result (part_view c.step_as-second.new.part) c.next-2.new.self u1 c.in-Step-next.ensures.answer c.in-Step-next.ensures.turned c.step_as-second.ensures.told in
    u2.so_far c.run_on.result (part_view c.run_on.new.part) c.run_on.ensures.ran

pub returns-clause-walked : goal.returns-clause-walked
returns-clause-walked g c =
    let u1 = goes_on_to g.P.Plan.takes g.P.Plan.turned g.P.Plan.answer (shape_of c.args.self.now) g.J.Asks.intent c.args.plan None (part_view c.args.part.now) c.args.plan None (part_view c.args.part.now) c.in-Step.step c.step_as-first.result (part_view c.step_as-first.new.part) c.next.new.self (may_start g.P.Plan.takes g.P.Plan.turned g.P.Plan.answer (shape_of c.args.self.now) g.J.Asks.intent c.args.plan None (part_view c.args.part.now) c.requires.may) c.in-Step.ensures.answer c.in-Step.ensures.turned c.step_as-first.ensures.told in
    let u2 = goes_on_to g.P.Plan.takes g.P.Plan.turned g.P.Plan.answer (shape_of c.args.self.now) g.J.Asks.intent c.args.plan None (part_view c.args.part.now) c.next.new.self (Some c.step_as-first.result) (part_view c.step_as-first.new.part) c.in-Step-next.step c.step_as-second.result (part_view c.step_as-second.new.part) c.next-2.new.self u1 c.in-Step-next.ensures.answer c.in-Step-next.ensures.turned c.step_as-second.ensures.told in
    ran_walked g.P.Plan.takes g.P.Plan.turned g.P.Plan.answer (shape_of c.args.self.now) g.J.Asks.intent c.args.plan None (part_view c.args.part.now) c.run_on.result (part_view c.run_on.new.part) (u2.so_far c.run_on.result (part_view c.run_on.new.part) c.run_on.ensures.ran)
