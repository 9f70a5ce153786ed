use Rattle.std.proofs.Common.{◌≡◌, sym, ap, ◌∙◌, subst, None}
use Rattle.arc_rule.specs.declared.step.Intent.{Intent}
use Rattle.arc_rule.specs.Places.{extent_of}
use Rattle.arc_plan.specs.declared.slots.Once.TheVariants.{Start}
use Rattle.arc_plan.specs.Slots.{OneStep, one_turned, vacate_takes, vacate_answer}
use Rattle.arc_table.specs.Seats.{shape_of, part_view}
use Rattle.arc_table.specs.Runs.{MayRun, Ran}
use Rattle.arc_table.proofs.Leaving.{may_vacate, has_vacated}
use Rattle.arc_table.proofs.heap.Heap.vacate_slot.Goals as goal

pub run_as-requires-clause-may : goal.run_as-requires-clause-may
run_as-requires-clause-may g c =
    let v = part_view c.args.part.now in
    let f = c.args.freed.now in
    let shape = shape_of c.args.self.now in
    let d = c.requires.freed in
    let plan_is : c.start-plan.result ≡ record { layout = extent_of shape; slot = f.slot; at = Start } = c.start-plan.ensures ∙ ap (λ l. record { layout = l; slot = f.slot; at = Start }) c.args.self.now.laid in
    subst (λ (p : Intent × OneStep). MayRun vacate_takes one_turned vacate_answer shape p.0 p.1 None v) (λ j. (sym c.requires.asks.0 j, sym plan_is j))
    (may_vacate shape f.slot f.entry v c.args.self.now.sized d.0 c.requires.free d.1.0 d.1.1 d.1.2 d.1.3 d.1.4 d.1.5)

pub returns-clause-called : goal.returns-clause-called
returns-clause-called g c =
    let v = part_view c.args.part.now in
    let f = c.args.freed.now in
    let shape = shape_of c.args.self.now in
    let d = c.requires.freed in
    let plan_is : c.start-plan.result ≡ record { layout = extent_of shape; slot = f.slot; at = Start } = c.start-plan.ensures ∙ ap (λ l. record { layout = l; slot = f.slot; at = Start }) c.args.self.now.laid in
    let w = part_view c.run_as.new.part in (
      c.run_as.ensures.same,
      (has_vacated shape f.slot f.entry v c.args.self.now.sized d.0 c.requires.free d.1.0 d.1.1 d.1.2 d.1.3 d.1.4 d.1.5 tt w
          (subst (λ (p : Intent × OneStep). Ran one_turned vacate_answer shape p.0 p.1 None v tt w) (λ j. (c.requires.asks.0 j, plan_is j)) c.run_as.ensures.ran)).1,
    )

pub returns-clause-left : goal.returns-clause-left
returns-clause-left g c =
    let v = part_view c.args.part.now in
    let f = c.args.freed.now in
    let shape = shape_of c.args.self.now in
    let d = c.requires.freed in
    let plan_is : c.start-plan.result ≡ record { layout = extent_of shape; slot = f.slot; at = Start } = c.start-plan.ensures ∙ ap (λ l. record { layout = l; slot = f.slot; at = Start }) c.args.self.now.laid in
    let w = part_view c.run_as.new.part in
    (has_vacated shape f.slot f.entry v c.args.self.now.sized d.0 c.requires.free d.1.0 d.1.1 d.1.2 d.1.3 d.1.4 d.1.5 tt w
    (subst (λ (p : Intent × OneStep). Ran one_turned vacate_answer shape p.0 p.1 None v tt w) (λ j. (c.requires.asks.0 j, plan_is j)) c.run_as.ensures.ran)).0
