use Rattle.std.proofs.Common.{◌≡◌, sym, ap, ◌∙◌, subst, None}
use Rattle.arc_rule.specs.declared.step.Intent.{Intent}
use Rattle.arc_rule.specs.Places.{extent_of}
use Rattle.arc_plan.specs.declared.slots.Once.TheVariants.{Start}
use Rattle.arc_plan.specs.Slots.{OneStep, one_turned, name_of_takes, name_of_answer}
use Rattle.arc_table.specs.Seats.{shape_of, part_view}
use Rattle.arc_table.specs.Tokens.{hand_of}
use Rattle.arc_table.specs.Runs.{MayRun, Ran}
use Rattle.arc_table.proofs.Naming.{may_name, has_named}
use Rattle.arc_table.proofs.heap.Heap.load_name.Goals as goal

pub run_as-requires-clause-may : goal.run_as-requires-clause-may
run_as-requires-clause-may g c =
    let v = part_view c.args.part.now in
    let t = c.args.of.now in
    let shape = shape_of c.args.self.now in
    let d = c.requires.held in
    let plan_is : c.start-plan.result ≡ record { layout = extent_of shape; slot = t.slot; at = Start } = c.start-plan.ensures ∙ ap (λ l. record { layout = l; slot = t.slot; at = Start }) c.args.self.now.laid in
    subst (λ (p : Intent × OneStep). MayRun name_of_takes one_turned name_of_answer shape p.0 p.1 None v) (λ j. (sym c.requires.asks.0 j, sym plan_is j))
    (may_name shape (hand_of t) t.slot v c.args.self.now.sized d.0 c.requires.free d.1.1.0 d.1.1.1 d.1.1.2 d.1.1.3 d.1.1.4)

pub returns-clause-called : goal.returns-clause-called
returns-clause-called g c =
    let v = part_view c.args.part.now in
    let t = c.args.of.now in
    let shape = shape_of c.args.self.now in
    let d = c.requires.held in
    let w = part_view c.run_as.new.part in
    let plan_is : c.start-plan.result ≡ record { layout = extent_of shape; slot = t.slot; at = Start } = c.start-plan.ensures ∙ ap (λ l. record { layout = l; slot = t.slot; at = Start }) c.args.self.now.laid in (
      c.run_as.ensures.same,
      (has_named shape (hand_of t) t.slot v c.args.self.now.sized d.0 c.requires.free d.1.1.0 d.1.1.1 d.1.1.2 d.1.1.3 d.1.1.4 c.run_as.result w
          (subst (λ (p : Intent × OneStep). Ran one_turned name_of_answer shape p.0 p.1 None v c.run_as.result w) (λ j. (c.requires.asks.0 j, plan_is j)) c.run_as.ensures.ran)).1,
    )

pub returns-clause-named : goal.returns-clause-named
returns-clause-named g c =
    let v = part_view c.args.part.now in
    let t = c.args.of.now in
    let shape = shape_of c.args.self.now in
    let d = c.requires.held in
    let w = part_view c.run_as.new.part in
    let plan_is : c.start-plan.result ≡ record { layout = extent_of shape; slot = t.slot; at = Start } = c.start-plan.ensures ∙ ap (λ l. record { layout = l; slot = t.slot; at = Start }) c.args.self.now.laid in (
      d.1.1.0,
      d.1.1.1,
      d.1.1.2,
      d.1.1.3,
      d.1.1.4,
      sym (has_named shape (hand_of t) t.slot v c.args.self.now.sized d.0 c.requires.free d.1.1.0 d.1.1.1 d.1.1.2 d.1.1.3 d.1.1.4 c.run_as.result w
          (subst (λ (p : Intent × OneStep). Ran one_turned name_of_answer shape p.0 p.1 None v c.run_as.result w) (λ j. (c.requires.asks.0 j, plan_is j)) c.run_as.ensures.ran)).0,
    )
