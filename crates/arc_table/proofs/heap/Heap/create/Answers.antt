use Rattle.std.proofs.Common.{◌≡◌, sym, ap, ◌∙◌, subst, None}
use Rattle.arc_rule.specs.declared.step.Intent.{Intent}
use Rattle.arc_plan.specs.declared.slots.Making.TheVariants.{Start}
use Rattle.arc_plan.specs.Slots.{Creation, creation_takes, creation_turned, creation_answer}
use Rattle.arc_rule.specs.Places.{extent_of}
use Rattle.arc_table.specs.Seats.{shape_of, part_view}
use Rattle.arc_table.specs.Runs.{MayRun, Ran}
use Rattle.arc_table.proofs.Making.{may_make, has_made}
use Rattle.arc_table.proofs.heap.Heap.create.Goals as goal

pub run_on-requires-clause-may : goal.run_on-requires-clause-may
run_on-requires-clause-may g c =
    let v = part_view c.args.part.now in
    let name = c.args.name in
    let shape = shape_of c.args.self.now in
    let plan_is : c.start-plan.result ≡ record { layout = extent_of shape; name = name; immortal = c.args.immortal; at = Start } = c.start-plan.ensures ∙ ap (λ l. record { layout = l; name = name; immortal = c.args.immortal; at = Start }) c.args.self.now.laid in
    subst (λ (t : Intent × Creation). MayRun creation_takes creation_turned creation_answer shape t.0 t.1 None v) (λ j. (sym c.requires.asks.0 j, sym plan_is j))
    (may_make shape name c.args.immortal v c.requires.class c.requires.immortal c.requires.room c.requires.free (λ j. record { class = name.class; thread = c.requires.next.0 j; number = c.requires.next.1 j }) c.args.self.now.sized.shape_fits.slots_fit.0)

pub returns-clause-called : goal.returns-clause-called
returns-clause-called g c =
    let v = part_view c.args.part.now in
    let name = c.args.name in
    let shape = shape_of c.args.self.now in
    let plan_is : c.start-plan.result ≡ record { layout = extent_of shape; name = name; immortal = c.args.immortal; at = Start } = c.start-plan.ensures ∙ ap (λ l. record { layout = l; name = name; immortal = c.args.immortal; at = Start }) c.args.self.now.laid in (
      c.run_on.ensures.same,
      (has_made shape name c.args.immortal v c.requires.class c.requires.immortal c.requires.room c.requires.free (λ j. record { class = name.class; thread = c.requires.next.0 j; number = c.requires.next.1 j }) c.args.self.now.sized.shape_fits.slots_fit.0 c.run_on.result (part_view c.run_on.new.part)
          (subst (λ (t : Intent × Creation). Ran creation_turned creation_answer shape t.0 t.1 None v c.run_on.result (part_view c.run_on.new.part)) (λ j. (c.requires.asks.0 j, plan_is j)) c.run_on.ensures.ran)).1,
    )

pub returns-clause-created : goal.returns-clause-created
returns-clause-created g c =
    let v = part_view c.args.part.now in
    let name = c.args.name in
    let shape = shape_of c.args.self.now in
    let plan_is : c.start-plan.result ≡ record { layout = extent_of shape; name = name; immortal = c.args.immortal; at = Start } = c.start-plan.ensures ∙ ap (λ l. record { layout = l; name = name; immortal = c.args.immortal; at = Start }) c.args.self.now.laid in
    (has_made shape name c.args.immortal v c.requires.class c.requires.immortal c.requires.room c.requires.free (λ j. record { class = name.class; thread = c.requires.next.0 j; number = c.requires.next.1 j }) c.args.self.now.sized.shape_fits.slots_fit.0 c.run_on.result (part_view c.run_on.new.part)
    (subst (λ (t : Intent × Creation). Ran creation_turned creation_answer shape t.0 t.1 None v c.run_on.result (part_view c.run_on.new.part)) (λ j. (c.requires.asks.0 j, plan_is j)) c.run_on.ensures.ran)).0
