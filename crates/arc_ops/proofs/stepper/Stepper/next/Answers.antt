use Rattle.std.proofs.Common.{false, None, map, ap, sym, ◌∙◌}
use Rattle.arc_cells.specs.Cascades.{CascadeState}
use Rattle.arc_script.specs.declared.script.VarDecl.{VarDecl}
use Rattle.arc_ops.specs.Thread.{Thread}
use Rattle.arc_ops.proofs.Moves.{making_goes_on, turn_stays, gain_answers}
use Rattle.arc_ops.proofs.stepper.Stepper.next.Goals as goal

pub die_on-requires-clause-layout : goal.die_on-requires-clause-layout
die_on-requires-clause-layout c =
    let here = rw (sym c.replace-doing.ensures.value ∙ c.in-Dying.is) at c.self.invariant.under_way in
    ap (λ (x : CascadeState). x.layout) c.next-next-in-Dying.ensures.turned ∙ (turn_stays c.in-Dying.cascade c.args.last).layout ∙ here.0 ∙ sym (ap (λ (t : Thread). t.layout) c.tell_deinit.ensures)

pub die_on-requires-clause-shape : goal.die_on-requires-clause-shape
die_on-requires-clause-shape c =
    let here = rw (sym c.replace-doing.ensures.value ∙ c.in-Dying.is) at c.self.invariant.under_way in
    ap (λ (x : CascadeState). x.shape) c.next-next-in-Dying.ensures.turned ∙ (turn_stays c.in-Dying.cascade c.args.last).shape ∙ here.1 ∙ sym (ap (λ (t : Thread). t.shape) c.tell_deinit.ensures)

pub die_on-requires-clause-died : goal.die_on-requires-clause-died
die_on-requires-clause-died c = rw (c.next-next-in-Dying.ensures.turned, c.next-next-in-Dying.ensures.answer) (turn_stays c.in-Dying.cascade c.args.last).died

pub make_on-requires-clause-goes_on : goal.make_on-requires-clause-goes_on
make_on-requires-clause-goes_on c =
    let under_way = rw (sym c.replace-doing.ensures.value ∙ c.in-Making.is) at c.self.invariant.under_way in
    let in_operation = rw (sym c.replace-doing.ensures.value ∙ c.in-Making.is) at c.self.invariant.in_operation in
    let i = c.self.inside in
    let idle : Thread = record { layout = i.layout; shape = i.shape.now; thread = i.thread; phases = i.phases.now; program = i.program; vars = i.vars.items; classes = map (λ (v : VarDecl). v.class) i.declared.now; phase = i.phase; index = i.index; doing = c.replace-doing.new.dest; asked = i.asked; first = false; hands = i.hands; made = i.made; cleared = i.cleared; taken = i.taken; event = None; kept = i.lines } in
    rw (c.next-next.ensures.turned, c.next-next.ensures.answer)
    (making_goes_on idle c.in-Making.name c.in-Making.plan c.args.last under_way.2 under_way.3 under_way.1 in_operation.1)

pub gain_on-requires-clause-answer : goal.gain_on-requires-clause-answer
gain_on-requires-clause-answer c =
    let takes = rw (← c.self.view_is) at c.requires.takes in
    let here = rw (sym c.replace-doing.ensures.value ∙ c.in-Gaining.is) at takes.0 in
    gain_answers c.in-Gaining.gain c.in-Gaining.plan c.args.last here
