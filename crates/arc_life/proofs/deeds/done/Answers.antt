use Rattle.std.proofs.Common.{◌≡◌, ◌∙◌, sym, ap}
use Rattle.std.proofs.lemmas.List.{at_drop_all}
use Rattle.arc_view.specs.declared.view.View.{View}
use Rattle.arc_table.specs.Seats.{shape_of, view_of}
use Rattle.arc_life.specs.Alone.{after_all}
use Rattle.arc_life.proofs.Alone.{one_done, all_seen}
use Rattle.arc_life.proofs.deeds.done.Goals as goal

pub loop-deed-preserved : goal.loop-deed-preserved
loop-deed-preserved c =
    let inv = c.loop-deed.invariant in
    let next = one_done (shape_of c.args.heap.now) (view_of c.loop-deed.pass) (view_of c.step.new.pass) c.args.deeds.now c.loop-deed.deed-index _ c.step.result c.loop-deed-test.true inv.1 inv.2 c.step.ensures.given c.step.ensures.told in
    (c.step.ensures.same ∙ inv.0, next.1, next.2, next.3 ∙ inv.3)

-- no step finds another word
pub returns-then-step-word-clause-found : goal.returns-then-step-word-clause-found
returns-then-step-word-clause-found c =
    let inv = c.loop-deed.invariant in
    absurd (c.if-step-word.true (one_done (shape_of c.args.heap.now) (view_of c.loop-deed.pass) (view_of c.step.new.pass) c.args.deeds.now c.loop-deed.deed-index _ c.step.result c.loop-deed-test.true inv.1 inv.2 c.step.ensures.given c.step.ensures.told).0)

pub returns-then-step-word-clause-after : goal.returns-then-step-word-clause-after
returns-then-step-word-clause-after c =
    let inv = c.loop-deed.invariant in
    absurd (c.if-step-word.true (one_done (shape_of c.args.heap.now) (view_of c.loop-deed.pass) (view_of c.step.new.pass) c.args.deeds.now c.loop-deed.deed-index _ c.step.result c.loop-deed-test.true inv.1 inv.2 c.step.ensures.given c.step.ensures.told).0)

pub returns-then-step-word-clause-seen : goal.returns-then-step-word-clause-seen
returns-then-step-word-clause-seen c =
    let inv = c.loop-deed.invariant in
    absurd (c.if-step-word.true (one_done (shape_of c.args.heap.now) (view_of c.loop-deed.pass) (view_of c.step.new.pass) c.args.deeds.now c.loop-deed.deed-index _ c.step.result c.loop-deed-test.true inv.1 inv.2 c.step.ensures.given c.step.ensures.told).0)

pub returns-clause-seen : goal.returns-clause-seen
returns-clause-seen c =
    let shape = shape_of c.args.heap.now in
    let v = view_of c.args.pass.now in
    let inv = c.loop-deed.invariant in
    let all = at_drop_all (after_all shape (view_of c.loop-deed.pass)) c.args.deeds.now c.loop-deed.deed-index c.loop-deed-test.false in
    ap (λ (w : View). w.seen) (sym all ∙ inv.3) ∙ all_seen shape v c.args.deeds.now c.requires.alone.first c.requires.goes
