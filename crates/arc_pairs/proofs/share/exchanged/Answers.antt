use Rattle.std.proofs.Common.{None, ◌∙◌, sym, subst}
use Rattle.arc_table.specs.Seats.{shape_of, view_of}
use Rattle.arc_table.specs.Cells.{KeepsUnput}
use Rattle.arc_pairs.specs.Ready.{IsOurAny}
use Rattle.arc_pairs.proofs.Readied.{ready_on, none_keeps, kept_on}
use Rattle.arc_pairs.proofs.Swapping.{may_put, any_on, got_apart, swap_keeps, unput_on}
use Rattle.arc_pairs.proofs.share.exchanged.Goals as goal

pub swap-requires-clause-put : goal.swap-requires-clause-put
swap-requires-clause-put g c =
    let heap = c.args.heap.now in
    may_put heap c.loop.pass c.args.global c.loop.put c.requires.global (subst (IsOurAny heap c.loop.pass) (sym c.loop.invariant.2) (any_on heap c.args.pass.now c.loop.pass c.args.put c.loop.invariant.1 c.requires.put))

pub returns-in-Ok-clause-apart : goal.returns-in-Ok-clause-apart
returns-in-Ok-clause-apart g c =
    let shape = shape_of c.args.heap.now in
    got_apart shape c.args.global c.loop.put c.in-Ok.before (view_of c.args.pass.now) (view_of c.loop.pass) (view_of c.swap.new.pass) c.loop.invariant.1 c.in-Ok.ensures.called.1 c.in-Ok.ensures.swapped

pub returns-in-Ok-clause-kept : goal.returns-in-Ok-clause-kept
returns-in-Ok-clause-kept g c =
    subst (λ p. KeepsUnput p (view_of c.args.pass.now) (view_of c.swap.new.pass)) c.loop.invariant.2
    (unput_on c.loop.put (view_of c.args.pass.now) (view_of c.loop.pass) (view_of c.swap.new.pass) c.loop.invariant.1 (swap_keeps c.args.global c.loop.put c.in-Ok.before (view_of c.loop.pass) (view_of c.swap.new.pass) c.in-Ok.ensures.has))

pub loop-preserved-in-Busy : goal.loop-preserved-in-Busy
loop-preserved-in-Busy g c = (
  ready_on c.args.heap.now None 2 c.loop.pass c.swap.new.pass c.loop.invariant.0 c.in-Busy.ensures.called,
  kept_on (view_of c.args.pass.now) (view_of c.loop.pass) (view_of c.swap.new.pass) c.loop.invariant.1 (none_keeps (view_of c.loop.pass) (view_of c.swap.new.pass) c.in-Busy.ensures.has),
  c.in-Busy.ensures.swapped.0 ∙ c.loop.invariant.2,
)

pub loop-preserved : goal.loop-preserved
loop-preserved g c = (
  ready_on c.args.heap.now None 2 c.loop.pass c.swap.new.pass c.loop.invariant.0 c.in-Busy.ensures.called,
  kept_on (view_of c.args.pass.now) (view_of c.loop.pass) (view_of c.swap.new.pass) c.loop.invariant.1 (none_keeps (view_of c.loop.pass) (view_of c.swap.new.pass) c.in-Busy.ensures.has),
  c.in-Busy.ensures.swapped.0 ∙ c.loop.invariant.2,
)
