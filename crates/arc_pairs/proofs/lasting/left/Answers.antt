use Rattle.std.proofs.Common.{sym, subst}
use Rattle.arc_table.specs.Tokens.{release_act}
use Rattle.arc_table.specs.Seats.{view_of}
use Rattle.arc_pairs.specs.Ready.{IsOfClass}
use Rattle.arc_pairs.proofs.Readied.{ready_on, of_class_on, same_on}
use Rattle.arc_pairs.proofs.lasting.left.Goals as goal

pub release-requires-clause-held : goal.release-requires-clause-held
release-requires-clause-held g c = (c.loop.invariant.1.0, (1, c.loop.invariant.1.1))

pub loop-preserved : goal.loop-preserved
loop-preserved g c =
    let heap = c.args.heap.now in (
      ready_on heap (release_act c.loop.held c.release.result) 3 c.loop.pass c.release.new.pass c.loop.invariant.0 c.release.ensures.called,
      subst (IsOfClass 1 heap c.release.new.pass) (sym c.in-Again.ensures.released.0) (of_class_on heap 1 c.loop.pass c.release.new.pass c.loop.held c.in-Again.ensures.has c.loop.invariant.1),
      same_on heap (release_act c.loop.held c.release.result) 3 (view_of c.args.pass.now) c.loop.pass c.release.new.pass c.loop.invariant.2 c.release.ensures.called,
    )
