use Rattle.std.proofs.Common.{sym, subst}
use Rattle.arc_table.specs.Ends.{finish_act}
use Rattle.arc_table.specs.Seats.{view_of}
use Rattle.arc_pairs.specs.Ready.{IsOurDying}
use Rattle.arc_pairs.proofs.Readied.{bare, ready_on, finish_keeps, vacate_keeps, dying_on, kept_on}
use Rattle.arc_pairs.proofs.life.end.Goals as goal

pub finish-requires-clause-bare : goal.finish-requires-clause-bare
finish-requires-clause-bare g c = bare c.args.heap.now c.loop.pass c.loop.dying c.loop.invariant.0 c.requires.plain c.loop.invariant.2

pub returns-in-More-clause-kept : goal.returns-in-More-clause-kept
returns-in-More-clause-kept g c = kept_on (view_of c.args.pass.now) (view_of c.loop.pass) (view_of c.finish.new.pass) c.loop.invariant.1 (finish_keeps c.loop.dying c.finish.result (view_of c.loop.pass) (view_of c.finish.new.pass) c.finish.ensures.has)

pub returns-in-Last-clause-kept : goal.returns-in-Last-clause-kept
returns-in-Last-clause-kept g c = kept_on (view_of c.args.pass.now) (view_of c.finish.new.pass) (view_of c.vacate.new.pass) (kept_on (view_of c.args.pass.now) (view_of c.loop.pass) (view_of c.finish.new.pass) c.loop.invariant.1 (finish_keeps c.loop.dying c.finish.result (view_of c.loop.pass) (view_of c.finish.new.pass) c.finish.ensures.has)) (vacate_keeps c.in-Last.freed.slot (view_of c.finish.new.pass) (view_of c.vacate.new.pass) c.vacate.ensures.has)

pub loop-preserved : goal.loop-preserved
loop-preserved g c = (
  ready_on c.args.heap.now (finish_act c.loop.dying c.finish.result) 3 c.loop.pass c.finish.new.pass c.loop.invariant.0 c.finish.ensures.called,
  kept_on (view_of c.args.pass.now) (view_of c.loop.pass) (view_of c.finish.new.pass) c.loop.invariant.1 (finish_keeps c.loop.dying c.finish.result (view_of c.loop.pass) (view_of c.finish.new.pass) c.finish.ensures.has),
  subst (IsOurDying c.args.heap.now c.finish.new.pass) (sym c.in-Again.ensures.finished.0) (dying_on c.args.heap.now c.loop.pass c.finish.new.pass c.loop.dying c.in-Again.ensures.has c.loop.invariant.2),
)
