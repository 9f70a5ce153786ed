use Rattle.std.proofs.Common.{rules}
use Rattle.arc_io.proofs.Pieces.{appends_next}
use Rattle.arc_io.proofs.moving.write_all.Goals as goal

pub loop-at-preserved : goal.loop-at-preserved
loop-at-preserved g c = record {
  in_range = search rules;
  part = appends_next (g.K.Sink.taken c.args.sink.now) (g.K.Sink.taken c.loop-at.sink) (g.K.Sink.taken c.write.new.self) c.args.bytes.now c.loop-at.at c.in_ok-at.field-0 c.loop-at.invariant.part c.in_ok-at.ensures.bytes;
  uncounted = search rules;
}
