use Rattle.std.proofs.Common.{rules, arith}
use Rattle.std.proofs.lemmas.List.FromFn.{map-range_with_len_more}
use Rattle.arc_storm.specs.Storm.{storm_thread}
use Rattle.arc_storm.proofs.generate.deal_threads.Goals as goal

pub loop-i-preserved : goal.loop-i-preserved
loop-i-preserved c =
    let more = map-range_with_len_more (storm_thread c.args.operations.now) 0 c.loop-i.i c.loop-i.i (omega arith) in
    search (rules, more)
