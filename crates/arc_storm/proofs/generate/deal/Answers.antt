use Rattle.std.proofs.Common.{◌∙◌}
use Rattle.arc_storm.proofs.Dealt.{dealt_yes, dealt_no}
use Rattle.arc_storm.proofs.generate.deal.Goals as goal
use Rattle.arc_storm.proofs.generate.deal.Goals.{then-i-thread+in_ok-push, else-i-thread}

pub loop-i-preserved : goal.loop-i-preserved
loop-i-preserved c = elim c.if-i-thread.branch [
  | then-i-thread+in_ok-push w ↦
      dealt_yes c.args.operations.now c.args.thread c.loop-i.i _ c.loop-i.dealt c.if-i-thread.dealt c.loop-i-test.true w.if-i-thread.true c.loop-i.invariant (w.dealt-is ∙ w.in_ok-push.ensures.ok)
  | else-i-thread w ↦ dealt_no c.args.operations.now c.args.thread c.loop-i.i c.loop-i.dealt c.if-i-thread.dealt c.loop-i-test.true w.if-i-thread.false c.loop-i.invariant w.dealt-is
]
