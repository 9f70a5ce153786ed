use Rattle.std.proofs.Common.{List, [], ◌∷◌, ◌++◌, take, drop, ap, ◌∙◌, sym, arith}
use Rattle.arc_script.specs.declared.answer.Line.{Line}
use Rattle.arc_ops.specs.declared.told.ThreadLines.{ThreadLines}
use Rattle.arc_ops.specs.Thread.{Thread}
use Rattle.arc_replays.specs.Histories.{lines_from}
use Rattle.arc_plain.proofs.Replays.{lines_more}
use Rattle.arc_plain.proofs.replay.lines_of.Goals as goal

pub loop-thread-preserved : goal.loop-thread-preserved
loop-thread-preserved c =
    let more = lines_more c.args.steppers.now c.loop-thread.thread c.index-steppers-thread.result (omega arith) (omega arith) in
    let lines = c.in_ok-lines.ensures ∙ (c.lines.ensures ∙ ap (λ (t : Thread). t.kept.lines) c.index-steppers-thread.is) in
    c.in_ok-push.ensures.items ∙ (ap (λ (ls : List ThreadLines). ls ++ record { thread = c.loop-thread.thread; lines = c.in_ok-lines.lines } ∷ []) c.loop-thread.invariant ∙
    (ap (λ (ls : List Line). lines_from 1 (drop 1 (take c.loop-thread.thread c.args.steppers.now)) ++ record { thread = c.loop-thread.thread; lines = ls } ∷ []) lines ∙ sym more))
