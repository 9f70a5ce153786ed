use Rattle.std.proofs.Common.{◌≡◌, ◌+◌, ◌++◌, ◌∷◌, [], List, ap, ◌∙◌, arith}
use Rattle.arc_ops.specs.Thread.{Thread, stepper_of}
use Rattle.arc_replays.specs.Stages.{new_threads}
use Rattle.arc_plain.proofs.Keeps.{new_more}
use Rattle.arc_plain.proofs.crew.new_steppers.Goals as goal

pub loop-thread-preserved : goal.loop-thread-preserved
loop-thread-preserved c =
    let more = new_more c.args.script.now c.loop-thread.thread 0 in
    let at : stepper_of c.args.script.now (0 + c.loop-thread.thread) ≡ stepper_of c.args.script.now c.loop-thread.thread = ap (stepper_of c.args.script.now) (omega arith) in
    c.in_ok-push.ensures.items ∙ (ap (λ (ts : List Thread). ts ++ c.in_ok-make.field-0 ∷ []) c.loop-thread.invariant ∙ (ap (λ (t : Thread). new_threads c.args.script.now c.loop-thread.thread 0 ++ t ∷ []) (c.in_ok-make.ensures ∙ ap (stepper_of c.args.script.now) (omega arith)) ∙ more))
