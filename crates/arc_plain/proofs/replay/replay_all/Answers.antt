use Rattle.std.proofs.Common.{List, drop, ap, ◌∙◌}
use Rattle.arc_ops.specs.Thread.{Thread}
use Rattle.arc_replays.specs.Histories.{lines_from, first_lines}
use Rattle.arc_plain.specs.Crews.{Progress}
use Rattle.arc_plain.proofs.Replays.{crew_few, replay_is}
use Rattle.arc_plain.proofs.replay.replay_all.Goals as goal

pub lines_of-requires : goal.lines_of-requires
lines_of-requires c = rw c.steppers.ensures (crew_few c.in_ok-crew.crew c.run.new.self c.in_ok-run.ensures)

pub returns : goal.returns
returns c =
    replay_is c.args.script.now c.in_ok-crew.crew c.run.new.self (record { threads = c.in_ok-threads.threads; end = c.in_ok-end.end; events = c.into_events.result; words = c.in_ok-words.words; steps = c.steps-steps.result })
    (ap (λ (x : Progress). x.script) c.in_ok-crew.ensures) c.in_ok-run.ensures (c.in_ok-threads.ensures ∙ ap (λ (ts : List Thread). lines_from 1 (drop 1 ts)) c.steppers.ensures)
    (c.in_ok-end.ensures.items ∙ (c.end_lines.ensures ∙ ap first_lines c.steppers-2.ensures)) c.into_events.ensures (c.in_ok-words.ensures.items ∙ c.words.ensures) c.steps-steps.ensures
