use Rattle.arc.proofs.Reported.{threads_told, end_told, events_told, final_words, classes_there}
use Rattle.arc.proofs.output.replay_text.Goals as goal

pub report_text-requires-clause-threads : goal.report_text-requires-clause-threads
report_text-requires-clause-threads c =
    rw c.deref.ensures.value (threads_told c.args.script.now c.in_ok-replay.replay c.requires.script c.in_ok-replay.ensures)

pub report_text-requires-clause-end : goal.report_text-requires-clause-end
report_text-requires-clause-end c =
    rw c.deref-2.ensures.value (end_told c.args.script.now c.in_ok-replay.replay c.requires.script c.in_ok-replay.ensures)

pub report_text-requires-clause-words : goal.report_text-requires-clause-words
report_text-requires-clause-words c =
    rw c.deref-3.ensures.value (final_words c.args.script.now.shape _ c.in_ok-replay.ensures.no_entries)

pub report_text-requires-clause-classes : goal.report_text-requires-clause-classes
report_text-requires-clause-classes c =
    rw c.deref-3.ensures.value (classes_there c.args.script.now _ c.requires.script c.in_ok-replay.ensures.no_entries)

pub history_text-requires-clause-events : goal.history_text-requires-clause-events
history_text-requires-clause-events c =
    rw c.deref-4.ensures.value (events_told c.args.script.now c.in_ok-replay.replay c.requires.script c.in_ok-replay.ensures)

pub returns : goal.returns
returns c = record {
  replay = c.in_ok-replay.replay;
  of_script = c.in_ok-replay.ensures;
  text = cc (c.in_ok-extend_from_slice.ensures.items, c.in_ok-text.ensures, c.in_ok-history.ensures);
}
