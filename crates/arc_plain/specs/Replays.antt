-- What `replay_all` gives: the replay of a script that came to its end, its one legal history and its lines. (Stage, Reached and IsRun stand in arc_replays/specs/Stages.antt.)
use Rattle.std.specs.Prelude.{◌≡◌, ◌<◌, ◌^◌, drop, length, reverse, All}
use Rattle.arc_model.specs.Shapes.{HeapShape}
use Rattle.arc_quiet.specs.OneWay.{StrongFieldsLeadOneWay}
use Rattle.arc_script.specs.declared.script.Script.{Script}
use Rattle.arc_ops.specs.declared.told.Stamped.{Stamped}
use Rattle.arc_ops.specs.declared.told.ThreadLines.{ThreadLines}
use Rattle.arc_replays.specs.Histories.{history_of, lines_from, first_lines, IsHistory}
use Rattle.arc_replays.specs.Left.{OnlyImmortals, NoEntries, ImmortalsHaveNoFields}
use Rattle.arc_replays.specs.Named.{LineFits, ActFits}
use Rattle.arc_replays.specs.Stages.{Stage, IsRun}
use Rattle.arc_plain.specs.declared.replay.Replay.{Replay}

abbrev pub StampedFits : HeapShape → Stamped → Type 0
StampedFits shape s = ActFits shape s.event.act

-- The replay is the run that came to this stage, and in the end no entry is taken. Where strong fields lead one way along the classes and immortal objects
-- have none, no object is left but immortal ones. Lines and events name classes of the script, and events its cells.
pub record IsReplay (script : Script) (r : Replay) : Type 0 where
  pub last : Stage
  pub run : IsRun script last
  pub threads : r.threads.items ≡ lines_from 1 (drop 1 last.threads)
  pub end : r.end.items ≡ first_lines last.threads
  pub events : reverse r.events.items ≡ last.events
  pub words : r.words.items ≡ last.words
  pub steps : r.steps ≡ last.steps
  pub history : IsHistory script r.threads.items r.end.items (history_of (reverse r.events.items)) r.words.items
  pub no_entries : NoEntries script.shape r.words.items
  pub left : ImmortalsHaveNoFields script.shape → StrongFieldsLeadOneWay script.shape → OnlyImmortals script.shape r.words.items
  pub bound : r.steps < 2 ^ 62
  pub lines_fit : All (λ (x : ThreadLines). All (LineFits (length script.shape.classes)) x.lines) r.threads.items
  pub end_fits : All (LineFits (length script.shape.classes)) r.end.items
  pub events_fit : All (StampedFits script.shape) r.events.items
