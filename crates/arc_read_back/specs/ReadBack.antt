-- The events of a run as a history text tells them.
use Rattle.std.specs.Prelude.{◌^◌, ◌<◌, ◌≤◌, List, length, map}
use Rattle.std.specs.List.{AllByRecursion}
use Rattle.arc_script.specs.declared.script.ClassDecl.{ClassDecl}
use Rattle.arc_script.specs.declared.script.Script.{Script}
use Rattle.arc_script.specs.Valid.{OfSecond, IsHeading}
use Rattle.arc_ops.specs.declared.told.Stamped.{Stamped}
use Rattle.arc_check.specs.declared.line.EventLine.{EventLine}
use Rattle.arc_check.specs.EventTexts.{HistoryText}
use Rattle.arc_check.specs.WrittenHistory.{named_of, numbered, first_line, EventFits}

-- the script has a heading, of one of the two versions, and so few threads that a history text may say how many
pub record HasHeading (script : Script) : Type 0 where
  pub version : (1 ≤ script.version) × (script.version ≤ 2)
  pub classes_of_version : AllByRecursion (λ (c : ClassDecl). OfSecond script.version c.immortal) script.classes
  pub heading : IsHeading script.shape script.classes script.globals
  pub wide_cap : script.shape.caps.wide < 2 ^ 32
  pub few_threads : length script.threads ≤ 64

-- an event that stands on no line yet
abbrev pub unlined : Stamped → EventLine
unlined s = record { line = 0; step = s.step; event = s.event }

-- what the event names is there
abbrev pub StampedFits : Script → Stamped → Type 0
StampedFits script s = EventFits (named_of script.shape script.classes script.globals (length script.threads)) (unlined s)

-- the shape and the threads of the script, and the events in order, each with the number of its line
abbrev pub told_of : Script → List Stamped → HistoryText
told_of script events = record {
  shape = script.shape;
  threads = length script.threads;
  events = numbered (first_line script.classes script.globals) (map unlined events);
}
