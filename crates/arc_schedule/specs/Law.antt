-- The steps of a replay are a schedule run.
use Rattle.std.specs.Prelude.{ℕ, ◌≡◌, ◌+◌, List, [], ◌∷◌, length}
use Rattle.arc_script.specs.declared.script.Script.{Script}
use Rattle.arc_script.specs.Valid.{IsScript}
use Rattle.arc_ops.specs.declared.told.Stamped.{Stamped}
use Rattle.arc_served.specs.Served.{IsServed}
use Rattle.arc_replays.specs.Stages.{Stage, IsRun, stamped}
use Rattle.arc_schedule.specs.Made.{Made}
use Rattle.arc_schedule.specs.Orders.{IsScheduleRun}

-- the events of the steps, each with the number and the thread of its step; both lists have the newest first
abbrev pub events_of : List Made → List Stamped
events_of [] = []
events_of (m ∷ ms) = stamped (length ms + 1) m.point.thread m.event (events_of ms)

-- a schedule run of so many steps, that leaves these words and has these events
pub record IsScheduled (script : Script) (words : List ℕ) (steps : ℕ) (events : List Stamped) : Type 0 where
  pub made : List Made
  pub run : IsScheduleRun script made words
  pub count : length made ≡ steps
  pub events_are : events ≡ events_of made

abbrev pub ReplaysAreScheduleRuns : Type 0
ReplaysAreScheduleRuns = (script : Script) (last : Stage) → IsScript script → IsServed script → IsRun script last → IsScheduled script last.words last.steps last.events
