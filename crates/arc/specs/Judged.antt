-- What `check` is to say of what `replay` writes.
use Rattle.std.specs.Prelude.{◌≡◌, ℕ, ◌≤◌, List, length, Option, Some}
use Rattle.arc_script.specs.declared.script.Script.{Script}
use Rattle.arc_script.specs.Valid.{IsScript}
use Rattle.arc_served.specs.Served.{IsServed}
use Rattle.arc_plain.specs.declared.replay.Replay.{Replay}
use Rattle.arc_plain.specs.Replays.{IsReplay}
use Rattle.arc_judged.specs.Written.{written}

-- The source had the report and then the history text of a replay with so many events, within the limit.
pub record HadReplay (left : Option (List ℕ)) (events : ℕ) : Type 0 where
  pub script : Script
  pub replay : Replay
  pub valid : IsScript script
  pub served : IsServed script
  pub of_script : IsReplay script replay
  pub text : left ≡ Some (written script replay)
  pub within : length (written script replay) ≤ 67108864
  pub count : events ≡ length replay.events.items
