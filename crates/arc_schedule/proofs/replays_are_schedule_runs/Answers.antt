use Rattle.arc_schedule.proofs.Runs.{replays_are_schedule_runs as law}
use Rattle.arc_schedule.proofs.replays_are_schedule_runs.Goals as goal

pub returns : goal.returns
returns c = law
