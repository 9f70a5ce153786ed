use Rattle.arc_replays.proofs.Laws.{stages_are_whole, threads_are_at_work, steps_may_be_made, phases_may_begin}
use Rattle.arc_replays.proofs.stages_go_on.Goals as goal

pub returns-clause-whole : goal.returns-clause-whole
returns-clause-whole c = stages_are_whole

pub returns-clause-at_work : goal.returns-clause-at_work
returns-clause-at_work c = threads_are_at_work

pub returns-clause-step : goal.returns-clause-step
returns-clause-step c = steps_may_be_made

pub returns-clause-phase : goal.returns-clause-phase
returns-clause-phase c = phases_may_begin
