use Rattle.arc_replays.proofs.Beginning.{replays_begin}
use Rattle.arc_replays.proofs.GoesOn.{replays_begin_phases, replays_go_on as go_on, replays_are_one_history, ended_threads_spell}
use Rattle.arc_replays.proofs.replays_go_on.Goals as goal

pub returns-clause-begin : goal.returns-clause-begin
returns-clause-begin c = replays_begin

pub returns-clause-phase : goal.returns-clause-phase
returns-clause-phase c = replays_begin_phases

pub returns-clause-go_on : goal.returns-clause-go_on
returns-clause-go_on c = go_on

pub returns-clause-one : goal.returns-clause-one
returns-clause-one c = replays_are_one_history

pub returns-clause-spell : goal.returns-clause-spell
returns-clause-spell c = ended_threads_spell
