use Rattle.arc_schedule.proofs.Worked.{places_come_first as places, accesses_end_first as accesses, operations_tell as events, blocks_are_run as blocks, loads_give as loads, loads_find_dead as loads-dead, gets_copy as gets, sets_swap as sets, ends_clear as ends, deinits_nest as deinits}
use Rattle.arc_schedule.proofs.schedules_are_followed.Goals as goal

pub returns-clause-places : goal.returns-clause-places
returns-clause-places c = places

pub returns-clause-accesses : goal.returns-clause-accesses
returns-clause-accesses c = accesses

pub returns-clause-events : goal.returns-clause-events
returns-clause-events c = events

pub returns-clause-blocks : goal.returns-clause-blocks
returns-clause-blocks c = blocks

pub returns-clause-loads : goal.returns-clause-loads
returns-clause-loads c = loads

pub returns-clause-loads_dead : goal.returns-clause-loads_dead
returns-clause-loads_dead c = loads-dead

pub returns-clause-gets : goal.returns-clause-gets
returns-clause-gets c = gets

pub returns-clause-sets : goal.returns-clause-sets
returns-clause-sets c = sets

pub returns-clause-end_section : goal.returns-clause-end_section
returns-clause-end_section c = ends

pub returns-clause-deinits : goal.returns-clause-deinits
returns-clause-deinits c = deinits
