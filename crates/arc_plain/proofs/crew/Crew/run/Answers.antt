use Rattle.std.proofs.Common.{Result, Ok, Err}
use Rattle.std.specs.Prelude.{OnOk}
use Rattle.arc_plain.proofs.Order.{first_takes, first_under_way, first_there, first_alone, all_done}
use Rattle.arc_plain.proofs.crew.Crew.run.Goals as goal

if_ok : {T E P Q : Type 0} (r : Result T E) → OnOk r P → (P → Q) → OnOk r Q
if_ok (Ok x) p f = f p
if_ok (Err e) p f = tt

pub begin-requires-clause-takes : goal.begin-requires-clause-takes
begin-requires-clause-takes c = first_takes c.args.self.now c.run_phases.new.self c.in_ok-run_phases.ensures

pub finish_thread-requires-clause-under_way : goal.finish_thread-requires-clause-under_way
finish_thread-requires-clause-under_way c = first_under_way c.args.self.now c.run_phases.new.self c.begin.new.self c.in_ok-run_phases.ensures c.begin.ensures.begun c.begin.ensures.steppers

pub finish_thread-requires-clause-there : goal.finish_thread-requires-clause-there
finish_thread-requires-clause-there c = first_there c.args.self.now c.run_phases.new.self c.begin.new.self c.in_ok-run_phases.ensures c.begin.ensures.begun

pub finish_thread-requires-clause-alone : goal.finish_thread-requires-clause-alone
finish_thread-requires-clause-alone c = first_alone c.args.self.now c.run_phases.new.self c.begin.new.self c.in_ok-run_phases.ensures c.begin.ensures.begun

pub returns : goal.returns
returns c = if_ok c.finish_thread.result c.finish_thread.ensures (λ t. all_done c.args.self.now c.run_phases.new.self c.begin.new.self c.finish_thread.new.self c.in_ok-run_phases.ensures c.begin.ensures.begun t)
