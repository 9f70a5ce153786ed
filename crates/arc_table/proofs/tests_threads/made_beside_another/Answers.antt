use Rattle.arc_table.specs.Seats.{shape_of, view_of}
use Rattle.arc_table.proofs.HeldTokens.{made_held}
use Rattle.arc_table.proofs.tests_threads.made_beside_another.Goals as goal

pub returns-in-Ok-clause-held : goal.returns-in-Ok-clause-held
returns-in-Ok-clause-held c = made_held (shape_of c.args.heap.now) 0 (view_of c.args.pass.now) (view_of c.new_object.new.pass) c.in-Ok.token c.in-Ok.ensures.made
