use Rattle.arc_table.specs.Seats.{shape_of, view_of}
use Rattle.arc_table.proofs.HeldTokens.{up_held, copied_held}
use Rattle.arc_table.proofs.tests_end.both_given_up.Goals as goal

pub release-requires-clause-held : goal.release-requires-clause-held
release-requires-clause-held c = up_held (shape_of c.args.heap.now) c.args.token c.in-Ok.copy (view_of c.args.pass.now) (view_of c.retain.new.pass) c.requires.held c.in-Ok.ensures.up

pub release-requires-in-Ok-clause-held : goal.release-requires-in-Ok-clause-held
release-requires-in-Ok-clause-held c = copied_held (shape_of c.args.heap.now) c.args.token c.in-Ok.copy c.retain.result c.release.result (view_of c.args.pass.now) (view_of c.retain.new.pass) (view_of c.release.new.pass) c.requires.held c.in-Ok.ensures.up c.retain.ensures.has c.release.ensures.has
