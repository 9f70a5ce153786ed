use Rattle.std.proofs.Common.{◌∙◌, ap}
use Rattle.arc_view.specs.declared.view.View.{View}
use Rattle.arc_view.specs.declared.view.Working.{Working}
use Rattle.arc_table.specs.Seats.{shape_of, view_of}
use Rattle.arc_view_laws.proofs.Growing.{look_allowed}
use Rattle.arc_table.proofs.tests.passes_meet.Goals as goal

pub step-word-requires-clause-kind : goal.step-word-requires-clause-kind
step-word-requires-clause-kind g c = look_allowed (shape_of c.expect-heap.result.0) (view_of c.meet.new.pass) (ap (λ (w : Working). w.owes) c.meet.ensures.called.1.working ∙ ap (λ (v : View). v.working.owes) c.split-second.ensures.new)
