use Rattle.std.proofs.Common.{subst}
use Rattle.std.specs.Prelude.{IfSome}
use Rattle.arc_table.specs.Seats.{shape_of, view_of}
use Rattle.arc_table.specs.Tokens.{IsHeld}
use Rattle.arc_table.proofs.tests.two_passes_fill_two_slots.Goals as goal

pub copied_and_dropped-ends-requires-clause-held : goal.copied_and_dropped-ends-requires-clause-held
copied_and_dropped-ends-requires-clause-held g c = subst (λ m. IfSome m (λ t. IsHeld (shape_of c.expect-heap.result.0) (view_of c.made_in-one.new.pass) t)) c.expect-token.ensures c.made_in-one.ensures.held

pub copied_and_dropped-others-requires-clause-held : goal.copied_and_dropped-others-requires-clause-held
copied_and_dropped-others-requires-clause-held g c = subst (λ m. IfSome m (λ t. IsHeld (shape_of c.expect-heap.result.0) (view_of c.made_in-two.new.pass) t)) c.expect-other.ensures c.made_in-two.ensures.held
