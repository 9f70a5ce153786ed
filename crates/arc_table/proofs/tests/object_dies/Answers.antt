use Rattle.std.proofs.Common.{◌≡◌, ◌+◌, subst}
use Rattle.std.specs.Prelude.{IfSome}
use Rattle.arc_table.specs.declared.tokens.Made.TheVariants as created
use Rattle.arc_table.specs.declared.tokens.Up.TheVariants as ups
use Rattle.arc_rule.specs.Bits.{words_of}
use Rattle.arc_table.specs.Seats.{shape_of, view_of}
use Rattle.arc_table.specs.Tokens.{hand_of, IsMade, made_act, IsUp, up_act, IsHeld}
use Rattle.arc_table.specs.Calls.{GoesOn}
use Rattle.arc_model.specs.declared.shape.Kind.TheVariants.{Strong}
use Rattle.arc_table.proofs.HeldTokens.{made_held, up_held, still_held, rest_held, copy_other}
use Rattle.arc_table.proofs.Spared.{up_spares}
use Rattle.arc_table.proofs.tests.object_dies.Goals as goal

pub release-requires-clause-held : goal.release-requires-clause-held
release-requires-clause-held g c =
    let shape = shape_of c.expect-heap.result.0 in
    let v = view_of c.expect-heap.result.1 in
    let u = view_of c.new_object.new.pass in
    let w = view_of c.retain.new.pass in
    let token = c.expect-token.result in
    let copy = c.expect-copy.result in
    let made : IsMade shape 0 v u (created.Ok token) = subst (IsMade shape 0 v u) (subst (λ m. IfSome m (λ t. c.new_object.result ≡ created.Ok t)) c.expect-token.ensures c.made.ensures) c.new_object.ensures.made in
    let up : IsUp shape token u w (ups.Ok copy) = subst (IsUp shape token u w) (subst (λ m. IfSome m (λ t. c.retain.result ≡ ups.Ok t)) c.expect-copy.ensures c.copied.ensures) c.retain.ensures.up in
    up_held shape token copy u w (made_held shape 0 v u token made) up

pub release-requires-2-clause-held : goal.release-requires-2-clause-held
release-requires-2-clause-held g c =
    let shape = shape_of c.expect-heap.result.0 in
    let v = view_of c.expect-heap.result.1 in
    let u = view_of c.new_object.new.pass in
    let w = view_of c.retain.new.pass in
    let token = c.expect-token.result in
    let copy = c.expect-copy.result in
    let made : IsMade shape 0 v u (created.Ok token) = subst (IsMade shape 0 v u) (subst (λ m. IfSome m (λ t. c.new_object.result ≡ created.Ok t)) c.expect-token.ensures c.made.ensures) c.new_object.ensures.made in
    let up : IsUp shape token u w (ups.Ok copy) = subst (IsUp shape token u w) (subst (λ m. IfSome m (λ t. c.retain.result ≡ ups.Ok t)) c.expect-copy.ensures c.copied.ensures) c.retain.ensures.up in
    let call : GoesOn shape (made_act 0 (created.Ok token)) (words_of shape.slots + 3) v u = subst (λ r. GoesOn shape (made_act 0 r) (words_of shape.slots + 3) v u) (subst (λ m. IfSome m (λ t. c.new_object.result ≡ created.Ok t)) c.expect-token.ensures c.made.ensures) c.new_object.ensures.called.1 in
    let held : IsHeld shape w token = still_held shape (up_act token c.retain.result) u w token ((up_spares token c.retain.result).0 (hand_of token) Strong) c.retain.ensures.has (made_held shape 0 v u token made) in
    rest_held shape copy token c.release.result w (view_of c.release.new.pass) c.release.ensures.has (copy_other shape 0 v u w token copy call made up) held
