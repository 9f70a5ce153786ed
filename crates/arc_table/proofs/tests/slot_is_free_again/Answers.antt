use Rattle.std.proofs.Common.{◌≡◌, ◌+◌, false, List, [], ◌∷◌, Some, refl, ap, subst, arith}
use Rattle.std.specs.Prelude.{slice_index_or, IfSome}
use Rattle.arc_model.specs.Shapes.{ObjectClass}
use Rattle.arc_model.specs.declared.event.Act.TheVariants.{New, Vacate}
use Rattle.arc_table.specs.declared.tokens.Made.TheVariants as created
use Rattle.arc_table.specs.declared.tokens.Release.TheVariants as releases
use Rattle.arc_table.specs.declared.ends.Finish.TheVariants as finishes
use Rattle.arc_view.specs.Views.{first_view}
use Rattle.arc_view.specs.Rule.{news}
use Rattle.arc_view.specs.declared.view.View.{View}
use Rattle.arc_rule.specs.Bits.{words_of}
use Rattle.arc_table.specs.Seats.{heap_id, shape_of, pass_id, view_of}
use Rattle.arc_table.specs.Tokens.{hand_of, IsMade, made_act, IsReleased, release_act}
use Rattle.arc_table.specs.Calls.{GoesOn}
use Rattle.arc_table.specs.Ends.{IsFinished, finish_act}
use Rattle.arc_view_laws.proofs.Counted.{news_one}
use Rattle.arc_table.proofs.HeldTokens.{made_held}
use Rattle.arc_table.proofs.EndTokens.{released_owed, no_field, release_old, finish_old}
use Rattle.arc_table.proofs.StrongCalls.{same_call}
use Rattle.arc_table.proofs.tests.slot_is_free_again.Goals as goal

pub release-requires-clause-held : goal.release-requires-clause-held
release-requires-clause-held g c =
    let shape = shape_of c.expect-heap.result.0 in
    let v = view_of c.expect-heap.result.1 in
    let u = view_of c.new_object.new.pass in
    let token = c.expect-token.result in
    made_held shape 0 v u token (subst (IsMade shape 0 v u) (subst (λ m. IfSome m (λ t. c.new_object.result ≡ created.Ok t)) c.expect-token.ensures c.made.ensures) c.new_object.ensures.made)

pub finish-requires-clause-owed : goal.finish-requires-clause-owed
finish-requires-clause-owed g c =
    let shape = shape_of c.expect-heap.result.0 in
    let v = view_of c.expect-heap.result.1 in
    let u = view_of c.new_object.new.pass in
    let w = view_of c.release.new.pass in
    let token = c.expect-token.result in
    let d = c.expect-dying.result in
    let made : IsMade shape 0 v u (created.Ok token) = subst (IsMade shape 0 v u) (subst (λ m. IfSome m (λ t. c.new_object.result ≡ created.Ok t)) c.expect-token.ensures c.made.ensures) c.new_object.ensures.made in
    let last : IsReleased shape token u w (releases.Last d) = subst (IsReleased shape token u w) (subst (λ m. IfSome m (λ t. c.release.result ≡ releases.Last t)) c.expect-dying.ensures c.left.ensures) c.release.ensures.released in
    released_owed shape token d u w (made_held shape 0 v u token made) last

pub finish-requires-clause-bare : goal.finish-requires-clause-bare
finish-requires-clause-bare g c =
    let shape = shape_of c.expect-heap.result.0 in
    let v = view_of c.expect-heap.result.1 in
    let u = view_of c.new_object.new.pass in
    let w = view_of c.release.new.pass in
    let token = c.expect-token.result in
    let d = c.expect-dying.result in
    let made : IsMade shape 0 v u (created.Ok token) = subst (IsMade shape 0 v u) (subst (λ m. IfSome m (λ t. c.new_object.result ≡ created.Ok t)) c.expect-token.ensures c.made.ensures) c.new_object.ensures.made in
    let last : IsReleased shape token u w (releases.Last d) = subst (IsReleased shape token u w) (subst (λ m. IfSome m (λ t. c.release.result ≡ releases.Last t)) c.expect-dying.ensures c.left.ensures) c.release.ensures.released in
    let classes = (subst (λ m. IfSome m (λ r. (pass_id r.1 ≡ heap_id r.0) × (view_of r.1 ≡ first_view) × ((shape_of r.0).classes ≡ record { fields = []; immortal = false } ∷ []))) c.expect-heap.ensures c.classed_heap.ensures).2 in
    no_field shape w d.slot 0 c.release.ensures.called.1.called.legal (last.1 0 made.3) (ap (λ (cs : List ObjectClass). (slice_index_or cs 0 (record { fields = []; immortal = false })).fields) classes)

pub vacate-requires-clause-freed : goal.vacate-requires-clause-freed
vacate-requires-clause-freed g c =
    let shape = shape_of c.expect-heap.result.0 in
    let w = view_of c.release.new.pass in
    let x = view_of c.finish.new.pass in
    let d = c.expect-dying.result in
    let f = c.expect-freed.result in
    let done : IsFinished shape d w x (finishes.Last f) = subst (IsFinished shape d w x) (subst (λ m. IfSome m (λ t. c.finish.result ≡ finishes.Last t)) c.expect-freed.ensures c.freed.ensures) c.finish.ensures.finished in
    done.1

pub fill-requires-clause-room : goal.fill-requires-clause-room
fill-requires-clause-room g c =
    let shape = shape_of c.expect-heap.result.0 in
    let v = view_of c.expect-heap.result.1 in
    let u = view_of c.new_object.new.pass in
    let w = view_of c.release.new.pass in
    let x = view_of c.finish.new.pass in
    let y = view_of c.vacate.new.pass in
    let token = c.expect-token.result in
    let d = c.expect-dying.result in
    let first = (subst (λ m. IfSome m (λ r. (pass_id r.1 ≡ heap_id r.0) × (view_of r.1 ≡ first_view) × ((shape_of r.0).classes ≡ record { fields = []; immortal = false } ∷ []))) c.expect-heap.ensures c.classed_heap.ensures).1 in
    let none : news v.number v.seen ≡ 0 = ap (λ (z : View). news z.number z.seen) first in
    let call : GoesOn shape (made_act 0 (created.Ok token)) (words_of shape.slots + 3) v u = subst (λ r. GoesOn shape (made_act 0 r) (words_of shape.slots + 3) v u) (subst (λ m. IfSome m (λ t. c.new_object.result ≡ created.Ok t)) c.expect-token.ensures c.made.ensures) c.new_object.ensures.called.1 in
    let one = news_one (New (hand_of token) 0 token.slot) (words_of shape.slots + 3) v u call.called.grew in
    let same = (same_call shape (release_act token c.release.result) 3 u w (release_old token c.release.result) c.release.ensures.called.1).made in
    let still = (same_call shape (finish_act d c.finish.result) 3 w x (finish_old d c.finish.result) c.finish.ensures.called.1).made in
    let end = (same_call shape (Some (Vacate c.expect-freed.result.slot)) 1 x y refl c.vacate.ensures.called.1).made in omega (arith, none, one, same, still, end)
