use Rattle.std.proofs.Common.{◌≡◌, [], ◌∷◌, length, refl, sym, ap, subst}
use Rattle.std.specs.Prelude.{IfSome, slice_get}
use Rattle.arc_model.specs.declared.shape.Kind.TheVariants.{Strong}
use Rattle.arc_view.specs.declared.view.View.{View}
use Rattle.arc_view.specs.Views.{first_view}
use Rattle.arc_table.specs.declared.heap.Heap.{Heap}
use Rattle.arc_table.specs.declared.heap.Pass.{Pass}
use Rattle.arc_table.specs.declared.tokens.Made.TheVariants as created
use Rattle.arc_table.specs.declared.tokens.Any.TheVariants as anys
use Rattle.arc_table.specs.declared.tokens.Swapped.TheVariants as swaps
use Rattle.arc_table.specs.Seats.{heap_id, shape_of, pass_id, view_of}
use Rattle.arc_table.specs.Tokens.{IsMade}
use Rattle.arc_table.specs.Cells.{IsNamed, MayPut, IsSwapped}
use Rattle.arc_table.proofs.HeldTokens.{made_put, swapped_held}
use Rattle.arc_table.proofs.tests.object_is_handed_over.Goals as goal

pub swap-before-requires-clause-put : goal.swap-before-requires-clause-put
swap-before-requires-clause-put g c =
    let shape = shape_of c.expect-heap.result.0 in
    let v = view_of c.expect-heap.result.1 in
    let u = view_of c.new_object.new.pass in
    let token = c.expect-token.result in
    let made : IsMade shape 0 v u (created.Ok token) = subst (IsMade shape 0 v u) (subst (λ m. IfSome m (λ t. c.new_object.result ≡ created.Ok t)) c.expect-token.ensures c.made.ensures) c.new_object.ensures.made in
    let heap_is = subst (λ m. IfSome m (λ (r : Heap × Pass). (pass_id r.1 ≡ heap_id r.0) × (view_of r.1 ≡ first_view) × (length (shape_of r.0).classes ≡ 1) × ((shape_of r.0).globals ≡ record { kind = Strong; class = 0 } ∷ []))) c.expect-heap.ensures c.heap_with_global.ensures in
    let named : IsNamed shape 0 0 = (record { kind = Strong; class = 0 }, ap (λ l. slice_get l 0) heap_is.3, refl) in
    subst (λ (x : View). MayPut shape 0 x (anys.Strong token)) (sym c.split-second.ensures.parted) (made_put shape 0 0 v u token named made)

pub release-requires-clause-held : goal.release-requires-clause-held
release-requires-clause-held g c =
    let shape = shape_of c.expect-heap.result.0 in
    let v = view_of c.split-second.result in
    let w = view_of c.swap.new.pass in
    let got = c.expect-got.result in
    swapped_held shape 0 anys.Nil got v w (subst (IsSwapped shape 0 anys.Nil v w) (subst (λ m. IfSome m (λ t. c.swap.result ≡ swaps.Ok (anys.Strong t))) c.expect-got.ensures c.came_out.ensures) c.swap.ensures.swapped)
