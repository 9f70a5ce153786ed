-- What goes into a global and comes out of it.
use Rattle.std.proofs.Common.{◌≡◌, ℕ, ◌<◌, List, [], ◌∷◌, Option, Some, None, sym, ap, ◌∙◌, subst, refl}
use Rattle.std.specs.Prelude.{IfSome, slice_get}
use Rattle.arc_model.specs.Shapes.{HeapShape}
use Rattle.arc_model.specs.Cells.{is_kind}
use Rattle.arc_model.specs.declared.shape.RefShape.{RefShape}
use Rattle.arc_model.specs.Heaps.{Hand}
use Rattle.arc_model.specs.Lookup.{spot}
use Rattle.arc_model.specs.declared.event.Act.TheVariants as acts
use Rattle.arc_model.specs.declared.event.CellName.TheVariants as cells
use Rattle.arc_model.specs.declared.shape.Kind.TheVariants.{Strong}
use Rattle.arc_model.proofs.Basics.{None≢Some}
use Rattle.arc_view.specs.declared.view.View.{View}
use Rattle.arc_view.specs.Holding.{heap_of}
use Rattle.arc_table.specs.declared.heap.Heap.{Heap}
use Rattle.arc_table.specs.declared.heap.Pass.{Pass}
use Rattle.arc_table.specs.declared.tokens.Any.{Any}
use Rattle.arc_table.specs.declared.tokens.Any.TheVariants as anys
use Rattle.arc_table.specs.declared.tokens.Swapped.TheVariants as swaps
use Rattle.arc_table.specs.Seats.{shape_of, view_of}
use Rattle.arc_table.specs.Tokens.{hand_of}
use Rattle.arc_view_laws.specs.Having.{IsStrongOf, IsNewHand, KeepsStrong}
use Rattle.arc_table.specs.Cells.{hand_in, IsSwapped, swap_act, MayPut, KeepsUnput}
use Rattle.arc_table.specs.Calls.{GoesOn}
use Rattle.arc_table.specs.Possessions.{StillHas}
use Rattle.arc_table.proofs.Keeping.{keeps_strong, keeps_strong_but}
use Rattle.arc_table.proofs.Spared.{swap_spares}
use Rattle.arc_view_laws.proofs.Fresh.{fresh_hand}
use Rattle.arc_pairs.specs.Ready.{IsOurAny, IsApart, IsForOurs, AreForOurs}

pub may_put : (heap : Heap) (pass : Pass) (g : ℕ) (put : Any) → IsForOurs heap g → IsOurAny heap pass put → MayPut (shape_of heap) g (view_of pass) put
may_put heap pass g anys.Nil fits ours = tt
may_put heap pass g (anys.Strong t) fits ours = (ours.0, (0, ours.1, fits.1))

pub any_on : (heap : Heap) (v w : Pass) (put : Any) → KeepsStrong (view_of v) (view_of w) → IsOurAny heap v put → IsOurAny heap w put
any_on heap v w anys.Nil kept ours = tt
any_on heap v w (anys.Strong t) kept ours = (ours.0, kept (hand_of t) t.slot 0 ours.1)

pub unput_on : (put : Any) (u v w : View) → KeepsStrong u v → KeepsUnput put v w → KeepsUnput put u w
unput_on anys.Nil u v w kept rest = λ k s class ours. rest k s class (kept k s class ours)
unput_on (anys.Strong t) u v w kept rest = λ k other s class ours. rest k other s class (kept k s class ours)

-- what an exchange keeps
pub swap_keeps : (g : ℕ) (put got : Any) (v w : View) → StillHas (swap_act g put (swaps.Ok got)) v w → KeepsUnput put v w
swap_keeps g anys.Nil got v w has = keeps_strong (swap_act g anys.Nil (swaps.Ok got)) v w (λ k. refl) has
swap_keeps g (anys.Strong t) got v w has = keeps_strong_but (swap_act g (anys.Strong t) (swaps.Ok got)) (hand_of t) v w (λ k other. (swap_spares g (anys.Strong t) (swaps.Ok got)).0 k Strong other) has

-- what comes out of a global has a hand that the pass hadn't
pub got_apart : (shape : HeapShape) (g : ℕ) (put got : Any) (u v w : View) → KeepsStrong u v → GoesOn shape (swap_act g put (swaps.Ok got)) 2 v w → IsSwapped shape g put v w (swaps.Ok got) → IsApart u got
got_apart shape g put anys.Nil u v w kept c s = tt
got_apart shape g put (anys.Strong t) u v w kept c s = λ k slot class strong same.
    let new : IsNewHand v (hand_of t) = subst (IsNewHand v) (sym s.0) (fresh_hand shape (acts.Swap (cells.Global g) (hand_in put) (Some (hand_of t)) ∷ []) 2 v w c.called) in
    let had : IsStrongOf v k slot class = kept k slot class strong in
    None≢Some (record { place = had.0; kind = Strong }) (sym (subst (λ n. spot (Hand v.number n) (heap_of v) ≡ None) (sym same) new) ∙ had.2)

-- the cells of a heap whose globals are all for strong references to objects of class 0
pub are_for_ours : (made : Option (Heap × Pass)) (n : ℕ) (globals : List RefShape) → ((g : ℕ) → g < n → slice_get globals g ≡ Some (record { kind = Strong; class = 0 }))
    → IfSome made (λ r. (shape_of r.0).globals ≡ globals) → IfSome made (λ r. AreForOurs r.0 n)
are_for_ours None n globals each is = tt
are_for_ours (Some r) n globals each is = λ g lt. let at = ap (λ l. slice_get l g) is ∙ each g lt in (ap (is_kind Strong) at, (record { kind = Strong; class = 0 }, at, refl))
