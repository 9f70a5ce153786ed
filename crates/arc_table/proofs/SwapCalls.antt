-- What a call that exchanges a global leaves of a pass's numbers, and what it tells with the token of the word that came out.
use Rattle.std.proofs.Common.{◌≡◌, ◌≢◌, ℕ, false, cond, Option, None, Some, refl, sym, ap, ◌∙◌, subst, arith, eq-eqb, ne_eqb}
use Rattle.arc_model.specs.declared.event.Act.TheVariants as acts
use Rattle.arc_model.specs.declared.event.CellName.TheVariants as cells
use Rattle.arc_model.specs.Shapes.{HeapShape}
use Rattle.arc_model.specs.History.{next_hand}
use Rattle.arc_view.specs.declared.view.View.{View}
use Rattle.arc_cells.specs.declared.swap.SwapAnswer.{SwapAnswer}
use Rattle.arc_cells.specs.declared.swap.SwapAnswer.TheVariants as answers
use Rattle.arc_table.specs.declared.tokens.Any.{Any}
use Rattle.arc_table.specs.declared.tokens.Any.TheVariants as anys
use Rattle.arc_table.specs.declared.tokens.Swapped.TheVariants as swapped
use Rattle.arc_table.specs.declared.heap.Part.{Part}
use Rattle.arc_table.specs.Seats.{part_view}
use Rattle.arc_table.specs.Calls.{IsCall}
use Rattle.arc_table.specs.Cells.{hand_in, IsOfGlobal, hand_for, IsExchanged, exchanged_act, IsTokenOf, IsTaken, swap_act}
use Rattle.arc_table.specs.Tokens.{hand_of}
use Rattle.arc_table.proofs.Making.{next_one}
use Rattle.arc_table.proofs.StrongCalls.{makes_new}

pub exchanged_old : (g : ℕ) (put : Option ℕ) (v : View) (a : SwapAnswer) → makes_new (exchanged_act g put v a) ≡ false
exchanged_old g put v (answers.Took word) = refl
exchanged_old g put v answers.Busy = refl
exchanged_old g put v (answers.Again changed) = refl

-- with the token of the word that was found: it is what came out
pub swapped_ok : (shape : HeapShape) (g : ℕ) (put got : Any) (p q : Part) (word : ℕ) → IsCall shape (exchanged_act g (hand_in put) (part_view p) (answers.Took word)) 2 p q → IsExchanged shape g (part_view p) (part_view q) (answers.Took word) → IsTokenOf word (part_view q) got
    → IsCall shape (swap_act g put (swapped.Ok got)) 2 p q × IsTaken shape g (part_view p) (part_view q) got
swapped_ok shape g put anys.Nil p q word call from zero_is =
    (subst (λ m. IsCall shape (Some (acts.Swap (cells.Global g) (hand_in put) m)) 2 p q) (ap (λ b. cond b None (Some (next_hand (part_view p).number (part_view p).seen))) (eq-eqb word 0 zero_is)) call, tt)
swapped_ok shape g put (anys.Strong t) p q word call from (word_is, last) =
    let v = part_view p in
    let w = part_view q in
    let some : word ≢ 0 = λ e. omega (arith, e, word_is) in
    let came : hand_for v word ≡ Some (next_hand v.number v.seen) = ap (λ b. cond b None (Some (next_hand v.number v.seen))) (ne_eqb word 0 some) in
    let is : IsCall shape (Some (acts.Swap (cells.Global g) (hand_in put) (Some (next_hand v.number v.seen)))) 2 p q = subst (λ m. IsCall shape (Some (acts.Swap (cells.Global g) (hand_in put) m)) 2 p q) came call in
    let next = next_one (acts.Swap (cells.Global g) (hand_in put) (Some (next_hand v.number v.seen))) 2 v w is.1.called.grew refl in
    let hand : hand_of t ≡ next_hand v.number v.seen = last ∙ omega (arith, next) in
    let r = from some in
    let slot : r.0 ≡ t.slot = (let a = r.1 in omega (arith, a, word_is)) in (
      subst (λ m. IsCall shape (Some (acts.Swap (cells.Global g) (hand_in put) (Some m))) 2 p q) (sym hand) is,
      (hand, subst (λ (x : ℕ × ℕ). IsOfGlobal shape g w x.0 x.1) (λ j. (sym hand j, slot j)) r.2),
    )
