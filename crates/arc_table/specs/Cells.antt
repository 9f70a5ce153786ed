-- What goes into a global and what comes out of it.
use Rattle.std.specs.Prelude.{ℕ, ◌≡◌, ◌≢◌, ◌+◌, ◌<◌, ◌==◌, if◌then◌else◌, true, Option, None, Some, slice_get, ⊤}
use Rattle.arc_model.specs.declared.event.Act.{Act}
use Rattle.arc_model.specs.declared.event.Act.TheVariants as acts
use Rattle.arc_model.specs.declared.event.CellName.TheVariants as cells
use Rattle.arc_model.specs.declared.shape.Kind.TheVariants.{Strong}
use Rattle.arc_model.specs.declared.shape.RefShape.{RefShape}
use Rattle.arc_model.specs.Shapes.{HeapShape}
use Rattle.arc_model.specs.Cells.{is_kind}
use Rattle.arc_model.specs.History.{next_hand}
use Rattle.arc_rule.specs.declared.layout.Place.TheVariants as places
use Rattle.arc_rule.specs.Places.{extent_of, number}
use Rattle.arc_view.specs.declared.view.View.{View}
use Rattle.arc_cells.specs.declared.swap.SwapAnswer.{SwapAnswer}
use Rattle.arc_cells.specs.declared.swap.SwapAnswer.TheVariants as answers
use Rattle.arc_table.specs.declared.tokens.Any.{Any}
use Rattle.arc_table.specs.declared.tokens.Any.TheVariants as anys
use Rattle.arc_table.specs.declared.tokens.Swapped.{Swapped}
use Rattle.arc_table.specs.declared.tokens.Swapped.TheVariants as swapped
use Rattle.arc_table.specs.Causes.{ReadTwice, Loaded}
use Rattle.arc_table.specs.Tokens.{hand_of}
use Rattle.arc_view_laws.specs.Having.{last_hand, IsStrongOf, KeepsStrong, KeepsStrongBut}

-- the hand that a reference is; nil is none
abbrev pub hand_in : Any → Option ℕ
hand_in anys.Nil = None
hand_in (anys.Strong t) = Some (hand_of t)

-- its word in a cell
abbrev pub word_of : Any → ℕ
word_of anys.Nil = 0
word_of (anys.Strong t) = t.slot + 2

-- the shape has the global, and it holds strong references
abbrev pub HoldsStrong : HeapShape → ℕ → Type 0
HoldsStrong shape g = is_kind Strong (slice_get shape.globals g) ≡ true

-- the shape names this class for the global
abbrev pub IsNamed : HeapShape → ℕ → ℕ → Type 0
IsNamed shape g class = (r : RefShape) × (slice_get shape.globals g ≡ Some r) × (r.class ≡ class)

-- hand k of the view is a strong one of an object in the slot, which is of the global's class
abbrev pub IsOfGlobal : HeapShape → ℕ → View → ℕ → ℕ → Type 0
IsOfGlobal shape g v k s = (s < shape.slots) × ((class : ℕ) × IsStrongOf v k s class × IsNamed shape g class)

-- nil, or a token of the pass for an object of the global's class
abbrev pub MayPut : HeapShape → ℕ → View → Any → Type 0
MayPut shape g v anys.Nil = ⊤
MayPut shape g v (anys.Strong t) = IsOfGlobal shape g v (hand_of t) t.slot

-- the next hand of the view, where the word isn't that of nil
abbrev pub hand_for : View → ℕ → Option ℕ
hand_for v word = if word == 0 then None else Some (next_hand v.number v.seen)

-- What an attempt comes to. Took: what the word leads to is the pass's new hand. Busy: the word that was loaded is 1. Again: it has changed between
-- two reads of this call.
abbrev pub IsExchanged : HeapShape → ℕ → View → View → SwapAnswer → Type 0
IsExchanged shape g v w (answers.Took word) = word ≢ 0 → (s : ℕ) × (word ≡ s + 2) × IsOfGlobal shape g w (next_hand v.number v.seen) s
IsExchanged shape g v w answers.Busy = Loaded (number (extent_of shape) (places.Global g)) 1 v w
IsExchanged shape g v w (answers.Again c) = ReadTwice (number (extent_of shape) (places.Global g)) c v w

-- the act of the call
abbrev pub exchanged_act : ℕ → Option ℕ → View → SwapAnswer → Option Act
exchanged_act g put v (answers.Took word) = Some (acts.Swap (cells.Global g) put (hand_for v word))
exchanged_act g put v answers.Busy = None
exchanged_act g put v (answers.Again c) = None

-- what a word leads to, with the last hand of the view
abbrev pub IsTokenOf : ℕ → View → Any → Type 0
IsTokenOf word v anys.Nil = word ≡ 0
IsTokenOf word v (anys.Strong t) = (word ≡ t.slot + 2) × (hand_of t ≡ last_hand v)

-- nil, or the pass's new hand, of an object of the global's class
abbrev pub IsTaken : HeapShape → ℕ → View → View → Any → Type 0
IsTaken shape g v w anys.Nil = ⊤
IsTaken shape g v w (anys.Strong t) = (hand_of t ≡ next_hand v.number v.seen) × IsOfGlobal shape g w (hand_of t) t.slot

-- The same with the tokens. Busy and Again give back what was to be put in.
abbrev pub IsSwapped : HeapShape → ℕ → Any → View → View → Swapped → Type 0
IsSwapped shape g put v w (swapped.Ok got) = IsTaken shape g v w got
IsSwapped shape g put v w (swapped.Busy back) = (back ≡ put) × Loaded (number (extent_of shape) (places.Global g)) 1 v w
IsSwapped shape g put v w (swapped.Again back c) = (back ≡ put) × ReadTwice (number (extent_of shape) (places.Global g)) c v w

abbrev pub swap_act : ℕ → Any → Swapped → Option Act
swap_act g put (swapped.Ok got) = Some (acts.Swap (cells.Global g) (hand_in put) (hand_in got))
swap_act g put (swapped.Busy back) = None
swap_act g put (swapped.Again back c) = None

-- each strong reference stays but the one that was put in
abbrev pub KeepsUnput : Any → View → View → Type 0
KeepsUnput anys.Nil v w = KeepsStrong v w
KeepsUnput (anys.Strong t) v w = KeepsStrongBut (hand_of t) v w
