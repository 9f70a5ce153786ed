-- What each event needs, in the order in which the needs are tried. Each row stands whole at its act in `needs`.
use Rattle.std.specs.Prelude.{ℕ, Bool, true, false, ◌==◌, nat_lt, ◌&&◌, ◌||◌, ◌+◌, not, if◌then◌else◌, List, [], ◌∷◌, ◌++◌, length, Option, Some, None, is_some}
use Rattle.std.specs.List.{list_any}
use Rattle.arc_model.specs.declared.event.CellName.{CellName}
use Rattle.arc_model.specs.declared.event.CellName.TheVariants as cells
use Rattle.arc_model.specs.declared.event.Origin.{Origin}
use Rattle.arc_model.specs.declared.event.Origin.TheVariants as origins
use Rattle.arc_model.specs.declared.event.Got.TheVariants as got
use Rattle.arc_model.specs.declared.event.Act.{Act}
use Rattle.arc_model.specs.declared.event.Act.TheVariants as acts
use Rattle.arc_model.specs.declared.event.Illegal.{Illegal}
use Rattle.arc_model.specs.declared.event.Illegal.TheVariants.{NotHeld, NoSuchObject, Taken, NotTaken, WrongAnswer, Duty as WrongDuty}
use Rattle.arc_model.specs.declared.shape.Kind.{Kind}
use Rattle.arc_model.specs.declared.shape.Kind.TheVariants.{Strong, Unowned, Weak}
use Rattle.arc_model.specs.Shapes.{HeapShape}
use Rattle.arc_model.specs.Heaps.{Holder, Hand, Deinit, Vacating, Gone, Object, Heap}
use Rattle.arc_model.specs.Holders.{is_hand_of, is_in, is_alone, kind_in, list_of, list_with, held_by, at_slot, at_entry, is_slot_taken, is_entry_taken, is_claimed_by, owes_to}
use Rattle.arc_model.specs.Cells.{cell, origin, is_nil, is_immortal, holders_with, is_live, has_field, are_nil, are_all_nil, is_kind, cell_shape, each_below}

-- What an event is judged by: the heap, the number of the thread's next hand, and which slots and entries were taken at
-- some point since the thread's event before.
pub record Sight : Type 0 where
  pub heap : Heap
  pub next : ℕ
  pub slot_seen : ℕ → Bool
  pub entry_seen : ℕ → Bool

-- a need, and what is wrong where it fails
abbrev pub Need : Type 0
Need = Bool × Illegal

abbrev pub first_failing : List Need → Option Illegal
first_failing [] = None
first_failing (n ∷ ns) = if n.0 then first_failing ns else Some n.1

abbrev pub same_bool : Bool → Bool → Bool
same_bool true b = b
same_bool false b = not b

-- there is an object, and it passes
abbrev pub passes : (Object → Bool) → Option Object → Bool
passes test None = false
passes test (Some o) = test o

-- the counts of an immortal object stand still, so that none is too great
abbrev pub has_room : HeapShape → Object → List Holder → Bool
has_room shape o xs = nat_lt (length xs) shape.caps.wide || is_immortal shape o

-- The list that is to grow stands at its cap, so that the object may move to an entry; a weak list needs a live object alone.
abbrev pub is_at_cap : HeapShape → Kind → Object → Bool
is_at_cap shape Strong o = is_live shape o && length o.strong == shape.caps.strong + 1
is_at_cap shape Unowned o = length o.unowned == shape.caps.unowned
is_at_cap shape Weak o = is_live shape o

-- A global always is reachable; a field where its slot is in an object, whose class has it, and of which p has a strong hand.
abbrev pub reachable : HeapShape → Heap → ℕ → CellName → List Need
reachable shape heap p (cells.Global g) = []
reachable shape heap p (cells.Field s f) =
    (is_slot_taken s heap, NoSuchObject)
    ∷ (passes (has_field shape f) (at_slot s heap), NoSuchObject)
    ∷ (passes (λ o. list_any (is_hand_of p) o.strong) (at_slot s heap), NotHeld)
    ∷ []

-- a hand of p, or a cell that is reachable and isn't nil
abbrev pub has : HeapShape → Heap → ℕ → Origin → List Need
has shape heap p (origins.Hand h) = (is_some (held_by (Hand p h) heap), NotHeld) ∷ []
has shape heap p (origins.Cell c) = reachable shape heap p c ++ (not (is_nil heap (cell heap c)), NotHeld) ∷ []

abbrev pub is_next : Sight → ℕ → Need
is_next sight k = (k == sight.next, Taken)

-- where a hand is put in: a hand of p, in a list of the cell's kind
abbrev pub puts : HeapShape → Heap → ℕ → CellName → Option ℕ → Need
puts shape heap p c None = (true, NotHeld)
puts shape heap p c (Some h) = (passes (λ o. is_kind (kind_in (Hand p h) o) (cell_shape shape heap c)) (held_by (Hand p h) heap), NotHeld)

-- where a hand takes over: the next one
abbrev pub takes : Sight → Option ℕ → Need
takes sight None = (true, Taken)
takes sight (Some k) = is_next sight k

abbrev pub needs : HeapShape → Sight → ℕ → Act → List Need
needs shape sight p (acts.New k c s) = is_next sight k ∷ (not (is_slot_taken s sight.heap), Taken) ∷ []
needs shape sight p acts.Full = (each_below shape.slots sight.slot_seen, NotTaken) ∷ []
needs shape sight p (acts.Copy from k) =
    has shape sight.heap p from
    ++ is_next sight k
    ∷ (passes (λ o. has_room shape o (list_with (origin sight.heap p from) o)) (held_by (origin sight.heap p from) sight.heap), WrongAnswer)
    ∷ []
needs shape sight p (acts.UnownedOf h k) =
    (passes (λ o. is_in (Hand p h) o.strong) (held_by (Hand p h) sight.heap), NotHeld)
    ∷ is_next sight k
    ∷ (passes (λ o. has_room shape o o.unowned) (held_by (Hand p h) sight.heap), WrongAnswer)
    ∷ []
needs shape sight p (acts.WeakOf h k) =
    (passes (λ o. is_in (Hand p h) o.strong) (held_by (Hand p h) sight.heap), NotHeld)
    ∷ (passes (λ o. is_some o.entry) (held_by (Hand p h) sight.heap), NoSuchObject)
    ∷ is_next sight k
    ∷ (passes (λ o. has_room shape o o.weak) (held_by (Hand p h) sight.heap), WrongAnswer)
    ∷ []
needs shape sight p (acts.Load h (got.Hand k)) =
    (passes (λ o. is_in (Hand p h) o.unowned || is_in (Hand p h) o.weak) (held_by (Hand p h) sight.heap), NotHeld)
    ∷ is_next sight k
    ∷ (passes (λ o. is_live shape o && has_room shape o o.strong) (held_by (Hand p h) sight.heap), WrongAnswer)
    ∷ []
needs shape sight p (acts.Load h got.Dead) =
    (passes (λ o. is_in (Hand p h) o.unowned) (held_by (Hand p h) sight.heap), NotHeld)
    ∷ (passes (λ o. not (is_live shape o)) (held_by (Hand p h) sight.heap), WrongAnswer)
    ∷ []
needs shape sight p (acts.Load h got.Nil) =
    (passes (λ o. is_in (Hand p h) o.weak) (held_by (Hand p h) sight.heap), NotHeld)
    ∷ (passes (λ o. not (is_live shape o)) (held_by (Hand p h) sight.heap), WrongAnswer)
    ∷ []
needs shape sight p (acts.Drop h last) =
    (is_some (held_by (Hand p h) sight.heap), NotHeld)
    ∷ (passes (λ o. same_bool last (is_alone (holders_with shape (Hand p h) o))) (held_by (Hand p h) sight.heap), WrongAnswer)
    ∷ []
needs shape sight p (acts.CountFull k from) =
    has shape sight.heap p from
    ++ (passes (λ o. not (is_immortal shape o) && length (list_of k o) == shape.caps.wide) (held_by (origin sight.heap p from) sight.heap), WrongAnswer)
    ∷ []
needs shape sight p (acts.Claim e) = (not (is_entry_taken e sight.heap), Taken) ∷ []
needs shape sight p acts.NoEntry = (each_below shape.entries sight.entry_seen, NotTaken) ∷ []
needs shape sight p (acts.Side s e why) =
    (passes (λ o. not (is_immortal shape o)) (at_slot s sight.heap), NoSuchObject)
    ∷ (is_claimed_by p e sight.heap, WrongDuty)
    ∷ (passes (λ o. not (is_some o.entry)) (at_slot s sight.heap), Taken)
    ∷ (passes (is_at_cap shape why) (at_slot s sight.heap), WrongAnswer)
    ∷ []
needs shape sight p (acts.Back e) = (is_claimed_by p e sight.heap, WrongDuty) ∷ []
needs shape sight p (acts.Swap c h k) =
    reachable shape sight.heap p c
    ++ puts shape sight.heap p c h
    ∷ takes sight k
    ∷ (same_bool (is_some k) (not (is_nil sight.heap (cell sight.heap c))), WrongAnswer)
    ∷ []
needs shape sight p (acts.Look c) = reachable shape sight.heap p c ++ (is_nil sight.heap (cell sight.heap c), WrongAnswer) ∷ []
needs shape sight p (acts.Take s f k) =
    (is_slot_taken s sight.heap, NoSuchObject)
    ∷ (passes (has_field shape f) (at_slot s sight.heap), NoSuchObject)
    ∷ (passes (λ o. owes_to p Deinit o && are_nil sight.heap f o) (at_slot s sight.heap), WrongDuty)
    ∷ (not (is_nil sight.heap (cell sight.heap (cells.Field s f))), NotHeld)
    ∷ is_next sight k
    ∷ []
needs shape sight p (acts.Finish s last) =
    (is_slot_taken s sight.heap, NoSuchObject)
    ∷ (passes (λ o. owes_to p Deinit o && are_all_nil shape sight.heap o) (at_slot s sight.heap), WrongDuty)
    ∷ (passes (λ o. same_bool last (is_alone o.unowned)) (at_slot s sight.heap), WrongAnswer)
    ∷ []
needs shape sight p (acts.Vacate s) =
    (is_slot_taken s sight.heap, NoSuchObject)
    ∷ (passes (owes_to p Vacating) (at_slot s sight.heap), WrongDuty)
    ∷ []
needs shape sight p (acts.Gone e last) =
    (is_some (at_entry e sight.heap), NoSuchObject)
    ∷ (passes (owes_to p Gone) (at_entry e sight.heap), WrongDuty)
    ∷ (passes (λ o. same_bool last (is_alone o.weak)) (at_entry e sight.heap), WrongAnswer)
    ∷ []
