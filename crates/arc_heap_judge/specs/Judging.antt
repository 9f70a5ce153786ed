-- By what an index judges events: the first need that fails, as for the heap of holder lists.
use Rattle.std.specs.Prelude.{ℕ, ◌+◌, Bool, true, false, ◌==◌, nat_lt, ◌&&◌, not, List, [], ◌∷◌, length, Option, Some, None, is_some, slice_get}
use Rattle.arc_model.specs.declared.event.CellName.{CellName}
use Rattle.arc_model.specs.declared.event.CellName.TheVariants as cells
use Rattle.arc_model.specs.declared.event.Origin.{Origin}
use Rattle.arc_model.specs.declared.event.Origin.TheVariants as origins
use Rattle.arc_model.specs.declared.event.Got.TheVariants as got
use Rattle.arc_model.specs.declared.event.Act.{Act}
use Rattle.arc_model.specs.declared.event.Act.TheVariants as acts
use Rattle.arc_model.specs.declared.event.Illegal.{Illegal}
use Rattle.arc_model.specs.declared.event.Illegal.TheVariants.{NotHeld, NoSuchObject, Taken, NotTaken, WrongAnswer, Duty as WrongDuty}
use Rattle.arc_model.specs.declared.shape.Kind.{Kind}
use Rattle.arc_model.specs.declared.shape.Kind.TheVariants.{Strong, Unowned, Weak}
use Rattle.arc_model.specs.declared.shape.RefShape.{RefShape}
use Rattle.arc_model.specs.Shapes.{HeapShape}
use Rattle.arc_model.specs.Cells.{each_below, same_kind, is_kind}
use Rattle.arc_model.specs.Needs.{Need, first_failing, same_bool}
use Rattle.arc_heap_index.specs.declared.counted.Due.TheVariants.{Deinit, Vacating, Gone}
use Rattle.arc_heap_index.specs.declared.counted.Counted.{Counted}
use Rattle.arc_heap_index.specs.declared.counted.Held.{Held}
use Rattle.arc_heap_index.specs.declared.counted.Found.{Found}
use Rattle.arc_heap_index.specs.declared.slots.Owner.{Owner}
use Rattle.arc_heap_index.specs.declared.slots.Owner.TheVariants.{Claim}
use Rattle.arc_heap_index.specs.Counting.{owes, place_at}
use Rattle.arc_heap_index.specs.Freeing.{owner_at, are_seen}
use Rattle.arc_heap_judge.specs.Index.{Index, hand_at, cell_at, origin_at, hold, in_slot, with_entry, reach_at, mark_of, next_of, fields_in, immortal_in, alive_in, alone_in, room_in, full_in}

-- the first verdict, or else the second
abbrev pub then : Option Illegal → Option Illegal → Option Illegal
then None rest = rest
then (Some i) rest = Some i

-- there is one, and it passes
abbrev pub meets : {X : Type 0} → (X → Bool) → Option X → Bool
meets test None = false
meets test (Some x) = test x

abbrev pub is_claim_of : ℕ → Option Owner → Bool
is_claim_of p (Some (Claim q)) = q == p
is_claim_of p _ = false

abbrev pub has_field_at : HeapShape → ℕ → Found → Bool
has_field_at shape f w = nat_lt f (length (fields_in shape w.counted))

abbrev pub reaches : Index → ℕ → CellName → List Need
reaches ix p (cells.Global g) = []
reaches ix p (cells.Field s f) =
    (is_some (in_slot ix s), NoSuchObject) ∷ (meets (has_field_at ix.shape f) (in_slot ix s), NoSuchObject) ∷ (nat_lt 0 (reach_at ix p s), NotHeld) ∷ []

abbrev pub has_it : Index → ℕ → Origin → Option Illegal
has_it ix p (origins.Hand h) = first_failing ((is_some (hold ix (hand_at ix p h)), NotHeld) ∷ [])
has_it ix p (origins.Cell c) = then (first_failing (reaches ix p c)) (first_failing ((is_some (hold ix (cell_at ix c)), NotHeld) ∷ []))

abbrev pub has_room_for : HeapShape → Held → Bool
has_room_for shape w = room_in shape w.place.kind w.counted

abbrev pub is_of_kind : Kind → Held → Bool
is_of_kind k w = same_kind w.place.kind k

abbrev pub field_shape_at : HeapShape → ℕ → Option Found → Option RefShape
field_shape_at shape f None = None
field_shape_at shape f (Some w) = slice_get (fields_in shape w.counted) f

abbrev pub cell_shape_at : Index → CellName → Option RefShape
cell_shape_at ix (cells.Field s f) = field_shape_at ix.shape f (in_slot ix s)
cell_shape_at ix (cells.Global g) = slice_get ix.shape.globals g

abbrev pub gives : Index → ℕ → CellName → Option ℕ → Need
gives ix p c None = (true, NotHeld)
gives ix p c (Some h) = (meets (λ (w : Held). is_kind w.place.kind (cell_shape_at ix c)) (hold ix (hand_at ix p h)), NotHeld)

abbrev pub gets : Index → ℕ → Option ℕ → Need
gets ix p None = (true, Taken)
gets ix p (Some k) = (k == next_of ix p, Taken)

-- every field of the object in the slot below n is nil
abbrev pub are_empty : Index → ℕ → ℕ → Bool
are_empty ix s n = each_below n (λ f. not (is_some (hold ix (place_at s f ix.cells))))

abbrev pub stands_at_cap : HeapShape → Kind → Counted → Bool
stands_at_cap shape Strong c = alive_in shape c && c.strong == shape.caps.strong + 1
stands_at_cap shape Unowned c = c.unowned == shape.caps.unowned
stands_at_cap shape Weak c = alive_in shape c

abbrev pub verdict : Index → ℕ → Act → Option Illegal
verdict ix p (acts.New k c s) = first_failing ((k == next_of ix p, Taken) ∷ (not (is_some (in_slot ix s)), Taken) ∷ [])
verdict ix p acts.Full = first_failing ((are_seen (mark_of ix p).slots ix.slots, NotTaken) ∷ [])
verdict ix p (acts.Copy from k) =
    then (has_it ix p from) (first_failing ((k == next_of ix p, Taken) ∷ (meets (has_room_for ix.shape) (hold ix (origin_at ix p from)), WrongAnswer) ∷ []))
verdict ix p (acts.UnownedOf h k) = first_failing (
    (meets (is_of_kind Strong) (hold ix (hand_at ix p h)), NotHeld)
    ∷ (k == next_of ix p, Taken)
    ∷ (meets (λ (w : Held). room_in ix.shape Unowned w.counted) (hold ix (hand_at ix p h)), WrongAnswer)
    ∷ [])
verdict ix p (acts.WeakOf h k) = first_failing (
    (meets (is_of_kind Strong) (hold ix (hand_at ix p h)), NotHeld)
    ∷ (meets (λ (w : Held). is_some w.counted.entry) (hold ix (hand_at ix p h)), NoSuchObject)
    ∷ (k == next_of ix p, Taken)
    ∷ (meets (λ (w : Held). room_in ix.shape Weak w.counted) (hold ix (hand_at ix p h)), WrongAnswer)
    ∷ [])
verdict ix p (acts.Load h (got.Hand k)) = first_failing (
    (meets (λ (w : Held). not (same_kind w.place.kind Strong)) (hold ix (hand_at ix p h)), NotHeld)
    ∷ (k == next_of ix p, Taken)
    ∷ (meets (λ (w : Held). alive_in ix.shape w.counted && room_in ix.shape Strong w.counted) (hold ix (hand_at ix p h)), WrongAnswer)
    ∷ [])
verdict ix p (acts.Load h got.Dead) = first_failing (
    (meets (is_of_kind Unowned) (hold ix (hand_at ix p h)), NotHeld)
    ∷ (meets (λ (w : Held). not (alive_in ix.shape w.counted)) (hold ix (hand_at ix p h)), WrongAnswer)
    ∷ [])
verdict ix p (acts.Load h got.Nil) = first_failing (
    (meets (is_of_kind Weak) (hold ix (hand_at ix p h)), NotHeld)
    ∷ (meets (λ (w : Held). not (alive_in ix.shape w.counted)) (hold ix (hand_at ix p h)), WrongAnswer)
    ∷ [])
verdict ix p (acts.Drop h last) = first_failing (
    (is_some (hold ix (hand_at ix p h)), NotHeld)
    ∷ (meets (λ (w : Held). same_bool last (alone_in ix.shape w.place.kind w.counted)) (hold ix (hand_at ix p h)), WrongAnswer)
    ∷ [])
verdict ix p (acts.CountFull k from) =
    then (has_it ix p from) (first_failing ((meets (λ (w : Held). full_in ix.shape k w.counted) (hold ix (origin_at ix p from)), WrongAnswer) ∷ []))
verdict ix p (acts.Claim e) = first_failing ((not (is_some (owner_at e ix.entries)), Taken) ∷ [])
verdict ix p acts.NoEntry = first_failing ((are_seen (mark_of ix p).entries ix.entries, NotTaken) ∷ [])
verdict ix p (acts.Side s e why) = first_failing (
    (meets (λ (w : Found). not (immortal_in ix.shape w.counted)) (in_slot ix s), NoSuchObject)
    ∷ (is_claim_of p (owner_at e ix.entries), WrongDuty)
    ∷ (meets (λ (w : Found). not (is_some w.counted.entry)) (in_slot ix s), Taken)
    ∷ (meets (λ (w : Found). stands_at_cap ix.shape why w.counted) (in_slot ix s), WrongAnswer)
    ∷ [])
verdict ix p (acts.Back e) = first_failing ((is_claim_of p (owner_at e ix.entries), WrongDuty) ∷ [])
verdict ix p (acts.Swap c h k) =
    then (first_failing (reaches ix p c)) (first_failing (gives ix p c h ∷ gets ix p k ∷ (same_bool (is_some k) (is_some (hold ix (cell_at ix c))), WrongAnswer) ∷ []))
verdict ix p (acts.Look c) = then (first_failing (reaches ix p c)) (first_failing ((not (is_some (hold ix (cell_at ix c))), WrongAnswer) ∷ []))
verdict ix p (acts.Take s f k) = first_failing (
    (is_some (in_slot ix s), NoSuchObject)
    ∷ (meets (has_field_at ix.shape f) (in_slot ix s), NoSuchObject)
    ∷ (meets (λ (w : Found). owes p Deinit w.counted && are_empty ix s f) (in_slot ix s), WrongDuty)
    ∷ (is_some (hold ix (place_at s f ix.cells)), NotHeld)
    ∷ (k == next_of ix p, Taken)
    ∷ [])
verdict ix p (acts.Finish s last) = first_failing (
    (is_some (in_slot ix s), NoSuchObject)
    ∷ (meets (λ (w : Found). owes p Deinit w.counted && are_empty ix s (length (fields_in ix.shape w.counted))) (in_slot ix s), WrongDuty)
    ∷ (meets (λ (w : Found). same_bool last (w.counted.unowned == 1)) (in_slot ix s), WrongAnswer)
    ∷ [])
verdict ix p (acts.Vacate s) = first_failing (
    (is_some (in_slot ix s), NoSuchObject)
    ∷ (meets (λ (w : Found). owes p Vacating w.counted) (in_slot ix s), WrongDuty)
    ∷ [])
verdict ix p (acts.Gone e last) = first_failing (
    (is_some (with_entry ix e), NoSuchObject)
    ∷ (meets (λ (w : Found). owes p Gone w.counted) (with_entry ix e), WrongDuty)
    ∷ (meets (λ (w : Found). same_bool last (w.counted.weak == 1)) (with_entry ix e), WrongAnswer)
    ∷ [])
