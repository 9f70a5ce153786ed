-- Which event a step has, by the view before it, the step, its intent and the word found; and what the view has under way after it.
-- An exchange that fails has no event.
use Rattle.std.specs.Prelude.{ℕ, zero, suc, ◌/◌, ◌%◌, ◌==◌, ◌&&◌, is_none, bit_and, Bool, true, false, if◌then◌else◌, List, [], ◌∷◌, Option, None, Some, slice_get}
use Rattle.arc_bits.specs.declared.packing.Word.{Word}
use Rattle.arc_bits.specs.declared.packing.Word.TheVariants.{Counts, Slow}
use Rattle.arc_bits.specs.Words.{unpacked}
use Rattle.arc_model.specs.declared.event.Origin.{Origin}
use Rattle.arc_model.specs.declared.event.Origin.TheVariants as origins
use Rattle.arc_model.specs.declared.event.Got.TheVariants as got
use Rattle.arc_model.specs.declared.event.Act.{Act}
use Rattle.arc_model.specs.declared.event.Act.TheVariants as acts
use Rattle.arc_model.specs.declared.shape.Kind.{Kind}
use Rattle.arc_model.specs.declared.shape.Kind.TheVariants as kinds
use Rattle.arc_model.specs.Shapes.{HeapShape}
use Rattle.arc_model.specs.Heaps.{Hand, Object, Heap}
use Rattle.arc_model.specs.Cells.{origin}
use Rattle.arc_model.specs.History.{History, next_hand}
use Rattle.arc_model.specs.Lookup.{Spot, spot}
use Rattle.arc_rule.specs.declared.step.Step.{Step}
use Rattle.arc_rule.specs.declared.step.Step.TheVariants.{Load, Exchange, Store, Or, And}
use Rattle.arc_rule.specs.declared.step.Intent.{Intent}
use Rattle.arc_rule.specs.declared.step.Intent.TheVariants as intents
use Rattle.arc_rule.specs.declared.layout.Place.{Place}
use Rattle.arc_rule.specs.declared.layout.Place.TheVariants.{Count, Isa, Next, Field, Link, Strong, Unowned, Weak, SlotBits, EntryBits}
use Rattle.arc_rule.specs.Bits.{words_of, full_word, thing_of, thing_left}
use Rattle.arc_rule.specs.Places.{extent_of, number, place_at}
use Rattle.arc_view.specs.declared.view.Mark.{Mark}
use Rattle.arc_view.specs.declared.view.Stored.{Stored}
use Rattle.arc_view.specs.declared.view.Parent.{Parent}
use Rattle.arc_view.specs.declared.view.Entered.{Entered}
use Rattle.arc_view.specs.declared.view.Working.{Working}
use Rattle.arc_view.specs.declared.view.View.{View}
use Rattle.arc_view.specs.Views.{made_in, cell_place}
use Rattle.arc_view.specs.Holding.{heap_of, is_counted_at}

abbrev pub slot_of : Place → ℕ
slot_of (Count s) = s
slot_of (Isa s) = s
slot_of (Next s) = s
slot_of (Field s f) = s
slot_of _ = 0

abbrev pub field_of : Place → ℕ
field_of (Field s f) = f
field_of _ = 0

abbrev pub entry_of : Place → ℕ
entry_of (Link e) = e
entry_of (Strong e) = e
entry_of (Unowned e) = e
entry_of (Weak e) = e
entry_of _ = 0

-- the entry that a slow word names
abbrev pub entry_named : Option Word → ℕ
entry_named (Some (Slow e)) = e
entry_named _ = 0

-- the list that a spot is in
abbrev pub kind_at : Option Spot → Kind
kind_at None = kinds.Strong
kind_at (Some s) = s.kind

-- the object at a spot
abbrev pub object_at : Heap → Option Spot → Option Object
object_at heap None = None
object_at heap (Some s) = slice_get heap.objects s.place

-- where the view takes a reference from
abbrev pub source_at : View → Origin → Option Spot
source_at v from = spot (origin (heap_of v) v.number from) (heap_of v)

-- the one holder of this kind is left in the counts of an inline word
abbrev pub is_last_in : Kind → Option Word → Bool
is_last_in kinds.Strong (Some (Counts c)) = c.strong_extra == 0
is_last_in kinds.Unowned (Some (Counts c)) = c.unowned == 1
is_last_in _ _ = false

-- the count in the word of a place is one of a single holder of this kind
abbrev pub is_last : Kind → Place → ℕ → Bool
is_last kind (Count s) w = is_last_in kind (unpacked w)
is_last kind _ w = w == 1

abbrev pub is_deiniting : Option Word → Bool
is_deiniting (Some (Counts c)) = c.deiniting
is_deiniting _ = false

abbrev pub is_entry_place : Place → Bool
is_entry_place (Link e) = true
is_entry_place (Strong e) = true
is_entry_place (Unowned e) = true
is_entry_place (Weak e) = true
is_entry_place _ = false

-- the word of an entry's count of this list of the object is at its greatest
abbrev pub is_full : HeapShape → Kind → Option Object → Place → ℕ → Bool
is_full shape kind o pl w = is_entry_place pl && is_counted_at kind o pl && w == shape.caps.wide

abbrev pub when : Bool → Act → Option Act
when true a = Some a
when false a = None

-- a load of a search, of the word k of n things at its place, which showed that all are taken, with no event of the thread since
abbrev pub is_try : ℕ → ℕ → ℕ → ℕ → Mark → Bool
is_try at n k made m = is_load m.step && m.found == full_word n k && m.made == made
  where
    is_load : Step → Bool
    is_load (Load place) = place == at
    is_load _ = false

-- the trail begins with such loads of the words k - 1, k - 2 and so on down to 0
abbrev pub searched : (ℕ → ℕ) → ℕ → ℕ → ℕ → List Mark → Bool
searched at n made zero ms = true
searched at n made (suc k) [] = false
searched at n made (suc k) (m ∷ ms) = is_try (at k) n k made m && searched at n made k ms

-- the word k is the last one of a search that found all n things taken
abbrev pub is_fruitless : (ℕ → ℕ) → ℕ → View → ℕ → ℕ → Bool
is_fruitless at n v k w = suc k == words_of n && w == full_word n k && searched at n (made_in v.number v.seen) k v.trail

abbrev pub is_strong : Kind → Bool
is_strong kinds.Strong = true
is_strong _ = false

-- the inline word says of the object, in whose list of this kind the count is, that it is immortal
abbrev pub is_forever : Kind → Option Object → Place → ℕ → Bool
is_forever kind o (Count s) w = is_counted_at kind o (Count s) && w == 1
is_forever kind o pl w = false

-- the first of them, where it holds
abbrev pub first_of : Bool → Act → Option Act → Option Act
first_of true a more = Some a
first_of false a more = more

-- the count says that no strong reference is left
abbrev pub shows_end : Option Object → Place → ℕ → Bool
shows_end o pl w = is_counted_at kinds.Strong o pl && (if is_entry_place pl then w == 0 else is_deiniting (unpacked w))

-- no strong reference is taken of the object of this hand: none is left, or there are as many as an entry counts
abbrev pub load_refused : HeapShape → Option Object → Place → ℕ → ℕ → Act → Option Act
load_refused shape o pl w of a = first_of (shows_end o pl w) a (when (is_full shape kinds.Strong o pl w) (acts.CountFull kinds.Strong (origins.Hand of)))

-- what a loaded count shows of a reference that is to be taken of a hand of this kind, where it would be the hand n
abbrev pub load_shown : HeapShape → Kind → Option Object → Place → ℕ → (of n : ℕ) → Option Act
load_shown shape kinds.Strong o pl w of n = None
load_shown shape kinds.Unowned o pl w of n = first_of (is_forever kinds.Strong o pl w) (acts.Load of (got.Hand n)) (load_refused shape o pl w of (acts.Load of got.Dead))
load_shown shape kinds.Weak o pl w of n = load_refused shape o pl w of (acts.Load of got.Nil)

-- What a load shows. A loaded count is of the source's object: an immortal object takes a reference more or fewer without a change of its word,
-- an entry's greatest count refuses one more, and a strong count of 0, or a deiniting inline word, refuses a load of a reference. The last word
-- of a search shows that all slots, or all entries, are taken.
abbrev pub loaded_act : HeapShape → View → Place → ℕ → Intent → Option Act
loaded_act shape v pl w (intents.Copy from) =
    let at = source_at v from in
    first_of (is_forever (kind_at at) (object_at (heap_of v) at) pl w) (acts.Copy from (next_hand v.number v.seen))
    (when (is_full shape (kind_at at) (object_at (heap_of v) at) pl w) (acts.CountFull (kind_at at) from))
loaded_act shape v pl w (intents.UnownedOf of) =
    let at = spot (Hand v.number of) (heap_of v) in
    first_of (is_strong (kind_at at) && is_forever kinds.Unowned (object_at (heap_of v) at) pl w) (acts.UnownedOf of (next_hand v.number v.seen))
    (when (is_full shape kinds.Unowned (object_at (heap_of v) at) pl w) (acts.CountFull kinds.Unowned (origins.Hand of)))
loaded_act shape v pl w (intents.WeakOf of) =
    when (is_full shape kinds.Weak (object_at (heap_of v) (spot (Hand v.number of) (heap_of v))) pl w) (acts.CountFull kinds.Weak (origins.Hand of))
loaded_act shape v pl w (intents.Load of) = let at = spot (Hand v.number of) (heap_of v) in load_shown shape (kind_at at) (object_at (heap_of v) at) pl w of (next_hand v.number v.seen)
loaded_act shape v pl w (intents.Drop hand) =
    let at = spot (Hand v.number hand) (heap_of v) in
    when (is_none v.working.access && is_forever (kind_at at) (object_at (heap_of v) at) pl w) (acts.Drop hand false)
loaded_act shape v (SlotBits k) w (intents.New class) = when (is_fruitless (λ j. number (extent_of shape) (SlotBits j)) shape.slots v k w) acts.Full
loaded_act shape v (EntryBits k) w (intents.Claim of) = when (is_fruitless (λ j. number (extent_of shape) (EntryBits j)) shape.entries v k w) acts.NoEntry
loaded_act shape v pl w (intents.Access cell) = when (number (extent_of shape) pl == number (extent_of shape) (cell_place cell) && w == 0) (acts.Look cell)
loaded_act shape v pl w _ = None

-- what an exchange does that finds what it expects; a hand that comes is the next one
abbrev pub hit_act : View → Place → ℕ → ℕ → Intent → Option Act
hit_act v pl old new intents.Look = None
hit_act v pl old new (intents.New class) = None
hit_act v pl old new (intents.Copy from) = Some (acts.Copy from (next_hand v.number v.seen))
hit_act v pl old new (intents.UnownedOf of) = Some (acts.UnownedOf of (next_hand v.number v.seen))
hit_act v pl old new (intents.WeakOf of) = Some (acts.WeakOf of (next_hand v.number v.seen))
hit_act v pl old new (intents.Load of) = Some (acts.Load of (got.Hand (next_hand v.number v.seen)))
hit_act v pl old new (intents.Drop hand) = Some (acts.Drop hand (is_last (kind_at (spot (Hand v.number hand) (heap_of v))) pl old))
hit_act v pl old new (intents.Claim of) = None
hit_act v pl old new (intents.Publish of why) = Some (acts.Side (slot_of pl) (entry_named (unpacked new)) why)
hit_act v pl old new intents.Back = None
hit_act v pl old new (intents.Swap cell put) = Some (acts.Swap cell put (if old == 0 then None else Some (next_hand v.number v.seen)))
hit_act v pl old new (intents.Access cell) = None
hit_act v pl old new (intents.Deinit slot) = Some (acts.Finish slot (is_last kinds.Unowned pl old))
hit_act v pl old new intents.Vacate = None
hit_act v pl old new intents.Gone = Some (acts.Gone (entry_of pl) (old == 1))

-- an Or that finds the bit clear takes the slot or the entry
abbrev pub or_act : View → Place → ℕ → Intent → Option Act
or_act v (SlotBits k) bits (intents.New class) = Some (acts.New (next_hand v.number v.seen) class (thing_of k bits))
or_act v (EntryBits k) bits (intents.Claim of) = Some (acts.Claim (thing_of k bits))
or_act v pl bits _ = None

-- an And clears its bit
abbrev pub and_act : Place → ℕ → Intent → Option Act
and_act (SlotBits k) bits intents.Vacate = Some (acts.Vacate (thing_left k bits))
and_act (EntryBits k) bits intents.Back = Some (acts.Back (thing_left k bits))
and_act pl bits _ = None

abbrev pub stored_act : View → Place → Intent → Option Act
stored_act v (Field s f) (intents.Deinit slot) = Some (acts.Take slot f (next_hand v.number v.seen))
stored_act v pl _ = None

-- the act of a step with this intent that finds this word
abbrev pub act_of : HeapShape → View → Step → Intent → ℕ → Option Act
act_of shape v (Load place) intent found = loaded_act shape v (place_at (extent_of shape) place) found intent
act_of shape v (Exchange place old new) intent found =
    if found == old then hit_act v (place_at (extent_of shape) place) old new intent else None
act_of shape v (Store place new) intent found = stored_act v (place_at (extent_of shape) place) intent
act_of shape v (Or place bits) intent found = if bit_and found bits == 0 then or_act v (place_at (extent_of shape) place) bits intent else None
act_of shape v (And place bits) intent found = and_act (place_at (extent_of shape) place) bits intent

-- the event of an act of thread p, where there is one
abbrev pub event_list : ℕ → Option Act → History
event_list p None = []
event_list p (Some a) = record { thread = p; act = a } ∷ []

-- what is stored elsewhere than at the place
abbrev pub but_at : (Place → ℕ) → ℕ → List Stored → List Stored
but_at at i [] = []
but_at at i (k ∷ ks) = if at k.place == i then but_at at i ks else k ∷ but_at at i ks

abbrev pub but_entry : (Place → ℕ) → ℕ → List Stored → List Stored
but_entry at e ks = but_at at (at (Link e)) (but_at at (at (Strong e)) (but_at at (at (Unowned e)) (but_at at (at (Weak e)) ks)))

-- the deinit that a next word leads back to
abbrev pub parent_of : ℕ → Option Parent
parent_of zero = None
parent_of (suc n) = Some (record { slot = n / 16; field = n % 16 })

-- the deinits, where the one of the slot goes on at a field
abbrev pub goes_on : ℕ → ℕ → List Entered → List Entered
goes_on s f [] = []
goes_on s f (e ∷ es) = (if e.slot == s then record e { next_field = f } else e) ∷ goes_on s f es

-- where that field was the next one, it goes on at the one after it
abbrev pub goes_past : ℕ → ℕ → List Entered → List Entered
goes_past s f [] = []
goes_past s f (e ∷ es) = (if e.slot == s && e.next_field == f then record e { next_field = suc f } else e) ∷ goes_past s f es

abbrev pub without_slot : ℕ → List Entered → List Entered
without_slot s [] = []
without_slot s (e ∷ es) = if e.slot == s then without_slot s es else e ∷ without_slot s es

-- the next word of the slot is kept private no longer
abbrev pub without_next : (Place → ℕ) → ℕ → Working → Working
without_next at s w = record w { stored = but_at at (at (Next s)) w.stored; entered = without_slot s w.entered }

-- a deinit that finds a field nil goes past it
abbrev pub working_loaded : Working → Place → ℕ → Intent → Working
working_loaded w (Field s f) found (intents.Deinit slot) = if s == slot && found == 0 then record w { entered = goes_past s f w.entered } else w
working_loaded w pl found intent = w

abbrev pub working_hit : (Place → ℕ) → Working → Place → ℕ → ℕ → Intent → Working
working_hit at w pl old new (intents.Publish of why) = record w { stored = but_entry at (entry_named (unpacked new)) w.stored }
working_hit at w pl old new (intents.Access cell) = record w { access = Some (record { cell = cell; value = old }) }
working_hit at w pl old new (intents.Deinit slot) = without_next at slot w
working_hit at w pl old new intent = w

abbrev pub working_stored : (Place → ℕ) → Working → Place → ℕ → Intent → Working
working_stored at w (Count s) new (intents.New class) = record w { owes = Some (record { slot = s; counted = true }) }
working_stored at w pl new (intents.New class) = record w { owes = None }
working_stored at w pl new (intents.Claim of) = record w { stored = record { place = pl; word = new } ∷ but_at at (at pl) w.stored }
working_stored at w pl new (intents.Publish of why) = record w { stored = record { place = pl; word = new } ∷ but_at at (at pl) w.stored }
working_stored at w pl new (intents.Access cell) = record w { access = None }
working_stored at w (Next s) new (intents.Deinit slot) = record w { stored = but_at at (at (Next s)) w.stored; entered = record { slot = s; parent = parent_of new; next_field = 0 } ∷ w.entered }
working_stored at w (Field s f) new (intents.Deinit slot) = record w { entered = goes_on s (suc f) w.entered }
working_stored at w pl new intent = w

-- a slot was taken: the words of its new object are still to be written
abbrev pub working_or : Working → Place → ℕ → Intent → Working
working_or w (SlotBits k) bits (intents.New class) = record w { owes = Some (record { slot = thing_of k bits; counted = false }) }
working_or w pl bits intent = w

-- an entry was given back: nothing of it is kept private
abbrev pub working_and : (Place → ℕ) → Working → Place → ℕ → Intent → Working
working_and at w (EntryBits k) bits intents.Back = record w { stored = but_entry at (thing_left k bits) w.stored }
working_and at w pl bits intent = w

-- what the view has under way after a step with this intent that finds this word
abbrev pub working_after : HeapShape → View → Step → Intent → ℕ → Working
working_after shape v (Load place) intent found = working_loaded v.working (place_at (extent_of shape) place) found intent
working_after shape v (Exchange place old new) intent found =
    if found == old then working_hit (number (extent_of shape)) v.working (place_at (extent_of shape) place) old new intent else v.working
working_after shape v (Store place new) intent found = working_stored (number (extent_of shape)) v.working (place_at (extent_of shape) place) new intent
working_after shape v (Or place bits) intent found = if bit_and found bits == 0 then working_or v.working (place_at (extent_of shape) place) bits intent else v.working
working_after shape v (And place bits) intent found = working_and (number (extent_of shape)) v.working (place_at (extent_of shape) place) bits intent
