-- What an event does to an index.
use Rattle.std.specs.Prelude.{ℕ, Bool, true, false, List, [], ◌∷◌, ◌++◌, length, Option, Some, None}
use Rattle.arc_model.specs.declared.event.CellName.{CellName}
use Rattle.arc_model.specs.declared.event.CellName.TheVariants as cells
use Rattle.arc_model.specs.declared.event.Got.TheVariants as got
use Rattle.arc_model.specs.declared.event.Act.{Act}
use Rattle.arc_model.specs.declared.event.Act.TheVariants as acts
use Rattle.arc_model.specs.declared.event.Event.{Event}
use Rattle.arc_model.specs.declared.shape.Kind.{Kind}
use Rattle.arc_model.specs.declared.shape.Kind.TheVariants.{Strong, Unowned, Weak}
use Rattle.arc_heap_index.specs.declared.counted.Place.{Place}
use Rattle.arc_heap_index.specs.declared.counted.Counted.{Counted}
use Rattle.arc_heap_index.specs.declared.counted.Held.{Held}
use Rattle.arc_heap_index.specs.declared.counted.Found.{Found}
use Rattle.arc_heap_index.specs.declared.mark.Mark.{Mark}
use Rattle.arc_heap_index.specs.declared.slots.Owner.TheVariants.{Object, Claim}
use Rattle.arc_heap_index.specs.Counting.{placed, at_place, put_at, pushed, raised, tally_raised, tally_lowered, can_count, with_one_more, with_one_less, without_strongs, without_slot, without_unowneds, entered}
use Rattle.arc_heap_index.specs.Freeing.{taken, freed, changed}
use Rattle.arc_heap_judge.specs.Index.{Index, hand_at, cell_at, origin_at, hold, in_slot, with_entry, mark_of}

-- p has one more, or one less, strong hand of the object in a slot
abbrev pub reach_more : ℕ → Kind → Option ℕ → List (List ℕ) → List (List ℕ)
reach_more p Strong (Some s) reach = tally_raised p s reach
reach_more p _ _ reach = reach

abbrev pub reach_less : ℕ → Kind → Option ℕ → List (List ℕ) → List (List ℕ)
reach_less p Strong (Some s) reach = tally_lowered p s reach
reach_less p _ _ reach = reach

-- a hand of p comes where a reference counts; no count changes
abbrev pub hand_comes : ℕ → Option Held → Index → Index
hand_comes p None ix = ix
hand_comes p (Some w) ix = record ix { hands = pushed p (Some w.place) ix.hands; reach = reach_more p w.place.kind w.counted.slot ix.reach }

-- hand h of p goes; no count changes
abbrev pub hand_goes : ℕ → ℕ → Option Held → Index → Index
hand_goes p h None ix = ix
hand_goes p h (Some w) ix = record ix { hands = put_at p h None ix.hands; reach = reach_less p w.place.kind w.counted.slot ix.reach }

abbrev pub object_becomes : ℕ → Counted → Index → Index
object_becomes i c ix = record ix { objects = placed i c ix.objects }

-- a new hand of p joins the list k of the object
abbrev pub in_list_of : Kind → Held → Held
in_list_of k w = record w { place = record { object = w.place.object; kind = k } }

-- the list that the hand joins can count it
abbrev pub fits : Kind → Option Held → Bool
fits k None = true
fits k (Some w) = can_count k w.counted

abbrev pub fits_own : Option Held → Bool
fits_own None = true
fits_own (Some w) = can_count w.place.kind w.counted

abbrev pub joins : ℕ → Kind → Option Held → Index → Index
joins p k None ix = ix
joins p k (Some w) ix = object_becomes w.place.object (with_one_more k w.counted) (hand_comes p (Some (in_list_of k w)) ix)

abbrev pub joins_own : ℕ → Option Held → Index → Index
joins_own p None ix = ix
joins_own p (Some w) ix = joins p w.place.kind (Some w) ix

-- after its last weak holder the object's entry is p's
abbrev pub entry_goes : ℕ → Bool → Kind → Option ℕ → Index → Index
entry_goes p true Weak (Some e) ix = record ix { entries = changed e (Claim p) ix.entries }
entry_goes p _ _ _ ix = ix

abbrev pub leaves : ℕ → ℕ → Bool → Option Held → Index → Index
leaves p h last None ix = ix
leaves p h last (Some w) ix =
    entry_goes p last w.place.kind w.counted.entry (object_becomes w.place.object (with_one_less p w.place.kind last w.counted) (hand_goes p h (Some w) ix))

abbrev pub cell_becomes : CellName → Option Place → Index → Index
cell_becomes (cells.Field s f) place ix = record ix { cells = put_at s f place ix.cells }
cell_becomes (cells.Global g) place ix = record ix { cells = put_at ix.shape.slots g place ix.cells }

abbrev pub put_hand : ℕ → Option ℕ → Index → Option Place
put_hand p None ix = None
put_hand p (Some h) ix = hand_at ix p h

abbrev pub goes_in : ℕ → Option ℕ → Index → Index
goes_in p None ix = ix
goes_in p (Some h) ix = hand_goes p h (hold ix (hand_at ix p h)) ix

abbrev pub comes_out : ℕ → Option ℕ → Option Held → Index → Index
comes_out p None w ix = ix
comes_out p (Some k) w ix = hand_comes p w ix

-- What the cell held is the hand k, what hand h held is the cell.
abbrev pub swapped : ℕ → CellName → Option ℕ → Option ℕ → Index → Index
swapped p c h k ix = cell_becomes c (put_hand p h ix) (goes_in p h (comes_out p k (hold ix (cell_at ix c)) ix))

abbrev pub counted_new : ℕ → ℕ → ℕ → ℕ → Counted
counted_new p n c s = record { id = record { thread = p; number = n }; class = c; slot = Some s; entry = None; owed = None; strong = 1; unowned = 1; weak = 1 }

abbrev pub with_made : ℕ → ℕ → List Mark → List Mark
with_made p n marks = at_place p (λ (m : Mark). record m { made = n }) marks

-- the hand and the slot of a new object
abbrev pub placed_new : ℕ → ℕ → ℕ → Index → Index
placed_new p i s ix = record ix { hands = pushed p (Some (record { object = i; kind = Strong })) ix.hands; slots = taken s (Object i) ix.slots }

abbrev pub made_new : ℕ → ℕ → ℕ → ℕ → Index → Index
made_new p k c s ix = record ix {
  hands = pushed p (Some (record { object = length ix.objects; kind = Strong })) ix.hands;
  reach = tally_raised p s ix.reach;
  objects = ix.objects ++ counted_new p (raised k (mark_of ix p).made) c s ∷ [];
  marks = with_made p (raised k (mark_of ix p).made) ix.marks;
  slots = taken s (Object (length ix.objects)) ix.slots;
}

abbrev pub sided : ℕ → Option Found → Index → Index
sided e None ix = ix
sided e (Some w) ix = record (object_becomes w.object (entered e w.counted) ix) { entries = changed e (Object w.object) ix.entries }

abbrev pub finishes : ℕ → Bool → Option Found → Index → Index
finishes p last None ix = ix
finishes p last (Some w) ix = object_becomes w.object (without_strongs p last w.counted) ix

abbrev pub vacates : ℕ → ℕ → Option Found → Index → Index
vacates p s None ix = ix
vacates p s (Some w) ix = record (object_becomes w.object (without_slot p w.counted) ix) { slots = freed s ix.slots }

abbrev pub claims_if : Bool → ℕ → ℕ → Index → Index
claims_if true p e ix = record ix { entries = changed e (Claim p) ix.entries }
claims_if false p e ix = ix

abbrev pub goes_away : ℕ → ℕ → Bool → Option Found → Index → Index
goes_away p e last None ix = ix
goes_away p e last (Some w) ix = claims_if last p e (object_becomes w.object (without_unowneds last w.counted) ix)

abbrev pub after_act : Index → ℕ → Act → Index
after_act ix p (acts.New k c s) = made_new p k c s ix
after_act ix p acts.Full = ix
after_act ix p (acts.Copy from k) = joins_own p (hold ix (origin_at ix p from)) ix
after_act ix p (acts.UnownedOf h k) = joins p Unowned (hold ix (hand_at ix p h)) ix
after_act ix p (acts.WeakOf h k) = joins p Weak (hold ix (hand_at ix p h)) ix
after_act ix p (acts.Load h (got.Hand k)) = joins p Strong (hold ix (hand_at ix p h)) ix
after_act ix p (acts.Load h got.Dead) = ix
after_act ix p (acts.Load h got.Nil) = ix
after_act ix p (acts.Drop h last) = leaves p h last (hold ix (hand_at ix p h)) ix
after_act ix p (acts.CountFull k from) = ix
after_act ix p (acts.Claim e) = record ix { entries = taken e (Claim p) ix.entries }
after_act ix p acts.NoEntry = ix
after_act ix p (acts.Side s e why) = sided e (in_slot ix s) ix
after_act ix p (acts.Back e) = record ix { entries = freed e ix.entries }
after_act ix p (acts.Swap c h k) = swapped p c h k ix
after_act ix p (acts.Look c) = ix
after_act ix p (acts.Take s f k) = swapped p (cells.Field s f) None (Some k) ix
after_act ix p (acts.Finish s last) = finishes p last (in_slot ix s) ix
after_act ix p (acts.Vacate s) = vacates p s (in_slot ix s) ix
after_act ix p (acts.Gone e last) = goes_away p e last (with_entry ix e) ix

-- the holder that the act adds to a list can be counted
abbrev pub fits_act : Index → ℕ → Act → Bool
fits_act ix p (acts.Copy from k) = fits_own (hold ix (origin_at ix p from))
fits_act ix p (acts.UnownedOf h k) = fits Unowned (hold ix (hand_at ix p h))
fits_act ix p (acts.WeakOf h k) = fits Weak (hold ix (hand_at ix p h))
fits_act ix p (acts.Load h (got.Hand k)) = fits Strong (hold ix (hand_at ix p h))
fits_act ix p _ = true

-- the thread's last event is now
abbrev pub ticked : ℕ → Index → Index
ticked p ix = record ix { marks = at_place p (λ (m : Mark). record { made = m.made; slots = ix.slots.frees; entries = ix.entries.frees }) ix.marks }

abbrev pub after_event : Index → Event → Index
after_event ix e = ticked e.thread (after_act ix e.thread e.act)
