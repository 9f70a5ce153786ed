-- What a model heap keeps, in place of the holders: the index.
use Rattle.std.specs.Prelude.{ℕ, Bool, ◌==◌, nat_lt, ◌&&◌, ◌||◌, not, List, length, Option, Some, None, slice_get, slice_index_or}
use Rattle.arc_model.specs.declared.event.CellName.{CellName}
use Rattle.arc_model.specs.declared.event.CellName.TheVariants as cells
use Rattle.arc_model.specs.declared.event.Origin.{Origin}
use Rattle.arc_model.specs.declared.event.Origin.TheVariants as origins
use Rattle.arc_model.specs.declared.shape.Kind.{Kind}
use Rattle.arc_model.specs.declared.shape.RefShape.{RefShape}
use Rattle.arc_model.specs.Shapes.{HeapShape, class_at}
use Rattle.arc_heap_index.specs.declared.counted.Place.{Place}
use Rattle.arc_heap_index.specs.declared.counted.Counted.{Counted}
use Rattle.arc_heap_index.specs.declared.counted.Held.{Held}
use Rattle.arc_heap_index.specs.declared.counted.Found.{Found}
use Rattle.arc_heap_index.specs.declared.mark.Mark.{Mark}
use Rattle.arc_heap_index.specs.Counting.{place_at, row_of, tally_at, count_in, holders_in, is_alive}
use Rattle.arc_heap_index.specs.Freeing.{Freed, owner_at, object_in}

-- The shape; where each hand and each cell counts; how many strong hands each thread has of the object in each slot; the
-- objects that were made, in order; what is kept of each thread; the slots and the entries.
pub record Index : Type 0 where
  pub shape : HeapShape
  pub hands : List (List (Option Place))
  pub cells : List (List (Option Place))
  pub reach : List (List ℕ)
  pub objects : List Counted
  pub marks : List Mark
  pub slots : Freed
  pub entries : Freed

abbrev pub hand_at : Index → ℕ → ℕ → Option Place
hand_at ix p k = place_at p k ix.hands

-- the fields of slot s are row s, the globals are the row after the slots'
abbrev pub cell_at : Index → CellName → Option Place
cell_at ix (cells.Field s f) = place_at s f ix.cells
cell_at ix (cells.Global g) = place_at ix.shape.slots g ix.cells

abbrev pub origin_at : Index → ℕ → Origin → Option Place
origin_at ix p (origins.Hand k) = hand_at ix p k
origin_at ix p (origins.Cell c) = cell_at ix c

abbrev pub with_place : Place → Option Counted → Option Held
with_place place None = None
with_place place (Some c) = Some (record { place = place; counted = c })

abbrev pub held_at : List Counted → Option Place → Option Held
held_at objects None = None
held_at objects (Some place) = with_place place (slice_get objects place.object)

-- the object at a place
abbrev pub hold : Index → Option Place → Option Held
hold ix place = held_at ix.objects place

abbrev pub with_object : ℕ → Option Counted → Option Found
with_object i None = None
with_object i (Some c) = Some (record { object = i; counted = c })

abbrev pub found_at : List Counted → Option ℕ → Option Found
found_at objects None = None
found_at objects (Some i) = with_object i (slice_get objects i)

-- the object in a slot, the object that has an entry
abbrev pub in_slot : Index → ℕ → Option Found
in_slot ix s = found_at ix.objects (object_in (owner_at s ix.slots))

abbrev pub with_entry : Index → ℕ → Option Found
with_entry ix e = found_at ix.objects (object_in (owner_at e ix.entries))

abbrev pub reach_at : Index → ℕ → ℕ → ℕ
reach_at ix p s = tally_at p s ix.reach

abbrev pub no_mark : Mark
no_mark = record { made = 0; slots = 0; entries = 0 }

abbrev pub mark_of : Index → ℕ → Mark
mark_of ix p = slice_index_or ix.marks p no_mark

-- the number of thread p's next hand
abbrev pub next_of : Index → ℕ → ℕ
next_of ix p = length (row_of p ix.hands)

abbrev pub fields_in : HeapShape → Counted → List RefShape
fields_in shape c = (class_at shape c.class).fields

abbrev pub immortal_in : HeapShape → Counted → Bool
immortal_in shape c = (class_at shape c.class).immortal

abbrev pub alive_in : HeapShape → Counted → Bool
alive_in shape c = is_alive (immortal_in shape c) c

-- a list has no other holder
abbrev pub alone_in : HeapShape → Kind → Counted → Bool
alone_in shape k c = holders_in (immortal_in shape c) k c == 1

-- a list may grow
abbrev pub room_in : HeapShape → Kind → Counted → Bool
room_in shape k c = nat_lt (count_in k c) shape.caps.wide || immortal_in shape c

-- a list has all the holders that it may have
abbrev pub full_in : HeapShape → Kind → Counted → Bool
full_in shape k c = not (immortal_in shape c) && count_in k c == shape.caps.wide
