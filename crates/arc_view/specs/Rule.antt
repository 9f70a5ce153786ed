-- The rule over the words and all views, between any two steps.
use Rattle.arc_model.specs.Heaps.{Claimed}
use Rattle.arc_model.specs.Ranges.{CapsFit, ShapeFits}
use Rattle.arc_model.specs.declared.event.CellName.{CellName}
use Rattle.arc_view.specs.declared.view.Working.{Working}
use Rattle.std.specs.Prelude.{ℕ, ◌≡◌, ◌<◌, ◌≤◌, ◌⊎◌, ◌^◌, ◌/◌, ◌&&◌, Bool, true, false, List, [], ◌++◌, length, Option, None, Some, slice_get, ⊤, count_by}
use mathlib.Core.Option.{some}
use lib.ListN.{get_elem?}
use Rattle.atomic_table.specs.Table.{State}
use Rattle.arc_model.specs.declared.event.Act.{Act}
use Rattle.arc_model.specs.declared.event.Act.TheVariants as acts
use Rattle.arc_model.specs.declared.shape.RefShape.{RefShape}
use Rattle.arc_model.specs.Shapes.{HeapShape}
use Rattle.arc_model.specs.Heaps.{Field, Global, Deinit, Object, Heap}
use Rattle.arc_model.specs.Holders.{at_slot, is_slot_taken, is_entry_taken}
use Rattle.arc_model.specs.Cells.{cell, is_nil, field_shape}
use Rattle.arc_model.specs.Others.{IsUnshared, IsQuiet}
use Rattle.arc_model.specs.History.{History, heap_after, share, is_of, IsLegal}
use Rattle.arc_model.specs.Lookup.{Spot, spot, duty_of}
use Rattle.arc_rule.specs.declared.layout.Place.{Place}
use Rattle.arc_rule.specs.declared.layout.Place.TheVariants.{Count, SlotBits, EntryBits}
use Rattle.arc_rule.specs.Places.{IsPlace, extent_of, number}
use Rattle.arc_rule.specs.Bits.{is_set}
use Rattle.arc_rule.specs.Shown.{Says, ShowsBut, word_at}
use Rattle.arc_rule.specs.Steps.{place_of}
use Rattle.arc_view.specs.declared.view.Role.TheVariants.{Pass}
use Rattle.arc_view.specs.declared.view.Mark.{Mark}
use Rattle.arc_view.specs.declared.view.Naming.{Naming}
use Rattle.arc_view.specs.declared.view.Old.{Old}
use Rattle.arc_view.specs.declared.view.Stored.{Stored}
use Rattle.arc_view.specs.declared.view.Begun.{Begun}
use Rattle.arc_view.specs.declared.view.Entered.{Entered}
use Rattle.arc_view.specs.declared.view.View.{View}
use Rattle.arc_view.specs.Views.{StartsWith, Each, within, cell_place, private_words, first_word, Excepts}
use Rattle.arc_view.specs.Holding.{At, CanReach, Owns}

-- One step of the trail of thread p, by what p has seen: as long a part of it as the mark says, with as many events of p. A bit that was
-- found set shows that the slot was in an object, or the entry taken, then.
pub record MarkFits (shape : HeapShape) (p : ℕ) (seen : History) (m : Mark) : Type 0 where
  pub later : History
  pub earlier : History
  pub split : seen ≡ later ++ earlier
  pub at : length earlier ≡ m.length
  pub made : length (share earlier p) ≡ m.made
  pub slot : (s : ℕ) → s < shape.slots → place_of m.step ≡ number (extent_of shape) (SlotBits (s / 64)) → is_set s m.found ≡ true → is_slot_taken s (heap_after earlier) ≡ true
  pub entry : (e : ℕ) → e < shape.entries → place_of m.step ≡ number (extent_of shape) (EntryBits (e / 64)) → is_set e m.found ≡ true → is_entry_taken e (heap_after earlier) ≡ true

-- what had been seen before a join begins the history, and has all events of its threads, of whom no other pass makes any
pub record OldFits (h : History) (own : ℕ → Type 0) (o : Old) : Type 0 where
  pub begins : StartsWith h o.seen
  pub whole : (p : ℕ) → within p o.of ≡ true → (share h p ≡ share o.seen p) × own p

-- the thread of a pass, or one that was taken in: no other pass makes its events
abbrev pub IsOwn : View → List ℕ → ℕ → Type 0
IsOwn v taken p = ((v.role ≡ Pass) × (p ≡ v.number)) ⊎ (within p taken ≡ true)

-- p is the one that made the object in the slot, and its hand is the object's only holder beside the two extra ones
abbrev pub IsNew : Heap → ℕ → ℕ → Type 0
IsNew heap p s = (i : ℕ) × (o : Object) × (k : ℕ) × At heap i o × (o.slot ≡ Some s) × IsUnshared p k o

-- A deinit that thread p has entered, by what p has seen: it owes it to the object in the slot, the fields before the next one are nil, and the
-- field to go on with in the parent, a slot of the shape, is at most 8, that is past the last one.
pub record EnteredFits (shape : HeapShape) (p : ℕ) (seen : History) (e : Entered) : Type 0 where
  pub place : ℕ
  pub object : Object
  pub here : At (heap_after seen) place object
  pub slot : object.slot ≡ Some e.slot
  pub duty : duty_of p place (heap_after seen) ≡ Some Deinit
  pub nils : (f : ℕ) → f < e.next_field → is_nil (heap_after seen) (Field object.id f) ≡ true
  pub parent : (q : ℕ) (f : ℕ) → e.parent ≡ Some (record { slot = q; field = f }) → (q < shape.slots) × (f ≤ 8)

-- p alone writes the word of the place
abbrev pub IsMine : HeapShape → Heap → ℕ → Stored → Type 0
IsMine shape heap p k = IsPlace (extent_of shape) k.place × Owns heap p k.place

-- what thread p has under way, by what p has seen
pub record WorkFits (shape : HeapShape) (p : ℕ) (seen : History) (w : Working) : Type 0 where
  -- the object whose words are still to be written has no holder that comes and goes but the pass's hand
  pub owing : (n : Naming) → w.owes ≡ Some n → (n.slot < shape.slots) × IsNew (heap_after seen) p n.slot
  -- a field that is accessed is one of an object of which p has a strong hand
  pub reaches : (a : Begun) → w.access ≡ Some a → IsPlace (extent_of shape) (cell_place a.cell) × CanReach shape (heap_after seen) p a.cell
  pub private : Each (IsMine shape (heap_after seen) p) (private_words w)
  pub entered : Each (EnteredFits shape p seen) w.entered

-- what holds of one view, by the history and by what the first pass has split off and taken in
pub record Fits (shape : HeapShape) (h : History) (splits : ℕ) (taken : List ℕ) (v : View) : Type 0 where
  pub begins : StartsWith h v.seen
  pub olds : Each (OldFits h (IsOwn v taken)) v.olds
  pub own : v.role ≡ Pass → share h v.number ≡ share v.seen v.number
  pub marks : Each (MarkFits shape v.number v.seen) v.trail
  pub numbered : v.role ≡ Pass → (v.number ≤ splits) × (within v.number taken ≡ false)
  pub first : v.role ≡ Pass → v.number ≡ 0 → (v.splits ≡ splits) × (v.taken ≡ taken)
  pub kept : v.role ≡ Pass → (p : ℕ) → within p v.taken ≡ true → (within p taken ≡ true) × (share h p ≡ share v.seen p)
  pub work : WorkFits shape v.number v.seen v.working
  -- a view that isn't a pass has nothing under way
  pub working : (v.role ≡ Pass) ⊎ ((v.working.owes ≡ None) × (v.working.access ≡ None) × (private_words v.working ≡ []))

-- a word that a view keeps private is in its place
abbrev pub Lies : HeapShape → List ℕ → Stored → Type 0
Lies shape words k = word_at shape words k.place ≡ k.word

-- no event since what was seen has changed the cell
pub record CellStays (h seen : History) (c : CellName) : Type 0 where
  pub owner : (point : History) → StartsWith h point → StartsWith point seen → cell (heap_after point) c ≡ cell (heap_after seen) c
  pub refers : (point : History) → StartsWith h point → StartsWith point seen → spot (cell (heap_after point) c) (heap_after point) ≡ spot (cell (heap_after seen) c) (heap_after seen)

-- The cell of an access is busy, the pass has the word that the heap says, and no event has changed the cell.
pub record AccessFits (shape : HeapShape) (h seen : History) (words : List ℕ) (a : Begun) : Type 0 where
  pub busy : word_at shape words (cell_place a.cell) ≡ 1
  pub value : Says shape (heap_after h) (cell_place a.cell) a.value
  pub stays : CellStays h seen a.cell

-- the inline word of a new object is what the heap says of the object in the slot
abbrev pub IsFirst : HeapShape → Heap → ℕ → Type 0
IsFirst shape heap s = (o : Object) × (at_slot s heap ≡ Some o) × Says shape heap (Count s) (first_word shape o)

-- what holds of what a view has under way and the words
pub record Lying (shape : HeapShape) (h seen : History) (words : List ℕ) (w : Working) : Type 0 where
  pub private : Each (Lies shape words) (private_words w)
  pub access : (a : Begun) → w.access ≡ Some a → AccessFits shape h seen words a
  -- what is still to be stored as an inline word is what the heap says now
  pub naming : (s : ℕ) → w.owes ≡ Some (record { slot = s; counted = false }) → IsFirst shape (heap_after h) s

-- a view owes the name of the slot, or holds an access to the cell
abbrev pub Excepted : List View → Place → Type 0
Excepted views pl = (i : ℕ) × (v : View) × (get_elem? views i ≡ some v) × Excepts v.working pl

-- the object that a cell refers to is of the class that the shape names for it
abbrev pub FitsCell : Heap → Option Spot → Option RefShape → Type 0
FitsCell heap None named = ⊤
FitsCell heap (Some at) named = (o : Object) × (r : RefShape) × At heap at.place o × (named ≡ Some r) × (o.class ≡ r.class)

abbrev pub is_new : Act → Bool
is_new (acts.New k c s) = true
is_new _ = false

-- how many objects thread p made in the history
abbrev pub news : ℕ → History → ℕ
news p h = count_by (λ e. is_of p e && is_new e.act) h

-- the object's slot and its entry are of the shape
abbrev pub IsWithin : HeapShape → Object → Type 0
IsWithin shape o = ((s : ℕ) → o.slot ≡ Some s → s < shape.slots) × ((e : ℕ) → o.entry ≡ Some e → e < shape.entries)

abbrev pub IsClaimWithin : HeapShape → Claimed → Type 0
IsClaimWithin shape c = c.entry < shape.entries

-- Slots and entries are of the shape. Each object has a class of the shape and a number below 2 ^ 32; what a cell refers to is of its class; and at most 64 threads made objects,
-- each at most 100,000.
pub record InShape (shape : HeapShape) (h : History) : Type 0 where
  pub within : Each (IsWithin shape) (heap_after h).objects
  pub claims : Each (IsClaimWithin shape) (heap_after h).claims
  pub classes : (i : ℕ) (o : Object) → At (heap_after h) i o → (o.class < length shape.classes) × (o.id.number < 2 ^ 32)
  pub fields : (i : ℕ) (o : Object) (f : ℕ) → At (heap_after h) i o → FitsCell (heap_after h) (spot (Field o.id f) (heap_after h)) (field_shape shape f (Some o))
  pub globals : (g : ℕ) → FitsCell (heap_after h) (spot (Global g) (heap_after h)) (slice_get shape.globals g)
  pub makers : (p : ℕ) → 64 < p → news p h ≡ 0
  pub made : (p : ℕ) → news p h ≤ 100000

-- the ranges of a shape
pub record IsSized (shape : HeapShape) : Type 0 where
  pub shape_fits : ShapeFits shape.slots shape.entries shape.classes shape.globals
  pub caps_fit : CapsFit shape.caps.strong shape.caps.unowned shape.caps.wide

-- Views that hold accesses hold them to different cells.
abbrev pub AccessApart : List View → Type 0
AccessApart views = (i j : ℕ) (v w : View) (a b : Begun) → get_elem? views i ≡ some v → get_elem? views j ≡ some w → v.working.access ≡ Some a → w.working.access ≡ Some b → a.cell ≡ b.cell → i ≡ j

module _ {S : Type 0} where
  pub record IsKept (shape : HeapShape) (s : State S View) : Type 0 where
    -- the history of all threads, of which each view has seen a beginning; how many passes were split off; which of them were taken in
    pub log : History
    pub splits : ℕ
    pub taken : List ℕ
    pub sized : IsSized shape
    pub legal : IsLegal shape log
    pub in_shape : InShape shape log
    -- the words show the heap after the history, but for names that are owed and cells that are accessed
    pub words : ShowsBut (Excepted s.views) shape (heap_after log) s.words
    pub lying : (i : ℕ) (v : View) → get_elem? s.views i ≡ some v → Lying shape log v.seen s.words v.working
    pub fits : (i : ℕ) (v : View) → get_elem? s.views i ≡ some v → Fits shape log splits taken v
    -- passes have different numbers, and accesses different cells
    pub apart : (i j : ℕ) (v w : View) → get_elem? s.views i ≡ some v → get_elem? s.views j ≡ some w → v.role ≡ Pass → w.role ≡ Pass → v.number ≡ w.number → i ≡ j
    pub accesses : AccessApart s.views
    pub few : splits ≤ 64
    pub taken_below : (p : ℕ) → within p taken ≡ true → (1 ≤ p) × (p ≤ splits)
    -- a pass that was taken in had nothing; a number that was never split off has no event
    pub quiet : (p : ℕ) → within p taken ≡ true → IsQuiet p (heap_after log)
    pub strange : (p : ℕ) → splits < p → share log p ≡ []
