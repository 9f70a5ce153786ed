-- Where a thread is that gives a reference up, or deinits an object: which steps were made of it, and which deinits wait.
use Rattle.std.proofs.Common.{◌≡◌, ℕ, ◌+◌, ◌<◌, ◌≤◌, List, [], ◌∷◌, Option, Some, None}
use Rattle.std.specs.Prelude.{⊤}
use Rattle.arc_model.specs.declared.event.ObjectName.{ObjectName}
use Rattle.arc_model.specs.declared.shape.Kind.{Kind}
use Rattle.arc_model.specs.declared.shape.Kind.TheVariants.{Unowned}
use Rattle.arc_model.specs.Shapes.{HeapShape}
use Rattle.arc_model.specs.References.{field_count}
use Rattle.arc_rule.specs.Isa.{isa_word_of}
use Rattle.arc_rule.specs.Places.{number, extent_of}
use Rattle.arc_rule.specs.declared.layout.Place.TheVariants.{Isa, Next as NextPlace, Field}
use Rattle.arc_rule.specs.declared.step.Step.{Step}
use Rattle.arc_rule.specs.declared.step.Step.TheVariants as steps
use Rattle.arc_plan.specs.declared.slots.Once.TheVariants as onces
use Rattle.arc_plan.specs.declared.unowned.UnownedDownAnswer.TheVariants as unowneds
use Rattle.arc_plan.specs.Slots.{OneStep}
use Rattle.arc_side.specs.declared.down.DownAnswer.TheVariants as downs
use Rattle.arc_side.specs.declared.slot_end.At.TheVariants as slot_end
use Rattle.arc_side.specs.Downs.{Fall, inline_fall}
use Rattle.arc_side.specs.SlotEnds.{SlotEnding}
use Rattle.arc_cells.specs.declared.parent.Parent.{Parent}
use Rattle.arc_cells.specs.declared.cascade.At.{At as CascadeAt}
use Rattle.arc_cells.specs.declared.cascade.At.TheVariants as at
use Rattle.arc_cells.specs.declared.ref_drop.At.{At as DropAt}
use Rattle.arc_cells.specs.declared.ref_drop.At.TheVariants as drops_at
use Rattle.arc_cells.specs.Chains.{Frame, next_word_of, parent_of}
use Rattle.arc_cells.specs.Drops.{Dropping}
use Rattle.arc_cells.specs.Cascades.{CascadeState, field_kind}
use Rattle.arc_ops.specs.declared.stepper.Held.{Held}
use Rattle.arc_ops.specs.declared.stepper.Doing.{Doing}
use Rattle.arc_ops.specs.declared.stepper.Doing.TheVariants.{Dying}
use Rattle.arc_ops.specs.Steppers.{IsHeld}
use Rattle.arc_schedule.specs.Made.{Point, Made}
use Rattle.arc_schedule.specs.Plans.{Gives, down, finish, vacate}
use Rattle.arc_schedule.specs.Operations.{Holding, reference_to, loads, stores, takes_out, SlotEnds, Drops, FieldsDone, IsCascade}
use Rattle.arc_schedule.proofs.Given.{Waits}

abbrev pub ref : Option Held → Option Holding
ref None = None
ref (Some h) = reference_to h.hand h.kind h.place

-- ---- a reference is dropped, and then this holds, by how many references came into the hands

pub record IsDropping (shape : HeapShape) (point : Point) (Over : ℕ → List Made → Type 0) (held : Held) (plan : Fall) (hands : ℕ) (asked : Option Step) (now : List Made) : Type 0 where
  pub base : List Made
  pub ends : (came : ℕ) (after : List Made) → Drops shape point [] (ref (Some held)) hands base came after → Over came after
  pub waits : Waits (down (extent_of shape) held.kind held.place held.hand) point base now plan asked
  pub inside : IsHeld shape.slots held
  pub bare : plan.entry ≡ None

-- the slot of an object ends whose last unowned reference went
pub record IsEnding (shape : HeapShape) (point : Point) (Over : ℕ → List Made → Type 0) (slot : ℕ) (plan : OneStep) (hands : ℕ) (asked : Option Step) (now : List Made) : Type 0 where
  pub base : List Made
  pub ends : (after : List Made) → SlotEnds shape point slot None base after → Over hands after
  pub waits : Waits (vacate (extent_of shape) slot) point base now plan asked

-- ---- a deinit, and those that wait

-- The deinits that wait for that of the object in the slot, which began behind these steps. What completes it completes a field of the first of
-- them, whose isa word is then read again, and what completes the last of them completes what is under way.
pub data Chained (shape : HeapShape) (point : Point) (Over : ℕ → List Made → Type 0) : List Frame → (slot hands : ℕ) (base : List Made) → Type 0 where
  root : {slot hands : ℕ} {base : List Made} → ((came : ℕ) (after : List Made) → IsCascade shape point [] slot hands base came after → Over came after) →
      Chained shape point Over [] slot hands base
  under : {p : Frame} {chain : List Frame} {slot hands first : ℕ} {base begun : List Made} → p.slot < shape.slots → p.field ≤ field_count shape p.name → Chained shape point Over chain p.slot first begun →
      ((came : ℕ) (ns : List Made) → IsCascade shape point (p ∷ chain) slot hands base came ns →
      FieldsDone shape point chain p.slot p.name first begun p.field came (loads shape point (Isa p.slot) (isa_word_of p.name) ∷ ns)) →
      Chained shape point Over (p ∷ chain) slot hands base

-- the deinit of the object in the slot has begun
pub record Begun (shape : HeapShape) (point : Point) (Over : ℕ → List Made → Type 0) (chain : List Frame) (slot : ℕ) : Type 0 where
  pub hands : ℕ
  pub base : List Made
  pub waiting : Chained shape point Over chain slot hands base
  pub within : slot < shape.slots

-- the fields below this one are done
pub record InFields (shape : HeapShape) (point : Point) (Over : ℕ → List Made → Type 0) (chain : List Frame) (slot : ℕ) (name : ObjectName) (field hands : ℕ) (now : List Made) : Type 0 where
  pub begun : Begun shape point Over chain slot
  pub done : FieldsDone shape point chain slot name begun.hands begun.base field hands now

-- its next word is to be stored
pub record IsEntering (shape : HeapShape) (point : Point) (Over : ℕ → List Made → Type 0) (chain : List Frame) (slot hands : ℕ) (asked : Option Step) (now : List Made) : Type 0 where
  pub begun : Begun shape point Over chain slot
  pub hands_are : hands ≡ begun.hands
  pub now_is : now ≡ begun.base
  pub asks : asked ≡ Some (steps.Store (number (extent_of shape) (NextPlace slot)) (next_word_of (parent_of chain)))

-- its isa word is to be read
pub record IsEntered (shape : HeapShape) (point : Point) (Over : ℕ → List Made → Type 0) (chain : List Frame) (slot hands : ℕ) (asked : Option Step) (now : List Made) : Type 0 where
  pub begun : Begun shape point Over chain slot
  pub hands_are : hands ≡ begun.hands
  pub stored : ℕ
  pub now_is : now ≡ stores shape point (NextPlace slot) (next_word_of (parent_of chain)) stored ∷ begun.base
  pub asks : asked ≡ Some (steps.Load (number (extent_of shape) (Isa slot)))

-- a field is to be read
pub record IsLooking (shape : HeapShape) (point : Point) (Over : ℕ → List Made → Type 0) (chain : List Frame) (slot : ℕ) (name : ObjectName) (field hands : ℕ) (asked : Option Step) (now : List Made) : Type 0 where
  pub inside : field < field_count shape name
  pub fields : InFields shape point Over chain slot name field hands now
  pub asks : asked ≡ Some (steps.Load (number (extent_of shape) (Field slot field)))

-- it isn't nil, and is to be
pub record IsTaking (shape : HeapShape) (point : Point) (Over : ℕ → List Made → Type 0) (chain : List Frame) (slot : ℕ) (name : ObjectName) (field place hands : ℕ) (asked : Option Step) (now : List Made) : Type 0 where
  pub inside : field < field_count shape name
  pub before : List Made
  pub fields : InFields shape point Over chain slot name field hands before
  pub now_is : now ≡ loads shape point (Field slot field) (place + 2) ∷ before
  pub place_in : place < shape.slots
  pub asks : asked ≡ Some (steps.Store (number (extent_of shape) (Field slot field)) 0)

-- the count of an object was the last one, and its slot is to be vacated
pub record IsLastUnowned (shape : HeapShape) (point : Point) (kind : Kind) (place hand : ℕ) (base now : List Made) (p : SlotEnding) (asked : Option Step) : Type 0 where
  pub kind_is : kind ≡ Unowned
  pub plan : p ≡ record { layout = extent_of shape; slot = place; entry = None; at = slot_end.Vacating; event = p.event }
  pub mid : List Made
  pub counted : Gives (down (extent_of shape) Unowned place hand) point base (downs.Last None) mid
  pub waits : Waits (vacate (extent_of shape) place) point mid now (record { layout = extent_of shape; slot = place; at = onces.Asked }) asked

-- the count lies in the inline word
pub record IsCounting (shape : HeapShape) (point : Point) (kind : Kind) (place hand : ℕ) (base now : List Made) (p : Fall) (asked : Option Step) : Type 0 where
  pub plan : p ≡ record { layout = extent_of shape; slot = place; list = kind; entry = None; at = p.at }
  pub waits : Waits (down (extent_of shape) kind place hand) point base now p asked

-- the drop of what was in a field
abbrev pub DropUpTo : HeapShape → Point → Kind → (place hand : ℕ) → (base now : List Made) → Option Step → DropAt → Type 0
DropUpTo shape point kind place hand base now asked (drops_at.Counting p) = IsCounting shape point kind place hand base now p asked
DropUpTo shape point kind place hand base now asked (drops_at.Ending p) = IsLastUnowned shape point kind place hand base now p asked
DropUpTo shape point kind place hand base now asked _ = ⊥

-- what was in the field is dropped
pub record IsReleasing (shape : HeapShape) (point : Point) (Over : ℕ → List Made → Type 0) (chain : List Frame) (slot : ℕ) (name : ObjectName) (field : ℕ) (d : Dropping) (hands : ℕ) (asked : Option Step) (now : List Made) : Type 0 where
  pub inside : field < field_count shape name
  pub held : ℕ
  pub before : List Made
  pub fields : InFields shape point Over chain slot name field held before
  pub hands_are : hands ≡ held + 1
  pub found : ℕ
  pub place_in : d.place < shape.slots
  pub drop : d ≡ record { layout = extent_of shape; hand = held + 1; kind = field_kind shape name field; place = d.place; at = d.at; event = d.event }
  pub up_to : DropUpTo shape point (field_kind shape name field) d.place (held + 1) (takes_out shape point slot field (held + 1) found ∷ loads shape point (Field slot field) (d.place + 2) ∷ before) now asked d.at

-- all fields are done, and the next word is to be read
pub record IsLeaving (shape : HeapShape) (point : Point) (Over : ℕ → List Made → Type 0) (chain : List Frame) (slot hands : ℕ) (asked : Option Step) (now : List Made) : Type 0 where
  pub name : ObjectName
  pub fields : InFields shape point Over chain slot name (field_count shape name) hands now
  pub asks : asked ≡ Some (steps.Load (number (extent_of shape) (NextPlace slot)))

-- its object has no entry, so the count lies in the inline word
pub record IsFinishing (shape : HeapShape) (point : Point) (Over : ℕ → List Made → Type 0) (chain : List Frame) (slot hands : ℕ) (parent : Option Parent) (p : Fall) (asked : Option Step) (now : List Made) : Type 0 where
  pub parent_is : parent ≡ parent_of chain
  pub plan : p ≡ record { layout = extent_of shape; slot = slot; list = Unowned; entry = None; at = p.at }
  pub name : ObjectName
  pub left : List Made
  pub fields : InFields shape point Over chain slot name (field_count shape name) hands left
  pub waits : Waits (finish (extent_of shape) slot) point (loads shape point (NextPlace slot) (next_word_of (parent_of chain)) ∷ left) now (inline_fall p) asked

pub record IsVacating (shape : HeapShape) (point : Point) (Over : ℕ → List Made → Type 0) (chain : List Frame) (slot hands : ℕ) (parent : Option Parent) (p : SlotEnding) (asked : Option Step) (now : List Made) : Type 0 where
  pub parent_is : parent ≡ parent_of chain
  pub plan : p ≡ record { layout = extent_of shape; slot = slot; entry = None; at = slot_end.Vacating; event = p.event }
  pub name : ObjectName
  pub left : List Made
  pub fields : InFields shape point Over chain slot name (field_count shape name) hands left
  pub mid : List Made
  pub finished : Gives (finish (extent_of shape) slot) point (loads shape point (NextPlace slot) (next_word_of (parent_of chain)) ∷ left) unowneds.Last mid
  pub waits : Waits (vacate (extent_of shape) slot) point mid now (record { layout = extent_of shape; slot = slot; at = onces.Asked }) asked

-- the first deinit that waits goes on, once its isa word is read again
pub record IsResuming (shape : HeapShape) (point : Point) (Over : ℕ → List Made → Type 0) (p : Frame) (chain : List Frame) (slot field hands : ℕ) (asked : Option Step) (now : List Made) : Type 0 where
  pub slot_is : slot ≡ p.slot
  pub field_is : field ≡ p.field
  pub inside : p.field ≤ field_count shape p.name
  pub fields : InFields shape point Over chain p.slot p.name p.field hands (loads shape point (Isa p.slot) (isa_word_of p.name) ∷ now)
  pub asks : asked ≡ Some (steps.Load (number (extent_of shape) (Isa slot)))

abbrev pub Resumes : (shape : HeapShape) (point : Point) (Over : ℕ → List Made → Type 0) (chain : List Frame) (slot field hands : ℕ) → Option Step → List Made → Type 0
Resumes shape point Over [] slot field hands asked now = ⊥
Resumes shape point Over (p ∷ chain) slot field hands asked now = IsResuming shape point Over p chain slot field hands asked now

-- where a deinit may be, under a chain of those that wait
abbrev pub CascadeUpTo : (shape : HeapShape) (point : Point) (Over : ℕ → List Made → Type 0) (chain : List Frame) (slot hands : ℕ) → Option Step → List Made → CascadeAt → Type 0
CascadeUpTo shape point Over chain slot hands asked now at.Entering = IsEntering shape point Over chain slot hands asked now
CascadeUpTo shape point Over chain slot hands asked now at.Naming = IsEntered shape point Over chain slot hands asked now
CascadeUpTo shape point Over chain slot hands asked now (at.Looking name field) = IsLooking shape point Over chain slot name field hands asked now
CascadeUpTo shape point Over chain slot hands asked now (at.Taking name field place) = IsTaking shape point Over chain slot name field place hands asked now
CascadeUpTo shape point Over chain slot hands asked now (at.Dropping name field d) = IsReleasing shape point Over chain slot name field d hands asked now
CascadeUpTo shape point Over chain slot hands asked now at.Leaving = IsLeaving shape point Over chain slot hands asked now
CascadeUpTo shape point Over chain slot hands asked now (at.Finishing parent p) = IsFinishing shape point Over chain slot hands parent p asked now
CascadeUpTo shape point Over chain slot hands asked now (at.Ending parent p) = IsVacating shape point Over chain slot hands parent p asked now
CascadeUpTo shape point Over chain slot hands asked now (at.Resuming field) = Resumes shape point Over chain slot field hands asked now
CascadeUpTo shape point Over chain slot hands asked now _ = ⊥

-- an object dies, under a chain of deinits that wait; its hands are the thread's
pub record IsDying (shape : HeapShape) (point : Point) (Over : ℕ → List Made → Type 0) (chain : List Frame) (c : CascadeState) (hands : ℕ) (asked : Option Step) (now : List Made) : Type 0 where
  pub layout : c.layout ≡ extent_of shape
  pub shape_is : c.shape ≡ shape
  pub came : c.before + c.taken ≡ hands
  pub place : CascadeUpTo shape point Over chain c.slot hands asked now c.at

-- it asks for a step
pub dying-asks : (shape : HeapShape) (point : Point) (Over : ℕ → List Made → Type 0) (chain : List Frame) (slot hands : ℕ) (asked : Option Step) (now : List Made) (a : CascadeAt) →
    CascadeUpTo shape point Over chain slot hands asked now a → (s : Step) × (asked ≡ Some s)
dying-asks shape point Over chain slot hands asked now at.Start p = absurd p
dying-asks shape point Over chain slot hands asked now at.Entering p = (_, p.asks)
dying-asks shape point Over chain slot hands asked now at.Naming p = (_, p.asks)
dying-asks shape point Over chain slot hands asked now (at.Named name) p = absurd p
dying-asks shape point Over chain slot hands asked now (at.Looking name field) p = (_, p.asks)
dying-asks shape point Over chain slot hands asked now (at.Taking name field place) p = (_, p.asks)
dying-asks shape point Over chain slot hands asked now (at.Dropping name field d) p = dropping d.at p.up_to
  where
    dropping : (a : DropAt) → DropUpTo shape point (field_kind shape name field) d.place (p.held + 1) (takes_out shape point slot field (p.held + 1) p.found ∷ loads shape point (Field slot field) (d.place + 2) ∷ p.before) now asked a →
        (s : Step) × (asked ≡ Some s)
    dropping drops_at.Start u = absurd u
    dropping (drops_at.Counting q) u = (_, u.waits.asked_is)
    dropping (drops_at.InEntry q) u = absurd u
    dropping (drops_at.Ending q) u = (_, u.waits.asked_is)
    dropping drops_at.Returning u = absurd u
    dropping drops_at.Ended u = absurd u
dying-asks shape point Over chain slot hands asked now at.Leaving p = (_, p.asks)
dying-asks shape point Over chain slot hands asked now (at.Finishing parent q) p = (_, p.waits.asked_is)
dying-asks shape point Over chain slot hands asked now (at.Ending parent q) p = (_, p.waits.asked_is)
dying-asks shape point Over [] slot hands asked now (at.Resuming field) p = absurd p
dying-asks shape point Over (f ∷ chain) slot hands asked now (at.Resuming field) p = (_, p.asks)
dying-asks shape point Over chain slot hands asked now at.Ended p = absurd p

-- ---- no entry counts

abbrev pub IsBareDrop : DropAt → Type 0
IsBareDrop (drops_at.Counting p) = p.entry ≡ None
IsBareDrop (drops_at.Ending p) = p.entry ≡ None
IsBareDrop _ = ⊥

abbrev pub IsBareAt : CascadeAt → Type 0
IsBareAt (at.Dropping name field d) = IsBareDrop d.at
IsBareAt (at.Finishing parent p) = p.entry ≡ None
IsBareAt _ = ⊤

abbrev pub IsBare : Doing → Type 0
IsBare (Dying c) = IsBareAt c.at
IsBare _ = ⊤
