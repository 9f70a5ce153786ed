-- A cascade: where it is after each word, and what it says then.
use Rattle.std.specs.Prelude.{ℕ, Bool, true, false, ◌≡◌, ◌≢◌, ◌==◌, nat_lt, ◌+◌, ◌-◌, ◌^◌, ◌<◌, ◌≤◌, if◌then◌else◌, [], length, slice_index_or, All, Option, Some, None, ⊤}
use Rattle.std.specs.Option.{unwrap_or}
use Rattle.arc_model.specs.Shapes.{HeapShape, ObjectClass, class_at}
use Rattle.arc_model.specs.References.{field_count}
use Rattle.arc_model.specs.declared.shape.Kind.{Kind}
use Rattle.arc_model.specs.declared.shape.Kind.TheVariants.{Strong, Unowned}
use Rattle.arc_model.specs.declared.event.ObjectName.{ObjectName}
use Rattle.arc_model.specs.declared.event.Act.{Act}
use Rattle.arc_model.specs.declared.event.Act.TheVariants as acts
use Rattle.arc_rule.specs.Extents.{Extent}
use Rattle.arc_rule.specs.Places.{number, extent_of}
use Rattle.arc_rule.specs.declared.layout.Place.TheVariants.{Count, Isa, Next as NextPlace, Field}
use Rattle.arc_rule.specs.Isa.{IsIsaWord, isa_name_of}
use Rattle.arc_rule.specs.declared.step.Step.{Step}
use Rattle.arc_rule.specs.declared.step.Step.TheVariants.{Load, Store}
use Rattle.arc_rule.specs.declared.step.Intent.TheVariants as intents
use Rattle.arc_rule.specs.declared.plan.Next.{Next}
use Rattle.arc_rule.specs.declared.plan.Next.TheVariants as nexts
use Rattle.arc_rule.specs.declared.attempt.At.TheVariants as attempt
use Rattle.arc_side.specs.Downs.{Fall, down_turned, down_answer, down_takes}
use Rattle.arc_side.specs.declared.down.DownAnswer.{DownAnswer}
use Rattle.arc_side.specs.declared.down.DownAnswer.TheVariants as downs
use Rattle.arc_side.specs.SlotEnds.{SlotEnding, SlotEndTurn, slot_end_from, slot_end_turn, slot_end_takes}
use Rattle.arc_side.specs.declared.slot_end.SlotEndNext.{SlotEndNext}
use Rattle.arc_side.specs.declared.slot_end.SlotEndNext.TheVariants as ends
use Rattle.arc_cells.specs.Chains.{next_word_of, parent_in, IsParentIn, IsNextWord}
use Rattle.arc_cells.specs.Drops.{Dropping, DropTurn, IsPlaceOf, drop_from, drop_turn, drop_takes}
use Rattle.arc_cells.specs.declared.parent.Parent.{Parent}
use Rattle.arc_cells.specs.declared.ref_drop.RefDropNext.{RefDropNext}
use Rattle.arc_cells.specs.declared.ref_drop.RefDropNext.TheVariants as drops
use Rattle.arc_cells.specs.declared.cascade.At.{At}
use Rattle.arc_cells.specs.declared.cascade.At.TheVariants.{Start, Entering, Naming, Named, Looking, Taking, Dropping as DroppingOne, Leaving, Finishing, Ending, Resuming, Ended}
use Rattle.arc_cells.specs.declared.cascade.CascadeNext.{CascadeNext}
use Rattle.arc_cells.specs.declared.cascade.CascadeNext.TheVariants as says

-- no class has a field
abbrev pub HasNoFields : HeapShape → Type 0
HasNoFields shape = All (λ (c : ObjectClass). c.fields ≡ []) shape.classes

-- the kind of the references of a field; past the last field strong
abbrev pub field_kind : HeapShape → ObjectName → ℕ → Kind
field_kind shape name field = (slice_index_or (class_at shape name.class).fields field (record { kind = Strong; class = 0 })).kind

-- A cascade, as contracts see it: the slot of the object that it deinits now, the number of the last hand that the thread had before
-- it, and how many references it has taken out of fields.
pub record CascadeState : Type 0 where
  pub layout : Extent
  pub shape : HeapShape
  pub slot : ℕ
  pub before : ℕ
  pub taken : ℕ
  pub at : At
  pub event : Option Act

-- what a word makes of it, and what it says then
pub record CascadeTurn : Type 0 where
  pub after : CascadeState
  pub says : CascadeNext

-- where its hands' numbers go on behind those of the thread
abbrev pub cascade_behind : Extent → HeapShape → ℕ → ℕ → CascadeState
cascade_behind layout shape slot hands = record { layout = layout; shape = shape; slot = slot; before = hands; taken = 0; at = Start; event = None }

abbrev pub cascade_from : Extent → HeapShape → ℕ → CascadeState
cascade_from layout shape slot = cascade_behind layout shape slot 0

-- a step on the dying object itself
abbrev pub of_deinit : ℕ → Step → CascadeNext
of_deinit slot step = says.Step step (intents.Deinit slot)

abbrev pub asks : CascadeState → At → Step → CascadeTurn
asks c at step = record { after = record c { at = at }; says = of_deinit c.slot step }

-- the deinit of the object in its slot begins, while this one waits, or none
abbrev pub enters : CascadeState → Option Parent → CascadeTurn
enters c parent = asks c Entering (Store (number c.layout (NextPlace c.slot)) (next_word_of parent))

-- the next field is looked at, or behind the last one the next word
abbrev pub looks : CascadeState → ObjectName → ℕ → CascadeTurn
looks c name field =
    if nat_lt field (field_count c.shape name) then asks c (Looking name field) (Load (number c.layout (Field c.slot field)))
    else asks c Leaving (Load (number c.layout (NextPlace c.slot)))

-- the deinit that waits goes on, or where none waits all is over
abbrev pub climbs : CascadeState → Option Parent → CascadeTurn
climbs c None = record { after = record c { at = Ended }; says = says.Done }
climbs c (Some p) = asks (record c { slot = p.slot }) (Resuming p.field) (Load (number c.layout (Isa p.slot)))

-- the drop of a reference that was taken out of a field goes on
abbrev pub drops_on : CascadeState → ObjectName → ℕ → Dropping → RefDropNext → CascadeTurn
drops_on c name field drop (drops.Step step intent) = record { after = record c { at = DroppingOne name field drop }; says = says.Step step intent }
drops_on c name field drop (drops.Dies slot) = enters (record c { slot = slot }) (Some (record { slot = c.slot; field = field + 1 }))
drops_on c name field drop drops.Done = looks c name (field + 1)

abbrev pub drops_by : CascadeState → ObjectName → ℕ → DropTurn → CascadeTurn
drops_by c name field t = drops_on c name field t.after t.says

-- a field that isn't nil is set to nil
abbrev pub looked : CascadeState → ObjectName → ℕ → ℕ → CascadeTurn
looked c name field w = if w == 0 then looks c name (field + 1) else asks c (Taking name field (w - 2)) (Store (number c.layout (Field c.slot field)) 0)

-- and what it referred to comes into the thread's next hand, and is dropped
abbrev pub has_taken : CascadeState → ℕ → CascadeState
has_taken c field = record c { taken = c.taken + 1; event = Some (acts.Take c.slot field (c.before + c.taken + 1)) }

abbrev pub takes_out : CascadeState → ObjectName → ℕ → ℕ → CascadeTurn
takes_out c name field place = drops_by (has_taken c field) name field (drop_turn (drop_from c.layout (c.before + c.taken + 1) (field_kind c.shape name field) place) None)

-- the unowned references lose the holder that stands for the strong ones
abbrev pub finish_from : CascadeState → Fall
finish_from c = record { layout = c.layout; slot = c.slot; list = Unowned; entry = None; at = attempt.Start }

abbrev pub finish_begins : CascadeState → Option Parent → CascadeTurn
finish_begins c parent = asks c (Finishing parent (down_turned (finish_from c) None)) (Load (number c.layout (Count c.slot)))

-- the end of the slot goes on, or is over
abbrev pub ends_on : CascadeState → Option Parent → SlotEnding → SlotEndNext → CascadeTurn
ends_on c parent end (ends.Step step intent) = record { after = record c { at = Ending parent end }; says = says.Step step intent }
ends_on c parent end ends.Done = climbs c parent

abbrev pub ends_by : CascadeState → Option Parent → SlotEndTurn → CascadeTurn
ends_by c parent t = ends_on c parent t.after t.says

-- the event of the end of the deinit
abbrev pub has_finished : CascadeState → Bool → CascadeState
has_finished c last = record c { event = Some (acts.Finish c.slot last) }

abbrev pub finishes : CascadeState → Option Parent → Fall → Next DownAnswer → CascadeTurn
finishes c parent plan (nexts.Step step) = asks c (Finishing parent plan) step
finishes c parent plan (nexts.Done (downs.More entry)) = climbs (has_finished c false) parent
finishes c parent plan (nexts.Done (downs.Last entry)) = ends_by (has_finished c true) parent (slot_end_turn (slot_end_from c.layout c.slot entry) None)
finishes c parent plan (nexts.Done (downs.Again changed)) = finish_begins c parent

-- By its place and the word given: the next word is stored, the isa word read and the name told; each field in order is read, and where
-- it isn't nil set to nil and its reference dropped, after which, or after a deinit in between, the next field follows; behind the last
-- field the next word is read, the deinit ends, the slot may end, and the deinit that waits goes on.
abbrev pub turn_at : CascadeState → Option ℕ → At → CascadeTurn
turn_at c last Start = enters c None
turn_at c last Entering = asks c Naming (Load (number c.layout (Isa c.slot)))
turn_at c last Naming = record { after = record c { at = Named (isa_name_of (unwrap_or last 0)) }; says = says.Died (isa_name_of (unwrap_or last 0)) }
turn_at c last (Named name) = looks c name 0
turn_at c last (Looking name field) = looked c name field (unwrap_or last 0)
turn_at c last (Taking name field place) = takes_out c name field place
turn_at c last (DroppingOne name field drop) = drops_by (record c { event = (drop_turn drop last).after.event }) name field (drop_turn drop last)
turn_at c last Leaving = finish_begins c (parent_in (unwrap_or last 0))
turn_at c last (Finishing parent plan) = finishes c parent (down_turned plan last) (down_answer plan last)
turn_at c last (Ending parent end) = ends_by (record c { event = (slot_end_turn end last).after.event }) parent (slot_end_turn end last)
turn_at c last (Resuming field) = looks c (isa_name_of (unwrap_or last 0)) field
turn_at c last Ended = climbs c None

abbrev pub cascade_turn : CascadeState → Option ℕ → CascadeTurn
cascade_turn c last = turn_at (record c { at = Ended; event = None }) last c.at

abbrev pub cascade_turned : CascadeState → Option ℕ → CascadeState
cascade_turned c last = (cascade_turn c last).after

abbrev pub cascade_answer : CascadeState → Option ℕ → CascadeNext
cascade_answer c last = (cascade_turn c last).says

-- the isa word of a name whose class is in the shape
abbrev pub NamesClass : HeapShape → Option ℕ → Type 0
NamesClass shape None = ⊥
NamesClass shape (Some w) = IsIsaWord w × ((isa_name_of w).class < length shape.classes)

-- the word of a cell that no access holds: 0 for nil, or the place of what it refers to, plus 2
abbrev pub IsCellWord : Extent → Kind → Option ℕ → Type 0
IsCellWord layout kind None = ⊥
IsCellWord layout kind (Some w) = w ≢ 0 → (2 ≤ w) × IsPlaceOf layout kind (w - 2)

-- What it may be given: nothing where no step was asked for; the isa word of an object of the shape; the word of a cell of the field's
-- kind; a next word; for a count what the plan may be given. It takes a reference out of a field only while the numbers of hands stay
-- below 2 ^ 32.
abbrev pub takes_at : CascadeState → Option ℕ → At → Type 0
takes_at c last Start = last ≡ None
takes_at c last Entering = last ≢ None
takes_at c last Naming = NamesClass c.shape last
takes_at c last (Named name) = last ≡ None
takes_at c last (Looking name field) = IsCellWord c.layout (field_kind c.shape name field) last
takes_at c last (Taking name field place) = (last ≢ None) × (c.before + c.taken + 1 < 2 ^ 32)
takes_at c last (DroppingOne name field drop) = drop_takes drop last
takes_at c last Leaving = IsNextWord c.layout last
takes_at c last (Finishing parent plan) = down_takes plan last
takes_at c last (Ending parent end) = slot_end_takes end last
takes_at c last (Resuming field) = NamesClass c.shape last
takes_at c last Ended = ⊥

abbrev pub cascade_takes : CascadeState → Option ℕ → Type 0
cascade_takes c last = takes_at c last c.at

-- the class is in the shape
abbrev pub IsNamed : HeapShape → ObjectName → Type 0
IsNamed shape name = name.class < length shape.classes

-- the field is one of the object's
abbrev pub HasField : HeapShape → ObjectName → ℕ → Type 0
HasField shape name field = IsNamed shape name × (field < field_count shape name)

-- what a cascade rests on where it is
abbrev pub IsSound : Extent → HeapShape → At → Type 0
IsSound layout shape (Named name) = IsNamed shape name
IsSound layout shape (Looking name field) = HasField shape name field
IsSound layout shape (Taking name field place) = HasField shape name field × IsPlaceOf layout (field_kind shape name field) place
IsSound layout shape (DroppingOne name field drop) = HasField shape name field × (drop.layout ≡ layout)
IsSound layout shape (Finishing parent plan) = IsParentIn layout parent × (plan.layout ≡ layout)
IsSound layout shape (Ending parent end) = IsParentIn layout parent
IsSound layout shape (Resuming field) = field ≤ 8
IsSound layout shape _ = ⊤

pub record IsCascade (layout : Extent) (shape : HeapShape) (slot : ℕ) (at : At) : Type 0 where
  pub layout_is : layout ≡ extent_of shape
  pub slot_is : slot < layout.slots
  pub at_is : IsSound layout shape at
