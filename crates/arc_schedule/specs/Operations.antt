-- Which steps an operation makes, and what the thread holds behind it. So far objects are made and deinited, and strong and unowned references
-- copied, formed, loaded, moved and dropped, also by globals and fields; what isn't served yet has no case. The beginning of a block makes no
-- step.
use Rattle.std.specs.Prelude.{ℕ, ◌≡◌, ◌≢◌, ◌<◌, ◌+◌, ◌-◌, ◌==◌, List, [], ◌∷◌, slice_index_or, slice_set, if◌then◌else◌, is_some, Option, Some, None}
use Rattle.arc_model.specs.declared.event.Act.TheVariants as acts
use Rattle.arc_model.specs.declared.event.Got.TheVariants as got
use Rattle.arc_model.specs.declared.event.ObjectName.{ObjectName}
use Rattle.arc_model.specs.declared.event.Origin.TheVariants as origins
use Rattle.arc_model.specs.declared.event.CellName.{CellName}
use Rattle.arc_model.specs.declared.event.CellName.TheVariants as cells
use Rattle.arc_model.specs.declared.shape.Kind.{Kind}
use Rattle.arc_model.specs.declared.shape.Kind.TheVariants.{Strong, Unowned}
use Rattle.arc_model.specs.Shapes.{HeapShape, class_at}
use Rattle.arc_model.specs.References.{field_count}
use Rattle.arc_rule.specs.Isa.{isa_word_of}
use Rattle.arc_rule.specs.Places.{IsPlace, number, extent_of}
use Rattle.arc_rule.specs.declared.layout.Place.{Place}
use Rattle.arc_rule.specs.declared.layout.Place.TheVariants.{Isa, Next, Field}
use Rattle.arc_rule.specs.declared.step.Step.TheVariants.{Load, Store}
use Rattle.arc_plan.specs.declared.slots.NewObjectAnswer.TheVariants.{Slot, NoSlot}
use Rattle.arc_plan.specs.declared.unowned.UnownedDownAnswer.TheVariants as unowneds
use Rattle.arc_side.specs.declared.up.UpAnswer.TheVariants as ups
use Rattle.arc_side.specs.declared.down.DownAnswer.TheVariants as downs
use Rattle.arc_side.specs.Inline.{IsCountedInline}
use Rattle.arc_cells.specs.Cascades.{field_kind}
use Rattle.arc_cells.specs.Chains.{Frame, next_word_of, parent_of}
use Rattle.arc_cells.specs.declared.begin.BeginAnswer.TheVariants as begins
use Rattle.arc_cells.specs.declared.swap.SwapAnswer.TheVariants as swaps
use Rattle.arc_script.specs.declared.script.Op.{Op}
use Rattle.arc_script.specs.declared.script.Op.TheVariants as op
use Rattle.arc_script.specs.declared.script.OpCell.{OpCell}
use Rattle.arc_script.specs.declared.script.OpCell.TheVariants as opcell
use Rattle.arc_script.specs.Valid.{ref_at}
use Rattle.arc_served.specs.Programs.{ref_of}
use Rattle.arc_ops.specs.Cells.{place_in}
use Rattle.arc_schedule.specs.Made.{Point, Made, made_at}
use Rattle.arc_schedule.specs.Plans.{Rises, Gives, new_object, up, down, name_of, finish, vacate, begin_access, end_access, swap}

-- a reference in a thread's hands: its number among those that came into them, its kind, and the slot, for a weak one the entry, that
-- it leads to
pub record Holding : Type 0 where
  pub hand : ℕ
  pub kind : Kind
  pub place : ℕ

-- a thread's variables, each nil or with a reference
abbrev pub Variables : Type 0
Variables = List (Option Holding)

abbrev pub reference_to : (hand : ℕ) → Kind → (slot : ℕ) → Option Holding
reference_to hand kind slot = Some (record { hand = hand; kind = kind; place = slot })

abbrev pub strong_to : (hand slot : ℕ) → Option Holding
strong_to hand slot = reference_to hand Strong slot

abbrev pub unowned_to : (hand slot : ℕ) → Option Holding
unowned_to hand slot = reference_to hand Unowned slot

abbrev pub value : Variables → ℕ → Option Holding
value vars v = slice_index_or vars v None

abbrev pub put : Variables → ℕ → Option Holding → Variables
put vars v new = slice_set vars v new

-- what is behind an operation: the variables, how many objects the thread has made, and how many references came into its hands
pub record State : Type 0 where
  pub vars : Variables
  pub made : ℕ
  pub hands : ℕ

-- steps without an event
abbrev pub loads : HeapShape → Point → Place → ℕ → Made
loads shape point place found = made_at point (Load (number (extent_of shape) place)) found None

abbrev pub stores : HeapShape → Point → Place → ℕ → ℕ → Made
stores shape point place new found = made_at point (Store (number (extent_of shape) place) new) found None

-- The slot of an object that has no entry ends: it is vacated.
pub data SlotEnds (shape : HeapShape) (point : Point) (slot : ℕ) : (entry : Option ℕ) → (b after : List Made) → Type 0 where
  bare : {b after : List Made} → Gives (vacate (extent_of shape) slot) point b tt after → SlotEnds shape point slot None b after

-- ---- what is given up, with so many references that came into the hands before and behind it

-- the reference in the field comes into the hand, and the field is nil
abbrev pub takes_out : HeapShape → Point → (slot field hand found : ℕ) → Made
takes_out shape point slot field hand found = made_at point (Store (number (extent_of shape) (Field slot field)) 0) found (Some (acts.Take slot field hand))

-- the first of the deinits that wait goes on, and reads its isa word again
abbrev pub resumed : HeapShape → Point → List Frame → List Made → List Made
resumed shape point [] ns = ns
resumed shape point (p ∷ chain) ns = loads shape point (Isa p.slot) (isa_word_of p.name) ∷ ns

-- Each is done by an operation, or by the first deinit of a chain of those that wait meanwhile.
mutual
  -- A reference is given up: none makes no step, the last strong one deinits its object, and behind the last unowned one its slot ends.
  pub data Drops (shape : HeapShape) (point : Point) : (chain : List Frame) → Option Holding → (hands : ℕ) (b : List Made) (came : ℕ) (after : List Made) → Type 0 where
    nothing : {chain : List Frame} {hands : ℕ} {b : List Made} → Drops shape point chain None hands b hands b
    more : {chain : List Frame} {hand slot hands : ℕ} {kind : Kind} {entry : Option ℕ} {b after : List Made} → slot < shape.slots → IsCountedInline kind →
        Gives (down (extent_of shape) kind slot hand) point b (downs.More entry) after → Drops shape point chain (reference_to hand kind slot) hands b hands after
    last : {chain : List Frame} {hand slot hands came : ℕ} {entry : Option ℕ} {b mid ns after : List Made} → slot < shape.slots →
        Gives (down (extent_of shape) Strong slot hand) point b (downs.Last entry) mid → IsCascade shape point chain slot hands mid came ns →
        after ≡ resumed shape point chain ns → Drops shape point chain (strong_to hand slot) hands b came after
    last_unowned : {chain : List Frame} {hand slot hands : ℕ} {entry : Option ℕ} {b mid after : List Made} → slot < shape.slots →
        Gives (down (extent_of shape) Unowned slot hand) point b (downs.Last entry) mid → SlotEnds shape point slot entry mid after →
        Drops shape point chain (unowned_to hand slot) hands b hands after

  -- The deinit of the object in the slot has stored its next word, which says which deinit waits for it, and loaded its isa word. It has loaded
  -- each of the first fields: what wasn't nil came into a hand and was given up, while this deinit waits to go on at the next field.
  pub data FieldsDone (shape : HeapShape) (point : Point) : (chain : List Frame) (slot : ℕ) (name : ObjectName) (hands : ℕ) (b : List Made) (done came : ℕ) (after : List Made) → Type 0 where
    entered : {chain : List Frame} {slot hands stored : ℕ} {name : ObjectName} {b : List Made} →
        FieldsDone shape point chain slot name hands b 0 hands (loads shape point (Isa slot) (isa_word_of name) ∷ stores shape point (Next slot) (next_word_of (parent_of chain)) stored ∷ b)
    nil : {chain : List Frame} {slot hands f came : ℕ} {name : ObjectName} {b ns : List Made} →
        FieldsDone shape point chain slot name hands b f came ns → FieldsDone shape point chain slot name hands b (f + 1) came (loads shape point (Field slot f) 0 ∷ ns)
    taken_out : {chain : List Frame} {slot hands f word found came more : ℕ} {name : ObjectName} {b ns after : List Made} →
        FieldsDone shape point chain slot name hands b f came ns → word ≢ 0 →
        Drops shape point (record { slot = slot; name = name; field = f + 1 } ∷ chain) (reference_to (came + 1) (field_kind shape name f) (word - 2)) (came + 1)
        (takes_out shape point slot f (came + 1) found ∷ loads shape point (Field slot f) word ∷ ns) more after →
        FieldsDone shape point chain slot name hands b (f + 1) more after

  -- The deinit of the object in the slot: its fields; its next word; the unowned count loses the one that stands for the strong references, and
  -- where it was the last the slot is vacated.
  pub data IsCascade (shape : HeapShape) (point : Point) : (chain : List Frame) (slot hands : ℕ) (b : List Made) (came : ℕ) (after : List Made) → Type 0 where
    finish_more : {chain : List Frame} {slot hands came : ℕ} {name : ObjectName} {b ns after : List Made} → FieldsDone shape point chain slot name hands b (field_count shape name) came ns →
        Gives (finish (extent_of shape) slot) point (loads shape point (Next slot) (next_word_of (parent_of chain)) ∷ ns) unowneds.More after →
        IsCascade shape point chain slot hands b came after
    finish_last : {chain : List Frame} {slot hands came : ℕ} {name : ObjectName} {b ns mid after : List Made} → FieldsDone shape point chain slot name hands b (field_count shape name) came ns →
        Gives (finish (extent_of shape) slot) point (loads shape point (Next slot) (next_word_of (parent_of chain)) ∷ ns) unowneds.Last mid →
        Gives (vacate (extent_of shape) slot) point mid tt after → IsCascade shape point chain slot hands b came after

-- the name of the next object, of this class
abbrev pub next_name : Point → State → (class : ℕ) → ObjectName
next_name point state class = record { class = class; thread = point.thread; number = state.made + 1 }

-- an operation that forms a reference for one variable by that in another, which a field is read through as well
abbrev pub forms : Op → Option (ℕ × ℕ)
forms (op.Copy to from) = Some (to, from)
forms (op.Unown to of) = Some (to, of)
forms (op.Load to of) = Some (to, of)
forms (op.Get to (opcell.Field owner field)) = Some (to, owner)
forms _ = None

-- the events of a copy, of a reference that becomes an unowned one as well, and of a load
abbrev pub copy_acts : (hand next : ℕ) → Rises
copy_acts hand next = record { got = Some (acts.Copy (origins.Hand hand) next); dead = None }

abbrev pub unown_acts : (hand next : ℕ) → Rises
unown_acts hand next = record { got = Some (acts.UnownedOf hand next); dead = None }

abbrev pub load_acts : (hand next : ℕ) → Rises
load_acts hand next = record { got = Some (acts.Load hand (got.Hand next)); dead = Some (acts.Load hand got.Dead) }

-- of a copy of the reference in a cell
abbrev pub get_acts : CellName → (next : ℕ) → Rises
get_acts cell next = record { got = Some (acts.Copy (origins.Cell cell) next); dead = None }

-- ---- a cell is a global, or a field of the object that a variable refers to, its owner

abbrev pub global_kind : HeapShape → (global : ℕ) → Kind
global_kind shape g = (ref_at shape.globals g).kind

abbrev pub field_of : ℕ → Option Holding → Option CellName
field_of field None = None
field_of field (Some owner) = Some (cells.Field owner.place field)

-- the cell that an operation names; through an owner that is nil there is none
abbrev pub cell_of : Variables → OpCell → Option CellName
cell_of vars (opcell.Global g) = Some (cells.Global g)
cell_of vars (opcell.Field owner field) = field_of field (value vars owner)

-- The operation's cell is one of the heap, for references of this kind: that of a field is said by the class that its owner's variable is for.
pub record IsCell (shape : HeapShape) (classes : List ℕ) (vars : Variables) (c : OpCell) (cell : CellName) (kind : Kind) : Type 0 where
  pub named : cell_of vars c ≡ Some cell
  pub there : IsPlace (extent_of shape) (place_in cell)
  pub kind_is : kind ≡ (ref_of shape classes c).kind
  pub counted : IsCountedInline kind

-- ---- its word is 0 where it is nil, and else 2 more than the slot that its reference leads to

abbrev pub word_of : Option Holding → ℕ
word_of None = 0
word_of (Some held) = held.place + 2

abbrev pub hand_of : Option Holding → Option ℕ
hand_of None = None
hand_of (Some held) = Some held.hand

-- the reference that the word stands for, in this hand
abbrev pub taken : (hand : ℕ) → Kind → (word : ℕ) → Option Holding
taken hand kind word = if word == 0 then None else reference_to hand kind (word - 2)

-- how many references came into the hands with it
abbrev pub hands_with : (hands word : ℕ) → ℕ
hands_with hands word = if word == 0 then hands else hands + 1

-- ---- operations

-- the state with a new reference in a variable, and so many that came into the hands
abbrev pub with_new : State → (to : ℕ) → Kind → (slot hands : ℕ) → State
with_new state to kind slot hands = record state { vars = put state.vars to (reference_to (state.hands + 1) kind slot); hands = hands }

abbrev pub with_nil : State → (to hands : ℕ) → State
with_nil state to hands = record state { vars = put state.vars to None; hands = hands }

-- An operation, on variables for these classes, from the state and the steps before it to those after it. What its variable held before is
-- dropped last.
pub data Does (shape : HeapShape) (classes : List ℕ) (point : Point) : Op → (state : State) (b : List Made) (new : State) (after : List Made) → Type 0 where
  makes : {to class slot hands : ℕ} {state new : State} {b mid after : List Made} → slot < shape.slots →
      Gives (new_object (extent_of shape) (class_at shape class).immortal (next_name point state class) (state.hands + 1)) point b (Slot slot) mid →
      Drops shape point [] (value state.vars to) (state.hands + 1) mid hands after →
      new ≡ record { vars = put state.vars to (strong_to (state.hands + 1) slot); made = state.made + 1; hands = hands } →
      Does shape classes point (op.New to class) state b new after
  full : {to class : ℕ} {state new : State} {b after : List Made} →
      Gives (new_object (extent_of shape) (class_at shape class).immortal (next_name point state class) (state.hands + 1)) point b NoSlot after → new ≡ state →
      Does shape classes point (op.New to class) state b new after
  copies : {to from slot hand hands : ℕ} {kind : Kind} {state new : State} {b mid after : List Made} → value state.vars from ≡ reference_to hand kind slot → slot < shape.slots → IsCountedInline kind →
      Gives (up (extent_of shape) shape.caps kind slot (copy_acts hand (state.hands + 1))) point b ups.Up mid → Drops shape point [] (value state.vars to) (state.hands + 1) mid hands after →
      new ≡ with_new state to kind slot hands → Does shape classes point (op.Copy to from) state b new after
  unowns : {to of slot hand hands : ℕ} {state new : State} {b mid after : List Made} → value state.vars of ≡ strong_to hand slot → slot < shape.slots →
      Gives (up (extent_of shape) shape.caps Unowned slot (unown_acts hand (state.hands + 1))) point b ups.Up mid → Drops shape point [] (value state.vars to) (state.hands + 1) mid hands after →
      new ≡ with_new state to Unowned slot hands → Does shape classes point (op.Unown to of) state b new after
  -- behind the reference the object's name is read
  load_gives : {to of slot hand hands : ℕ} {name : ObjectName} {state new : State} {b mid named after : List Made} → value state.vars of ≡ unowned_to hand slot → slot < shape.slots →
      Gives (up (extent_of shape) shape.caps Strong slot (load_acts hand (state.hands + 1))) point b ups.Up mid → Gives (name_of (extent_of shape) slot) point mid name named →
      Drops shape point [] (value state.vars to) (state.hands + 1) named hands after → new ≡ with_new state to Strong slot hands → Does shape classes point (op.Load to of) state b new after
  load_finds_dead : {to of slot hand hands : ℕ} {state new : State} {b mid after : List Made} → value state.vars of ≡ unowned_to hand slot → slot < shape.slots →
      Gives (up (extent_of shape) shape.caps Strong slot (load_acts hand (state.hands + 1))) point b ups.Dead mid → Drops shape point [] (value state.vars to) state.hands mid hands after →
      new ≡ with_nil state to hands → Does shape classes point (op.Load to of) state b new after
  -- by nil no reference is formed
  forms_nil : {o : Op} {to from hands : ℕ} {state new : State} {b after : List Made} → forms o ≡ Some (to, from) → value state.vars from ≡ None →
      Drops shape point [] (value state.vars to) state.hands b hands after → new ≡ with_nil state to hands → Does shape classes point o state b new after
  -- a move makes no step of its own
  moves : {to from hands : ℕ} {held : Holding} {state new : State} {b after : List Made} → value state.vars from ≡ Some held → Drops shape point [] (value state.vars to) state.hands b hands after →
      new ≡ record state { vars = put (put state.vars to (Some held)) from None; hands = hands } → Does shape classes point (op.Move to from) state b new after
  moves_nil : {to from hands : ℕ} {state new : State} {b after : List Made} → value state.vars from ≡ None → Drops shape point [] (value state.vars to) state.hands b hands after →
      new ≡ with_nil state to hands → Does shape classes point (op.Move to from) state b new after
  -- a cell that is nil is looked at
  looks : {to hands : ℕ} {c : OpCell} {cell : CellName} {kind : Kind} {state new : State} {b mid after : List Made} → IsCell shape classes state.vars c cell kind →
      Gives (begin_access (extent_of shape) cell) point b begins.Nil mid → Drops shape point [] (value state.vars to) state.hands mid hands after → new ≡ with_nil state to hands →
      Does shape classes point (op.Get to c) state b new after
  -- its reference is copied during an access
  gets : {to slot hands : ℕ} {c : OpCell} {cell : CellName} {kind : Kind} {state new : State} {b begun mid ended after : List Made} → IsCell shape classes state.vars c cell kind → slot < shape.slots →
      Gives (begin_access (extent_of shape) cell) point b (begins.Held (slot + 2)) begun →
      Gives (up (extent_of shape) shape.caps kind slot (get_acts cell (state.hands + 1))) point begun ups.Up mid → Gives (end_access (extent_of shape) cell (slot + 2)) point mid tt ended →
      Drops shape point [] (value state.vars to) (state.hands + 1) ended hands after → new ≡ with_new state to kind slot hands → Does shape classes point (op.Get to c) state b new after
  -- the variable's reference, or nil, goes into the cell, and what was there is dropped
  sets : {from word hands : ℕ} {c : OpCell} {cell : CellName} {kind : Kind} {state new : State} {b mid after : List Made} → IsCell shape classes state.vars c cell kind →
      Gives (swap (extent_of shape) cell (word_of (value state.vars from)) (hand_of (value state.vars from)) (state.hands + 1)) point b (swaps.Took word) mid →
      Drops shape point [] (taken (state.hands + 1) kind word) (hands_with state.hands word) mid hands after → new ≡ with_nil state from hands →
      Does shape classes point (op.Set c from) state b new after
  -- but through an owner that is nil nothing is written, and the variable keeps its reference
  sets_nil : {from : ℕ} {c : OpCell} {state new : State} {b : List Made} → cell_of state.vars c ≡ None → new ≡ state → Does shape classes point (op.Set c from) state b new b
  drops : {v hands : ℕ} {state new : State} {b after : List Made} → Drops shape point [] (value state.vars v) state.hands b hands after → new ≡ with_nil state v hands →
      Does shape classes point (op.Drop v) state b new after

-- where the thread goes on that comes to a block at this place: in the block where that is run, else behind it
abbrev pub goes_on : Variables → ℕ → Op → ℕ
goes_on vars i (op.IfNil v to) = if is_some (value vars v) then to else i + 1
goes_on vars i (op.IfSome v to) = if is_some (value vars v) then i + 1 else to
goes_on vars i o = i + 1
