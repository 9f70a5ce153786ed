-- A stepper drives a pass: what it is doing fits what the pass has, by what the pass has seen.
use Rattle.std.specs.Prelude.{ℕ, suc, true, false, ◌≡◌, ◌≢◌, ◌≤◌, ◌<◌, ◌+◌, List, [], ◌∷◌, ◌/◌, length, map, Option, Some, None, ⊤}
use Rattle.arc_model.specs.declared.event.CellName.{CellName}
use Rattle.arc_model.specs.declared.event.CellName.TheVariants as cells
use Rattle.arc_model.specs.declared.event.ObjectName.{ObjectName}
use Rattle.arc_model.specs.declared.event.Origin.{Origin}
use Rattle.arc_model.specs.declared.event.Origin.TheVariants as origins
use Rattle.arc_model.specs.declared.shape.Kind.{Kind}
use Rattle.arc_model.specs.declared.shape.Kind.TheVariants.{Unowned}
use Rattle.arc_model.specs.Shapes.{HeapShape, class_at}
use Rattle.arc_model.specs.Heaps.{Field, Duty, Deinit, Vacating, Object}
use Rattle.arc_model.specs.Cells.{cell, is_nil}
use Rattle.arc_model.specs.Holders.{at_slot}
use Rattle.arc_model.specs.History.{IsLegal}
use Rattle.arc_model.specs.Lookup.{spot, duty_of}
use Rattle.arc_spelling.specs.Spelling.{Note}
use Rattle.arc_model.specs.References.{field_count}
use Rattle.arc_spelling.specs.SpellingTies.{Ties}
use Rattle.arc_model.specs.References.{name_of}
use Rattle.arc_spelling.specs.SpellingTies.Causes.{Judged}
use Rattle.arc_rule.specs.Places.{extent_of, number}
use Rattle.arc_rule.specs.Bits.{but_bit_of}
use Rattle.arc_rule.specs.declared.layout.Place.TheVariants.{Count, Isa, Next, Field as FieldPlace, SlotBits}
use Rattle.arc_rule.specs.declared.step.Step.{Step}
use Rattle.arc_rule.specs.declared.step.Step.TheVariants.{Load, Exchange, Store, And}
use Rattle.arc_rule.specs.declared.step.Intent.{Intent}
use Rattle.arc_rule.specs.declared.step.Intent.TheVariants as intents
use Rattle.arc_rule.specs.declared.attempt.At.{At as AttemptAt}
use Rattle.arc_rule.specs.declared.attempt.At.TheVariants.{Loading, Exchanging}
use Rattle.arc_plan.specs.declared.slots.Making.{Making as Search}
use Rattle.arc_plan.specs.declared.slots.Making.TheVariants.{Looking, Taking, Counting, Naming}
use Rattle.arc_plan.specs.declared.slots.Once.{Once}
use Rattle.arc_plan.specs.declared.slots.Once.TheVariants.{Asked}
use Rattle.arc_plan.specs.Slots.{looking, taking, counting, naming}
use Rattle.arc_side.specs.declared.slot_end.At.TheVariants as ends
use Rattle.arc_cells.specs.declared.cascade.At.{At as CascadeAt}
use Rattle.arc_cells.specs.declared.cascade.At.TheVariants as at
use Rattle.arc_cells.specs.declared.ref_drop.At.{At as DropAt}
use Rattle.arc_cells.specs.declared.ref_drop.At.TheVariants as drops
use Rattle.arc_cells.specs.Drops.{Dropping}
use Rattle.arc_cells.specs.Cascades.{CascadeState, field_kind}
use Rattle.arc_cells.specs.Chains.{Frame, next_word_of, parent_of}
use Rattle.arc_programs.specs.ProgramsTied.{hands_in}
use Rattle.arc_ops.specs.declared.gain.Source.{Source}
use Rattle.arc_ops.specs.declared.stepper.Held.{Held}
use Rattle.arc_ops.specs.declared.stepper.Doing.{Doing}
use Rattle.arc_ops.specs.declared.stepper.Doing.TheVariants as doings
use Rattle.arc_ops.specs.declared.stepper.Move.{Move}
use Rattle.arc_ops.specs.declared.stepper.Move.TheVariants as moves
use Rattle.arc_ops.specs.Cells.{cell_number, word_of, hand_in}
use Rattle.arc_served.specs.Programs.{class_of}
use Rattle.arc_ops.specs.Thread.{Thread, value}
use Rattle.arc_ops.specs.Plans.{list_of, intent_of}
use Rattle.arc_spelled.specs.Came.{knowing}
use Rattle.arc_spelled.specs.StepperStands.{Work, StandsFor}
use Rattle.arc_view.specs.declared.view.Role.TheVariants.{Pass}
use Rattle.arc_view.specs.declared.view.Parent.{Parent}
use Rattle.arc_view.specs.declared.view.Entered.{Entered}
use Rattle.arc_view.specs.declared.view.Working.{Working}
use Rattle.arc_view.specs.declared.view.View.{View}
use Rattle.arc_view.specs.Views.{idle, made_in, within}
use Rattle.arc_view.specs.Holding.{At, HasDuty, HasClaim, heap_of}
use Rattle.arc_view.specs.Rule.{InShape}
use Rattle.arc_view.specs.Kinds.{searched}
use Rattle.arc_view.specs.Admission.{IsUp, IsDown}
use Rattle.arc_ops_passes.specs.References.{in_vars, references, LeadsTo, LeadsFrom, Owns}

-- ---- its plans are for this heap, and wait for the word of the step that it asks for

abbrev pub SearchAsks : HeapShape → Move → ObjectName → Search → Type 0
SearchAsks shape asked name (Looking word) = asked ≡ moves.Step (looking (extent_of shape) word) (intents.New name.class)
SearchAsks shape asked name (Taking s seen) = asked ≡ moves.Step (taking (extent_of shape) s) (intents.New name.class)
SearchAsks shape asked name (Counting s) = asked ≡ moves.Step (counting (extent_of shape) (class_at shape name.class).immortal s) (intents.New name.class)
SearchAsks shape asked name (Naming s) = asked ≡ moves.Step (naming (extent_of shape) name s) (intents.New name.class)
SearchAsks shape asked name _ = ⊥

-- an attempt on the word at this place
abbrev pub AttemptAsks : Move → (place : ℕ) → Intent → AttemptAt → Type 0
AttemptAsks asked place intent Loading = asked ≡ moves.Step (Load place) intent
AttemptAsks asked place intent (Exchanging seen new) = asked ≡ moves.Step (Exchange place seen new) intent
AttemptAsks asked place intent _ = ⊥

-- on the inline word of a slot
abbrev pub CountAsks : HeapShape → Move → (slot : ℕ) → Intent → AttemptAt → Type 0
CountAsks shape asked s intent at = AttemptAsks asked (number (extent_of shape) (Count s)) intent at

-- a plan of this one step
abbrev pub OnceAsks : Move → Step → Intent → Once → Type 0
OnceAsks asked step intent Asked = asked ≡ moves.Step step intent
OnceAsks asked step intent _ = ⊥

-- the And that clears the bit of a slot
abbrev pub VacateAsks : HeapShape → Move → ℕ → Once → Type 0
VacateAsks shape asked s at = OnceAsks asked (And (number (extent_of shape) (SlotBits (s / 64))) (but_bit_of s)) intents.Vacate at

-- the load of the isa word of a slot
abbrev pub NameAsks : HeapShape → Move → ℕ → Once → Type 0
NameAsks shape asked s at = OnceAsks asked (Load (number (extent_of shape) (Isa s))) intents.Look at

-- the drop of what was taken out of a field; the object that it leads to has no entry
abbrev pub DropAsks : HeapShape → Move → Dropping → DropAt → Type 0
DropAsks shape asked d (drops.Counting p) =
    (p ≡ record { layout = extent_of shape; slot = d.place; list = d.kind; entry = None; at = p.at }) × CountAsks shape asked d.place (intents.Drop d.hand) p.at
DropAsks shape asked d (drops.Ending p) =
    (p ≡ record { layout = extent_of shape; slot = d.place; entry = None; at = ends.Vacating; event = None }) × VacateAsks shape asked d.place Asked
DropAsks shape asked d _ = ⊥

-- the deinit of the object in the slot, under a chain of deinits that wait; nor has this object an entry
abbrev pub CascadeAsks : HeapShape → Move → List Frame → ℕ → CascadeAt → Type 0
CascadeAsks shape asked fs s at.Entering = asked ≡ moves.Step (Store (number (extent_of shape) (Next s)) (next_word_of (parent_of fs))) (intents.Deinit s)
CascadeAsks shape asked fs s at.Naming = asked ≡ moves.Step (Load (number (extent_of shape) (Isa s))) (intents.Deinit s)
CascadeAsks shape asked fs s (at.Looking name f) = asked ≡ moves.Step (Load (number (extent_of shape) (FieldPlace s f))) (intents.Deinit s)
CascadeAsks shape asked fs s (at.Taking name f place) = asked ≡ moves.Step (Store (number (extent_of shape) (FieldPlace s f)) 0) (intents.Deinit s)
CascadeAsks shape asked fs s (at.Dropping name f d) =
    (d ≡ record { layout = extent_of shape; hand = d.hand; kind = d.kind; place = d.place; at = d.at; event = d.event }) × DropAsks shape asked d d.at
CascadeAsks shape asked fs s at.Leaving = asked ≡ moves.Step (Load (number (extent_of shape) (Next s))) (intents.Deinit s)
CascadeAsks shape asked fs s (at.Finishing parent p) =
    (parent ≡ parent_of fs) × (p ≡ record { layout = extent_of shape; slot = s; list = Unowned; entry = None; at = p.at }) × CountAsks shape asked s (intents.Deinit s) p.at
CascadeAsks shape asked fs s (at.Ending parent p) =
    (parent ≡ parent_of fs) × (p ≡ record { layout = extent_of shape; slot = s; entry = None; at = ends.Vacating; event = None }) × VacateAsks shape asked s Asked
CascadeAsks shape asked fs s (at.Resuming f) = asked ≡ moves.Step (Load (number (extent_of shape) (Isa s))) (intents.Deinit s)
CascadeAsks shape asked fs s _ = ⊥

abbrev pub Asks : HeapShape → List Frame → Thread → Doing → Type 0
Asks shape fs t doings.Ready = t.asked ≡ moves.PhaseEnd
Asks shape fs t (doings.Making to name plan) =
    (plan ≡ record { layout = extent_of shape; name = name; immortal = (class_at shape name.class).immortal; at = plan.at }) × SearchAsks shape t.asked name plan.at
Asks shape fs t (doings.Gaining gain to from plan) =
    (plan ≡ record { layout = extent_of shape; slot = from.place; list = list_of gain from; caps = shape.caps; entry = None; at = plan.at })
    × CountAsks shape t.asked from.place (intent_of gain from) plan.at
Asks shape fs t (doings.Naming to held plan) = (plan ≡ record { layout = extent_of shape; slot = held.place; at = plan.at }) × NameAsks shape t.asked held.place plan.at
Asks shape fs t (doings.Opening to cell plan) =
    (plan ≡ record { layout = extent_of shape; place = cell_number (extent_of shape) cell.name; at = plan.at })
    × AttemptAsks t.asked (cell_number (extent_of shape) cell.name) (intents.Access cell.name) plan.at
Asks shape fs t (doings.Closing to cell held plan) =
    (plan ≡ record { layout = extent_of shape; place = cell_number (extent_of shape) cell; value = held.place + 2; at = plan.at })
    × OnceAsks t.asked (Store (cell_number (extent_of shape) cell) (held.place + 2)) (intents.Access cell) plan.at
Asks shape fs t (doings.Setting from cell plan) =
    (plan ≡ record { layout = extent_of shape; place = cell_number (extent_of shape) cell.name; new = word_of (value t.vars from); at = plan.at })
    × AttemptAsks t.asked (cell_number (extent_of shape) cell.name) (intents.Swap cell.name (hand_in (value t.vars from))) plan.at
Asks shape fs t (doings.Clearing plan) =
    (plan ≡ record { layout = extent_of shape; place = cell_number (extent_of shape) (cells.Global t.cleared); new = 0; at = plan.at })
    × AttemptAsks t.asked (cell_number (extent_of shape) (cells.Global t.cleared)) (intents.Swap (cells.Global t.cleared) None) plan.at
Asks shape fs t (doings.Dropping held plan) =
    (plan ≡ record { layout = extent_of shape; slot = held.place; list = held.kind; entry = None; at = plan.at }) × CountAsks shape t.asked held.place (intents.Drop held.hand) plan.at
Asks shape fs t (doings.Dying c) = (c ≡ record { layout = extent_of shape; shape = shape; slot = c.slot; before = c.before; taken = c.taken; at = c.at; event = c.event }) × CascadeAsks shape t.asked fs c.slot c.at
Asks shape fs t (doings.Vacating slot plan) = (plan ≡ record { layout = extent_of shape; slot = slot; at = plan.at }) × VacateAsks shape t.asked slot plan.at
Asks shape fs t doings.Ended = (t.asked ≡ moves.Ended) × ((f : Held → ℕ) → in_vars t.vars f ≡ 0)

-- ---- what the pass has under way meanwhile

-- the new object is in the slot and has the name
abbrev pub IsMade : View → ObjectName → ℕ → Type 0
IsMade v name s = (o : Object) × (at_slot s (heap_of v) ≡ Some o) × (name_of o ≡ name)

-- the words of bits before this one were found full since the thread's last event; a slot that is to be taken rests on nothing
abbrev pub Searched : HeapShape → View → ObjectName → Search → Type 0
Searched shape v name (Looking word) = searched (λ k. number (extent_of shape) (SlotBits k)) shape.slots (made_in v.number v.seen) word v.trail ≡ true
Searched shape v name (Counting s) = IsMade v name s
Searched shape v name (Naming s) = IsMade v name s
Searched shape v name _ = ⊤

-- the word that an attempt has read allows its exchange
abbrev pub MayGoUp : HeapShape → Kind → ℕ → AttemptAt → Type 0
MayGoUp shape list s (Exchanging seen new) = IsUp shape list (Count s) seen new
MayGoUp shape list s _ = ⊤

abbrev pub MayGoDown : Kind → ℕ → AttemptAt → Type 0
MayGoDown kind s (Exchanging seen new) = IsDown kind (Count s) seen new
MayGoDown kind s _ = ⊤

-- the word that an attempt on a cell has read may be exchanged for the mark of an access
abbrev pub MayBegin : AttemptAt → Type 0
MayBegin (Exchanging seen new) = (2 ≤ seen) × (new ≡ 1)
MayBegin _ = ⊤

-- or for this one
abbrev pub MaySwap : (word : ℕ) → AttemptAt → Type 0
MaySwap word (Exchanging seen new) = (seen ≢ 1) × (new ≡ word)
MaySwap word _ = ⊤

abbrev pub OwesNothing : View → Type 0
OwesNothing v = (i : ℕ) → duty_of v.number i (heap_of v) ≡ None

-- the one duty of the pass is this one, to the object in the slot; one whose slot is to be vacated has no entry
pub record OwesOne (v : View) (duty : Duty) (s : ℕ) : Type 0 where
  pub place : ℕ
  pub object : Object
  pub here : At (heap_of v) place object
  pub slot : object.slot ≡ Some s
  pub owes : HasDuty v duty place
  pub alone : (i : ℕ) → i ≢ place → duty_of v.number i (heap_of v) ≡ None
  pub bare : duty ≡ Vacating → object.entry ≡ None

abbrev pub search_works : Search → Working
search_works (Counting s) = record idle { owes = Some (record { slot = s; counted = false }) }
search_works (Naming s) = record idle { owes = Some (record { slot = s; counted = true }) }
search_works _ = idle

-- ---- a deinit, and those that wait for it

-- a duty to the object in the slot: to be deinited, under its name where that was read, its first fields being nil by now; or to be vacated
pub record Due : Type 0 where
  pub duty : Duty
  pub slot : ℕ
  pub name : Option ObjectName
  pub nils : ℕ

abbrev pub dying_due : (slot : ℕ) → Option ObjectName → (nils : ℕ) → Due
dying_due s name n = record { duty = Deinit; slot = s; name = name; nils = n }

abbrev pub vacating_due : (slot : ℕ) → Due
vacating_due s = record { duty = Vacating; slot = s; name = None; nils = 0 }

abbrev pub IsOfName : Option ObjectName → Object → Type 0
IsOfName None o = ⊤
IsOfName (Some name) o = name_of o ≡ name

-- the pass owes it; one whose slot is to be vacated has no entry
pub record IsDue (shape : HeapShape) (v : View) (d : Due) : Type 0 where
  pub place : ℕ
  pub object : Object
  pub here : At (heap_of v) place object
  pub slot : object.slot ≡ Some d.slot
  pub owes : HasDuty v d.duty place
  pub bare : d.duty ≡ Vacating → object.entry ≡ None
  pub named : IsOfName d.name object
  pub nils : (f : ℕ) → f < d.nils → is_nil (heap_of v) (Field object.id f) ≡ true
  pub inside : d.nils ≤ length (class_at shape object.class).fields

-- it owes these, and of the objects that are left nothing
abbrev pub OwesJust : HeapShape → View → List Due → (left : ℕ → Type 0) → Type 0
OwesJust shape v [] left = (i : ℕ) → left i → duty_of v.number i (heap_of v) ≡ None
OwesJust shape v (d ∷ ds) left = (o : IsDue shape v d) × OwesJust shape v ds (λ i. left i × (i ≢ o.place))

-- each is to the object in another slot
abbrev pub AreApart : List ℕ → Type 0
AreApart [] = ⊤
AreApart (s ∷ ss) = (within s ss ≡ false) × AreApart ss

abbrev pub slots_of : List Due → List ℕ
slots_of ds = map (λ (d : Due). d.slot) ds

pub record OwesAll (shape : HeapShape) (v : View) (dues : List Due) : Type 0 where
  pub apart : AreApart (slots_of dues)
  pub just : OwesJust shape v dues (λ i. ⊤)

-- the deinits that wait
abbrev pub waits : List Frame → List Due
waits [] = []
waits (p ∷ fs) = dying_due p.slot (Some p.name) p.field ∷ waits fs

-- what a deinit under this chain goes back to
abbrev pub goes_back : List Frame → Option Parent
goes_back [] = None
goes_back (p ∷ fs) = Some (record { slot = p.slot; field = p.field })

-- as the pass has entered them
abbrev pub chain_entered : List Frame → List Entered
chain_entered [] = []
chain_entered (p ∷ fs) = record { slot = p.slot; parent = goes_back fs; next_field = p.field } ∷ chain_entered fs

-- where the deinit of an object of this name is: the name, once it was read, and how many fields it has gone past
abbrev pub read_name : ObjectName → CascadeAt → Option ObjectName
read_name name (at.Looking n f) = Some n
read_name name (at.Taking n f place) = Some n
read_name name (at.Dropping n f d) = Some n
read_name name at.Leaving = Some name
read_name name (at.Finishing parent p) = Some name
read_name name _ = None

abbrev pub gone_past : HeapShape → ObjectName → CascadeAt → ℕ
gone_past shape name (at.Looking n f) = f
gone_past shape name (at.Taking n f place) = f
gone_past shape name (at.Dropping n f d) = suc f
gone_past shape name at.Leaving = field_count shape name
gone_past shape name (at.Finishing parent p) = field_count shape name
gone_past shape name _ = 0

abbrev pub entered_at : HeapShape → ObjectName → List Frame → ℕ → CascadeAt → List Entered
entered_at shape name fs s at.Entering = chain_entered fs
entered_at shape name fs s (at.Ending parent p) = chain_entered fs
entered_at shape name fs s (at.Resuming f) = chain_entered fs
entered_at shape name fs s a = record { slot = s; parent = goes_back fs; next_field = gone_past shape name a } ∷ chain_entered fs

-- beside these, where the last unowned reference was taken out of a field, the slot that it leads to is to be vacated
abbrev pub dropped_dues : (place : ℕ) → DropAt → List Due → List Due
dropped_dues place (drops.Ending p) ds = vacating_due place ∷ ds
dropped_dues place _ ds = ds

abbrev pub dues_at : HeapShape → ObjectName → List Frame → ℕ → CascadeAt → List Due
dues_at shape name fs s (at.Dropping n f d) = dropped_dues d.place d.at (dying_due s (Some n) (suc f) ∷ waits fs)
dues_at shape name fs s (at.Ending parent p) = vacating_due s ∷ waits fs
dues_at shape name fs s (at.Resuming f) = waits fs
dues_at shape name fs s a = dying_due s (read_name name a) (gone_past shape name a) ∷ waits fs

-- the field of the object in the slot refers to the object in the slot at the place
pub record FieldLeads (v : View) (s f : ℕ) (kind : Kind) (place : ℕ) : Type 0 where
  pub index : ℕ
  pub object : Object
  pub refers : spot (cell (heap_of v) (cells.Field s f)) (heap_of v) ≡ Some (record { place = index; kind = kind })
  pub here : At (heap_of v) index object
  pub slot : object.slot ≡ Some place

abbrev pub DropRests : Dropping → DropAt → Type 0
DropRests d (drops.Counting p) = MayGoDown d.kind d.place p.at
DropRests d _ = ⊤

-- what a deinit rests on: what it has read
abbrev pub CascadeRests : HeapShape → View → ℕ → CascadeAt → Type 0
CascadeRests shape v s (at.Taking name f place) = FieldLeads v s f (field_kind shape name f) place
CascadeRests shape v s (at.Dropping name f d) = DropRests d d.at
CascadeRests shape v s (at.Finishing parent p) = MayGoDown Unowned s p.at
CascadeRests shape v s _ = ⊤

abbrev pub deiniting : List Entered → Working
deiniting es = record idle { entered = es }

pub record IsDying (shape : HeapShape) (v : View) (c : CascadeState) (fs : List Frame) : Type 0 where
  -- of the object in the slot, where the deinit has read it
  pub name : ObjectName
  pub working : v.working ≡ deiniting (entered_at shape name fs c.slot c.at)
  pub owes : OwesAll shape v (dues_at shape name fs c.slot c.at)
  pub rests : CascadeRests shape v c.slot c.at

-- ---- outside deinits

pub record IsFree (v : View) : Type 0 where
  pub working : v.working ≡ idle
  pub none : OwesNothing v

-- an access to a cell whose reference leads to this slot
abbrev pub accessing : CellName → (place : ℕ) → Working
accessing cell place = record idle { access = Some (record { cell = cell; value = place + 2 }) }

-- the cell is accessed whose reference is to be copied
pub record IsCopying (v : View) (cell : CellName) (from : Source) : Type 0 where
  pub working : v.working ≡ accessing cell from.place
  pub none : OwesNothing v
  pub source : LeadsFrom v from

abbrev pub GainsFrom : View → Origin → Source → Type 0
GainsFrom v (origins.Hand hand) from = IsFree v
GainsFrom v (origins.Cell cell) from = IsCopying v cell from

abbrev pub UnderWay : HeapShape → View → List Frame → Doing → Type 0
UnderWay shape v fs (doings.Making to name plan) = (v.working ≡ search_works plan.at) × OwesNothing v × Searched shape v name plan.at
UnderWay shape v fs (doings.Gaining gain to from plan) = GainsFrom v from.origin from × MayGoUp shape (list_of gain from) from.place plan.at
UnderWay shape v fs (doings.Opening to cell plan) = IsFree v × MayBegin plan.at
UnderWay shape v fs (doings.Closing to cell held plan) = (v.working ≡ accessing cell held.place) × OwesNothing v
UnderWay shape v fs (doings.Setting from cell plan) = IsFree v × MaySwap plan.new plan.at
UnderWay shape v fs (doings.Clearing plan) = IsFree v × MaySwap plan.new plan.at
UnderWay shape v fs (doings.Dropping held plan) = IsFree v × MayGoDown held.kind held.place plan.at
UnderWay shape v fs (doings.Dying c) = IsDying shape v c fs
UnderWay shape v fs (doings.Vacating slot plan) = (v.working ≡ idle) × OwesOne v Vacating slot
UnderWay shape v fs _ = IsFree v

-- ---- classes

-- what a variable has leads to an object of the variable's class
abbrev pub AreOfClasses : List ℕ → View → List (Option Held) → Type 0
AreOfClasses classes v vars = (x : ℕ) (held : Held) → value vars x ≡ Some held → LeadsTo v held (class_of classes x)

-- so does a reference that is still to come into a variable
abbrev pub ComesOfClass : List ℕ → View → Doing → Type 0
ComesOfClass classes v (doings.Naming to held plan) = LeadsTo v held (class_of classes to)
ComesOfClass classes v (doings.Closing to cell held plan) = LeadsTo v held (class_of classes to)
ComesOfClass classes v _ = ⊤

-- The chain is the one that is meant, which counts only while an object dies.
abbrev pub IsChain : Doing → (chain meant : List Frame) → Type 0
IsChain (doings.Dying c) chain meant = chain ≡ meant
IsChain _ chain meant = ⊤

-- The stepper, at work on these operations, drives the pass.
pub record Drives (w : Work) (t : Thread) (v : View) : Type 0 where
  pub pass : v.role ≡ Pass
  pub number : v.number ≡ w.thread
  pub legal : IsLegal w.shape v.seen
  pub in_shape : InShape w.shape v.seen
  -- the notes that it stands for, under a chain of deinits that wait, are the pass's, in what it has seen, which tells what its hands referred to
  -- when they came
  pub notes : List Note
  pub chain : List Frame
  pub stands : StandsFor (knowing (hands_in v.number v.seen) w) t chain notes
  pub tied : Ties Judged w.shape w.thread notes v.seen
  -- it has the variables of its thread, and its references are the pass's hands
  pub count : length t.vars ≡ w.count
  pub owns : Owns v t.hands (references t.vars t.hands t.doing)
  pub classed : AreOfClasses w.classes v t.vars
  pub coming : ComesOfClass w.classes v t.doing
  pub no_claim : (e : ℕ) → HasClaim v e → ⊥
  pub asks : Asks w.shape chain t t.doing
  pub under_way : UnderWay w.shape v chain t.doing
