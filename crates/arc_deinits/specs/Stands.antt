-- What a cascade stands for: the notes that spell the deinits up to where it is, under the chain of those that wait.
use Rattle.std.specs.Prelude.{ℕ, true, ◌≡◌, ◌+◌, ◌<◌, ◌≤◌, List, [], ◌∷◌, Option, Some, None, ⊤}
use Rattle.std.specs.Option.{unwrap_or}
use Rattle.arc_model.specs.declared.event.ObjectName.{ObjectName}
use Rattle.arc_model.specs.declared.event.CellName.TheVariants as cells
use Rattle.arc_model.specs.declared.event.Act.TheVariants.{Drop, Take, Finish}
use Rattle.arc_model.specs.declared.answer.Answer.TheVariants as answers
use Rattle.arc_model.specs.declared.shape.Kind.TheVariants.{Strong, Unowned}
use Rattle.arc_model.specs.Shapes.{HeapShape}
use Rattle.arc_spelling.specs.Spelling.{Note, hands_of, FieldsDone, IsCascade}
use Rattle.arc_model.specs.References.{field_count}
use Rattle.arc_spelling.specs.Spelling.Note.{Did, Line, Refers}
use Rattle.arc_rule.specs.Extents.{Extent}
use Rattle.arc_rule.specs.Isa.{isa_name_of}
use Rattle.arc_rule.specs.Places.{number}
use Rattle.arc_rule.specs.declared.layout.Place.TheVariants.{Isa, Field}
use Rattle.arc_rule.specs.declared.step.Step.{Step}
use Rattle.arc_rule.specs.declared.step.Step.TheVariants.{Load}
use Rattle.arc_rule.specs.declared.step.Intent.{Intent}
use Rattle.arc_rule.specs.declared.step.Intent.TheVariants as intents
use Rattle.arc_rule.specs.Attempts.{asked_at}
use Rattle.arc_side.specs.Downs.{Fall, down_place}
use Rattle.arc_side.specs.SlotEnds.{SlotEnding}
use Rattle.arc_cells.specs.Chains.{Frame, parent_in, parent_of, rest_of}
use Rattle.arc_cells.specs.Drops.{Dropping, drop_turn}
use Rattle.arc_cells.specs.declared.ref_drop.RefDropNext.{RefDropNext}
use Rattle.arc_cells.specs.declared.ref_drop.RefDropNext.TheVariants as drop_says
use Rattle.arc_cells.specs.declared.cascade.At.{At}
use Rattle.arc_cells.specs.declared.cascade.At.TheVariants.{Start, Entering, Naming, Named, Looking, Taking, Dropping as DroppingOne, Leaving, Finishing, Ending, Resuming, Ended}
use Rattle.arc_cells.specs.declared.cascade.CascadeNext.{CascadeNext}
use Rattle.arc_cells.specs.declared.cascade.CascadeNext.TheVariants as says
use Rattle.arc_cells.specs.Cascades.{CascadeState, CascadeTurn, field_kind, cascade_behind, cascade_turn, cascade_takes}
use Rattle.arc_deinits.specs.Found.{name_in, Shows}
use Rattle.arc_deinits.specs.References.{DropStandsFor, EndStandsFor}

-- the step that it asks for, and what it is made for
abbrev pub asked_by : CascadeNext → Option (Step × Intent)
asked_by (says.Step step intent) = Some (step, intent)
asked_by _ = None

-- the line of the object that it tells the name of
abbrev pub with_deinit : CascadeNext → List Note → List Note
with_deinit (says.Died name) ns = Line (answers.Deinit name) ∷ ns
with_deinit _ ns = ns

-- the deinit p, which began behind the notes `base`, dropped the last strong reference to the object in the slot just now
pub record IsUnder (shape : HeapShape) (p : Frame) (slot : ℕ) (base now : List Note) : Type 0 where
  pub field : ℕ
  pub before : List Note
  pub done : FieldsDone shape p.slot p.name field base before
  pub inside : field < field_count shape p.name
  pub going_on : p.field ≡ field + 1
  pub now_is : now ≡ Did (Drop (hands_of before + 1) true) ∷ Did (Take p.slot field (hands_of before + 1)) ∷ Refers (cells.Field p.slot field) Strong slot ∷ before

-- the deinit of the object in the slot begins now, under the chain; that of the root begins behind the notes `base`
abbrev pub Begun : HeapShape → (root : ℕ) (base : List Note) → List Frame → (slot : ℕ) (now : List Note) → Type 0
Begun shape root base [] slot now = (slot ≡ root) × (now ≡ base)
Begun shape root base (p ∷ fs) slot now = (began : List Note) × IsUnder shape p slot began now × Begun shape root base fs p.slot began

-- the fields below one are done, in the deinit of the object with the name
pub record FieldsUpTo (shape : HeapShape) (root : ℕ) (base : List Note) (fs : List Frame) (slot : ℕ) (name : ObjectName) (field : ℕ) (now : List Note) : Type 0 where
  pub began : List Note
  pub begun : Begun shape root base fs slot began
  pub done : FieldsDone shape slot name field began now

-- and the newest note of the object's name has this one
pub record InFields (shape : HeapShape) (root : ℕ) (base : List Note) (fs : List Frame) (slot : ℕ) (name : ObjectName) (field : ℕ) (now : List Note) : Type 0 where
  pub up_to : FieldsUpTo shape root base fs slot name field now
  pub named : name_in slot now ≡ Some name

-- each field of the object is done
pub record AllDone (shape : HeapShape) (root : ℕ) (base : List Note) (fs : List Frame) (slot : ℕ) (now : List Note) : Type 0 where
  pub name : ObjectName
  pub up_to : FieldsUpTo shape root base fs slot name (field_count shape name) now

-- a reference was found in the field
pub record IsFound (shape : HeapShape) (root : ℕ) (base : List Note) (fs : List Frame) (slot : ℕ) (name : ObjectName) (field place : ℕ) (now : List Note) : Type 0 where
  pub inside : field < field_count shape name
  pub before : List Note
  pub in_fields : InFields shape root base fs slot name field before
  pub now_is : now ≡ Refers (cells.Field slot field) (field_kind shape name field) place ∷ before

-- it was taken out of it, and is dropped
pub record IsTaken (c : CascadeState) (root : ℕ) (base : List Note) (fs : List Frame) (asked : Option (Step × Intent)) (name : ObjectName) (field : ℕ) (d : Dropping) (now : List Note) : Type 0 where
  pub inside : field < field_count c.shape name
  pub before : List Note
  pub in_fields : InFields c.shape root base fs c.slot name field before
  pub layout : d.layout ≡ c.layout
  pub hand : d.hand ≡ hands_of before + 1
  pub kind : d.kind ≡ field_kind c.shape name field
  pub starts : List Note
  pub starts_is : starts ≡ Did (Take c.slot field (hands_of before + 1)) ∷ Refers (cells.Field c.slot field) (field_kind c.shape name field) d.place ∷ before
  pub named : name_in c.slot now ≡ Some name
  pub drop : DropStandsFor d asked starts now

-- the attempt is on the object's count, and what was asked for last is its step
pub record IsReleasing (c : CascadeState) (asked : Option (Step × Intent)) (p : Fall) : Type 0 where
  pub layout : p.layout ≡ c.layout
  pub slot : p.slot ≡ c.slot
  pub list : p.list ≡ Unowned
  pub step : Step
  pub asks : asked ≡ Some (step, intents.Deinit c.slot)
  pub waits : asked_at (down_place p) p.at ≡ Some step

-- the deinit is over, and its slot ends
pub record IsFinished (c : CascadeState) (root : ℕ) (base : List Note) (fs : List Frame) (p : SlotEnding) (now : List Note) : Type 0 where
  pub before : List Note
  pub all_done : AllDone c.shape root base fs c.slot before
  pub slot : p.slot ≡ c.slot
  pub end : EndStandsFor p (Did (Finish c.slot true) ∷ before) now

-- the first deinit that waits goes on at the field
abbrev pub Resumes : HeapShape → (root : ℕ) (base : List Note) → List Frame → (slot field : ℕ) (now : List Note) → Type 0
Resumes shape root base [] slot field now = ⊥
Resumes shape root base (p ∷ fs) slot field now = (slot ≡ p.slot) × (field ≡ p.field) × (field ≤ field_count shape p.name) × FieldsUpTo shape root base fs p.slot p.name p.field now

-- what was asked for last, and the notes, where the cascade is
abbrev pub CascadeUpTo : CascadeState → (root : ℕ) (base : List Note) → List Frame → (asked : Option (Step × Intent)) → (now : List Note) → At → Type 0
CascadeUpTo c root base fs asked now Start = (fs ≡ []) × (c.slot ≡ root) × (now ≡ base)
CascadeUpTo c root base fs asked now Entering = Begun c.shape root base fs c.slot now
CascadeUpTo c root base fs asked now Naming = Begun c.shape root base fs c.slot now × (asked ≡ Some (Load (number c.layout (Isa c.slot)), intents.Deinit c.slot))
CascadeUpTo c root base fs asked now (Named name) = InFields c.shape root base fs c.slot name 0 now
CascadeUpTo c root base fs asked now (Looking name field) =
    (field < field_count c.shape name) × InFields c.shape root base fs c.slot name field now × (asked ≡ Some (Load (number c.layout (Field c.slot field)), intents.Deinit c.slot))
CascadeUpTo c root base fs asked now (Taking name field place) = IsFound c.shape root base fs c.slot name field place now
CascadeUpTo c root base fs asked now (DroppingOne name field d) = IsTaken c root base fs asked name field d now
CascadeUpTo c root base fs asked now Leaving = AllDone c.shape root base fs c.slot now
CascadeUpTo c root base fs asked now (Finishing parent p) = (parent ≡ parent_of fs) × IsReleasing c asked p × AllDone c.shape root base fs c.slot now
CascadeUpTo c root base fs asked now (Ending parent p) = (parent ≡ parent_of fs) × IsFinished c root base fs p now
CascadeUpTo c root base fs asked now (Resuming field) = Resumes c.shape root base fs c.slot field now × (asked ≡ Some (Load (number c.layout (Isa c.slot)), intents.Deinit c.slot))
CascadeUpTo c root base fs asked now Ended = IsCascade c.shape root base now

-- The cascade of the object in the slot `root`, which began behind the notes `base`, under the chain of deinits that wait, has asked for a
-- step last, and stands for the notes now. Its hands are those that came to the thread.
pub record CascadeStandsFor (root : ℕ) (base : List Note) (c : CascadeState) (fs : List Frame) (asked : Option (Step × Intent)) (now : List Note) : Type 0 where
  pub hands : c.before + c.taken ≡ hands_of now
  pub up_to : CascadeUpTo c root base fs asked now c.at

-- The chain after a word: where a taken reference was the last strong one, the deinit waits for that of its object; where it goes on, it
-- waits no longer.
abbrev pub chained_by : CascadeState → ObjectName → ℕ → RefDropNext → List Frame → List Frame
chained_by c name field (drop_says.Dies slot) fs = record { slot = c.slot; name = name; field = field + 1 } ∷ fs
chained_by c name field _ fs = fs

abbrev pub chained_at : CascadeState → Option ℕ → At → List Frame → List Frame
chained_at c last (DroppingOne name field d) fs = chained_by c name field (drop_turn d last).says fs
chained_at c last (Resuming field) fs = rest_of fs
chained_at c last _ fs = fs

abbrev pub chained : CascadeState → Option ℕ → List Frame → List Frame
chained c last fs = chained_at c last c.at fs

-- A next word names the first of the deinits that wait, and its isa word the name that was read before. What else is read shows nothing of
-- the chain.
abbrev pub NamesFirst : List Frame → ObjectName → Type 0
NamesFirst [] name = ⊥
NamesFirst (p ∷ fs) name = name ≡ p.name

abbrev pub ChainFitsAt : List Frame → Option ℕ → At → Type 0
ChainFitsAt fs last Leaving = parent_in (unwrap_or last 0) ≡ parent_of fs
ChainFitsAt fs last (Resuming field) = NamesFirst fs (isa_name_of (unwrap_or last 0))
ChainFitsAt fs last _ = ⊤

abbrev pub ChainFits : CascadeState → List Frame → Option ℕ → Type 0
ChainFits c fs last = ChainFitsAt fs last c.at

-- in the same heap, for the same thread
pub record IsSameCascade (c new : CascadeState) : Type 0 where
  pub layout : new.layout ≡ c.layout
  pub shape : new.shape ≡ c.shape
  pub before : new.before ≡ c.before

-- What a cascade stands for once it is given a word: the notes that it stood for, with what the word shows and the line of the object
-- that it tells. Where all is over, they spell the deinit of the root.
pub record CascadeComes (root : ℕ) (base : List Note) (c : CascadeState) (t : CascadeTurn) (fs : List Frame) (asked : Option (Step × Intent)) (last : Option ℕ) (now : List Note) : Type 0 where
  pub found : List Note
  pub shows : Shows c.shape c.layout asked last t.after.event now found
  pub stands : CascadeStandsFor root base t.after fs (asked_by t.says) (with_deinit t.says found)
  pub same : IsSameCascade c t.after
  pub done : t.says ≡ says.Done → IsCascade c.shape root base found

-- A new cascade stands for the notes behind which it begins.
abbrev pub CascadesBegin : Type 0
CascadesBegin = (layout : Extent) (shape : HeapShape) (slot : ℕ) (base : List Note) → CascadeStandsFor slot base (cascade_behind layout shape slot (hands_of base)) [] None base

-- Each word that a cascade may be given, and that shows the chain, keeps what it stands for, whatever the fields of the classes are.
abbrev pub CascadesGoOn : Type 0
CascadesGoOn = (root : ℕ) (base : List Note) (c : CascadeState) (fs : List Frame) (asked : Option (Step × Intent)) (last : Option ℕ) (now : List Note) →
    CascadeStandsFor root base c fs asked now → ChainFits c fs last → cascade_takes c last → CascadeComes root base c (cascade_turn c last) (chained c last fs) asked last now
