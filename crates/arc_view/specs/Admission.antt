-- What a step is allowed to be: which steps with which intent a view admits.
use Rattle.std.specs.Prelude.{ℕ, suc, ◌≡◌, ◌≢◌, ◌+◌, ◌/◌, ◌<◌, ◌≤◌, ◌⊎◌, true, false, if◌then◌else◌, length, Option, None, Some, ⊤, slice_get}
use Rattle.arc_bits.specs.declared.packing.Inline.{Inline}
use Rattle.arc_bits.specs.declared.packing.Word.TheVariants.{Counts, Slow}
use Rattle.arc_bits.specs.Words.{IsWordOf, counts_word, packed}
use Rattle.arc_bits.specs.Moves.{strong_more, strong_less, unowned_more, unowned_less}
use Rattle.arc_model.specs.declared.event.CellName.{CellName}
use Rattle.arc_model.specs.declared.event.Origin.TheVariants as origins
use Rattle.arc_model.specs.declared.shape.Kind.{Kind}
use Rattle.arc_model.specs.declared.shape.Kind.TheVariants as kinds
use Rattle.arc_model.specs.declared.shape.RefShape.{RefShape}
use Rattle.arc_model.specs.Shapes.{HeapShape}
use Rattle.arc_model.specs.Heaps.{Duty, Deinit, Vacating, Gone, Field as field_holder, Object}
use Rattle.arc_model.specs.Holders.{at_slot}
use Rattle.arc_model.specs.Cells.{has_field, is_nil, are_all_nil, cell_shape}
use Rattle.arc_model.specs.References.{name_of}
use Rattle.arc_rule.specs.declared.step.Step.{Step}
use Rattle.arc_rule.specs.declared.step.Step.TheVariants.{Load, Exchange, Store, Or, And}
use Rattle.arc_rule.specs.declared.step.Intent.{Intent}
use Rattle.arc_rule.specs.declared.step.Intent.TheVariants as intents
use Rattle.arc_rule.specs.declared.layout.Place.{Place}
use Rattle.arc_rule.specs.declared.layout.Place.TheVariants.{Zero, Global, Count, Isa, Next, Field, Link, Strong, Unowned, Weak, SlotBits, EntryBits}
use Rattle.arc_rule.specs.Isa.{isa_word_of}
use Rattle.arc_rule.specs.Bits.{bit_of, but_bit_of}
use Rattle.arc_rule.specs.Places.{IsPlace, extent_of, number}
use Rattle.arc_view.specs.declared.view.Begun.{Begun}
use Rattle.arc_view.specs.declared.view.Naming.{Naming}
use Rattle.arc_view.specs.declared.view.Parent.{Parent}
use Rattle.arc_view.specs.declared.view.Entered.{Entered}
use Rattle.arc_view.specs.declared.view.View.{View}
use Rattle.arc_view.specs.Views.{cell_place, next_word, first_word}
use Rattle.arc_view.specs.Holding.{At, HasHand, IsOpen, IsSource, HasDuty, HasClaim, Reaches, Knows, is_counted, word_in, heap_of}
use Rattle.arc_view.specs.Rule.{news}

-- the word of a count, and the word with one holder more
abbrev pub IsUp : HeapShape → Kind → Place → ℕ → ℕ → Type 0
IsUp shape kinds.Strong (Count s) old new = (c : Inline) × IsWordOf (Counts c) old × (c.deiniting ≡ false) × (c.strong_extra < shape.caps.strong) × (new ≡ counts_word (strong_more c))
IsUp shape kinds.Unowned (Count s) old new = (c : Inline) × IsWordOf (Counts c) old × (c.unowned < shape.caps.unowned) × (new ≡ counts_word (unowned_more c))
IsUp shape kinds.Weak (Count s) old new = ⊥
IsUp shape kinds.Strong pl old new = (1 ≤ old) × (old < shape.caps.wide) × (new ≡ suc old)
IsUp shape kind pl old new = (old < shape.caps.wide) × (new ≡ suc old)

-- with one holder fewer
abbrev pub IsDown : Kind → Place → ℕ → ℕ → Type 0
IsDown kinds.Strong (Count s) old new = (c : Inline) × IsWordOf (Counts c) old × (c.deiniting ≡ false) × (new ≡ counts_word (strong_less c))
IsDown kinds.Unowned (Count s) old new = (c : Inline) × IsWordOf (Counts c) old × (1 ≤ c.unowned) × (new ≡ counts_word (unowned_less c))
IsDown kinds.Weak (Count s) old new = ⊥
IsDown kind pl old new = old ≡ suc new

-- a strong or unowned hand, a duty, or a cell that is accessed leads to object i, and keeps it in its slot; a weak reference doesn't
abbrev pub KeepsObject : View → ℕ → Type 0
KeepsObject v i = ((k : ℕ) × (kind : Kind) × HasHand v k kind i × (kind ≢ kinds.Weak)) ⊎ ((duty : Duty) × HasDuty v duty i)
    ⊎ ((c : CellName) × (kind : Kind) × IsSource v (origins.Cell c) kind i × (kind ≢ kinds.Weak))

-- the view knows the object in the slot, that with the entry
abbrev pub KnowsSlot : View → ℕ → Type 0
KnowsSlot v s = (i : ℕ) × (o : Object) × At (heap_of v) i o × (o.slot ≡ Some s) × KeepsObject v i

abbrev pub KnowsEntry : View → ℕ → Type 0
KnowsEntry v e = (i : ℕ) × (o : Object) × At (heap_of v) i o × (o.entry ≡ Some e) × Knows v i

-- a strong hand of the object in the slot, or the duty to deinit it
abbrev pub MayRead : View → ℕ → Type 0
MayRead v s = (i : ℕ) × (o : Object) × At (heap_of v) i o × (o.slot ≡ Some s) × (((k : ℕ) × HasHand v k kinds.Strong i) ⊎ HasDuty v Deinit i)

-- a deinit was entered and has found every field nil
abbrev pub IsEmptied : HeapShape → View → ℕ → Type 0
IsEmptied shape v s = (i : ℕ) × (o : Object) × At (heap_of v) i o × (o.slot ≡ Some s) × HasDuty v Deinit i × (are_all_nil shape (heap_of v) o ≡ true)

-- the deinit of the slot was entered
abbrev pub HasEntered : View → ℕ → Type 0
HasEntered v s = (e : Entered) × (j : ℕ) × (slice_get v.working.entered j ≡ Some e) × (e.slot ≡ s)

-- what a load, or an exchange that fails, may read
abbrev pub MayLoad : HeapShape → View → Place → Intent → Type 0
MayLoad shape v Zero intent = ⊤
MayLoad shape v (Global g) intent = ⊤
MayLoad shape v (Count s) intent = KnowsSlot v s
MayLoad shape v (Isa s) intent = MayRead v s
MayLoad shape v (Next s) intent = IsEmptied shape v s × HasEntered v s
MayLoad shape v (Field s f) intent = MayRead v s
MayLoad shape v (Link e) intent = KnowsEntry v e
MayLoad shape v (Strong e) intent = KnowsEntry v e
MayLoad shape v (Unowned e) intent = KnowsEntry v e
MayLoad shape v (Weak e) intent = KnowsEntry v e
MayLoad shape v (SlotBits k) (intents.New class) = ⊤
MayLoad shape v (SlotBits k) intent = ⊥
MayLoad shape v (EntryBits k) (intents.Claim of) = ⊤
MayLoad shape v (EntryBits k) intent = ⊥

-- The load is for its intent: a look at a cell is at the cell itself, which is reached, and a cell is copied from under an access to it.
abbrev pub IsFor : HeapShape → View → Place → Intent → Type 0
IsFor shape v pl (intents.Access cell) = (pl ≡ cell_place cell) × Reaches shape v cell
IsFor shape v pl (intents.Copy from) = IsOpen v from
IsFor shape v pl intent = ⊤

-- no access and no name that is owed
abbrev pub HasNoAccess : View → Type 0
HasNoAccess v = v.working.access ≡ None

abbrev pub OwesNoName : View → Type 0
OwesNoName v = v.working.owes ≡ None

-- the word that a reference has in a cell of its kind and class: a hand's slot, or for a weak one its entry, plus 2; 0 for nil
abbrev pub IsPut : HeapShape → View → CellName → Option ℕ → ℕ → Type 0
IsPut shape v c None new = new ≡ 0
IsPut shape v c (Some h) new = (kind : Kind) × (i : ℕ) × (o : Object) × (r : RefShape) × HasHand v h kind i × At (heap_of v) i o
    × (cell_shape shape (heap_of v) c ≡ Some r) × (r.kind ≡ kind) × (r.class ≡ o.class) × IsCellWord kind o new
  where
    IsCellWord : Kind → Object → ℕ → Type 0
    IsCellWord kinds.Weak o new = (e : ℕ) × (o.entry ≡ Some e) × (new ≡ e + 2)
    IsCellWord kind o new = (s : ℕ) × (o.slot ≡ Some s) × (new ≡ s + 2)

-- what the inline word shows of why the object is to have an entry
abbrev pub IsWhy : HeapShape → Kind → Inline → Type 0
IsWhy shape kinds.Strong c = (c.deiniting ≡ false) × (c.strong_extra ≡ shape.caps.strong)
IsWhy shape kinds.Unowned c = c.unowned ≡ shape.caps.unowned
IsWhy shape kinds.Weak c = c.deiniting ≡ false

-- the strong references that the counts of an inline word stand for
abbrev pub strong_in : Inline → ℕ
strong_in c = if c.deiniting then 0 else suc c.strong_extra

-- the words that the view has stored in an entry that it claimed for a slot are those of the object
pub record HasFilled (shape : HeapShape) (v : View) (e s : ℕ) (c : Inline) : Type 0 where
  pub claim : HasClaim v e
  pub link : word_in (number (extent_of shape)) (number (extent_of shape) (Link e)) v.working.stored ≡ Some (suc s)
  pub strong : word_in (number (extent_of shape)) (number (extent_of shape) (Strong e)) v.working.stored ≡ Some (strong_in c)
  pub unowned : word_in (number (extent_of shape)) (number (extent_of shape) (Unowned e)) v.working.stored ≡ Some c.unowned
  pub weak : word_in (number (extent_of shape)) (number (extent_of shape) (Weak e)) v.working.stored ≡ Some 1

-- an exchange at a place, by what it is made for
abbrev pub MayExchange : HeapShape → View → Place → ℕ → ℕ → Intent → Type 0
MayExchange shape v pl old new intents.Look = ⊥
MayExchange shape v pl old new (intents.New class) = ⊥
MayExchange shape v pl old new (intents.Copy from) =
    (kind : Kind) × (i : ℕ) × (o : Object) × IsSource v from kind i × At (heap_of v) i o × (is_counted kind o pl ≡ true) × IsUp shape kind pl old new
MayExchange shape v pl old new (intents.UnownedOf of) =
    (i : ℕ) × (o : Object) × HasHand v of kinds.Strong i × At (heap_of v) i o × (is_counted kinds.Unowned o pl ≡ true) × IsUp shape kinds.Unowned pl old new
MayExchange shape v pl old new (intents.WeakOf of) =
    (i : ℕ) × (o : Object) × HasHand v of kinds.Strong i × At (heap_of v) i o × (is_counted kinds.Weak o pl ≡ true) × IsUp shape kinds.Weak pl old new
MayExchange shape v pl old new (intents.Load of) =
    (kind : Kind) × (i : ℕ) × (o : Object) × HasHand v of kind i × (kind ≢ kinds.Strong) × ((s : ℕ) → pl ≡ Count s → kind ≢ kinds.Weak) × At (heap_of v) i o × (is_counted kinds.Strong o pl ≡ true) × IsUp shape kinds.Strong pl old new
MayExchange shape v pl old new (intents.Drop hand) =
    (kind : Kind) × (i : ℕ) × (o : Object) × HasHand v hand kind i × HasNoAccess v × At (heap_of v) i o × (is_counted kind o pl ≡ true) × IsDown kind pl old new
MayExchange shape v pl old new (intents.Claim of) = ⊥
MayExchange shape v pl old new (intents.Publish of why) =
    (s : ℕ) × (e : ℕ) × (kind : Kind) × (i : ℕ) × (o : Object) × (c : Inline) × (pl ≡ Count s) × (e < shape.entries) × IsWordOf (Counts c) old × (new ≡ packed (Slow e))
    × IsSource v of kind i × (kind ≢ kinds.Weak) × At (heap_of v) i o × (o.slot ≡ Some s) × IsWhy shape why c × HasFilled shape v e s c
MayExchange shape v pl old new intents.Back = ⊥
MayExchange shape v pl old new (intents.Swap cell put) = (pl ≡ cell_place cell) × (old ≢ 1) × HasNoAccess v × Reaches shape v cell × IsPut shape v cell put new
MayExchange shape v pl old new (intents.Access cell) = (pl ≡ cell_place cell) × (2 ≤ old) × (new ≡ 1) × HasNoAccess v × Reaches shape v cell
MayExchange shape v pl old new (intents.Deinit slot) =
    (i : ℕ) × (o : Object) × At (heap_of v) i o × (o.slot ≡ Some slot) × HasDuty v Deinit i × (are_all_nil shape (heap_of v) o ≡ true) × (is_counted kinds.Unowned o pl ≡ true) × IsDown kinds.Unowned pl old new
MayExchange shape v pl old new intents.Vacate = ⊥
MayExchange shape v pl old new intents.Gone = (e : ℕ) × (i : ℕ) × (o : Object) × (pl ≡ Weak e) × At (heap_of v) i o × (o.entry ≡ Some e) × HasDuty v Gone i × (old ≡ suc new)

-- an Or that takes a slot for a new object, or an entry for an object
abbrev pub MayOr : HeapShape → View → Place → ℕ → Intent → Type 0
MayOr shape v pl bits (intents.New class) =
    (s : ℕ) × (pl ≡ SlotBits (s / 64)) × (s < shape.slots) × (bits ≡ bit_of s) × (class < length shape.classes) × (news v.number v.seen < 100000)
MayOr shape v pl bits (intents.Claim of) =
    (e : ℕ) × (s : ℕ) × (kind : Kind) × (i : ℕ) × (o : Object) × (pl ≡ EntryBits (e / 64)) × (e < shape.entries) × (bits ≡ bit_of e)
    × IsSource v of kind i × (kind ≢ kinds.Weak) × At (heap_of v) i o × (o.slot ≡ Some s)
MayOr shape v pl bits intent = ⊥

-- an And that vacates a slot, or gives an entry back
abbrev pub MayAnd : HeapShape → View → Place → ℕ → Intent → Type 0
MayAnd shape v pl bits intents.Vacate =
    (s : ℕ) × (i : ℕ) × (o : Object) × (pl ≡ SlotBits (s / 64)) × (s < shape.slots) × (bits ≡ but_bit_of s) × At (heap_of v) i o × (o.slot ≡ Some s) × HasDuty v Vacating i
MayAnd shape v pl bits intents.Back = (e : ℕ) × (pl ≡ EntryBits (e / 64)) × (e < shape.entries) × (bits ≡ but_bit_of e) × HasClaim v e
MayAnd shape v pl bits intent = ⊥

abbrev pub IsWordOfEntry : ℕ → Place → Type 0
IsWordOfEntry e pl = (pl ≡ Link e) ⊎ (pl ≡ Strong e) ⊎ (pl ≡ Unowned e) ⊎ (pl ≡ Weak e)

-- a deinit of the view that was entered, at a field to go on with
abbrev pub IsParent : View → Option Parent → Type 0
IsParent v None = ⊤
IsParent v (Some q) = HasEntered v q.slot × (q.field ≤ 8)

-- a store in a word of the object in the slot, which the view is to deinit
abbrev pub MayStoreIn : HeapShape → View → Place → ℕ → ℕ → Type 0
MayStoreIn shape v (Next s) new slot =
    (i : ℕ) × (o : Object) × (q : Option Parent) × (s ≡ slot) × At (heap_of v) i o × (o.slot ≡ Some s) × HasDuty v Deinit i × (HasEntered v s → ⊥) × IsParent v q × (new ≡ next_word q)
MayStoreIn shape v (Field s f) new slot =
    (i : ℕ) × (o : Object) × (s ≡ slot) × (new ≡ 0) × At (heap_of v) i o × (o.slot ≡ Some s) × HasDuty v Deinit i × HasEntered v s × (has_field shape f o ≡ true)
    × ((g : ℕ) → g < f → is_nil (heap_of v) (field_holder o.id g) ≡ true) × (is_nil (heap_of v) (field_holder o.id f) ≡ false)
MayStoreIn shape v _ new slot = ⊥

-- the next word of a new object: first its inline word, then its isa word
abbrev pub IsNaming : HeapShape → Naming → Object → Place → ℕ → Type 0
IsNaming shape n o pl new =
    ((n.counted ≡ false) × (pl ≡ Count n.slot) × (new ≡ first_word shape o)) ⊎ ((n.counted ≡ true) × (pl ≡ Isa n.slot) × (new ≡ isa_word_of (name_of o)))

-- a store at a place, by what it is made for
abbrev pub MayStore : HeapShape → View → Place → ℕ → Intent → Type 0
MayStore shape v pl new (intents.New class) = (n : Naming) × (o : Object) × (v.working.owes ≡ Some n) × (at_slot n.slot (heap_of v) ≡ Some o) × IsNaming shape n o pl new
MayStore shape v pl new (intents.Claim of) = OwesNoName v × ((e : ℕ) × (pl ≡ Link e) × HasClaim v e)
MayStore shape v pl new (intents.Publish of why) = OwesNoName v × ((e : ℕ) × IsWordOfEntry e pl × HasClaim v e)
MayStore shape v pl new (intents.Access cell) = OwesNoName v × ((a : Begun) × (v.working.access ≡ Some a) × (a.cell ≡ cell) × (pl ≡ cell_place cell) × (new ≡ a.value))
MayStore shape v pl new (intents.Deinit slot) = OwesNoName v × MayStoreIn shape v pl new slot
MayStore shape v pl new _ = ⊥

-- The step with this intent is of a kind that what the view has allows. Look allows loads alone. A view that has still to write the words of a
-- new object makes no other step than to store them.
abbrev pub Admits : HeapShape → View → Step → Intent → Type 0
Admits shape v (Load place) intent = (pl : Place) × (place ≡ number (extent_of shape) pl) × IsPlace (extent_of shape) pl × OwesNoName v × MayLoad shape v pl intent × IsFor shape v pl intent
Admits shape v (Exchange place old new) intent = (pl : Place) × (place ≡ number (extent_of shape) pl) × IsPlace (extent_of shape) pl × OwesNoName v × MayExchange shape v pl old new intent
Admits shape v (Store place new) intent = (pl : Place) × (place ≡ number (extent_of shape) pl) × IsPlace (extent_of shape) pl × MayStore shape v pl new intent
Admits shape v (Or place bits) intent = (pl : Place) × (place ≡ number (extent_of shape) pl) × IsPlace (extent_of shape) pl × OwesNoName v × MayOr shape v pl bits intent
Admits shape v (And place bits) intent = (pl : Place) × (place ≡ number (extent_of shape) pl) × IsPlace (extent_of shape) pl × OwesNoName v × MayAnd shape v pl bits intent
