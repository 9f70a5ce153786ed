-- A step that is admitted is at an inline word or an isa word only where the view keeps the object, or is to store its words.
use Rattle.std.proofs.Common.{◌≡◌, inl, inr, ℕ, true, false, Some, refl, sym, ◌∙◌, subst}
use Rattle.arc_model.specs.declared.event.CellName.{CellName}
use Rattle.arc_model.specs.declared.event.CellName.TheVariants as cells
use Rattle.arc_model.specs.declared.event.Origin.{Origin}
use Rattle.arc_model.specs.declared.event.Origin.TheVariants as origins
use Rattle.arc_model.specs.declared.shape.Kind.{Kind}
use Rattle.arc_model.specs.declared.shape.Kind.TheVariants as kinds
use Rattle.arc_model.specs.Shapes.{HeapShape}
use Rattle.arc_model.specs.Heaps.{Deinit, Object}
use Rattle.arc_rule.specs.declared.step.Step.TheVariants.{Load, Exchange, Store, Or, And}
use Rattle.arc_rule.specs.declared.step.Intent.{Intent}
use Rattle.arc_rule.specs.declared.step.Intent.TheVariants as intents
use Rattle.arc_rule.specs.declared.layout.Place.{Place}
use Rattle.arc_rule.specs.declared.layout.Place.TheVariants as places
use Rattle.arc_rule.specs.declared.layout.Place.TheVariants.{Count, Isa}
use Rattle.arc_rule.specs.Places.{IsPlace, extent_of, number}
use Rattle.arc_view.specs.declared.view.View.{View}
use Rattle.arc_view.specs.Views.{cell_place}
use Rattle.arc_view.specs.Holding.{At, IsSource, is_counted, heap_of}
use Rattle.arc_view.specs.Admission.{KeepsObject, KnowsSlot, MayRead, MayLoad, MayExchange, MayOr, MayAnd, MayStoreIn, MayStore, Admits}
use Rattle.arc_view.proofs.Words.{number_same}
use Rattle.arc_view.proofs.Put.{is_number_some}
use Rattle.arc_view.proofs.Known.{IsKnown, Settles}
use Rattle.arc_view.proofs.Bridge.{AllSettles}

no_true : {A : Type 0} → false ≡ true → A
no_true e = absurd (cc)

strong≢weak : kinds.Strong ≡ kinds.Weak → ⊥
strong≢weak e = cc

pub unowned≢weak : kinds.Unowned ≡ kinds.Weak → ⊥
unowned≢weak e = cc

-- what is to be shown of an inline word and of an isa word
settles_by : (v : View) (pl : Place) → ((s : ℕ) → pl ≡ Count s → IsKnown v s) → ((s : ℕ) → pl ≡ Isa s → IsKnown v s) → Settles v pl
settles_by v places.Zero count isa = tt
settles_by v (places.Global g) count isa = tt
settles_by v (Count s) count isa = count s refl
settles_by v (Isa s) count isa = isa s refl
settles_by v (places.Next s) count isa = tt
settles_by v (places.Field s f) count isa = tt
settles_by v (places.Link e) count isa = tt
settles_by v (places.Strong e) count isa = tt
settles_by v (places.Unowned e) count isa = tt
settles_by v (places.Weak e) count isa = tt
settles_by v (places.SlotBits k) count isa = tt
settles_by v (places.EntryBits k) count isa = tt

-- an object that is read
read_known : (v : View) (s : ℕ) → MayRead v s → KnowsSlot v s
read_known v s (i, o, here, slot, inl (k, hand)) = (i, o, here, slot, inl (k, kinds.Strong, hand, strong≢weak))
read_known v s (i, o, here, slot, inr duty) = (i, o, here, slot, inr (inl (Deinit, duty)))

-- a count in an inline word is one of a list that isn't weak, of the object in the slot
pub counted_here : (kind : Kind) (o : Object) (s : ℕ) → is_counted kind o (Count s) ≡ true → (o.slot ≡ Some s) × (kind ≡ kinds.Weak → ⊥)
counted_here kinds.Strong o s counted = (is_number_some o.slot s counted, strong≢weak)
counted_here kinds.Unowned o s counted = (is_number_some o.slot s counted, unowned≢weak)
counted_here kinds.Weak o s counted = no_true counted

counted_isa : (kind : Kind) (o : Object) (s : ℕ) → is_counted kind o (Isa s) ≡ true → ⊥
counted_isa kinds.Strong o s counted = no_true counted
counted_isa kinds.Unowned o s counted = no_true counted
counted_isa kinds.Weak o s counted = no_true counted

source_keeps : (v : View) (from : Origin) (kind : Kind) (i : ℕ) → IsSource v from kind i → (kind ≡ kinds.Weak → ⊥) → KeepsObject v i
source_keeps v (origins.Hand k) kind i source ne = inl (k, kind, source.0, ne)
source_keeps v (origins.Cell c) kind i source ne = inr (inr (c, kind, source, ne))

-- a step on a count of a list that isn't weak, by what keeps the object
counted_settles : (v : View) (pl : Place) (kind : Kind) (i : ℕ) (o : Object) → At (heap_of v) i o → ((kind ≡ kinds.Weak → ⊥) → KeepsObject v i) → is_counted kind o pl ≡ true → Settles v pl
counted_settles v pl kind i o here keeps counted = settles_by v pl
    (λ s is. let c = counted_here kind o s (subst (λ (q : Place). is_counted kind o q ≡ true) is counted) in inl (i, o, here, c.0, keeps c.1))
    (λ s is. absurd (counted_isa kind o s (subst (λ (q : Place). is_counted kind o q ≡ true) is counted)))

-- a step at a cell, or at another place that is none of these words
cell_settles : (v : View) (c : CellName) → Settles v (cell_place c)
cell_settles v (cells.Field s f) = tt
cell_settles v (cells.Global g) = tt

load_known : (shape : HeapShape) (v : View) (pl : Place) (intent : Intent) → MayLoad shape v pl intent → Settles v pl
load_known shape v places.Zero intent may = tt
load_known shape v (places.Global g) intent may = tt
load_known shape v (Count s) intent may = inl may
load_known shape v (Isa s) intent may = inl (read_known v s may)
load_known shape v (places.Next s) intent may = tt
load_known shape v (places.Field s f) intent may = tt
load_known shape v (places.Link e) intent may = tt
load_known shape v (places.Strong e) intent may = tt
load_known shape v (places.Unowned e) intent may = tt
load_known shape v (places.Weak e) intent may = tt
load_known shape v (places.SlotBits k) intent may = tt
load_known shape v (places.EntryBits k) intent may = tt

exchange_known : (shape : HeapShape) (v : View) (pl : Place) (old new : ℕ) (intent : Intent) → MayExchange shape v pl old new intent → Settles v pl
exchange_known shape v pl old new intents.Look may = absurd may
exchange_known shape v pl old new (intents.New class) may = absurd may
exchange_known shape v pl old new (intents.Copy from) (kind, i, o, source, here, counted, up) = counted_settles v pl kind i o here (source_keeps v from kind i source) counted
exchange_known shape v pl old new (intents.UnownedOf of) (i, o, hand, here, counted, up) = counted_settles v pl kinds.Unowned i o here (λ ne. inl (of, kinds.Strong, hand, strong≢weak)) counted
exchange_known shape v pl old new (intents.WeakOf of) (i, o, hand, here, counted, up) = counted_settles v pl kinds.Weak i o here (λ ne. inl (of, kinds.Strong, hand, strong≢weak)) counted
exchange_known shape v pl old new (intents.Load of) (kind, i, o, hand, not_strong, not_weak, here, counted, up) = settles_by v pl
    (λ s is. let c = counted_here kinds.Strong o s (subst (λ (q : Place). is_counted kinds.Strong o q ≡ true) is counted) in inl (i, o, here, c.0, inl (of, kind, hand, not_weak s is)))
    (λ s is. absurd (counted_isa kinds.Strong o s (subst (λ (q : Place). is_counted kinds.Strong o q ≡ true) is counted)))
exchange_known shape v pl old new (intents.Drop k) (kind, i, o, hand, access, here, counted, down) = counted_settles v pl kind i o here (λ ne. inl (k, kind, hand, ne)) counted
exchange_known shape v pl old new (intents.Claim of) may = absurd may
exchange_known shape v pl old new (intents.Publish of why) (s, e, kind, i, o, c, is, lt, word, slow, source, ne, here, slot, why_is, filled) = subst (Settles v) (sym is) (inl (i, o, here, slot, source_keeps v of kind i source ne))
exchange_known shape v pl old new intents.Back may = absurd may
exchange_known shape v pl old new (intents.Swap cell put) may = subst (Settles v) (sym may.0) (cell_settles v cell)
exchange_known shape v pl old new (intents.Access cell) may = subst (Settles v) (sym may.0) (cell_settles v cell)
exchange_known shape v pl old new (intents.Deinit slot) (i, o, here, in_it, duty, nil, counted, down) = counted_settles v pl kinds.Unowned i o here (λ ne. inr (inl (Deinit, duty))) counted
exchange_known shape v pl old new intents.Vacate may = absurd may
exchange_known shape v pl old new intents.Gone may = subst (Settles v) (sym may.3) tt

stored_known : (shape : HeapShape) (v : View) (pl : Place) (new slot : ℕ) → MayStoreIn shape v pl new slot → Settles v pl
stored_known shape v places.Zero new slot may = tt
stored_known shape v (places.Global g) new slot may = tt
stored_known shape v (Count s) new slot may = absurd may
stored_known shape v (Isa s) new slot may = absurd may
stored_known shape v (places.Next s) new slot may = tt
stored_known shape v (places.Field s f) new slot may = tt
stored_known shape v (places.Link e) new slot may = tt
stored_known shape v (places.Strong e) new slot may = tt
stored_known shape v (places.Unowned e) new slot may = tt
stored_known shape v (places.Weak e) new slot may = tt
stored_known shape v (places.SlotBits k) new slot may = tt
stored_known shape v (places.EntryBits k) new slot may = tt

store_known : (shape : HeapShape) (v : View) (pl : Place) (new : ℕ) (intent : Intent) → MayStore shape v pl new intent → Settles v pl
store_known shape v pl new intents.Look may = absurd may
store_known shape v pl new (intents.New class) (n, o, owed, found, inl naming) = subst (Settles v) (sym naming.1) (inr (n, owed, refl))
store_known shape v pl new (intents.New class) (n, o, owed, found, inr naming) = subst (Settles v) (sym naming.1) (inr (n, owed, refl))
store_known shape v pl new (intents.Copy from) may = absurd may
store_known shape v pl new (intents.UnownedOf of) may = absurd may
store_known shape v pl new (intents.WeakOf of) may = absurd may
store_known shape v pl new (intents.Load of) may = absurd may
store_known shape v pl new (intents.Drop k) may = absurd may
store_known shape v pl new (intents.Claim of) (owes, (e, is, claim)) = subst (Settles v) (sym is) tt
store_known shape v pl new (intents.Publish of why) (owes, (e, inl is, claim)) = subst (Settles v) (sym is) tt
store_known shape v pl new (intents.Publish of why) (owes, (e, inr (inl is), claim)) = subst (Settles v) (sym is) tt
store_known shape v pl new (intents.Publish of why) (owes, (e, inr (inr (inl is)), claim)) = subst (Settles v) (sym is) tt
store_known shape v pl new (intents.Publish of why) (owes, (e, inr (inr (inr is)), claim)) = subst (Settles v) (sym is) tt
store_known shape v pl new intents.Back may = absurd may
store_known shape v pl new (intents.Swap cell put) may = absurd may
store_known shape v pl new (intents.Access cell) (owes, (a, begun, same, is, value)) = subst (Settles v) (sym is) (cell_settles v cell)
store_known shape v pl new (intents.Deinit slot) (owes, may) = stored_known shape v pl new slot may
store_known shape v pl new intents.Vacate may = absurd may
store_known shape v pl new intents.Gone may = absurd may

or_known : (shape : HeapShape) (v : View) (pl : Place) (bits : ℕ) (intent : Intent) → MayOr shape v pl bits intent → Settles v pl
or_known shape v pl bits intents.Look may = absurd may
or_known shape v pl bits (intents.New class) may = subst (Settles v) (sym may.1) tt
or_known shape v pl bits (intents.Copy from) may = absurd may
or_known shape v pl bits (intents.UnownedOf of) may = absurd may
or_known shape v pl bits (intents.WeakOf of) may = absurd may
or_known shape v pl bits (intents.Load of) may = absurd may
or_known shape v pl bits (intents.Drop k) may = absurd may
or_known shape v pl bits (intents.Claim of) may = subst (Settles v) (sym may.5) tt
or_known shape v pl bits (intents.Publish of why) may = absurd may
or_known shape v pl bits intents.Back may = absurd may
or_known shape v pl bits (intents.Swap cell put) may = absurd may
or_known shape v pl bits (intents.Access cell) may = absurd may
or_known shape v pl bits (intents.Deinit slot) may = absurd may
or_known shape v pl bits intents.Vacate may = absurd may
or_known shape v pl bits intents.Gone may = absurd may

and_known : (shape : HeapShape) (v : View) (pl : Place) (bits : ℕ) (intent : Intent) → MayAnd shape v pl bits intent → Settles v pl
and_known shape v pl bits intents.Look may = absurd may
and_known shape v pl bits (intents.New class) may = absurd may
and_known shape v pl bits (intents.Copy from) may = absurd may
and_known shape v pl bits (intents.UnownedOf of) may = absurd may
and_known shape v pl bits (intents.WeakOf of) may = absurd may
and_known shape v pl bits (intents.Load of) may = absurd may
and_known shape v pl bits (intents.Drop k) may = absurd may
and_known shape v pl bits (intents.Claim of) may = absurd may
and_known shape v pl bits (intents.Publish of why) may = absurd may
and_known shape v pl bits intents.Back may = subst (Settles v) (sym may.1) tt
and_known shape v pl bits (intents.Swap cell put) may = absurd may
and_known shape v pl bits (intents.Access cell) may = absurd may
and_known shape v pl bits (intents.Deinit slot) may = absurd may
and_known shape v pl bits intents.Vacate may = subst (Settles v) (sym may.3) tt
and_known shape v pl bits intents.Gone may = absurd may

-- the place of a step is the one that it was admitted at
at_place : (shape : HeapShape) (v : View) (place : ℕ) (pl : Place) → place ≡ number (extent_of shape) pl → IsPlace (extent_of shape) pl → Settles v pl → AllSettles shape v place
at_place shape v place pl at inside settles q iq is = subst (Settles v) (number_same (extent_of shape) pl q inside iq (sym at ∙ is)) settles

pub load_settles : (shape : HeapShape) (v : View) (place : ℕ) (intent : Intent) → Admits shape v (Load place) intent → AllSettles shape v place
load_settles shape v place intent (pl, at, inside, owes, may, for) = at_place shape v place pl at inside (load_known shape v pl intent may)

pub exchange_settles : (shape : HeapShape) (v : View) (place old new : ℕ) (intent : Intent) → Admits shape v (Exchange place old new) intent → AllSettles shape v place
exchange_settles shape v place old new intent (pl, at, inside, owes, may) = at_place shape v place pl at inside (exchange_known shape v pl old new intent may)

pub store_settles : (shape : HeapShape) (v : View) (place new : ℕ) (intent : Intent) → Admits shape v (Store place new) intent → AllSettles shape v place
store_settles shape v place new intent (pl, at, inside, may) = at_place shape v place pl at inside (store_known shape v pl new intent may)

pub or_settles : (shape : HeapShape) (v : View) (place bits : ℕ) (intent : Intent) → Admits shape v (Or place bits) intent → AllSettles shape v place
or_settles shape v place bits intent (pl, at, inside, owes, may) = at_place shape v place pl at inside (or_known shape v pl bits intent may)

pub and_settles : (shape : HeapShape) (v : View) (place bits : ℕ) (intent : Intent) → Admits shape v (And place bits) intent → AllSettles shape v place
and_settles shape v place bits intent (pl, at, inside, owes, may) = at_place shape v place pl at inside (and_known shape v pl bits intent may)
