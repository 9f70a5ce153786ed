-- The drop of a reference that a hand has: where it is after each word, and what it says then.
use Rattle.std.specs.Prelude.{ℕ, Bool, ◌≡◌, ◌≢◌, ◌<◌, true, false, Option, Some, None, ⊤}
use Rattle.arc_model.specs.declared.event.Act.{Act}
use Rattle.arc_model.specs.declared.event.Act.TheVariants as acts
use Rattle.arc_model.specs.declared.shape.Kind.{Kind}
use Rattle.arc_model.specs.declared.shape.Kind.TheVariants.{Strong, Unowned, Weak}
use Rattle.arc_rule.specs.Extents.{Extent}
use Rattle.arc_rule.specs.Places.{number}
use Rattle.arc_rule.specs.declared.layout.Place.TheVariants as places
use Rattle.arc_rule.specs.declared.plan.Next.{Next}
use Rattle.arc_rule.specs.declared.plan.Next.TheVariants as nexts
use Rattle.arc_rule.specs.declared.step.Step.{Step}
use Rattle.arc_rule.specs.declared.step.Step.TheVariants.{Load}
use Rattle.arc_rule.specs.declared.step.Intent.{Intent}
use Rattle.arc_rule.specs.declared.step.Intent.TheVariants as intents
use Rattle.arc_rule.specs.declared.attempt.At.TheVariants as attempts
use Rattle.arc_side.specs.Entries.{EntryFall, entry_down_turned, entry_down_answer, entry_down_takes}
use Rattle.arc_side.specs.declared.entry_down.EntryDownAnswer.{EntryDownAnswer}
use Rattle.arc_side.specs.declared.entry_down.EntryDownAnswer.TheVariants as entry_downs
use Rattle.arc_side.specs.Downs.{Fall, down_turned, down_answer, down_takes}
use Rattle.arc_side.specs.declared.down.DownAnswer.{DownAnswer}
use Rattle.arc_side.specs.declared.down.DownAnswer.TheVariants as downs
use Rattle.arc_side.specs.SlotEnds.{SlotEnding, SlotEndTurn, slot_end_from, slot_end_turn, slot_end_takes, gives_back, own_holder}
use Rattle.arc_side.specs.declared.slot_end.SlotEndNext.{SlotEndNext}
use Rattle.arc_side.specs.declared.slot_end.SlotEndNext.TheVariants as ends
use Rattle.arc_cells.specs.declared.ref_drop.At.{At}
use Rattle.arc_cells.specs.declared.ref_drop.At.TheVariants.{Start, Counting, InEntry, Ending, Returning, Ended}
use Rattle.arc_cells.specs.declared.ref_drop.RefDropNext.{RefDropNext}
use Rattle.arc_cells.specs.declared.ref_drop.RefDropNext.TheVariants as says

-- the drop of a hand's reference of this kind, which leads to the slot, or for a weak one to the entry, at the place
pub record Dropping : Type 0 where
  pub layout : Extent
  pub hand : ℕ
  pub kind : Kind
  pub place : ℕ
  pub at : At
  pub event : Option Act

-- what a word makes of it, and what it says then
pub record DropTurn : Type 0 where
  pub after : Dropping
  pub says : RefDropNext

abbrev pub drop_from : Extent → ℕ → Kind → ℕ → Dropping
drop_from layout hand kind place = record { layout = layout; hand = hand; kind = kind; place = place; at = Start; event = None }

abbrev pub asks : Dropping → At → Step → Intent → DropTurn
asks p at step intent = record { after = record p { at = at }; says = says.Step step intent }

abbrev pub is_over : Dropping → DropTurn
is_over p = record { after = record p { at = Ended }; says = says.Done }

-- the attempt on the count of its list, by the inline word of its slot
abbrev pub count_from : Dropping → Fall
count_from p = record { layout = p.layout; slot = p.place; list = p.kind; entry = None; at = attempts.Start }

abbrev pub counts_down : Dropping → DropTurn
counts_down p = asks p (Counting (down_turned (count_from p) None)) (Load (number p.layout (places.Count p.place))) (intents.Drop p.hand)

-- the attempt on the weak count of its entry
abbrev pub counts_down_weak : Dropping → DropTurn
counts_down_weak p = asks p (InEntry (entry_down_turned (own_holder p.layout p.place) None)) (Load (number p.layout (places.Weak p.place))) (intents.Drop p.hand)

abbrev pub drop_begins : Dropping → Kind → DropTurn
drop_begins p Weak = counts_down_weak p
drop_begins p _ = counts_down p

-- the event of the drop
abbrev pub has_dropped : Dropping → Bool → Dropping
has_dropped p last = record p { event = Some (acts.Drop p.hand last) }

-- the end of the slot goes on, or is over
abbrev pub ended_on : Dropping → SlotEnding → SlotEndNext → DropTurn
ended_on p end (ends.Step step intent) = asks p (Ending end) step intent
ended_on p end ends.Done = is_over p

abbrev pub slot_ends : Dropping → SlotEndTurn → DropTurn
slot_ends p t = ended_on p t.after t.says

-- the last reference of its kind is gone: after a strong one the object dies, after an unowned one its slot ends
abbrev pub has_emptied : Dropping → Kind → Option ℕ → DropTurn
has_emptied p Strong entry = record { after = record p { at = Ended }; says = says.Dies p.place }
has_emptied p Unowned entry = slot_ends p (slot_end_turn (slot_end_from p.layout p.place entry) None)
has_emptied p Weak entry = is_over p

abbrev pub counted_on : Dropping → Fall → Next DownAnswer → DropTurn
counted_on p plan (nexts.Step step) = asks p (Counting plan) step (intents.Drop p.hand)
counted_on p plan (nexts.Done (downs.More entry)) = is_over (has_dropped p false)
counted_on p plan (nexts.Done (downs.Last entry)) = has_emptied (has_dropped p true) p.kind entry
counted_on p plan (nexts.Done (downs.Again changed)) = counts_down p

abbrev pub entry_counted_on : Dropping → EntryFall → Next EntryDownAnswer → DropTurn
entry_counted_on p plan (nexts.Step step) = asks p (InEntry plan) step (intents.Drop p.hand)
entry_counted_on p plan (nexts.Done entry_downs.More) = is_over (has_dropped p false)
entry_counted_on p plan (nexts.Done entry_downs.Last) = asks (has_dropped p true) Returning (gives_back p.layout p.place) intents.Back
entry_counted_on p plan (nexts.Done (entry_downs.Again changed)) = counts_down_weak p

-- One reference fewer in its list. After the last strong one the object dies, after the last unowned one its slot ends, and after the
-- last weak one its entry is given back.
abbrev pub drop_at : Dropping → Option ℕ → At → DropTurn
drop_at p last Start = drop_begins p p.kind
drop_at p last (Counting plan) = counted_on p (down_turned plan last) (down_answer plan last)
drop_at p last (InEntry plan) = entry_counted_on p (entry_down_turned plan last) (entry_down_answer plan last)
drop_at p last (Ending end) = slot_ends (record p { event = (slot_end_turn end last).after.event }) (slot_end_turn end last)
drop_at p last Returning = is_over (record p { event = Some (acts.Back p.place) })
drop_at p last Ended = is_over p

abbrev pub drop_turn : Dropping → Option ℕ → DropTurn
drop_turn p last = drop_at (record p { at = Ended; event = None }) last p.at

-- what it may be given: nothing at first, and then what the count, or the end of the slot, may be given
abbrev pub drop_takes_at : Option ℕ → At → Type 0
drop_takes_at last Start = last ≡ None
drop_takes_at last (Counting plan) = down_takes plan last
drop_takes_at last (InEntry plan) = entry_down_takes plan last
drop_takes_at last (Ending end) = slot_end_takes end last
drop_takes_at last Returning = last ≢ None
drop_takes_at last Ended = ⊥

abbrev pub drop_takes : Dropping → Option ℕ → Type 0
drop_takes p last = drop_takes_at last p.at

-- where a reference of this kind may lead
abbrev pub IsPlaceOf : Extent → Kind → ℕ → Type 0
IsPlaceOf layout Weak place = place < layout.entries
IsPlaceOf layout _ place = place < layout.slots

-- a strong or unowned reference is counted down, or a weak one; the attempt is on its own count
abbrev pub IsUnderWay : Extent → Kind → ℕ → At → Type 0
IsUnderWay layout kind place (Counting plan) = (kind ≢ Weak) × (plan.layout ≡ layout)
IsUnderWay layout kind place (InEntry plan) = kind ≡ Weak
IsUnderWay layout kind place Returning = kind ≡ Weak
IsUnderWay layout kind place _ = ⊤

pub record IsDropOf (layout : Extent) (kind : Kind) (place : ℕ) (at : At) : Type 0 where
  pub place_is : IsPlaceOf layout kind place
  pub at_is : IsUnderWay layout kind place at

-- an object that dies is in a slot
abbrev pub DiesInSlot : Extent → RefDropNext → Type 0
DiesInSlot layout (says.Dies slot) = slot < layout.slots
DiesInSlot layout _ = ⊤
