-- What a turn of a deinit tells: an event of a deinit, or none; and it asks for a step, tells a name, or where no deinit waits is over.
use Rattle.std.specs.Prelude.{⊤}
use Rattle.std.specs.Option.{unwrap_or}
use Rattle.std.proofs.Common.{◌≡◌, ℕ, ◌+◌, ◌-◌, Bool, true, false, cond, eqb, ltb, List, [], ◌∷◌, Option, Some, None, refl}
use Rattle.arc_model.specs.declared.event.Act.{Act}
use Rattle.arc_model.specs.declared.event.Act.TheVariants as acts
use Rattle.arc_model.specs.declared.event.ObjectName.{ObjectName}
use Rattle.arc_model.specs.declared.shape.Kind.{Kind}
use Rattle.arc_model.specs.declared.shape.Kind.TheVariants.{Strong, Unowned, Weak}
use Rattle.arc_spelling.specs.Spelling.{Note}
use Rattle.arc_model.specs.References.{field_count}
use Rattle.arc_rule.specs.Places.{number}
use Rattle.arc_rule.specs.declared.layout.Place.TheVariants.{Next as NextPlace, Field}
use Rattle.arc_rule.specs.declared.plan.Next.{Next}
use Rattle.arc_rule.specs.declared.plan.Next.TheVariants as nexts
use Rattle.arc_rule.specs.declared.step.Step.{Step}
use Rattle.arc_rule.specs.declared.step.Step.TheVariants.{Load, Store}
use Rattle.arc_rule.specs.declared.step.Intent.{Intent}
use Rattle.arc_side.specs.Downs.{Fall, down_turned, down_answer}
use Rattle.arc_side.specs.declared.down.DownAnswer.{DownAnswer}
use Rattle.arc_side.specs.declared.down.DownAnswer.TheVariants as downs
use Rattle.arc_side.specs.Entries.{EntryFall, entry_down_turned, entry_down_answer}
use Rattle.arc_side.specs.declared.entry_down.EntryDownAnswer.{EntryDownAnswer}
use Rattle.arc_side.specs.declared.entry_down.EntryDownAnswer.TheVariants as entry_downs
use Rattle.arc_side.specs.SlotEnds.{SlotEnding, is_vacated, left_on, slot_end_at, slot_end_turn, slot_end_from}
use Rattle.arc_side.specs.declared.slot_end.At.{At as EndAt}
use Rattle.arc_side.specs.declared.slot_end.At.TheVariants as ends
use Rattle.arc_side.specs.declared.slot_end.SlotEndNext.{SlotEndNext}
use Rattle.arc_side.specs.declared.slot_end.SlotEndNext.TheVariants as end_says
use Rattle.arc_cells.specs.Chains.{Frame, parent_of}
use Rattle.arc_cells.specs.Drops.{Dropping, drop_begins, has_dropped, has_emptied, ended_on, counted_on, entry_counted_on, drop_at, drop_turn}
use Rattle.arc_cells.specs.declared.ref_drop.At.{At as DropAt}
use Rattle.arc_cells.specs.declared.ref_drop.At.TheVariants as drops
use Rattle.arc_cells.specs.declared.ref_drop.RefDropNext.{RefDropNext}
use Rattle.arc_cells.specs.declared.ref_drop.RefDropNext.TheVariants as drop_says
use Rattle.arc_cells.specs.declared.parent.Parent.{Parent}
use Rattle.arc_cells.specs.declared.cascade.At.{At}
use Rattle.arc_cells.specs.declared.cascade.At.TheVariants.{Start, Entering, Naming, Named, Looking, Taking, Dropping as DroppingOne, Leaving, Finishing, Ending, Resuming, Ended}
use Rattle.arc_cells.specs.declared.cascade.CascadeNext.{CascadeNext}
use Rattle.arc_cells.specs.declared.cascade.CascadeNext.TheVariants as says
use Rattle.arc_cells.specs.Cascades.{CascadeState, CascadeTurn, asks, looks, climbs, looked, has_taken, drops_on, ends_on, has_finished, finishes, turn_at, cascade_turn, takes_at, cascade_takes}
use Rattle.arc_deinits.specs.Stands.{CascadeUpTo, chained_at, chained}

-- an event of a deinit, or none
pub data IsOfDeinit : Option Act → Type 0 where
  quiet : IsOfDeinit None
  taken : {slot field hand : ℕ} → IsOfDeinit (Some (acts.Take slot field hand))
  dropped : {hand : ℕ} {last : Bool} → IsOfDeinit (Some (acts.Drop hand last))
  finished : {slot : ℕ} {last : Bool} → IsOfDeinit (Some (acts.Finish slot last))
  vacated : {slot : ℕ} → IsOfDeinit (Some (acts.Vacate slot))
  gone : {entry : ℕ} {last : Bool} → IsOfDeinit (Some (acts.Gone entry last))
  returned : {entry : ℕ} → IsOfDeinit (Some (acts.Back entry))

-- ---- the end of a slot

end-event : (p : SlotEnding) (last : Option ℕ) → IsOfDeinit (slot_end_turn p last).after.event
end-event p last = go p.at
  where
    given : SlotEnding
    given = record p { at = ends.Ended; event = None }

    vacates : (entry : Option ℕ) → IsOfDeinit (is_vacated given entry).after.event
    vacates None = vacated
    vacates (Some e) = vacated

    left : (e : ℕ) (plan : EntryFall) (a : Next EntryDownAnswer) → IsOfDeinit (left_on given e plan a).after.event
    left e plan (nexts.Step step) = quiet
    left e plan (nexts.Done entry_downs.More) = gone
    left e plan (nexts.Done entry_downs.Last) = gone
    left e plan (nexts.Done (entry_downs.Again changed)) = quiet

    go : (at : EndAt) → IsOfDeinit (slot_end_at (record p { at = ends.Ended; event = None }) last at).after.event
    go ends.Start = quiet
    go ends.Vacating = vacates p.entry
    go (ends.Leaving e plan) = left e (entry_down_turned plan last) (entry_down_answer plan last)
    go (ends.Returning e) = returned
    go ends.Ended = quiet

-- ---- the drop of a reference

ended-event : (d : Dropping) (end : SlotEnding) (a : SlotEndNext) → IsOfDeinit d.event → IsOfDeinit (ended_on d end a).after.event
ended-event d end (end_says.Step step intent) e = e
ended-event d end end_says.Done e = e

emptied-event : (d : Dropping) (kind : Kind) (entry : Option ℕ) → IsOfDeinit d.event → IsOfDeinit (has_emptied d kind entry).after.event
emptied-event d Strong entry e = e
emptied-event d Unowned entry e = ended-event d (slot_end_turn (slot_end_from d.layout d.place entry) None).after (slot_end_turn (slot_end_from d.layout d.place entry) None).says e
emptied-event d Weak entry e = e

drop-event : (d : Dropping) (last : Option ℕ) → IsOfDeinit (drop_turn d last).after.event
drop-event d last = go d.at
  where
    given : Dropping
    given = record d { at = drops.Ended; event = None }

    begun : (kind : Kind) → IsOfDeinit (drop_begins given kind).after.event
    begun Strong = quiet
    begun Unowned = quiet
    begun Weak = quiet

    counted : (plan : Fall) (a : Next DownAnswer) → IsOfDeinit (counted_on given plan a).after.event
    counted plan (nexts.Step step) = quiet
    counted plan (nexts.Done (downs.More entry)) = dropped
    counted plan (nexts.Done (downs.Last entry)) = emptied-event (has_dropped given true) d.kind entry dropped
    counted plan (nexts.Done (downs.Again changed)) = quiet

    in_entry : (plan : EntryFall) (a : Next EntryDownAnswer) → IsOfDeinit (entry_counted_on given plan a).after.event
    in_entry plan (nexts.Step step) = quiet
    in_entry plan (nexts.Done entry_downs.More) = dropped
    in_entry plan (nexts.Done entry_downs.Last) = dropped
    in_entry plan (nexts.Done (entry_downs.Again changed)) = quiet

    go : (at : DropAt) → IsOfDeinit (drop_at (record d { at = drops.Ended; event = None }) last at).after.event
    go drops.Start = begun d.kind
    go (drops.Counting plan) = counted (down_turned plan last) (down_answer plan last)
    go (drops.InEntry plan) = in_entry (entry_down_turned plan last) (entry_down_answer plan last)
    go (drops.Ending end) = ended-event (record given { event = (slot_end_turn end last).after.event }) (slot_end_turn end last).after (slot_end_turn end last).says (end-event end last)
    go drops.Returning = returned
    go drops.Ended = quiet

-- ---- a deinit

-- it has told a name and is there, or it is over, and this holds
abbrev pub SaysWith : (over : Type 0) → CascadeState → CascadeNext → Type 0
SaysWith over c (says.Step step intent) = ⊤
SaysWith over c (says.Died name) = c.at ≡ Named name
SaysWith over c says.Done = over

pub record Tells (over : Type 0) (t : CascadeTurn) : Type 0 where
  pub event : IsOfDeinit t.after.event
  pub said : SaysWith over t.after t.says

looks-tell : (over : Type 0) (q : CascadeState) (name : ObjectName) (field : ℕ) → IsOfDeinit q.event → Tells over (looks q name field)
looks-tell over q name field e = go (ltb field (field_count q.shape name))
  where
    go : (b : Bool) → Tells over (cond b (asks q (Looking name field) (Load (number q.layout (Field q.slot field)))) (asks q Leaving (Load (number q.layout (NextPlace q.slot)))))
    go true = record { event = e; said = tt }
    go false = record { event = e; said = tt }

looked-tells : (over : Type 0) (q : CascadeState) (name : ObjectName) (field w : ℕ) → IsOfDeinit q.event → Tells over (looked q name field w)
looked-tells over q name field w e = go (eqb w 0)
  where
    go : (b : Bool) → Tells over (cond b (looks q name (field + 1)) (asks q (Taking name field (w - 2)) (Store (number q.layout (Field q.slot field)) 0)))
    go true = looks-tell over q name (field + 1) e
    go false = record { event = e; said = tt }

climbs-tell : (over : Type 0) (q : CascadeState) (parent : Option Parent) → (parent ≡ None → over) → IsOfDeinit q.event → Tells over (climbs q parent)
climbs-tell over q None alone e = record { event = e; said = alone refl }
climbs-tell over q (Some p) alone e = record { event = e; said = tt }

drops-tell : (over : Type 0) (q : CascadeState) (name : ObjectName) (field : ℕ) (d : Dropping) (a : RefDropNext) → IsOfDeinit q.event → Tells over (drops_on q name field d a)
drops-tell over q name field d (drop_says.Step step intent) e = record { event = e; said = tt }
drops-tell over q name field d (drop_says.Dies slot) e = record { event = e; said = tt }
drops-tell over q name field d drop_says.Done e = looks-tell over q name (field + 1) e

ends-tell : (over : Type 0) (q : CascadeState) (parent : Option Parent) (end : SlotEnding) (a : SlotEndNext) → (parent ≡ None → over) → IsOfDeinit q.event → Tells over (ends_on q parent end a)
ends-tell over q parent end (end_says.Step step intent) alone e = record { event = e; said = tt }
ends-tell over q parent end end_says.Done alone e = climbs-tell over q parent alone e

finishes-tell : (over : Type 0) (q : CascadeState) (parent : Option Parent) (plan : Fall) (a : Next DownAnswer) → (parent ≡ None → over) → IsOfDeinit q.event → Tells over (finishes q parent plan a)
finishes-tell over q parent plan (nexts.Step step) alone e = record { event = e; said = tt }
finishes-tell over q parent plan (nexts.Done (downs.More entry)) alone e = climbs-tell over (has_finished q false) parent alone finished
finishes-tell over q parent plan (nexts.Done (downs.Last entry)) alone e =
    let t = slot_end_turn (slot_end_from q.layout q.slot entry) None in ends-tell over (has_finished q true) parent t.after t.says alone finished
finishes-tell over q parent plan (nexts.Done (downs.Again changed)) alone e = record { event = e; said = tt }

-- where no deinit waits the chain is empty
none-waits : (fs : List Frame) (parent : Option Parent) → parent ≡ parent_of fs → parent ≡ None → fs ≡ []
none-waits [] parent e n = refl
none-waits (p ∷ fs) parent e n = absurd (cc)

pub turn-tells : (root : ℕ) (base : List Note) (c : CascadeState) (fs : List Frame) (asked : Option (Step × Intent)) (last : Option ℕ) (now : List Note) → CascadeUpTo c root base fs asked now c.at → cascade_takes c last →
    Tells (chained c last fs ≡ []) (cascade_turn c last)
turn-tells root base c fs asked last now u takes = go c.at u takes
  where
    given : CascadeState
    given = record c { at = Ended; event = None }

    go : (at : At) → CascadeUpTo c root base fs asked now at → takes_at c last at → Tells (chained_at c last at fs ≡ []) (turn_at (record c { at = Ended; event = None }) last at)
    go Start u takes = record { event = quiet; said = tt }
    go Entering u takes = record { event = quiet; said = tt }
    go Naming u takes = record { event = quiet; said = refl }
    go (Named name) u takes = looks-tell _ given name 0 quiet
    go (Looking name field) u takes = looked-tells _ given name field (unwrap_or last 0) quiet
    go (Taking name field place) u takes = drops-tell _ (has_taken given field) name field _ _ taken
    go (DroppingOne name field d) u takes = drops-tell _ (record given { event = (drop_turn d last).after.event }) name field (drop_turn d last).after (drop_turn d last).says (drop-event d last)
    go Leaving u takes = record { event = quiet; said = tt }
    go (Finishing parent plan) u takes = finishes-tell _ given parent (down_turned plan last) (down_answer plan last) (none-waits fs parent u.0) quiet
    go (Ending parent end) u takes = ends-tell _ (record given { event = (slot_end_turn end last).after.event }) parent (slot_end_turn end last).after (slot_end_turn end last).says (none-waits fs parent u.0) (end-event end last)
    go (Resuming field) u takes = looks-tell _ given _ field quiet
    go Ended u takes = absurd takes
