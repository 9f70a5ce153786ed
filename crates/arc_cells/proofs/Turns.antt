-- The turns of the drop of a reference and of a cascade at the machines that they go on with.
use Rattle.std.proofs.Common.{◌≡◌, ℕ, Option, None, sym, ap, subst, ◌∙◌}
use Rattle.arc_model.specs.declared.event.Act.{Act}
use Rattle.arc_model.specs.declared.event.ObjectName.{ObjectName}
use Rattle.arc_rule.specs.Extents.{Extent}
use Rattle.arc_rule.specs.declared.plan.Next.{Next}
use Rattle.arc_side.specs.Entries.{EntryFall, entry_down_turned, entry_down_answer}
use Rattle.arc_side.specs.declared.entry_down.EntryDownAnswer.{EntryDownAnswer}
use Rattle.arc_side.specs.Downs.{Fall, IsFall, down_takes, down_turned, down_answer}
use Rattle.arc_side.specs.declared.down.DownAnswer.{DownAnswer}
use Rattle.arc_side.specs.Lasts.{LastInEntry}
use Rattle.arc_side.proofs.Lasts.{down_same, down_in_entry}
use Rattle.arc_side.specs.SlotEnds.{SlotEnding, slot_end_turn}
use Rattle.arc_side.specs.declared.slot_end.SlotEndNext.{SlotEndNext}
use Rattle.arc_cells.specs.Drops.{Dropping, DropTurn, ended_on, counted_on, entry_counted_on, drop_at, drop_turn}
use Rattle.arc_cells.specs.declared.ref_drop.At.{At as DropAt}
use Rattle.arc_cells.specs.declared.ref_drop.At.TheVariants as drops
use Rattle.arc_cells.specs.declared.ref_drop.RefDropNext.{RefDropNext}
use Rattle.arc_cells.specs.declared.parent.Parent.{Parent}
use Rattle.arc_cells.specs.declared.cascade.At.{At}
use Rattle.arc_cells.specs.declared.cascade.At.TheVariants as at
use Rattle.arc_cells.specs.Cascades.{CascadeState, CascadeTurn, drops_on, finishes, ends_on, turn_at, cascade_turn}

-- the drop of a reference
drop_is : (p : Dropping) (last : Option ℕ) (place : DropAt) (t : DropTurn) → p.at ≡ place → t ≡ drop_at (record p { at = drops.Ended; event = None }) last place → t ≡ drop_turn p last
drop_is p last place t is same = subst (λ (a : DropAt). t ≡ drop_at (record p { at = drops.Ended; event = None }) last a) (sym is) same

pub counted_is : (p : Dropping) (last : Option ℕ) (plan new : Fall) (next : Next DownAnswer) → p.at ≡ drops.Counting plan → new ≡ down_turned plan last → next ≡ down_answer plan last →
    counted_on (record p { at = drops.Ended; event = None }) new next ≡ drop_turn p last
counted_is p last plan new next is turned answer = drop_is p last (drops.Counting plan) _ is
    (ap (λ (n : Fall). counted_on (record p { at = drops.Ended; event = None }) n next) turned ∙ ap (λ (a : Next DownAnswer). counted_on (record p { at = drops.Ended; event = None }) (down_turned plan last) a) answer)

pub entry_counted_is : (p : Dropping) (last : Option ℕ) (plan new : EntryFall) (next : Next EntryDownAnswer) → p.at ≡ drops.InEntry plan → new ≡ entry_down_turned plan last → next ≡ entry_down_answer plan last →
    entry_counted_on (record p { at = drops.Ended; event = None }) new next ≡ drop_turn p last
entry_counted_is p last plan new next is turned answer = drop_is p last (drops.InEntry plan) _ is
    (ap (λ (n : EntryFall). entry_counted_on (record p { at = drops.Ended; event = None }) n next) turned ∙ ap (λ (a : Next EntryDownAnswer). entry_counted_on (record p { at = drops.Ended; event = None }) (entry_down_turned plan last) a) answer)

pub ended_is : (p : Dropping) (last : Option ℕ) (end new : SlotEnding) (next : SlotEndNext) (event : Option Act) → p.at ≡ drops.Ending end → new ≡ (slot_end_turn end last).after → next ≡ (slot_end_turn end last).says → event ≡ new.event →
    ended_on (record p { at = drops.Ended; event = event }) new next ≡ drop_turn p last
ended_is p last end new next event is turned answer told = drop_is p last (drops.Ending end) _ is
    (ap (λ (e : Option Act). ended_on (record p { at = drops.Ended; event = e }) new next) told
    ∙ ap (λ (n : SlotEnding). ended_on (record p { at = drops.Ended; event = n.event }) n next) turned
    ∙ ap (λ (a : SlotEndNext). ended_on (record p { at = drops.Ended; event = (slot_end_turn end last).after.event }) (slot_end_turn end last).after a) answer)

-- the attempt on a count stays on it, and its entry is the layout's
pub falls_on : (layout : Extent) (plan new : Fall) (last : Option ℕ) → plan.layout ≡ layout → new ≡ down_turned plan last → new.layout ≡ layout
falls_on layout plan new last is turned = ap (λ (p : Fall). p.layout) turned ∙ (down_same plan last).layout ∙ is

pub last_is_in : (layout : Extent) (plan : Fall) (next : Next DownAnswer) (last : Option ℕ) → plan.layout ≡ layout → IsFall plan → down_takes plan last → next ≡ down_answer plan last → LastInEntry layout next
last_is_in layout plan next last is fall takes answer = subst (λ (l : Extent). LastInEntry l next) is (subst (λ (a : Next DownAnswer). LastInEntry plan.layout a) (sym answer) (down_in_entry plan last fall takes))

-- the cascade
cascade_is : (c : CascadeState) (last : Option ℕ) (place : At) (t : CascadeTurn) → c.at ≡ place → t ≡ turn_at (record c { at = at.Ended; event = None }) last place → t ≡ cascade_turn c last
cascade_is c last place t is same = subst (λ (a : At). t ≡ turn_at (record c { at = at.Ended; event = None }) last a) (sym is) same

pub dropping_is : (c : CascadeState) (last : Option ℕ) (name : ObjectName) (field : ℕ) (drop new : Dropping) (next : RefDropNext) (event : Option Act) → c.at ≡ at.Dropping name field drop → new ≡ (drop_turn drop last).after →
    next ≡ (drop_turn drop last).says → event ≡ new.event → drops_on (record c { at = at.Ended; event = event }) name field new next ≡ cascade_turn c last
dropping_is c last name field drop new next event is turned answer told = cascade_is c last (at.Dropping name field drop) _ is
    (ap (λ (e : Option Act). drops_on (record c { at = at.Ended; event = e }) name field new next) told
    ∙ ap (λ (n : Dropping). drops_on (record c { at = at.Ended; event = n.event }) name field n next) turned
    ∙ ap (λ (a : RefDropNext). drops_on (record c { at = at.Ended; event = (drop_turn drop last).after.event }) name field (drop_turn drop last).after a) answer)

pub finishing_is : (c : CascadeState) (last : Option ℕ) (parent : Option Parent) (plan new : Fall) (next : Next DownAnswer) → c.at ≡ at.Finishing parent plan → new ≡ down_turned plan last → next ≡ down_answer plan last →
    finishes (record c { at = at.Ended; event = None }) parent new next ≡ cascade_turn c last
finishing_is c last parent plan new next is turned answer = cascade_is c last (at.Finishing parent plan) _ is
    (ap (λ (n : Fall). finishes (record c { at = at.Ended; event = None }) parent n next) turned ∙ ap (λ (a : Next DownAnswer). finishes (record c { at = at.Ended; event = None }) parent (down_turned plan last) a) answer)

pub ending_is : (c : CascadeState) (last : Option ℕ) (parent : Option Parent) (end new : SlotEnding) (next : SlotEndNext) (event : Option Act) → c.at ≡ at.Ending parent end → new ≡ (slot_end_turn end last).after →
    next ≡ (slot_end_turn end last).says → event ≡ new.event → ends_on (record c { at = at.Ended; event = event }) parent new next ≡ cascade_turn c last
ending_is c last parent end new next event is turned answer told = cascade_is c last (at.Ending parent end) _ is
    (ap (λ (e : Option Act). ends_on (record c { at = at.Ended; event = e }) parent new next) told
    ∙ ap (λ (n : SlotEnding). ends_on (record c { at = at.Ended; event = n.event }) parent n next) turned
    ∙ ap (λ (a : SlotEndNext). ends_on (record c { at = at.Ended; event = (slot_end_turn end last).after.event }) parent (slot_end_turn end last).after a) answer)
