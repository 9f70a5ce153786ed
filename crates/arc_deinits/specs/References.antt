-- What the end of a slot, and the drop of a reference, stand for: the notes that spell them up to where they are.
use Rattle.std.specs.Prelude.{ℕ, true, ◌≡◌, List, ◌∷◌, Option, Some}
use Rattle.arc_model.specs.declared.event.Act.TheVariants.{Drop, Vacate, Gone}
use Rattle.arc_model.specs.declared.shape.Kind.TheVariants.{Strong, Unowned, Weak}
use Rattle.arc_model.specs.Shapes.{HeapShape}
use Rattle.arc_spelling.specs.Spelling.{Note, hands_of, IsEnd, IsDrop}
use Rattle.arc_spelling.specs.Spelling.Note.{Did, Entry}
use Rattle.arc_rule.specs.declared.step.Step.{Step}
use Rattle.arc_rule.specs.declared.step.Intent.{Intent}
use Rattle.arc_rule.specs.declared.step.Intent.TheVariants as intents
use Rattle.arc_rule.specs.Attempts.{asked_at}
use Rattle.arc_side.specs.Downs.{Fall, down_place}
use Rattle.arc_side.specs.Inline.{IsCountedInline}
use Rattle.arc_side.specs.SlotEnds.{SlotEnding, SlotEndTurn, slot_end_turn, slot_end_takes}
use Rattle.arc_side.specs.declared.slot_end.At.{At as EndAt}
use Rattle.arc_side.specs.declared.slot_end.At.TheVariants as ends
use Rattle.arc_side.specs.declared.slot_end.SlotEndNext.{SlotEndNext}
use Rattle.arc_side.specs.declared.slot_end.SlotEndNext.TheVariants as end_says
use Rattle.arc_cells.specs.Drops.{Dropping, DropTurn, drop_turn, drop_takes}
use Rattle.arc_cells.specs.declared.ref_drop.At.{At as DropAt}
use Rattle.arc_cells.specs.declared.ref_drop.At.TheVariants as drops
use Rattle.arc_cells.specs.declared.ref_drop.RefDropNext.{RefDropNext}
use Rattle.arc_cells.specs.declared.ref_drop.RefDropNext.TheVariants as drop_says
use Rattle.arc_deinits.specs.Found.{CameOut, FindsEntry, with_act}

-- the end of the slot, whose object's last unowned reference went behind the notes `base`
abbrev pub EndUpTo : (slot : ℕ) (base now : List Note) → EndAt → (entry : Option ℕ) → Type 0
EndUpTo slot base now ends.Start entry = ⊥
EndUpTo slot base now ends.Vacating entry = now ≡ Entry slot entry ∷ base
EndUpTo slot base now (ends.Leaving e plan) entry = now ≡ Did (Vacate slot) ∷ Entry slot (Some e) ∷ base
EndUpTo slot base now (ends.Returning e) entry = now ≡ Did (Gone e true) ∷ Did (Vacate slot) ∷ Entry slot (Some e) ∷ base
EndUpTo slot base now ends.Ended entry = ⊥

abbrev pub EndStandsFor : SlotEnding → (base now : List Note) → Type 0
EndStandsFor p base now = EndUpTo p.slot base now p.at p.entry

-- what it says: it goes on, or it is spelled
abbrev pub EndComes : SlotEnding → SlotEndNext → (base now : List Note) → Type 0
EndComes p (end_says.Step step intent) base now = EndStandsFor p base now
EndComes p end_says.Done base now = IsEnd p.slot base now

pub record EndGoesOn (p : SlotEnding) (t : SlotEndTurn) (base now : List Note) : Type 0 where
  pub slot : t.after.slot ≡ p.slot
  pub hands : hands_of (with_act t.after.event now) ≡ hands_of now
  pub comes : EndComes t.after t.says base (with_act t.after.event now)

-- Each word that the end of a slot may be given keeps what it stands for; where it is over, it is spelled.
abbrev pub SlotEndsGoOn : Type 0
SlotEndsGoOn = (p : SlotEnding) (last : Option ℕ) (base now : List Note) → EndStandsFor p base now → slot_end_takes p last → EndGoesOn p (slot_end_turn p last) base now

-- the attempt is on the count of the reference, and what was asked for last is its step
pub record IsCounting (d : Dropping) (asked : Option (Step × Intent)) (p : Fall) : Type 0 where
  pub counted : IsCountedInline d.kind
  pub layout : p.layout ≡ d.layout
  pub slot : p.slot ≡ d.place
  pub list : p.list ≡ d.kind
  pub step : Step
  pub asks : asked ≡ Some (step, intents.Drop d.hand)
  pub waits : asked_at (down_place p) p.at ≡ Some step

-- the drop, which began behind the notes `base`
abbrev pub DropUpTo : Dropping → (asked : Option (Step × Intent)) → (base now : List Note) → DropAt → Type 0
DropUpTo d asked base now drops.Start = now ≡ base
DropUpTo d asked base now (drops.Counting p) = IsCounting d asked p × (now ≡ base)
DropUpTo d asked base now (drops.InEntry p) = (d.kind ≡ Weak) × (now ≡ base)
DropUpTo d asked base now (drops.Ending p) = (d.kind ≡ Unowned) × (p.slot ≡ d.place) × EndStandsFor p (Did (Drop d.hand true) ∷ base) now
DropUpTo d asked base now drops.Returning = (d.kind ≡ Weak) × (now ≡ Did (Drop d.hand true) ∷ base)
DropUpTo d asked base now drops.Ended = ⊥

abbrev pub DropStandsFor : Dropping → (asked : Option (Step × Intent)) → (base now : List Note) → Type 0
DropStandsFor d asked base now = DropUpTo d asked base now d.at

-- what it says: it goes on, it is spelled, or the object in its slot dies
abbrev pub DropComes : HeapShape → Dropping → RefDropNext → (base now : List Note) → Type 0
DropComes shape d (drop_says.Step step intent) base now = DropStandsFor d (Some (step, intent)) base now
DropComes shape d (drop_says.Dies slot) base now = (d.kind ≡ Strong) × (slot ≡ d.place) × (now ≡ Did (Drop d.hand true) ∷ base)
DropComes shape d drop_says.Done base now = IsDrop shape d.kind d.place d.hand base now

-- the same reference's drop
pub record IsSameDrop (d new : Dropping) : Type 0 where
  pub layout : new.layout ≡ d.layout
  pub hand : new.hand ≡ d.hand
  pub kind : new.kind ≡ d.kind
  pub place : new.place ≡ d.place

pub record DropGoesOn (shape : HeapShape) (d : Dropping) (t : DropTurn) (asked : Option (Step × Intent)) (last : Option ℕ) (base now : List Note) : Type 0 where
  pub found : List Note
  pub same : IsSameDrop d t.after
  pub hands : hands_of found ≡ hands_of now
  pub finds : FindsEntry shape d.layout asked last t.after.event (with_act t.after.event now) found
  pub comes : DropComes shape t.after t.says base found

-- Each word that the drop of a reference may be given keeps what it stands for. An unowned reference came out of a field.
abbrev pub DropsGoOn : Type 0
DropsGoOn = (shape : HeapShape) (d : Dropping) (asked : Option (Step × Intent)) (last : Option ℕ) (base now : List Note) →
    (d.kind ≡ Unowned → CameOut shape d.hand d.place base) → DropStandsFor d asked base now → drop_takes d last → DropGoesOn shape d (drop_turn d last) asked last base now
