-- What tokens stand for, and what attempts answer.
use Rattle.std.specs.Prelude.{ℕ, ◌≡◌, ◌+◌, ◌<◌, true, false, Option, None, Some, ⊤}
use Rattle.arc_model.specs.declared.event.ObjectName.{ObjectName}
use Rattle.arc_view.specs.Rule.{news}
use Rattle.arc_model.specs.declared.event.Act.{Act}
use Rattle.arc_model.specs.declared.event.Act.TheVariants as acts
use Rattle.arc_model.specs.declared.event.Origin.TheVariants as origins
use Rattle.arc_model.specs.References.{name_of}
use Rattle.arc_model.specs.declared.shape.Kind.TheVariants.{Strong}
use Rattle.arc_model.specs.Shapes.{HeapShape}
use Rattle.arc_model.specs.Heaps.{Object}
use Rattle.arc_model.specs.History.{next_hand}
use Rattle.arc_view.specs.declared.view.View.{View}
use Rattle.arc_view.specs.Holding.{At, HasHand, heap_of}
use Rattle.arc_view_laws.specs.Having.{last_hand, IsStrongOf, IsNewHand, StandsAs, IsDyingOf}
use Rattle.arc_plan.specs.declared.slots.NewObjectAnswer.{NewObjectAnswer}
use Rattle.arc_plan.specs.declared.slots.NewObjectAnswer.TheVariants.{Slot, NoSlot, Again}
use Rattle.arc_table.specs.declared.tokens.Strong.{Strong as Token}
use Rattle.arc_table.specs.declared.tokens.Made.{Made}
use Rattle.arc_table.specs.declared.tokens.Made.TheVariants as made
use Rattle.arc_table.specs.declared.tokens.Dying.{Dying}
use Rattle.arc_table.specs.declared.tokens.Up.{Up}
use Rattle.arc_table.specs.declared.tokens.Up.TheVariants as ups
use Rattle.arc_table.specs.declared.tokens.Release.{Release}
use Rattle.arc_table.specs.declared.tokens.Release.TheVariants as releases
use Rattle.arc_table.specs.declared.strong.Raised.{Raised}
use Rattle.arc_table.specs.declared.strong.Raised.TheVariants as raised
use Rattle.arc_table.specs.declared.strong.Lowered.{Lowered}
use Rattle.arc_table.specs.declared.strong.Lowered.TheVariants as lowered
use Rattle.arc_table.specs.Causes.{FoundTaken, LostSlot, IsMortal, LoadedAtCap, LoadedFull, ChangedCount}

-- the hand that a token is
abbrev pub hand_of : Token → ℕ
hand_of t = last_hand t.at.value.me.0

-- Slot: the pass's new hand is a strong one of the object that was made there. NoSlot: every slot was found taken. Again: a slot was found free, and
-- then taken.
abbrev pub IsCreated : HeapShape → ℕ → View → View → NewObjectAnswer → Type 0
IsCreated shape class v w (Slot s) = (s < shape.slots) × IsStrongOf w (next_hand v.number v.seen) s class
IsCreated shape class v w NoSlot = FoundTaken shape v w
IsCreated shape class v w (Again c) = LostSlot shape c v w

-- the act of the call
abbrev pub created_act : ℕ → View → NewObjectAnswer → Option Act
created_act class v (Slot s) = Some (acts.New (next_hand v.number v.seen) class s)
created_act class v NoSlot = Some acts.Full
created_act class v (Again c) = None

-- The same with the token: Ok is the pass's new hand, a strong one of the new object in its slot.
abbrev pub IsMade : HeapShape → ℕ → View → View → Made → Type 0
IsMade shape class v w (made.Ok t) = (hand_of t ≡ next_hand v.number v.seen) × IsNewHand v (hand_of t) × (t.slot < shape.slots) × IsStrongOf w (hand_of t) t.slot class
IsMade shape class v w made.NoSlot = FoundTaken shape v w
IsMade shape class v w (made.Again c) = LostSlot shape c v w

abbrev pub made_act : ℕ → Made → Option Act
made_act class (made.Ok t) = Some (acts.New (hand_of t) class t.slot)
made_act class made.NoSlot = Some acts.Full
made_act class (made.Again c) = None

-- the name of the pass's next object, of any class
abbrev pub IsNextName : View → ObjectName → Type 0
IsNextName v name = (name.thread ≡ v.number) × (name.number ≡ news v.number v.seen + 1)

-- a token of the pass: a strong hand of an object in its slot
abbrev pub IsHeld : HeapShape → View → Token → Type 0
IsHeld shape v t = (t.slot < shape.slots) × ((class : ℕ) × IsStrongOf v (hand_of t) t.slot class)

-- the name of the object of which a token is a strong hand
abbrev pub IsNameOf : View → Token → ObjectName → Type 0
IsNameOf v t name = (i : ℕ) × (o : Object) × HasHand v (hand_of t) Strong i × At (heap_of v) i o × (o.slot ≡ Some t.slot) × (name_of o ≡ name)

-- the duty of a pass: the deinit of an object in its slot
abbrev pub IsOwed : HeapShape → View → Dying → Type 0
IsOwed shape v d = (d.slot < shape.slots) × ((class : ℕ) × IsDyingOf v d.slot class)

-- One more strong reference, copied from hand k of an object in slot s. Up: the pass's new hand is what hand k was. AtCap, CountFull: the count that was
-- loaded in this call stands at its greatest. Again: the count has changed between two reads of this call.
abbrev pub IsRaised : HeapShape → ℕ → ℕ → View → View → Raised → Type 0
IsRaised shape k s v w raised.Up = StandsAs v k w (next_hand v.number v.seen)
IsRaised shape k s v w raised.AtCap = LoadedAtCap shape s v w
IsRaised shape k s v w raised.CountFull = LoadedFull shape k v w
IsRaised shape k s v w (raised.Again c) = ChangedCount shape k s c v w

abbrev pub raised_act : ℕ → View → Raised → Option Act
raised_act k v raised.Up = Some (acts.Copy (origins.Hand k) (next_hand v.number v.seen))
raised_act k v raised.AtCap = None
raised_act k v raised.CountFull = Some (acts.CountFull Strong (origins.Hand k))
raised_act k v (raised.Again c) = None

-- The same with the token: Ok is the pass's new hand, in the same slot.
abbrev pub IsUp : HeapShape → Token → View → View → Up Token → Type 0
IsUp shape of v w (ups.Ok t) = (hand_of t ≡ next_hand v.number v.seen) × IsNewHand v (hand_of t) × (t.slot ≡ of.slot) × StandsAs v (hand_of of) w (hand_of t)
IsUp shape of v w ups.AtCap = LoadedAtCap shape of.slot v w
IsUp shape of v w ups.CountFull = LoadedFull shape (hand_of of) v w
IsUp shape of v w (ups.Again c) = ChangedCount shape (hand_of of) of.slot c v w

abbrev pub up_act : Token → Up Token → Option Act
up_act of (ups.Ok t) = Some (acts.Copy (origins.Hand (hand_of of)) (hand_of t))
up_act of ups.AtCap = None
up_act of ups.CountFull = Some (acts.CountFull Strong (origins.Hand (hand_of of)))
up_act of (ups.Again c) = None

-- The drop of hand k, of an object in slot s. More: other strong references remain. Last: none, so that its class isn't immortal. Again: the count has
-- changed between two reads of this call.
abbrev pub IsLowered : HeapShape → ℕ → ℕ → View → View → Lowered → Type 0
IsLowered shape k s v w lowered.More = ⊤
IsLowered shape k s v w lowered.Last = IsMortal shape v k s
IsLowered shape k s v w (lowered.Again c) = ChangedCount shape k s c v w

abbrev pub lowered_act : ℕ → Lowered → Option Act
lowered_act k lowered.More = Some (acts.Drop k false)
lowered_act k lowered.Last = Some (acts.Drop k true)
lowered_act k (lowered.Again c) = None

-- The same with the tokens: Last gives the duty to deinit what the hand was of, Again gives the reference back.
abbrev pub IsReleased : HeapShape → Token → View → View → Release → Type 0
IsReleased shape held v w releases.More = ⊤
IsReleased shape held v w (releases.Last d) = (d.slot ≡ held.slot) × ((class : ℕ) → IsStrongOf v (hand_of held) held.slot class → IsDyingOf w d.slot class) × IsMortal shape v (hand_of held) held.slot
IsReleased shape held v w (releases.Again t c) = (t ≡ held) × ChangedCount shape (hand_of held) held.slot c v w

abbrev pub release_act : Token → Release → Option Act
release_act held releases.More = Some (acts.Drop (hand_of held) false)
release_act held (releases.Last d) = Some (acts.Drop (hand_of held) true)
release_act held (releases.Again t c) = None
