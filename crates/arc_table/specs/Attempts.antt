-- What the plans of a retain and a release come to, by the word that counts.
use Rattle.std.specs.Prelude.{ℕ, ◌<◌, true, false, Option, None, Some, ⊤}
use Rattle.arc_model.specs.declared.event.Act.{Act}
use Rattle.arc_model.specs.declared.event.Act.TheVariants as acts
use Rattle.arc_model.specs.declared.event.Origin.TheVariants as origins
use Rattle.arc_model.specs.declared.shape.Kind.TheVariants.{Strong}
use Rattle.arc_model.specs.Shapes.{HeapShape}
use Rattle.arc_model.specs.History.{next_hand}
use Rattle.arc_rule.specs.declared.layout.Place.TheVariants as places
use Rattle.arc_rule.specs.Places.{extent_of, number}
use Rattle.arc_view.specs.declared.view.View.{View}
use Rattle.arc_plan.specs.declared.strong.StrongUpAnswer.{StrongUpAnswer}
use Rattle.arc_plan.specs.declared.strong.StrongUpAnswer.TheVariants as inline_ups
use Rattle.arc_plan.specs.declared.strong.StrongDownAnswer.{StrongDownAnswer}
use Rattle.arc_plan.specs.declared.strong.StrongDownAnswer.TheVariants as inline_downs
use Rattle.arc_side.specs.declared.entry_up.EntryUpAnswer.{EntryUpAnswer}
use Rattle.arc_side.specs.declared.entry_up.EntryUpAnswer.TheVariants as entry_ups
use Rattle.arc_side.specs.declared.entry_down.EntryDownAnswer.{EntryDownAnswer}
use Rattle.arc_side.specs.declared.entry_down.EntryDownAnswer.TheVariants as entry_downs
use Rattle.arc_table.specs.Causes.{ReadTwice, Loaded, LoadedAtCap, HasEntry, IsMortal}
use Rattle.arc_view_laws.specs.Having.{StandsAs}

-- The copy of hand k of an object in slot s by the inline word. A slow word names the object's entry, which no immortal object has.
abbrev pub IsRaisedInline : HeapShape → ℕ → ℕ → View → View → StrongUpAnswer → Type 0
IsRaisedInline shape k s v w inline_ups.Up = StandsAs v k w (next_hand v.number v.seen)
IsRaisedInline shape k s v w inline_ups.Dead = ⊥
IsRaisedInline shape k s v w inline_ups.AtCap = LoadedAtCap shape s v w
IsRaisedInline shape k s v w (inline_ups.Slow e) = StandsAs v k w k × HasEntry w k e × (e < shape.entries) × IsMortal shape v k s
IsRaisedInline shape k s v w (inline_ups.Again c) = ReadTwice (number (extent_of shape) (places.Count s)) c v w

-- its act, and how many steps it takes at most
abbrev pub inline_up_act : ℕ → View → StrongUpAnswer → Option Act
inline_up_act k v inline_ups.Up = Some (acts.Copy (origins.Hand k) (next_hand v.number v.seen))
inline_up_act k v _ = None

abbrev pub up_steps : StrongUpAnswer → ℕ
up_steps inline_ups.AtCap = 1
up_steps (inline_ups.Slow e) = 1
up_steps _ = 2

-- by the strong count of the object's entry e
abbrev pub IsRaisedInEntry : HeapShape → ℕ → ℕ → View → View → EntryUpAnswer → Type 0
IsRaisedInEntry shape k e v w entry_ups.Up = StandsAs v k w (next_hand v.number v.seen)
IsRaisedInEntry shape k e v w entry_ups.Zero = ⊥
IsRaisedInEntry shape k e v w entry_ups.CountFull = HasEntry w k e × Loaded (number (extent_of shape) (places.Strong e)) shape.caps.wide v w
IsRaisedInEntry shape k e v w (entry_ups.Again c) = HasEntry w k e × ReadTwice (number (extent_of shape) (places.Strong e)) c v w

abbrev pub entry_up_act : ℕ → View → EntryUpAnswer → Option Act
entry_up_act k v entry_ups.Up = Some (acts.Copy (origins.Hand k) (next_hand v.number v.seen))
entry_up_act k v entry_ups.CountFull = Some (acts.CountFull Strong (origins.Hand k))
entry_up_act k v _ = None

abbrev pub entry_up_steps : EntryUpAnswer → ℕ
entry_up_steps entry_ups.CountFull = 1
entry_up_steps _ = 2

-- the drop of hand k of an object in slot s by the inline word
abbrev pub IsLoweredInline : HeapShape → ℕ → ℕ → View → View → StrongDownAnswer → Type 0
IsLoweredInline shape k s v w inline_downs.More = ⊤
IsLoweredInline shape k s v w inline_downs.Last = IsMortal shape v k s
IsLoweredInline shape k s v w (inline_downs.Slow e) = StandsAs v k w k × HasEntry w k e × (e < shape.entries) × IsMortal shape v k s
IsLoweredInline shape k s v w (inline_downs.Again c) = ReadTwice (number (extent_of shape) (places.Count s)) c v w

abbrev pub inline_down_act : ℕ → StrongDownAnswer → Option Act
inline_down_act k inline_downs.More = Some (acts.Drop k false)
inline_down_act k inline_downs.Last = Some (acts.Drop k true)
inline_down_act k _ = None

abbrev pub down_steps : StrongDownAnswer → ℕ
down_steps (inline_downs.Slow e) = 1
down_steps _ = 2

-- by the strong count of the object's entry e
abbrev pub IsLoweredInEntry : HeapShape → ℕ → ℕ → View → View → EntryDownAnswer → Type 0
IsLoweredInEntry shape k e v w entry_downs.More = ⊤
IsLoweredInEntry shape k e v w entry_downs.Last = ⊤
IsLoweredInEntry shape k e v w (entry_downs.Again c) = HasEntry w k e × ReadTwice (number (extent_of shape) (places.Strong e)) c v w

abbrev pub entry_down_act : ℕ → EntryDownAnswer → Option Act
entry_down_act k entry_downs.More = Some (acts.Drop k false)
entry_down_act k entry_downs.Last = Some (acts.Drop k true)
entry_down_act k (entry_downs.Again c) = None
