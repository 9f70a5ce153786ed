-- What ends an object: the tokens of its last duties, and what the calls answer.
use Rattle.std.specs.Prelude.{ℕ, ◌≡◌, ◌<◌, true, false, [], Option, None, Some, ⊤}
use Rattle.arc_model.specs.declared.event.Act.{Act}
use Rattle.arc_model.specs.declared.event.Act.TheVariants as acts
use Rattle.arc_model.specs.Shapes.{HeapShape, class_at}
use Rattle.arc_model.specs.Heaps.{Deinit, Vacating, Gone, Object}
use Rattle.arc_model.specs.Holders.{is_slot_taken}
use Rattle.arc_model.specs.Lookup.{duty_of}
use Rattle.arc_rule.specs.declared.step.Changed.{Changed}
use Rattle.arc_rule.specs.declared.layout.Place.TheVariants as places
use Rattle.arc_rule.specs.Places.{extent_of, number}
use Rattle.arc_view.specs.declared.view.View.{View}
use Rattle.arc_view.specs.Holding.{At, HasDuty, heap_of}
use Rattle.arc_plan.specs.declared.unowned.UnownedDownAnswer.{UnownedDownAnswer}
use Rattle.arc_plan.specs.declared.unowned.UnownedDownAnswer.TheVariants as inline_downs
use Rattle.arc_side.specs.declared.entry_down.EntryDownAnswer.{EntryDownAnswer}
use Rattle.arc_side.specs.declared.entry_down.EntryDownAnswer.TheVariants as entry_downs
use Rattle.arc_table.specs.declared.tokens.Dying.{Dying}
use Rattle.arc_table.specs.declared.ends.Freed.{Freed}
use Rattle.arc_table.specs.declared.ends.Vacated.{Vacated}
use Rattle.arc_table.specs.declared.ends.Finish.{Finish}
use Rattle.arc_table.specs.declared.ends.Finish.TheVariants as finishes
use Rattle.arc_table.specs.declared.ends.Ended.{Ended}
use Rattle.arc_table.specs.declared.ends.Ended.TheVariants as endings
use Rattle.arc_table.specs.Causes.{ReadTwice}
use Rattle.arc_view_laws.specs.Having.{IsDyingOf, IsFreedOf}

-- the class of the object in the slot, whose deinit the view owes, has no field
abbrev pub HasNoField : HeapShape → View → ℕ → Type 0
HasNoField shape v s = (class : ℕ) → IsDyingOf v s class → (class_at shape class).fields ≡ []

-- the view owes the deinit of the object in the slot, which has no field
abbrev pub IsBareDying : HeapShape → View → ℕ → Type 0
IsBareDying shape v s = (i : ℕ) × (o : Object) × At (heap_of v) i o × HasDuty v Deinit i × (o.slot ≡ Some s) × ((class_at shape o.class).fields ≡ [])

-- and has this entry
abbrev pub IsBareDyingWith : HeapShape → View → ℕ → ℕ → Type 0
IsBareDyingWith shape v s e = (i : ℕ) × (o : Object) × At (heap_of v) i o × HasDuty v Deinit i × (o.slot ≡ Some s) × ((class_at shape o.class).fields ≡ []) × (o.entry ≡ Some e)

-- the view owes the deinit of the object in the slot, which has the entry
abbrev pub IsDyingWith : View → ℕ → ℕ → Type 0
IsDyingWith v s e = (i : ℕ) × (o : Object) × At (heap_of v) i o × HasDuty v Deinit i × (o.slot ≡ Some s) × (o.entry ≡ Some e)

-- the duty of a pass: the vacating of a slot
abbrev pub IsFreed : HeapShape → View → Freed → Type 0
IsFreed shape v f = (f.slot < shape.slots) × IsFreedOf v f.slot f.entry

-- the view owes the end, in its entry, of an object that has left its slot
abbrev pub IsGoneOf : View → ℕ → Type 0
IsGoneOf v e = (i : ℕ) × (o : Object) × At (heap_of v) i o × HasDuty v Gone i × (o.entry ≡ Some e)

-- The word that changed counts the unowned references: the inline word of the slot, or that of the object's entry.
pub data ChangedUnowned (shape : HeapShape) (s : ℕ) (c : Changed) (v w : View) : Type 0 where
  inline : ReadTwice (number (extent_of shape) (places.Count s)) c v w → ChangedUnowned shape s c v w
  in_entry : (e : ℕ) → IsDyingWith w s e → ReadTwice (number (extent_of shape) (places.Unowned e)) c v w → ChangedUnowned shape s c v w

-- the end of the deinit of the object in slot s by the inline word; a slow word names the object's entry
abbrev pub IsFinishedInline : HeapShape → ℕ → View → View → UnownedDownAnswer → Type 0
IsFinishedInline shape s v w inline_downs.More = ⊤
IsFinishedInline shape s v w inline_downs.Last = IsFreedOf w s None
IsFinishedInline shape s v w (inline_downs.Slow e) = IsBareDyingWith shape w s e × (e < shape.entries)
IsFinishedInline shape s v w (inline_downs.Again c) = ReadTwice (number (extent_of shape) (places.Count s)) c v w

-- its act, and how many steps it takes at most
abbrev pub inline_finish_act : ℕ → UnownedDownAnswer → Option Act
inline_finish_act s inline_downs.More = Some (acts.Finish s false)
inline_finish_act s inline_downs.Last = Some (acts.Finish s true)
inline_finish_act s _ = None

abbrev pub finish_steps : UnownedDownAnswer → ℕ
finish_steps (inline_downs.Slow e) = 1
finish_steps _ = 2

-- by the unowned count of the object's entry e
abbrev pub IsFinishedInEntry : HeapShape → ℕ → ℕ → View → View → EntryDownAnswer → Type 0
IsFinishedInEntry shape s e v w entry_downs.More = ⊤
IsFinishedInEntry shape s e v w entry_downs.Last = IsFreedOf w s (Some e)
IsFinishedInEntry shape s e v w (entry_downs.Again c) = IsDyingWith w s e × ReadTwice (number (extent_of shape) (places.Unowned e)) c v w

abbrev pub entry_finish_act : ℕ → EntryDownAnswer → Option Act
entry_finish_act s entry_downs.More = Some (acts.Finish s false)
entry_finish_act s entry_downs.Last = Some (acts.Finish s true)
entry_finish_act s (entry_downs.Again c) = None

-- More: unowned references remain. Last: none, and the pass owes the vacating of the slot. Again: the deinit is owed still, and the count has changed
-- between two reads of this call.
abbrev pub IsEnded : HeapShape → ℕ → View → View → Ended → Type 0
IsEnded shape s v w endings.More = ⊤
IsEnded shape s v w (endings.Last entry) = IsFreedOf w s entry
IsEnded shape s v w (endings.Again c) = ChangedUnowned shape s c v w

abbrev pub ended_act : ℕ → Ended → Option Act
ended_act s endings.More = Some (acts.Finish s false)
ended_act s (endings.Last entry) = Some (acts.Finish s true)
ended_act s (endings.Again c) = None

-- The same with the tokens: Last gives the duty, Again gives the deinit back.
abbrev pub IsFinished : HeapShape → Dying → View → View → Finish → Type 0
IsFinished shape d v w finishes.More = ⊤
IsFinished shape d v w (finishes.Last f) = (f.slot ≡ d.slot) × IsFreed shape w f
IsFinished shape d v w (finishes.Again t c) = (t ≡ d) × ChangedUnowned shape d.slot c v w

abbrev pub finish_act : Dying → Finish → Option Act
finish_act d finishes.More = Some (acts.Finish d.slot false)
finish_act d (finishes.Last f) = Some (acts.Finish d.slot true)
finish_act d (finishes.Again t c) = None

-- The slot is in no object. To the object that was in it the pass owes nothing more, or where it has an entry its end there.
abbrev pub IsLeft : View → View → ℕ → Option ℕ → Type 0
IsLeft v w s None = (is_slot_taken s (heap_of w) ≡ false) × ((i : ℕ) (o : Object) → At (heap_of v) i o → HasDuty v Vacating i → o.slot ≡ Some s → duty_of w.number i (heap_of w) ≡ None)
IsLeft v w s (Some e) = (is_slot_taken s (heap_of w) ≡ false) × IsGoneOf w e

-- None where the object has no entry; else the token is its end in the entry.
abbrev pub IsVacated : Freed → View → View → Option Vacated → Type 0
IsVacated f v w None = (f.entry ≡ None) × IsLeft v w f.slot None
IsVacated f v w (Some t) = (f.entry ≡ Some t.entry) × IsLeft v w f.slot (Some t.entry)
