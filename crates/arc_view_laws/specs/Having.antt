-- What a pass has by its view: strong references, and what it owes to objects that end; and what of these it has still in another view.
use Rattle.std.specs.Prelude.{ℕ, ◌≡◌, ◌≢◌, ◌-◌, Option, None, Some}
use Rattle.arc_model.specs.declared.shape.Kind.TheVariants.{Strong}
use Rattle.arc_model.specs.Heaps.{Hand, Deinit, Vacating, Object}
use Rattle.arc_model.specs.History.{next_hand}
use Rattle.arc_model.specs.Lookup.{spot}
use Rattle.arc_view.specs.declared.view.View.{View}
use Rattle.arc_view.specs.Holding.{At, HasHand, HasDuty, heap_of}

-- the last hand that a pass got
abbrev pub last_hand : View → ℕ
last_hand v = next_hand v.number v.seen - 1

-- hand k of the view is a strong one of the object in the slot, which is of the class
abbrev pub IsStrongOf : View → ℕ → ℕ → ℕ → Type 0
IsStrongOf v k s class = (i : ℕ) × (o : Object) × HasHand v k Strong i × At (heap_of v) i o × (o.slot ≡ Some s) × (o.class ≡ class)

-- the pass didn't have the hand
abbrev pub IsNewHand : View → ℕ → Type 0
IsNewHand v k = spot (Hand v.number k) (heap_of v) ≡ None

-- what hand j was in v, hand k is in w: a strong reference to the same object in the same slot
abbrev pub StandsAs : View → ℕ → View → ℕ → Type 0
StandsAs v j w k = (s class : ℕ) → IsStrongOf v j s class → IsStrongOf w k s class

-- each strong reference that the pass had it has still, to the same object in the same slot
abbrev pub KeepsStrong : View → View → Type 0
KeepsStrong v w = (k : ℕ) → StandsAs v k w k

-- each but hand h
abbrev pub KeepsStrongBut : ℕ → View → View → Type 0
KeepsStrongBut h v w = (k : ℕ) → k ≢ h → StandsAs v k w k

-- the view owes the deinit of the object in the slot, which is of the class
abbrev pub IsDyingOf : View → ℕ → ℕ → Type 0
IsDyingOf v s class = (i : ℕ) × (o : Object) × At (heap_of v) i o × HasDuty v Deinit i × (o.slot ≡ Some s) × (o.class ≡ class)

-- each deinit that the pass owed it owes still, of the same object in the same slot
abbrev pub KeepsDying : View → View → Type 0
KeepsDying v w = (s class : ℕ) → IsDyingOf v s class → IsDyingOf w s class

-- each deinit that the pass owed, but that of the object in slot s, it owes still
abbrev pub KeepsDyingBut : ℕ → View → View → Type 0
KeepsDyingBut s v w = (t class : ℕ) → t ≢ s → IsDyingOf v t class → IsDyingOf w t class

-- the view owes the vacating of the object in the slot, which has this entry or none
abbrev pub IsFreedOf : View → ℕ → Option ℕ → Type 0
IsFreedOf v s entry = (i : ℕ) × (o : Object) × At (heap_of v) i o × HasDuty v Vacating i × (o.slot ≡ Some s) × (o.entry ≡ entry)

-- each vacating that the pass owed it owes still, of an object with the same entry or none
abbrev pub KeepsFreed : View → View → Type 0
KeepsFreed v w = (s : ℕ) (entry : Option ℕ) → IsFreedOf v s entry → IsFreedOf w s entry

-- each but that of slot s
abbrev pub KeepsFreedBut : ℕ → View → View → Type 0
KeepsFreedBut s v w = (t : ℕ) (entry : Option ℕ) → t ≢ s → IsFreedOf v t entry → IsFreedOf w t entry
