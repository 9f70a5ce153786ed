-- What a pass can have, and what a call leaves of it.
use Rattle.std.specs.Prelude.{ℕ, ◌≡◌, ◌≢◌, ◌==◌, Bool, false, List, [], ◌∷◌, Option, None, Some, ⊤}
use Rattle.arc_model.specs.declared.event.Act.{Act}
use Rattle.arc_model.specs.declared.event.Act.TheVariants as acts
use Rattle.arc_model.specs.declared.shape.Kind.{Kind}
use Rattle.arc_model.specs.declared.shape.Kind.TheVariants.{Weak}
use Rattle.arc_model.specs.Heaps.{Hand, Duty, Deinit, Vacating, Gone, Object, Heap}
use Rattle.arc_model.specs.Holders.{is_claimed_by}
use Rattle.arc_model.specs.Lookup.{spot, duty_of}
use Rattle.arc_model.specs.Own.{ends_hand}
use Rattle.arc_view.specs.declared.view.View.{View}
use Rattle.arc_view.specs.Holding.{At, HasClaim, heap_of}
use Rattle.arc_view_laws.specs.Hands.{Moves}

-- What a pass can have: a hand, which is a reference of a kind; a duty, by the slot of its object, or for the last one by its entry; a claimed entry.
pub data Possession : Type 0 where
  reference : ℕ → Kind → Possession
  duty : Duty → ℕ → Possession
  claim : ℕ → Possession

-- what names a duty to the object
abbrev pub named : Duty → Object → Option ℕ
named Deinit o = o.slot
named Vacating o = o.slot
named Gone o = o.entry

-- In this heap thread p has it, and it leads to the object. A claim leads to none.
abbrev pub Leads : ℕ → Heap → Possession → Object → Type 0
Leads p heap (reference k kind) o = (i : ℕ) × (spot (Hand p k) heap ≡ Some (record { place = i; kind = kind })) × At heap i o
Leads p heap (duty d n) o = (i : ℕ) × (duty_of p i heap ≡ Some d) × At heap i o × (named d o ≡ Some n)
Leads p heap (claim e) o = ⊥

-- the same of a pass, by its view
abbrev pub LeadsTo : View → Possession → Object → Type 0
LeadsTo v x o = Leads v.number (heap_of v) x o

-- the act spends it: gives the hand up or puts it into a cell, is what the duty is to do, gives the claimed entry to an object or back
abbrev pub spent : Possession → Act → Bool
spent (reference k kind) a = ends_hand k a
spent (duty Deinit n) (acts.Finish s last) = n == s
spent (duty Vacating n) (acts.Vacate s) = n == s
spent (duty Gone n) (acts.Gone e last) = n == e
spent (claim e) (acts.Side s n why) = n == e
spent (claim e) (acts.Back n) = n == e
spent _ _ = false

abbrev pub spends : Option Act → Possession → Bool
spends None x = false
spends (Some a) x = spent x a

-- q is what o was: the same object, of the same class, and with the entry that it had, if any
pub record IsSame (o q : Object) : Type 0 where
  pub id : q.id ≡ o.id
  pub class : q.class ≡ o.class
  pub entry : (e : ℕ) → o.entry ≡ Some e → q.entry ≡ Some e

-- so is what the possession leads to, and it is in the same slot; but from a weak reference it may have left it. Where the vacating is owed it got no entry.
abbrev pub IsStill : Possession → Object → Object → Type 0
IsStill (reference k Weak) o q = IsSame o q
IsStill (duty Vacating n) o q = IsSame o q × (q.slot ≡ o.slot) × (q.entry ≡ o.entry)
IsStill _ o q = IsSame o q × (q.slot ≡ o.slot)

-- What a pass has after a call that made this act, or none: all that it had, for the same object in the same slot, but what the act spends; and
-- no hand, duty or claim but those and what the act brings.
pub record StillHas (act : Option Act) (v w : View) : Type 0 where
  pub stays : (x : Possession) (o : Object) → LeadsTo v x o → spends act x ≡ false → (q : Object) × LeadsTo w x q × IsStill x o q
  pub claims : (e : ℕ) → HasClaim v e → spends act (claim e) ≡ false → HasClaim w e
  pub moves : Moves act v w

-- k is none of these numbers
abbrev pub IsNoneOf : ℕ → List ℕ → Type 0
IsNoneOf k [] = ⊤
IsNoneOf k (h ∷ hs) = (k ≢ h) × IsNoneOf k hs

-- the pass has no hand but these, no duty and no claim
pub record HasOnly (hands : List ℕ) (v : View) : Type 0 where
  pub others : (k : ℕ) → IsNoneOf k hands → spot (Hand v.number k) (heap_of v) ≡ None
  pub duties : (i : ℕ) → duty_of v.number i (heap_of v) ≡ None
  pub claims : (e : ℕ) → is_claimed_by v.number e (heap_of v) ≡ false
