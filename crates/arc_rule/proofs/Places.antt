-- What lies at each place.
use Rattle.std.proofs.Common.{◌≡◌, refl, rules}
use Rattle.arc_rule.specs.Extents.{Extent}
use Rattle.arc_rule.specs.Places.{IsPlace, number, place_at}
use Rattle.arc_rule.specs.declared.layout.Place.{Place}
use Rattle.arc_rule.specs.declared.layout.Place.TheVariants.{Zero, Global, Count, Isa, Next, Field, Link, Strong, Unowned, Weak, SlotBits, EntryBits}

-- the place with the number of a thing is that thing's
pub place_at-number : (l : Extent) (p : Place) → IsPlace l p → place_at l (number l p) ≡ p
unfolding place_at
place_at-number l Zero inside = refl
place_at-number l (Global g) inside = search rules
place_at-number l (Count s) inside = search rules
place_at-number l (Isa s) inside = search rules
place_at-number l (Next s) inside = search rules
place_at-number l (Field s f) inside = search rules
place_at-number l (Link e) inside = search rules
place_at-number l (Strong e) inside = search rules
place_at-number l (Unowned e) inside = search rules
place_at-number l (Weak e) inside = search rules
place_at-number l (SlotBits k) inside = search rules
place_at-number l (EntryBits k) inside = search rules
