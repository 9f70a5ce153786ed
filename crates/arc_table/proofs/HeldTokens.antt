-- Which tokens a pass has after a call.
use Rattle.std.proofs.Common.{◌≢◌, ℕ, ◌<◌, ◌+◌, false, refl, sym, subst, arith, ◌≡◌, Option, None, ◌∙◌}
use Rattle.arc_model.specs.declared.event.Act.TheVariants.{New}
use Rattle.arc_model.specs.Shapes.{HeapShape}
use Rattle.arc_rule.specs.Bits.{words_of}
use Rattle.arc_view.specs.declared.view.View.{View}
use Rattle.arc_view.specs.Holding.{heap_of}
use Rattle.arc_model.specs.Heaps.{Hand}
use Rattle.arc_model.specs.Lookup.{spot}
use Rattle.arc_model.specs.declared.shape.Kind.TheVariants.{Strong}
use Rattle.arc_model.proofs.Basics.{None≢Some}
use Rattle.arc_table.specs.declared.tokens.Strong.{Strong as Token}
use Rattle.arc_table.specs.declared.tokens.Dying.{Dying}
use Rattle.arc_table.specs.declared.tokens.Made.TheVariants as made
use Rattle.arc_table.specs.declared.tokens.Up.{Up}
use Rattle.arc_table.specs.declared.tokens.Up.TheVariants as ups
use Rattle.arc_table.specs.declared.tokens.Release.{Release}
use Rattle.arc_table.specs.declared.tokens.Release.TheVariants as releases
use Rattle.arc_model.specs.declared.event.Act.{Act}
use Rattle.arc_table.specs.Tokens.{hand_of, IsHeld, IsOwed, IsMade, made_act, IsUp, up_act, IsReleased, release_act}
use Rattle.arc_view_laws.specs.Having.{IsStrongOf, KeepsStrong, KeepsDying}
use Rattle.arc_table.specs.declared.tokens.Any.{Any}
use Rattle.arc_table.specs.declared.tokens.Any.TheVariants as anys
use Rattle.arc_table.specs.declared.tokens.Swapped.TheVariants as swapped
use Rattle.arc_table.specs.Cells.{IsNamed, MayPut, IsSwapped}
use Rattle.arc_table.proofs.Making.{next_one}
use Rattle.arc_table.specs.Calls.{GoesOn}
use Rattle.arc_table.specs.Possessions.{reference, spends, StillHas}
use Rattle.arc_table.proofs.Keeping.{keeps_hand}
use Rattle.arc_table.proofs.Spared.{up_spares, release_spares}
use Rattle.arc_table.proofs.TwoParts.{held_on}

-- the token of a new object
pub made_held : (shape : HeapShape) (class : ℕ) (v w : View) (t : Token) → IsMade shape class v w (made.Ok t) → IsHeld shape w t
made_held shape class v w t m = (m.2, (class, m.3))

-- the token of a copy
pub up_held : (shape : HeapShape) (of t : Token) (v w : View) → IsHeld shape v of → IsUp shape of v w (ups.Ok t) → IsHeld shape w t
up_held shape of t v w held u = (subst (λ s. s < shape.slots) (sym u.2) held.0, (held.1.0, subst (λ s. IsStrongOf w (hand_of t) s held.1.0) (sym u.2) (u.3 of.slot held.1.0 held.1.1)))

-- a token that the act of a call doesn't spend
pub still_held : (shape : HeapShape) (act : Option Act) (v w : View) (t : Token) → spends act (reference (hand_of t) Strong) ≡ false → StillHas act v w → IsHeld shape v t → IsHeld shape w t
still_held shape act v w t free has held = held_on shape v w t (keeps_hand act v w (hand_of t) free has) held

-- a token that a call keeps
pub kept_held : (shape : HeapShape) (v w : View) (t : Token) → KeepsStrong v w → IsHeld shape v t → IsHeld shape w t
kept_held shape v w t kept held = held_on shape v w t (kept (hand_of t)) held

-- a token other than the one that a release was given
pub rest_held : (shape : HeapShape) (held t : Token) (r : Release) (v w : View) → StillHas (release_act held r) v w → hand_of t ≢ hand_of held → IsHeld shape v t → IsHeld shape w t
rest_held shape held t r v w has other h = still_held shape (release_act held r) v w t ((release_spares held r).0 (hand_of t) Strong other) has h

-- the copy of a new object's reference is another hand
pub copy_other : (shape : HeapShape) (class : ℕ) (v u w : View) (t copy : Token) → GoesOn shape (made_act class (made.Ok t)) (words_of shape.slots + 3) v u → IsMade shape class v u (made.Ok t) → IsUp shape t u w (ups.Ok copy) → hand_of t ≢ hand_of copy
copy_other shape class v u w t copy call m up same =
    let next = next_one (New (hand_of t) class t.slot) (words_of shape.slots + 3) v u call.called.grew refl in
    let old = m.0 in
    let new = up.0 in absurd (omega (arith, next, old, new, same))

-- the duty that a last release leaves
pub last_owed : (shape : HeapShape) (held : Token) (d : Dying) (v w : View) → IsHeld shape v held → IsReleased shape held v w (releases.Last d) → IsOwed shape w d
last_owed shape held d v w h r = (subst (λ s. s < shape.slots) (sym r.0) h.0, (h.1.0, r.1 h.1.0 h.1.1))

-- a duty that a call keeps
pub kept_owed : (shape : HeapShape) (v w : View) (d : Dying) → KeepsDying v w → IsOwed shape v d → IsOwed shape w d
kept_owed shape v w d kept o = (o.0, (o.1.0, kept d.slot o.1.0 o.1.1))

-- the hand of a copy isn't the one that was copied
pub copy_apart : (shape : HeapShape) (of t : Token) (v w : View) → IsHeld shape v of → IsUp shape of v w (ups.Ok t) → hand_of t ≢ hand_of of
copy_apart shape of t v w (lt, (class, (i, o, hand, here, slot, is))) u e = None≢Some (record { place = i; kind = Strong }) (sym (subst (λ k. spot (Hand v.number k) (heap_of v) ≡ None) e u.1) ∙ hand)

-- the token that was copied, once the copy is given up
pub copied_held : (shape : HeapShape) (t copy : Token) (u : Up Token) (r : Release) (v w x : View) → IsHeld shape v t → IsUp shape t v w (ups.Ok copy) → StillHas (up_act t u) v w → StillHas (release_act copy r) w x → IsHeld shape x t
copied_held shape t copy u r v w x held up has released = rest_held shape copy t r w x released (λ e. copy_apart shape t copy v w held up (sym e)) (still_held shape (up_act t u) v w t ((up_spares t u).0 (hand_of t) Strong) has held)

-- a new object's reference may go into a global of its class
pub made_put : (shape : HeapShape) (class g : ℕ) (v w : View) (t : Token) → IsNamed shape g class → IsMade shape class v w (made.Ok t) → MayPut shape g w (anys.Strong t)
made_put shape class g v w t named m = (m.2, (class, m.3, named))

-- the token that came out of a global
pub swapped_held : (shape : HeapShape) (g : ℕ) (put : Any) (t : Token) (v w : View) → IsSwapped shape g put v w (swapped.Ok (anys.Strong t)) → IsHeld shape w t
swapped_held shape g put t v w s = let from = s.1 in (from.0, (from.1.0, from.1.1))
