-- What a load of an inline word tells of an object of which the pass has a strong hand, by whether it shows 1.
use Rattle.std.proofs.Common.{◌≡◌, ◌≢◌, ℕ, ◌<◌, ◌==◌, ◌&&◌, Bool, true, false, cond, Option, Some, None, refl, ap, ◌∙◌, subst, eq-eqb}
use Rattle.std.specs.Prelude.{is_none}
use Rattle.arc_model.specs.declared.event.Act.{Act}
use Rattle.arc_model.specs.declared.event.Act.TheVariants as acts
use Rattle.arc_model.specs.declared.event.Origin.TheVariants as origins
use Rattle.arc_model.specs.declared.shape.Kind.TheVariants as kinds
use Rattle.arc_model.specs.Shapes.{HeapShape}
use Rattle.arc_model.specs.Heaps.{Hand, Object}
use Rattle.arc_model.specs.Holders.{is_number}
use Rattle.arc_model.specs.Cells.{is_immortal}
use Rattle.arc_model.specs.History.{History, heap_after, next_hand, IsLegal}
use Rattle.arc_model.specs.Lookup.{Spot, spot}
use Rattle.arc_rule.specs.declared.layout.Place.{Place}
use Rattle.arc_rule.specs.declared.layout.Place.TheVariants.{Count}
use Rattle.arc_rule.specs.declared.step.Step.TheVariants.{Load}
use Rattle.arc_rule.specs.declared.step.Intent.TheVariants as intents
use Rattle.arc_rule.specs.Places.{extent_of, number}
use Rattle.arc_rule.specs.Shown.{Says, ShowsCounts, IsInline}
use Rattle.arc_rule.proofs.Places.{place_at-number}
use Rattle.arc_view.specs.declared.view.View.{View}
use Rattle.arc_view.specs.Holding.{At, heap_of}
use Rattle.arc_view.specs.Kinds.{act_of, loaded_act, kind_at, object_at, is_forever, first_of, when}
use Rattle.arc_view.proofs.Strongs.{slot_found}

-- where another word is shown, the object isn't immortal
pub mortal : (shape : HeapShape) (h : History) (i s w : ℕ) (o : Object) → IsLegal shape h → At (heap_after h) i o → o.slot ≡ Some s → Says shape (heap_after h) (Count s) w → w ≢ 1 → is_immortal shape o ≡ false
mortal shape h i s w o legal here slot says other = by (is_immortal shape o) (subst (λ m. ShowsCounts shape m w) (slot_found shape h i s o legal here slot) says)
  where
    by : (b : Bool) → IsInline b shape o w → b ≡ false
    by true one = absurd (other one)
    by false header = refl

first_only : (b : Bool) (a : Act) → first_of b a None ≡ cond b (Some a) None
first_only true a = refl
first_only false a = refl

when_only : (b : Bool) (a : Act) → when b a ≡ cond b (Some a) None
when_only true a = refl
when_only false a = refl

module _ (shape : HeapShape) (v : View) (k i s x : ℕ) (o : Object) (lt : s < shape.slots) (hand : spot (Hand v.number k) (heap_of v) ≡ Some (record { place = i; kind = kinds.Strong })) (here : At (heap_of v) i o) (slot : o.slot ≡ Some s) where
  abbrev at : Option Spot
  at = spot (Hand v.number k) (heap_of v)

  forever_is : is_forever (kind_at at) (object_at (heap_of v) at) (Count s) x ≡ (x == 1)
  forever_is =
      ap (λ (m : Option Spot). is_forever (kind_at m) (object_at (heap_of v) m) (Count s) x) hand
      ∙ (ap (λ (q : Option Object). is_forever kinds.Strong q (Count s) x) here ∙ ap (λ b. b && x == 1) (ap (λ m. is_number m s) slot ∙ eq-eqb s s refl))

  -- a copy
  pub copy_told : act_of shape v (Load (number (extent_of shape) (Count s))) (intents.Copy (origins.Hand k)) x ≡ cond (x == 1) (Some (acts.Copy (origins.Hand k) (next_hand v.number v.seen))) None
  copy_told =
      ap (λ (q : Place). loaded_act shape v q x (intents.Copy (origins.Hand k))) (place_at-number (extent_of shape) (Count s) lt)
      ∙ (ap (λ b. first_of b (acts.Copy (origins.Hand k) (next_hand v.number v.seen)) None) forever_is ∙ first_only (x == 1) (acts.Copy (origins.Hand k) (next_hand v.number v.seen)))

  -- a drop, by a pass that holds no access
  pub drop_told : v.working.access ≡ None → act_of shape v (Load (number (extent_of shape) (Count s))) (intents.Drop k) x ≡ cond (x == 1) (Some (acts.Drop k false)) None
  drop_told none =
      ap (λ (q : Place). loaded_act shape v q x (intents.Drop k)) (place_at-number (extent_of shape) (Count s) lt)
      ∙ ((λ j. when (is_none (none j) && forever_is j) (acts.Drop k false)) ∙ when_only (x == 1) (acts.Drop k false))
